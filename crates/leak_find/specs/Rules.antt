-- The rules of a search, by the options of a run.
use Rattle.leak_request.specs.declared.options.Options.{Options}
use Rattle.leak_search.specs.declared.rules.Rules.{Rules}

-- those that the options ask for
abbrev pub rules_in : Options → Rules
rules_in o = record { reading = o.reading; skip = o.skip; other_heap = o.other_heap }
