-- The listed distances.
use Rattle.std.proofs.Common.{rules, sym, ◌∙◌, ◌==◌, take, arith}
use Rattle.std.proofs.lemmas.Grind.{common_steps}
use Rattle.std.proofs.lemmas.Iterator.{YieldsList-from_slice}
use Rattle.std.proofs.lemmas.Iterator.Search.{any_from_yields_List}
use Rattle.leak_index.proofs.Listed.{listed_allows}
use Rattle.leak_index.proofs.reading.Reading.allows.Goals as goal
use borrow.Author.Tests.{tests}

pub returns : goal.returns
returns c =
    any_from_yields_List (λ d. d == c.args.distance) _ _ c.any.result c.any.ensures.ran (YieldsList-from_slice (take c.args.self.now.count c.args.self.now.values) (grind (arith, common_steps))) (λ x b q k. search (rules, tests))
    ∙ sym (listed_allows c.args.self.now c.args.distance c.if-self.false c.if-distance-eq0.false)
