-- From the lemmas of AloneLemmas and EntryLemmas.
use Rattle.std.proofs.Common.{◌∷◌, [], ap, ◌∙◌}
use Rattle.leak_pool.proofs.AloneLemmas.{marks_more}
use Rattle.leak_why.specs.ReachedBlocks.{blocks_of}
use Rattle.leak_why.proofs.EntryLemmas.{blocks-append}
use Rattle.leak_why.proofs.FoundLemmas.{found_old, found_new}
use Rattle.leak_why.proofs.spreading.find.Goals as goal

pub returns-clause-marks : goal.returns-clause-marks
returns-clause-marks c =
    marks_more c.args.seen.now (blocks_of c.args.entries.now.items) (blocks_of c.push.new.self.items) c.args.entry.block c.requires.block c.if-seen-entry.false
    (ap blocks_of c.in_ok-push.ensures.items ∙ blocks-append c.args.entries.now.items (c.args.entry ∷ [])) c.requires.marks

pub returns-clause-done : goal.returns-clause-done
returns-clause-done c = found_new c.args.entry c.args.entries.now.items c.push.new.self.items c.in_ok-push.ensures.items

pub returns-then-seen-entry-clause-done : goal.returns-then-seen-entry-clause-done
returns-then-seen-entry-clause-done c = found_old c.args.entry c.args.entries.now.items (c.requires.marks.only c.args.entry.block c.if-seen-entry.true)
