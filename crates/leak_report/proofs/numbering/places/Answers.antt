-- From the lemmas of SortLemmas.
use Rattle.std.proofs.Common.{[]}
use Rattle.leak_report.proofs.SortLemmas.{stands}
use Rattle.leak_report.proofs.numbering.places.Goals as goal

pub place-requires-clause-one : goal.place-requires-clause-one
place-requires-clause-one c = stands c.args.texts.now c.args.sorted.now c.loop-text.text-index (record { ref_ptr = (0, 0); now = [] }) c.requires.sort c.loop-text-test.true
