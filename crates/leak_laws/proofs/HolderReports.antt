-- Which texts have a line in a report on who holds the memory, and what the lines within none hold.
use Rattle.leak_blocks.specs.Live.{live_of}
use Rattle.leak_blocks.proofs.DisjointLemmas.{live_disjoint}
use Rattle.leak_pool.specs.Marking.{graph_of}
use Rattle.leak_search.specs.Search.{graph_of_one}
use Rattle.leak_holder_search.specs.Since.{counted_of}
use Rattle.leak_laws.specs.HolderLines.{AloneAreWithinNone, HoldersHaveLines, LinesAreOfMarked, OutermostHoldMarked}
use Rattle.leak_laws.specs.HolderMeaning.{LinesAreSaid}
use Rattle.leak_laws.proofs.HolderTables.{rows_of_report}
use Rattle.leak_laws.proofs.LineMeaning.{lines_said}
use Rattle.leak_laws.proofs.LineHolders.{lines_alone, lines_are, lines_of_marked, outermost_hold}

pub holders_have_lines : HoldersHaveLines
unfolding graph_of
holders_have_lines core log since reading skip found f text =
    lines_are (graph_of_one core reading skip f.lines).first (graph_of_one core reading skip f.lines).targets log (live_of f.lines) f.texts f.numbers f.set (counted_of since (live_of f.lines)) f.rows
    (rows_of_report core log since reading skip found f) f.numbered text

pub lines_are_of_marked : LinesAreOfMarked
unfolding graph_of
lines_are_of_marked core log since reading skip found f =
    lines_of_marked (graph_of_one core reading skip f.lines).first (graph_of_one core reading skip f.lines).targets log (live_of f.lines) f.texts f.numbers f.set (counted_of since (live_of f.lines)) f.rows
    (rows_of_report core log since reading skip found f) f.numbered

pub alone_are_within_none : AloneAreWithinNone
unfolding graph_of
alone_are_within_none core log since reading skip found f =
    lines_alone (graph_of_one core reading skip f.lines).first (graph_of_one core reading skip f.lines).targets log (live_of f.lines) f.texts f.numbers f.set (counted_of since (live_of f.lines)) f.rows
    (rows_of_report core log since reading skip found f) f.numbered

pub outermost_hold_marked : OutermostHoldMarked
unfolding graph_of
outermost_hold_marked core log since reading skip found f block =
    outermost_hold (graph_of_one core reading skip f.lines).first (graph_of_one core reading skip f.lines).targets log (live_of f.lines) f.texts f.numbers f.set (counted_of since (live_of f.lines)) f.rows
    (rows_of_report core log since reading skip found f) f.numbered block

pub lines_are_said : LinesAreSaid
unfolding graph_of
lines_are_said core log since reading skip found f =
    lines_said (graph_of_one core reading skip f.lines).first (graph_of_one core reading skip f.lines).targets log (live_of f.lines) f.texts f.numbers f.set (counted_of since (live_of f.lines)) f.rows
    (rows_of_report core log since reading skip found f) f.numbered (live_disjoint f.lines)
