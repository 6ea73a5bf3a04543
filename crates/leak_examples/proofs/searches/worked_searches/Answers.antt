-- Each row is computed, except the lines of its log.
use Rattle.std.proofs.Common.{refl}
use Rattle.std.specs.Fmt.{digits}
use Rattle.leak_elf.specs.Fields.{number_at}
use Rattle.leak_elf.specs.Headers.{headers, header_at}
use Rattle.leak_elf.specs.Refusals.{extent_fault, file_fault, header_fault, fault_of}
use Rattle.leak_elf.specs.Segments.{segments_of, note_parts_of, undumped_of}
use Rattle.leak_elf.specs.Words.{word_in, word_of, words_between}
use Rattle.leak_elf.specs.Sample.{zeros, file_header, program_header, note_entry}
use Rattle.leak_notes.specs.Entry.{entries_from}
use Rattle.leak_notes.specs.Threads.{note_fault_of, registers_of, threads_of}
use Rattle.leak_blocks.specs.Live.{live_of, replay_of}
use Rattle.leak_blocks.specs.Small.{is_covered, small_spans_of}
use Rattle.leak_index.specs.Hits.{hits_of}
use Rattle.leak_roots.specs.Roots.{dead_places, freed_places, has_roots, kept_places, outside_places, root_places}
use Rattle.leak_scan.specs.Heads.{heads_of}
use Rattle.leak_scan.specs.Targets.{block_targets, targets_of}
use Rattle.leak_pool.specs.Marking.{graph_of}
use Rattle.leak_report.specs.Report.{text_of}
use Rattle.leak_report.specs.Totals.{rows_of}
use Rattle.leak_examples.specs.Searches.{core_of}
use Rattle.leak_examples.proofs.Logs.{freed_is, freed_lines, two_is, two_lines}
use Rattle.leak_examples.proofs.SearchTests.{finds}
use Rattle.leak_examples.proofs.searches.worked_searches.Goals as goal

pub returns : goal.returns
unfolding digits number_at headers header_at extent_fault file_fault header_fault fault_of segments_of note_parts_of undumped_of word_in word_of words_between zeros file_header program_header note_entry entries_from note_fault_of registers_of threads_of live_of replay_of is_covered small_spans_of hits_of dead_places freed_places has_roots kept_places outside_places root_places heads_of block_targets targets_of graph_of text_of rows_of core_of
returns c = record {
  held = finds _ two_lines _ _ _ (record { headers = refl; notes = refl }) two_is refl refl refl refl refl;
  lost = finds _ two_lines _ _ _ (record { headers = refl; notes = refl }) two_is refl refl refl refl refl;
  second = finds _ two_lines _ _ _ (record { headers = refl; notes = refl }) two_is refl refl refl refl refl;
  freed = finds _ freed_lines _ _ _ (record { headers = refl; notes = refl }) freed_is refl refl refl refl refl;
  freed_left_out = finds _ freed_lines _ _ _ (record { headers = refl; notes = refl }) freed_is refl refl refl refl refl;
}
