-- Each row is computed, but for the lines of its log.
use Rattle.std.proofs.Common.{refl}
use Rattle.std.specs.Fmt.{digits}
use Rattle.leak_elf.specs.Fields.{number_at}
use Rattle.leak_elf.specs.Headers.{headers, header_at}
use Rattle.leak_elf.specs.Refusals.{extent_fault, file_fault, header_fault, fault_of}
use Rattle.leak_elf.specs.Segments.{segments_of, note_parts_of, undumped_of}
use Rattle.leak_elf.specs.Words.{word_in, word_of, words_between}
use Rattle.leak_elf.specs.Sample.{zeros, file_header, program_header, note_entry}
use Rattle.leak_notes.specs.Entry.{entries_from}
use Rattle.leak_notes.specs.Threads.{note_fault_of, registers_of, threads_of}
use Rattle.leak_blocks.specs.Live.{live_of, replay_of}
use Rattle.leak_blocks.specs.Small.{is_covered, small_block_spans, small_spans_of}
use Rattle.leak_index.specs.Hits.{hits_of}
use Rattle.leak_roots.specs.Roots.{dead_places, freed_places, has_roots, kept_places, outside_places, root_places}
use Rattle.leak_scan.specs.Heads.{heads_of}
use Rattle.leak_scan.specs.Targets.{block_targets, targets_of}
use Rattle.leak_pool.specs.Marking.{graph_of}
use Rattle.leak_report.specs.Report.{text_of}
use Rattle.leak_report.specs.Totals.{rows_of}
use Rattle.leak_examples.specs.Searches.{core_of}
use Rattle.leak_examples.proofs.BoundLogs.{mapped_is, mapped_lines, small_is, small_lines}
use Rattle.leak_examples.proofs.SearchTests.{finds}
use Rattle.leak_examples.proofs.searches.worked_bounds.Goals as goal

pub returns : goal.returns
unfolding digits number_at headers header_at extent_fault file_fault header_fault fault_of segments_of note_parts_of undumped_of word_in word_of words_between zeros file_header program_header note_entry entries_from note_fault_of registers_of threads_of live_of replay_of is_covered small_spans_of small_block_spans hits_of dead_places freed_places has_roots kept_places outside_places root_places heads_of block_targets targets_of graph_of text_of rows_of core_of
returns c = record {
  first_address = refl;
  last_address = refl;
  past_the_end = refl;
  first_of_a_mapped_one = refl;
  last_of_a_mapped_one = refl;
  moved = refl;
  moved_and_mapped = refl;
  of_blocks = refl;
  of_mapped_blocks = refl;
  small = finds _ small_lines _ _ _ (record { headers = refl; notes = refl }) small_is refl refl refl refl refl;
  mapped = finds _ mapped_lines _ _ _ (record { headers = refl; notes = refl }) mapped_is refl refl refl refl refl;
}
