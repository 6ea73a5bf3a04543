-- Each row is computed, except the lines of its logs and the pages that differ.
use Rattle.std.proofs.Common.{refl, true, [], ◌∷◌, arith}
use Rattle.std.specs.Fmt.{digits}
use Rattle.leak_elf.specs.Fields.{number_at}
use Rattle.leak_elf.specs.Headers.{headers, header_at}
use Rattle.leak_elf.specs.Refusals.{extent_fault, file_fault, header_fault, fault_of}
use Rattle.leak_elf.specs.Segments.{segments_of, note_parts_of, undumped_of}
use Rattle.leak_elf.specs.Words.{word_in, word_of, words_between}
use Rattle.leak_elf.specs.Sample.{zeros, file_header, program_header, note_entry}
use Rattle.leak_notes.specs.Entry.{entries_from}
use Rattle.leak_notes.specs.Threads.{note_fault_of, registers_of, threads_of}
use Rattle.leak_blocks.specs.Live.{live_of, replay_of}
use Rattle.leak_blocks.specs.Small.{is_covered, small_spans_of}
use Rattle.leak_index.specs.Hits.{hits_of}
use Rattle.leak_roots.specs.Roots.{dead_places, freed_places, has_roots, kept_places, outside_places, root_places}
use Rattle.leak_scan.specs.Heads.{heads_of}
use Rattle.leak_scan.specs.Targets.{block_targets, block_words_on, targets_of}
use Rattle.leak_pool.specs.Marking.{graph_of}
use Rattle.leak_report.specs.Report.{text_of}
use Rattle.leak_report.specs.Totals.{rows_of}
use Rattle.leak_elf.specs.declared.segment.Segment.{Segment}
use Rattle.leak_later.specs.Differing.{reread_of}
use Rattle.leak_later.specs.Kept.{fresh_of, kept_of}
use Rattle.leak_search.specs.SearchTwo.{size_of}
use Rattle.leak_examples.specs.Searches.{core_of}
use Rattle.leak_examples.specs.TwoSearches.{found_again, kept_and_new, new_alone}
use Rattle.leak_examples.proofs.Logs.{caller_is, caller_lines, earlier_is, earlier_lines}
use Rattle.leak_examples.proofs.TwoTests.{finds_later, none_differ, one_differs}
use Rattle.leak_examples.proofs.searches.worked_pairs.Goals as goal

-- the segment of both cores
abbrev segment : Segment
segment = record { vaddr = 0x10000; memsz = 40; offset = 532; filesz = 40; writable = true }

pub returns : goal.returns
unfolding digits number_at headers header_at extent_fault file_fault header_fault fault_of segments_of note_parts_of undumped_of word_in word_of words_between zeros file_header program_header note_entry entries_from note_fault_of registers_of threads_of live_of replay_of is_covered small_spans_of hits_of dead_places freed_places has_roots kept_places outside_places root_places heads_of block_targets targets_of graph_of text_of rows_of core_of kept_of fresh_of reread_of block_words_on size_of
returns c = record {
  kept = finds_later _ earlier_lines caller_lines (0 ∷ []) (16 ∷ []) (0 ∷ 1 ∷ []) _ _ _ (record { core1 = record { headers = refl; notes = refl }; core2 = record { headers = refl; notes = refl }; log1 = earlier_is; log2 = caller_is; continued = refl; few_before = refl; few_now = refl; was = refl; differing = one_differs kept_and_new.core1 kept_and_new.core2 segment 16 0x10008 refl (omega arith) (omega arith) (omega arith) (omega arith) refl; is = refl; once = refl; others = refl; all_others = refl }) refl refl;
  lost = finds_later _ earlier_lines caller_lines [] [] (1 ∷ []) _ _ _ (record { core1 = record { headers = refl; notes = refl }; core2 = record { headers = refl; notes = refl }; log1 = earlier_is; log2 = caller_is; continued = refl; few_before = refl; few_now = refl; was = refl; differing = none_differ new_alone.core1; is = refl; once = refl; others = refl; all_others = refl }) refl refl;
  claimed = finds_later _ caller_lines caller_lines (0 ∷ []) (16 ∷ []) (0 ∷ 1 ∷ []) _ _ _ (record { core1 = record { headers = refl; notes = refl }; core2 = record { headers = refl; notes = refl }; log1 = caller_is; log2 = caller_is; continued = refl; few_before = refl; few_now = refl; was = refl; differing = one_differs found_again.core1 found_again.core2 segment 16 0x10008 refl (omega arith) (omega arith) (omega arith) (omega arith) refl; is = refl; once = refl; others = refl; all_others = refl }) refl refl;
}
