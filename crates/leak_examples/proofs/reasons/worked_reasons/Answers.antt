-- Each row is computed, except the lines of its log.
use Rattle.std.proofs.Common.{◌≡◌, ℕ, ◌+◌, ◌<◌, ◌≤◌, inl, inr, refl, List, [], ◌∷◌, codes, None, arith}
use Rattle.std.specs.Fmt.{digits}
use Rattle.leak_elf.specs.Fields.{number_at}
use Rattle.leak_elf.specs.Headers.{headers, header_at}
use Rattle.leak_elf.specs.Refusals.{extent_fault, file_fault, header_fault, fault_of}
use Rattle.leak_elf.specs.Segments.{segments_of, note_parts_of, undumped_of}
use Rattle.leak_elf.specs.Words.{word_in, word_of, words_between}
use Rattle.leak_elf.specs.Sample.{zeros, file_header, program_header, note_entry}
use Rattle.leak_notes.specs.Entry.{entries_from}
use Rattle.leak_notes.specs.Sets.{sets_of}
use Rattle.leak_notes.specs.Threads.{entries, note_fault_of, registers_of, threads_of}
use Rattle.leak_blocks.specs.Live.{live_of, replay_of}
use Rattle.leak_blocks.specs.Small.{is_covered, small_spans_of}
use Rattle.leak_index.specs.Hits.{hits_of}
use Rattle.leak_roots.specs.Roots.{dead_places, freed_places, has_roots, kept_places, outside_places, root_places}
use Rattle.leak_scan.specs.Heads.{heads_of}
use Rattle.leak_scan.specs.Targets.{block_targets, targets_of}
use Rattle.leak_pool.specs.Marking.{graph_of}
use Rattle.leak_blocks.specs.declared.block.Block.{Block}
use Rattle.leak_roots.specs.Places.{AreRanges}
use Rattle.leak_why.specs.Asked.{IsAsked}
use Rattle.leak_why.specs.Text.{text_of as answer_of}
use Rattle.leak_examples.specs.Chains.{in_rbx, places, zero_registers}
use Rattle.leak_examples.specs.Searches.{core_of, two_core, two_log}
use Rattle.leak_examples.proofs.ChainTests.{answers, leaked, told}
use Rattle.leak_examples.proofs.Logs.{two_is, two_lines}
use Rattle.leak_examples.proofs.ReasonTests.{first_asked, none_asked, second_asked, tells_held, tells_lost}
use Rattle.leak_examples.proofs.reasons.worked_reasons.Goals as goal

abbrev first_block : Block
first_block = record { start = 0x10010; size = 8; line = 1; caller = (2, 9) }

abbrev second_block : Block
second_block = record { start = 0x10020; size = 8; line = 2; caller = (0, 0) }

-- the root words around both blocks
abbrev around : List (ℕ × ℕ)
around = (0x10000, 0x10010) ∷ (0x10018, 0x10020) ∷ []

ranges : AreRanges around
ranges = (record { some = omega arith; from_multiple = refl; to_multiple = refl }, ((let h : 0x10010 ≤ 0x10018 = omega arith in h), tt), (record { some = omega arith; from_multiple = refl; to_multiple = refl }, tt, tt))

asked_first : IsAsked (first_block ∷ second_block ∷ []) 0x10010 0
asked_first = record { inside = omega arith; is = λ d. inr refl }

asked_inside : IsAsked (first_block ∷ second_block ∷ []) 0x10011 0
asked_inside = record { inside = omega arith; is = λ d. inl ((let h : 0x10010 ≤ 0x10011 = omega arith in h), (let h : 0x10011 < 0x10010 + 8 = omega arith in h)) }

asked_last : IsAsked (first_block ∷ second_block ∷ []) 0x10027 1
asked_last = record { inside = omega arith; is = λ d. inl ((let h : 0x10020 ≤ 0x10027 = omega arith in h), (let h : 0x10027 < 0x10020 + 8 = omega arith in h)) }

asked_second : IsAsked (first_block ∷ second_block ∷ []) 0x10020 1
asked_second = record { inside = omega arith; is = λ d. inr refl }

leaked_first : answer_of two_log (live_of two_lines) (sets_of (entries (two_core 0 0x10020))) 0 None ≡ codes "asked 0x10010 8 1 a:[0x1]\nleaked\n"
unfolding digits number_at headers header_at extent_fault file_fault header_fault fault_of segments_of note_parts_of undumped_of word_in word_of words_between zeros file_header program_header note_entry entries_from note_fault_of registers_of threads_of live_of replay_of is_covered small_spans_of hits_of dead_places freed_places has_roots kept_places outside_places root_places heads_of block_targets targets_of graph_of core_of answer_of
leaked_first = refl

leaked_second : answer_of two_log (live_of two_lines) (sets_of (entries (two_core 0 0x10020))) 1 None ≡ codes "asked 0x10020 8 2 ?\nleaked\n"
unfolding digits number_at headers header_at extent_fault file_fault header_fault fault_of segments_of note_parts_of undumped_of word_in word_of words_between zeros file_header program_header note_entry entries_from note_fault_of registers_of threads_of live_of replay_of is_covered small_spans_of hits_of dead_places freed_places has_roots kept_places outside_places root_places heads_of block_targets targets_of graph_of core_of answer_of
leaked_second = refl

pub returns : goal.returns
unfolding digits number_at headers header_at extent_fault file_fault header_fault fault_of segments_of note_parts_of undumped_of word_in word_of words_between zeros file_header program_header note_entry entries_from note_fault_of registers_of threads_of live_of replay_of is_covered small_spans_of hits_of dead_places freed_places has_roots kept_places outside_places root_places heads_of block_targets targets_of graph_of core_of
returns c = record {
  by_memory = tells_held _ _ _ two_lines first_block second_block 0 (0 ∷ 1 ∷ []) (places around zero_registers) _ _ _
      (record { accepted = record { headers = refl; notes = refl }; is_log = two_is; blocks = refl; one = first_asked first_block second_block 0x10010 refl; asked = asked_first; reached = refl })
      refl (record { registers = refl; memory = refl; ranges = ranges; freed = refl; dead = refl }) refl (answers _ _ _ _ _ _ (0 ∷ 1 ∷ []) refl) (told _ _ _ _ _ _ _ refl);
  by_a_block = tells_held _ _ _ two_lines first_block second_block 1 (0 ∷ 1 ∷ []) (places around zero_registers) _ _ _
      (record { accepted = record { headers = refl; notes = refl }; is_log = two_is; blocks = refl; one = second_asked first_block second_block 0x10027 refl; asked = asked_last; reached = refl })
      refl (record { registers = refl; memory = refl; ranges = ranges; freed = refl; dead = refl }) refl (answers _ _ _ _ _ _ (0 ∷ 1 ∷ []) refl) (told _ _ _ _ _ _ _ refl);
  by_a_register = tells_held _ _ _ two_lines first_block second_block 0 (0 ∷ []) (places around (in_rbx 0x10010)) _ _ _
      (record { accepted = record { headers = refl; notes = refl }; is_log = two_is; blocks = refl; one = first_asked first_block second_block 0x10011 refl; asked = asked_inside; reached = refl })
      refl (record { registers = refl; memory = refl; ranges = ranges; freed = refl; dead = refl }) refl (answers _ _ _ _ _ _ (0 ∷ 0 ∷ []) refl) (told _ _ _ _ _ _ _ refl);
  lost = tells_lost _ _ _ two_lines first_block second_block 0 [] (places around zero_registers) _
      (record { accepted = record { headers = refl; notes = refl }; is_log = two_is; blocks = refl; one = first_asked first_block second_block 0x10010 refl; asked = asked_first; reached = refl })
      refl (record { registers = refl; memory = refl; ranges = ranges; freed = refl; dead = refl }) refl (leaked _ _ _ _ [] refl refl) leaked_first;
  lost_held = tells_lost _ _ _ two_lines first_block second_block 1 [] (places around zero_registers) _
      (record { accepted = record { headers = refl; notes = refl }; is_log = two_is; blocks = refl; one = second_asked first_block second_block 0x10020 refl; asked = asked_second; reached = refl })
      refl (record { registers = refl; memory = refl; ranges = ranges; freed = refl; dead = refl }) refl (leaked _ _ _ _ [] refl refl) leaked_second;
  no_block = (refl, record { headers = refl; notes = refl }, (two_lines, two_is, none_asked first_block second_block 0x10028 2 refl refl));
}
