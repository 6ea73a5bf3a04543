-- Each row is computed, except the lines of its log.
use Rattle.std.proofs.Common.{ℕ, ◌<◌, inr, refl, List, [], ◌∷◌, codes, lit<, arith}
use Rattle.std.specs.List.{Contains}
use Rattle.std.specs.List.Sorted.{IsStrictlySortedBy}
use Rattle.std.proofs.lemmas.List.Elements.{All-nil, All-cons}
use Rattle.std.specs.Fmt.{digits}
use Rattle.leak_elf.specs.Fields.{number_at}
use Rattle.leak_elf.specs.Headers.{headers, header_at}
use Rattle.leak_elf.specs.Refusals.{extent_fault, file_fault, header_fault, fault_of}
use Rattle.leak_elf.specs.Segments.{segments_of, note_parts_of, undumped_of}
use Rattle.leak_elf.specs.Words.{word_in, word_of, words_between}
use Rattle.leak_elf.specs.Sample.{zeros, file_header, program_header, note_entry}
use Rattle.leak_notes.specs.Entry.{entries_from}
use Rattle.leak_notes.specs.Threads.{note_fault_of, registers_of, threads_of}
use Rattle.leak_blocks.specs.Live.{live_of, replay_of}
use Rattle.leak_blocks.specs.Small.{is_covered, small_spans_of}
use Rattle.leak_index.specs.Hits.{hits_of}
use Rattle.leak_roots.specs.Roots.{dead_places, freed_places, has_roots, kept_places, outside_places, root_places}
use Rattle.leak_scan.specs.Heads.{heads_of}
use Rattle.leak_scan.specs.Targets.{block_targets, targets_of}
use Rattle.leak_pool.specs.Marking.{graph_of}
use Rattle.leak_why.specs.Asked.{IsAsked}
use Rattle.leak_report.specs.Numbered.{AreTexts}
use Rattle.leak_holder_search.specs.Held.{held_text}
use Rattle.leak_holder_search.specs.Text.{holders_text}
use Rattle.leak_examples.specs.Searches.{core_of}
use Rattle.leak_examples.specs.Holding.{caller_log}
use Rattle.leak_examples.proofs.Logs.{caller_is, caller_lines}
use Rattle.leak_examples.proofs.HoldingTests.{finds_held, finds_holders, finds_holding}
use Rattle.leak_examples.proofs.holders.worked_holders.Goals as goal

abbrev texts : List (List ℕ)
texts = codes "a:[0x1]" ∷ codes "b:[0x2]" ∷ []

abbrev numbers : List ℕ
numbers = 0 ∷ 1 ∷ []

numbered : AreTexts caller_log (live_of caller_lines) texts numbers
unfolding IsStrictlySortedBy live_of
numbered = record {
  ascending = ((refl, tt), (tt, tt));
  each = All-cons (Contains texts) (codes "a:[0x1]") (codes "b:[0x2]" ∷ []) (0, lit< tt, refl) (All-cons (Contains texts) (codes "b:[0x2]") [] (1, lit< tt, refl) (All-nil (Contains texts)));
  below = All-cons (λ n. n < 2) 0 (1 ∷ []) (lit< tt) (All-cons (λ n. n < 2) 1 [] (lit< tt) (All-nil (λ n. n < 2)));
  same = refl;
}

asked_first : IsAsked (live_of caller_lines) 0x10010 0
unfolding live_of
asked_first = record { inside = omega arith; is = λ d. inr refl }

asked_second : IsAsked (live_of caller_lines) 0x10020 1
unfolding live_of
asked_second = record { inside = omega arith; is = λ d. inr refl }

pub returns : goal.returns
unfolding digits number_at headers header_at extent_fault file_fault header_fault fault_of segments_of note_parts_of undumped_of word_in word_of words_between zeros file_header program_header note_entry entries_from note_fault_of registers_of threads_of live_of replay_of is_covered small_spans_of hits_of dead_places freed_places has_roots kept_places outside_places root_places heads_of block_targets targets_of graph_of core_of holders_text held_text
returns c = record {
  chain = finds_holders _ _ _ caller_lines (0 ∷ 1 ∷ []) texts numbers ([] ∷ (0 ∷ []) ∷ []) _ (record { accepted = record { headers = refl; notes = refl }; is_log = caller_is; continued = refl; few = refl; reached = refl; numbered = numbered; each = refl; many = refl }) refl;
  held_twice = finds_holders _ _ _ caller_lines (0 ∷ 1 ∷ []) texts numbers ((1 ∷ []) ∷ (0 ∷ []) ∷ []) _ (record { accepted = record { headers = refl; notes = refl }; is_log = caller_is; continued = refl; few = refl; reached = refl; numbered = numbered; each = refl; many = refl }) refl;
  lost = finds_holders _ _ _ caller_lines [] texts numbers ([] ∷ [] ∷ []) _ (record { accepted = record { headers = refl; notes = refl }; is_log = caller_is; continued = refl; few = refl; reached = refl; numbered = numbered; each = refl; many = refl }) refl;
  since = finds_holders _ _ _ caller_lines (0 ∷ 1 ∷ []) texts numbers ([] ∷ (0 ∷ []) ∷ []) _ (record { accepted = record { headers = refl; notes = refl }; is_log = caller_is; continued = refl; few = refl; reached = refl; numbered = numbered; each = refl; many = refl }) refl;
  held = finds_held _ _ caller_lines (0 ∷ 1 ∷ []) texts numbers ([] ∷ (0 ∷ []) ∷ []) _ 0 _ [] _ (record { accepted = record { headers = refl; notes = refl }; is_log = caller_is; continued = refl; few = refl; reached = refl; numbered = numbered; each = refl; many = refl }) asked_first refl refl refl;
  holding = finds_holding _ _ caller_lines (0 ∷ 1 ∷ []) texts numbers ([] ∷ (0 ∷ []) ∷ []) _ 1 _ _ (record { accepted = record { headers = refl; notes = refl }; is_log = caller_is; continued = refl; few = refl; reached = refl; numbered = numbered; each = refl; many = refl }) asked_second refl;
  held_alone = finds_held _ _ caller_lines (0 ∷ 1 ∷ []) texts numbers ((1 ∷ []) ∷ (0 ∷ []) ∷ []) _ 0 _ (1 ∷ []) _ (record { accepted = record { headers = refl; notes = refl }; is_log = caller_is; continued = refl; few = refl; reached = refl; numbered = numbered; each = refl; many = refl }) asked_first refl refl refl;
  held_lost = finds_held _ _ caller_lines [] texts numbers ([] ∷ [] ∷ []) _ 0 _ [] _ (record { accepted = record { headers = refl; notes = refl }; is_log = caller_is; continued = refl; few = refl; reached = refl; numbered = numbered; each = refl; many = refl }) asked_first refl refl refl;
}
