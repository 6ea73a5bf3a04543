-- What marking comes to in one of two cores that are alike to it, it comes to in the other; and a core whose words outside
-- the blocks are let go is alike.
use Rattle.std.proofs.Common.{◌≡◌, ◌↔◌, ℕ, ◌≤◌, ◌⊎◌, inl, inr, true, false, List, ◌++◌, length, Option, Some, None, option_map, refl, sym, subst, ◌∙◌, arith}
use Rattle.leak_elf.specs.Refusals.{fault_of}
use Rattle.leak_elf.specs.Segments.{segments_of}
use Rattle.leak_elf.specs.Words.{word_of}
use Rattle.leak_mtrace.specs.Log.{IsLog}
use Rattle.leak_mtrace.specs.declared.line.Line.{Line}
use Rattle.leak_blocks.specs.Live.{live_of}
use Rattle.leak_index.specs.Leads.{Distances}
use Rattle.leak_sift.specs.Kept.{is_outside}
use Rattle.leak_sift.specs.Sifted.{sifted}
use Rattle.leak_roots.specs.declared.skip.Skip.{Skip}
use Rattle.leak_marks.specs.Partition.{Partitions}
use Rattle.leak_marks.specs.Reach.{Graph, Reach}
use Rattle.leak_pool.specs.Marking.{IsSet}
use Rattle.leak_search.specs.LeftOut.{left_out}
use Rattle.leak_search.specs.Search.{graph_of_one, index_of}
use Rattle.leak_search.specs.Searched.{MarksOne, claims_in}
use Rattle.leak_search.specs.declared.found.Searched.{Searched}
use Rattle.leak_alike.specs.Alike.{AreAlikeWords}
use Rattle.leak_alike.specs.AlikeToMark.{AreAlikeToMark, LeavesPointers, ReadsPointersAlone, pruned_core}
use Rattle.leak_alike.specs.SiftedCores.{CanBeSifted, rule_of, sifted_core}
use Rattle.leak_alike.proofs.AlikeCores.{words_back}
use Rattle.leak_alike.proofs.MarkedAlike.{HasSameMarks, graph_same, head_same, heads_same}
use Rattle.leak_alike.proofs.NowhereWords.{outside_like_zero}
use Rattle.leak_alike.proofs.OneHeads.{agree_but_words}
use Rattle.leak_alike.proofs.PrunedWords.{pruned_long, pruned_words}
use Rattle.leak_alike.proofs.SiftedLemmas.{outside_is}
use Rattle.leak_alike.proofs.SiftedWords.{behind}

-- ---- what is left out

nothing_left : (skip : Skip) (core other : List ℕ) (lines : List Line) → ReadsPointersAlone skip → left_out skip core (live_of lines) lines ≡ left_out skip other (live_of lines) lines
nothing_left skip core other lines alone = rw (alone.slack, alone.dead) refl

same_marks : (core other : List ℕ) (lines : List Line) (reading : Distances) (skip : Skip) → ReadsPointersAlone skip → AreAlikeToMark (index_of reading lines) core other
    → HasSameMarks reading lines skip core other
same_marks core other lines reading skip alone alike = record {
  but_words = alike.but_words;
  words = alike.words;
  left = nothing_left skip core other lines alone;
  headers = λ links. let no : false ≡ true = sym alone.links ∙ links in absurd (cc);
}

-- ---- marks

marks_alike : (core other log : List ℕ) (lines : List Line) (reading : Distances) (skip : Skip) (workers : ℕ) (searched : Searched) → ReadsPointersAlone skip
    → AreAlikeToMark (index_of reading lines) core other → MarksOne core log lines reading skip workers searched → MarksOne other log lines reading skip workers searched
marks_alike core other log lines reading skip workers searched alone alike marks =
    let same = same_marks core other lines reading skip alone alike in
    let graph : graph_of_one core reading skip lines ≡ graph_of_one other reading skip lines = graph_same reading lines skip core other same in
    record {
      few = marks.few;
      head = marks.head ∙ head_same reading lines skip core other same log;
      marked = subst (λ (g : Graph). IsSet searched.set.items (length (live_of lines)) (Reach g)) graph marks.marked;
      heads = marks.heads ∙ heads_same reading lines skip core other same searched.set.items;
      lists = marks.lists;
      claims = subst (λ (g : Graph). Partitions (claims_in searched) (Reach g)) graph marks.claims;
    }

to_mark_back : (core other : List ℕ) (lines : List Line) (reading : Distances) → AreAlikeToMark (index_of reading lines) core other → AreAlikeToMark (index_of reading lines) other core
to_mark_back core other lines reading alike = record {
  but_words = record {
    faults = sym alike.but_words.faults;
    note_faults = sym alike.but_words.note_faults;
    segments = sym alike.but_words.segments;
    registers = sym alike.but_words.registers;
    threads = sym alike.but_words.threads;
    random = sym alike.but_words.random;
  };
  words = λ a. words_back (index_of reading lines) (word_of core a) (word_of other a) (alike.words a);
}

pub marks_of_alike_are_one : (core other log : List ℕ) (lines : List Line) (reading : Distances) (skip : Skip) (workers : ℕ) (searched : Searched) → ReadsPointersAlone skip
    → AreAlikeToMark (index_of reading lines) core other
    → (MarksOne core log lines reading skip workers searched ↔ MarksOne other log lines reading skip workers searched)
marks_of_alike_are_one core other log lines reading skip workers searched alone alike = (
  marks_alike core other log lines reading skip workers searched alone alike,
  marks_alike other core log lines reading skip workers searched alone (to_mark_back core other lines reading alike),
)

-- ---- words that are let go

never_more : (lines : List Line) (keep : ℕ → ℕ) → LeavesPointers lines keep → (word : ℕ) → keep word ≤ word
never_more lines keep leaves word = go (leaves word)
  where
    go : (keep word ≡ word) ⊎ ((keep word ≡ 0) × (is_outside (live_of lines) word ≡ true)) → keep word ≤ word
    go (inl same) = omega (arith, same)
    go (inr none) = omega (arith, none.0)

module _ (keep : ℕ → ℕ) (log : List ℕ) (lines : List Line) (reading : Distances) (is : IsLog log lines) (leaves : LeavesPointers lines keep) where
  word_left : (word : ℕ) → AreAlikeWords (index_of reading lines) (Some word) (Some (keep word))
  word_left word = go (leaves word)
    where
      go : (keep word ≡ word) ⊎ ((keep word ≡ 0) × (is_outside (live_of lines) word ≡ true)) → AreAlikeWords (index_of reading lines) (Some word) (Some (keep word))
      go (inl same) = inl (sym same)
      go (inr none) =
          subst (λ (n : ℕ). AreAlikeWords (index_of reading lines) (Some word) (Some n)) (sym none.0)
          (outside_like_zero log lines reading word is (outside_is (live_of lines) word none.1))

  words_left : (o : Option ℕ) → AreAlikeWords (index_of reading lines) o (option_map keep o)
  words_left None = tt
  words_left (Some word) = word_left word

pub pruned_are_alike : (keep : ℕ → ℕ) (held rest log : List ℕ) (lines : List Line) (reading : Distances) (skip : Skip) → CanBeSifted held rest → fault_of (held ++ rest) ≡ None
    → IsLog log lines → LeavesPointers lines keep
    → AreAlikeToMark (index_of reading lines) (sifted_core (rule_of lines skip) held rest)
    (pruned_core keep held (sifted (rule_of lines skip) (segments_of held) (length held) rest) (length rest))
pruned_are_alike keep held rest log lines reading skip can accepted is leaves =
    let low = never_more lines keep leaves in
    let rule = rule_of lines skip in
    record {
      but_words = agree_but_words held (behind rule held rest) _ can.head (pruned_long keep low rule held rest);
      words = λ a. subst (λ (o : Option ℕ). AreAlikeWords (index_of reading lines) (word_of (sifted_core rule held rest) a) o)
          (sym (pruned_words keep low rule held rest a can accepted)) (words_left keep log lines reading is leaves (word_of (sifted_core rule held rest) a));
    }
