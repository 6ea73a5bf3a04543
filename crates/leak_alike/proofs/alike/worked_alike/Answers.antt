-- Words are computed; the cores have two of them.
use Rattle.std.proofs.Common.{◌≡◌, ◌⊎◌, ℕ, zero, suc, ◌+◌, ◌-◌, ◌%◌, ◌==◌, ◌<◌, ◌≤◌, inl, inr, Bool, true, false, ◌&&◌, cond, List, [], ◌∷◌, get_or, Option, Some, None, option_map, refl, sym, ap, subst, subst₂, ◌∙◌, eqb-true, leb-true, arith}
use Rattle.std.specs.Prelude.{if◌then◌else◌, nat_le}
use Rattle.std.specs.Int.{w64}
use Rattle.std.specs.Option.{option_map_or}
use Rattle.std.proofs.lemmas.Bool.{and_parts, cases_eq}
use Rattle.leak_lemmas.proofs.Lists.{no_cons}
use Rattle.leak_elf.specs.Fields.{number_at}
use Rattle.leak_elf.specs.Headers.{header_at, headers}
use Rattle.leak_elf.specs.Refusals.{extent_fault, fault_of, file_fault, header_fault}
use Rattle.leak_elf.specs.Sample.{file_header, front, note_entry, program_header, sample, zeros}
use Rattle.leak_elf.specs.Segments.{note_parts_of, segments_of}
use Rattle.leak_elf.specs.Words.{word_in, word_of}
use Rattle.leak_elf.specs.declared.segment.Segment.{Segment}
use Rattle.leak_notes.specs.Entry.{entries_from}
use Rattle.leak_notes.specs.Stacks.{random_in, random_of, threads_in}
use Rattle.leak_notes.specs.Threads.{note_fault_of, registers_of}
use Rattle.leak_blocks.specs.declared.block.Block.{Block}
use Rattle.leak_index.specs.Hits.{hits_of}
use Rattle.leak_chunks.specs.Fit.{chunk_size, is_heap_chunk_for}
use Rattle.leak_chunks.specs.FreeLinks.{has_least_chunk, has_start, is_least_chunk_for, next_header}
use Rattle.leak_roots.specs.Skipped.{usual_skip}
use Rattle.leak_alike.specs.Alike.{AreAlikeCores, AreAlikeWords, IsAsked, size_word, next_size_word, header_word, record_word, frame_word}
use Rattle.leak_alike.specs.AlikeRows.{block, core_of, next_block, one_block, without_links}
use Rattle.leak_alike.proofs.alike.worked_alike.Goals as goal

-- ---- the words of such a core

abbrev memory : Segment
memory = record { vaddr = 0x10000; memsz = 4096; offset = 4096; filesz = 16; writable = true }

in_memory : (file : List ℕ) (a : ℕ) → (a ≡ 0x10000 → ⊥) → (a ≡ 0x10008 → ⊥) → word_in file (memory ∷ []) a ≡ None
unfolding word_in
in_memory file a first second =
    go (a % 8 == 0) (nat_le 0x10000 a && nat_le (a + 8) 0x10010) (eqb-true (a % 8) 0)
    (λ e. let parts = and_parts (nat_le 0x10000 a) (nat_le (a + 8) 0x10010) e in (leb-true 0x10000 a parts.0, leb-true (a + 8) 0x10010 parts.1))
  where
    go : (t u : Bool) → (t ≡ true → a % 8 ≡ 0) → (u ≡ true → (0x10000 ≤ a) × (a + 8 ≤ 0x10010))
        → (if t then option_map (λ (s : Segment). number_at w64 file (s.offset + (a - s.vaddr))) (cond u (Some memory) None) else None) ≡ None
    go false u aligned inside = refl
    go true false aligned inside = refl
    go true true aligned inside = let e = aligned refl in let both = inside refl in absurd (omega (arith, e, both.0, both.1))

segments_7 : segments_of (core_of 7 0x21) ≡ memory ∷ []
unfolding core_of number_at headers header_at segments_of zeros file_header program_header note_entry front sample
segments_7 = refl

segments_8 : segments_of (core_of 8 0x21) ≡ memory ∷ []
unfolding core_of number_at headers header_at segments_of zeros file_header program_header note_entry front sample
segments_8 = refl

no_other : (core : List ℕ) → segments_of core ≡ memory ∷ [] → (a : ℕ) → (a ≡ 0x10000 → ⊥) → (a ≡ 0x10008 → ⊥) → word_of core a ≡ None
unfolding word_of
no_other core are a first second = ap (λ (segments : List Segment). word_in core segments a) are ∙ in_memory core a first second

record AreWords : Type 0 where
  first_7 : word_of (core_of 7 0x21) 0x10000 ≡ Some 7
  first_8 : word_of (core_of 8 0x21) 0x10000 ≡ Some 8
  first_pointer : word_of (core_of 0x10010 0x21) 0x10000 ≡ Some 0x10010
  size_7 : word_of (core_of 7 0x21) 0x10008 ≡ Some 0x21
  size_8 : word_of (core_of 8 0x21) 0x10008 ≡ Some 0x21
  size_other : word_of (core_of 7 0x31) 0x10008 ≡ Some 0x31
  size_fit : word_of (core_of 7 0x41) 0x10008 ≡ Some 0x41
  size_large : word_of (core_of 7 0x51) 0x10008 ≡ Some 0x51

words : AreWords
unfolding core_of number_at headers header_at segments_of word_in word_of zeros file_header program_header note_entry front sample
words = record { first_7 = refl; first_8 = refl; first_pointer = refl; size_7 = refl; size_8 = refl; size_other = refl; size_fit = refl; size_large = refl }

-- ---- those that are alike

is_block : (k : ℕ) (b : Block) → k < 1 → get_or (block ∷ []) k b ≡ b → block ≡ b
is_block zero b low e = e
is_block (suc k) b low e = absurd (omega arith)

none_7 : hits_of one_block 7 ≡ []
unfolding hits_of
none_7 = refl

none_8 : hits_of one_block 8 ≡ []
unfolding hits_of
none_8 = refl

of_words : (x v y w : Option ℕ) → x ≡ v → y ≡ w → AreAlikeWords one_block v w → AreAlikeWords one_block x y
of_words x v y w e f alike = subst₂ (λ (p q : Option ℕ). AreAlikeWords one_block p q) (sym e) (sym f) alike

words_alike : (a : ℕ) → AreAlikeWords one_block (word_of (core_of 7 0x21) a) (word_of (core_of 8 0x21) a)
words_alike a = go (cases_eq a 0x10000) (cases_eq a 0x10008)
  where
    Alike : ℕ → Type 0
    Alike p = AreAlikeWords one_block (word_of (core_of 7 0x21) p) (word_of (core_of 8 0x21) p)

    go : (a ≡ 0x10000) ⊎ (a ≡ 0x10000 → ⊥) → (a ≡ 0x10008) ⊎ (a ≡ 0x10008 → ⊥) → Alike a
    go (inl e) other = subst Alike (sym e) (of_words _ _ _ _ words.first_7 words.first_8 (inr (none_7, none_8)))
    go (inr first) (inl e) = subst Alike (sym e) (of_words _ _ _ _ words.size_7 words.size_8 (inl refl))
    go (inr first) (inr second) = of_words _ _ _ _ (no_other (core_of 7 0x21) segments_7 a first second) (no_other (core_of 8 0x21) segments_8 a first second) tt

no_next : word_of (core_of 7 0x21) 0x10028 ≡ word_of (core_of 8 0x21) 0x10028
no_next =
    no_other (core_of 7 0x21) segments_7 0x10028 (λ e. omega (arith, e)) (λ e. omega (arith, e))
    ∙ sym (no_other (core_of 8 0x21) segments_8 0x10028 (λ e. omega (arith, e)) (λ e. omega (arith, e)))

asked : (a : ℕ) → IsAsked (core_of 7 0x21) (block ∷ []) usual_skip a → word_of (core_of 7 0x21) a ≡ word_of (core_of 8 0x21) a
asked a (size_word b has) =
    subst (λ (c : Block). word_of (core_of 7 0x21) (c.start - 8) ≡ word_of (core_of 8 0x21) (c.start - 8)) (is_block has.0 b has.1 has.2)
    (words.size_7 ∙ sym words.size_8)
asked a (next_size_word b word has e heap fits) =
    let same = is_block has.0 b has.1 has.2 in
    let here : word_of (core_of 7 0x21) 0x10008 ≡ Some word = subst (λ (c : Block). word_of (core_of 7 0x21) (c.start - 8) ≡ Some word) (sym same) e in
    let both : Some 0x21 ≡ Some word = sym words.size_7 ∙ here in
    let size : 0x21 ≡ word = cc in
    subst₂ (λ (c : Block) (w : ℕ). word_of (core_of 7 0x21) (c.start + chunk_size w - 8) ≡ word_of (core_of 8 0x21) (c.start + chunk_size w - 8)) same size no_next
asked a (header_word b d links has least free at) = let no : false ≡ true = links in absurd cc
asked a (record_word t p dead has low high) = let no : false ≡ true = dead in absurd cc
asked a (frame_word t k p dead has e low high) = let no : false ≡ true = dead in absurd cc

cores : AreAlikeCores one_block usual_skip (core_of 7 0x21) (core_of 8 0x21)
unfolding core_of number_at headers header_at extent_fault file_fault header_fault fault_of note_parts_of entries_from note_fault_of registers_of threads_in random_in random_of zeros file_header program_header note_entry front sample
cores = record {
  faults = refl;
  note_faults = refl;
  segments = segments_7 ∙ sym segments_8;
  registers = refl;
  threads = refl;
  random = refl;
  words = words_alike;
  asked = asked;
}

-- ---- words for which rules ask, and one for which they don't

fits : IsAsked (core_of 7 0x41) (block ∷ []) usual_skip 0x10048
fits = next_size_word block 0x41 (0, omega arith, refl) words.size_fit refl refl

too_large : (a : ℕ) → a ≡ 0x10058 → IsAsked (core_of 7 0x51) (block ∷ []) usual_skip a → ⊥
too_large a is (size_word b has) =
    let start : b.start ≡ 0x10010 = ap (λ (c : Block). c.start) (sym (is_block has.0 b has.1 has.2)) in omega (arith, is, start)
too_large a is (next_size_word b word has e heap fits) =
    let same = is_block has.0 b has.1 has.2 in
    let here : word_of (core_of 7 0x51) 0x10008 ≡ Some word = subst (λ (c : Block). word_of (core_of 7 0x51) (c.start - 8) ≡ Some word) (sym same) e in
    let both : Some 0x51 ≡ Some word = sym words.size_large ∙ here in
    let size : 0x51 ≡ word = cc in
    let no : false ≡ true = subst₂ (λ (c : Block) (w : ℕ). is_heap_chunk_for c.size (chunk_size w) ≡ true) (sym same) (sym size) fits in cc
too_large a is (header_word b d links has least free at) = let no : false ≡ true = links in cc
too_large a is (record_word t p dead has low high) = let no : false ≡ true = dead in cc
too_large a is (frame_word t k p dead has e low high) = let no : false ≡ true = dead in cc

link : IsAsked (core_of 7 0x21) (block ∷ []) without_links 0x10030
link =
    let least : has_least_chunk (word_of (core_of 7 0x21)) block ≡ true = ap (λ (o : Option ℕ). option_map_or (is_least_chunk_for 24) o false) words.size_7 in
    header_word block 16 refl (0, omega arith, refl) least refl (1, omega arith, refl)

no_word : word_of (core_of 7 0x21) 0x10028 ≡ None
no_word = no_other (core_of 7 0x21) segments_7 0x10028 (λ e. omega (arith, e)) (λ e. omega (arith, e))

is_either : (k : ℕ) (b : Block) → k < 2 → get_or (block ∷ next_block ∷ []) k b ≡ b → (block ≡ b) ⊎ (next_block ≡ b)
is_either zero b low e = inl e
is_either (suc zero) b low e = inr e
is_either (suc (suc k)) b low e = absurd (omega arith)

no_link : (a : ℕ) → a ≡ 0x10030 → IsAsked (core_of 7 0x21) (block ∷ next_block ∷ []) without_links a → ⊥
no_link a is (size_word b has) = go (is_either has.0 b has.1 has.2)
  where
    go : (block ≡ b) ⊎ (next_block ≡ b) → ⊥
    go (inl same) = let start : b.start ≡ 0x10010 = ap (λ (c : Block). c.start) (sym same) in omega (arith, is, start)
    go (inr same) = let start : b.start ≡ 0x10030 = ap (λ (c : Block). c.start) (sym same) in omega (arith, is, start)
no_link a is (next_size_word b word has e heap fits) = go (is_either has.0 b has.1 has.2)
  where
    go : (block ≡ b) ⊎ (next_block ≡ b) → ⊥
    go (inl same) =
        let here : word_of (core_of 7 0x21) 0x10008 ≡ Some word = subst (λ (c : Block). word_of (core_of 7 0x21) (c.start - 8) ≡ Some word) (sym same) e in
        let both : Some 0x21 ≡ Some word = sym words.size_7 ∙ here in
        let size : 0x21 ≡ word = cc in
        let there : 0x10028 ≡ 0x10030 = subst₂ (λ (c : Block) (w : ℕ). c.start + chunk_size w - 8 ≡ 0x10030) (sym same) (sym size) is in omega (arith, there)
    go (inr same) =
        let here : word_of (core_of 7 0x21) 0x10028 ≡ Some word = subst (λ (c : Block). word_of (core_of 7 0x21) (c.start - 8) ≡ Some word) (sym same) e in
        let no : None ≡ Some word = sym no_word ∙ here in cc
no_link a is (header_word b d links has least free at) = go (is_either has.0 b has.1 has.2)
  where
    go : (block ≡ b) ⊎ (next_block ≡ b) → ⊥
    go (inl same) =
        let no : true ≡ false = subst (λ (c : Block). has_start (block ∷ next_block ∷ []) (next_header c + 16) ≡ false) (sym same) free in cc
    go (inr same) =
        let here : has_least_chunk (word_of (core_of 7 0x21)) next_block ≡ true = subst (λ (c : Block). has_least_chunk (word_of (core_of 7 0x21)) c ≡ true) (sym same) least in
        let no : false ≡ true = sym (ap (λ (o : Option ℕ). option_map_or (is_least_chunk_for 24) o false) no_word) ∙ here in cc
no_link a is (record_word t p dead has low high) = let no : false ≡ true = dead in cc
no_link a is (frame_word t k p dead has e low high) = let no : false ≡ true = dead in cc

-- ---- those that aren't

leads : (word other n : ℕ) → (word ≡ other → ⊥) → hits_of one_block other ≡ n ∷ [] → AreAlikeWords one_block (Some word) (Some other) → ⊥
leads word other n apart hits (inl e) = apart e
leads word other n apart hits (inr none) = no_cons (sym hits ∙ none.1)

pub returns : goal.returns
unfolding hits_of
returns c = record {
  equal = inl refl;
  nowhere = inr (refl, refl);
  to_the_end = leads 0x1000f 0x10028 0 (λ e. omega (arith, e)) refl;
  another_place = leads 0x10010 0x10018 0 (λ e. omega (arith, e)) refl;
  no_word = λ alike. alike;
  cores = cores;
  pointer = λ alike. leads 7 0x10010 0 (λ e. omega (arith, e)) refl (of_words _ _ _ _ (sym words.first_7) (sym words.first_pointer) (alike.words 0x10000));
  fits = fits;
  too_large = λ asked. too_large 0x10058 refl asked;
  link = link;
  no_link = λ asked. no_link 0x10030 refl asked;
  another_size = λ alike.
      let both : ◌≡◌ {A = Option ℕ} (Some 0x21) (Some 0x31) = sym words.size_7 ∙ alike.asked 0x10008 (size_word block (0, omega arith, refl)) ∙ words.size_other in
      let sizes : ◌≡◌ {A = ℕ} 0x21 0x31 = cc in omega arith;
}
