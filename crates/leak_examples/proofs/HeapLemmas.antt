-- Chunks of a heap one after another, and whether their blocks fit.
use Rattle.std.proofs.Common.{◌≡◌, ℕ, zero, suc, ◌+◌, ◌-◌, ◌*◌, ◌/◌, ◌%◌, ◌^◌, ◌<◌, ◌≤◌, bit_and, Bool, true, false, not, ◌||◌, List, [], ◌∷◌, ◌++◌, length, take, drop, map, Option, Some, refl, sym, ap, subst, ◌∙◌, append_assoc, arith, if◌then◌else◌}
use Rattle.std.specs.Prelude.{◌==◌}
use Rattle.std.specs.Int.{w64, to_le_bytes, from_le_bytes}
use Rattle.std.specs.List.{AllByRecursion}
use Rattle.std.proofs.lemmas.Bool.{eq-eqb, ne_eqb}
use Rattle.std.proofs.lemmas.List.{drop_at, length-append}
use Rattle.std.proofs.lemmas.Nat.{and_mask, and_mod, and_le_r, from_le_bytes-to_le_bytes_8}
use Rattle.leak_elf.specs.Fields.{number_at}
use Rattle.leak_elf.specs.Words.{IsRun}
use Rattle.leak_blocks.specs.declared.block.Block.{Block}
use Rattle.leak_chunks.specs.Fit.{chunk_size, fits_core, fits_of, is_heap_chunk_for, is_mapped, is_previous_in_use, least_chunk, misfits_of}
use Rattle.leak_scan.proofs.Blocks.{run_dropped}
use Rattle.leak_examples.specs.Heap.{Chunk, IsChunk, size_of, flag_of, size_word, header, heap_bytes, block_at, blocks_from, live_from}

-- ---- flags of a size word

flag_is : (t : Bool) → not (flag_of t == 0) ≡ t
flag_is true = refl
flag_is false = refl

small_flag : (t : Bool) → flag_of t ≤ 1
small_flag true = omega arith
small_flag false = omega arith

in_use_is : (word : ℕ) (t : Bool) → word % 2 ≡ flag_of t → is_previous_in_use word ≡ t
in_use_is word t e = ap (λ (n : ℕ). not (n == 0)) (and_mask word 1 ∙ e) ∙ flag_is t

not_mapped : (word : ℕ) → word % 4 < 2 → is_mapped word ≡ false
not_mapped word h =
    let below : bit_and word 2 ≤ 2 = and_le_r word 2 in
    let low : bit_and word 2 % 4 ≡ bit_and (word % 4) 2 = and_mod word 2 2 in
    let none : bit_and (word % 4) 2 ≡ 0 = few (word % 4) h in
    let zero_is : bit_and word 2 ≡ 0 = omega arith in
    ap (λ (n : ℕ). not (n == 0)) zero_is
  where
    few : (n : ℕ) → n < 2 → bit_and n 2 ≡ 0
    few zero h = refl
    few (suc zero) h = refl
    few (suc (suc n)) h = absurd (omega arith)

-- ---- words of bytes

bytes_long : (n : ℕ) → length (to_le_bytes w64 n) ≡ 8
bytes_long n = refl

-- the number of the second 8 bytes
second_is : (before word : ℕ) (rest : List ℕ) → word < 2 ^ 64 → number_at w64 (header before word ++ rest) 8 ≡ word
unfolding number_at
second_is before word rest h =
    ap (λ (l : List ℕ). from_le_bytes w64 (take 8 l))
    (ap (drop {A = ℕ} 8) (append_assoc (to_le_bytes w64 before) (to_le_bytes w64 word) rest) ∙ drop_at (to_le_bytes w64 before) (to_le_bytes w64 word ++ rest) 8 (bytes_long before))
    ∙ from_le_bytes-to_le_bytes_8 word h

-- ---- one chunk

even_size : (c : Chunk) → size_of c % 16 ≡ 0
even_size c = omega arith

arena_small : (t : Bool) → (if t then 4 else 0) ≤ 4
arena_small true = omega arith
arena_small false = omega arith

arena_even : (t : Bool) → (if t then 4 else 0) % 4 ≡ 0
arena_even true = refl
arena_even false = refl

word_small : (previous : Bool) (c : Chunk) → size_of c + 5 < 2 ^ 64 → size_word previous c < 2 ^ 64
word_small previous c h = let a = arena_small c.other_arena in let f = small_flag previous in omega arith

word_flag : (previous : Bool) (c : Chunk) → size_word previous c % 4 ≡ flag_of previous
word_flag previous c = let s = even_size c in let a = arena_even c.other_arena in let f = small_flag previous in omega arith

word_size : (previous : Bool) (c : Chunk) → chunk_size (size_word previous c) ≡ size_of c
word_size previous c = let s = even_size c in let a = arena_small c.other_arena in let e = arena_even c.other_arena in let f = small_flag previous in omega arith

heap_chunk : (least rests : ℕ) → rests ≤ 2 → ((least + 16 * rests == least) || (least + 16 * rests == least + 16) || (least + 16 * rests == least + 32)) ≡ true
heap_chunk least zero few = rw (eq-eqb (least + 16 * 0) least (omega arith)) refl
heap_chunk least (suc zero) few =
    rw (ne_eqb (least + 16 * 1) least (λ (e : least + 16 * 1 ≡ least). omega arith), eq-eqb (least + 16 * 1) (least + 16) (omega arith)) refl
heap_chunk least (suc (suc zero)) few =
    rw (ne_eqb (least + 16 * 2) least (λ (e : least + 16 * 2 ≡ least). omega arith), ne_eqb (least + 16 * 2) (least + 16) (λ (e : least + 16 * 2 ≡ least + 16). omega arith), eq-eqb (least + 16 * 2) (least + 32) (omega arith)) refl
heap_chunk least (suc (suc (suc n))) few = absurd (omega arith)

-- a block whose size word is that of its chunk fits if and only if the next size word says so
fits_by : (word_at : ℕ → Option ℕ) (b : Block) (word next : ℕ) (t : Bool) → b.start % 16 ≡ 0 → word_at (b.start - 8) ≡ Some word → is_mapped word ≡ false
    → is_heap_chunk_for b.size (chunk_size word) ≡ true → word_at (b.start + chunk_size word - 8) ≡ Some next → is_previous_in_use next ≡ t → fits_core word_at b ≡ t
unfolding fits_core
fits_by word_at b word next t aligned is heap fits after says = rw (eq-eqb (b.start % 16) 0 aligned, is, heap, fits, after) says

-- ---- chunks one after another

abbrev first_size : Bool → ℕ → List Chunk → ℕ
first_size previous top [] = top + flag_of previous
first_size previous top (c ∷ chunks) = size_word previous c

-- the size word that comes first says whether the chunk before is in use
first_flag : (previous : Bool) (top : ℕ) (chunks : List Chunk) → top % 16 ≡ 0 → is_previous_in_use (first_size previous top chunks) ≡ previous
first_flag previous top [] even = in_use_is (top + flag_of previous) previous (let f = small_flag previous in omega arith)
first_flag previous top (c ∷ chunks) even = in_use_is (size_word previous c) previous (let f = small_flag previous in let w = word_flag previous c in omega arith)

first_word : (word_at : ℕ → Option ℕ) (at top : ℕ) (previous : Bool) (chunks : List Chunk) → top + 1 < 2 ^ 64 → AllByRecursion IsChunk chunks → IsRun word_at at (heap_bytes previous top chunks)
    → word_at (at + 8) ≡ Some (first_size previous top chunks)
first_word word_at at top previous [] fits all run =
    run 1 (omega arith) ∙ ap Some (second_is 0 (top + flag_of previous) [] (let f = small_flag previous in omega arith))
first_word word_at at top previous (c ∷ chunks) fits all run =
    run 1 (omega arith) ∙ ap Some (second_is c.before (size_word previous c) (c.contents ++ heap_bytes c.in_use top chunks) (word_small previous c all.0.fits))

rest_run : (word_at : ℕ → Option ℕ) (at top : ℕ) (previous : Bool) (c : Chunk) (chunks : List Chunk) → IsChunk c → IsRun word_at at (heap_bytes previous top (c ∷ chunks))
    → IsRun word_at (at + size_of c) (heap_bytes c.in_use top chunks)
rest_run word_at at top previous c chunks is run =
    let s = even_size c in
    let n : ℕ = size_of c / 8 in
    let rest : List ℕ = heap_bytes c.in_use top chunks in
    let front : List ℕ = header c.before (size_word previous c) in
    let long : length (front ++ c.contents) ≡ 8 * n = let l = length-append front c.contents in let f = is.filled in omega arith in
    let whole : drop (8 * n) (front ++ (c.contents ++ rest)) ≡ rest = ap (drop {A = ℕ} (8 * n)) (sym (append_assoc front c.contents rest)) ∙ drop_at (front ++ c.contents) rest (8 * n) long in
    subst (λ (l : List ℕ). IsRun word_at (at + size_of c) l) whole (run_dropped word_at at (at + size_of c) n (front ++ (c.contents ++ rest)) run (omega arith))

chunk_fits : (word_at : ℕ → Option ℕ) (at top : ℕ) (previous : Bool) (c : Chunk) (chunks : List Chunk) → at % 16 ≡ 0 → top % 16 ≡ 0 → top + 1 < 2 ^ 64 → IsChunk c → AllByRecursion IsChunk chunks
    → IsRun word_at at (heap_bytes previous top (c ∷ chunks)) → fits_core word_at (block_at at c) ≡ c.in_use
chunk_fits word_at at top previous c chunks aligned even fits is all run =
    let s = even_size c in
    let w = word_flag previous c in
    let f = small_flag previous in
    let size = word_size previous c in
    let here : word_at (at + 16 - 8) ≡ Some (size_word previous c) = subst (λ (a : ℕ). word_at a ≡ Some (size_word previous c)) (omega arith) (first_word word_at at top previous (c ∷ chunks) fits (is, all) run) in
    let rest : IsRun word_at (at + size_of c) (heap_bytes c.in_use top chunks) = rest_run word_at at top previous c chunks is run in
    let next : word_at (at + 16 + chunk_size (size_word previous c) - 8) ≡ Some (first_size c.in_use top chunks) =
    subst (λ (a : ℕ). word_at a ≡ Some (first_size c.in_use top chunks)) (omega arith) (first_word word_at (at + size_of c) top c.in_use chunks fits all rest) in
    let heap : is_heap_chunk_for c.asked (chunk_size (size_word previous c)) ≡ true =
    subst (λ (n : ℕ). is_heap_chunk_for c.asked n ≡ true) (sym size) (heap_chunk (least_chunk c.asked) c.rests is.few) in
    fits_by word_at (block_at at c) (size_word previous c) (first_size c.in_use top chunks) c.in_use (omega arith) here (not_mapped (size_word previous c) (omega arith)) heap next (first_flag c.in_use top chunks even)

pub all_fit : (word_at : ℕ → Option ℕ) (at top : ℕ) (previous : Bool) (chunks : List Chunk) → at % 16 ≡ 0 → top % 16 ≡ 0 → top + 1 < 2 ^ 64 → AllByRecursion IsChunk chunks
    → IsRun word_at at (heap_bytes previous top chunks) → fits_of word_at (blocks_from at chunks) ≡ map (λ c. c.in_use) chunks
all_fit word_at at top previous [] aligned even fits all run = refl
all_fit word_at at top previous (c ∷ chunks) aligned even fits all run =
    let s = even_size c in
    ap (λ (t : Bool). t ∷ fits_of word_at (blocks_from (at + size_of c) chunks)) (chunk_fits word_at at top previous c chunks aligned even fits all.0 all.1 run)
    ∙ ap (λ (l : List Bool). c.in_use ∷ l) (all_fit word_at (at + size_of c) top c.in_use chunks (omega arith) even fits all.1 (rest_run word_at at top previous c chunks all.0 run))

pub no_misfit : (word_at : ℕ → Option ℕ) (at top : ℕ) (previous : Bool) (chunks : List Chunk) → at % 16 ≡ 0 → top % 16 ≡ 0 → top + 1 < 2 ^ 64 → AllByRecursion IsChunk chunks
    → IsRun word_at at (heap_bytes previous top chunks) → misfits_of word_at (live_from at chunks) ≡ []
no_misfit word_at at top previous [] aligned even fits all run = refl
no_misfit word_at at top previous (c ∷ chunks) aligned even fits all run =
    let s = even_size c in
    go c.in_use (chunk_fits word_at at top previous c chunks aligned even fits all.0 all.1 run)
    (no_misfit word_at (at + size_of c) top c.in_use chunks (omega arith) even fits all.1 (rest_run word_at at top previous c chunks all.0 run))
  where
    go : (t : Bool) → fits_core word_at (block_at at c) ≡ t → misfits_of word_at (live_from (at + size_of c) chunks) ≡ []
        → misfits_of word_at (if t then block_at at c ∷ live_from (at + size_of c) chunks else live_from (at + size_of c) chunks) ≡ []
    go true e rest = rw e rest
    go false e rest = rest
