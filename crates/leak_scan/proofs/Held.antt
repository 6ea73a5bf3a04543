-- Entries of blocks, as targets and blocks are gone over one by one.
use Rattle.std.proofs.Common.{◌≡◌, ℕ, zero, suc, ◌+◌, ◌<◌, Bool, true, false, not, ◌&&◌, ◌||◌, ◌==◌, refl, sym, ap, ◌∙◌, List, [], ◌∷◌, length, map, take, drop, ◌++◌, get_or, Option, arith, add-one}
use Rattle.std.proofs.lemmas.List.{get_or-map}
use Rattle.std.proofs.lemmas.List.FromFn.{length-map-range_with_len}
use Rattle.std.proofs.Math.Seq.{drop-cons, take-append_seam}
use Rattle.std.specs.List.{list_any, enumerate_from, range_with_len}
use Rattle.leak_blocks.specs.declared.block.Block.{Block}
use Rattle.leak_index.specs.Hits.{Index}
use Rattle.leak_scan.specs.Targets.{block_targets}
use Rattle.leak_scan.specs.Heads.{leads_to, holds, is_head, heads_of}
use Rattle.leak_scan.specs.Dropped.{after_targets, after_blocks}

-- an entry, by another default
same_entry : (entries : List Bool) (i : ℕ) (d e : Bool) → i < length entries → get_or entries i d ≡ get_or entries i e
same_entry [] i d e l = absurd (omega arith)
same_entry (x ∷ entries) zero d e l = refl
same_entry (x ∷ entries) (suc i) d e l = same_entry entries i d e (omega arith)

-- a block in the set holds nothing
pub marked_block : (word_at : ℕ → Option ℕ) (index : Index) (marks entries : List Bool) (n : ℕ) (c : Block) (rest : List Block) (b : ℕ) → n < length marks → get_or marks n false ≡ true
    → after_blocks word_at index marks entries (n + 1) rest b ≡ after_blocks word_at index marks entries n (c ∷ rest) b
marked_block word_at index marks entries n c rest b inside is =
    go (get_or entries b false) (get_or marks n true) (not (n == b)) (leads_to word_at index c b) (list_any (holds word_at index marks b) (enumerate_from (n + 1) rest)) (same_entry marks n true false inside ∙ is)
  where
    go : (entry marked other leads later : Bool) → marked ≡ true → (entry && not later) ≡ (entry && not ((not marked && other && leads) || later))
    go entry true other leads later e = refl
    go entry false other leads later e = cc

-- one outside drops its targets, except itself
pub leaked_block : (word_at : ℕ → Option ℕ) (index : Index) (marks entries now : List Bool) (n : ℕ) (c : Block) (rest : List Block) (b : ℕ) → n < length marks → get_or marks n false ≡ false
    → get_or now b false ≡ after_targets entries n (block_targets word_at index c) b
    → after_blocks word_at index marks now (n + 1) rest b ≡ after_blocks word_at index marks entries n (c ∷ rest) b
leaked_block word_at index marks entries now n c rest b inside is dropped =
    go (get_or now b false) (get_or entries b false) (get_or marks n true) (n == b) (leads_to word_at index c b) (list_any (holds word_at index marks b) (enumerate_from (n + 1) rest)) (same_entry marks n true false inside ∙ is) dropped
  where
    both : (entry held later : Bool) → ((entry && not held) && not later) ≡ (entry && not (held || later))
    both true true later = refl
    both true false later = refl
    both false held later = refl

    go : (after entry marked is_own leads later : Bool) → marked ≡ false → after ≡ (entry && not (not is_own && leads))
        → (after && not later) ≡ (entry && not ((not marked && not is_own && leads) || later))
    go after entry true is_own leads later m e = cc
    go after entry false is_own leads later m e = ap (λ (a : Bool). a && not later) e ∙ both entry (not is_own && leads) later

-- the next block is the first of those that are left
pub next_block : (blocks : List Block) (n : ℕ) (none : Block) → n < length blocks → drop n blocks ≡ get_or blocks n none ∷ drop (n + 1) blocks
next_block blocks n none inside = drop-cons blocks n none inside ∙ ap (λ (m : ℕ). get_or blocks n none ∷ drop m blocks) (sym (add-one n))

-- what a slice of a vector is written back to
pub written : (now before : List Bool) (n : ℕ) → n ≡ length now → take n (now ++ before) ≡ now
written now before n e = ap (λ (m : ℕ). take m (now ++ before)) e ∙ take-append_seam now before

-- entries that agree with a function are those that it maps to
listed : (entries : List Bool) (f : ℕ → Bool) (k : ℕ) → ((b : ℕ) → b < length entries → get_or entries b false ≡ f (k + b)) → entries ≡ map f (range_with_len k (length entries))
listed [] f k h = refl
listed (x ∷ xs) f k h =
    ap (λ (y : Bool). y ∷ xs) (h 0 (omega arith) ∙ ap f (omega arith))
    ∙ ap (λ (ys : List Bool). f k ∷ ys) (listed xs f (k + 1) (λ b l. h (suc b) (omega (arith, l)) ∙ ap f (omega arith)))

-- what is left of the blocks outside the set, when all blocks were gone over, is the heads
pub heads_left : (word_at : ℕ → Option ℕ) (index : Index) (marks entries : List Bool) → length marks ≡ length index.blocks → length entries ≡ length marks
    → ((b : ℕ) → get_or entries b false ≡ after_blocks word_at index marks (map not marks) 0 index.blocks b)
    → entries ≡ heads_of word_at index marks
unfolding heads_of
heads_left word_at index marks entries one_each same left =
    let long : length entries ≡ length index.blocks = same ∙ one_each in
    listed entries (is_head word_at index marks) 0 (λ b l. at b l) ∙ ap (λ (n : ℕ). map (is_head word_at index marks) (range_with_len 0 n)) long
  where
    at : (b : ℕ) → b < length entries → get_or entries b false ≡ is_head word_at index marks (0 + b)
    at b l =
        let there : b < length marks = omega (arith, l, same) in
        left b
        ∙ ap (λ (e : Bool). e && not (list_any (holds word_at index marks b) (enumerate_from 0 index.blocks))) (get_or-map not marks b true false there)
        ∙ ap (is_head word_at index marks) (omega arith)

-- there is an entry for each block
pub length-heads_of : (word_at : ℕ → Option ℕ) (index : Index) (marks : List Bool) → length (heads_of word_at index marks) ≡ length index.blocks
unfolding heads_of
length-heads_of word_at index marks = length-map-range_with_len (is_head word_at index marks) 0 (length index.blocks)
