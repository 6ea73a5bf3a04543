-- Words of blocks, on pages that differ and on others.
use Rattle.std.proofs.Common.{◌≡◌, ℕ, zero, suc, ◌+◌, ◌-◌, ◌*◌, ◌≤◌, Bool, true, false, not, ◌||◌, ◌==◌, ⊎_elim, refl, sym, subst, ap, true≢false, List, [], ◌∷◌, map, get_or, Option, Some, None, slice_get, arith}
use Rattle.std.proofs.lemmas.Option.{same_Some, none-some}
use Rattle.std.specs.List.{list_any, range_with_len}
use Rattle.leak_elf.specs.Words.{places, words_between}
use Rattle.leak_blocks.specs.declared.block.Block.{Block}
use Rattle.leak_index.specs.Leads.{leads}
use Rattle.leak_index.specs.Hits.{Index, hits_of}
use Rattle.leak_scan.specs.Targets.{block_words, block_targets, targets_of, page_of}
use Rattle.leak_marks.specs.Lists.{Has}
use Rattle.leak_marks.specs.Reach.{Reach}
use Rattle.leak_marks.proofs.BoolLemmas.{same_number}
use Rattle.leak_marks.proofs.ListLemmas.{none_has, at_head}
use Rattle.leak_marks.proofs.ElementLemmas.{has_range, has_filter_map, has_flat}
use Rattle.leak_pool.specs.Marking.{graph_of}
use Rattle.leak_later.specs.Differing.{is_changed, differs}
use Rattle.leak_later.proofs.NumberLemmas.{Numbered, of_numbers, to_numbers, hits_are_numbers}

-- ---- elements of lists

-- no element passes
pub none_of : (p : ℕ → Bool) (xs : List ℕ) (a : ℕ) → list_any p xs ≡ false → Has xs a → p a ≡ false
none_of p [] a none h = absurd (none_has a h)
none_of p (x ∷ xs) a none h = go (p x) refl none (λ n r. none_of p xs a n r)
  where
    go : (t : Bool) → p x ≡ t → (t || list_any p xs) ≡ false → (list_any p xs ≡ false → Has xs a → p a ≡ false) → p a ≡ false
    go true e n rest = absurd (true≢false n)
    go false e n rest = ⊎_elim (λ s. subst (λ (y : ℕ). p y ≡ false) s e) (rest n) (at_head x xs a h)

pub map_at : {A B : Type 0} (f : A → B) (xs : List A) (n : ℕ) (x : A) (d : B) → slice_get xs n ≡ Some x → get_or (map f xs) n d ≡ f x
map_at f [] n x d e = absurd (none-some x e)
map_at f (y ∷ xs) zero x d e = ap f (same_Some y x e)
map_at f (y ∷ xs) (suc n) x d e = map_at f xs n x d e

-- ---- words

-- a word that has not changed was there before
same_word : (o : Option ℕ) (w : ℕ) → is_changed o (Some w) ≡ false → o ≡ Some w
same_word None w h = absurd (true≢false h)
same_word (Some v) w h = ap Some (same_number v w (go (v == w) h))
  where
    go : (t : Bool) → not t ≡ false → t ≡ true
    go true e = refl
    go false e = sym e

pub unchanged : (before now : ℕ → Option ℕ) (a w : ℕ) → now a ≡ Some w → differs before now (page_of a) ≡ false → before a ≡ Some w
unfolding differs
unchanged before now a w e same =
    let on_page : Has (range_with_len (4096 * page_of a) 4096) a = has_range 4096 (4096 * page_of a) a (omega arith) (omega arith) in
    same_word (before a) w (subst (λ (o : Option ℕ). is_changed (before a) o ≡ false) e (none_of (λ x. is_changed (before x) (now x)) (range_with_len (4096 * page_of a) 4096) a same on_page))

-- it is a word of the block
pub word_of_block : (before : ℕ → Option ℕ) (b : Block) (a w : ℕ) → b.start ≤ a → a + 8 ≤ b.start + b.size → before a ≡ Some w → Has (block_words before b) w
unfolding words_between
word_of_block before b a w low high e =
    has_filter_map before (places b.start (b.start + b.size)) a w (has_range (b.start + b.size - 7 - b.start) b.start a low (omega arith)) e

-- what a word of a reached block leads to is reached
pub next_reached : (word_at : ℕ → Option ℕ) (index : Index) (first : List ℕ) (n m w : ℕ) (b : Block) → slice_get index.blocks n ≡ Some b →
    Has (block_words word_at b) w → Has (hits_of index w) m → Reach (graph_of word_at index first []) n → Reach (graph_of word_at index first []) m
unfolding graph_of block_targets targets_of
next_reached word_at index first n m w b at_n word led r =
    (n ∷ r.0, (none_has m, subst (λ (l : List ℕ). Has l m) (sym (map_at (block_targets word_at index) index.blocks n b [] at_n)) (has_flat (hits_of index) (block_words word_at b) w m word led), r.1))

-- the block that a word leads to
pub led_block : (index : Index) (w j : ℕ) → Has (hits_of index w) j → Numbered 0 (leads index.reading w) index.blocks j
unfolding hits_of
led_block index w j h = of_numbers 0 (leads index.reading w) index.blocks j (subst (λ (l : List ℕ). Has l j) (hits_are_numbers 0 index.reading index.blocks w) h)

pub leads_at : (index : Index) (w m : ℕ) (b : Block) → slice_get index.blocks m ≡ Some b → leads index.reading w b ≡ true → Has (hits_of index w) m
unfolding hits_of
leads_at index w m b e l = subst (λ (x : List ℕ). Has x m) (sym (hits_are_numbers 0 index.reading index.blocks w)) (to_numbers 0 (leads index.reading w) index.blocks m m b e l (omega arith))
