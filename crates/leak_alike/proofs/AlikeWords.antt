-- Words that are alike lead to the same blocks, and what is made of words that are equal is equal.
use Rattle.std.proofs.Common.{◌≡◌, ℕ, ◌+◌, ◌-◌, ◌%◌, ◌==◌, inl, inr, Bool, true, false, not, ◌&&◌, ◌||◌, List, [], ◌∷◌, ◌++◌, filter, filter_map, flat_map, Option, Some, None, slice_get, refl, sym, ap, ap₂, subst, ◌∙◌, eqb-true, Contains, arith}
use mathlib.Core.Path.{fun_ext}
use Rattle.std.specs.Prelude.{if◌then◌else◌}
use Rattle.std.specs.List.{AllByRecursion, cons_option}
use Rattle.std.specs.Option.{option_map_or}
use Rattle.std.proofs.lemmas.List.Elements.{filter_agree}
use Rattle.leak_lemmas.proofs.Members.{each_at}
use Rattle.leak_elf.specs.Words.{places, words_between}
use Rattle.leak_blocks.specs.declared.block.Block.{Block}
use Rattle.leak_index.specs.Hits.{Index, hits_of}
use Rattle.leak_chunks.specs.Fit.{chunk_size, fits_core, fits_word, follows_one_in_use, is_heap_chunk_for, is_mapped, is_mapping_for, is_previous_in_use}
use Rattle.leak_chunks.specs.FreeLinks.{has_least_chunk, has_start, is_free_link, is_free_link_past, is_least_chunk_for, is_top, leads_back, links_to_free, next_header}
use Rattle.leak_chunks.specs.Slack.{slack_by, slack_of}
use Rattle.leak_scan.specs.RootWords.{held_by, held_from, targets_without_links}
use Rattle.leak_scan.specs.Targets.{block_targets, targets_of}
use Rattle.leak_pool.specs.Marking.{led_in_memory}
use Rattle.leak_alike.specs.Alike.{AreAlikeWords}

module _ (before after : ℕ → Option ℕ) where
  -- ---- sizes

  -- the size words of a block's chunk and, if that is a heap's and fits, of the chunk after it
  pub record HasSameSizes (b : Block) : Type 0 where
    pub size : before (b.start - 8) ≡ after (b.start - 8)
    pub next : (word : ℕ) → before (b.start - 8) ≡ Some word → is_mapped word ≡ false → is_heap_chunk_for b.size (chunk_size word) ≡ true
        → before (b.start + chunk_size word - 8) ≡ after (b.start + chunk_size word - 8)

  pub fits_same : (b : Block) → HasSameSizes b → fits_core before b ≡ fits_core after b
  unfolding fits_core
  fits_same b same =
      ap (λ (t : Bool). (b.start % 16 == 0) && t)
      (by_size (before (b.start - 8)) same.next ∙ ap (λ (o : Option ℕ). option_map_or (fits_word after b) o false) same.size)
    where
      by_word : (m t : Bool) (word : ℕ) → (m ≡ false → t ≡ true → before (b.start + chunk_size word - 8) ≡ after (b.start + chunk_size word - 8))
          → (if m then is_mapping_for b.size (chunk_size word) else t && follows_one_in_use before (b.start + chunk_size word - 8))
          ≡ (if m then is_mapping_for b.size (chunk_size word) else t && follows_one_in_use after (b.start + chunk_size word - 8))
      by_word true t word next = refl
      by_word false false word next = refl
      by_word false true word next = ap (λ (o : Option ℕ). option_map_or is_previous_in_use o false) (next refl refl)

      by_size : (o : Option ℕ)
          → ((word : ℕ) → o ≡ Some word → is_mapped word ≡ false → is_heap_chunk_for b.size (chunk_size word) ≡ true
          → before (b.start + chunk_size word - 8) ≡ after (b.start + chunk_size word - 8))
          → option_map_or (fits_word before b) o false ≡ option_map_or (fits_word after b) o false
      by_size None next = refl
      by_size (Some word) next = by_word (is_mapped word) (is_heap_chunk_for b.size (chunk_size word)) word (next word refl)

  pub slack_same : (b : Block) → HasSameSizes b → slack_of before b ≡ slack_of after b
  unfolding slack_of
  slack_same b same = ap₂ (λ (t : Bool) (o : Option ℕ). if t then option_map_or (slack_by b) o None else None) (fits_same b same) same.size

  -- ---- links

  -- a block's size word; and if its chunk is the least, the size word and links of the next one, if no block has that
  pub record HasSameHeader (blocks : List Block) (b : Block) : Type 0 where
    pub size : before (b.start - 8) ≡ after (b.start - 8)
    pub header : has_least_chunk before b ≡ true → has_start blocks (next_header b + 16) ≡ false
        → (distance : ℕ) → Contains (8 ∷ 16 ∷ 24 ∷ []) distance → before (next_header b + distance) ≡ after (next_header b + distance)

  links_same : (blocks : List Block) (place word : ℕ)
      → (has_start blocks (word + 16) ≡ false → (distance : ℕ) → Contains (8 ∷ 16 ∷ 24 ∷ []) distance → before (word + distance) ≡ after (word + distance))
      → links_to_free before blocks place word ≡ links_to_free after blocks place word
  links_same blocks place word = go (has_start blocks (word + 16))
    where
      go : (t : Bool) → (t ≡ false → (distance : ℕ) → Contains (8 ∷ 16 ∷ 24 ∷ []) distance → before (word + distance) ≡ after (word + distance))
          → (not t && (leads_back before word place || is_top before word)) ≡ (not t && (leads_back after word place || is_top after word))
      go true header = refl
      go false header =
          let size = header refl 8 (0, omega arith, refl) in
          let next = header refl 16 (1, omega arith, refl) in
          let previous = header refl 24 (2, omega arith, refl) in
          rw (previous, next, size) refl

  free_link_same : (blocks : List Block) (place word : ℕ) (b : Block) → HasSameHeader blocks b → is_free_link before blocks place word b ≡ is_free_link after blocks place word b
  unfolding is_free_link
  free_link_same blocks place word b same = go (b.start % 16 == 0) (word == next_header b) (eqb-true word (next_header b))
    where
      least : (t : Bool) → has_least_chunk before b ≡ t → word ≡ next_header b → (t && links_to_free before blocks place word) ≡ (t && links_to_free after blocks place word)
      least false e is = refl
      least true e is =
          links_same blocks place word (subst (λ (header : ℕ). has_start blocks (header + 16) ≡ false → (distance : ℕ) → Contains (8 ∷ 16 ∷ 24 ∷ []) distance
          → before (header + distance) ≡ after (header + distance)) (sym is) (same.header e))

      go : (s t : Bool) → (t ≡ true → word ≡ next_header b)
          → (s && t && has_least_chunk before b && links_to_free before blocks place word) ≡ (s && t && has_least_chunk after b && links_to_free after blocks place word)
      go false t is = refl
      go true false is = refl
      go true true is =
          least (has_least_chunk before b) refl (is refl)
          ∙ ap (λ (o : Option ℕ). option_map_or (is_least_chunk_for b.size) o false && links_to_free after blocks place word) same.size

  link_past_same : (blocks : List Block) (place word n : ℕ) → AllByRecursion (HasSameHeader blocks) blocks
      → is_free_link_past before blocks place word n ≡ is_free_link_past after blocks place word n
  link_past_same blocks place word n all = go (slice_get blocks n) (λ b e. each_at (HasSameHeader blocks) blocks n b all e)
    where
      go : (o : Option Block) → ((b : Block) → o ≡ Some b → HasSameHeader blocks b)
          → option_map_or (is_free_link before blocks place word) o false ≡ option_map_or (is_free_link after blocks place word) o false
      go None same = refl
      go (Some b) same = free_link_same blocks place word b (same b refl)

  -- ---- what words lead to

  module _ (index : Index) (alike : (a : ℕ) → AreAlikeWords index (before a) (after a)) where
    pub targets_same : (places : List ℕ) → targets_of index (filter_map before places) ≡ targets_of index (filter_map after places)
    unfolding targets_of
    targets_same [] = refl
    targets_same (a ∷ places) = go (before a) (after a) (alike a) (targets_same places)
      where
        go : (v w : Option ℕ) → AreAlikeWords index v w → flat_map (hits_of index) (filter_map before places) ≡ flat_map (hits_of index) (filter_map after places)
            → flat_map (hits_of index) (cons_option v (filter_map before places)) ≡ flat_map (hits_of index) (cons_option w (filter_map after places))
        go None None same rest = rest
        go None (Some w) same rest = absurd same
        go (Some v) None same rest = absurd same
        go (Some v) (Some w) (inl same) rest = ap₂ (λ (u : ℕ) (ns : List ℕ). hits_of index u ++ ns) same rest
        go (Some v) (Some w) (inr none) rest = rw (none.0, none.1) rest

    pub block_targets_same : block_targets before index ≡ block_targets after index
    unfolding block_targets words_between
    block_targets_same = fun_ext (λ (b : Block). targets_same (places b.start (b.start + b.size)))

    held_same : AllByRecursion (HasSameHeader index.blocks) index.blocks → (a : ℕ) → held_from before index a ≡ held_from after index a
    held_same all a = go (before a) (after a) (alike a)
      where
        kept : (ℕ → Option ℕ) → ℕ → ℕ → Bool
        kept word_at word n = not (is_free_link_past word_at index.blocks a word n)

        go : (v w : Option ℕ) → AreAlikeWords index v w → option_map_or (held_by before index a) v [] ≡ option_map_or (held_by after index a) w []
        go None None same = refl
        go None (Some w) same = absurd same
        go (Some v) None same = absurd same
        go (Some v) (Some w) (inl same) =
            filter_agree (kept before v) (kept after v) (λ n. ap not (link_past_same index.blocks a v n all)) (hits_of index v) ∙ ap (held_by after index a) same
        go (Some v) (Some w) (inr none) = ap (filter (kept before v)) none.0 ∙ sym (ap (filter (kept after w)) none.1)

    pub memory_same : (links : Bool) → (links ≡ true → AllByRecursion (HasSameHeader index.blocks) index.blocks) → (places : List ℕ)
        → led_in_memory links before index places ≡ led_in_memory links after index places
    unfolding targets_without_links
    memory_same false all places = targets_same places
    memory_same true all places = ap (λ (f : ℕ → List ℕ). flat_map f places) (fun_ext (held_same (all refl)))
