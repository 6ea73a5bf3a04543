-- By a reading that leads to no more, from roots of which no less is left out, chains reach no more.
use Rattle.std.proofs.Common.{◌≡◌, ℕ, zero, suc, ◌+◌, ◌-◌, ◌≤◌, ◌<◌, ⊎_elim, Bool, true, false, not, ◌&&◌, ◌==◌, cond, List, [], ◌∷◌, map, get_or, refl, filter, filter_map, flat_map, Option, Some, None, arith}
use Rattle.std.specs.Prelude.{if◌then◌else◌, max, nat_le}
use Rattle.std.specs.Option.{option_map_or}
use Rattle.std.proofs.lemmas.Bool.{and_from, and_parts, le-leb, ltb-true, or_cases, or_left, or_right}
use Rattle.leak_search.proofs.EndsLemmas.{flat_fewer, map_fewer}
use Rattle.leak_elf.specs.Words.{word_of}
use Rattle.leak_mtrace.specs.declared.line.Line.{Line}
use Rattle.leak_notes.specs.Threads.{registers_of}
use Rattle.leak_blocks.specs.declared.block.Block.{Block}
use Rattle.leak_blocks.specs.Live.{live_of}
use Rattle.leak_index.specs.Hits.{hits_from, hits_of}
use Rattle.leak_index.specs.Leads.{Distances, allows, is_up_to_end, leads}
use Rattle.leak_roots.specs.declared.skip.Skip.{Skip}
use Rattle.leak_roots.specs.Roots.{root_places}
use Rattle.leak_search.specs.LeftOut.{left_out}
use Rattle.leak_chunks.specs.FreeLinks.{is_free_link_past}
use Rattle.leak_scan.specs.RootWords.{held_by, held_from, targets_without_links}
use Rattle.leak_scan.specs.Targets.{block_targets, block_words, targets_of as led_by}
use Rattle.leak_marks.specs.Lists.{Has, Within, has, times}
use Rattle.leak_marks.specs.Reach.{Reach, targets_of}
use Rattle.leak_marks.proofs.ListLemmas.{of_has, times-append, to_has}
use Rattle.leak_marks.proofs.ReachLemmas.{reach_more}
use Rattle.leak_pool.specs.Marking.{graph_of, led_from, led_in_memory}
use Rattle.leak_later.specs.Kept.{has_marked_line, kept_of}
use Rattle.leak_search.specs.Laws.{LeavesOutNoMore}
use Rattle.leak_search.specs.Search.{first_of, graph_of_one, index_of}
use Rattle.leak_search.specs.SearchTwo.{IsMarkedEarlier, graph_of_later, kept_blocks, new_blocks}
use Rattle.leak_search.proofs.LawLemmas.{begins, fewer_numbers, first_within, marked_line}
use Rattle.leak_laws.specs.Leaks.{AllowNoMore, LeadsToNoMore}

-- ---- a word leads to no more

allows_less : (few many : Option (List ℕ)) (distance : ℕ) → AllowNoMore few many → allows few distance ≡ true → allows many distance ≡ true
allows_less few None distance h is = refl
allows_less None (Some many) distance h is = absurd h
allows_less (Some few) (Some many) distance h is =
    ⊎_elim (λ (e : (distance == 0) ≡ true). or_left (distance == 0) (has many distance) e)
    (λ (e : has few distance ≡ true). or_right (distance == 0) (has many distance) (to_has many distance (h distance (of_has few distance e))))
    (or_cases (distance == 0) (has few distance) is)

ends_less : (s t : Bool) (word : ℕ) (b : Block) → (t ≡ true → s ≡ true) → is_up_to_end s word b ≡ true → is_up_to_end t word b ≡ true
ends_less true true word b h is = is
ends_less true false word b h is = let low : word < b.start + max b.size 1 = ltb-true word (b.start + max b.size 1) is in le-leb word (b.start + b.size) (omega arith)
ends_less false true word b h is = absurd (let e = h refl in cc)
ends_less false false word b h is = is

leads_less : (few many : Distances) → LeadsToNoMore few many → (word : ℕ) (b : Block) → leads few word b ≡ true → leads many word b ≡ true
leads_less few many h word b led =
    let outer = and_parts (nat_le b.start word && is_up_to_end few.skips_ends word b) (allows few.listed (word - b.start)) led in
    let inner = and_parts (nat_le b.start word) (is_up_to_end few.skips_ends word b) outer.0 in
    and_from (nat_le b.start word && is_up_to_end many.skips_ends word b) (allows many.listed (word - b.start))
    (and_from (nat_le b.start word) (is_up_to_end many.skips_ends word b) inner.0 (ends_less few.skips_ends many.skips_ends word b h.ends inner.1))
    (allows_less few.listed many.listed (word - b.start) h.listed outer.1)

module _ (few many : Distances) (h : LeadsToNoMore few many) where
  -- of the blocks that pass
  fewer_passing : (p : ℕ → Bool) (n : ℕ) (blocks : List Block) (w x : ℕ) → times x (filter p (hits_from n few blocks w)) ≤ times x (filter p (hits_from n many blocks w))
  fewer_passing p n [] w x = omega arith
  fewer_passing p n (b ∷ blocks) w x = go (leads few w b) (leads many w b) (leads_less few many h w b) (fewer_passing p (n + 1) blocks w x)
    where
      left : List ℕ
      left = hits_from (n + 1) few blocks w

      right : List ℕ
      right = hits_from (n + 1) many blocks w

      both : (u : Bool) → times x (filter p left) ≤ times x (filter p right) → times x (cond u (n ∷ filter p left) (filter p left)) ≤ times x (cond u (n ∷ filter p right) (filter p right))
      both true le = omega arith
      both false le = le

      second : (u : Bool) → times x (filter p left) ≤ times x (filter p right) → times x (filter p left) ≤ times x (cond u (n ∷ filter p right) (filter p right))
      second true le = omega arith
      second false le = le

      go : (s t : Bool) → (s ≡ true → t ≡ true) → times x (filter p left) ≤ times x (filter p right) → times x (filter p (if s then n ∷ left else left)) ≤ times x (filter p (if t then n ∷ right else right))
      go true true led le = both (p n) le
      go true false led le = absurd (let e = led refl in cc)
      go false true led le = second (p n) le
      go false false led le = le

  fewer_from : (n : ℕ) (blocks : List Block) (w x : ℕ) → times x (hits_from n few blocks w) ≤ times x (hits_from n many blocks w)
  fewer_from n [] w x = omega arith
  fewer_from n (b ∷ blocks) w x = go (leads few w b) (leads many w b) (leads_less few many h w b) (fewer_from (n + 1) blocks w x)
    where
      left : List ℕ
      left = hits_from (n + 1) few blocks w

      right : List ℕ
      right = hits_from (n + 1) many blocks w

      go : (s t : Bool) → (s ≡ true → t ≡ true) → times x left ≤ times x right → times x (if s then n ∷ left else left) ≤ times x (if t then n ∷ right else right)
      go true true led le = omega arith
      go true false led le = absurd (let e = led refl in cc)
      go false true led le = omega arith
      go false false led le = le

  -- ---- so do the words of a core

  module _ (lines : List Line) where
    hits_fewer : (x w : ℕ) → times x (hits_of (index_of few lines) w) ≤ times x (hits_of (index_of many lines) w)
    unfolding hits_of
    hits_fewer x w = fewer_from 0 (live_of lines) w x

    led_fewer : (x : ℕ) (words : List ℕ) → times x (led_by (index_of few lines) words) ≤ times x (led_by (index_of many lines) words)
    unfolding led_by
    led_fewer x words = flat_fewer (hits_of (index_of few lines)) (hits_of (index_of many lines)) x (hits_fewer x) words

    held_fewer : (word_at : ℕ → Option ℕ) (x a : ℕ) → times x (held_from word_at (index_of few lines) a) ≤ times x (held_from word_at (index_of many lines) a)
    unfolding hits_of
    held_fewer word_at x a = go (word_at a)
      where
        go : (o : Option ℕ) → times x (option_map_or (held_by word_at (index_of few lines) a) o []) ≤ times x (option_map_or (held_by word_at (index_of many lines) a) o [])
        go None = omega arith
        go (Some v) = fewer_passing (λ n. not (is_free_link_past word_at (live_of lines) a v n)) 0 (live_of lines) v x

    memory_fewer : (links : Bool) (word_at : ℕ → Option ℕ) (x : ℕ) (places : List ℕ) → times x (led_in_memory links word_at (index_of few lines) places) ≤ times x (led_in_memory links word_at (index_of many lines) places)
    unfolding targets_without_links
    memory_fewer false word_at x places = led_fewer x (filter_map word_at places)
    memory_fewer true word_at x places = flat_fewer (held_from word_at (index_of few lines)) (held_from word_at (index_of many lines)) x (held_fewer word_at x) places

    first_fewer : (core : List ℕ) (skip : Skip) → Within (first_of core (index_of few lines) skip lines) (first_of core (index_of many lines) skip lines)
    first_fewer core skip x has = go (root_places (left_out skip core (live_of lines) lines) core (live_of lines)) has
      where
        go : (places : List ℕ) → Has (led_from skip.links (word_of core) (index_of few lines) (registers_of core) places) x → Has (led_from skip.links (word_of core) (index_of many lines) (registers_of core) places) x
        go places has = omega (
          arith,
          times-append x (led_by (index_of few lines) (registers_of core)) (led_in_memory skip.links (word_of core) (index_of few lines) places),
          times-append x (led_by (index_of many lines) (registers_of core)) (led_in_memory skip.links (word_of core) (index_of many lines) places),
          led_fewer x (registers_of core),
          memory_fewer skip.links (word_of core) x places,
          has,
        )

    targets_fewer : (word_at : ℕ → Option ℕ) (first all given : List ℕ) (s : ℕ) → Within (targets_of (graph_of word_at (index_of few lines) first given) s) (targets_of (graph_of word_at (index_of many lines) all given) s)
    unfolding graph_of block_targets
    targets_fewer word_at first all given s x has =
        omega (arith, map_fewer (block_targets word_at (index_of few lines)) (block_targets word_at (index_of many lines)) x (λ b. led_fewer x (block_words word_at b)) (live_of lines) s, has)

    first_less : (core : List ℕ) (less more : Skip) → LeavesOutNoMore less more → Within (first_of core (index_of few lines) more lines) (first_of core (index_of many lines) less lines)
    first_less core less more skips x has = first_within core many less more lines skips x (first_fewer core more x has)

    -- ---- one core

    pub reached_less : (core : List ℕ) (less more : Skip) (i : ℕ) → LeavesOutNoMore less more → Reach (graph_of_one core few more lines) i → Reach (graph_of_one core many less lines) i
    unfolding graph_of
    reached_less core less more i skips reached =
        reach_more (graph_of_one core few more lines) (graph_of_one core many less lines) (first_less core less more skips) (λ x g. g)
        (targets_fewer (word_of core) (first_of core (index_of few lines) more lines) (first_of core (index_of many lines) less lines) []) i reached

  -- ---- two cores

  kept_less : (core : List ℕ) (less more : Skip) (before now : List Line) (part whole : List Bool) (x : ℕ) → LeavesOutNoMore less more
      → IsMarkedEarlier core few more before part → IsMarkedEarlier core many less before whole → times x (kept_blocks before part now) ≤ times x (kept_blocks before whole now)
  unfolding kept_of
  kept_less core less more before now part whole x skips fewer all =
      fewer_numbers (λ b. has_marked_line part (live_of before) b.line) (λ b. has_marked_line whole (live_of before) b.line) 0 (live_of now) x
      (λ b is. marked_line part whole (live_of before) b.line fewer.len all.len (λ j inside is. (all.each j inside).1 (reached_less before core less more j skips ((fewer.each j inside).0 is))) is)

  pub reached_in_two_less : (core1 core2 : List ℕ) (less more : Skip) (before now : List Line) (part whole : List Bool) (i : ℕ) → LeavesOutNoMore less more
      → IsMarkedEarlier core1 few more before part → IsMarkedEarlier core1 many less before whole
      → Reach (graph_of_later core2 few more (kept_blocks before part now) (new_blocks before now) now) i
      → Reach (graph_of_later core2 many less (kept_blocks before whole now) (new_blocks before now) now) i
  unfolding graph_of
  reached_in_two_less core1 core2 less more before now part whole i skips fewer all reached =
      let first = first_of core2 (index_of few now) more now in
      let every = first_of core2 (index_of many now) less now in
      reach_more (graph_of_later core2 few more (kept_blocks before part now) (new_blocks before now) now)
      (graph_of_later core2 many less (kept_blocks before whole now) (new_blocks before now) now)
      (λ x begun. begins (kept_blocks before part now) (kept_blocks before whole now) (new_blocks before now) first every x
      (kept_less core1 less more before now part whole x skips fewer all) (first_less now core2 less more skips x) begun)
      (λ x g. g)
      (targets_fewer now (word_of core2) first every []) i reached
