-- If ends are left out, root words and words of blocks lead to fewer blocks, and chains reach fewer.
use Rattle.std.proofs.Common.{◌≡◌, ℕ, zero, suc, ◌+◌, ◌≤◌, ◌<◌, Bool, true, false, not, cond, List, [], ◌∷◌, ◌++◌, length, map, get_or, refl, filter, filter_map, flat_map, Option, Some, None, slice_get, arith}
use Rattle.std.specs.Prelude.{if◌then◌else◌}
use Rattle.std.specs.Option.{option_map_or}
use Rattle.leak_elf.specs.Words.{word_of}
use Rattle.leak_mtrace.specs.declared.line.Line.{Line}
use Rattle.leak_notes.specs.Threads.{registers_of}
use Rattle.leak_blocks.specs.declared.block.Block.{Block}
use Rattle.leak_blocks.specs.Live.{live_of}
use Rattle.leak_index.specs.Hits.{Index, hits_from, hits_of}
use Rattle.leak_index.specs.Leads.{Distances, leads}
use Rattle.leak_index.proofs.EndsLemmas.{leads_more}
use Rattle.leak_roots.specs.declared.skip.Skip.{Skip}
use Rattle.leak_roots.specs.Roots.{root_places}
use Rattle.leak_search.specs.LeftOut.{left_out}
use Rattle.leak_chunks.specs.FreeLinks.{is_free_link_past}
use Rattle.leak_scan.specs.RootWords.{held_by, held_from, targets_without_links}
use Rattle.leak_scan.specs.Targets.{block_targets, block_words, targets_of as led_by}
use Rattle.leak_marks.specs.Lists.{Has, Within, times}
use Rattle.leak_marks.specs.Reach.{Reach, targets_of}
use Rattle.leak_marks.proofs.ListLemmas.{times-append}
use Rattle.leak_marks.proofs.ReachLemmas.{reach_more}
use Rattle.leak_pool.specs.Marking.{graph_of, led_in_memory, led_from}
use Rattle.leak_later.specs.Kept.{kept_of, has_marked_line}
use Rattle.leak_search.specs.EndsLaw.{inner, whole}
use Rattle.leak_search.specs.Search.{first_of, graph_of_one, index_of}
use Rattle.leak_search.specs.SearchTwo.{IsMarkedEarlier, graph_of_later, kept_blocks, new_blocks}
use Rattle.leak_search.proofs.LawLemmas.{begins, fewer_numbers, marked_line}

-- ---- a word leads to fewer blocks

-- of the blocks that pass
fewer_passing : (p : ℕ → Bool) (n : ℕ) (listed : Option (List ℕ)) (blocks : List Block) (w x : ℕ) → times x (filter p (hits_from n (inner listed) blocks w)) ≤ times x (filter p (hits_from n (whole listed) blocks w))
fewer_passing p n listed [] w x = omega arith
fewer_passing p n listed (b ∷ blocks) w x = go (leads (inner listed) w b) (leads (whole listed) w b) (leads_more listed w b) (fewer_passing p (n + 1) listed blocks w x)
  where
    few : List ℕ
    few = hits_from (n + 1) (inner listed) blocks w

    more : List ℕ
    more = hits_from (n + 1) (whole listed) blocks w

    both : (u : Bool) → times x (filter p few) ≤ times x (filter p more) → times x (cond u (n ∷ filter p few) (filter p few)) ≤ times x (cond u (n ∷ filter p more) (filter p more))
    both true le = omega arith
    both false le = le

    second : (u : Bool) → times x (filter p few) ≤ times x (filter p more) → times x (filter p few) ≤ times x (cond u (n ∷ filter p more) (filter p more))
    second true le = omega arith
    second false le = le

    go : (s t : Bool) → (s ≡ true → t ≡ true) → times x (filter p few) ≤ times x (filter p more) → times x (filter p (if s then n ∷ few else few)) ≤ times x (filter p (if t then n ∷ more else more))
    go true true led le = both (p n) le
    go true false led le = absurd (let e = led refl in cc)
    go false true led le = second (p n) le
    go false false led le = le

fewer_from : (n : ℕ) (listed : Option (List ℕ)) (blocks : List Block) (w x : ℕ) → times x (hits_from n (inner listed) blocks w) ≤ times x (hits_from n (whole listed) blocks w)
fewer_from n listed [] w x = omega arith
fewer_from n listed (b ∷ blocks) w x = go (leads (inner listed) w b) (leads (whole listed) w b) (leads_more listed w b) (fewer_from (n + 1) listed blocks w x)
  where
    few : List ℕ
    few = hits_from (n + 1) (inner listed) blocks w

    more : List ℕ
    more = hits_from (n + 1) (whole listed) blocks w

    go : (s t : Bool) → (s ≡ true → t ≡ true) → times x few ≤ times x more → times x (if s then n ∷ few else few) ≤ times x (if t then n ∷ more else more)
    go true true led le = omega arith
    go true false led le = absurd (let e = led refl in cc)
    go false true led le = omega arith
    go false false led le = le

-- ---- so do words

pub flat_fewer : (f g : ℕ → List ℕ) (x : ℕ) → ((w : ℕ) → times x (f w) ≤ times x (g w)) → (ws : List ℕ) → times x (flat_map f ws) ≤ times x (flat_map g ws)
flat_fewer f g x each [] = omega arith
flat_fewer f g x each (w ∷ ws) =
    omega (arith, times-append x (f w) (flat_map f ws), times-append x (g w) (flat_map g ws), each w, flat_fewer f g x each ws)

pub map_fewer : (f g : Block → List ℕ) (x : ℕ) → ((b : Block) → times x (f b) ≤ times x (g b)) → (bs : List Block) (s : ℕ) → times x (get_or (map f bs) s []) ≤ times x (get_or (map g bs) s [])
map_fewer f g x each [] s = omega arith
map_fewer f g x each (b ∷ bs) zero = each b
map_fewer f g x each (b ∷ bs) (suc s) = map_fewer f g x each bs s

module _ (listed : Option (List ℕ)) (lines : List Line) where
  abbrev few : Index
  few = index_of (inner listed) lines

  abbrev more : Index
  more = index_of (whole listed) lines

  hits_fewer : (x w : ℕ) → times x (hits_of few w) ≤ times x (hits_of more w)
  unfolding hits_of
  hits_fewer x w = fewer_from 0 listed (live_of lines) w x

  led_fewer : (x : ℕ) (words : List ℕ) → times x (led_by few words) ≤ times x (led_by more words)
  unfolding led_by
  led_fewer x words = flat_fewer (hits_of few) (hits_of more) x (hits_fewer x) words

  held_fewer : (word_at : ℕ → Option ℕ) (x a : ℕ) → times x (held_from word_at few a) ≤ times x (held_from word_at more a)
  unfolding hits_of
  held_fewer word_at x a = go (word_at a)
    where
      go : (o : Option ℕ) → times x (option_map_or (held_by word_at few a) o []) ≤ times x (option_map_or (held_by word_at more a) o [])
      go None = omega arith
      go (Some v) = fewer_passing (λ n. not (is_free_link_past word_at (live_of lines) a v n)) 0 listed (live_of lines) v x

  memory_fewer : (links : Bool) (word_at : ℕ → Option ℕ) (x : ℕ) (places : List ℕ) → times x (led_in_memory links word_at few places) ≤ times x (led_in_memory links word_at more places)
  unfolding targets_without_links
  memory_fewer false word_at x places = led_fewer x (filter_map word_at places)
  memory_fewer true word_at x places = flat_fewer (held_from word_at few) (held_from word_at more) x (held_fewer word_at x) places

  first_fewer : (core : List ℕ) (skip : Skip) → Within (first_of core few skip lines) (first_of core more skip lines)
  first_fewer core skip x has = go (root_places (left_out skip core (live_of lines) lines) core (live_of lines)) has
    where
      go : (places : List ℕ) → Has (led_from skip.links (word_of core) few (registers_of core) places) x → Has (led_from skip.links (word_of core) more (registers_of core) places) x
      go places h = omega (
        arith,
        times-append x (led_by few (registers_of core)) (led_in_memory skip.links (word_of core) few places),
        times-append x (led_by more (registers_of core)) (led_in_memory skip.links (word_of core) more places),
        led_fewer x (registers_of core),
        memory_fewer skip.links (word_of core) x places,
        h,
      )

  targets_fewer : (word_at : ℕ → Option ℕ) (first many given : List ℕ) (s : ℕ) → Within (targets_of (graph_of word_at few first given) s) (targets_of (graph_of word_at more many given) s)
  unfolding graph_of block_targets
  targets_fewer word_at first many given s x has =
      omega (arith, map_fewer (block_targets word_at few) (block_targets word_at more) x (λ b. led_fewer x (block_words word_at b)) (live_of lines) s, has)

-- ---- one core

pub marked_without_ends : (core : List ℕ) (listed : Option (List ℕ)) (skip : Skip) (lines : List Line) (i : ℕ) → Reach (graph_of_one core (inner listed) skip lines) i → Reach (graph_of_one core (whole listed) skip lines) i
unfolding graph_of
marked_without_ends core listed skip lines i reached =
    reach_more (graph_of_one core (inner listed) skip lines) (graph_of_one core (whole listed) skip lines)
    (first_fewer listed lines core skip) (λ x h. h)
    (targets_fewer listed lines (word_of core) (first_of core (few listed lines) skip lines) (first_of core (more listed lines) skip lines) []) i reached

-- ---- two cores

kept_fewer : (core : List ℕ) (listed : Option (List ℕ)) (skip : Skip) (before now : List Line) (part all : List Bool) (x : ℕ)
    → IsMarkedEarlier core (inner listed) skip before part → IsMarkedEarlier core (whole listed) skip before all → times x (kept_blocks before part now) ≤ times x (kept_blocks before all now)
unfolding kept_of
kept_fewer core listed skip before now part all x less more =
    fewer_numbers (λ b. has_marked_line part (live_of before) b.line) (λ b. has_marked_line all (live_of before) b.line) 0 (live_of now) x
    (λ b h. marked_line part all (live_of before) b.line less.len more.len (λ j inside is. (more.each j inside).1 (marked_without_ends core listed skip before j ((less.each j inside).0 is))) h)

pub marked_in_two_without_ends : (core1 core2 : List ℕ) (listed : Option (List ℕ)) (skip : Skip) (before now : List Line) (part all : List Bool) (i : ℕ)
    → IsMarkedEarlier core1 (inner listed) skip before part → IsMarkedEarlier core1 (whole listed) skip before all
    → Reach (graph_of_later core2 (inner listed) skip (kept_blocks before part now) (new_blocks before now) now) i
    → Reach (graph_of_later core2 (whole listed) skip (kept_blocks before all now) (new_blocks before now) now) i
unfolding graph_of
marked_in_two_without_ends core1 core2 listed skip before now part all i less more_marked reached =
    let first = first_of core2 (few listed now) skip now in
    let many = first_of core2 (more listed now) skip now in
    reach_more (graph_of_later core2 (inner listed) skip (kept_blocks before part now) (new_blocks before now) now)
    (graph_of_later core2 (whole listed) skip (kept_blocks before all now) (new_blocks before now) now)
    (λ x h. begins (kept_blocks before part now) (kept_blocks before all now) (new_blocks before now) first many x
    (kept_fewer core1 listed skip before now part all x less more_marked) (first_fewer listed now core2 skip x) h)
    (λ x h. h)
    (targets_fewer listed now (word_of core2) first many []) i reached
