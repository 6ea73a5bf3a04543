-- What words lead to, and the words that do.
use Rattle.std.proofs.Common.{◌≡◌, ℕ, zero, suc, ◌+◌, ◌-◌, ◌*◌, ◌/◌, ◌%◌, ◌<◌, ◌≤◌, ⊎_elim, refl, sym, subst, ap, ◌∙◌, List, [], ◌∷◌, ◌++◌, length, map, get_or, Bool, true, false, Option, Some, None, slice_get, filter_map, flat_map, arith}
use Rattle.std.specs.List.{range_with_len}
use Rattle.std.specs.Option.{option_map_or}
use Rattle.std.proofs.lemmas.Option.{slice_get_within, get_or_from_slice_get}
use Rattle.std.proofs.lemmas.List.FromFn.{get_or-map-range_with_len, length-map-range_with_len}
use Rattle.leak_elf.specs.Words.{places, words_between}
use Rattle.leak_blocks.specs.declared.block.Block.{Block}
use Rattle.leak_index.specs.Hits.{Index, hits_of}
use Rattle.leak_roots.specs.Places.{Places, AreRanges, IsRange, addresses_in, memory_places}
use Rattle.leak_scan.specs.RootWords.{held_by, held_from, targets_without_links}
use Rattle.leak_scan.specs.Targets.{block_targets, targets_of}
use Rattle.leak_pool.specs.Marking.{led_by_roots, led_in_memory}
use Rattle.leak_marks.specs.Lists.{Has}
use Rattle.leak_marks.specs.Reach.{IsChain as IsBlockChain, targets_of as targets_in}
use Rattle.leak_marks.proofs.ListLemmas.{none_has, here, there, at_head, has_front, has_back}
use Rattle.leak_marks.proofs.ElementLemmas.{of_flat_map, has_flat_map, has_at, has_range, of_range, has_filter_map, of_filter_map, has_flat}
use Rattle.leak_pool.proofs.GraphLemmas.{graph-first, graph-given, graph-block}
use Rattle.leak_pool.proofs.AloneLemmas.{range_at}
use Rattle.leak_why.specs.declared.chain.RootPlace.{RootPlace}
use Rattle.leak_why.specs.declared.chain.RootPlace.TheVariants.{Register, Address}
use Rattle.leak_why.specs.declared.chain.RootWord.{RootWord}
use Rattle.leak_why.specs.declared.chain.Link.{Link}
use Rattle.leak_why.specs.Leading.{IsLeading, NoneLeads, led_by}
use Rattle.leak_why.specs.Chains.{StandsAt, IsRoot, IsLink, IsChain, led_at, search_graph}

-- ---- elements of lists

of_flat : (f : ℕ → List ℕ) (xs : List ℕ) (b : ℕ) → Has (flat_map f xs) b → (w : ℕ) × Has xs w × Has (f w) b
of_flat f xs b h =
    let p : (k : ℕ) × (k < length xs) × ((d : ℕ) → Has (f (get_or xs k d)) b) = of_flat_map f xs b h in
    (get_or xs p.0 0, has_place xs p.0 p.1, p.2 0)
  where
    has_place : (xs : List ℕ) (k : ℕ) → k < length xs → Has xs (get_or xs k 0)
    has_place [] k h = absurd (omega arith)
    has_place (x ∷ xs) zero h = here x xs
    has_place (x ∷ xs) (suc k) h = there x xs (get_or xs k 0) (has_place xs k (omega arith))

has_listed : (xs : List ℕ) (i x : ℕ) → slice_get xs i ≡ Some x → Has xs x
has_listed [] i x h = absurd (let l = slice_get_within [] i x h in omega arith)
has_listed (y ∷ ys) zero x h = subst (λ (z : ℕ). Has (y ∷ ys) z) (let e : y ≡ x = cc in e) (here y ys)
has_listed (y ∷ ys) (suc i) x h = there y ys x (has_listed ys i x h)

-- ---- words of a range of addresses

pub leading_target : (word_at : ℕ → Option ℕ) (index : Index) (from to block a w : ℕ) → IsLeading false word_at index from to block a w → Has (targets_of index (words_between word_at from to)) block
unfolding words_between targets_of
leading_target word_at index from to block a w l =
    let low = l.from_start in let high = l.to_end in
    has_flat (hits_of index) (filter_map word_at (places from to)) w block
    (has_filter_map word_at (places from to) a w (has_range (to - 7 - from) from a low (omega arith)) l.word_is) l.leads

pub target_leading : (word_at : ℕ → Option ℕ) (index : Index) (from to block : ℕ) → Has (targets_of index (words_between word_at from to)) block → (a : ℕ) × (w : ℕ) × IsLeading false word_at index from to block a w
unfolding words_between targets_of
target_leading word_at index from to block h =
    let p : (w : ℕ) × Has (filter_map word_at (places from to)) w × Has (hits_of index w) block = of_flat (hits_of index) (filter_map word_at (places from to)) block h in
    let q : (a : ℕ) × Has (places from to) a × (word_at a ≡ Some p.0) = of_filter_map word_at (places from to) p.0 p.1 in
    let r : (from ≤ q.0) × (q.0 < from + (to - 7 - from)) = of_range (to - 7 - from) from q.0 q.1 in
    let low = r.0 in let high = r.1 in
    (q.0, p.0, record { from_start = low; to_end = omega arith; word_is = q.2; leads = p.2 })

-- if none leads to the block, it is no target
pub none_target : (word_at : ℕ → Option ℕ) (index : Index) (from to block : ℕ) → NoneLeads false word_at index from to to block → Has (targets_of index (words_between word_at from to)) block → ⊥
none_target word_at index from to block none h =
    let p : (a : ℕ) × (w : ℕ) × IsLeading false word_at index from to block a w = target_leading word_at index from to block h in
    none p.0 p.1 (let e = p.2.to_end in omega arith) p.2

-- and if none of a list does
pub none_listed : (index : Index) (words : List ℕ) (block : ℕ) → ((i : ℕ) → i < length words → ¬ Has (hits_of index (get_or words i 0)) block) → Has (targets_of index words) block → ⊥
unfolding targets_of
none_listed index words block none h =
    let p : (k : ℕ) × (k < length words) × ((d : ℕ) → Has (hits_of index (get_or words k d)) block) = of_flat_map (hits_of index) words block h in
    none p.0 p.1 (p.2 0)

-- ---- root words

-- a multiple of 8 whose 8 bytes lie in a range of root words is a place of one
pub place_in : (ranges : List (ℕ × ℕ)) (k : ℕ) (d : ℕ × ℕ) (a : ℕ) → k < length ranges → AreRanges ranges → a % 8 ≡ 0 → (get_or ranges k d).0 ≤ a → a + 8 ≤ (get_or ranges k d).1 → Has (memory_places ranges) a
place_in ranges k d a h are aligned low high = has_flat_map addresses_in ranges k d a h (go (get_or ranges k d) (range_at ranges k d h are) low high)
  where
    go : (r : ℕ × ℕ) → IsRange r → r.0 ≤ a → a + 8 ≤ r.1 → Has (addresses_in r) a
    go r is low high =
        let from = is.from_multiple in
        let n : ℕ = (a - r.0) / 8 in
        let many : n < (r.1 - r.0) / 8 = omega arith in
        let long = length-map-range_with_len (λ i. r.0 + 8 * i) 0 ((r.1 - r.0) / 8) in
        let is_at : get_or (addresses_in r) n 0 ≡ r.0 + 8 * n = get_or-map-range_with_len (λ i. r.0 + 8 * i) 0 ((r.1 - r.0) / 8) n n 0 many (omega arith) in
        subst (λ (x : ℕ). Has (addresses_in r) x) (is_at ∙ (let e : r.0 + 8 * n ≡ a = omega arith in e)) (has_at (addresses_in r) n 0 (omega (arith, long, many)))

-- what a word at one of the places leads to
pub memory_target : (skips_links : Bool) (word_at : ℕ → Option ℕ) (index : Index) (places : List ℕ) (a w block : ℕ) → Has places a → word_at a ≡ Some w → Has (led_by skips_links word_at index a w) block
    → Has (led_in_memory skips_links word_at index places) block
unfolding targets_of targets_without_links
memory_target false word_at index places a w block at is leads = has_flat (hits_of index) (filter_map word_at places) w block (has_filter_map word_at places a w at is) leads
memory_target true word_at index places a w block at is leads =
    has_flat (held_from word_at index) places a block at (subst (λ (o : Option ℕ). Has (option_map_or (held_by word_at index a) o []) block) (sym is) leads)

pub target_place : (skips_links : Bool) (word_at : ℕ → Option ℕ) (index : Index) (places : List ℕ) (block : ℕ) → Has (led_in_memory skips_links word_at index places) block
    → (a : ℕ) × (w : ℕ) × Has places a × (word_at a ≡ Some w) × Has (led_by skips_links word_at index a w) block
unfolding targets_of targets_without_links
target_place false word_at index places block h =
    let p : (w : ℕ) × Has (filter_map word_at places) w × Has (hits_of index w) block = of_flat (hits_of index) (filter_map word_at places) block h in
    let q : (a : ℕ) × Has places a × (word_at a ≡ Some p.0) = of_filter_map word_at places p.0 p.1 in
    (q.0, p.0, q.1, q.2, p.2)
target_place true word_at index places block h =
    let p : (a : ℕ) × Has places a × Has (held_from word_at index a) block = of_flat (held_from word_at index) places block h in
    go p.0 p.1 (word_at p.0) refl p.2
  where
    go : (a : ℕ) → Has places a → (o : Option ℕ) → word_at a ≡ o → Has (option_map_or (held_by word_at index a) o []) block
        → (b : ℕ) × (w : ℕ) × Has places b × (word_at b ≡ Some w) × Has (led_by true word_at index b w) block
    go a at None e h = absurd (none_has block h)
    go a at (Some w) e h = (a, w, at, e, h)

of_steps : (n from base a : ℕ) → Has (map (λ i. base + 8 * i) (range_with_len from n)) a → (base + 8 * from ≤ a) × (a + 8 ≤ base + 8 * (from + n))
of_steps zero from base a h = absurd (none_has a h)
of_steps (suc n) from base a h = ⊎_elim
    (λ e. (let s : base + 8 * from ≡ a = e in omega arith, let s : base + 8 * from ≡ a = e in omega arith))
    (λ r. let p : (base + 8 * (from + 1) ≤ a) × (a + 8 ≤ base + 8 * (from + 1 + n)) = of_steps n (from + 1) base a r in let l = p.0 in let m = p.1 in (omega arith, omega arith))
    (at_head (base + 8 * from) (map (λ i. base + 8 * i) (range_with_len (from + 1) n)) a h)

-- if none of a range leads to the block, its root words don't
pub none_place : (skips_links : Bool) (word_at : ℕ → Option ℕ) (index : Index) (r : ℕ × ℕ) (block : ℕ) → NoneLeads skips_links word_at index r.0 r.1 r.1 block
    → Has (led_in_memory skips_links word_at index (addresses_in r)) block → ⊥
none_place skips_links word_at index r block none h =
    let p : (a : ℕ) × (w : ℕ) × Has (addresses_in r) a × (word_at a ≡ Some w) × Has (led_by skips_links word_at index a w) block = target_place skips_links word_at index (addresses_in r) block h in
    let q : (r.0 + 8 * 0 ≤ p.0) × (p.0 + 8 ≤ r.0 + 8 * (0 + (r.1 - r.0) / 8)) = of_steps ((r.1 - r.0) / 8) 0 r.0 p.0 p.2 in
    let low = q.0 in let high = q.1 in
    none p.0 p.1 (omega arith) (record { from_start = omega arith; to_end = omega arith; word_is = p.3; leads = p.4 })

-- a root word's block is led to by the words at all places
pub root_target : (word_at : ℕ → Option ℕ) (index : Index) (p : Places) (root : RootWord) (block : ℕ) → IsRoot word_at index p root block → Has (led_by_roots word_at index p) block
unfolding targets_of
root_target word_at index p root block r = go root.place r.stands r.leads
  where
    memory : List ℕ
    memory = led_in_memory p.skips_links word_at index (memory_places p.memory)

    go : (place : RootPlace) → StandsAt word_at p root.word place → Has (led_at word_at index p root.word place) block → Has (led_by_roots word_at index p) block
    go (Register i) s h = has_front (targets_of index p.registers) memory block (has_flat (hits_of index) p.registers root.word block (has_listed p.registers i root.word s) h)
    go (Address a) s h = has_back (targets_of index p.registers) memory block (memory_target p.skips_links word_at index (memory_places p.memory) a root.word block s.0 s.1 h)

-- ---- chains

pub block_target : (word_at : ℕ → Option ℕ) (index : Index) (p : Places) (b : ℕ) (d : Block) → b < length index.blocks → targets_in (search_graph word_at index p) b ≡ block_targets word_at index (get_or index.blocks b d)
unfolding block_targets
block_target word_at index p b d h = graph-block word_at index (led_by_roots word_at index p) [] b d h

link_target : (word_at : ℕ → Option ℕ) (index : Index) (p : Places) (link : Link) (block : ℕ) → IsLink word_at index link block → Has (targets_in (search_graph word_at index p) link.holder) block
unfolding block_targets
link_target word_at index p link block l =
    let low = slice_get_within index.blocks link.holder l.holder l.is_holder in
    let same : targets_in (search_graph word_at index p) link.holder ≡ targets_of index (words_between word_at l.holder.start (l.holder.start + l.holder.size)) =
    graph-block word_at index (led_by_roots word_at index p) [] link.holder l.holder low ∙ ap (λ (b : Block). targets_of index (words_between word_at b.start (b.start + b.size))) (get_or_from_slice_get index.blocks link.holder l.holder l.holder l.is_holder) in
    subst (λ (ts : List ℕ). Has ts block) (sym same)
    (leading_target word_at index l.holder.start (l.holder.start + l.holder.size) block link.address link.word (record { from_start = l.lies.from_start; to_end = l.lies.to_end; word_is = l.word; leads = l.leads }))

free : (word_at : ℕ → Option ℕ) (index : Index) (p : Places) (b : ℕ) → ¬ Has (search_graph word_at index p).given b
free word_at index p b h = none_has b (subst (λ (l : List ℕ). Has l b) (graph-given word_at index (led_by_roots word_at index p) []) h)

-- the blocks of a chain are a chain of the graph
pub chain_blocks : (word_at : ℕ → Option ℕ) (index : Index) (p : Places) (root : RootWord) (links : List Link) (block : ℕ) → IsChain word_at index p root links block → IsBlockChain (search_graph word_at index p) (block ∷ map (λ l. l.holder) links)
chain_blocks word_at index p root [] block c = (free word_at index p block, subst (λ (l : List ℕ). Has l block) (sym (graph-first word_at index (led_by_roots word_at index p) [])) (root_target word_at index p root block c))
chain_blocks word_at index p root (l ∷ ls) block c = (free word_at index p block, link_target word_at index p l block c.0, chain_blocks word_at index p root ls l.holder c.1)
