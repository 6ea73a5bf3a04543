-- Marking from kept and fresh blocks, by what their words lead to.
use Rattle.std.proofs.Common.{◌≡◌, ◌↔◌, ◌⊎◌, ℕ, zero, suc, ◌+◌, ◌-◌, ◌<◌, ◌≤◌, Bool, inl, inr, ⊎_elim, refl, sym, subst, ap, ◌∙◌, List, [], ◌∷◌, ◌++◌, length, map, get_or, filter, flat_map, Option, Some, None, slice_get, arith, IsPermutation, ◌==◌, append-nil}
use Rattle.std.specs.List.{AllByRecursion}
use Rattle.std.specs.Option.{option_map_or}
use Rattle.std.proofs.lemmas.List.Sorted.{list_any-IsPermutation}
use Rattle.std.proofs.lemmas.Grind.{flat_map-append}
use Rattle.leak_elf.specs.Words.{places, words_between}
use Rattle.leak_blocks.specs.declared.block.Block.{Block}
use Rattle.leak_index.specs.Hits.{Index, hits_of}
use Rattle.leak_scan.specs.Targets.{block_words, block_words_on, block_targets, targets_of, page_of, is_on}
use Rattle.leak_roots.specs.Places.{Places}
use Rattle.leak_marks.specs.Lists.{Has}
use Rattle.leak_marks.specs.Reach.{Reach}
use Rattle.leak_marks.specs.Retraces.{whole_graph, retrace_graph, AreEnough, RetraceIsWhole}
use Rattle.leak_marks.specs.Partition.{Partitions}
use Rattle.leak_marks.proofs.ListLemmas.{none_has, here, there, at_head, has_front, has_back, of_append, has_or_not, to_has, of_has}
use Rattle.leak_marks.proofs.ElementLemmas.{has_filter, of_filter, of_range, has_filter_map, of_filter_map, has_flat}
use Rattle.leak_marks.proofs.ReachLemmas.{reach_same, reach_outside}
use Rattle.leak_marks.proofs.PartitionLemmas.{partition_same}
use Rattle.leak_pool.specs.declared.start.Part.{Part}
use Rattle.leak_pool.specs.declared.start.Part.TheVariants.{Whole, Differing}
use Rattle.leak_pool.specs.declared.start.Start.{Start}
use Rattle.leak_pool.specs.Marking.{graph_of, graph_from, led_by_roots, part_words, words_of_part, IsSet, IsStartOf}
use Rattle.leak_later.specs.declared.kept.Carry.{Carry}
use Rattle.leak_later.specs.Kept.{IsCarry}
use Rattle.leak_later.specs.Retrace.{graph_of_two, OthersLeadWithin, IsStartWith}
use Rattle.leak_later.proofs.WordLemmas.{map_at}

-- ---- the start's blocks

pub of_permutation : (xs ys : List ℕ) (b : ℕ) → IsPermutation xs ys → Has xs b → Has ys b
of_permutation xs ys b p h = of_has ys b (sym (list_any-IsPermutation (λ (n : ℕ). n == b) xs ys p) ∙ to_has xs b h)

pub to_permutation : (xs ys : List ℕ) (b : ℕ) → IsPermutation xs ys → Has ys b → Has xs b
to_permutation xs ys b p h = of_has xs b (list_any-IsPermutation (λ (n : ℕ). n == b) xs ys p ∙ to_has ys b h)

-- ---- what parts of blocks lead to

-- the block at a number
pub at_number : (blocks : List Block) (n : ℕ) → n < length blocks → (b : Block) × (slice_get blocks n ≡ Some b)
at_number [] n h = absurd (omega arith)
at_number (b ∷ blocks) zero h = (b, refl)
at_number (c ∷ blocks) (suc n) h = at_number blocks n (omega arith)

abbrev pub parts_of : Carry → List (ℕ × Part)
parts_of c = map (λ (b : ℕ). (b, Differing)) c.kept.items ++ map (λ (b : ℕ). (b, Whole)) c.fresh.items

pub of_flat : (f : ℕ → List ℕ) (xs : List ℕ) (b : ℕ) → Has (flat_map f xs) b → (x : ℕ) × Has xs x × Has (f x) b
of_flat f [] b h = absurd (none_has b h)
of_flat f (x ∷ xs) b h = ⊎_elim
    (λ i. (x, here x xs, i))
    (λ r. let p : (y : ℕ) × Has xs y × Has (f y) b = of_flat f xs b r in (p.0, there x xs p.0 p.1, p.2))
    (of_append (f x) (flat_map f xs) b h)

-- a word leads to the block
abbrev pub Led : Index → List ℕ → ℕ → Type 0
Led index words b = (w : ℕ) × Has words w × Has (hits_of index w) b

pub of_targets : (index : Index) (words : List ℕ) (b : ℕ) → Has (targets_of index words) b → Led index words b
unfolding targets_of
of_targets index words b h = of_flat (hits_of index) words b h

pub to_targets : (index : Index) (words : List ℕ) (b : ℕ) → Led index words b → Has (targets_of index words) b
unfolding targets_of
to_targets index words b l = has_flat (hits_of index) words l.0 b l.1 l.2

-- ---- words of a block

pub place_of_word : (word_at : ℕ → Option ℕ) (b : Block) (w : ℕ) → Has (block_words word_at b) w → (a : ℕ) × Has (places b.start (b.start + b.size)) a × (word_at a ≡ Some w)
unfolding words_between
place_of_word word_at b w h = of_filter_map word_at (places b.start (b.start + b.size)) w h

place_bounds : (b : Block) (a : ℕ) → Has (places b.start (b.start + b.size)) a → (b.start ≤ a) × (a + 8 ≤ b.start + b.size)
place_bounds b a h = let r : (b.start ≤ a) × (a < b.start + (b.start + b.size - 7 - b.start)) = of_range (b.start + b.size - 7 - b.start) b.start a h in (r.0, let u = r.1 in let l = r.0 in omega arith)

pub word_on_is_word : (word_at : ℕ → Option ℕ) (pages : List ℕ) (b : Block) (w : ℕ) → Has (block_words_on word_at pages b) w → Has (block_words word_at b) w
unfolding block_words_on words_between
word_on_is_word word_at pages b w h =
    let r : (a : ℕ) × Has (filter (is_on pages) (places b.start (b.start + b.size))) a × (word_at a ≡ Some w) = of_filter_map word_at (filter (is_on pages) (places b.start (b.start + b.size))) w h in
    has_filter_map word_at (places b.start (b.start + b.size)) r.0 w (of_filter (is_on pages) (places b.start (b.start + b.size)) r.0 r.1).0 r.2

pub word_on_page : (word_at : ℕ → Option ℕ) (pages : List ℕ) (b : Block) (a w : ℕ) → Has (places b.start (b.start + b.size)) a → word_at a ≡ Some w → Has pages (page_of a) → Has (block_words_on word_at pages b) w
unfolding block_words_on
word_on_page word_at pages b a w h e on =
    has_filter_map word_at (filter (is_on pages) (places b.start (b.start + b.size))) a w (has_filter (is_on pages) (places b.start (b.start + b.size)) a h (to_has pages (page_of a) on)) e

-- ---- words of parts

-- a block of the list with the word in its part
pub record PartWord (word_at : ℕ → Option ℕ) (pages : List ℕ) (blocks : List Block) (part : Part) (numbers : List ℕ) (w : ℕ) : Type 0 where
  pub number : ℕ
  pub block : Block
  pub listed : Has numbers number
  pub at : slice_get blocks number ≡ Some block
  pub word : Has (words_of_part word_at pages part block) w

module _ (word_at : ℕ → Option ℕ) (pages : List ℕ) (blocks : List Block) (part : Part) where
  abbrev words_in : List ℕ → List ℕ
  words_in numbers = flat_map (part_words word_at pages blocks) (map (λ (n : ℕ). (n, part)) numbers)

  pub of_part : (numbers : List ℕ) (w : ℕ) → Has (words_in numbers) w → PartWord word_at pages blocks part numbers w
  of_part [] w h = absurd (none_has w h)
  of_part (n ∷ ns) w h = ⊎_elim
      (λ i. first (slice_get blocks n) refl i)
      (λ r. let p : PartWord word_at pages blocks part ns w = of_part ns w r in record { number = p.number; block = p.block; listed = there n ns p.number p.listed; at = p.at; word = p.word })
      (of_append (part_words word_at pages blocks (n, part)) (words_in ns) w h)
    where
      first : (o : Option Block) → slice_get blocks n ≡ o → Has (option_map_or (words_of_part word_at pages part) o []) w → PartWord word_at pages blocks part (n ∷ ns) w
      first None e i = absurd (none_has w i)
      first (Some b) e i = record { number = n; block = b; listed = here n ns; at = e; word = i }

  pub to_part : (numbers : List ℕ) (w n : ℕ) (b : Block) → Has numbers n → slice_get blocks n ≡ Some b → Has (words_of_part word_at pages part b) w → Has (words_in numbers) w
  to_part [] w n b h e i = absurd (none_has n h)
  to_part (m ∷ ms) w n b h e i = ⊎_elim
      (λ s. has_front (part_words word_at pages blocks (m, part)) (words_in ms) w
      (subst (λ (o : Option Block). Has (option_map_or (words_of_part word_at pages part) o []) w) (sym (ap (slice_get blocks) s ∙ e)) i))
      (λ r. has_back (part_words word_at pages blocks (m, part)) (words_in ms) w (to_part ms w n b r e i))
      (at_head m ms n h)

-- ---- what marking from the start leaves out

module _ (word_at : ℕ → Option ℕ) (index : Index) (pages : List ℕ) (c : Carry) (start : List ℕ) (permuted : IsPermutation (c.kept.items ++ c.fresh.items) start) where
  -- the words of the parts, and what each block leads to
  abbrev words_again : List ℕ
  words_again = flat_map (part_words word_at pages index.blocks) (parts_of c)

  abbrev led_by : List (List ℕ)
  led_by = map (block_targets word_at index) index.blocks

  again_parts : words_again ≡ flat_map (part_words word_at pages index.blocks) (map (λ (b : ℕ). (b, Differing)) c.kept.items) ++ flat_map (part_words word_at pages index.blocks) (map (λ (b : ℕ). (b, Whole)) c.fresh.items)
  again_parts = flat_map-append (part_words word_at pages index.blocks) (map (λ (b : ℕ). (b, Differing)) c.kept.items) (map (λ (b : ℕ). (b, Whole)) c.fresh.items)

  in_start : (n : ℕ) → Has c.kept.items n ⊎ Has c.fresh.items n → Has start n
  in_start n h = of_permutation (c.kept.items ++ c.fresh.items) start n permuted (⊎_elim (λ k. has_front c.kept.items c.fresh.items n k) (λ f. has_back c.kept.items c.fresh.items n f) h)

  of_start : (n : ℕ) → Has start n → Has c.kept.items n ⊎ Has c.fresh.items n
  of_start n h = of_append c.kept.items c.fresh.items n (to_permutation (c.kept.items ++ c.fresh.items) start n permuted h)

  -- what a word of a block leads to, the block leads to
  block_leads : (n w b : ℕ) (block : Block) → slice_get index.blocks n ≡ Some block → Has (block_words word_at block) w → Has (hits_of index w) b → Has (get_or led_by n []) b
  unfolding block_targets
  block_leads n w b block e word hit = subst (λ (l : List ℕ). Has l b) (sym (map_at (block_targets word_at index) index.blocks n block [] e)) (to_targets index (block_words word_at block) b (w, word, hit))

  led_block : (n b : ℕ) (block : Block) → slice_get index.blocks n ≡ Some block → Has (get_or led_by n []) b → Led index (block_words word_at block) b
  unfolding block_targets
  led_block n b block e h = of_targets index (block_words word_at block) b (subst (λ (l : List ℕ). Has l b) (map_at (block_targets word_at index) index.blocks n block [] e) h)

  parts_of_start : (b : ℕ) → Has (targets_of index words_again) b → (s : ℕ) × Has start s × Has (get_or led_by s []) b
  parts_of_start b h =
      let l : Led index words_again b = of_targets index words_again b h in
      ⊎_elim
      (λ k. let p : PartWord word_at pages index.blocks Differing c.kept.items l.0 = of_part word_at pages index.blocks Differing c.kept.items l.0 k in
      (p.number, in_start p.number (inl p.listed), block_leads p.number l.0 b p.block p.at (word_on_is_word word_at pages p.block l.0 p.word) l.2))
      (λ f. let p : PartWord word_at pages index.blocks Whole c.fresh.items l.0 = of_part word_at pages index.blocks Whole c.fresh.items l.0 f in
      (p.number, in_start p.number (inr p.listed), block_leads p.number l.0 b p.block p.at p.word l.2))
      (of_append _ _ l.0 (subst (λ (ws : List ℕ). Has ws l.0) again_parts l.1))

  nothing_left : IsCarry (length index.blocks) c → OthersLeadWithin word_at index pages c.kept.items c.fresh.items → (s b : ℕ) → Has start s → Has (get_or led_by s []) b → Has (targets_of index words_again) b ⊎ Has start b
  nothing_left carried others s b in_s h = ⊎_elim kept fresh (of_start s in_s)
    where
      again : (w : ℕ) → Has words_again w → Has (hits_of index w) b → Has (targets_of index words_again) b
      again w i hit = to_targets index words_again b (w, i, hit)

      kept : Has c.kept.items s → Has (targets_of index words_again) b ⊎ Has start b
      kept k =
          let at : (x : Block) × (slice_get index.blocks s ≡ Some x) = at_number index.blocks s (carried.kept_inside s k) in
          let l : Led index (block_words word_at at.0) b = led_block s b at.0 at.1 h in
          let p : (a : ℕ) × Has (places at.0.start (at.0.start + at.0.size)) a × (word_at a ≡ Some l.0) = place_of_word word_at at.0 l.0 l.1 in
          let bounds = place_bounds at.0 p.0 p.1 in
          ⊎_elim
          (λ on. inl (again l.0 (subst (λ (ws : List ℕ). Has ws l.0) (sym again_parts) (has_front _ _ l.0 (to_part word_at pages index.blocks Differing c.kept.items l.0 s at.0 k at.1 (word_on_page word_at pages at.0 p.0 l.0 p.1 p.2 on)))) l.2))
          (λ off. inr (in_start b (others s at.0 at.1 k p.0 l.0 bounds.0 bounds.1 p.2 off b l.2)))
          (has_or_not pages (page_of p.0))

      fresh : Has c.fresh.items s → Has (targets_of index words_again) b ⊎ Has start b
      fresh f =
          let at : (x : Block) × (slice_get index.blocks s ≡ Some x) = at_number index.blocks s (carried.fresh_inside s f) in
          let l : Led index (block_words word_at at.0) b = led_block s b at.0 at.1 h in
          inl (again l.0 (subst (λ (ws : List ℕ). Has ws l.0) (sym again_parts) (has_back _ _ l.0 (to_part word_at pages index.blocks Whole c.fresh.items l.0 s at.0 f at.1 l.1))) l.2)

  pub are_enough : IsCarry (length index.blocks) c → OthersLeadWithin word_at index pages c.kept.items c.fresh.items → AreEnough led_by start (targets_of index words_again)
  are_enough carried others = record { of_start = parts_of_start; enough = nothing_left carried others }

-- ---- what marking from the start comes to

module _ (word_at : ℕ → Option ℕ) (index : Index) (places : Places) (pages : List ℕ) (c : Carry) (s : Start) (permuted : IsPermutation (c.kept.items ++ c.fresh.items) s.marked.items)
    (rescan : s.rescan.items ≡ parts_of c) (whole : RetraceIsWhole) (carried : IsCarry (length index.blocks) c) (others : OthersLeadWithin word_at index pages c.kept.items c.fresh.items) where
  abbrev roots : List ℕ
  roots = led_by_roots word_at index places

  abbrev leading : List (List ℕ)
  leading = map (block_targets word_at index) index.blocks

  abbrev parts : List ℕ
  parts = targets_of index (words_again word_at index pages c s.marked.items permuted)

  -- the graph that was marked
  same_retrace : (b : ℕ) → Reach (graph_from word_at index places pages s) b ↔ Reach (retrace_graph roots leading s.marked.items parts) b
  unfolding graph_of
  same_retrace = reach_same (graph_from word_at index places pages s) (retrace_graph roots leading s.marked.items parts)
      (λ x. (λ h. subst (λ (l : List ℕ). Has l x) first h, λ h. subst (λ (l : List ℕ). Has l x) (sym first) h)) (λ x. (λ h. h, λ h. h)) refl
    where
      first : led_by_roots word_at index places ++ targets_of index (flat_map (part_words word_at pages index.blocks) s.rescan.items) ≡ roots ++ parts
      first = ap (λ (ps : List (ℕ × Part)). roots ++ targets_of index (flat_map (part_words word_at pages index.blocks) ps)) rescan

  -- the graph of two cores
  same_whole : (b : ℕ) → Reach (whole_graph roots leading s.marked.items) b ↔ Reach (graph_of_two word_at index (led_by_roots word_at index places) c.kept.items c.fresh.items) b
  unfolding graph_of
  same_whole = reach_same (whole_graph roots leading s.marked.items) (graph_of_two word_at index (led_by_roots word_at index places) c.kept.items c.fresh.items)
      (λ x. (to x, of x)) (λ x. (λ h. h, λ h. h)) refl
    where
      to : (x : ℕ) → Has (s.marked.items ++ roots) x → Has (c.kept.items ++ c.fresh.items ++ roots) x
      to x h = ⊎_elim
          (λ m. has_front (c.kept.items ++ c.fresh.items) roots x (to_permutation (c.kept.items ++ c.fresh.items) s.marked.items x permuted m))
          (λ r. has_back (c.kept.items ++ c.fresh.items) roots x r)
          (of_append s.marked.items roots x h)

      of : (x : ℕ) → Has (c.kept.items ++ c.fresh.items ++ roots) x → Has (s.marked.items ++ roots) x
      of x h = ⊎_elim
          (λ m. has_front s.marked.items roots x (of_permutation (c.kept.items ++ c.fresh.items) s.marked.items x permuted m))
          (λ r. has_back s.marked.items roots x r)
          (of_append (c.kept.items ++ c.fresh.items) roots x h)

  abbrev Two : ℕ → Type 0
  Two b = Reach (graph_of_two word_at index (led_by_roots word_at index places) c.kept.items c.fresh.items) b

  pub to_two : (b : ℕ) → Has s.marked.items b ⊎ Reach (graph_from word_at index places pages s) b → Two b
  to_two b h = (same_whole b).0 ((whole roots leading s.marked.items parts (are_enough word_at index pages c s.marked.items permuted carried others) b).1 (⊎_elim (λ m. inl m) (λ r. inr ((same_retrace b).0 r)) h))

  pub of_two : (b : ℕ) → Two b → Has s.marked.items b ⊎ Reach (graph_from word_at index places pages s) b
  of_two b t = ⊎_elim (λ m. inl m) (λ r. inr ((same_retrace b).1 r)) ((whole roots leading s.marked.items parts (are_enough word_at index pages c s.marked.items permuted carried others) b).0 ((same_whole b).1 t))

  pub set_of_two : (tests : List Bool) → IsSet tests (length index.blocks) (λ i. Has s.marked.items i ⊎ Reach (graph_from word_at index places pages s) i) → IsSet tests (length index.blocks) Two
  set_of_two tests set = record { len = set.len; each = λ i h. (λ e. to_two i ((set.each i h).0 e), λ t. (set.each i h).1 (of_two i t)) }

  -- what the claims partition
  claimed : (i : ℕ) → Reach (graph_from word_at index places pages s) i ↔ (Two i × ¬ Has c.kept.items i × ¬ Has c.fresh.items i)
  unfolding graph_of
  claimed i = (
    λ r. (to_two i (inr r), λ k. reach_outside (graph_from word_at index places pages s) i r (in_start word_at index pages c s.marked.items permuted i (inl k)), λ f. reach_outside (graph_from word_at index places pages s) i r (in_start word_at index pages c s.marked.items permuted i (inr f))),
    λ t. ⊎_elim (λ m. absurd (⊎_elim (λ k. t.1 k) (λ f. t.2 f) (of_start word_at index pages c s.marked.items permuted i m))) (λ r. r) (of_two i t.0),
  )

  pub claims_of_two : (lists : List (List ℕ)) → Partitions lists (Reach (graph_from word_at index places pages s)) → Partitions lists (λ i. Two i × ¬ Has c.kept.items i × ¬ Has c.fresh.items i)
  claims_of_two lists p = partition_same lists (Reach (graph_from word_at index places pages s)) (λ i. Two i × ¬ Has c.kept.items i × ¬ Has c.fresh.items i) claimed p

-- ---- what marking from the start asks

each_part : (P : ℕ → Type 0) (part : Part) (numbers : List ℕ) (more : List (ℕ × Part)) → ((n : ℕ) → Has numbers n → P n) → AllByRecursion (λ (p : ℕ × Part). P p.0) more →
    AllByRecursion (λ (p : ℕ × Part). P p.0) (map (λ (n : ℕ). (n, part)) numbers ++ more)
each_part P part [] more all rest = rest
each_part P part (n ∷ ns) more all rest = (all n (here n ns), each_part P part ns more (λ m h. all m (there n ns m h)) rest)

pub is_start_of : (blocks : ℕ) (c : Carry) (s : Start) → IsCarry blocks c → IsPermutation (c.kept.items ++ c.fresh.items) s.marked.items → s.rescan.items ≡ parts_of c → IsStartOf blocks s
is_start_of blocks c s carried permuted rescan = record {
  inside = λ b h. ⊎_elim (λ k. carried.kept_inside b k) (λ f. carried.fresh_inside b f) (of_append c.kept.items c.fresh.items b (to_permutation (c.kept.items ++ c.fresh.items) s.marked.items b permuted h));
  rescan = subst (λ (ps : List (ℕ × Part)). AllByRecursion (λ (p : ℕ × Part). Has s.marked.items p.0) ps) (sym rescan)
      (each_part (Has s.marked.items) Differing c.kept.items (map (λ (b : ℕ). (b, Whole)) c.fresh.items) (λ n k. of_permutation (c.kept.items ++ c.fresh.items) s.marked.items n permuted (has_front c.kept.items c.fresh.items n k))
      (subst (λ (ps : List (ℕ × Part)). AllByRecursion (λ (p : ℕ × Part). Has s.marked.items p.0) ps) (append-nil (map (λ (b : ℕ). (b, Whole)) c.fresh.items))
      (each_part (Has s.marked.items) Whole c.fresh.items [] (λ n f. of_permutation (c.kept.items ++ c.fresh.items) s.marked.items n permuted (has_back c.kept.items c.fresh.items n f)) tt)));
}

pub is_start_with : (c : Carry) (s : Start) → IsPermutation (c.kept.items ++ c.fresh.items) s.marked.items → s.rescan.items ≡ parts_of c → IsStartWith c s
is_start_with c s permuted rescan = record {
  marked = λ b. (
    λ h. of_append c.kept.items c.fresh.items b (to_permutation (c.kept.items ++ c.fresh.items) s.marked.items b permuted h),
    λ h. of_permutation (c.kept.items ++ c.fresh.items) s.marked.items b permuted (⊎_elim (λ k. has_front c.kept.items c.fresh.items b k) (λ f. has_back c.kept.items c.fresh.items b f) h),
  );
  rescan = rescan;
}
