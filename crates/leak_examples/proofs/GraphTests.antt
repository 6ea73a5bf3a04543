-- Tests that a graph passes by computing, and what they show of its chains.
use Rattle.std.proofs.Common.{◌≡◌, ◌↔◌, ℕ, zero, suc, ◌+◌, ◌<◌, ◌≤◌, ⊎_elim, Bool, true, false, not, ◌&&◌, ◌||◌, ◌==◌, List, [], ◌∷◌, length, map, get_or, Some, slice_get, refl, sym, ap, subst, ◌∙◌, append-nil, arith}
use Rattle.std.specs.Prelude.{nat_le}
use Rattle.std.specs.List.{concat, list_all, list_any, range_with_len}
use Rattle.std.proofs.lemmas.Bool.{eqb-true, leb-true}
use Rattle.std.proofs.lemmas.List.FromFn.{length-map-range_with_len}
use Rattle.std.proofs.lemmas.Option.{same_Some}
use Rattle.leak_lemmas.proofs.Bools.{not_true, and_right, and_left}
use Rattle.leak_marks.specs.Lists.{Has, has, times}
use Rattle.leak_marks.specs.Partition.{Partitions}
use Rattle.leak_marks.specs.Reach.{Graph, IsChain, Reach, targets_of}
use Rattle.leak_marks.proofs.ListLemmas.{none_has, here, there, at_head, of_has, to_has}
use Rattle.leak_pool.specs.Marking.{IsSet}

pub each_passes : (test : ℕ → Bool) (xs : List ℕ) (x : ℕ) → list_all test xs ≡ true → Has xs x → test x ≡ true
each_passes test [] x all h = absurd (none_has x h)
each_passes test (y ∷ ys) x all h = ⊎_elim
    (λ s. subst (λ (z : ℕ). test z ≡ true) s (and_left (test y) (list_all test ys) all))
    (λ r. each_passes test ys x (and_right (test y) (list_all test ys) all) r)
    (at_head y ys x h)

-- ---- a set that chains don't leave

or_other : (a b : Bool) → (a || b) ≡ true → (a ≡ true → ⊥) → b ≡ true
or_other true b e none = absurd (none refl)
or_other false b e none = e

-- no chain passes the block, or it is in the set
abbrev pub is_kept : Graph → List ℕ → ℕ → Bool
is_kept g set b = has g.given b || has set b

-- of what root words lead to, and what its blocks lead to, the set has all that chains pass
abbrev pub is_closed : Graph → List ℕ → Bool
is_closed g set = list_all (is_kept g set) g.first && list_all (λ s. list_all (is_kept g set) (targets_of g s)) set

kept_inside : (g : Graph) (set : List ℕ) (b : ℕ) → ¬ Has g.given b → is_kept g set b ≡ true → Has set b
kept_inside g set b free t = of_has set b (or_other (has g.given b) (has set b) t (λ e. free (of_has g.given b e)))

pub chain_inside : (g : Graph) (set : List ℕ) (b : ℕ) (before : List ℕ) → is_closed g set ≡ true → IsChain g (b ∷ before) → Has set b
chain_inside g set b [] t c = kept_inside g set b c.0 (each_passes (is_kept g set) g.first b (and_left (list_all (is_kept g set) g.first) _ t) c.1)
chain_inside g set b (s ∷ before) t c =
    let source : Has set s = chain_inside g set s before t c.2 in
    kept_inside g set b c.0 (each_passes (is_kept g set) (targets_of g s) b
    (each_passes (λ r. list_all (is_kept g set) (targets_of g r)) set s (and_right (list_all (is_kept g set) g.first) _ t) source) c.1)

-- ---- levels

-- the level of the block with the number
abbrev pub level : List ℕ → ℕ → ℕ
level levels b = get_or levels b 0

-- from the block with the number on, no block leads to one that is more than a level above it
abbrev pub are_next : List ℕ → ℕ → List (List ℕ) → Bool
are_next levels i [] = true
are_next levels i (ts ∷ targets) = list_all (λ t. nat_le (level levels t) (level levels i + 1)) ts && are_next levels (i + 1) targets

-- root words lead to blocks of level 0 alone
abbrev pub are_levels : Graph → List ℕ → Bool
are_levels g levels = list_all (λ b. nat_le (level levels b) 0) g.first && are_next levels 0 g.targets

next_level : (levels : List ℕ) (i k n : ℕ) (targets : List (List ℕ)) (t : ℕ) → are_next levels i targets ≡ true → n ≡ i + k → Has (get_or targets k []) t → level levels t ≤ level levels n + 1
next_level levels i k n [] t all e h = absurd (none_has t h)
next_level levels i zero n (ts ∷ targets) t all e h =
    let s : i ≡ n = omega arith in
    subst (λ (j : ℕ). level levels t ≤ level levels j + 1) s
    (leb-true (level levels t) (level levels i + 1) (each_passes (λ u. nat_le (level levels u) (level levels i + 1)) ts t (and_left _ (are_next levels (i + 1) targets) all) h))
next_level levels i (suc k) n (ts ∷ targets) t all e h = next_level levels (i + 1) k n targets t (and_right (list_all (λ u. nat_le (level levels u) (level levels i + 1)) ts) _ all) (omega arith) h

-- a chain to a block has as many blocks before it as its level, or more
pub chain_long : (g : Graph) (levels : List ℕ) (b : ℕ) (before : List ℕ) → are_levels g levels ≡ true → IsChain g (b ∷ before) → level levels b ≤ length before
chain_long g levels b [] t c = leb-true (level levels b) 0 (each_passes (λ x. nat_le (level levels x) 0) g.first b (and_left _ (are_next levels 0 g.targets) t) c.1)
chain_long g levels b (s ∷ before) t c =
    let earlier : level levels s ≤ length before = chain_long g levels s before t c.2 in
    let step : level levels b ≤ level levels s + 1 = next_level levels 0 s s g.targets b (and_right (list_all (λ x. nat_le (level levels x) 0) g.first) _ t) (omega arith) c.1 in
    omega arith

-- ---- blocks that chains reach

-- a root word leads to the block, or a block before it in the list does, and chains pass it
abbrev pub is_led : Graph → List ℕ → ℕ → Bool
is_led g done b = not (has g.given b) && (has g.first b || list_any (λ s. has (targets_of g s) b) done)

abbrev pub are_led : Graph → List ℕ → List ℕ → Bool
are_led g done [] = true
are_led g done (b ∷ blocks) = is_led g done b && are_led g (b ∷ done) blocks

some_passes : (test : ℕ → Bool) (xs : List ℕ) → list_any test xs ≡ true → (x : ℕ) × Has xs x × (test x ≡ true)
some_passes test [] any = absurd (let e : false ≡ true = any in cc)
some_passes test (y ∷ ys) any = go (test y) refl any (λ k. some_passes test ys k)
  where
    go : (t : Bool) → test y ≡ t → (t || list_any test ys) ≡ true → (list_any test ys ≡ true → (x : ℕ) × Has ys x × (test x ≡ true)) → (x : ℕ) × Has (y ∷ ys) x × (test x ≡ true)
    go true e some rest = (y, here y ys, e)
    go false e some rest = let r : (x : ℕ) × Has ys x × (test x ≡ true) = rest some in (r.0, there y ys r.0 r.1, r.2)

led_reach : (g : Graph) (done : List ℕ) (b : ℕ) → ((x : ℕ) → Has done x → Reach g x) → is_led g done b ≡ true → Reach g b
led_reach g done b reached t = go (has g.first b) refl (and_right (not (has g.given b)) _ t)
  where
    free : ¬ Has g.given b
    free h = not_true (has g.given b) (and_left (not (has g.given b)) _ t) (to_has g.given b h)

    go : (first : Bool) → has g.first b ≡ first → (first || list_any (λ s. has (targets_of g s) b) done) ≡ true → Reach g b
    go true e some = ([], (free, of_has g.first b e))
    go false e some =
        let s : (x : ℕ) × Has done x × (has (targets_of g x) b ≡ true) = some_passes (λ s. has (targets_of g s) b) done some in
        let r : Reach g s.0 = reached s.0 s.1 in
        (s.0 ∷ r.0, (free, of_has (targets_of g s.0) b s.2, r.1))

each_reached : (g : Graph) (done blocks : List ℕ) → ((x : ℕ) → Has done x → Reach g x) → are_led g done blocks ≡ true → (b : ℕ) → Has blocks b → Reach g b
each_reached g done [] reached t b h = absurd (none_has b h)
each_reached g done (c ∷ blocks) reached t b h =
    let this : Reach g c = led_reach g done c reached (and_left (is_led g done c) (are_led g (c ∷ done) blocks) t) in
    ⊎_elim
    (λ s. subst (Reach g) s this)
    (λ r. each_reached g (c ∷ done) blocks
    (λ x k. ⊎_elim (λ s. subst (Reach g) s this) (λ m. reached x m) (at_head c done x k))
    (and_right (is_led g done c) (are_led g (c ∷ done) blocks) t) b r)
    (at_head c blocks b h)

-- the list has all blocks that chains reach, and no others
abbrev pub is_reached : Graph → List ℕ → Bool
is_reached g blocks = is_closed g blocks && are_led g [] blocks

pub reach_is : (g : Graph) (blocks : List ℕ) (b : ℕ) → is_reached g blocks ≡ true → Reach g b ↔ (has blocks b ≡ true)
reach_is g blocks b t = (
  (λ r. to_has blocks b (chain_inside g blocks b r.0 (and_left (is_closed g blocks) (are_led g [] blocks) t) r.1)),
  (λ h. each_reached g [] blocks (λ x k. absurd (none_has x k)) (and_right (is_closed g blocks) (are_led g [] blocks) t) b (of_has blocks b h)),
)

-- ---- tests of all blocks

-- for each of this many blocks, whether it is in the list
abbrev pub tests_of : List ℕ → ℕ → List Bool
tests_of blocks n = map (has blocks) (range_with_len 0 n)

test_at : (f : ℕ → Bool) (n from i k : ℕ) → i < n → k ≡ from + i → slice_get (map f (range_with_len from n)) i ≡ Some (f k)
test_at f zero from i k h e = absurd (omega arith)
test_at f (suc n) from zero k h e = ap (λ (j : ℕ). Some (f j)) (let s : from ≡ k = omega arith in s)
test_at f (suc n) from (suc i) k h e = test_at f n (from + 1) i k (omega arith) (omega arith)

pub tests_are : (g : Graph) (blocks : List ℕ) (n : ℕ) → is_reached g blocks ≡ true → IsSet (tests_of blocks n) n (Reach g)
tests_are g blocks n t = record {
  len = length-map-range_with_len (has blocks) 0 n;
  each = λ i h.
      let at : slice_get (tests_of blocks n) i ≡ Some (has blocks i) = test_at (has blocks) n 0 i i h (omega arith) in
      let is : Reach g i ↔ (has blocks i ≡ true) = reach_is g blocks i t in
      ((λ s. is.1 (same_Some (has blocks i) true (sym at ∙ s))), (λ r. at ∙ ap Some (is.0 r)));
}

same_bool : (x y : Bool) → (x ≡ true → y ≡ true) → (y ≡ true → x ≡ true) → x ≡ y
same_bool true y there back = sym (there refl)
same_bool false true there back = back refl
same_bool false false there back = refl

-- two lists of tests of one set are the same
pub same_tests : (P : ℕ → Type 0) (s t : List Bool) (n : ℕ) → IsSet s n P → IsSet t n P → s ≡ t
same_tests P s t n a b = go s t (a.len ∙ sym b.len)
    (λ i h e. (b.each i (let l = a.len in omega arith)).1 ((a.each i (let l = a.len in omega arith)).0 e))
    (λ i h e. (a.each i (let l = a.len in omega arith)).1 ((b.each i (let l = a.len in omega arith)).0 e))
  where
    go : (s t : List Bool) → length s ≡ length t → ((i : ℕ) → i < length s → slice_get s i ≡ Some true → slice_get t i ≡ Some true)
        → ((i : ℕ) → i < length s → slice_get t i ≡ Some true → slice_get s i ≡ Some true) → s ≡ t
    go [] [] e there back = refl
    go [] (y ∷ ys) e there back = absurd (omega arith)
    go (x ∷ xs) [] e there back = absurd (omega arith)
    go (x ∷ xs) (y ∷ ys) e there back =
        ap (λ (z : Bool). z ∷ xs) (same_bool x y (λ h. same_Some y true (there 0 (omega arith) (ap Some h))) (λ h. same_Some x true (back 0 (omega arith) (ap Some h))))
        ∙ ap (λ (zs : List Bool). y ∷ zs) (go xs ys (omega arith) (λ i h k. there (suc i) (omega arith) k) (λ i h k. back (suc i) (omega arith) k))

-- one list of claims, which has each of the blocks once, is all claims
pub one_list : (g : Graph) (blocks : List ℕ) (claims : List (List ℕ)) → is_reached g blocks ≡ true → list_all (λ b. times b blocks == 1) blocks ≡ true → claims ≡ blocks ∷ [] → Partitions claims (Reach g)
one_list g blocks claims t each is = record {
  once = λ b r.
      let h : Has blocks b = of_has blocks b ((reach_is g blocks b t).0 r) in
      ap (λ (l : List ℕ). times b l) whole ∙ eqb-true (times b blocks) 1 (each_passes (λ x. times x blocks == 1) blocks b each h);
  only = λ b h. (reach_is g blocks b t).1 (to_has blocks b (subst (λ (l : List ℕ). Has l b) whole h));
}
  where
    whole : concat claims ≡ blocks
    whole = ap (λ (l : List (List ℕ)). concat l) is ∙ append-nil blocks
