-- Marking goes on by steps, and ends.
use Rattle.std.proofs.Common.{◌≡◌, ◌⊎◌, ℕ, zero, suc, ◌+◌, ◌<◌, ◌≤◌, List, [], ◌∷◌, ◌++◌, length, map, get_or, take, drop, ◌-◌, refl, sym, ap, ◌∙◌, subst, inl, inr, ⊎_elim, arith, le_of_suc-le-suc}
use Rattle.std.specs.List.{concat}
use Rattle.leak_marks.specs.Lists.{times, Has, Within}
use Rattle.leak_marks.specs.Seats.{Held}
use Rattle.leak_marks.specs.Reach.{Graph, targets_of}
use Rattle.leak_marks.specs.Rounds.{appended_from, IsUnderWay}
use Rattle.leak_marks.proofs.ListLemmas.{times-append}
use Rattle.leak_marks.proofs.ListLemmas.{here, there, at_head}
use Rattle.leak_marks.proofs.RoundLemmas.{times_appended, length_appended, goes_on}
use Rattle.leak_marks.proofs.StackLemmas.{all_led_from}
use Rattle.std.proofs.lemmas.List.{length-map, take_all}
use Rattle.leak_pool.proofs.CountLemmas.{has_at, at_has, few_distinct}
use Rattle.leak_pool.specs.Items.{InRange, IsItem, targets_at, targets_of_block, targets_of_item}
use Rattle.leak_pool.specs.declared.target_source.Item.{Item}
use Rattle.leak_pool.specs.declared.target_source.Item.TheVariants.{Root, Block}
use Rattle.leak_marks.proofs.ListLemmas.{has_front, has_back, of_append}
use Rattle.leak_pool.specs.Rounds.{graph_over, IsStep, IsGoing}

pub going_on : (g : Graph) (blocks w : ℕ) (base : List ℕ) (item : ℕ → Type 0) (claims : List (List ℕ)) (waiting : List ℕ) (seat : Held) (some : List ℕ) (longer : List (List ℕ)) (more : List ℕ) (after : Held) (gained : List (List ℕ)) (left later : List ℕ)
    → IsGoing g blocks w base claims waiting seat → IsStep (targets_of g) item w claims some seat longer more after gained left
    → ((b : ℕ) → item b → Has g.first b ⊎ ((s : ℕ) × Has (concat claims) s × Has (targets_of g s) b)) → ((b : ℕ) → item b → b < blocks) → ((s b : ℕ) → Has (targets_of g s) b → b < blocks)
    → ((s : ℕ) → Has waiting s → Has later s ⊎ ((b : ℕ) → Has (targets_of g s) b → item b)) → Within left later
    → ((s : ℕ) → Has later s → Has (concat claims) s ⊎ Has left s) → IsGoing g blocks w base longer later after
going_on g blocks w base item claims waiting seat some longer more after gained left later i s items inside follows waits rest held = record {
  under = subst (λ (l : List (List ℕ)). IsUnderWay g w l later after.seen) (sym s.claims_are)
      (goes_on g w item claims gained left waiting later seat.seen after.seen i.under s.kept
      (record { items = items; few = s.few; once = λ b. let a = all b in let c = counts b in let d : times b after.claims ≤ 1 = s.sound.distinct b in let e = i.count b in omega arith; waits = waits; rest = rest }));
  long = ap (λ (l : List (List ℕ)). length l) s.claims_are ∙ length_appended 0 claims gained ∙ i.long;
  sound = s.sound;
  whole = s.share ∙ i.whole;
  count = λ b. let a = all b in let c = counts b in let e = i.count b in let l : times b (concat longer) ≡ times b (concat (appended_from 0 claims gained)) = ap (λ (x : List (List ℕ)). times b (concat x)) s.claims_are in omega arith;
  base_given = i.base_given;
  inside = λ b h. ⊎_elim (λ old. i.inside b old) (λ new. all_led_from (targets_of g) item (λ x. x < blocks) inside follows gained s.kept.led b new)
      (of_append seat.claims (concat gained) b (subst (λ (l : List ℕ). Has l b) s.listed h));
  held = λ x h. let l : times x (concat longer) ≡ times x (concat (appended_from 0 claims gained)) = ap (λ (y : List (List ℕ)). times x (concat y)) s.claims_are in let c = counts x in
      ⊎_elim (λ old. let o : 0 < times x (concat claims) = old in let r : 0 < times x (concat longer) = omega arith in r)
      (λ new. let o : 0 < times x (concat gained) = s.of_gained x new in let r : 0 < times x (concat longer) = omega arith in r) (held x h);
}
  where
    counts : (b : ℕ) → times b (concat (appended_from 0 claims gained)) ≡ times b (concat claims) + times b (concat gained)
    counts b = times_appended b 0 claims gained (let f = s.few in let l = i.long in omega arith)

    all : (b : ℕ) → times b after.claims ≡ times b seat.claims + times b (concat gained)
    all b = ap (λ (l : List ℕ). times b l) s.listed ∙ times-append b seat.claims (concat gained)

-- ---- blocks as items

block_at : (ws : List ℕ) (k : ℕ) → k < length ws → get_or (map Block ws) k (Root 0) ≡ Block (get_or ws k 0)
block_at [] k h = absurd (omega arith)
block_at (w ∷ ws) zero h = refl
block_at (w ∷ ws) (suc k) h = block_at ws k (le_of_suc-le-suc h)

-- a round over blocks: its items lead to what the blocks lead to
pub of_block : (roots targets : List (List ℕ)) (ws : List ℕ) (b : ℕ) → InRange (targets_at roots targets (map Block ws)) 0 (length (map Block ws)) b → length (map Block ws) ≡ length ws → (s : ℕ) × Has ws s × Has (get_or targets s []) b
of_block roots targets ws b r long = let k : ℕ = r.0 in let below : k < length (map Block ws) = r.2 in let inside : k < length ws = omega arith in
    (get_or ws k 0, at_has ws k inside, subst (λ (i : Item). Has (targets_of_item roots targets i) b) (block_at ws k inside) r.3)

pub to_block : (roots targets : List (List ℕ)) (ws : List ℕ) (s b : ℕ) → Has ws s → Has (get_or targets s []) b → length (map Block ws) ≡ length ws → InRange (targets_at roots targets (map Block ws)) 0 (length (map Block ws)) b
to_block roots targets ws s b h t long = let m : (k : ℕ) × (k < length ws) × (get_or ws k 0 ≡ s) = has_at ws s h in let inside : m.0 < length ws = m.1 in
    (m.0, omega arith, omega arith, subst (λ (i : Item). Has (targets_of_item roots targets i) b) (sym (block_at ws m.0 inside)) (subst (λ (y : ℕ). Has (get_or targets y []) b) (sym m.2) t))

-- ---- a later round: the caller scans the first of the blocks, the workers the others
pub later_round : (roots targets : List (List ℕ)) (given : List ℕ) (blocks w : ℕ) (base : List ℕ) (x : ℕ) (ws : List ℕ) (c0 c1 c2 : List (List ℕ)) (m0 m1 m2 : List ℕ) (s0 s1 s2 : Held) (g1 g2 : List (List ℕ)) (l1 l2 : List ℕ) (items : List Item)
    → ((k b : ℕ) → Has (get_or targets k []) b → b < blocks) → items ≡ map Block ws → length (map Block ws) ≡ length ws → m0 ≡ []
    → IsGoing (graph_over roots targets given) blocks w base c0 (x ∷ ws) s0
    → IsStep (targets_of_block targets) (Has (get_or targets x [])) w c0 m0 s0 c1 m1 s1 g1 l1
    → IsStep (targets_of_block targets) (InRange (targets_at roots targets items) 0 (length items)) w c1 m1 s1 c2 m2 s2 g2 l2
    → IsGoing (graph_over roots targets given) blocks w base c2 m2 s2
later_round roots targets given blocks w base x ws c0 c1 c2 m0 m1 m2 s0 s1 s2 g1 g2 l1 l2 items inside items_are long none going first second =
    going_on (graph_over roots targets given) blocks w base (InRange T 0 n) c1 (ws ++ l1) s1 m1 c2 m2 s2 g2 l2 m2 mid second'
    (λ b r. let s = of_block roots targets ws b r long in inr (s.0, mid.held s.0 (has_front ws l1 s.0 s.1), s.2))
    (λ b r. let s = of_block roots targets ws b r long in inside s.0 b s.2) inside
    (λ s h. ⊎_elim (λ old. inr (λ b t. to_block roots targets ws s b old t long)) (λ new. inl (subst (λ (l : List ℕ). Has l s) (sym second'.waiting_are) (has_front m1 l2 s (subst (λ (l : List ℕ). Has l s) (sym m1_is) new)))) (of_append ws l1 s h))
    (λ s h. subst (λ (l : List ℕ). Has l s) (sym second'.waiting_are) (has_back m1 l2 s h))
    (λ s h. ⊎_elim (λ old. inl (mid.held s (has_back ws l1 s (subst (λ (l : List ℕ). Has l s) m1_is old)))) (λ new. inr new) (of_append m1 l2 s (subst (λ (l : List ℕ). Has l s) second'.waiting_are h)))
  where
    T : ℕ → List ℕ
    T = targets_at roots targets (map Block ws)

    n : ℕ
    n = length (map Block ws)

    m1_is : m1 ≡ l1
    m1_is = first.waiting_are ∙ ap (λ (l : List ℕ). l ++ l1) none

    second' : IsStep (targets_of_block targets) (InRange (targets_at roots targets (map Block ws)) 0 (length (map Block ws))) w c1 m1 s1 c2 m2 s2 g2 l2
    second' = subst (λ (l : List Item). IsStep (targets_of_block targets) (InRange (targets_at roots targets l) 0 (length l)) w c1 m1 s1 c2 m2 s2 g2 l2) items_are second

    mid : IsGoing (graph_over roots targets given) blocks w base c1 (ws ++ l1) s1
    mid = going_on (graph_over roots targets given) blocks w base (Has (get_or targets x [])) c0 (x ∷ ws) s0 m0 c1 m1 s1 g1 l1 (ws ++ l1) going first
        (λ b h. inr (x, going.held x (here x ws), h)) (λ b h. inside x b h) inside
        (λ s h. ⊎_elim (λ e. inr (λ b t. subst (λ (y : ℕ). Has (get_or targets y []) b) (sym e) t)) (λ r. inl (has_front ws l1 s r)) (at_head x ws s h))
        (λ s h. has_back ws l1 s h)
        (λ s h. ⊎_elim (λ r. inl (going.held s (there x ws s r))) (λ r. inr r) (of_append ws l1 s h))

pub going_few : (g : Graph) (blocks w : ℕ) (base : List ℕ) (claims : List (List ℕ)) (waiting : List ℕ) (seat : Held) → IsGoing g blocks w base claims waiting seat → length seat.claims ≤ blocks
going_few g blocks w base claims waiting seat i = few_distinct blocks seat.claims i.sound.distinct i.inside

-- what waits are blocks
pub waiting_inside : (g : Graph) (blocks w : ℕ) (base : List ℕ) (claims : List (List ℕ)) (waiting : List ℕ) (seat : Held) → IsGoing g blocks w base claims waiting seat → (b : ℕ) → Has waiting b → b < blocks
waiting_inside g blocks w base claims waiting seat i b h = i.inside b (let c : 0 < times b (concat claims) = i.held b h in let e = i.count b in let r : 0 < times b seat.claims = omega arith in r)

-- the items of blocks are items
pub all_blocks : (roots targets : List (List ℕ)) (ws : List ℕ) → ((b : ℕ) → Has ws b → b < length targets) → (k : ℕ) (d : Item) → k < length (map Block ws) → IsItem roots targets (get_or (map Block ws) k d)
all_blocks roots targets [] h k d l = absurd (omega arith)
all_blocks roots targets (w ∷ ws) h zero d l = h w (here w ws)
all_blocks roots targets (w ∷ ws) h (suc k) d l = all_blocks roots targets ws (λ b i. h b (there w ws b i)) k d (le_of_suc-le-suc l)

pub blocks_long : (ws : List ℕ) → length (map Block ws) ≡ length ws
blocks_long ws = length-map ws Block

pub front_rest : (ws : List ℕ) → 0 < length ws → ws ≡ get_or ws 0 0 ∷ take (length ws - 1) (drop 1 ws)
front_rest [] h = absurd (omega arith)
front_rest (x ∷ xs) h = ap (λ (l : List ℕ). x ∷ l) (sym (take_all (length (x ∷ xs) - 1) xs (omega arith)))
