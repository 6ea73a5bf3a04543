-- Promises of halves, put together.
use Rattle.std.proofs.Common.{◌≡◌, ◌⊎◌, ℕ, ◌+◌, ◌-◌, ◌*◌, ◌/◌, ◌%◌, ◌<◌, ◌≤◌, List, [], ◌∷◌, ◌++◌, length, map, Ok, Err, sym, ap, ◌∙◌, subst, inl, inr, arith, append_assoc}
use Rattle.std.specs.Prelude.{Option, Some, IfSome, Result, IfOk, IsOkAnd}
use Rattle.std.specs.List.{concat, sum_by}
use Rattle.std.proofs.lemmas.Nat.{le-div}
use Rattle.std.proofs.Math.Nat.{div-mul-le_self, mul-le-mul_right, mul-add-div_right, mul-div_cancel_left, mul-div-le, mul-add, mul_assoc}
use Rattle.std.proofs.lemmas.Nat.{div-add-mod'}
use Rattle.std.proofs.lemmas.List.{length-append, map-append}
use Rattle.std.proofs.lemmas.List.Folds.{concat-append}
use Rattle.std.proofs.lemmas.List.Sums.{sum_by-append}
use mathlib.Core.Logic.{dite}
use native.Mathlib.Decide.{dec_lt}
use Rattle.leak_marks.specs.Seats.{Held, held}
use Rattle.leak_marks.specs.Lists.{Has, Within}
use Rattle.leak_marks.specs.Rounds.{IsKept}
use Rattle.leak_pool.specs.Items.{InRange, share}
use Rattle.leak_pool.specs.Promises.{AreOwn, AreOfWorkers, IsHalf}
use Rattle.leak_marks.proofs.ListLemmas.{within_append}
use Rattle.leak_marks.proofs.HalfLemmas.{kept_beside, kept_in_turn}

pub share-mono : (a b n m : ℕ) → 0 < m → a ≤ b → share a n m ≤ share b n m
unfolding share
share-mono a b n m pos h = le-div (a * n / m) (b * n) m pos (let p = div-mul-le_self (a * n) m in let q : a * n ≤ b * n = mul-le-mul_right n h in omega arith)

-- without a product that could be large
pub share_is : (k n m : ℕ) → 0 < m → k * (n / m) + k * (n % m) / m ≡ share k n m
unfolding share
share_is k n m pos = sym (ap (λ x. x / m) whole ∙ mul-add-div_right pos (k * (n / m)) (k * (n % m)))
  where
    whole : k * n ≡ k * (n / m) * m + k * (n % m)
    whole = ap (λ x. k * x) (sym (div-add-mod' n m)) ∙ mul-add k (n / m * m) (n % m) ∙ ap (λ x. x + k * (n % m)) (sym (mul_assoc k (n / m) m))

pub share_within : (k n m : ℕ) → 0 < m → k ≤ m → share k n m ≤ n
unfolding share
share_within k n m pos h = let s = share-mono k m n m pos h in let e : m * n / m ≡ n = mul-div_cancel_left n pos in omega arith

pub quotient_within : (k n m : ℕ) → k ≤ m → k * (n / m) ≤ n
quotient_within k n m h = let a : k * (n / m) ≤ m * (n / m) = mul-le-mul_right (n / m) h in let b = mul-div-le n m in omega arith

-- two results, of which a third is made
pub pair_ok : {X E : Type 0} (r f s : Result X E) (J : X → X → X → Type 0) (A B P : X → Type 0)
    → IfOk r (λ l. IsOkAnd f (λ a. IsOkAnd s (λ b. J l a b))) → IfOk f A → IfOk s B → ((l a b : X) → J l a b → A a → B b → P l) → IfOk r P
pair_ok (Err e) f s J A B P j x y k = tt
pair_ok (Ok l) (Err e) s J A B P j x y k = absurd j
pair_ok (Ok l) (Ok a) (Err e) J A B P j x y k = absurd j
pair_ok (Ok l) (Ok a) (Ok b) J A B P j x y k = k l a b j x y

module _ (targets : ℕ → List ℕ) (low middle high : ℕ) (lower : low ≤ middle) (upper : middle ≤ high) where
  first_of : (b : ℕ) → InRange targets low middle b → InRange targets low high b
  first_of b r = let below : r.0 < middle = r.2 in (r.0, r.1, omega arith, r.3)

  second_of : (b : ℕ) → InRange targets middle high b → InRange targets low high b
  second_of b r = let from : middle ≤ r.0 = r.1 in (r.0, omega arith, r.2, r.3)

  split_at : (b : ℕ) → InRange targets low high b → InRange targets low middle b ⊎ InRange targets middle high b
  split_at b r = dite (dec_lt r.0 middle) (λ lt. inl (r.0, r.1, lt, r.3)) (λ ge. inr (r.0, omega arith, r.2, r.3))

-- the lists of the first workers, and after them those of the others
own_both : (blocks targets : ℕ → List ℕ) (items workers low middle : ℕ) (g1 g2 : List (List ℕ)) → low + length g1 ≡ middle
    → AreOwn blocks targets items workers low g1 → AreOwn blocks targets items workers middle g2 → AreOwn blocks targets items workers low (g1 ++ g2)
own_both blocks targets items workers low middle [] g2 count a b = let is : middle ≡ low = omega arith in subst (λ (k : ℕ). AreOwn blocks targets items workers k g2) is b
own_both blocks targets items workers low middle (g ∷ g1) g2 count a b = (a.0, own_both blocks targets items workers (low + 1) middle g1 g2 (omega arith) a.1 b)

-- and what they left
workers_both : (blocks targets : ℕ → List ℕ) (stack items workers low middle : ℕ) (g1 g2 : List (List ℕ)) (l1 l2 : List ℕ) → low + length g1 ≡ middle
    → AreOfWorkers blocks targets stack items workers low g1 l1 → AreOfWorkers blocks targets stack items workers middle g2 l2 → AreOfWorkers blocks targets stack items workers low (g1 ++ g2) (l1 ++ l2)
workers_both blocks targets stack items workers low middle g1 g2 l1 l2 count a b = record {
  own = own_both blocks targets items workers low middle g1 g2 count a.own b.own;
  full = let above : List ℕ → ℕ = λ l. length l - stack in
      let s : sum_by above (g1 ++ g2) ≡ sum_by above g1 + sum_by above g2 = sum_by-append above g1 g2 in
      let l = length-append l1 l2 in let p = a.full in let q = b.full in omega arith;
  direct = λ z. own_both (λ s. []) targets items workers low middle g1 g2 count (a.direct z) (b.direct z);
  all_left = λ z. ap (λ (l : List ℕ). l ++ l2) (a.all_left z) ∙ ap (λ (l : List ℕ). concat g1 ++ l) (b.all_left z) ∙ sym (concat-append g1 g2);
}

module _ (blocks targets : ℕ → List ℕ) (stack items workers low middle high : ℕ) (some : 0 < workers) (lower : low ≤ middle) (upper : middle ≤ high) where
  counts : (g1 g2 : List (List ℕ)) → low + length g1 ≡ middle → middle + length g2 ≡ high → low + length (g1 ++ g2) ≡ high
  counts g1 g2 p q = let l = length-append g1 g2 in omega arith

  -- where the shares begin
  abbrev a : ℕ
  a = share low items workers

  abbrev b : ℕ
  b = share middle items workers

  abbrev c : ℕ
  c = share high items workers

  fewer : (g1 g2 : List (List ℕ)) (l1 l2 : List ℕ) → length l1 ≤ length (concat g1) → length l2 ≤ length (concat g2) → length (l1 ++ l2) ≤ length (concat (g1 ++ g2))
  fewer g1 g2 l1 l2 p q =
      let len : List ℕ → ℕ = λ l. length l in
      let x = length-append l1 l2 in let y : length (concat (g1 ++ g2)) ≡ length (concat g1) + length (concat g2) = ap len (concat-append g1 g2) ∙ length-append (concat g1) (concat g2) in omega arith

  within : (g1 g2 : List (List ℕ)) (l1 l2 : List ℕ) → Within l1 (concat g1) → Within l2 (concat g2) → Within (l1 ++ l2) (concat (g1 ++ g2))
  within g1 g2 l1 l2 p q x h = subst (λ (l : List ℕ). Has l x) (sym (concat-append g1 g2)) (within_append l1 l2 (concat g1) (concat g2) p q x h)

  -- one half after the other
  pub half_after : (s0 s1 s2 : Held) (g1 g2 : List (List ℕ)) (l1 l2 : List ℕ) → IsHalf blocks targets stack items workers low middle s0 s1 g1 l1 → IsHalf blocks targets stack items workers middle high s1 s2 g2 l2
      → IsHalf blocks targets stack items workers low high s0 s2 (g1 ++ g2) (l1 ++ l2)
  half_after s0 s1 s2 g1 g2 l1 l2 x y = record {
    count = counts g1 g2 x.count y.count;
    listed = y.listed ∙ ap (λ (l : List ℕ). l ++ concat g2) x.listed ∙ append_assoc s0.claims (concat g1) (concat g2) ∙ ap (λ (l : List ℕ). s0.claims ++ l) (sym (concat-append g1 g2));
    of_gained = within g1 g2 l1 l2 x.of_gained y.of_gained;
    few = fewer g1 g2 l1 l2 x.few y.few;
    own = workers_both blocks targets stack items workers low middle g1 g2 l1 l2 x.count x.own y.own;
    kept = let p = share-mono low middle items workers some lower in let q = share-mono middle high items workers some upper in
        kept_in_turn blocks (InRange targets a b) (InRange targets b c) (InRange targets a c) (first_of targets a b c p q) (second_of targets a b c p q) (split_at targets a b c p q)
        s0.seen s1.seen s2.seen g1 g2 l1 l2 x.kept y.kept;
  }

  -- the two at once
  pub half_joined : (start giver given one two end : Held) (g1 g2 : List (List ℕ)) (l1 l2 : List ℕ) → giver ≡ held start.table start.claims start.seen (start.share - 1) → given ≡ held start.table [] start.seen 1
      → IsHalf blocks targets stack items workers low middle giver one g1 l1 → IsHalf blocks targets stack items workers middle high given two g2 l2
      → end ≡ held one.table (one.claims ++ two.claims) (one.seen ++ two.seen) (one.share + two.share) → IsHalf blocks targets stack items workers low high start end (g1 ++ g2) (l1 ++ l2)
  half_joined start giver given one two end g1 g2 l1 l2 giver_is given_is x y is = record {
    count = counts g1 g2 x.count y.count;
    listed = ap (λ (h : Held). h.claims) is ∙ ap (λ (l : List ℕ). one.claims ++ l) (y.listed ∙ ap (λ (h : Held). h.claims ++ concat g2) given_is) ∙ ap (λ (l : List ℕ). l ++ concat g2) (x.listed ∙ ap (λ (h : Held). h.claims ++ concat g1) giver_is)
        ∙ append_assoc start.claims (concat g1) (concat g2) ∙ ap (λ (l : List ℕ). start.claims ++ l) (sym (concat-append g1 g2));
    of_gained = within g1 g2 l1 l2 x.of_gained y.of_gained;
    few = fewer g1 g2 l1 l2 x.few y.few;
    own = workers_both blocks targets stack items workers low middle g1 g2 l1 l2 x.count x.own y.own;
    kept = let p = share-mono low middle items workers some lower in let q = share-mono middle high items workers some upper in
        subst (λ (h : Held). IsKept blocks (InRange targets a c) start.seen h.seen (g1 ++ g2) (l1 ++ l2)) (sym is)
        (kept_beside blocks (InRange targets a b) (InRange targets b c) (InRange targets a c) (first_of targets a b c p q) (second_of targets a b c p q) (split_at targets a b c p q)
        start.seen one.seen two.seen g1 g2 l1 l2
        (subst (λ (h : Held). IsKept blocks (InRange targets a b) h.seen one.seen g1 l1) giver_is x.kept)
        (subst (λ (h : Held). IsKept blocks (InRange targets b c) h.seen two.seen g2 l2) given_is y.kept));
  }

-- a result that there is
pub some_at : {X : Type 0} (r : Option X) (x : X) (P : X → Type 0) → r ≡ Some x → IfSome r P → P x
some_at r x P e h = subst (λ (q : Option _). IfSome q P) e h

-- the lists of two halves
pub add_two : {V : Type 0} (items : V → List ℕ) (P : List (List ℕ) → List ℕ → Type 0) (l a b : List V) (rest more less : List ℕ) → l ≡ a ++ b → rest ≡ more ++ less
    → P (map items a ++ map items b) (more ++ less) → P (map items l) rest
add_two items P l a b rest more less e f h = subst (λ (x : List (List ℕ)). P x rest) (sym (ap (λ (x : List _). map items x) e ∙ map-append items a b)) (subst (λ (x : List ℕ). P (map items a ++ map items b) x) (sym f) h)
