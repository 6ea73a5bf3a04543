-- Steps, from what halves and scans promise.
use Rattle.std.proofs.Common.{◌≡◌, ℕ, ◌+◌, ◌*◌, ◌<◌, ◌≤◌, List, [], ◌∷◌, ◌++◌, length, Ok, Err, refl, sym, ap, ◌∙◌, subst, arith}
use Rattle.std.specs.Prelude.{Result, IfOk}
use Rattle.std.specs.List.{concat}
use Rattle.std.proofs.Math.Nat.{div-le_self, mul-div_cancel_left}
use Rattle.std.proofs.lemmas.List.{append-nil, length-append}
use Rattle.leak_marks.specs.Seats.{Held, IsSound}
use Rattle.leak_marks.specs.Rounds.{IsKept, IsKeptInRounds, appended_from}
use Rattle.leak_marks.proofs.RoundLemmas.{in_rounds}
use Rattle.leak_pool.specs.Items.{InRange, share}
use Rattle.leak_pool.specs.Promises.{IsHalf, IsScanned}
use Rattle.leak_pool.proofs.ScanLemmas.{none_has, kept_of_scan}
use Rattle.leak_pool.specs.Rounds.{IsStep}

pub ok_at : {X E : Type 0} (r : Result X E) (x : X) (P : X → Type 0) → r ≡ Ok x → IfOk r P → P x
ok_at r x P e h = subst (λ (q : Result _ _). IfOk q P) e h

pub ok_both : {X E : Type 0} (P Q S : X → Type 0) (r : Result X E) → ((x : X) → P x → Q x → S x) → IfOk r P → IfOk r Q → IfOk r S
ok_both P Q S (Ok x) f p q = f x p q
ok_both P Q S (Err e) f p q = tt

share_none : (n m : ℕ) → share 0 n m ≡ 0
unfolding share
share_none n m = let p = div-le_self (0 * n) m in omega arith

share_all : (n m : ℕ) → 0 < m → share m n m ≡ n
unfolding share
share_all n m pos = mul-div_cancel_left n pos

pub step_of_half : (blocks targets : ℕ → List ℕ) (stack n w : ℕ) (claims : List (List ℕ)) (waiting : List ℕ) (before : Held) (longer : List (List ℕ)) (more : List ℕ) (after : Held) (gained : List (List ℕ)) (left : List ℕ)
    → 0 < w → IsHalf blocks targets stack n w 0 w before after gained left → after.table ≡ before.table → after.share ≡ before.share → IsSound after
    → longer ≡ appended_from 0 claims gained → more ≡ waiting ++ left → IsStep blocks (InRange targets 0 n) w claims waiting before longer more after gained left
step_of_half blocks targets stack n w claims waiting before longer more after gained left pos h table share' sound longer_is more_is = record {
  table = table;
  share = share';
  sound = sound;
  few = let c = h.count in omega arith;
  claims_are = longer_is;
  waiting_are = more_is;
  listed = h.listed;
  of_gained = h.of_gained;
  left_few = h.few;
  kept = subst (λ (x : ℕ). IsKept blocks (InRange targets x n) before.seen after.seen gained left) (share_none n w)
      (subst (λ (x : ℕ). IsKept blocks (InRange targets (share 0 n w) x) before.seen after.seen gained left) (share_all n w pos) h.kept);
}

pub step_of_none : (blocks targets : ℕ → List ℕ) (n w : ℕ) (claims : List (List ℕ)) (waiting : List ℕ) (seat : Held) → n ≡ 0 → IsSound seat → IsStep blocks (InRange targets 0 n) w claims waiting seat claims waiting seat [] []
step_of_none blocks targets n w claims waiting seat none sound = record {
  table = refl;
  share = refl;
  sound = sound;
  few = omega arith;
  claims_are = refl;
  waiting_are = sym (append-nil waiting);
  listed = sym (append-nil seat.claims);
  of_gained = λ b h. none_has b h;
  left_few = omega arith;
  kept = record {
    keeps = λ b h. h;
    covers = λ b r. let below : r.0 < n = r.2 in absurd (omega arith);
    scans = λ s b h t. none_has s h;
    fresh = λ b h was. none_has b h;
    led = tt;
  };
}

-- the caller scans one item, and leaves what it claims
pub step_of_scan : (blocks : ℕ → List ℕ) (item : ℕ → Type 0) (w : ℕ) (claims : List (List ℕ)) (waiting : List ℕ) (before : Held) (longer : List (List ℕ)) (more : List ℕ) (after : Held) (list longest : List ℕ) (gained : List (List ℕ)) (left : List ℕ)
    → list ≡ [] → gained ≡ longest ∷ [] → left ≡ longest → 0 < w → after.table ≡ before.table → after.share ≡ before.share → IsSound after
    → ((base : List ℕ) → before.claims ≡ base ++ list → after.claims ≡ base ++ longest) → IsScanned item [] before.seen list after.seen longest
    → longer ≡ appended_from 0 claims gained → more ≡ waiting ++ left → IsStep blocks item w claims waiting before longer more after gained (concat gained)
step_of_scan blocks item w claims waiting before longer more after list longest gained left empty one left_is pos table share' sound listed d longer_is more_is = record {
  table = table;
  share = share';
  sound = sound;
  few = let l = ap (λ (x : List (List ℕ)). length x) one in omega arith;
  claims_are = longer_is;
  waiting_are = more_is ∙ ap (λ (l : List ℕ). waiting ++ l) (left_is ∙ sym all);
  listed = claims_more ∙ ap (λ (l : List ℕ). before.claims ++ l) (sym all);
  of_gained = λ b h. h;
  left_few = omega arith;
  kept = in_rounds blocks item before.seen after.seen gained (subst (λ (l : List ℕ). IsKeptInRounds item before.seen after.seen l) (sym all)
      (kept_of_scan item before.claims list longest before after longest (ap (λ (l : List ℕ). l ++ longest) (sym empty)) claims_more sound d));
}
  where
    all : concat gained ≡ longest
    all = ap (λ (x : List (List ℕ)). concat x) one ∙ append-nil longest

    claims_more : after.claims ≡ before.claims ++ longest
    claims_more = listed before.claims (sym (append-nil before.claims) ∙ ap (λ (l : List ℕ). before.claims ++ l) (sym empty))

-- of two steps from no block that waits, no more waits than the seat gains
pub two_steps : (blocks : ℕ → List ℕ) (one two : ℕ → Type 0) (w : ℕ) (c0 c1 c2 : List (List ℕ)) (m0 m1 m2 : List ℕ) (s0 s1 s2 : Held) (g1 g2 : List (List ℕ)) (l1 l2 : List ℕ) → m0 ≡ []
    → IsStep blocks one w c0 m0 s0 c1 m1 s1 g1 l1 → IsStep blocks two w c1 m1 s1 c2 m2 s2 g2 l2 → length s0.claims + length m2 ≤ length s2.claims
two_steps blocks one two w c0 c1 c2 m0 m1 m2 s0 s1 s2 g1 g2 l1 l2 none a b =
    let len : List ℕ → ℕ = λ l. length l in
    let a1 : length s1.claims ≡ length s0.claims + length (concat g1) = ap len a.listed ∙ length-append s0.claims (concat g1) in
    let b1 : length s2.claims ≡ length s1.claims + length (concat g2) = ap len b.listed ∙ length-append s1.claims (concat g2) in
    let a2 : length m1 ≡ length m0 + length l1 = ap len a.waiting_are ∙ length-append m0 l1 in
    let b2 : length m2 ≡ length m1 + length l2 = ap len b.waiting_are ∙ length-append m1 l2 in
    let a3 = a.left_few in let b3 = b.left_few in
    let z : length m0 ≡ 0 = ap len none in omega arith

-- of a step from no block that waits, what waits is claimed
pub one_step : (blocks : ℕ → List ℕ) (item : ℕ → Type 0) (w : ℕ) (claims longer : List (List ℕ)) (none more : List ℕ) (before after : Held) (gained : List (List ℕ)) (left : List ℕ) → none ≡ []
    → IsStep blocks item w claims none before longer more after gained left → length more ≤ length after.claims
one_step blocks item w claims longer none more before after gained left empty s =
    let len : List ℕ → ℕ = λ l. length l in
    let a : length after.claims ≡ length before.claims + length (concat gained) = ap len s.listed ∙ length-append before.claims (concat gained) in
    let b : length more ≡ length none + length left = ap len s.waiting_are ∙ length-append none left in
    let c = s.left_few in
    let z : length none ≡ 0 = ap len empty in omega arith
