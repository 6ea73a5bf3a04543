-- A worked course: two workers, two parts of the roots, five blocks, stacks of no entry. It is none of stacks that hold all.
use Rattle.std.proofs.Common.{◌≡◌, ℕ, ◌<◌, List, [], ◌∷◌, refl, sym, subst, inl, ⊎_elim, slice_index_or, arith}
use Rattle.std.specs.List.{AllByRecursion}
use Rattle.leak_marks.specs.Lists.{Has}
use Rattle.leak_marks.proofs.ListLemmas.{here, there, at_head, distinct_nil, distinct_push}
use Rattle.leak_pool.specs.Items.{share, targets_of_block}
use Rattle.leak_pool.specs.Promises.{AreOwn}
use Rattle.leak_pool.specs.Course.{Round, IsShared, HaveLed}
use Rattle.leak_pool.proofs.ScanLemmas.{none_has}
use Rattle.leak_pool.proofs.StackSizeLemmas.{one_round}

-- the parts of the roots lead to 0 and 1, and to 2; 0 and 2 lead to 3, and 3 to 4
abbrev roots : List (List ℕ)
roots = (0 ∷ 1 ∷ []) ∷ (2 ∷ []) ∷ []

abbrev targets : List (List ℕ)
targets = (3 ∷ []) ∷ [] ∷ (3 ∷ []) ∷ (4 ∷ []) ∷ [] ∷ []

abbrev round : List ℕ → List (List ℕ) → List ℕ → Round
round caller gained left = record { caller = caller; gained = gained; left = left }

abbrev rounds : List Round
rounds =
    round [] ((0 ∷ 1 ∷ []) ∷ (2 ∷ []) ∷ []) (0 ∷ 1 ∷ 2 ∷ []) ∷ round (3 ∷ []) ([] ∷ [] ∷ []) []
    ∷ round (4 ∷ []) [] [] ∷ round [] [] [] ∷ []

apart : (xs ys : List ℕ) → AllByRecursion (λ y. Has xs y → ⊥) ys → (b : ℕ) → Has xs b → Has ys b → ⊥
apart xs [] all b h n = none_has b n
apart xs (y ∷ ys) all b h n =
    ⊎_elim (λ e. all.0 (subst (λ (z : ℕ). Has xs z) (sym e) h)) (λ r. apart xs ys all.1 b h r) (at_head y ys b n)

-- the claims of the first round are of the workers' own parts
of_shares : (blocks : ℕ → List ℕ) → AreOwn blocks (λ k. slice_index_or roots k []) 2 2 0 ((0 ∷ 1 ∷ []) ∷ (2 ∷ []) ∷ [])
unfolding share
of_shares blocks = (
  (inl (0, omega arith, omega arith, here 0 (1 ∷ [])), (inl (0, omega arith, omega arith, there 0 (1 ∷ []) 1 (here 1 [])), tt)),
  ((inl (1, omega arith, omega arith, here 2 []), tt), tt),
)

nothing : (caller : List ℕ) → IsShared (targets_of_block targets) 2 0 [] (round caller [] [])
nothing caller = record {
  few = omega arith;
  own = record { own = tt; full = omega arith; direct = λ z. tt; all_left = λ z. refl };
  of_gained = λ b h. none_has b h;
}

-- What the caller claims is worker 0's. The last round is the one that finds nothing.
pub four_rounds : HaveLed roots targets 2 0 4 ((0 ∷ 1 ∷ 3 ∷ 4 ∷ []) ∷ (2 ∷ []) ∷ []) []
four_rounds = (
  rounds,
  refl,
  record {
    some = omega arith;
    are = (
      refl,
      record {
        few = omega arith;
        own = record { own = of_shares (targets_of_block targets); full = omega arith; direct = λ z. of_shares (λ s. []); all_left = λ z. refl };
        of_gained = λ b h. h;
      },
      (
        λ b h. h,
        record {
          few = omega arith;
          own = record { own = (tt, (tt, tt)); full = omega arith; direct = λ z. (tt, (tt, tt)); all_left = λ z. refl };
          of_gained = λ b h. none_has b h;
        },
        (λ b h. h, nothing (4 ∷ []), (λ b h. none_has b h, nothing [], refl)),
      ),
    );
    timely = (
      apart (0 ∷ 1 ∷ 2 ∷ []) (3 ∷ 4 ∷ []) (λ h. none_has 3 h, (λ h. none_has 4 h, tt)),
      (apart (3 ∷ 3 ∷ []) (4 ∷ []) (λ h. none_has 4 h, tt), (apart (4 ∷ []) [] tt, (apart [] [] tt, tt))),
    );
    claims_are = refl;
  },
)

inside : (n : ℕ) (xs : List ℕ) → AllByRecursion (λ x. x < n) xs → (b : ℕ) → Has xs b → b < n
inside n [] all b h = none_has b h
inside n (x ∷ xs) all b h = ⊎_elim (λ e. subst (λ (z : ℕ). z < n) e all.0) (λ r. inside n xs all.1 b r) (at_head x xs b h)

one_or_four : (n : ℕ) → n ≡ 1 → n ≡ 4 → ⊥
one_or_four n one four = omega arith

-- If stacks hold five blocks, nothing waits after the first round. So workers that use no stack in place of such ones don't
-- keep the contract.
pub not_four_rounds : HaveLed roots targets 2 5 4 ((0 ∷ 1 ∷ 3 ∷ 4 ∷ []) ∷ (2 ∷ []) ∷ []) [] → ⊥
not_four_rounds led = one_or_four 4
    (one_round roots targets 2 5 4 ((0 ∷ 1 ∷ 3 ∷ 4 ∷ []) ∷ (2 ∷ []) ∷ [])
    (distinct_push (0 ∷ 1 ∷ 3 ∷ 4 ∷ []) 2 (λ h. none_has 2 h) (distinct_push (0 ∷ 1 ∷ 3 ∷ []) 4 (λ h. none_has 4 h)
    (distinct_push (0 ∷ 1 ∷ []) 3 (λ h. none_has 3 h) (distinct_push (0 ∷ []) 1 (λ h. none_has 1 h) (distinct_push [] 0 (λ h. none_has 0 h) distinct_nil)))))
    (inside 5 (0 ∷ 1 ∷ 3 ∷ 4 ∷ 2 ∷ []) (omega arith, (omega arith, (omega arith, (omega arith, (omega arith, tt)))))) (omega arith) led)
    refl
