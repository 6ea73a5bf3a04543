-- Pages that differ, by their words.
use Rattle.std.proofs.Common.{◌≡◌, ◌≢◌, ℕ, ◌+◌, ◌-◌, ◌*◌, ◌/◌, ◌%◌, ◌<◌, ◌≤◌, Bool, true, false, not, ◌||◌, ◌==◌, ⊎_elim, refl, sym, subst, ap, ◌∙◌, true≢false, List, [], ◌∷◌, length, Option, Some, None, IsSome, arith, ne_eqb, eq-eqb}
use mathlib.Core.Logic.{dite}
use native.Mathlib.Decide.{ℕ_discrete}
use Rattle.std.specs.List.{list_any, range_with_len}
use Rattle.std.specs.Int.{w64}
use Rattle.leak_elf.specs.Fields.{number_at}
use Rattle.leak_elf.specs.Words.{IsRun}
use Rattle.leak_marks.specs.Lists.{Has}
use Rattle.leak_marks.proofs.ListLemmas.{none_has, here, there, at_head}
use Rattle.leak_marks.proofs.ElementLemmas.{has_range, of_range}
use Rattle.leak_later.specs.Differing.{is_changed, differs}

-- ---- some element passes, or none

pub any_at : (p : ℕ → Bool) (xs : List ℕ) (x : ℕ) → Has xs x → p x ≡ true → list_any p xs ≡ true
any_at p [] x h e = absurd (none_has x h)
any_at p (y ∷ ys) x h e = ⊎_elim
    (λ s. ap (λ (t : Bool). t || list_any p ys) (ap p s ∙ e))
    (λ r. go (p y) (any_at p ys x r e))
    (at_head y ys x h)
  where
    go : (t : Bool) → list_any p ys ≡ true → (t || list_any p ys) ≡ true
    go true k = refl
    go false k = k

pub any_none : (p : ℕ → Bool) (xs : List ℕ) → ((x : ℕ) → Has xs x → p x ≡ false) → list_any p xs ≡ false
any_none p [] h = refl
any_none p (y ∷ ys) h = ap (λ (t : Bool). t || list_any p ys) (h y (here y ys)) ∙ any_none p ys (λ x i. h x (there y ys x i))

pub of_any : (p : ℕ → Bool) (xs : List ℕ) → list_any p xs ≡ true → (x : ℕ) × Has xs x × (p x ≡ true)
of_any p [] h = absurd (true≢false (sym h))
of_any p (y ∷ ys) h = go (p y) refl h (λ k. of_any p ys k)
  where
    go : (t : Bool) → p y ≡ t → (t || list_any p ys) ≡ true → (list_any p ys ≡ true → (x : ℕ) × Has ys x × (p x ≡ true)) → (x : ℕ) × Has (y ∷ ys) x × (p x ≡ true)
    go true e k rest = (y, here y ys, e)
    go false e k rest = let r : (x : ℕ) × Has ys x × (p x ≡ true) = rest k in (r.0, there y ys r.0 r.1, r.2)

-- ---- pages

module _ (before now : ℕ → Option ℕ) (page : ℕ) where
  pub differs_at : (a : ℕ) → 4096 * page ≤ a → a < 4096 * page + 4096 → is_changed (before a) (now a) ≡ true → differs before now page ≡ true
  unfolding differs
  differs_at a low high e = any_at (λ x. is_changed (before x) (now x)) (range_with_len (4096 * page) 4096) a (has_range 4096 (4096 * page) a low high) e

  pub differs_none : ((a : ℕ) → 4096 * page ≤ a → a < 4096 * page + 4096 → is_changed (before a) (now a) ≡ false) → differs before now page ≡ false
  unfolding differs
  differs_none h = any_none (λ x. is_changed (before x) (now x)) (range_with_len (4096 * page) 4096)
      (λ a i. let r : (4096 * page ≤ a) × (a < 4096 * page + 4096) = of_range 4096 (4096 * page) a i in h a r.0 r.1)

  pub of_differs : differs before now page ≡ true → (a : ℕ) × (4096 * page ≤ a) × (a < 4096 * page + 4096) × (is_changed (before a) (now a) ≡ true)
  unfolding differs
  of_differs h =
      let r : (a : ℕ) × Has (range_with_len (4096 * page) 4096) a × (is_changed (before a) (now a) ≡ true) = of_any (λ x. is_changed (before x) (now x)) (range_with_len (4096 * page) 4096) h in
      let b : (4096 * page ≤ r.0) × (r.0 < 4096 * page + 4096) = of_range 4096 (4096 * page) r.0 r.1 in
      (r.0, b.0, b.1, r.2)

  -- the words of a page are at 512 addresses
  pub same_words : ((a : ℕ) → IsSome (now a) → a % 8 ≡ 0) → ((k : ℕ) → k < 512 → is_changed (before (4096 * page + 8 * k)) (now (4096 * page + 8 * k)) ≡ false) → differs before now page ≡ false
  same_words aligned h = differs_none (λ a low high. dite (ℕ_discrete (a % 8) 0)
      (λ z.
      let k : ℕ = (a - 4096 * page) / 8 in
      let e : 4096 * page + 8 * k ≡ a = omega arith in
      subst (λ (x : ℕ). is_changed (before x) (now x) ≡ false) e (h k (omega arith)))
      (λ nz. no_word (now a) refl (λ s. nz (aligned a s))))
    where
      no_word : {a : ℕ} (o : Option ℕ) → now a ≡ o → (IsSome (now a) → ⊥) → is_changed (before a) (now a) ≡ false
      no_word {a = a} None e h = ap (λ (o : Option ℕ). is_changed (before a) o) e
      no_word (Some v) e h = absurd (h (subst (λ (o : Option ℕ). IsSome o) (sym e) refl))

  -- if both have the page in a run, by the numbers in the runs
  module _ (run_before run_now : List ℕ) (is_before : IsRun before (4096 * page) run_before) (is_now : IsRun now (4096 * page) run_now) (long_before : 4096 ≤ length run_before) (long_now : 4096 ≤ length run_now) where
    in_runs : (k : ℕ) → k < 512 → (u v : ℕ) → u ≡ number_at w64 run_before (8 * k) → v ≡ number_at w64 run_now (8 * k) → is_changed (before (4096 * page + 8 * k)) (now (4096 * page + 8 * k)) ≡ not (u == v)
    in_runs k h u v e f =
        ap (λ (o : Option ℕ). is_changed o (now (4096 * page + 8 * k))) (is_before k (omega arith) ∙ ap Some (sym e))
        ∙ ap (λ (o : Option ℕ). is_changed (Some u) o) (is_now k (omega arith) ∙ ap Some (sym f))

    pub runs_same : ((a : ℕ) → IsSome (now a) → a % 8 ≡ 0) → ((k : ℕ) → k < 512 → number_at w64 run_before (8 * k) ≡ number_at w64 run_now (8 * k)) → differs before now page ≡ false
    runs_same aligned h = same_words aligned (λ k l.
        in_runs k l _ _ refl refl ∙ ap not (eq-eqb (number_at w64 run_before (8 * k)) (number_at w64 run_now (8 * k)) (h k l)))

    pub runs_changed : (k : ℕ) → k < 512 → number_at w64 run_before (8 * k) ≢ number_at w64 run_now (8 * k) → differs before now page ≡ true
    runs_changed k l ne = differs_at (4096 * page + 8 * k) (omega arith) (omega arith)
        (in_runs k l _ _ refl refl ∙ ap not (ne_eqb (number_at w64 run_before (8 * k)) (number_at w64 run_now (8 * k)) ne))

-- a page that differs has a word of the later core
pub has_word : (before now : ℕ → Option ℕ) (page : ℕ) → differs before now page ≡ true → (a : ℕ) × (4096 * page ≤ a) × (a < 4096 * page + 4096) × (now a ≡ None → ⊥)
has_word before now page h =
    let r : (a : ℕ) × (4096 * page ≤ a) × (a < 4096 * page + 4096) × (is_changed (before a) (now a) ≡ true) = of_differs before now page h in
    (r.0, r.1, r.2, λ e. true≢false (sym r.3 ∙ ap (λ (o : Option ℕ). is_changed (before r.0) o) e))

-- the answer about two runs is that about the page
pub by_runs : (before now : ℕ → Option ℕ) (page : ℕ) (run_before run_now : List ℕ) (result : Bool) → ((a : ℕ) → IsSome (now a) → a % 8 ≡ 0) →
    IsRun before (4096 * page) run_before → IsRun now (4096 * page) run_now → 4096 ≤ length run_before → 4096 ≤ length run_now →
    (result ≡ true → (k : ℕ) × (k < 512) × (number_at w64 run_before (8 * k) ≢ number_at w64 run_now (8 * k))) →
    (result ≡ false → (k : ℕ) → k < 512 → number_at w64 run_before (8 * k) ≡ number_at w64 run_now (8 * k)) → result ≡ differs before now page
by_runs before now page run_before run_now true aligned is_before is_now long_before long_now differ same =
    let d : (k : ℕ) × (k < 512) × (number_at w64 run_before (8 * k) ≢ number_at w64 run_now (8 * k)) = differ refl in
    sym (runs_changed before now page run_before run_now is_before is_now long_before long_now d.0 d.1 d.2)
by_runs before now page run_before run_now false aligned is_before is_now long_before long_now differ same =
    sym (runs_same before now page run_before run_now is_before is_now long_before long_now aligned (same refl))
