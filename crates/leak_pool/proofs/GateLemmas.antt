-- Steps that a gate let through, put together.
use Rattle.std.proofs.Common.{◌≡◌, ℕ, ◌+◌, ◌-◌, ◌*◌, ◌/◌, ◌%◌, ◌^◌, ◌<◌, ◌≤◌, List, [], ◌∷◌, ◌++◌, length, get_or, replicate, refl, sym, ap, ◌∙◌, subst, arith}
use Rattle.std.proofs.Math.Nat.{mod-add-mod, mod-eq_of_lt, div-le_self}
use Rattle.std.proofs.lemmas.List.{get_or-replicate}
use mathlib.Core.Logic.{dite}
use native.Mathlib.Decide.{dec_lt}
use Rattle.leak_pool.specs.Course.{Round, AreLater, AreRounds, HaveGone, sizes_by_round}
use Rattle.leak_pool.specs.Items.{share, targets_of_block}
use Rattle.leak_pool.specs.Gates.{share_size, IsNextPassed, ArePassed, sizes_of, AreAllPassed, HavePassed}
use Rattle.leak_pool.specs.MarkingState.{HasCourse, HasRoundMore, HasCourseThrough, claims_of}
use Rattle.leak_pool.specs.SearchModel.{SearchModel}
use Rattle.leak_pool.specs.declared.marking_state.MarkingState.{MarkingState}
use Rattle.leak_pool.specs.Rounds.{AreCounted}

-- a sum of a remainder and a number
mod_more : (a b m : ℕ) → (a % m + b) % m ≡ (a + b) % m
mod_more a b m = mod-add-mod a m b

-- so many steps more, and those of so many items are let through too
pub steps_more : (start first next step count : ℕ) → first ≤ next → step ≡ (start + (next - first)) % 2 ^ 64 → (step + count) % 2 ^ 64 ≡ (start + (next + count - first)) % 2 ^ 64
steps_more start first next step count from is = ap (λ (x : ℕ). (x + count) % 2 ^ 64) is ∙ mod_more (start + (next - first)) count (2 ^ 64) ∙ ap (λ (x : ℕ). x % 2 ^ 64) same
  where
    same : start + (next - first) + count ≡ start + (next + count - first)
    same = omega arith

pub several_passed : (passed : ℕ → ℕ → Type 0) (steps : List ℕ) (k first next step count : ℕ) → first ≤ next → step ≡ (get_or steps k 0 + (next - first)) % 2 ^ 64
    → ((i : ℕ) → i < count → passed k ((step + i) % 2 ^ 64)) → ((j : ℕ) → j < next - first → IsNextPassed passed steps k j) → (j : ℕ) → j < next + count - first → IsNextPassed passed steps k j
several_passed passed steps k first next step count from is each before j h =
    dite (dec_lt j (next - first)) (λ lt. before j lt)
    (λ ge. let i : ℕ = j - (next - first) in let below : i < count = omega arith in let e : next + i - first ≡ j = omega arith in
    subst (λ (s : ℕ). passed k s) (steps_more (get_or steps k 0) first next step i from is ∙ ap (λ (n : ℕ). (get_or steps k 0 + n) % 2 ^ 64) e) (each i below))

-- the step of the next item is let through too
pub next_passed : (passed : ℕ → ℕ → Type 0) (steps : List ℕ) (k first next step : ℕ) → first ≤ next → step ≡ (get_or steps k 0 + (next - first)) % 2 ^ 64 → passed k step
    → ((j : ℕ) → j < next - first → IsNextPassed passed steps k j) → (j : ℕ) → j < next + 1 - first → IsNextPassed passed steps k j
next_passed passed steps k first next step from is p before j h =
    dite (dec_lt j (next - first)) (λ lt. before j lt) (λ ge. let e : next - first ≡ j = omega arith in subst (λ (i : ℕ). IsNextPassed passed steps k i) e (subst (λ (s : ℕ). passed k s) is p))

-- the number of the first step, and of the one after it
pub first_step : (step from : ℕ) → step < 2 ^ 64 → step ≡ (step + (from - from)) % 2 ^ 64
first_step step from small = sym (ap (λ (x : ℕ). x % 2 ^ 64) same ∙ mod-eq_of_lt small)
  where
    same : step + (from - from) ≡ step
    same = omega arith

pub next_step : (start first next step : ℕ) → first ≤ next → step ≡ (start + (next - first)) % 2 ^ 64 → (step + 1) % 2 ^ 64 ≡ (start + (next + 1 - first)) % 2 ^ 64
next_step start first next step from is =
    ap (λ (x : ℕ). (x + 1) % 2 ^ 64) is ∙ mod_more (start + (next - first)) 1 (2 ^ 64) ∙ ap (λ (x : ℕ). x % 2 ^ 64) same
  where
    same : start + (next - first) + 1 ≡ start + (next + 1 - first)
    same = omega arith

-- a worker of a round alone
pub alone_passed : (passed : ℕ → ℕ → Type 0) (n workers k : ℕ) → ((j : ℕ) → j < share_size k n workers → passed k j) → ArePassed passed n workers k (k + 1)
alone_passed passed n workers k h i j from to below =
    let e : k ≡ i = omega arith in subst (λ (l : ℕ). passed l j) e (h j (subst (λ (l : ℕ). j < share_size l n workers) (sym e) below))

-- two halves
pub both_passed : (passed : ℕ → ℕ → Type 0) (n workers low middle high : ℕ) → ArePassed passed n workers low middle → ArePassed passed n workers middle high → ArePassed passed n workers low high
both_passed passed n workers low middle high a b k j from to h =
    dite (dec_lt k middle) (λ lt. a k j from lt h) (λ ge. b k j (omega arith) to h)

-- ---- rounds

-- a round more
sizes_more : (k m n : ℕ) (rounds : List ℕ) → sizes_of k m (rounds ++ n ∷ []) ≡ sizes_of k m rounds + share_size k n m
sizes_more k m n [] = omega arith
sizes_more k m n (x ∷ rounds) = let e = sizes_more k m n rounds in omega arith

passed_more : (passed : ℕ → ℕ → Type 0) (workers n : ℕ) (rounds steps : List ℕ) → HavePassed passed workers rounds steps → ArePassed (IsNextPassed passed steps) n workers 0 workers
    → AreAllPassed passed workers (rounds ++ n ∷ [])
passed_more passed workers n rounds steps h round k j inside below =
    let old : ℕ = sizes_of k workers rounds in
    let more = sizes_more k workers n rounds in
    dite (dec_lt j old) (λ lt. h.each k j inside lt)
    (λ ge.
    let rest : old + (j - old) ≡ j = omega arith in
    let few : j - old < share_size k n workers = omega arith in
    let is : (get_or steps k 0 + (j - old)) % 2 ^ 64 ≡ j % 2 ^ 64 =
    ap (λ (x : ℕ). (x + (j - old)) % 2 ^ 64) (h.counts k inside) ∙ mod_more old (j - old) (2 ^ 64) ∙ ap (λ (x : ℕ). x % 2 ^ 64) rest in
    subst (λ (x : ℕ). passed k x) is (round k (j - old) (omega arith) inside few))

pub round_more : (passed : ℕ → ℕ → Type 0) (workers n : ℕ) (rounds steps after : List ℕ) → ArePassed (IsNextPassed passed steps) n workers 0 workers → AreCounted n workers workers steps after
    → HavePassed passed workers rounds steps → HavePassed passed workers (rounds ++ n ∷ []) after
round_more passed workers n rounds steps after round counted h = record {
  each = passed_more passed workers n rounds steps h round;
  counts = λ k inside.
      counted.grown k inside ∙ ap (λ (x : ℕ). (x + share_size k n workers) % 2 ^ 64) (h.counts k inside) ∙ mod_more (sizes_of k workers rounds) (share_size k n workers) (2 ^ 64)
      ∙ ap (λ (x : ℕ). x % 2 ^ 64) (sym (sizes_more k workers n rounds));
}

-- a round of no items
share_size_none : (k m : ℕ) → share_size k 0 m ≡ 0
unfolding share
share_size_none k m =
    let p : k * 0 / m ≤ k * 0 = div-le_self (k * 0) m in let q : (k + 1) * 0 / m ≤ (k + 1) * 0 = div-le_self ((k + 1) * 0) m in omega arith

pub round_none : (passed : ℕ → ℕ → Type 0) (workers n : ℕ) (rounds steps : List ℕ) → n ≡ 0 → HavePassed passed workers rounds steps → HavePassed passed workers (rounds ++ n ∷ []) steps
round_none passed workers n rounds steps none h =
    subst (λ (x : ℕ). HavePassed passed workers (rounds ++ x ∷ []) steps) (sym none) record {
      each = λ k j inside below. h.each k j inside (let e = sizes_more k workers 0 rounds in let z = share_size_none k workers in omega arith);
      counts = λ k inside. h.counts k inside ∙ ap (λ (x : ℕ). x % 2 ^ 64) (let e = sizes_more k workers 0 rounds in let z = share_size_none k workers in omega arith);
    }

-- before the first round
pub passed_none : (passed : ℕ → ℕ → Type 0) (workers : ℕ) (steps : List ℕ) → steps ≡ replicate workers 0 → HavePassed passed workers [] steps
passed_none passed workers steps zeros = record {
  each = λ k j inside below. absurd (let b : j < 0 = below in omega arith);
  counts = λ k inside. ap (λ (l : List ℕ). get_or l k 0) zeros ∙ get_or-replicate workers k 0 0 inside;
}

-- ---- by the rounds of a course

later_sizes : (blocks : ℕ → List ℕ) (w stack first : ℕ) (waiting : List ℕ) (rounds : List Round) (end : List ℕ) (r : Round) → first ≡ length waiting - 1 → AreLater blocks w stack waiting rounds end
    → sizes_by_round first (rounds ++ r ∷ []) ≡ sizes_by_round first rounds ++ (length end - 1) ∷ []
later_sizes blocks w stack first waiting [] end r is same = ap (λ (n : ℕ). n ∷ []) (is ∙ ap (λ (l : List ℕ). length l - 1) same)
later_sizes blocks w stack first [] (q ∷ rounds) end r is later = absurd later
later_sizes blocks w stack first (y ∷ waiting) (q ∷ rounds) end r is later =
    ap (λ (l : List ℕ). first ∷ l) (later_sizes blocks w stack (length (q.caller ++ q.left) - 1) (q.caller ++ q.left) rounds end r refl later.2)

-- a round more shares out all that waits but the first
course_sizes : (roots targets : List (List ℕ)) (w stack first : ℕ) (rounds : List Round) (end : List ℕ) (r : Round) → AreRounds roots targets w stack rounds end
    → sizes_by_round first (rounds ++ r ∷ []) ≡ sizes_by_round first rounds ++ (length end - 1) ∷ []
course_sizes roots targets w stack first [] end r are = absurd are
course_sizes roots targets w stack first (q ∷ rounds) end r are =
    ap (λ (l : List ℕ). first ∷ l) (later_sizes (targets_of_block targets) w stack (length (q.caller ++ q.left) - 1) (q.caller ++ q.left) rounds end r refl are.2)

-- one round
one_size : (first : ℕ) (rounds : List Round) → length rounds ≡ 1 → sizes_by_round first rounds ≡ first ∷ []
one_size first [] one = absurd (let n : 0 ≡ 1 = one in omega arith)
one_size first (r ∷ []) one = refl
one_size first (r ∷ q ∷ rounds) one = absurd (omega arith)

module _ (passed : ℕ → ℕ → Type 0) (model : SearchModel) where
  pub through_one : (p : MarkingState) → HasCourse model p 1 → HasCourseThrough passed model p.steps.items p 1
  through_one p course = (
    course,
    λ was. subst (λ (l : List ℕ). HavePassed passed model.workers l p.steps.items) (sym (one_size (length model.roots) course.0 course.1)) was,
  )

  pub through_more : (steps : List ℕ) (p after : MarkingState) (count : ℕ) → ((n : ℕ) (course : HasCourse model p n) → HasRoundMore model after n course.0)
      → ((rounds : List ℕ) → HavePassed passed model.workers rounds p.steps.items → HavePassed passed model.workers (rounds ++ (length p.waiting.items - 1) ∷ []) after.steps.items)
      → HasCourseThrough passed model steps p count → HasCourseThrough passed model steps after (count + 1)
  through_more steps p after count more step h =
      let course = h.0 in let next = more count course in
      let same : sizes_by_round (length model.roots) next.0.0 ≡ sizes_by_round (length model.roots) course.0 ++ (length p.waiting.items - 1) ∷ [] =
      ap (λ (l : List Round). sizes_by_round (length model.roots) l) next.2
      ∙ course_sizes model.roots model.targets model.workers model.stack (length model.roots) course.0 p.waiting.items next.1 course.2.are in (
        next.0,
        λ was. subst (λ (l : List ℕ). HavePassed passed model.workers l after.steps.items) (sym same) (step (sizes_by_round (length model.roots) course.0) (h.1 was)),
      )

  pub gone_through : (steps : List ℕ) (p : MarkingState) (count : ℕ) → HasCourseThrough passed model steps p count → HavePassed passed model.workers (length model.roots ∷ []) steps
      → HaveGone passed (length model.roots) model.roots model.targets model.workers model.stack count (claims_of p) p.waiting.items
  gone_through steps p count h was = (h.0.0, h.0.1, h.0.2, (h.1 was).each)
