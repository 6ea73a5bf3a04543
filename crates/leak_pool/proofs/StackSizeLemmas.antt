-- A stack never holds more blocks than there are, so one of the plan's size leaves no fewer than one cut to that. If it holds
-- all, there is one round.
use Rattle.std.proofs.Common.{◌≡◌, ℕ, ◌+◌, ◌-◌, ◌<◌, ◌≤◌, List, [], ◌∷◌, ◌++◌, length, map, ap, sym, ◌∙◌, subst, arith}
use Rattle.std.specs.Prelude.{min}
use Rattle.std.specs.List.{concat, sum_by}
use Rattle.std.proofs.lemmas.List.{length-append, nil_from_length}
use Rattle.std.proofs.lemmas.List.Sums.{sum_by-cons}
use Rattle.leak_marks.specs.Lists.{times, Has, IsDistinct}
use Rattle.leak_marks.specs.Seats.{Held}
use Rattle.leak_pool.specs.Items.{targets_of_block}
use Rattle.leak_pool.specs.Rounds.{IsGoing, Going, graph_over}
use Rattle.leak_pool.specs.Course.{Round, IsShared, AreLater, AreRounds, IsCourse, HaveLed, claims_in}
use Rattle.leak_pool.proofs.CountLemmas.{few_distinct}
use Rattle.leak_pool.proofs.DepthLemmas.{times_course}

module _ (w stack plan blocks : ℕ) (cut : stack ≡ min plan blocks) where
  none : plan ≡ 0 → stack ≡ 0
  none z = omega arith

  -- lists that are no longer than there are blocks have as much above either
  above : (gained : List (List ℕ)) → length (concat gained) ≤ blocks → sum_by (λ (l : List ℕ). length l - stack) gained ≤ sum_by (λ (l : List ℕ). length l - plan) gained
  above [] few = omega arith
  above (g ∷ gained) few =
      let a : sum_by (λ (l : List ℕ). length l - stack) (g ∷ gained) ≡ (length g - stack) + sum_by (λ (l : List ℕ). length l - stack) gained = sum_by-cons (λ (l : List ℕ). length l - stack) g gained in
      let b : sum_by (λ (l : List ℕ). length l - plan) (g ∷ gained) ≡ (length g - plan) + sum_by (λ (l : List ℕ). length l - plan) gained = sum_by-cons (λ (l : List ℕ). length l - plan) g gained in
      let c : length (concat (g ∷ gained)) ≡ length g + length (concat gained) = length-append g (concat gained) in
      let r : sum_by (λ (l : List ℕ). length l - stack) gained ≤ sum_by (λ (l : List ℕ). length l - plan) gained = above gained (omega arith) in
      let here : length g - stack ≤ length g - plan = let m = cut in omega arith in omega arith

  now_few : (r : Round) (rounds : List Round) → length (claims_in (r ∷ rounds)) ≤ blocks → length (concat r.gained) ≤ blocks
  now_few r rounds few =
      let a : length (claims_in (r ∷ rounds)) ≡ length (r.caller ++ concat r.gained) + length (claims_in rounds) = length-append (r.caller ++ concat r.gained) (claims_in rounds) in
      let b : length (r.caller ++ concat r.gained) ≡ length r.caller + length (concat r.gained) = length-append r.caller (concat r.gained) in omega arith

  later_few : (r : Round) (rounds : List Round) → length (claims_in (r ∷ rounds)) ≤ blocks → length (claims_in rounds) ≤ blocks
  later_few r rounds few =
      let a : length (claims_in (r ∷ rounds)) ≡ length (r.caller ++ concat r.gained) + length (claims_in rounds) = length-append (r.caller ++ concat r.gained) (claims_in rounds) in omega arith

  shared_by_plan : (targets : ℕ → List ℕ) (items : List (List ℕ)) (r : Round) → length (concat r.gained) ≤ blocks → IsShared targets w stack items r → IsShared targets w plan items r
  shared_by_plan targets items r few s = record {
    few = s.few;
    own = record {
      own = s.own.own;
      full = let f = s.own.full in let a = above r.gained few in omega arith;
      direct = λ z. s.own.direct (none z);
      all_left = λ z. s.own.all_left (none z);
    };
    of_gained = s.of_gained;
  }

  later_by_plan : (targets : ℕ → List ℕ) (waiting : List ℕ) (rounds : List Round) (end : List ℕ) → length (claims_in rounds) ≤ blocks → AreLater targets w stack waiting rounds end → AreLater targets w plan waiting rounds end
  later_by_plan targets waiting [] end few later = later
  later_by_plan targets [] (r ∷ rounds) end few later = absurd later
  later_by_plan targets (x ∷ waiting) (r ∷ rounds) end few later = (
    later.0,
    shared_by_plan targets (map targets waiting) r (now_few r rounds few) later.1,
    later_by_plan targets (r.caller ++ r.left) rounds end (later_few r rounds few) later.2,
  )

  rounds_by_plan : (roots targets : List (List ℕ)) (rounds : List Round) (end : List ℕ) → length (claims_in rounds) ≤ blocks → AreRounds roots targets w stack rounds end → AreRounds roots targets w plan rounds end
  rounds_by_plan roots targets [] end few are = absurd are
  rounds_by_plan roots targets (r ∷ rounds) end few are = (
    are.0,
    shared_by_plan (targets_of_block targets) roots r (now_few r rounds few) are.1,
    later_by_plan (targets_of_block targets) (r.caller ++ r.left) rounds end (later_few r rounds few) are.2,
  )

-- a course claims each block once at most
course_few : (roots targets : List (List ℕ)) (start : List ℕ) (w stack : ℕ) (claims : List (List ℕ)) (seat : Held) (rounds : List Round) → Going roots targets start w claims [] seat
    → IsCourse roots targets w stack claims [] rounds → length (claims_in rounds) ≤ length targets
course_few roots targets start w stack claims seat rounds going c =
    let i : IsGoing (graph_over roots targets start) (length targets) w going.0 claims [] seat = going.1 in
    let counted : (b : ℕ) → times b (claims_in rounds) ≤ times b seat.claims = λ b. let t = times_course b w c.some roots targets stack claims rounds c in let s = i.count b in omega arith in
    few_distinct (length targets) (claims_in rounds) (λ b. let t = counted b in let d : times b seat.claims ≤ 1 = i.sound.distinct b in omega arith)
    (λ b h. i.inside b (let t = counted b in let o : 0 < times b (claims_in rounds) = h in let z : 0 < times b seat.claims = omega arith in z))

-- at the end, whatever size the plan says
pub course_by_plan : (roots targets : List (List ℕ)) (start : List ℕ) (w stack plan : ℕ) (claims : List (List ℕ)) (seat : Held) (rounds : List Round) → stack ≡ min plan (length targets)
    → Going roots targets start w claims [] seat → IsCourse roots targets w stack claims [] rounds → IsCourse roots targets w plan claims [] rounds
course_by_plan roots targets start w stack plan claims seat rounds cut going c = record {
  some = c.some;
  are = rounds_by_plan w stack plan (length targets) cut roots targets rounds [] (course_few roots targets start w stack claims seat rounds going c) c.are;
  timely = c.timely;
  claims_are = c.claims_are;
}

-- ---- stacks that hold all blocks

none_above : (stack : ℕ) (gained : List (List ℕ)) → length (concat gained) ≤ stack → sum_by (λ (l : List ℕ). length l - stack) gained ≡ 0
none_above stack [] few = omega arith
none_above stack (g ∷ gained) few =
    let a : sum_by (λ (l : List ℕ). length l - stack) (g ∷ gained) ≡ (length g - stack) + sum_by (λ (l : List ℕ). length l - stack) gained = sum_by-cons (λ (l : List ℕ). length l - stack) g gained in
    let b : length (concat (g ∷ gained)) ≡ length g + length (concat gained) = length-append g (concat gained) in
    let r : sum_by (λ (l : List ℕ). length l - stack) gained ≡ 0 = none_above stack gained (omega arith) in omega arith

-- then nothing is left
pub one_round : (roots targets : List (List ℕ)) (w stack count : ℕ) (claims : List (List ℕ)) → IsDistinct (concat claims) → ((b : ℕ) → Has (concat claims) b → b < length targets) → length targets ≤ stack
    → HaveLed roots targets w stack count claims [] → count ≡ 1
one_round roots targets w stack count claims once inside many led = go led.0 led.1 led.2
  where
    go : (rounds : List Round) → length rounds ≡ count → IsCourse roots targets w stack claims [] rounds → count ≡ 1
    go [] long c = absurd c.are
    go (r ∷ rounds) long c = alone rounds long (subst (λ (l : List ℕ). AreLater (targets_of_block targets) w stack l rounds []) none_waits c.are.2)
      where
        same : (b : ℕ) → times b (concat claims) ≡ times b (claims_in (r ∷ rounds))
        same b = times_course b w c.some roots targets stack claims (r ∷ rounds) c

        few : length (claims_in (r ∷ rounds)) ≤ length targets
        few = few_distinct (length targets) (claims_in (r ∷ rounds)) (λ b. let t = same b in let o : times b (concat claims) ≤ 1 = once b in omega arith)
            (λ b h. inside b (let t = same b in let o : 0 < times b (claims_in (r ∷ rounds)) = h in let z : 0 < times b (concat claims) = omega arith in z))

        gained_few : length (concat r.gained) ≤ stack
        gained_few =
            let a : length (claims_in (r ∷ rounds)) ≡ length (r.caller ++ concat r.gained) + length (claims_in rounds) = length-append (r.caller ++ concat r.gained) (claims_in rounds) in
            let b : length (r.caller ++ concat r.gained) ≡ length r.caller + length (concat r.gained) = length-append r.caller (concat r.gained) in let f = few in omega arith

        none_left : length r.left ≡ 0
        none_left = let f = c.are.1.own.full in let z = none_above stack r.gained gained_few in omega arith

        none_waits : r.caller ++ r.left ≡ []
        none_waits = ap (λ (l : List ℕ). l ++ r.left) c.are.0 ∙ nil_from_length r.left none_left

        alone : (more : List Round) → length (r ∷ more) ≡ count → AreLater (targets_of_block targets) w stack [] more [] → count ≡ 1
        alone [] is later = sym is
        alone (q ∷ more) is later = absurd later
