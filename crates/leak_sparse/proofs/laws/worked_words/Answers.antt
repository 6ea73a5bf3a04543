-- Each row is computed, or told place by place.
use Rattle.std.proofs.Common.{◌≡◌, ℕ, zero, suc, ◌<◌, ◌≤◌, get_or, refl, arith}
use lib.Count.{ones}
use Rattle.leak_sparse.specs.Rows.{gaps, tail}
use Rattle.leak_sparse.proofs.laws.worked_words.Goals as goal

zero_not : (n : ℕ) → suc n ≡ 0 → ⊥
zero_not n e = omega (arith, e)

before_last : (k : ℕ) → 2 ≤ k → k < 3 → get_or gaps k 0 ≡ 0
before_last zero l h = absurd (omega (arith, l))
before_last (suc zero) l h = absurd (omega (arith, l))
before_last (suc (suc zero)) l h = refl
before_last (suc (suc (suc k))) l h = absurd (omega (arith, h))

left : (k : ℕ) → 2 ≤ k → get_or tail k 0 ≡ 0
left zero l = absurd (omega (arith, l))
left (suc zero) l = absurd (omega (arith, l))
left (suc (suc zero)) l = refl
left (suc (suc (suc k))) l = refl

pub returns : goal.returns
unfolding ones
returns c = record {
  groups = record {
    no_word = refl;
    zeros = refl;
    two = refl;
    spare = refl;
    first = refl;
    between = refl;
    third = refl;
    last_of_first = refl;
    second_group = refl;
    last = refl;
    past = refl;
    all = refl;
    one_more = refl;
    enough = refl;
    fewer = refl;
    after_more = refl;
  };
  lists = record {
    none = refl;
    some = refl;
    all_from = refl;
    last_from = refl;
    first_from = refl;
    none_from = refl;
    too_low = refl;
    lowest = refl;
    inner = refl;
    highest = refl;
    too_high = refl;
    zero = refl;
    zero_inside = refl;
    no_bounds = refl;
    of_list = refl;
    itself = record { at_or_after = omega arith; inside = omega arith; kept = λ e. zero_not 6 e; least = λ k l h. absurd (omega (arith, l, h)) };
    later = record { at_or_after = omega arith; inside = omega arith; kept = λ e. zero_not 8 e; least = before_last };
    not_second = λ next. zero_not 6 (next.least 1 (omega arith) (omega arith));
    left = record { each = left };
    outside = record { each = λ k l. left k (omega (arith, l)) };
    to_word = record { at_or_after = omega arith; within = omega arith; each = before_last; kept = λ l e. zero_not 8 e };
    to_end = record { at_or_after = omega arith; within = omega arith; each = λ k l h. left k l; kept = λ l. absurd (omega (arith, l)) };
    not_past = λ zeros. zero_not 6 (zeros.each 1 (omega arith) (omega arith));
    no_more = record { same = refl; fits = omega arith };
    no_group = λ room. omega (arith, room.same);
    rest = record { same = refl; fits = omega arith };
    full = λ room. omega (arith, room.same);
  };
}
