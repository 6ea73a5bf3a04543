-- From the lemmas of Moves, Outcomes and Places.
use Rattle.std.proofs.Common.{◌<◌, ap, sym, ◌∙◌, subst, arith, ℕ, List}
use Rattle.leak_marks.specs.Marks.{joined}
use Rattle.leak_marks.specs.Seats.{TableOf, Held}
use Rattle.leak_marks.proofs.Moves.{joins, checks}
use Rattle.leak_marks.proofs.Outcomes.{Joined, join_sound}
use Rattle.leak_marks.proofs.Places.{some_word}
use Rattle.leak_marks.proofs.marks.Marks.join.Goals as goal
use Rattle.leak_marks.proofs.marks.Marks.join.Goals.{After-load}

pub join_seat-requires : goal.join_seat-requires
join_seat-requires c =
    let i = c.seat.invariant in
    let share : 0 < c.seat.inside.seat.me.0.share = subst (λ (x : ℕ). 0 < x) i.number i.live in
    let self_is = ap (λ (t : TableOf). t.table) c.self.view_is in (
      ap (λ (h : Held). h.table) c.seat.view_is ∙ c.requires.table ∙ sym self_is,
      ap (λ (h : Held). h.table) c.other.view_is ∙ c.requires.other ∙ sym self_is,
      c.other.invariant.slots,
      some_word c.self.inside.words.shared.key c.self.inside.words.shared.table_id.words c.self.invariant.0,
      joins _ _ _ _ _ share,
    )

pub load-requires : goal.load-requires
load-requires c = (
  c.join_seat.ensures.0 ∙ ap (λ (h : Held). h.table) c.seat.view_is ∙ c.requires.table ∙ sym (ap (λ (t : TableOf). t.table) c.self.view_is),
  some_word c.self.inside.words.shared.key c.self.inside.words.shared.table_id.words c.self.invariant.0,
  checks _ _ _ _ _,
)

told : (c : After-load) → Joined c.seat.inside.seat.me.0 c.other.inside.seat.me.0 c.load.new.seat.me
told c = join_sound c.self.inside.words.shared.table_id.slots 0 c.load.result c.seat.inside.seat.me.0 c.other.inside.seat.me.0 c.join_seat.new.seat.me c.load.new.seat.me
    (c.join_seat.ensures.2 ∙ ap (λ (l : List (ℕ × Unit {0})). (joined c.seat.inside.seat.me.0 c.other.inside.seat.me.0, l)) c.seat.invariant.slots)
    c.load.ensures.2 c.seat.invariant.among c.other.invariant.among

pub invariant_of-seat : goal.invariant_of-seat
invariant_of-seat c =
    let i = c.seat.invariant in let k = c.other.invariant in
    let t = told (goal.at.invariant_of-seat c).After-load in
    let live = i.live in let mine = i.number in let theirs = k.number in let most = t.most in let share = t.share in
    record { number = omega arith; live = omega arith; most = omega arith; slots = t.slots; among = t.among; distinct = t.distinct }

pub returns-clause-sound : goal.returns-clause-sound
returns-clause-sound c = let t = told (goal.at.returns-clause-sound c).After-load in record { among = t.among; distinct = t.distinct }
