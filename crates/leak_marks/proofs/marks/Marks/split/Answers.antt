-- From the lemmas of Moves and Places.
use Rattle.std.proofs.Common.{◌<◌, ap, sym, ◌∙◌, subst, arith, ℕ}
use Rattle.leak_marks.specs.Seats.{TableOf, Held}
use Rattle.leak_marks.proofs.Moves.{splits}
use Rattle.leak_marks.proofs.Places.{some_word}
use Rattle.leak_marks.proofs.marks.Marks.split.Goals as goal

pub split_seat-other-requires : goal.split_seat-other-requires
split_seat-other-requires c =
    let i = c.seat.invariant in
    let share : 1 < c.seat.inside.seat.me.0.share = subst (λ (x : ℕ). 1 < x) i.number (omega arith) in (
      ap (λ (h : Held). h.table) c.seat.view_is ∙ c.requires ∙ sym (ap (λ (t : TableOf). t.table) c.self.view_is),
      some_word c.self.inside.words.shared.key c.self.inside.words.shared.table_id.words c.self.invariant.0,
      splits _ _ _ share,
    )
