-- From the lemmas of Places and Outcomes.
use Rattle.std.proofs.Common.{◌<◌, ap, sym, ◌∙◌, subst, ℕ}
use Rattle.atomic_table.specs.Table.{step}
use mathlib.Core.Option.{none}
use Rattle.leak_marks.specs.Marks.{looked}
use Rattle.leak_marks.specs.Seats.{TableOf, Held}
use Rattle.leak_marks.proofs.Places.{word_there}
use Rattle.leak_marks.proofs.Outcomes.{looks_at_named, look_sound}
use Rattle.leak_marks.proofs.marks.Marks.look.Goals as goal

pub load-found-requires : goal.load-found-requires
load-found-requires g c =
    let i = c.seat.invariant in
    let inside : c.args.block < c.self.inside.words.shared.key = subst (λ (x : ℕ). c.args.block < x) (sym (ap (λ (t : TableOf). t.blocks) c.self.view_is)) c.requires.block in
    let share : 0 < c.seat.inside.seat.me.0.share = subst (λ (x : ℕ). 0 < x) i.number i.live in (
      ap (λ (h : Held). h.table) c.seat.view_is ∙ c.requires.table ∙ sym (ap (λ (t : TableOf). t.table) c.self.view_is),
      subst (λ (x : ℕ). x < c.self.inside.words.shared.table_id.words) (sym c.word_of.ensures) (word_there c.self.inside.words.shared.key c.args.block c.self.inside.words.shared.table_id.words inside c.self.invariant.0),
      looks_at_named _ _ _ c.args.block g.B.Target.block _ _ c.requires.target share inside c.word_of.ensures,
    )

pub invariant_of-seat : goal.invariant_of-seat
invariant_of-seat g c = let i = c.seat.invariant in
    let s = look_sound c.self.inside.words.shared.table_id.slots c.args.block c.word_of.result c.load-found.result c.seat.inside.seat.me c.load-found.new.seat.me c.word_of.ensures
    (subst (λ (b : ℕ). looked b (step c.self.inside.words.shared.table_id.slots c.word_of.result 0 0 none) c.seat.inside.seat.me c.load-found.result c.load-found.new.seat.me) (sym c.requires.target) c.load-found.ensures.2) i.among i.distinct in
    record { number = i.number ∙ sym s.share; live = i.live; most = i.most; slots = s.slots ∙ i.slots; among = s.among; distinct = s.distinct }

pub returns-clause-sound : goal.returns-clause-sound
returns-clause-sound g c = let i = c.seat.invariant in
    let s = look_sound c.self.inside.words.shared.table_id.slots c.args.block c.word_of.result c.load-found.result c.seat.inside.seat.me c.load-found.new.seat.me c.word_of.ensures
    (subst (λ (b : ℕ). looked b (step c.self.inside.words.shared.table_id.slots c.word_of.result 0 0 none) c.seat.inside.seat.me c.load-found.result c.load-found.new.seat.me) (sym c.requires.target) c.load-found.ensures.2) i.among i.distinct in
    record { among = s.among; distinct = s.distinct }
