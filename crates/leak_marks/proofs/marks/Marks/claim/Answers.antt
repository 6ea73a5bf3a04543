-- From the lemmas of Places and Outcomes.
use Rattle.std.proofs.Common.{◌<◌, ap, sym, ◌∙◌, subst, ℕ}
use Rattle.leak_marks.specs.Seats.{TableOf, Held}
use Rattle.leak_marks.proofs.Places.{word_there}
use Rattle.leak_marks.proofs.Outcomes.{claims_at, claim_sound}
use Rattle.leak_marks.proofs.marks.Marks.claim.Goals as goal

pub fetch_or-before-requires : goal.fetch_or-before-requires
fetch_or-before-requires c =
    let i = c.seat.invariant in
    let inside : c.args.block < c.self.inside.words.shared.key = subst (λ (x : ℕ). c.args.block < x) (sym (ap (λ (t : TableOf). t.blocks) c.self.view_is)) c.requires.block in
    let share : 0 < c.seat.inside.seat.me.0.share = subst (λ (x : ℕ). 0 < x) i.number i.live in (
      ap (λ (h : Held). h.table) c.seat.view_is ∙ c.requires.table ∙ sym (ap (λ (t : TableOf). t.table) c.self.view_is),
      subst (λ (x : ℕ). x < c.self.inside.words.shared.table_id.words) (sym c.word_of.ensures) (word_there c.self.inside.words.shared.key c.args.block c.self.inside.words.shared.table_id.words inside c.self.invariant.0),
      claims_at _ _ _ c.args.block _ _ _ inside share c.word_of.ensures c.bit_of.ensures,
    )

pub invariant_of-seat : goal.invariant_of-seat
invariant_of-seat c = let i = c.seat.invariant in
    let s = claim_sound c.self.inside.words.shared.table_id.slots c.args.block c.word_of.result c.bit_of.result c.fetch_or-before.result c.seat.inside.seat.me c.fetch_or-before.new.seat.me c.word_of.ensures c.bit_of.ensures c.fetch_or-before.ensures.2 i.among i.distinct in
    record { number = i.number ∙ sym s.share; live = i.live; most = i.most; slots = s.slots ∙ i.slots; among = s.among; distinct = s.distinct }

pub returns-clause-sound : goal.returns-clause-sound
returns-clause-sound c = let i = c.seat.invariant in
    let s = claim_sound c.self.inside.words.shared.table_id.slots c.args.block c.word_of.result c.bit_of.result c.fetch_or-before.result c.seat.inside.seat.me c.fetch_or-before.new.seat.me c.word_of.ensures c.bit_of.ensures c.fetch_or-before.ensures.2 i.among i.distinct in
    record { among = s.among; distinct = s.distinct }
