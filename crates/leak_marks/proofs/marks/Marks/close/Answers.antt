-- From the lemmas of Outcomes.
use Rattle.std.proofs.Common.{◌≡◌, ℕ}
use Rattle.std.specs.Slots.{slots_items}
use Rattle.std.proofs.lemmas.Result.{IfOk-weaker}
use Rattle.leak_marks.specs.Lists.{Within, mark_of, times}
use Rattle.leak_marks.proofs.Outcomes.{closed_whole}
use Rattle.leak_marks.proofs.marks.Marks.close.Goals as goal

pub returns-clause-whole : goal.returns-clause-whole
returns-clause-whole c full =
    let last = c.close_with-closed.ensures.values.2 in
    IfOk-weaker c.copy_words-copied.result
    (λ v. v.items ≡ slots_items c.close_with-closed.result.words)
    (λ w. Within c.args.seat.seen c.args.seat.claims × ((b : ℕ) → mark_of w.items b ≡ times b c.args.seat.claims))
    (λ v copied. closed_whole c.self.inside.words.shared.key last.0 (slots_items c.close_with-closed.result.words) v.items c.seat.inside.seat.id c.seat.inside.seat.me.0 c.seat.inside.seat.table_id c.args.seat last.1.0 last.1.1 last.2 copied c.seat.view_is full)
    c.copy_words-copied.ensures
