-- From the lemmas of PickLemmas.
use Rattle.std.proofs.Common.{◌≡◌, ◌++◌, true, None, refl, ap, sym, ◌∙◌, append-nil}
use Rattle.leak_notes.specs.Entry.{Entry, is_cut}
use Rattle.leak_notes.specs.Sets.{set_of}
use Rattle.leak_notes.proofs.PickLemmas.{added, entry_more, entry_end, entry_cut}
use Rattle.leak_notes.proofs.sets.push_sets.Goals as goal
use Rattle.leak_notes.proofs.sets.push_sets.Goals.{in-Some+in_ok-push, in_default}

none_if_cut : (e : Entry) → is_cut e ≡ true → set_of e ≡ None
none_if_cut e is = rw is refl

pub returns-then-is_cut : goal.returns-then-is_cut
returns-then-is_cut c = entry_cut set_of _ c.entries.sets.items c.entries.entry (λ z. let t = c.is_end.ensures.1 z in absurd cc) (sym c.is_cut.ensures ∙ c.if-is_cut.true)
    (none_if_cut c.entries.entry (sym c.is_cut.ensures ∙ c.if-is_cut.true)) c.entries.invariant

pub entries-preserved : goal.entries-preserved
entries-preserved c =
    rw c.following-entry.ensures
    (entry_more set_of _ c.entries.sets.items c.match-set_of.sets.items c.entries.entry (λ z. let t = c.is_end.ensures.1 z in absurd cc) (sym c.is_cut.ensures ∙ c.if-is_cut.false)
    (elim c.match-set_of.branch [
      | in-Some+in_ok-push w ↦ ap (λ v. v.items) w.sets-is ∙ w.in_ok-push.ensures.items ∙ ap (λ o. c.entries.sets.items ++ added o) (sym w.in-Some.is ∙ c.set_of.ensures)
      | in_default w ↦ ap (λ v. v.items) w.sets-is ∙ sym (append-nil c.entries.sets.items) ∙ ap (λ o. c.entries.sets.items ++ added o) (sym w.in_default.is ∙ c.set_of.ensures)
    ])
    c.entries.invariant)

pub returns : goal.returns
returns c = entry_end set_of _ c.entries.sets.items c.entries.entry (c.is_end.ensures.0 c.entries-test.false) c.entries.invariant
