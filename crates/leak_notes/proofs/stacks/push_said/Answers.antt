-- From the lemmas of PickLemmas.
use Rattle.std.proofs.Common.{◌≡◌, ◌++◌, true, false, Some, None, refl, ap, sym, ◌∙◌, append-nil}
use Rattle.leak_notes.specs.Entry.{Entry, is_cut, desc}
use Rattle.leak_notes.specs.Stacks.{is_auxiliary, random_in, random_of_entry}
use Rattle.leak_notes.proofs.PickLemmas.{added, entry_more, entry_end, entry_cut}
use Rattle.leak_notes.proofs.stacks.push_said.Goals as goal
use Rattle.leak_notes.proofs.stacks.push_said.Goals.{then-is_auxiliary+in_ok-push, else-is_auxiliary}

none_if_cut : (e : Entry) → is_cut e ≡ true → random_of_entry e ≡ None
none_if_cut e is = rw is refl

said_of : (e : Entry) → is_cut e ≡ false → is_auxiliary e ≡ true → random_of_entry e ≡ Some (random_in (desc e))
said_of e whole is = rw (whole, is) refl

nothing_of : (e : Entry) → is_cut e ≡ false → is_auxiliary e ≡ false → random_of_entry e ≡ None
nothing_of e whole is = rw (whole, is) refl

pub returns-then-is_cut : goal.returns-then-is_cut
returns-then-is_cut c = entry_cut random_of_entry _ c.entries.said.items c.entries.entry (λ z. let t = c.is_end.ensures.1 z in absurd cc) (sym c.is_cut.ensures ∙ c.if-is_cut.true)
    (none_if_cut c.entries.entry (sym c.is_cut.ensures ∙ c.if-is_cut.true)) c.entries.invariant

pub entries-preserved : goal.entries-preserved
entries-preserved c =
    let whole : is_cut c.entries.entry ≡ false = sym c.is_cut.ensures ∙ c.if-is_cut.false in
    rw c.following-entry.ensures
    (entry_more random_of_entry _ c.entries.said.items c.if-is_auxiliary.said.items c.entries.entry (λ z. let t = c.is_end.ensures.1 z in absurd cc) whole
    (elim c.if-is_auxiliary.branch [
      | then-is_auxiliary+in_ok-push w ↦ ap (λ v. v.items) w.said-is ∙ w.in_ok-push.ensures.items
          ∙ ap (λ o. c.entries.said.items ++ added o) (ap Some (w.random_in.ensures ∙ ap random_in w.desc.ensures) ∙ sym (said_of c.entries.entry whole (sym c.is_auxiliary.ensures ∙ w.if-is_auxiliary.true)))
      | else-is_auxiliary w ↦ ap (λ v. v.items) w.said-is ∙ sym (append-nil c.entries.said.items)
          ∙ ap (λ o. c.entries.said.items ++ added o) (sym (nothing_of c.entries.entry whole (sym c.is_auxiliary.ensures ∙ w.if-is_auxiliary.false)))
    ])
    c.entries.invariant)

pub returns : goal.returns
returns c = entry_end random_of_entry _ c.entries.said.items c.entries.entry (c.is_end.ensures.0 c.entries-test.false) c.entries.invariant
