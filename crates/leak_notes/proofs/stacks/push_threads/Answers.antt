-- From the lemmas of PickLemmas.
use Rattle.std.proofs.Common.{◌≡◌, ◌++◌, true, None, refl, ap, sym, ◌∙◌, append-nil}
use Rattle.leak_notes.specs.Entry.{Entry, is_cut}
use Rattle.leak_notes.specs.Stacks.{stack_registers_of}
use Rattle.leak_notes.proofs.PickLemmas.{added, entry_more, entry_end, entry_cut}
use Rattle.leak_notes.proofs.stacks.push_threads.Goals as goal
use Rattle.leak_notes.proofs.stacks.push_threads.Goals.{in-Some+in_ok-push, in_default}

none_if_cut : (e : Entry) → is_cut e ≡ true → stack_registers_of e ≡ None
none_if_cut e is = rw is refl

pub returns-then-is_cut : goal.returns-then-is_cut
returns-then-is_cut c = entry_cut stack_registers_of _ c.entries.threads.items c.entries.entry (λ z. let t = c.is_end.ensures.1 z in absurd cc) (sym c.is_cut.ensures ∙ c.if-is_cut.true)
    (none_if_cut c.entries.entry (sym c.is_cut.ensures ∙ c.if-is_cut.true)) c.entries.invariant

pub entries-preserved : goal.entries-preserved
entries-preserved c =
    rw c.following-entry.ensures
    (entry_more stack_registers_of _ c.entries.threads.items c.match-stack_registers_of.threads.items c.entries.entry (λ z. let t = c.is_end.ensures.1 z in absurd cc) (sym c.is_cut.ensures ∙ c.if-is_cut.false)
    (elim c.match-stack_registers_of.branch [
      | in-Some+in_ok-push w ↦ ap (λ v. v.items) w.threads-is ∙ w.in_ok-push.ensures.items ∙ ap (λ o. c.entries.threads.items ++ added o) (sym w.in-Some.is ∙ c.stack_registers_of.ensures)
      | in_default w ↦ ap (λ v. v.items) w.threads-is ∙ sym (append-nil c.entries.threads.items) ∙ ap (λ o. c.entries.threads.items ++ added o) (sym w.in_default.is ∙ c.stack_registers_of.ensures)
    ])
    c.entries.invariant)

pub returns : goal.returns
returns c = entry_end stack_registers_of _ c.entries.threads.items c.entries.entry (c.is_end.ensures.0 c.entries-test.false) c.entries.invariant
