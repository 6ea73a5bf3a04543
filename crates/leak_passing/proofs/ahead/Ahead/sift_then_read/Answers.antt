-- From the lemmas of AheadLemmas.
use Rattle.std.proofs.Common.{rules, List, ℕ, take, sym, subst}
use Rattle.std.proofs.lemmas.List.{with_items_is, places}
use Rattle.std.proofs.lemmas.Result.{err_from_is_err_and}
use Rattle.leak_sift.specs.Sifted.{Takes}
use Rattle.leak_alike.specs.SiftedCores.{AreBytes}
use Rattle.leak_passing.proofs.AheadLemmas.{lost, sifts_piece}
use Rattle.leak_passing.proofs.ahead.Ahead.sift_then_read.Goals as goal

pub returns-in_err-self-inside-clause-refused : goal.returns-in_err-self-inside-clause-refused
returns-in_err-self-inside-clause-refused g c =
    let p = err_from_is_err_and c.from_residual-in_err-self-inside.result c.from_residual-in_err-self-inside.ensures.1 in
    rw (p.1, p.2) (lost g.R.ReadCalls.calls c.args.limit c.args.reader.now c.next_into.new.reader c.args.self.now c.self.inside.reading _ (sym c.self.view_is) _ c.in_err-self-inside.ensures.refused)

pub returns-clause-ok : goal.returns-clause-ok
returns-clause-ok g c =
    let n = c.self.inside.count in
    rw (with_items_is c.self.inside.front c.next_into.new.buffer (search (rules, places)))
    (sifts_piece g.R.ReadCalls.calls c.args.limit c.args.reader.now c.next_into.new.reader c.args.self.now c.self.inside.reading (take n c.self.inside.front.items) (sym c.self.view_is)
    c.args.sifting.now c.take.new.self c.next_into.new.self c.in_ok-self-inside.field-0 c.next_into.new.buffer
    (subst (λ (l : List ℕ). Takes c.args.sifting.now (take n l) c.take.new.self) c.as_slice.ensures.value c.in_ok-take.ensures.ok)
    (subst (λ (l : List ℕ). AreBytes (take n l)) c.as_slice.ensures.value c.are_bytes.ensures)
    c.in_ok-self-inside.ensures.more c.in_ok-self-inside.ensures.end c.in_ok-self-inside.ensures.taken c.in_ok-self-inside.ensures.within)
