-- From the lemmas of AheadLemmas.
use Rattle.std.proofs.Common.{rules, List, ℕ, take, sym, subst}
use Rattle.std.proofs.lemmas.List.{with_items_is, places}
use Rattle.std.specs.Prelude.{Result, OnOk}
use Rattle.std.specs.declared.alloc.AllocError.{AllocError}
use Rattle.leak_sift.specs.Sifted.{Takes}
use Rattle.leak_alike.specs.SiftedCores.{AreBytes}
use Rattle.leak_passing.specs.Sifting.{ReadsInto}
use Rattle.leak_passing.proofs.AheadLemmas.{lost_beside, short, sifts_beside}
use Rattle.leak_passing.proofs.ahead.Ahead.sift_beside_read.Goals as goal

pub returns-in-Err-clause-refused : goal.returns-in-Err-clause-refused
returns-in-Err-clause-refused g c =
    let reads : ReadsInto g.R.ReadCalls.calls c.args.limit c.args.reader.now c.self.inside.reading c.reader-1.given.0 c.join_mut-sifted.new.g.0.now c.back-1.given.0 c.join_mut-sifted.result.1 = search rules in
    lost_beside g.R.ReadCalls.calls c.args.limit c.args.reader.now _ c.args.self.now c.self.inside.reading _ (sym c.self.view_is) c.join_mut-sifted.new.g.0.now _ c.join_mut-sifted.result.1
    reads _ c.in-Err.is

pub returns-in-Err-sifted-clause-refused : goal.returns-in-Err-sifted-clause-refused
returns-in-Err-sifted-clause-refused g c =
    let reads : ReadsInto g.R.ReadCalls.calls c.args.limit c.args.reader.now c.self.inside.reading c.reader-1.given.0 c.join_mut-sifted.new.g.0.now c.back-1.given.0 c.join_mut-sifted.result.1 = search rules in
    short g.R.ReadCalls.calls c.args.limit c.args.reader.now _ c.args.self.now c.self.inside.reading _ (sym c.self.view_is) c.join_mut-sifted.new.g.0.now _ c.join_mut-sifted.result.1
    reads c.in-Ok.count c.short_beside.result c.in-Ok.is c.short_beside.ensures.end c.short_beside.ensures.more

pub returns-in-Ok-sifted-clause-ok : goal.returns-in-Ok-sifted-clause-ok
returns-in-Ok-sifted-clause-ok g c =
    let reads : ReadsInto g.R.ReadCalls.calls c.args.limit c.args.reader.now c.self.inside.reading c.reader-1.given.0 c.join_mut-sifted.new.g.0.now c.back-1.given.0 c.join_mut-sifted.result.1 = search rules in
    let n = c.self.inside.count in
    let sifts : OnOk c.join_mut-sifted.result.0 (Takes c.args.sifting.now (take n c.as_slice.result.now) c.sifting-1.given.0) = search rules in
    let taken : Takes c.args.sifting.now (take n c.as_slice.result.now) c.sifting-1.given.0 =
    subst (λ (r : Result (Unit {0}) AllocError). OnOk r (Takes c.args.sifting.now (take n c.as_slice.result.now) c.sifting-1.given.0)) c.in-Ok-sifted.is sifts in
    rw (c.swap.ensures.x_after, with_items_is c.self.inside.back c.back-1.given.0 (search (rules, places)))
    (sifts_beside g.R.ReadCalls.calls c.args.limit c.args.reader.now _ c.args.self.now c.self.inside.reading (take n c.self.inside.front.items) (sym c.self.view_is) c.join_mut-sifted.new.g.0.now c.back-1.given.0
    c.join_mut-sifted.result.1 reads c.args.sifting.now _ c.in-Ok.count c.in-Ok.is
    (subst (λ (l : List ℕ). Takes c.args.sifting.now (take n l) c.sifting-1.given.0) c.as_slice.ensures.value taken)
    (subst (λ (l : List ℕ). AreBytes (take n l)) c.as_slice.ensures.value c.are_bytes.ensures))
