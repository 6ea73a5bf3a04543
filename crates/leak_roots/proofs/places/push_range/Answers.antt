-- From the lemmas of Addresses, LeftOut and Few.
use Rattle.std.proofs.Common.{refl, ◌*◌, ◌/◌, length, arith}
use Rattle.leak_roots.proofs.Addresses.{aligned_some, aligned_none}
use Rattle.leak_roots.proofs.LeftOut.{adds_none, adds_wider, before_later}
use Rattle.leak_roots.proofs.Few.{gap_cut, gap_none}
use Rattle.leak_roots.proofs.places.push_range.Goals as goal

pub push-requires-clause-fits : goal.push-requires-clause-fits
push-requires-clause-fits g c = before_later c.args.from _ c.args.kept.now (let e = c.div_ceil-first.ensures in omega arith) c.requires

pub returns-in_ok-push-clause-adds : goal.returns-in_ok-push-clause-adds
returns-in_ok-push-clause-adds g c =
    let keeps = g.T.RangeTest.keeps c.args.test.now in
    rw (aligned_some c.args.from c.args.to c.div_ceil-first.result (c.args.to / 8) (let e = c.div_ceil-first.ensures in omega arith) refl c.if-first-last.true)
    (adds_wider keeps c.args.from c.args.to (8 * c.div_ceil-first.result) (8 * (c.args.to / 8)) _ c.args.kept.now c.push.new.self (let e = c.div_ceil-first.ensures in omega arith) (omega arith) c.in_ok-push.ensures.adds)

pub returns-in_ok-push-clause-fits : goal.returns-in_ok-push-clause-fits
returns-in_ok-push-clause-fits g c = λ addr l before. before_later (8 * (c.args.to / 8)) addr c.push.new.self (omega arith) c.in_ok-push.ensures.fits

pub returns-in_ok-push-clause-few : goal.returns-in_ok-push-clause-few
returns-in_ok-push-clause-few g c =
    gap_cut c.args.kept.now.spans.now c.args.from c.args.to (8 * c.div_ceil-first.result) (8 * (c.args.to / 8)) (length c.args.kept.now.memory.items) (length c.push.new.self.memory.items)
    (let e = c.div_ceil-first.ensures in omega arith) (omega arith) (omega arith) c.in_ok-push.ensures.cuts

pub returns-else-first-last-clause-adds : goal.returns-else-first-last-clause-adds
returns-else-first-last-clause-adds g c = rw (aligned_none c.args.from c.args.to (let e = c.div_ceil-first.ensures in omega arith)) (adds_none (g.T.RangeTest.keeps c.args.test.now) c.args.from c.args.to c.args.kept.now)

pub returns-else-first-last-clause-few : goal.returns-else-first-last-clause-few
returns-else-first-last-clause-few g c = gap_none c.args.kept.now.spans.now c.args.from c.args.to (length c.args.kept.now.memory.items)
