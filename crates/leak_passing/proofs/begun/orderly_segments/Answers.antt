-- The head of the core has its segments.
use Rattle.std.proofs.Common.{◌-◌, ℕ, length, take, subst, arith}
use Rattle.std.proofs.lemmas.List.{length-replicate, length-take-le}
use Rattle.leak_sift.specs.Places.{AreOrderly}
use Rattle.leak_passing.proofs.HeadLemmas.{head_of}
use Rattle.leak_passing.proofs.begun.orderly_segments.Goals as goal

pub segments_in-requires : goal.segments_in-requires
segments_in-requires c =
    let long = length-take-le c.args.head c.args.held.now c.requires.within in
    let behind = length-replicate {A = ℕ} (18446744073709551615 - length (take c.args.head c.args.held.now)) 0 in
    ((head_of c.args.held.now c.args.head c.requires).0, omega (arith, long, behind))

pub returns : goal.returns
returns c = record {
  of_head = c.in-Ok.ensures.of_head;
  kept = c.in-Ok.ensures.apart;
  orderly = subst AreOrderly c.as_slice.ensures.value (c.are_orderly.ensures.0 c.if-not-are_orderly.false);
}
