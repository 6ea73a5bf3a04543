-- A word at the start of a block leads to it alone.
use Rattle.std.proofs.Common.{subst, sym}
use Rattle.leak_index.specs.Hits.{Index, hits_of}
use Rattle.leak_index.specs.AddressPlaces.{IsAddressPlace, IsOnlyStart}
use Rattle.leak_index.proofs.Near.{found_only}
use Rattle.leak_index.proofs.candidates.Candidates.hits_at.Goals as goal

pub returns-in-Start : goal.returns-in-Start
unfolding hits_of
returns-in-Start c =
    let only : IsOnlyStart c.args.self.now.blocks c.args.word c.in-Start.block = subst (IsAddressPlace c.args.self.now.blocks c.args.word) c.in-Start.is c.requires in
    rw (← c.self.view_is) (found_only _ _ _ _ c.self.invariant.disjoint (subst (λ (index : Index). IsOnlyStart index.blocks c.args.word c.in-Start.block) (sym c.self.view_is) only))
