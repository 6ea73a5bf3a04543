-- From the lemmas of Holders.
use Rattle.std.proofs.Common.{◌-◌, ◌<◌, ◌∙◌, sym, arith, false, length, get_or, [], ◌∷◌}
use Rattle.std.proofs.lemmas.List.{length-set}
use Rattle.leak_elf.specs.declared.segment.Segment.{Segment}
use Rattle.leak_elf.specs.Words.{IsNextHeld, IsHolder}
use Rattle.leak_elf.proofs.Holders.{holder_here, holder_on, holder_set, gives_none}
use Rattle.leak_elf.proofs.search.find_holders.Goals as goal
use Rattle.leak_elf.proofs.search.find_holders.Goals.{then-is_some, else-is_some}

abbrev empty : Segment
empty = record { vaddr = 0; memsz = 0; offset = 0; filesz = 0; writable = false }

pub loop-i-preserved : goal.loop-i-preserved
loop-i-preserved c =
    let segs = c.args.segments.now in
    let n = c.loop-i.i - 1 in
    let v = c.loop-i.invariant in
    let l : n < length segs = let b = v.bound in let t = c.loop-i-test.true in omega arith in
    let least : IsNextHeld (get_or segs n empty ∷ []) 0 c.find_next_in.result = c.find_next_in.ensures.least in
    let here : IsHolder segs n c.if-is_some.holder =
    elim c.if-is_some.branch [
      | then-is_some w ↦ rw w.holder-is (holder_here segs n empty c.find_next_in.result l least (sym c.is_some.ensures ∙ w.if-is_some.true))
      | else-is_some w ↦ rw w.holder-is (holder_on segs n c.loop-i.i c.loop-i.holder empty l (omega arith) (gives_none (get_or segs n empty) 0 c.find_next_in.result least (sym c.is_some.ensures ∙ w.if-is_some.false)) v.next)
    ] in
    record {
      bound = omega arith;
      size = length-set c.loop-i.holders.items n c.if-is_some.holder ∙ v.size;
      next = here;
      done = holder_set segs c.loop-i.holders.items n c.loop-i.i c.if-is_some.holder (let b = v.size in omega arith) (omega arith) here v.done;
    }
