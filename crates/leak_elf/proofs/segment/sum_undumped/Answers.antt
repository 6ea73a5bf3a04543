-- From the lemmas of Kept and Held.
use Rattle.std.proofs.Common.{arith, true, false}
use Rattle.leak_elf.specs.declared.segment.Segment.{Segment}
use Rattle.leak_elf.proofs.Kept.{lacking_more}
use Rattle.leak_elf.proofs.Held.{get_any}
use Rattle.leak_elf.proofs.segment.sum_undumped.Goals as goal
use Rattle.leak_elf.proofs.segment.sum_undumped.Goals.{then-segment, else-segment}

abbrev empty : Segment
empty = record { vaddr = 0; memsz = 0; offset = 0; filesz = 0; writable = false }

pub loop-segment-preserved : goal.loop-segment-preserved
loop-segment-preserved c =
    let xs = c.args.segments.now in
    let i = c.loop-segment.segment-index in
    let l = c.loop-segment-test.true in
    let v = c.loop-segment.invariant in
    elim c.if-segment.branch [
      | then-segment w ↦
          let more = lacking_more xs i empty true l w.if-segment.true in
          record {
            sum = let t = w.total-is in let u = v.sum in omega arith;
            below = λ k d lk m.
                let b = v.below i empty (omega arith) l in
                let a = c.requires.apart i k empty (omega arith) m in
                let z = c.requires.each i empty l in
                let t = w.total-is in
                rw (get_any xs k d empty m) (omega arith);
          }
      | else-segment w ↦
          let more = lacking_more xs i empty false l w.if-segment.false in
          record {
            sum = let t = w.total-is in let u = v.sum in omega arith;
            below = λ k d lk m. let t = w.total-is in let b = v.below k d (omega arith) m in omega arith;
          }
    ]
