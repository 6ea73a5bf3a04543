-- From the lemmas of Held and Meeting.
use Rattle.std.proofs.Common.{◌≡◌, ◌+◌, ◌-◌, ◌≤◌, sym, arith, false, get_or, inl, inr}
use Rattle.std.proofs.lemmas.Bool.{cases_lt}
use Rattle.leak_elf.specs.declared.segment.Segment.{Segment}
use Rattle.leak_elf.proofs.Held.{get_any}
use Rattle.leak_elf.proofs.Meeting.{none_meet, meet_at, share_next}
use Rattle.leak_elf.proofs.segment.neighbors_meet.Goals as goal

abbrev empty : Segment
empty = record { vaddr = 0; memsz = 0; offset = 0; filesz = 0; writable = false }

pub returns : goal.returns
returns c = sym (none_meet c.args.segments.now empty c.requires.ascending (λ j k e l. c.loop-i.invariant j k empty e (omega arith)))

pub returns-then-segments-i : goal.returns-then-segments-i
returns-then-segments-i c =
    let xs = c.args.segments.now in
    let i = c.loop-i.i in
    let some = c.requires.some i empty (omega arith) in
    let up = c.requires.ascending (i - 1) i empty (omega arith) (omega arith) in
    sym (meet_at xs (i - 1) i empty (omega arith) (omega arith) (share_next (get_or xs (i - 1) empty) (get_or xs i empty) some up c.if-segments-i.true))

pub loop-i-preserved : goal.loop-i-preserved
loop-i-preserved c = λ j k d e l.
    let xs = c.args.segments.now in
    let i = c.loop-i.i in
    elim (cases_lt k i) [
      | inl m ↦ c.loop-i.invariant j k d e m
      | inr m ↦
          let here : k ≡ i = omega arith in
          let there : j ≡ i - 1 = omega arith in
          let up = c.requires.ascending (i - 1) i empty (omega arith) (omega arith) in
          let apart : (get_or xs (i - 1) empty).vaddr + (get_or xs (i - 1) empty).memsz ≤ (get_or xs i empty).vaddr = let f = c.if-segments-i.false in omega arith in
          rw (here, there, get_any xs (i - 1) d empty (omega arith), get_any xs i d empty (omega arith)) apart
    ]
