-- The line's caller and the fault's number are in the window.
use Rattle.std.proofs.Common.{length, Some, ap, subst, arith}
use Rattle.leak_mtrace.specs.Log.{IsCallerIn, IsFirstFault}
use Rattle.leak_mtrace.specs.Reading.{IsNextRead}
use Rattle.leak_blocks.proofs.WindowLemmas.{caller_in, fault_number}
use Rattle.leak_blocks.proofs.window.next_moved.Goals as goal

pub moved-requires-clause-room : goal.moved-requires-clause-room
moved-requires-clause-room c =
    let next : IsNextRead c.next_line.new.self c.requires.so_far.0 (Some c.in-Ok-Some.line) = subst (IsNextRead c.next_line.new.self c.requires.so_far.0) c.in-Ok-Some.field-0-is (c.in-Ok-Some.ensures.next c.requires.so_far.0 c.requires.so_far.1) in
    let i : IsCallerIn c.next_line.new.self.bytes c.in-Ok-Some.line = caller_in c.next_line.new.self c.requires.so_far.0 c.in-Ok-Some.line next in
    omega (arith, i.within, ap length c.next_line.ensures.bytes, c.requires.fits)

pub moved-requires-clause-order : goal.moved-requires-clause-order
moved-requires-clause-order c =
    let next : IsNextRead c.next_line.new.self c.requires.so_far.0 (Some c.in-Ok-Some.line) = subst (IsNextRead c.next_line.new.self c.requires.so_far.0) c.in-Ok-Some.field-0-is (c.in-Ok-Some.ensures.next c.requires.so_far.0 c.requires.so_far.1) in
    (caller_in c.next_line.new.self c.requires.so_far.0 c.in-Ok-Some.line next).order

pub later_fault-requires : goal.later_fault-requires
later_fault-requires c =
    let bad : IsFirstFault c.args.reader.now.bytes c.in-Err.fault = c.in-Err.ensures.refused c.requires.so_far.0 c.requires.so_far.1 in
    omega (arith, fault_number c.args.reader.now.bytes c.in-Err.fault bad, c.requires.fits, c.requires.few)
