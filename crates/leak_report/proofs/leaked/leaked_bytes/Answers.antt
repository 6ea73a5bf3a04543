-- The sum of the first sizes is at most that of all.
use Rattle.std.proofs.Common.{◌≡◌, sum_by, take, false, arith}
use Rattle.std.proofs.lemmas.List.Sums.{sum_by_more_le}
use Rattle.leak_report.proofs.leaked.leaked_bytes.Goals as goal

pub overflow_add-bytes : goal.overflow_add-bytes
overflow_add-bytes c =
    let so_far : c.loop-leak.bytes ≡ sum_by (λ l. l.block.size) (take c.loop-leak.leak-index c.args.leaks.now) = c.loop-leak.invariant in
    omega (
      arith,
      so_far,
      c.requires,
      sum_by_more_le (λ l. l.block.size) c.args.leaks.now c.loop-leak.leak-index (record { block = record { start = 0; size = 0; line = 0; caller = (0, 0) }; head = false }) c.loop-leak-test.true,
    )
