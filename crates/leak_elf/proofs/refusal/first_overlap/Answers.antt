-- From the lemmas of Meeting.
use Rattle.std.proofs.Common.{◌≡◌, arith, true}
use Rattle.leak_elf.specs.Segments.{meet_within}
use Rattle.leak_elf.proofs.Meeting.{none_within, some_within}
use Rattle.leak_elf.proofs.refusal.first_overlap.Goals as goal

pub loop-met-init : goal.loop-met-init
loop-met-init c =
    let hs = c.args.headers.now in
    let high : meet_within hs c.args.count ≡ true = c.requires.meet in
    record { order = some_within hs c.args.count high; bound = omega arith; low = none_within hs; high = high }
