-- There is the list alone.
use Rattle.std.proofs.Common.{ap, append-nil}
use Rattle.leak_scan.specs.Positions.{words_left, words_in, words_from}
use Rattle.leak_scan.specs.Targets.{targets_of}
use Rattle.leak_scan.proofs.targets.Targets.of_registers.Goals as goal

pub returns : goal.returns
unfolding words_left words_in words_from
returns g c = ap (targets_of (g.L.Lookup.index c.args.lookup.now)) (append-nil c.args.registers.now)
