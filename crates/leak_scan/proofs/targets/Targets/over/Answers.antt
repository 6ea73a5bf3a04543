-- There is no list and no run.
use Rattle.std.proofs.Common.{refl}
use Rattle.leak_scan.specs.Positions.{words_left, words_in}
use Rattle.leak_scan.proofs.targets.Targets.over.Goals as goal

pub returns : goal.returns
unfolding words_left words_in
returns g c = refl
