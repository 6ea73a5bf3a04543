-- The words at the addresses between.
use Rattle.std.proofs.Common.{refl}
use Rattle.leak_elf.specs.Words.{words_between}
use Rattle.leak_scan.specs.Positions.{words_from}
use Rattle.leak_scan.proofs.targets.Targets.of_range.Goals as goal

pub returns : goal.returns
unfolding words_between words_from
returns g c = rw (c.over.ensures, c.saturating_sub-count.ensures, c.saturating_sub.ensures) refl
