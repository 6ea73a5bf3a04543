-- What the later core alone reaches is marked of two.
use Rattle.leak_laws.proofs.LeakLemmas.{leaked_of_two_are_of_one}
use Rattle.leak_laws.proofs.leaks.earlier_cores_keep_blocks.Goals as goal

pub returns : goal.returns
returns c = leaked_of_two_are_of_one
