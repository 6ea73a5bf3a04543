-- Each word stands for 8 bytes, and the others wait.
use Rattle.std.proofs.Common.{subst, sym, arith}
use Rattle.leak_sift.specs.Sifted.{HasTaken, Sifted}
use Rattle.leak_sift.proofs.TakenLemmas.{taken_count}
use Rattle.leak_sift.proofs.sifting.Sifting.finish.Goals as goal

pub returns-clause-bytes : goal.returns-clause-bytes
returns-clause-bytes c = λ bytes had.
    let count = taken_count _ bytes (subst (λ (s : Sifted). HasTaken s bytes) (sym c.self.view_is) had) in
    omega (arith, count, c.len.ensures, c.len-2.ensures.value)
