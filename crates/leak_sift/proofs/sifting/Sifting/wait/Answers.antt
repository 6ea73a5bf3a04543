-- No word is complete.
use Rattle.std.proofs.Common.{◌+◌, ◌<◌, length, refl, subst, sym}
use Rattle.leak_sift.specs.Sifted.{Sifted}
use Rattle.leak_sift.proofs.TakenLemmas.{takes_waiting}
use Rattle.leak_sift.proofs.sifting.Sifting.wait.Goals as goal

pub returns : goal.returns
returns c =
    rw (← c.self.view_is)
    (takes_waiting _ _ c.args.bytes.now refl refl refl refl c.add.ensures
    (subst (λ (s : Sifted). length s.waiting + length c.args.bytes.now < 8) (sym c.self.view_is) c.requires.few))
