-- From the lemmas of BehindLemmas.
use Rattle.std.proofs.Common.{◌<◌, ◌/◌, List, ℕ, ◌*◌, length, subst, arith}
use Rattle.leak_elf.specs.Head.{AreZerosUpTo}
use Rattle.leak_sift.proofs.BehindLemmas.{behind_some, zeros_to}
use Rattle.leak_sift.proofs.behind.BehindRest.skip_zeros.Goals as goal

pub returns : goal.returns
returns c =
    let words = c.in-Some.words.now in
    let it = behind_some c.self.inside.words c.in-Some.words c.self.inside.len c.args.self.now c.in-Some.is c.self.invariant c.self.view_is in
    let inside : c.args.at / 8 < length words = omega (arith, c.if-place-len.false, c.len.ensures) in
    subst (λ (bytes : List ℕ). AreZerosUpTo bytes c.args.at (8 * c.skip_zeros.result)) it.1
    (zeros_to words c.self.inside.len c.args.at c.skip_zeros.result it.0 c.requires inside c.skip_zeros.ensures)
