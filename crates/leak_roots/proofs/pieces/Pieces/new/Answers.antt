-- From the lemmas of Numbered and Whole.
use Rattle.std.proofs.Common.{◌≡◌, ℕ, ◌<◌, List, length, ◌∙◌, ap, subst, arith}
use Rattle.leak_roots.specs.Places.{AreRanges}
use Rattle.leak_roots.specs.Cut.{cut_count, memory_pieces}
use Rattle.leak_roots.specs.Numbers.{AreListed}
use Rattle.leak_roots.proofs.Numbered.{length_pieces_of, cut_few}
use Rattle.leak_roots.proofs.Whole.{pieces_cut}
use Rattle.leak_roots.proofs.pieces.Pieces.new.Goals as goal

pub invariant_of-result : goal.invariant_of-result
invariant_of-result c =
    let some : 0 < c.args.words = let z = c.if-words-eq0.false in omega arith in
    let cut : c.div_ceil-registers.result ≡ cut_count c.args.words (length c.args.roots.now.registers) =
    c.div_ceil-registers.ensures ∙ ap (λ (rs : List ℕ). cut_count c.args.words (length rs)) c.registers.ensures in
    let n = length_pieces_of c.args.words c.args.roots.now in
    let m : length (memory_pieces c.args.words c.memory.result.now) ≡ length (memory_pieces c.args.words c.args.roots.now.memory) = ap (λ (rs : List (ℕ × ℕ)). length (memory_pieces c.args.words rs)) c.memory.ensures.value in
    let count = c.in_ok-long.ensures.count in
    let few = c.in_ok-long.ensures.few in
    let r = cut_few c.args.words (length c.registers.result.now) some in
    let e = c.div_ceil-registers.ensures in
    record {
      some = some;
      registers_cut = cut;
      listed = subst (λ (rs : List (ℕ × ℕ)). AreListed c.args.words rs 0 c.in_ok-long.long.items (length rs)) c.memory.ensures.value c.in_ok-long.ensures.long;
      counted = omega arith;
      few = omega arith;
    }

pub returns-clause-cut : goal.returns-clause-cut
returns-clause-cut c =
    pieces_cut c.args.words c.args.roots.now (let z = c.if-words-eq0.false in omega arith) (subst AreRanges c.memory.ensures.value c.memory.ensures.ranges)
