-- From the lemmas of LineLemmas.
use Rattle.std.proofs.Common.{◌∙◌, ap, sym, map, ◌==◌, ℕ, List}
use Rattle.std.proofs.lemmas.List.{take_all}
use Rattle.std.proofs.lemmas.List.Sorted.{IsNonDecreasingBy-from_sort, list_any-IsPermutation}
use Rattle.std.specs.List.{list_any}
use Rattle.leak_blocks.specs.declared.block.Block.{Block}
use Rattle.leak_later.proofs.LineLemmas.{has_map_line}
use Rattle.leak_later.proofs.carrying.sorted_lines.Goals as goal

pub returns-clause-ascending : goal.returns-clause-ascending
returns-clause-ascending c = IsNonDecreasingBy-from_sort (λ n. n) _ c.sort_unstable.ensures.sorted

pub returns-clause-lines : goal.returns-clause-lines
returns-clause-lines c = λ line.
    sym (list_any-IsPermutation (λ (n : ℕ). n == line) _ _ c.sort_unstable.ensures.permutation)
    ∙ ap (λ (xs : List ℕ). list_any (λ n. n == line) xs) (c.loop-block.invariant ∙ ap (λ (bs : List Block). map (λ b. b.line) bs) (take_all c.loop-block.block-index c.args.blocks.now c.loop-block-test.false))
    ∙ has_map_line c.args.blocks.now line
