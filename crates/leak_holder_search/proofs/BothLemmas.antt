-- Sets of blocks, block by block.
use Rattle.std.proofs.Common.{◌≡◌, ◌&&◌, ℕ, Bool, false, List, length, ap, ◌∙◌}
use Rattle.std.specs.Prelude.{slice_index, slice_index_or, if◌then◌else◌, ◌==◌}
use Rattle.std.specs.List.{range_with_len}
use Rattle.std.proofs.lemmas.List.{length-map}
use Rattle.std.proofs.lemmas.List.FromFn.{length-range_with_len}
use Rattle.leak_holder_search.specs.declared.analysis.Analysis.{Analysis}
use Rattle.leak_holder_search.specs.declared.choosing.Choice.{Choice}
use Rattle.leak_holder_search.specs.Analyses.{IsAnalysis, blocks_in}
use Rattle.leak_holder_search.specs.Answers.{IsChoice}
use Rattle.leak_holder_search.specs.Held.{both, chosen_with}
use Rattle.leak_holder_search.proofs.FindLemmas.{numbers_are}

pub both_each : (xs ys : List Bool) → length (both xs ys) ≡ length xs
both_each xs ys =
    length-map (range_with_len 0 (length xs)) (λ (b : ℕ). slice_index_or xs b false && slice_index_or ys b false) ∙ length-range_with_len 0 (length xs)

pub chosen_each : (numbers : List ℕ) (block : ℕ) (alone : Bool) → length (chosen_with numbers block alone) ≡ length numbers
chosen_each numbers block alone =
    length-map (range_with_len 0 (length numbers)) (λ (b : ℕ). if alone then b == block else slice_index numbers b == slice_index numbers block)
    ∙ length-range_with_len 0 (length numbers)

pub set_each : (a : Analysis) (s : IsAnalysis a) (choice : Choice) → IsChoice a choice → length choice.set.items ≡ length (blocks_in a)
set_each a s choice chosen = ap length chosen.set ∙ chosen_each a.texts.numbers.items choice.block choice.question.alone ∙ (numbers_are a s).one_each
