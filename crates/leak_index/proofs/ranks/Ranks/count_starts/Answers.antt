-- The rows of the run.
use Rattle.std.proofs.Common.{◌≡◌, ◌∙◌, ℕ, ◌+◌, ◌-◌, ◌/◌, ◌<◌, List, length, take, drop, slice_index_or, ap, sym, subst, arith}
use Rattle.std.proofs.lemmas.Grind.{get_or_default_zero}
use Rattle.std.proofs.lemmas.List.{get_or-take, get_or-drop, length-take}
use Rattle.leak_index.specs.Directory.{AreUpTo}
use Rattle.leak_index.specs.Ranks.{IsRow}
use Rattle.leak_index.specs.declared.ranks.Row.{Row}
use Rattle.leak_index.proofs.ranks.Ranks.count_starts.Goals as goal

pub count_in-requires-clause-rows : goal.count_in-requires-clause-rows
count_in-requires-clause-rows c k d below =
    let blocks = c.args.blocks.now in let numbers : List ℕ = c.args.self.now.numbers.items in let places : List ℕ = c.args.self.now.places.items in let rows : List Row = c.args.self.now.rows.items in
    let run : ℕ = c.count_pages-runs.result - 1 in let from : ℕ = c.index.result.now in let end : ℕ = c.end.result in
    let up : AreUpTo numbers (c.in-Some.word.now / 1024) c.count_pages-runs.result = subst (λ (xs : List ℕ). AreUpTo xs (c.in-Some.word.now / 1024) c.count_pages-runs.result) c.as_slice.ensures.value c.count_pages-runs.ensures in
    let inside : run < length numbers = let n = c.if-runs-eq0.false in omega (arith, n, up.bound) in
    let place : from ≡ slice_index_or places run 0 = c.index.ensures ∙ get_or_default_zero places run _ (omega (arith, inside, c.requires.ranked.runs.paired)) in
    let number : c.index-2.result.now ≡ slice_index_or numbers run 0 = c.index-2.ensures ∙ get_or_default_zero numbers run _ inside in
    let all : List Row = c.deref.result.now in
    let short : k < end - from = let l = length-take (end - from) (drop from all) in omega (arith, l, below) in
    let same : slice_index_or (take (end - from) (drop from all)) k d ≡ slice_index_or rows (from + k) d =
    get_or-take (end - from) (drop from all) k d short ∙ get_or-drop from all k d ∙ ap (λ (l : List Row). slice_index_or l (from + k) d) c.deref.ensures.value in
    let row = c.requires.ranked.each run (from + k) d inside (omega (arith, place)) (omega (arith, short, c.end.ensures)) in
    let named : c.index-2.result.now + k ≡ slice_index_or numbers run 0 + (from + k - slice_index_or places run 0) = omega (arith, place, number) in
    subst (λ (r : Row). IsRow blocks (length blocks) (c.index-2.result.now + k) r) (sym same) (subst (λ (n : ℕ). IsRow blocks (length blocks) n (slice_index_or rows (from + k) d)) (sym named) row)
