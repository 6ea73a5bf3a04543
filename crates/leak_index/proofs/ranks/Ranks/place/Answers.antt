-- The run that begins last before the address or at it has its row, or ends before it.
use Rattle.std.proofs.Common.{◌≡◌, ◌∙◌, ℕ, ◌+◌, ◌-◌, ◌/◌, ◌<◌, length, slice_index_or, List, subst, arith}
use Rattle.std.proofs.lemmas.Grind.{get_or_default_zero}
use Rattle.leak_index.specs.Directory.{AreUpTo}
use Rattle.leak_index.proofs.Ranked.{counted_row, ranked_after, ranked_none, row_read}
use Rattle.leak_index.proofs.ranks.Ranks.place.Goals as goal

pub returns-then-runs-eq0 : goal.returns-then-runs-eq0
returns-then-runs-eq0 c =
    let numbers = c.args.self.now.numbers.items in
    let up : AreUpTo numbers (c.args.address / 1024) c.count_pages-runs.result = subst (λ (xs : List ℕ). AreUpTo xs (c.args.address / 1024) c.count_pages-runs.result) c.as_slice.ensures.value c.count_pages-runs.ensures in
    ranked_none c.args.blocks.now numbers c.args.self.now.places.items c.args.self.now.rows.items c.args.address c.requires.ranked (λ some. up.beyond 0 0 (omega arith) some)

pub place-requires-clause-row : goal.place-requires-clause-row
place-requires-clause-row c =
    let numbers = c.args.self.now.numbers.items in
    let places = c.args.self.now.places.items in
    let run : ℕ = c.count_pages-runs.result - 1 in
    let up : AreUpTo numbers (c.args.address / 1024) c.count_pages-runs.result = subst (λ (xs : List ℕ). AreUpTo xs (c.args.address / 1024) c.count_pages-runs.result) c.as_slice.ensures.value c.count_pages-runs.ensures in
    let inside : run < length numbers = omega (arith, up.bound) in
    let place : c.index-place.result.now ≡ slice_index_or places run 0 = c.index-place.ensures ∙ get_or_default_zero places run _ (omega (arith, c.requires.ranked.runs.paired)) in
    let number : c.index.result.now ≡ slice_index_or numbers run 0 = c.index.ensures ∙ get_or_default_zero numbers run _ inside in
    let i : ℕ = c.index-place.result.now + (c.args.address / 1024 - c.index.result.now) in
    row_read c.args.blocks.now numbers places c.args.self.now.rows.items c.args.address run i _ c.requires.ranked inside (omega (arith, place)) (omega (arith, place, c.end-end.ensures, c.if-distance-end.true)) (omega (arith, place, number, up.within run 0 (omega arith))) c.index-then-distance-end.ensures

pub returns : goal.returns
returns c =
    let numbers = c.args.self.now.numbers.items in
    let places = c.args.self.now.places.items in
    let run : ℕ = c.count_pages-runs.result - 1 in
    let up : AreUpTo numbers (c.args.address / 1024) c.count_pages-runs.result = subst (λ (xs : List ℕ). AreUpTo xs (c.args.address / 1024) c.count_pages-runs.result) c.as_slice.ensures.value c.count_pages-runs.ensures in
    let inside : run < length numbers = omega (arith, up.bound) in
    let place : c.index-place.result.now ≡ slice_index_or places run 0 = c.index-place.ensures ∙ get_or_default_zero places run _ (omega (arith, c.requires.ranked.runs.paired)) in
    let number : c.index.result.now ≡ slice_index_or numbers run 0 = c.index.ensures ∙ get_or_default_zero numbers run _ inside in
    let next : run + 1 ≡ c.count_pages-runs.result = omega arith in
    counted_row _ _ _ _ 64 _ c.index-row.ensures c.ones_below.ensures
    (ranked_after c.args.blocks.now numbers places c.args.self.now.rows.items c.args.address run c.end-end.result _ c.requires.ranked inside c.end-end.ensures (omega (arith, place, number, up.within run 0 (omega arith), c.end-end.ensures, c.if-distance-end.false)) (λ l. up.beyond (run + 1) 0 (omega arith) l))
