-- From the lemmas of NumberLemmas.
use Rattle.std.proofs.Common.{◌≡◌, List, ℕ, ◌<◌, ◌++◌, length, map, take, drop, get_or, ap, sym, subst, ◌∙◌, arith}
use Rattle.std.proofs.lemmas.List.{length-map}
use Rattle.std.proofs.lemmas.List.Sorted.{length_permutation}
use Rattle.std.proofs.Math.Seq.{take-append_seam}
use denote.Ref.{Bor}
use Rattle.std.specs.List.{All}
use Rattle.leak_report.specs.Numbered.{AreNumbered, bytes_each, text_with}
use Rattle.leak_report.specs.Meeting.{IsSortOf}
use Rattle.leak_report.proofs.NumberLemmas.{numbered}
use Rattle.leak_report.proofs.numbering.in_order.Goals as goal

pub places-requires-clause-few : goal.places-requires-clause-few
places-requires-clause-few c =
    omega (
      arith,
      c.requires.few,
      ap length c.as_slice-3.ensures.value,
      ap length c.as_slice.ensures.value,
      length_permutation c.as_slice.result.now c.in_ok-texts.texts.items c.in_ok-texts.ensures.permutation,
    )

pub returns : goal.returns
returns c =
    let texts : List (Bor (List ℕ)) = c.args.met.texts.items in
    let sorted : List (Bor (List ℕ)) = c.in_ok-texts.texts.items in
    let places : List ℕ = c.in_ok-places.places.items in
    let new : List ℕ = c.renumber.new.numbers in
    let whole : c.args.met.numbers.len ≡ length new = omega (arith, ap length c.renumber.ensures, length-map c.as_mut_slice.result.now (λ n. get_or c.as_slice-4.result.now n 0), ap length c.as_mut_slice.ensures.value) in
    subst (AreNumbered (map (text_with (bytes_each texts)) c.args.met.numbers.items) (bytes_each sorted))
    (sym (ap (λ (n : ℕ). take n (new ++ drop (length new) c.args.met.numbers.items)) whole ∙ take-append_seam new (drop (length new) c.args.met.numbers.items)))
    (numbered (map (text_with (bytes_each texts)) c.args.met.numbers.items) texts sorted c.args.met.numbers.items places c.renumber.new.numbers c.requires.as_met
    (subst (λ (ts : List (Bor (List ℕ))). IsSortOf ts sorted) c.as_slice.ensures.value c.in_ok-texts.ensures)
    (ap (λ (ss : List (Bor (List ℕ))). map (text_with (bytes_each ss)) places) (sym c.as_slice-3.ensures.value) ∙ c.in_ok-places.ensures.each ∙ ap bytes_each c.as_slice-2.ensures.value)
    (subst (λ (ss : List (Bor (List ℕ))). All (λ n. n < length ss) places) c.as_slice-3.ensures.value c.in_ok-places.ensures.below)
    (c.renumber.ensures ∙ ap (λ (ns : List ℕ). map (λ n. get_or c.as_slice-4.result.now n 0) ns) c.as_mut_slice.ensures.value
    ∙ ap (λ (ps : List ℕ). map (λ n. get_or ps n 0) c.args.met.numbers.items) c.as_slice-4.ensures.value))
