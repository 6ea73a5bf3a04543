-- The texts of both logs are numbered together.
use Rattle.std.proofs.Common.{◌≡◌, ℕ, List, ◌++◌, length, map, filter, refl, sym, ap, subst, ◌∙◌}
use Rattle.std.proofs.lemmas.List.{length-map}
use denote.Ref.{Bor}
use Rattle.leak_blocks.specs.declared.block.Block.{Block}
use Rattle.leak_report.specs.Totals.{text_at}
use Rattle.leak_report.specs.Numbered.{AreNumbered, bytes_each, texts_of}
use Rattle.leak_growth.specs.declared.rows.Row.{Row}
use Rattle.leak_growth.specs.declared.summing.Sizes.{Sizes}
use Rattle.leak_growth.specs.Rows.{AreTextsOf, AreRanked, is_changed, rows_with, sums_of, sizes_of, with_text, new_of}
use Rattle.leak_growth.specs.Report.{growths_of}
use Rattle.leak_growth.proofs.OrderLemmas.{rows_are}
use Rattle.leak_growth.proofs.PartLemmas.{first_part, second_part, numbered_both}
use Rattle.leak_growth.proofs.growing.growths.Goals as goal

pub sums-requires-clause-texts : goal.sums-requires-clause-texts
sums-requires-clause-texts c =
    let are : AreNumbered (texts_of c.args.log1.now c.args.earlier.now ++ texts_of c.args.log2.now c.args.later.now) (bytes_each c.as_slice-texts.result.now) c.as_slice-2.result.now =
    numbered_both _ _ _ _ _ _ (texts_of c.args.log1.now c.args.earlier.now) (texts_of c.args.log2.now c.args.later.now) _ _ c.in_ok-given.ensures.items c.in_ok-push_texts.ensures c.in_ok-push_texts-2.ensures
    c.as_slice.ensures.value c.as_slice-texts.ensures.value c.as_slice-2.ensures.value c.in_ok-numbered.ensures in
    subst (AreTextsOf c.args.log1.now c.args.earlier.now (bytes_each c.as_slice-texts.result.now)) (sym c.split_at.ensures.front)
    (first_part c.args.log1.now c.args.earlier.now (texts_of c.args.log2.now c.args.later.now) (bytes_each c.as_slice-texts.result.now) c.as_slice-2.result.now are)

pub sums-requires-2-clause-texts : goal.sums-requires-2-clause-texts
sums-requires-2-clause-texts c =
    let are : AreNumbered (texts_of c.args.log1.now c.args.earlier.now ++ texts_of c.args.log2.now c.args.later.now) (bytes_each c.as_slice-texts.result.now) c.as_slice-2.result.now =
    numbered_both _ _ _ _ _ _ (texts_of c.args.log1.now c.args.earlier.now) (texts_of c.args.log2.now c.args.later.now) _ _ c.in_ok-given.ensures.items c.in_ok-push_texts.ensures c.in_ok-push_texts-2.ensures
    c.as_slice.ensures.value c.as_slice-texts.ensures.value c.as_slice-2.ensures.value c.in_ok-numbered.ensures in
    subst (AreTextsOf c.args.log2.now c.args.later.now (bytes_each c.as_slice-texts.result.now)) (sym c.split_at.ensures.back)
    (second_part c.args.log2.now c.args.later.now (texts_of c.args.log1.now c.args.earlier.now) (bytes_each c.as_slice-texts.result.now) c.as_slice-2.result.now (length c.args.earlier.now) are
    (length-map c.args.earlier.now (λ (b : Block). text_at c.args.log1.now b.caller)))

pub sums-requires-3-clause-texts : goal.sums-requires-3-clause-texts
sums-requires-3-clause-texts c =
    let are : AreNumbered (texts_of c.args.log1.now c.args.earlier.now ++ texts_of c.args.log2.now c.args.later.now) (bytes_each c.as_slice-texts.result.now) c.as_slice-2.result.now =
    numbered_both _ _ _ _ _ _ (texts_of c.args.log1.now c.args.earlier.now) (texts_of c.args.log2.now c.args.later.now) _ _ c.in_ok-given.ensures.items c.in_ok-push_texts.ensures c.in_ok-push_texts-2.ensures
    c.as_slice.ensures.value c.as_slice-texts.ensures.value c.as_slice-2.ensures.value c.in_ok-numbered.ensures in
    subst (AreTextsOf c.args.log2.now c.args.later.now (bytes_each c.as_slice-texts.result.now)) (sym c.split_at.ensures.back)
    (second_part c.args.log2.now c.args.later.now (texts_of c.args.log1.now c.args.earlier.now) (bytes_each c.as_slice-texts.result.now) c.as_slice-2.result.now (length c.args.earlier.now) are
    (length-map c.args.earlier.now (λ (b : Block). text_at c.args.log1.now b.caller)))

pub returns : goal.returns
unfolding growths_of
returns c =
    let are : AreNumbered (texts_of c.args.log1.now c.args.earlier.now ++ texts_of c.args.log2.now c.args.later.now) (bytes_each c.as_slice-texts.result.now) c.as_slice-2.result.now =
    numbered_both _ _ _ _ _ _ (texts_of c.args.log1.now c.args.earlier.now) (texts_of c.args.log2.now c.args.later.now) _ _ c.in_ok-given.ensures.items c.in_ok-push_texts.ensures c.in_ok-push_texts-2.ensures
    c.as_slice.ensures.value c.as_slice-texts.ensures.value c.as_slice-2.ensures.value c.in_ok-numbered.ensures in
    let texts : List (List ℕ) = bytes_each c.as_slice-texts.result.now in
    let before : c.as_slice-3.result.now ≡ map (λ t. sizes_of (with_text c.args.log1.now t c.args.earlier.now)) texts =
    c.as_slice-3.ensures.value ∙ c.in_ok-before.ensures ∙ ap (λ (bs : List Block). map (λ t. sizes_of (with_text c.args.log1.now t bs)) texts) c.requires.first_numbered in
    let now : c.as_slice-4.result.now ≡ map (λ t. sizes_of (with_text c.args.log2.now t c.args.later.now)) texts =
    c.as_slice-4.ensures.value ∙ c.in_ok-now.ensures ∙ ap (λ (bs : List Block). map (λ t. sizes_of (with_text c.args.log2.now t bs)) texts) c.requires.second_numbered in
    let new : c.as_slice-5.result.now ≡ map (λ t. sizes_of (with_text c.args.log2.now t (new_of c.args.after c.args.later.now))) texts =
    c.as_slice-5.ensures.value ∙ c.in_ok-new.ensures in
    let by : AreRanked (filter is_changed (rows_with c.as_slice-texts.result.now (map (λ t. sizes_of (with_text c.args.log1.now t c.args.earlier.now)) texts)
    (map (λ t. sizes_of (with_text c.args.log2.now t c.args.later.now)) texts) (map (λ t. sizes_of (with_text c.args.log2.now t (new_of c.args.after c.args.later.now))) texts))) c.in_ok-rows.rows.items =
    subst (λ (ss : List Sizes). AreRanked (filter is_changed (rows_with c.as_slice-texts.result.now (map (λ t. sizes_of (with_text c.args.log1.now t c.args.earlier.now)) texts)
    (map (λ t. sizes_of (with_text c.args.log2.now t c.args.later.now)) texts) ss)) c.in_ok-rows.rows.items) new
    (subst (λ (ss : List Sizes). AreRanked (filter is_changed (rows_with c.as_slice-texts.result.now (map (λ t. sizes_of (with_text c.args.log1.now t c.args.earlier.now)) texts) ss c.as_slice-5.result.now)) c.in_ok-rows.rows.items) now
    (subst (λ (ss : List Sizes). AreRanked (filter is_changed (rows_with c.as_slice-texts.result.now ss c.as_slice-4.result.now c.as_slice-5.result.now)) c.in_ok-rows.rows.items) before c.in_ok-rows.ensures)) in
    rows_are (λ t. sizes_of (with_text c.args.log1.now t c.args.earlier.now)) (λ t. sizes_of (with_text c.args.log2.now t c.args.later.now))
    (λ t. sizes_of (with_text c.args.log2.now t (new_of c.args.after c.args.later.now)))
    (texts_of c.args.log1.now c.args.earlier.now ++ texts_of c.args.log2.now c.args.later.now) c.as_slice-texts.result.now c.as_slice-2.result.now c.in_ok-rows.rows.items are by
