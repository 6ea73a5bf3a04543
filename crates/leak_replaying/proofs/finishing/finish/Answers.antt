-- From the lemmas of FinishingLemmas.
use Rattle.std.proofs.Common.{◌≡◌, ◌∙◌, ℕ, ◌<◌, List, length, map, refl, sym, subst, arith}
use Rattle.std.specs.Prelude.{slice_index_or}
use Rattle.std.specs.List.{All}
use Rattle.leak_blocks.specs.Live.{Replay, replay_of}
use Rattle.leak_replaying.specs.Texts.{numbers_in}
use Rattle.leak_replaying.proofs.NumberingLemmas.{within_numbers}
use Rattle.leak_replaying.proofs.FinishingLemmas.{lines_fit, live_below, places_long, AreSpansIf, comes_to, some_byte, spans_asked, spans_not_asked, live_have_texts}
use Rattle.leak_replaying.proofs.finishing.finish.Goals as goal
use Rattle.leak_replaying.proofs.finishing.finish.Goals.{then-log+in_ok-small, else-log}

pub small_spans-requires : goal.small_spans-requires
small_spans-requires c =
    (c.requires.1, lines_fit c.args.log c.requires.0 c.requires.1 c.args.stage.allocated.items c.requires.2, c.requires.3, c.requires.2.all c.if-log.true)

pub chosen_numbers-requires-clause-within : goal.chosen_numbers-requires-clause-within
chosen_numbers-requires-clause-within c =
    let inside : All (λ n. n < length c.args.stage.allocated.items) c.numbers-live.result.now = c.numbers-live.ensures.within c.requires.1 c.requires.3 in
    subst (λ (ns : List ℕ). All (λ k. k < length ns) c.numbers-live.result.now) (sym c.as_slice-numbers.ensures.value)
    (within_numbers c.requires.0 c.args.stage.allocated.items c.args.log.texts c.args.log.numbers.items c.numbers-live.result.now c.requires.2.texts inside)

pub chosen_numbers-requires-clause-few : goal.chosen_numbers-requires-clause-few
chosen_numbers-requires-clause-few c =
    let inside : All (λ n. n < length c.args.stage.allocated.items) c.numbers-live.result.now = c.numbers-live.ensures.within c.requires.1 c.requires.3 in
    let long : length c.finish-bytes.result.1.items ≡ length c.args.log.texts = places_long c.finish-bytes.result.0.items c.finish-bytes.result.1.items c.args.log.texts c.finish-bytes.ensures.texts in
    let count : length c.args.log.texts ≡ c.len.result = omega (arith, c.len.ensures, long, c.finish-bytes.result.1.ok.0) in
    subst (λ (n : ℕ). All (λ k. k < n) (map (λ k. slice_index_or c.as_slice-numbers.result.now k 0) c.numbers-live.result.now)) count
    (live_below c.args.log c.requires.0 c.requires.1 c.args.stage c.requires.2 c.requires.3 c.as_slice-numbers.result.now c.numbers-live.result.now _
    c.as_slice-numbers.ensures.value c.numbers-live.ensures.value inside refl)

pub live-requires : goal.live-requires
live-requires c =
    (c.requires.1, lines_fit c.args.log c.requires.0 c.requires.1 c.args.stage.allocated.items c.requires.2, c.requires.3)

pub returns : goal.returns
returns c = λ passed lines has after end.
    let read : Replay = c.in_ok-live.field-0 in
    let live : read ≡ replay_of lines = c.in_ok-live.ensures lines after in
    let torn = c.from.ensures ∙ some_byte c.args.log.window.items _ c.is_empty.result c.is_empty.ensures c.args.log.window.ok.0 in
    let spans : AreSpansIf c.args.log.spans lines read c.if-log.small =
    elim c.if-log.branch [
      | then-log+in_ok-small w ↦ rw w.small-is (spans_asked c.args.log.spans lines read _ w.if-log.true live (w.in_ok-small.ensures lines after (has.all w.if-log.true)))
      | else-log w ↦ rw w.small-is (spans_not_asked c.args.log.spans lines read _ w.if-log.false w.none-small.ensures)
    ] in (
      (lines, comes_to c.args.log passed lines c.args.stage.allocated.items _ has end.none_left live torn refl, spans),
      live_have_texts c.args.log passed lines c.args.stage has after c.as_slice-numbers.result.now c.numbers-live.result.now _ c.as_slice-numbers.ensures.value c.numbers-live.ensures.value
          (c.numbers-live.ensures.within lines after) refl read c.finish-bytes.result.0.items (numbers_in c.in_ok-chosen_numbers.field-0) c.finish-bytes.result.1.items
          live c.in_ok-chosen_numbers.ensures c.finish-bytes.ensures.texts,
    )
