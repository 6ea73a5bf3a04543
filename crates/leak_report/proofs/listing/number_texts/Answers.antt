-- The texts of the callers are those that the numbers have.
use Rattle.std.proofs.Common.{List, ℕ, sym, subst, arith}
use Rattle.std.specs.Prelude.{IfOk}
use Rattle.std.proofs.lemmas.List.{length-map}
use denote.Ref.{Bor}
use Rattle.leak_blocks.specs.declared.block.Block.{Block}
use Rattle.leak_report.specs.Totals.{text_at}
use Rattle.leak_report.specs.Numbered.{AreNumbered, bytes_each}
use Rattle.leak_report.specs.Meeting.{AreNumberedAsMet}
use Rattle.leak_report.proofs.listing.number_texts.Goals as goal

pub in_order-requires-clause-few : goal.in_order-requires-clause-few
in_order-requires-clause-few c =
    omega (
      arith,
      c.requires.few,
      c.in_ok-meet_callers.ensures.few,
      length-map c.in_ok-meet_callers.field-0.texts.items (λ (s : Bor (List ℕ)). s.now),
      length-map c.args.blocks.now (λ (b : Block). text_at c.args.log.now b.caller),
    )

pub in_order-requires-clause-as_met : goal.in_order-requires-clause-as_met
in_order-requires-clause-as_met c =
    subst (λ given. AreNumberedAsMet given (bytes_each c.in_ok-meet_callers.field-0.texts.items) c.in_ok-meet_callers.field-0.numbers.items)
    (sym c.in_ok-meet_callers.ensures.same) c.in_ok-meet_callers.ensures

pub returns : goal.returns
returns c =
    subst (λ given. IfOk c.in_order.result (λ numbered. AreNumbered given (bytes_each numbered.texts.items) numbered.numbers.items))
    c.in_ok-meet_callers.ensures.same c.in_order.ensures
