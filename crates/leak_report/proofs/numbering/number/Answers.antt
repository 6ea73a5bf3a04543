-- The given texts are those that the numbers have.
use Rattle.std.proofs.Common.{List, ℕ, sym, subst, arith}
use Rattle.std.specs.Prelude.{IfOk}
use Rattle.std.proofs.lemmas.List.{length-map}
use denote.Ref.{Bor}
use Rattle.leak_report.specs.Numbered.{AreNumbered, bytes_each}
use Rattle.leak_report.specs.Meeting.{AreNumberedAsMet}
use Rattle.leak_report.proofs.numbering.number.Goals as goal

pub in_order-requires-clause-few : goal.in_order-requires-clause-few
in_order-requires-clause-few c =
    omega (
      arith,
      c.requires,
      c.in_ok-meet_each.ensures.few,
      length-map c.in_ok-meet_each.field-0.texts.items (λ (s : Bor (List ℕ)). s.now),
      length-map c.args.given.now (λ (s : Bor (List ℕ)). s.now),
    )

pub in_order-requires-clause-as_met : goal.in_order-requires-clause-as_met
in_order-requires-clause-as_met c =
    subst (λ given. AreNumberedAsMet given (bytes_each c.in_ok-meet_each.field-0.texts.items) c.in_ok-meet_each.field-0.numbers.items)
    (sym c.in_ok-meet_each.ensures.same) c.in_ok-meet_each.ensures

pub returns : goal.returns
returns c =
    subst (λ given. IfOk c.in_order.result (λ numbered. AreNumbered given (bytes_each numbered.texts.items) numbered.numbers.items))
    c.in_ok-meet_each.ensures.same c.in_order.ensures
