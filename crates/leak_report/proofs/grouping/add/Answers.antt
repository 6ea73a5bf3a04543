-- The text was new, or its row has one more block.
use Rattle.std.proofs.Common.{◌≡◌, sym, ap, ◌∙◌, cond, Option, None, Some}
use Rattle.std.specs.BTreeMap.{get}
use Rattle.std.specs.Ordering.{is_eq}
use Rattle.leak_report.specs.declared.totals.CallerRow.{CallerRow}
use Rattle.leak_report.specs.Totals.{Leak}
use Rattle.leak_report.specs.Groups.{with_leak, order_of_keys}
use Rattle.leak_report.proofs.Ascending.{cond_twice}
use Rattle.leak_report.proofs.grouping.add.Goals as goal

pub returns-in_default : goal.returns-in_default
returns-in_default c =
    let leak : Leak = c.args.leak.now in
    let none : get order_of_keys c.args.groups.now c.args.key ≡ None = sym c.in_ok-row.ensures.old ∙ c.in_default.is in
    let row : c.first_row.result ≡ with_leak (get order_of_keys c.args.groups.now c.args.key) leak =
    c.first_row.ensures ∙ ap (λ (o : Option CallerRow). with_leak o leak) (sym none) in
    λ k. c.in_ok-row.ensures.updates.0 k
    ∙ ap (λ r. cond (is_eq (order_of_keys c.args.key k)) (Some r) (get order_of_keys c.args.groups.now k)) row

pub returns : goal.returns
returns c =
    let leak : Leak = c.args.leak.now in
    let found : get order_of_keys c.args.groups.now c.args.key ≡ Some c.in-Some.row = sym c.in_ok-row.ensures.old ∙ c.in-Some.is in
    let row : c.longer_row.result ≡ with_leak (get order_of_keys c.args.groups.now c.args.key) leak =
    c.longer_row.ensures ∙ ap (λ (o : Option CallerRow). with_leak o leak) (sym found) in
    λ k. c.in_ok-insert.ensures.updates.0 k
    ∙ ap (λ (o : Option CallerRow). cond (is_eq (order_of_keys c.args.key k)) (Some c.longer_row.result) o) (c.in_ok-row.ensures.updates.0 k)
    ∙ cond_twice (is_eq (order_of_keys c.args.key k)) _ _ (get order_of_keys c.args.groups.now k)
    ∙ ap (λ r. cond (is_eq (order_of_keys c.args.key k)) (Some r) (get order_of_keys c.args.groups.now k)) row
