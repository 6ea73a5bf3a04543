-- From the lemmas of Orders.
use Rattle.leak_lemmas.proofs.Bytes.{are_bytes}
use Rattle.leak_report.proofs.Orders.{rows_are}
use Rattle.leak_report.proofs.totals.Totals.of_leaks.Goals as goal

pub returns-clause-rows : goal.returns-clause-rows
returns-clause-rows c =
    let ranked = c.in_ok-rows.ensures in
    rows_are c.prefix_of-prefix.result.now c.args.log.now c.args.leaks.now ranked.given c.in_ok-rows.rows.items (are_bytes c.args.log.now c.type_inv.log)
    ranked.by_text ranked.permutation ranked.sorted ranked.stable
