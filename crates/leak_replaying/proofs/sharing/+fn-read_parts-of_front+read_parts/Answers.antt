-- From the lemmas of SharingLemmas.
use Rattle.std.proofs.Common.{List, Vec, Global, arith, subst, sym}
use Rattle.std.proofs.lemmas.Result.{IfOk-at_ok}
use Rattle.leak_mtrace.specs.Log.{Whole, IsReadAs}
use Rattle.leak_blocks.specs.Windows.{AreReadInParts}
use Rattle.leak_replaying.proofs.SharingLemmas.{parts_both}
use Rattle.leak_replaying.proofs.sharing.+fn-read_parts-of_front+read_parts.Goals as goal

pub returns : goal.returns
returns g t c =
    let bytes = c.args.bytes.now in
    let front = IfOk-at_ok (λ (parts : Vec Whole Global). AreReadInParts c.split_at.result.0.now parts.items) c.in_ok-parts.was c.join-last.ensures.second in
    let back = IfOk-at_ok (λ (read : Whole). IsReadAs c.split_at.result.1.now read) c.in_ok-last.was c.join-last.ensures.first in
    subst (λ (parts : List Whole). AreReadInParts bytes parts) (sym c.in_ok-push.ensures.items)
    (parts_both bytes c.split_at.result.0.now c.split_at.result.1.now _ _ c.in_ok-parts.parts.items c.in_ok-last.field-0 (omega arith) c.whole_len.ensures c.split_at.ensures.front c.split_at.ensures.back front back)
