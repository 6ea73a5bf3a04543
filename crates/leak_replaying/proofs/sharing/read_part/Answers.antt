-- From the lemmas of SharingLemmas.
use Rattle.std.proofs.Common.{◌∙◌, List, [], ◌∷◌, ◌++◌, ap, subst, sym}
use Rattle.leak_mtrace.specs.Log.{Whole}
use Rattle.leak_blocks.specs.Windows.{AreReadInParts}
use Rattle.leak_replaying.proofs.SharingLemmas.{one_part}
use Rattle.leak_replaying.proofs.sharing.read_part.Goals as goal

pub returns : goal.returns
returns c =
    subst (λ (parts : List Whole). AreReadInParts c.args.bytes.now parts)
    (sym (c.in_ok-push.ensures.items ∙ ap (λ (parts : List Whole). parts ++ c.in_ok-read.field-0 ∷ []) c.new-parts.ensures.items))
    (one_part c.args.bytes.now c.in_ok-read.field-0 c.in_ok-read.ensures.ok)
