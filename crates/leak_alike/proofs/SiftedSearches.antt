-- A search of either core finds that it is accepted, and so that both are alike.
use Rattle.std.proofs.Common.{◌≡◌, ◌↔◌, ℕ, Bool, false, List, [], ◌∷◌, ◌++◌, None, ◌∙◌}
use Rattle.leak_elf.specs.Head.{IsHead}
use Rattle.leak_elf.specs.Refusals.{fault_of}
use Rattle.leak_mtrace.specs.Log.{IsLog}
use Rattle.leak_mtrace.specs.declared.line.Line.{Line}
use Rattle.leak_index.specs.Leads.{Distances}
use Rattle.leak_sift.specs.Kept.{Rule}
use Rattle.leak_roots.specs.declared.skip.Skip.{Skip}
use Rattle.leak_report.specs.declared.signs.Signs.{Signs}
use Rattle.leak_search.specs.Inputs.{IsFaultOfOne}
use Rattle.leak_search.specs.Search.{FindsOne}
use Rattle.leak_search.specs.Signs.{AreSigns}
use Rattle.leak_search.specs.declared.error.FindError.{FindError}
use Rattle.leak_search.specs.declared.found.Found.{Found}
use Rattle.leak_alike.specs.SiftedCores.{CanBeSifted, rule_of, sifted_core}
use Rattle.leak_alike.proofs.AlikeCores.{searches_of_alike_are_one, signs_of_alike_are_one}
use Rattle.leak_alike.proofs.HeadRefusals.{head_refusals}
use Rattle.leak_alike.proofs.OneHeads.{agree_but_words}
use Rattle.leak_alike.proofs.SiftedLemmas.{alike_by_log}
use Rattle.leak_alike.proofs.SiftedWords.{behind, sifted_long}

pub both_accepted : (rule : Rule) (held rest : List ℕ) → IsHead held → fault_of (sifted_core rule held rest) ≡ None → fault_of (held ++ rest) ≡ None
both_accepted rule held rest head accepted = (agree_but_words held rest (behind rule held rest) head (sifted_long rule held rest)).faults ∙ accepted

pub searches_of_sifted : (held rest log : List ℕ) (lines : List Line) (reading : Distances) (skip : Skip) (check : Bool) (workers : ℕ) (found : Found)
    → CanBeSifted held rest → skip.dead ≡ false → IsLog log lines
    → (FindsOne (held ++ rest) log reading skip check workers found ↔ FindsOne (sifted_core (rule_of lines skip) held rest) log reading skip check workers found)
searches_of_sifted held rest log lines reading skip check workers found can live is = (
  λ finds. (same finds.accepted.headers).0 finds,
  λ finds. (same (both_accepted (rule_of lines skip) held rest can.head finds.accepted.headers)).1 finds,
)
  where
    same : fault_of (held ++ rest) ≡ None
        → (FindsOne (held ++ rest) log reading skip check workers found ↔ FindsOne (sifted_core (rule_of lines skip) held rest) log reading skip check workers found)
    same accepted =
        searches_of_alike_are_one (held ++ rest) (sifted_core (rule_of lines skip) held rest) log reading skip check workers found
        (alike_by_log held rest log lines reading skip can accepted live is)

pub signs_of_sifted : (held rest log : List ℕ) (lines : List Line) (skip : Skip) (other_heap : Bool) (signs : List Signs)
    → CanBeSifted held rest → fault_of (held ++ rest) ≡ None → skip.dead ≡ false → IsLog log lines
    → (AreSigns other_heap ((held ++ rest) ∷ log ∷ []) signs ↔ AreSigns other_heap (sifted_core (rule_of lines skip) held rest ∷ log ∷ []) signs)
signs_of_sifted held rest log lines skip other_heap signs can accepted live is =
    let reading : Distances = record { listed = None; skips_ends = false } in
    signs_of_alike_are_one (held ++ rest) (sifted_core (rule_of lines skip) held rest) log reading skip other_heap signs
    (alike_by_log held rest log lines reading skip can accepted live is)

pub refused_of_sifted : (rule : Rule) (held rest log : List ℕ) (e : FindError) → IsHead held
    → (IsFaultOfOne (held ++ rest) log e ↔ IsFaultOfOne (sifted_core rule held rest) log e)
refused_of_sifted rule held rest log e head = head_refusals held rest (behind rule held rest) log e head (sifted_long rule held rest)
