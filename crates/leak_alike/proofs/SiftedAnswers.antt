-- An answer about either core tells that it is accepted, and so that both are alike.
use Rattle.std.proofs.Common.{◌≡◌, ◌↔◌, ℕ, false, List, ◌++◌, None, Option, sym}
use Rattle.leak_elf.specs.Head.{IsHead}
use Rattle.leak_elf.specs.Refusals.{fault_of}
use Rattle.leak_mtrace.specs.Log.{IsLog}
use Rattle.leak_mtrace.specs.declared.line.Line.{Line}
use Rattle.leak_index.specs.Leads.{Distances}
use Rattle.leak_sift.specs.Kept.{Rule}
use Rattle.leak_roots.specs.declared.skip.Skip.{Skip}
use Rattle.leak_holders.specs.declared.question.Question.{Question}
use Rattle.leak_search.specs.declared.error.FindError.{FindError}
use Rattle.leak_search.specs.declared.why.WhyError.{WhyError}
use Rattle.leak_holder_search.specs.Held.{FindsHeld, IsHeldFault}
use Rattle.leak_holder_search.specs.Holders.{FindsHolders, IsFaultOfHolders}
use Rattle.leak_holder_search.specs.declared.search.Holding.{Holding}
use Rattle.leak_alike.specs.SiftedCores.{CanBeSifted, rule_of, sifted_core}
use Rattle.leak_alike.proofs.AlikeHolders.{answers_of_alike_are_one, holders_of_alike_are_one}
use Rattle.leak_alike.proofs.AlikeRefusals.{answer_refused, holders_refused}
use Rattle.leak_alike.proofs.OneHeads.{agree_but_words}
use Rattle.leak_alike.proofs.SiftedLemmas.{alike_by_log}
use Rattle.leak_alike.proofs.SiftedSearches.{both_accepted}
use Rattle.leak_alike.proofs.SiftedWords.{behind, sifted_long}

module _ (held rest log : List ℕ) (lines : List Line) (since : Option (List ℕ)) (reading : Distances) (skip : Skip) where
  abbrev whole : List ℕ
  whole = held ++ rest

  abbrev kept : List ℕ
  kept = sifted_core (rule_of lines skip) held rest

  pub holders_of_sifted : (found : Holding) → CanBeSifted held rest → skip.dead ≡ false → IsLog log lines
      → (FindsHolders whole log since reading skip found ↔ FindsHolders kept log since reading skip found)
  holders_of_sifted found can live is = (
    λ finds. (same finds.accepted.headers).0 finds,
    λ finds. (same (both_accepted (rule_of lines skip) held rest can.head finds.accepted.headers)).1 finds,
  )
    where
      same : fault_of whole ≡ None → (FindsHolders whole log since reading skip found ↔ FindsHolders kept log since reading skip found)
      same accepted = holders_of_alike_are_one whole kept log since reading skip found (alike_by_log held rest log lines reading skip can accepted live is)

  pub answers_of_sifted : (question : Question) (found : Holding) → CanBeSifted held rest → skip.dead ≡ false → IsLog log lines
      → (FindsHeld whole log since reading skip question found ↔ FindsHeld kept log since reading skip question found)
  answers_of_sifted question found can live is = (
    λ finds. (same finds.accepted.headers).0 finds,
    λ finds. (same (both_accepted (rule_of lines skip) held rest can.head finds.accepted.headers)).1 finds,
  )
    where
      same : fault_of whole ≡ None → (FindsHeld whole log since reading skip question found ↔ FindsHeld kept log since reading skip question found)
      same accepted =
          answers_of_alike_are_one whole kept log since reading skip question found (alike_by_log held rest log lines reading skip can accepted live is)

module _ (rule : Rule) (held rest log : List ℕ) (since : Option (List ℕ)) where
  pub refused_holders_of_sifted : (e : FindError) → IsHead held
      → (IsFaultOfHolders (held ++ rest) log since e ↔ IsFaultOfHolders (sifted_core rule held rest) log since e)
  refused_holders_of_sifted e head =
      let here = agree_but_words held rest (behind rule held rest) head (sifted_long rule held rest) in (
        holders_refused (held ++ rest) (sifted_core rule held rest) here.faults here.note_faults log since e,
        holders_refused (sifted_core rule held rest) (held ++ rest) (sym here.faults) (sym here.note_faults) log since e,
      )

  pub refused_answers_of_sifted : (address : ℕ) (e : WhyError) → IsHead held
      → (IsHeldFault (held ++ rest) log since address e ↔ IsHeldFault (sifted_core rule held rest) log since address e)
  refused_answers_of_sifted address e head =
      let here = agree_but_words held rest (behind rule held rest) head (sifted_long rule held rest) in (
        answer_refused (held ++ rest) (sifted_core rule held rest) here.faults here.note_faults log since address e,
        answer_refused (sifted_core rule held rest) (held ++ rest) (sym here.faults) (sym here.note_faults) log since address e,
      )
