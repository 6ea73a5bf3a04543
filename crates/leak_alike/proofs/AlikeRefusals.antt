-- Alike cores have the same faults; all other refusals are the log's.
use Rattle.std.proofs.Common.{◌≡◌, ◌↔◌, ℕ, inl, inr, List, Option, sym, ◌∙◌}
use Rattle.leak_elf.specs.Refusals.{fault_of}
use Rattle.leak_notes.specs.Threads.{note_fault_of}
use Rattle.leak_index.specs.Hits.{Index}
use Rattle.leak_roots.specs.declared.skip.Skip.{Skip}
use Rattle.leak_search.specs.Inputs.{IsCore, IsFaultOfOne, IsFaultless, IsInputFault}
use Rattle.leak_search.specs.declared.error.FindError.{FindError}
use Rattle.leak_search.specs.declared.error.FindError.TheVariants.{Core, Log, NoMemory, NotPrefix, Notes, TooMany}
use Rattle.leak_search.specs.declared.why.WhyError.{WhyError}
use Rattle.leak_search.specs.declared.why.WhyError.TheVariants.{Find, NoBlock}
use Rattle.leak_holder_search.specs.Held.{IsHeldFault}
use Rattle.leak_holder_search.specs.Holders.{IsFaultOfHolders}
use Rattle.leak_alike.specs.Alike.{AreAlikeCores}

-- two cores with the same faults
module _ (core other : List ℕ) (faults : fault_of core ≡ fault_of other) (notes : note_fault_of core ≡ note_fault_of other) where
  pub core_faultless : IsCore core → IsCore other
  core_faultless is = record { headers = sym faults ∙ is.headers; notes = sym notes ∙ is.notes }

  both_faultless : (log : List ℕ) → IsFaultless core log → IsFaultless other log
  both_faultless log is = record { core_is = core_faultless is.core_is; lines = is.lines; log_is = is.log_is }

  input_refused : (input : ℕ) (log : List ℕ) (e : FindError) → IsInputFault input core log e → IsInputFault input other log e
  input_refused input log (Core k e) is = (is.0, sym faults ∙ is.1)
  input_refused input log (Notes k e) is = (is.0, sym faults ∙ is.1, sym notes ∙ is.2)
  input_refused input log (Log k e) is = (is.0, core_faultless is.1, is.2)
  input_refused input log NotPrefix is = is
  input_refused input log TooMany is = is
  input_refused input log NoMemory is = is

  pub search_refused : (log : List ℕ) (e : FindError) → IsFaultOfOne core log e → IsFaultOfOne other log e
  search_refused log e (inl is) = inl (input_refused 1 log e is)
  search_refused log e (inr is) = inr (is.0, core_faultless is.1, is.2)

  pub holders_refused : (log : List ℕ) (since : Option (List ℕ)) (e : FindError) → IsFaultOfHolders core log since e → IsFaultOfHolders other log since e
  holders_refused log since e (inl is) = inl (input_refused 1 log e is)
  holders_refused log since e (inr (inl is)) = inr (inl (both_faultless log is.0, is.1, is.2))
  holders_refused log since e (inr (inr is)) = inr (inr (both_faultless log is.0, is.1, is.2, is.3))

  pub answer_refused : (log : List ℕ) (since : Option (List ℕ)) (address : ℕ) (e : WhyError) → IsHeldFault core log since address e → IsHeldFault other log since address e
  answer_refused log since address (Find e) is = holders_refused log since e is
  answer_refused log since address (NoBlock a) is = (is.0, core_faultless is.1, is.2, is.3)

pub refused_searches_are_one : (core other log : List ℕ) (index : Index) (skip : Skip) (e : FindError) → AreAlikeCores index skip core other
    → (IsFaultOfOne core log e ↔ IsFaultOfOne other log e)
refused_searches_are_one core other log index skip e alike =
    (search_refused core other alike.faults alike.note_faults log e, search_refused other core (sym alike.faults) (sym alike.note_faults) log e)

pub refused_holders_are_one : (core other log : List ℕ) (index : Index) (skip : Skip) (since : Option (List ℕ)) (e : FindError) → AreAlikeCores index skip core other
    → (IsFaultOfHolders core log since e ↔ IsFaultOfHolders other log since e)
refused_holders_are_one core other log index skip since e alike =
    (holders_refused core other alike.faults alike.note_faults log since e, holders_refused other core (sym alike.faults) (sym alike.note_faults) log since e)

pub refused_answers_are_one : (core other log : List ℕ) (index : Index) (skip : Skip) (since : Option (List ℕ)) (address : ℕ) (e : WhyError) → AreAlikeCores index skip core other
    → (IsHeldFault core log since address e ↔ IsHeldFault other log since address e)
refused_answers_are_one core other log index skip since address e alike =
    (answer_refused core other alike.faults alike.note_faults log since address e, answer_refused other core (sym alike.faults) (sym alike.note_faults) log since address e)
