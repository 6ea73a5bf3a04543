-- What is told of who holds the memory, of what was read in one pass.
use Rattle.std.proofs.Common.{◌≡◌, ◌≢◌, refl, Some, inl, inr, ℕ, Bool, false, List, [], ◌∷◌, ◌++◌, Err, ap, subst, sym, ◌∙◌, Option}
use Rattle.std.specs.Prelude.{IsTrue}
use Rattle.leak_elf.specs.declared.error.ElfError.{ElfError}
use Rattle.leak_elf.specs.declared.error.ElfError.TheVariants.{NoMemory as NoMemoryForCore}
use Rattle.leak_elf.specs.Head.{IsHead}
use Rattle.leak_elf.specs.Refusals.{fault_of}
use Rattle.leak_mtrace.specs.declared.error.LogError.TheVariants.{NoMemory}
use Rattle.leak_mtrace.specs.declared.line.Line.{Line}
use Rattle.leak_mtrace.specs.Log.{IsLog}
use Rattle.leak_blocks.specs.declared.block.Block.{Block}
use Rattle.leak_index.specs.Leads.{Distances}
use Rattle.leak_index.specs.Readings.{distances_of}
use Rattle.leak_roots.specs.declared.skip.Skip.{Skip}
use Rattle.leak_sift.specs.Kept.{Rule}
use Rattle.leak_holders.specs.declared.question.Question.{Question}
use Rattle.leak_search.specs.Inputs.{IsInputFault, IsRead, IsReadAs, IsReadOf, at_core}
use Rattle.leak_search.specs.Signs.{AreSigns}
use Rattle.leak_search.specs.declared.error.FindError.{FindError}
use Rattle.leak_search.specs.declared.inputs.Input.{Input}
use Rattle.leak_search.specs.declared.rules.Rules.{Rules}
use Rattle.leak_search.proofs.InputLemmas.{own_core}
use Rattle.leak_search.specs.declared.error.FindError.TheVariants.{NoMemory as NoMemoryForAll}
use Rattle.leak_search.specs.declared.why.WhyError.{WhyError}
use Rattle.leak_holder_search.specs.Held.{FindsHeld, IsHeldFault}
use Rattle.leak_holder_search.specs.Holders.{FindsHolders, IsFaultOfHolders}
use Rattle.leak_holder_search.specs.Listed.{IsListedOf}
use Rattle.leak_holder_search.specs.Since.{earlier, is_continued_from}
use Rattle.leak_holder_search.specs.declared.logs.Logs.{Logs}
use Rattle.leak_holder_search.specs.declared.search.Holding.{Holding}
use Rattle.leak_alike.specs.SiftedCores.{CanBeSifted, SignsOfSiftedAreOne, rule_of, sifted_core}
use Rattle.leak_alike.specs.SiftedHolders.{AnswersOfSiftedAreOne, HoldersOfSiftedAreOne, RefusedAnswersOfSiftedAreOne, RefusedHoldersOfSiftedAreOne}
use Rattle.leak_passing.specs.declared.holding.ListedPassed.{ListedPassed}
use Rattle.leak_passing.specs.declared.passed.Passed.{Passed}
use Rattle.leak_passing.specs.Holding.{IsListedOfPassed, file_of}
use Rattle.leak_passing.specs.Kept.{IsKept, rule_by}
use Rattle.leak_replaying.specs.Texts.{blocks_of}
use Rattle.leak_passing.specs.Passed.{IsPassed}
use Rattle.leak_passing.proofs.FoundLemmas.{lines_of, sifted_file, whole_file}

-- what was read of the log
pub read_as : (core log : List ℕ) (skip : Skip) (passed : Passed) → IsPassed core log skip passed → IsReadAs skip log passed.read
read_as core log skip passed is = record { read = is.read; unread = is.unread }

-- the input was read of the log that was kept
pub read_of_kept : (file log kept : List ℕ) (input : Input) → kept ≡ log → IsRead file log input → IsRead input.image kept input
read_of_kept file log kept input same read =
    (read.0, subst (λ (l : List ℕ). IsReadOf input.image l read.0 input) (sym same) (own_core file log read.0 input read.1))

module _ (core log : List ℕ) (skip : Skip) (passed : Passed) (is : IsPassed core log skip passed) where
  -- what holds of the core with these words holds of the whole one, if it does so by the blocks of each log,
  of_core : (P : List ℕ → Type 0) → (passed.read ≡ Err NoMemory → ⊥) → (lines : List Line) → IsLog log lines
      → ((held more : List ℕ) (by : List Line) → CanBeSifted held more → skip.dead ≡ false → IsLog log by → P (sifted_core (rule_of by skip) held more) → P (held ++ more))
      → P (file_of passed) → P core
  of_core P full lines is_log law here = go is.kept
    where
      go : IsKept core skip (blocks_of passed.read) passed.held.items passed.words passed.len → P core
      go (inl whole) = subst P (whole_file core skip (blocks_of passed.read) passed.held.items passed.words passed.len whole) here
      go (inr it) =
          let own = lines_of log skip passed.read is.read is.unread full lines is_log in
          let same : file_of passed ≡ sifted_core (rule_of own.0 skip) passed.held.items it.more =
          sifted_file core skip (blocks_of passed.read) passed.held.items passed.words passed.len it
          ∙ ap (λ (bs : List Block). sifted_core (rule_by skip bs) passed.held.items it.more) own.2 in
          subst P (sym it.core_is) (law passed.held.items it.more own.0 it.can it.alive own.1 (subst P same here))

  -- or whatever is kept
  of_any : (P : List ℕ → Type 0) → ((rule : Rule) (held more : List ℕ) → IsHead held → P (sifted_core rule held more) → P (held ++ more)) → P (file_of passed) → P core
  of_any P law here = go is.kept
    where
      go : IsKept core skip (blocks_of passed.read) passed.held.items passed.words passed.len → P core
      go (inl whole) = subst P (whole_file core skip (blocks_of passed.read) passed.held.items passed.words passed.len whole) here
      go (inr it) =
          subst P (sym it.core_is) (law (rule_by skip (blocks_of passed.read)) passed.held.items it.more it.can.head
          (subst P (sifted_file core skip (blocks_of passed.read) passed.held.items passed.words passed.len it) here))

  module _ (full : passed.read ≡ Err NoMemory → ⊥) (since : Option (List ℕ)) (reading : Distances) (found : Holding) where
    pub holders_core : HoldersOfSiftedAreOne → FindsHolders (file_of passed) log since reading skip found → FindsHolders core log since reading skip found
    holders_core law finds =
        of_core (λ c. FindsHolders c log since reading skip found) full finds.lines finds.is_log
        (λ held more by can live own. (law held more log by since reading skip found can live own).1) finds

    pub signs_of_holders : HoldersOfSiftedAreOne → SignsOfSiftedAreOne → (other_heap : Bool)
        → FindsHolders (file_of passed) log since reading skip found → AreSigns other_heap (file_of passed ∷ log ∷ []) found.signs.items
        → AreSigns other_heap (core ∷ log ∷ []) found.signs.items
    signs_of_holders law signs_law other_heap finds signs =
        (of_core (λ c. FindsHolders c log since reading skip found × AreSigns other_heap (c ∷ log ∷ []) found.signs.items) full finds.lines finds.is_log
        (λ held more by can live own both.
        let whole = (law held more log by since reading skip found can live own).1 both.0 in
        (whole, (signs_law held more log by skip other_heap found.signs.items can whole.accepted.headers live own).1 both.1)) (finds, signs)).1

    pub held_core : AnswersOfSiftedAreOne → (question : Question) → FindsHeld (file_of passed) log since reading skip question found
        → FindsHeld core log since reading skip question found
    held_core law question finds =
        of_core (λ c. FindsHeld c log since reading skip question found) full finds.lines finds.is_log
        (λ held more by can live own. (law held more log by since reading skip question found can live own).1) finds

    pub signs_of_held : AnswersOfSiftedAreOne → SignsOfSiftedAreOne → (question : Question) (other_heap : Bool)
        → FindsHeld (file_of passed) log since reading skip question found → AreSigns other_heap (file_of passed ∷ log ∷ []) found.signs.items
        → AreSigns other_heap (core ∷ log ∷ []) found.signs.items
    signs_of_held law signs_law question other_heap finds signs =
        (of_core (λ c. FindsHeld c log since reading skip question found × AreSigns other_heap (c ∷ log ∷ []) found.signs.items) full finds.lines finds.is_log
        (λ held more by can live own both.
        let whole = (law held more log by since reading skip question found can live own).1 both.0 in
        (whole, (signs_law held more log by skip other_heap found.signs.items can whole.accepted.headers live own).1 both.1)) (finds, signs)).1

  pub refused_holders : RefusedHoldersOfSiftedAreOne → (since : Option (List ℕ)) (e : FindError) → IsFaultOfHolders (file_of passed) log since e
      → IsFaultOfHolders core log since e
  refused_holders law since e = of_any (λ c. IsFaultOfHolders c log since e) (λ rule held more head. (law rule held more log since e head).1)

  pub refused_held : RefusedAnswersOfSiftedAreOne → (since : Option (List ℕ)) (address : ℕ) (e : WhyError) → IsHeldFault (file_of passed) log since address e
      → IsHeldFault core log since address e
  refused_held law since address e = of_any (λ c. IsHeldFault c log since address e) (λ rule held more head. (law rule held more log since address e head).1)

-- a fault of the core is the first of the input
pub input_fault : (file log : List ℕ) (error : ElfError) → (error ≢ NoMemoryForCore → fault_of file ≡ Some error) → at_core 1 error ≢ NoMemoryForAll
    → IsInputFault 1 file log (at_core 1 error)
input_fault file log NoMemoryForCore fault other = absurd (other refl)
input_fault file log error fault other = (refl, fault (λ same. cc))

-- what was listed is of the log with the earlier one
pub listed_of : (rules : Rules) (passed : Passed) (it : ListedPassed) (logs : Logs) (is : IsListedOfPassed rules passed (earlier logs.since) it)
    → logs.log.now ≡ it.log.items → IsListedOf it.live it.core.listed logs is.input (distances_of rules.reading)
listed_of rules passed it logs is same = record {
  read = subst (λ (l : List ℕ). IsRead is.input.image l is.input) (sym same) is.read;
  continued = subst (λ (l : List ℕ). IsTrue (is_continued_from (earlier logs.since) l)) (sym same) is.continued;
  live_is = is.live_is;
  lists = is.lists;
}
