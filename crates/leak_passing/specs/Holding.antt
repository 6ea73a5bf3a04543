-- What is left of a core and its log that were read in one pass, once it is listed for a question about holders what the core's words
-- lead to.
use Rattle.std.specs.Prelude.{◌≡◌, ◌≢◌, ℕ, List, [], ◌∷◌, ◌++◌, Option, Err, IsTrue}
use Rattle.leak_index.specs.Readings.{distances_of}
use Rattle.leak_mtrace.specs.declared.error.LogError.TheVariants.{NoMemory}
use Rattle.leak_search.specs.Inputs.{IsRead}
use Rattle.leak_search.specs.Listed.{IsListedInput}
use Rattle.leak_search.specs.Signs.{signs_with}
use Rattle.leak_search.specs.declared.inputs.Input.{Input}
use Rattle.leak_search.specs.declared.rules.Rules.{Rules}
use Rattle.leak_sift.specs.Behind.{bytes_behind}
use Rattle.leak_holder_search.specs.Since.{is_continued_from}
use Rattle.leak_passing.specs.declared.holding.ListedPassed.{ListedPassed}
use Rattle.leak_passing.specs.declared.passed.Passed.{Passed}

-- the core with what is kept of its words
abbrev pub file_of : Passed → List ℕ
file_of passed = passed.held.items ++ bytes_behind passed.words passed.len

-- An input was made of that core and of the log, which goes on with the earlier one, and was listed: these are its live blocks and what
-- is odd about it.
pub record IsListedOfPassed (rules : Rules) (passed : Passed) (since : Option (List ℕ)) (it : ListedPassed) : Type 0 where
  pub input : Input
  pub image : input.image ≡ file_of passed
  pub read : IsRead input.image it.log.items input
  pub skip : input.skip ≡ rules.skip
  pub full : passed.read ≢ Err NoMemory
  pub log : it.log ≡ passed.log
  pub continued : IsTrue (is_continued_from since it.log.items)
  pub live_is : input.live ≡ it.live
  pub lists : IsListedInput input (distances_of rules.reading) it.core.listed
  pub signs : it.core.signs.items ≡ signs_with rules.other_heap input ∷ []
