-- An input whose core is needed no more, once it is listed what its words lead to.
use Rattle.std.specs.Prelude.{◌≡◌, IsTrue}
use Rattle.leak_blocks.specs.Live.{Replay}
use Rattle.leak_index.specs.Leads.{Distances}
use Rattle.leak_search.specs.Inputs.{IsRead}
use Rattle.leak_search.specs.Listed.{IsListedInput}
use Rattle.leak_search.specs.declared.inputs.Input.{Input}
use Rattle.leak_search.specs.declared.listed.ListedInput.{ListedInput}
use Rattle.leak_holder_search.specs.declared.logs.Logs.{Logs}
use Rattle.leak_holder_search.specs.Since.{earlier, is_continued_from}

-- the input was read of its core and of the log, which goes on where the earlier one ends; these are its live blocks, and this was
-- listed of it by the reading
pub record IsListedOf (live : Replay) (listed : ListedInput) (logs : Logs) (input : Input) (reading : Distances) : Type 0 where
  pub read : IsRead input.image logs.log.now input
  pub continued : IsTrue (is_continued_from (earlier logs.since) logs.log.now)
  pub live_is : input.live ≡ live
  pub lists : IsListedInput input reading listed

-- there is such an input
abbrev pub IsListed : Replay → ListedInput → Logs → Type 0
IsListed live listed logs = (input : Input) × (reading : Distances) × IsListedOf live listed logs input reading

-- this is so of each such input, and of the reading by which it was listed
abbrev pub OfListed : Replay → ListedInput → Logs → (Input → Distances → Type 0) → Type 0
OfListed live listed logs Holds =
    (input : Input) (reading : Distances) → IsListedOf live listed logs input reading → Holds input reading
