-- A log that is let go: what was kept of it is enough.
use Rattle.std.specs.Prelude.{ℕ, ◌^◌, ◌<◌, List, length}
use Rattle.leak_blocks.specs.declared.block.Block.{Block}
use Rattle.leak_replaying.specs.Texts.{AreKeptOf}
use Rattle.leak_search.specs.Inputs.{IsRead}
use Rattle.leak_search.specs.declared.inputs.Input.{Input}
use Rattle.leak_replaying.specs.declared.texts.KeptTexts.{KeptTexts}

-- these are the texts of the blocks' callers, if the blocks are few enough to be numbered
abbrev pub AreTextsOf : List ℕ → List Block → KeptTexts → Type 0
AreTextsOf log blocks kept = length blocks < 2 ^ 32 → AreKeptOf log blocks kept

-- the input was read of the log, and these are the texts of its blocks' callers
pub record IsLogOf (input : Input) (kept : KeptTexts) (log : List ℕ) : Type 0 where
  pub read : IsRead input.image log input
  pub texts : AreTextsOf log input.live.blocks kept

-- this is so of each such log
abbrev pub OfLog : Input → KeptTexts → (List ℕ → Type 0) → Type 0
OfLog input kept Holds = (log : List ℕ) → IsLogOf input kept log → Holds log
