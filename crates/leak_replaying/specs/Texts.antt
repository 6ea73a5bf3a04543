-- The texts of callers that are kept of a log.
use Rattle.std.specs.Prelude.{◌≡◌, ◌<◌, ℕ, List, [], length, All, Result, Ok, Err}
use Rattle.leak_mtrace.specs.declared.error.LogError.{LogError}
use Rattle.leak_blocks.specs.declared.block.Block.{Block}
use Rattle.leak_blocks.specs.declared.replaying.Replayed.{Replayed}
use Rattle.leak_blocks.specs.declared.small.Span.{Span}
use Rattle.leak_report.specs.Elsewhere.{HaveTextsAt}
use Rattle.leak_report.specs.Sites.{HaveSites, bytes_at, sited, with_callers}
use Rattle.leak_report.specs.declared.caller_texts.CallerTexts.{CallerTexts}
use Rattle.leak_replaying.specs.declared.texts.KeptTexts.{KeptTexts}
use Rattle.leak_replaying.specs.declared.texts.Numbers.{Numbers}
use Rattle.leak_replaying.specs.declared.texts.Numbers.TheVariants.{Few, Many}

-- the live blocks that were read of a log: of one with a fault, none
abbrev pub blocks_of : Result (Replayed × List Span) LogError → List Block
blocks_of (Ok read) = read.0.live.blocks
blocks_of (Err e) = []

-- which of the places each block has
abbrev pub numbers_in : Numbers → List ℕ
numbers_in (Few numbers) = numbers.items
numbers_in (Many numbers) = numbers.items

-- these are the texts of the blocks' callers
abbrev pub AreKeptOf : List ℕ → List Block → KeptTexts → Type 0
AreKeptOf log blocks kept =
    HaveTextsAt log kept.bytes.items kept.places.items (numbers_in kept.numbers) blocks

-- these are where the texts stand that were kept
pub record AreCallersOf (kept : KeptTexts) (callers : CallerTexts) : Type 0 where
  pub bytes : bytes_at callers ≡ kept.bytes.items
  pub sites : (blocks : List Block) → sited callers blocks ≡ with_callers kept.places.items (numbers_in kept.numbers) blocks
  pub each : (blocks : List Block) → length (numbers_in kept.numbers) ≡ length blocks → All (λ n. n < length kept.places.items) (numbers_in kept.numbers)
      → HaveSites callers (length blocks)
