-- Live blocks with the places of their callers' texts: in the log, or among texts that were kept.
use Rattle.std.specs.Prelude.{◌≡◌, ℕ, ⊤, ◌<◌, List, [], ◌∷◌, length, slice_index_or, All}
use Rattle.leak_blocks.specs.declared.block.Block.{Block}
use Rattle.leak_report.specs.declared.caller_texts.CallerTexts.{CallerTexts}
use Rattle.leak_report.specs.declared.caller_texts.CallerTexts.TheVariants.{OfLog, Few, Many}

-- the block with its caller there
abbrev pub with_caller : Block → ℕ × ℕ → Block
with_caller b caller = record b { caller = caller }

-- each block with the place of its number, as far as there are numbers
abbrev pub with_callers : List (ℕ × ℕ) → List ℕ → List Block → List Block
with_callers places [] blocks = []
with_callers places (n ∷ numbers) [] = []
with_callers places (n ∷ numbers) (b ∷ blocks) = with_caller b (slice_index_or places n (0, 0)) ∷ with_callers places numbers blocks

-- the bytes that have the texts
abbrev pub bytes_at : CallerTexts → List ℕ
bytes_at (OfLog log) = log.now
bytes_at (Few places numbers) = places.bytes.now
bytes_at (Many places numbers) = places.bytes.now

-- the blocks with their callers as ranges of these bytes
abbrev pub sited : CallerTexts → List Block → List Block
sited (OfLog log) blocks = blocks
sited (Few places numbers) blocks = with_callers places.ranges.now numbers.now blocks
sited (Many places numbers) blocks = with_callers places.ranges.now numbers.now blocks

-- each of so many blocks has the number of a text, if texts were kept
abbrev pub HaveSites : CallerTexts → ℕ → Type 0
HaveSites (OfLog log) count = ⊤
HaveSites (Few places numbers) count = (length numbers.now ≡ count) × All (λ n. n < length places.ranges.now) numbers.now
HaveSites (Many places numbers) count = (length numbers.now ≡ count) × All (λ n. n < length places.ranges.now) numbers.now
