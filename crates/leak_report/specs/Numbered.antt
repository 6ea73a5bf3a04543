-- Texts by number, in the order of their bytes (own rule).
use Rattle.std.specs.Prelude.{◌≡◌, ℕ, ◌<◌, List, [], length, map, slice_index_or, All, Contains}
use Rattle.std.specs.List.Sorted.{IsStrictlySortedBy}
use Rattle.std.specs.Cmp.Lexicographic.{slice_cmp}
use Rattle.std.specs.Ordering.{nat_cmp}
use denote.Ref.{Bor}
use Rattle.leak_blocks.specs.declared.block.Block.{Block}
use Rattle.leak_report.specs.Totals.{text_at}

-- the bytes of slices
abbrev pub bytes_each : List (Bor (List ℕ)) → List (List ℕ)
bytes_each slices = map (λ s. s.now) slices

-- the text with the number
abbrev pub text_with : List (List ℕ) → ℕ → List ℕ
text_with texts n = slice_index_or texts n []

-- the texts are in the order of their bytes, none of them twice; each is one of the given; and each given text has its
-- place among them as its number
pub record AreNumbered (given texts : List (List ℕ)) (numbers : List ℕ) : Type 0 where
  pub ascending : IsStrictlySortedBy (slice_cmp nat_cmp) texts
  pub each : All (Contains given) texts
  pub below : All (λ n. n < length texts) numbers
  pub same : map (text_with texts) numbers ≡ given

-- the texts of the callers of blocks, in the blocks' order
abbrev pub texts_of : List ℕ → List Block → List (List ℕ)
texts_of log blocks = map (λ b. text_at log b.caller) blocks

-- these are the texts of the callers of the blocks, and the number of each block's
abbrev pub AreTexts : List ℕ → List Block → List (List ℕ) → List ℕ → Type 0
AreTexts log blocks texts numbers = AreNumbered (texts_of log blocks) texts numbers
