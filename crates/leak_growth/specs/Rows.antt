-- What became of the blocks of each text between two logs (own rule).
use Rattle.std.specs.Prelude.{◌≡◌, ℕ, ◌+◌, ◌-◌, ◌<◌, Bool, not, ◌||◌, ◌==◌, List, [], ◌∷◌, length, map, filter, All, nat_lt, bytes_eq}
use Rattle.std.specs.List.Sorted.{IsPermutation, IsSortedByKey, IsStableByKey, IsStrictlySortedBy}
use Rattle.std.specs.Cmp.Lexicographic.{slice_cmp}
use Rattle.std.specs.Ordering.{nat_cmp, ordering_then}
use Rattle.std.specs.declared.cmp.Ordering.{Ordering}
use Rattle.std.specs.declared.cmp.Ordering.TheVariants.{Less, Equal, Greater}
use denote.Ref.{Bor}
use Rattle.leak_blocks.specs.declared.block.Block.{Block}
use Rattle.leak_report.specs.Totals.{text_at, bytes_of}
use Rattle.leak_report.specs.Numbered.{text_with, texts_of}
use Rattle.leak_growth.specs.declared.rows.Row.{Row}
use Rattle.leak_growth.specs.declared.summing.Sizes.{Sizes}

-- the blocks whose line comes after this many
abbrev pub new_of : ℕ → List Block → List Block
new_of after blocks = filter (λ b. nat_lt after b.line) blocks

-- the blocks whose caller has the text
abbrev pub with_text : List ℕ → List ℕ → List Block → List Block
with_text log text blocks = filter (λ b. bytes_eq (text_at log b.caller) text) blocks

abbrev pub sizes_of : List Block → Sizes
sizes_of blocks = record { blocks = length blocks; bytes = bytes_of blocks }

-- one more block
abbrev pub with_block : Sizes → Block → Sizes
with_block s b = record { blocks = s.blocks + 1; bytes = s.bytes + b.size }

-- for each text its blocks in sum, of those whose line comes after this many
abbrev pub sums_of : List ℕ → List Block → ℕ → List (List ℕ) → List Sizes
sums_of log blocks after texts = map (λ t. sizes_of (with_text log t (new_of after blocks))) texts

-- the texts ascend, and the number of each block is the place of its text
pub record AreTextsOf (log : List ℕ) (blocks : List Block) (texts : List (List ℕ)) (numbers : List ℕ) : Type 0 where
  pub ascending : IsStrictlySortedBy (slice_cmp nat_cmp) texts
  pub below : All (λ n. n < length texts) numbers
  pub same : map (text_with texts) numbers ≡ texts_of log blocks

-- what became of the blocks of a text: those live in log 1, those live in log 2, and those of them that are new
pub record Growth : Type 0 where
  pub text : List ℕ
  pub earlier : Sizes
  pub later : Sizes
  pub new : Sizes

-- bytes now less bytes then, and 2^64 more, so that it is a number: then there were fewer than that
abbrev pub raised_growth : Sizes → Sizes → ℕ
raised_growth earlier later = 18446744073709551616 + later.bytes - earlier.bytes

-- the greater growth first, ties by the ascending bytes of the text
abbrev pub rank : Growth → Growth → Ordering
rank r s = ordering_then (nat_cmp (raised_growth s.earlier s.later) (raised_growth r.earlier r.later)) (slice_cmp nat_cmp r.text s.text)

-- a block is new, or there are not as many as before. Otherwise the blocks now are those of before.
abbrev pub has_changed : Sizes → Sizes → Sizes → Bool
has_changed earlier later new = not (new.blocks == 0) || not (later.blocks == earlier.blocks)

-- the element at its place among ranked ones, if it isn't there yet
abbrev pub placed : {X : Type 0} → (X → X → Ordering) → X → List X → List X
placed R x [] = x ∷ []
placed R x (y ∷ ys) = elim (R x y) [ Less ↦ x ∷ y ∷ ys | Equal ↦ y ∷ ys | Greater ↦ y ∷ placed R x ys ]

-- the elements by rank, each once
abbrev pub ranked : {X : Type 0} → (X → X → Ordering) → List X → List X
ranked R [] = []
ranked R (x ∷ xs) = placed R x (ranked R xs)

-- ---- as the program has them

-- a row with its text alone
abbrev pub plain : Row → Growth
plain row = record { text = row.text.now; earlier = row.earlier; later = row.later; new = row.new }

abbrev pub raised : Row → ℕ
raised row = raised_growth row.earlier row.later

abbrev pub is_changed : Row → Bool
is_changed row = has_changed row.earlier row.later row.new

-- each text with its entries
abbrev pub rows_with : List (Bor (List ℕ)) → List Sizes → List Sizes → List Sizes → List Row
rows_with [] earlier later new = []
rows_with (t ∷ texts) [] later new = []
rows_with (t ∷ texts) (a ∷ earlier) [] new = []
rows_with (t ∷ texts) (a ∷ earlier) (b ∷ later) [] = []
rows_with (t ∷ texts) (a ∷ earlier) (b ∷ later) (c ∷ new) = record { text = t; earlier = a; later = b; new = c } ∷ rows_with texts earlier later new

-- the same rows, the greatest growth first. Those of equal growth stay in order.
pub record AreRanked (given rows : List Row) : Type 0 where
  pub permutation : IsPermutation given rows
  pub sorted : IsSortedByKey raised (λ x y. nat_cmp y x) rows
  pub stable : IsStableByKey raised (λ x y. nat_cmp y x) given rows
