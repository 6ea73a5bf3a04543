-- The addresses of small allocations. Own rule: freed memory of a heap serves later blocks of that heap alone. From
-- 131,072 bytes on glibc's malloc maps a block by itself (its first M_MMAP_THRESHOLD), and memory that is given back to
-- the system then may serve anything, such as a stack.
use Rattle.std.specs.Prelude.{◌≡◌, ℕ, ◌+◌, ◌-◌, ◌<◌, ◌≤◌, ◌==◌, max, Bool, true, false, not, ◌&&◌, ◌||◌, nat_lt, nat_le, List, [], ◌∷◌, length, map, filter, slice_index_or, ⊤}
use Rattle.std.specs.List.{All, AllByRecursion, list_any}
use Rattle.leak_mtrace.specs.declared.line.Line.{Line}
use Rattle.leak_blocks.specs.declared.block.Block.{Block}
use Rattle.leak_blocks.specs.declared.small.Span.{Span}
use Rattle.leak_blocks.specs.Live.{is_allocation}

-- the line allocates a block that is taken from a heap
abbrev pub is_small : Line → Bool
is_small x = is_allocation x && nat_lt x.size 131072

-- the addresses of an allocation at this address and of this size; an allocation of 0 bytes has its first address
abbrev pub span_at : ℕ → ℕ → Span
span_at start size = record { first = start; last = start + (max size 1 - 1) }

abbrev pub span_of : Line → Span
span_of x = span_at x.addr x.size

-- the spans of all small allocations of a log, whatever later lines say of them
unfoldable pub small_spans_of : List Line → List Span
small_spans_of lines = map span_of (filter is_small lines)

abbrev pub is_small_block : Block → Bool
is_small_block b = nat_lt b.size 131072

abbrev pub block_span : Block → Span
block_span b = span_at b.start b.size

-- the same of blocks
unfoldable pub small_block_spans : List Block → List Span
small_block_spans blocks = map block_span (filter is_small_block blocks)

-- the address is in the span
abbrev pub holds : ℕ → Span → Bool
holds a s = nat_le s.first a && nat_le a s.last

-- the address is in one of the spans
unfoldable pub is_covered : List Span → ℕ → Bool
is_covered spans a = list_any (holds a) spans

-- the spans have the same addresses
abbrev pub CoverSame : List Span → List Span → Type 0
CoverSame spans others = (a : ℕ) → is_covered spans a ≡ is_covered others a

-- the address is that of one of the block's bytes; a block of size 0 has none
abbrev pub has_byte : ℕ → Block → Bool
has_byte a b = nat_le b.start a && nat_lt a (b.start + b.size)

-- the spans have the same addresses where no block has a byte
abbrev pub CoverSameOutside : List Block → List Span → List Span → Type 0
CoverSameOutside blocks spans others =
    (a : ℕ) → list_any (has_byte a) blocks ≡ false → is_covered spans a ≡ is_covered others a

-- the block's span is listed: it is small, and it isn't live or has no byte
abbrev pub is_listed : Bool → Block → Bool
is_listed live b = is_small_block b && (not live || (b.size == 0))

-- none of the marked blocks has a byte at the address
abbrev pub IsOutsideMarked : List Block → List Bool → ℕ → Type 0
IsOutsideMarked blocks marks a =
    (k : ℕ) (d : Block) → k < length blocks
    → slice_index_or marks k false ≡ true → has_byte a (slice_index_or blocks k d) ≡ false

-- there are as many marks, and those at the numbers are set
pub record AreMarksOf (count : ℕ) (numbers : List ℕ) (marks : List Bool) : Type 0 where
  pub long : length marks ≡ count
  pub each : (k : ℕ) → k < count → slice_index_or marks k false ≡ list_any (λ n. n == k) numbers

-- each span has an address
abbrev pub AreSpans : List Span → Type 0
AreSpans spans = All (λ s. s.first ≤ s.last) spans

-- by ascending address, and between two of them is an address that is in none
abbrev pub AreApart : List Span → Type 0
AreApart [] = ⊤
AreApart (s ∷ spans) = (s.first ≤ s.last) × AllByRecursion (λ t. s.last + 1 < t.first) spans × AreApart spans
