-- What is kept of a core that was read in one pass.
use Rattle.std.specs.Prelude.{◌≡◌, ℕ, ◌⊎◌, false, List, [], ◌++◌, length}
use Rattle.leak_elf.specs.Segments.{segments_of}
use Rattle.leak_blocks.specs.declared.block.Block.{Block}
use Rattle.leak_roots.specs.declared.skip.Skip.{Skip}
use Rattle.leak_sift.specs.Kept.{Rule}
use Rattle.leak_sift.specs.Sifted.{sifted}
use Rattle.leak_streams.specs.Reads.{Calls, IsReadWhole}
use Rattle.leak_alike.specs.SiftedCores.{CanBeSifted}

-- which words a search needs by these live blocks
abbrev pub rule_by : Skip → List Block → Rule
rule_by skip blocks = record { blocks = blocks; links = skip.links }

-- The head is held, and of the words behind it those that a search needs by these live blocks. Dead stack is not left out,
-- which asks for others.
pub record IsSifted (core : List ℕ) (skip : Skip) (blocks : List Block) (held words : List ℕ) (len : ℕ) : Type 0 where
  pub more : List ℕ
  pub core_is : core ≡ held ++ more
  pub can : CanBeSifted held more
  pub alive : skip.dead ≡ false
  pub words_are : words ≡ sifted (rule_by skip blocks) (segments_of held) (length held) more
  pub len_is : len ≡ length more

-- the whole core is held
pub record IsHeld (core held words : List ℕ) (len : ℕ) : Type 0 where
  pub whole : held ≡ core
  pub words_are : words ≡ []
  pub len_is : len ≡ 0

-- the whole core is held, or it is sifted
abbrev pub IsKept : List ℕ → Skip → List Block → List ℕ → List ℕ → ℕ → Type 0
IsKept core skip blocks held words len = IsHeld core held words len ⊎ IsSifted core skip blocks held words len

-- a core was read to its end, and this is kept of it
pub record Keeps {R : Type 0} (calls : Calls R) (limit : ℕ) (first last : R) (skip : Skip) (blocks : List Block)
    (held words : List ℕ) (len : ℕ) : Type 0 where
  pub core : List ℕ
  pub whole : IsReadWhole calls limit first last core
  pub kept : IsKept core skip blocks held words len
