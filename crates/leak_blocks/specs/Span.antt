-- The addresses of blocks. Own rule: a block of size 0 has its first address, so no other live block begins there.
use Rattle.std.specs.Prelude.{ℕ, ◌+◌, ◌^◌, ◌<◌, ◌≤◌, max, List, [], ◌∷◌, ⊤, sum_by, ◌≡◌}
use Rattle.std.specs.List.{AllByRecursion}
use Rattle.leak_blocks.specs.declared.block.Block.{Block}

-- the end of the block's span, excluded
abbrev pub span_end : Block → ℕ
span_end b = b.start + max b.size 1

-- each span ends where the later ones begin, or before that
abbrev pub AreDisjoint : List Block → Type 0
AreDisjoint [] = ⊤
AreDisjoint (b ∷ blocks) = AllByRecursion (λ c. span_end b ≤ c.start) blocks × AreDisjoint blocks

-- the block begins above address 0, and the address after its last byte fits 64 bits
pub record IsAddressed (b : Block) : Type 0 where
  pub above : 0 < b.start
  pub fits : b.start + b.size < 2 ^ 64

abbrev pub AreAddressed : List Block → Type 0
AreAddressed blocks = AllByRecursion IsAddressed blocks

-- the blocks of a log, and the sum of their sizes
pub record AreSummed (blocks : List Block) (bytes : ℕ) : Type 0 where
  pub sum : bytes ≡ sum_by (λ b. b.size) blocks
  pub addressed : AreAddressed blocks
  pub disjoint : AreDisjoint blocks
