-- Where an address is among blocks.
use Rattle.std.specs.Prelude.{◌≡◌, ℕ, ◌+◌, ◌<◌, List, length, slice_index_or}
use Rattle.leak_blocks.specs.declared.block.Block.{Block}
use Rattle.leak_index.specs.declared.address_place.AddressPlace.{AddressPlace}
use Rattle.leak_index.specs.declared.address_place.AddressPlace.TheVariants.{Start, After}
use Rattle.leak_index.specs.Bounds.{IsCountUpTo}

-- the address is the start of the block with the number, and each block before that one ends before it
pub record IsOnlyStart (blocks : List Block) (address number : ℕ) : Type 0 where
  pub inside : number < length blocks
  pub here : (d : Block) → (slice_index_or blocks number d).start ≡ address
  pub before : (k : ℕ) (d : Block) → k < number → (slice_index_or blocks k d).start + (slice_index_or blocks k d).size < address

-- what a place says of the address
abbrev pub IsAddressPlace : List Block → ℕ → AddressPlace → Type 0
IsAddressPlace blocks address (Start number) = IsOnlyStart blocks address number
IsAddressPlace blocks address (After count) = IsCountUpTo blocks address count

-- a word that is the start of a block, and of no earlier block, has hits
abbrev pub FindsStarts : List Block → (ℕ → List ℕ) → Type 0
FindsStarts blocks hits = (word number : ℕ) → IsOnlyStart blocks word number → 0 < length (hits word)
