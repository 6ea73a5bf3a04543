-- A root word may be at the address 0: the sample core, with its segment there.
use Rattle.std.specs.Prelude.{◌≡◌, ℕ, List, [], codes, None, Some}
use Rattle.std.specs.Int.{w64, to_le_bytes}
use Rattle.leak_elf.specs.Refusals.{fault_of}
use Rattle.leak_elf.specs.Sample.{patched, sample}
use Rattle.leak_elf.specs.Words.{word_of}
use Rattle.leak_why.specs.declared.chain.RootPlace.TheVariants.{Address}
use Rattle.leak_why.specs.Text.{place_text}

-- the segment begins at 0, and its first word is 0x10100
abbrev pub at_zero : List ℕ
at_zero = patched (patched sample 136 (to_le_bytes w64 0)) 4096 (to_le_bytes w64 0x10100)

pub record AreAtZero : Type 0 where
  pub accepted : fault_of at_zero ≡ None
  pub word : word_of at_zero 0 ≡ Some 0x10100
  pub place : place_text [] (Address 0) ≡ codes "0x0"
