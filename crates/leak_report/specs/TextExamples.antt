-- Worked texts, over a log and its blocks.
use Rattle.std.specs.Prelude.{ℕ, List, [], ◌∷◌, codes}
use Rattle.leak_blocks.specs.declared.block.Block.{Block}
use Rattle.leak_report.specs.Numbered.{AreTexts}

abbrev pub block : ℕ → ℕ → ℕ × ℕ → Block
block start line caller = record { start = start; size = 16; line = line; caller = caller }

-- the last caller is that of the first line again, the third line has none, and that of the fourth begins that of the second
abbrev pub five_log : List ℕ
five_log = codes "@ c:[0x3] + 0x10100 0x10\n@ a:[0x1] + 0x10200 0x10\n+ 0x10300 0x10\n@ a + 0x10400 0x10\n@ c:[0x3] + 0x10500 0x10\n"

pub record AreWorkedTexts : Type 0 where
  pub nothing : AreTexts [] [] [] []
  pub none : AreTexts (codes "+ 0x10100 0x10\n") (block 0x10100 1 (0, 0) ∷ []) (codes "?" ∷ []) (0 ∷ [])
  pub five : AreTexts five_log (block 0x10100 1 (2, 9) ∷ block 0x10200 2 (27, 34) ∷ block 0x10300 3 (0, 0) ∷ block 0x10400 4 (67, 68) ∷ block 0x10500 5 (86, 93) ∷ [])
      (codes "?" ∷ codes "a" ∷ codes "a:[0x1]" ∷ codes "c:[0x3]" ∷ []) (3 ∷ 2 ∷ 0 ∷ 1 ∷ 3 ∷ [])
