-- Worked reports, over a log and the blocks that it has.
use Rattle.std.specs.Prelude.{◌≡◌, ℕ, ◌++◌, true, false, List, [], ◌∷◌, codes, Option, Some, None}
use Rattle.leak_blocks.specs.declared.block.Block.{Block}
use Rattle.leak_report.specs.declared.head.Head.{Head}
use Rattle.leak_report.specs.declared.head.Two.{Two}
use Rattle.leak_report.specs.Report.{text_of}

abbrev pub block : ℕ → ℕ → ℕ → ℕ × ℕ → Block
block start size line caller = record { start = start; size = size; line = line; caller = caller }

abbrev pub head : ℕ → ℕ → ℕ → Option Two → Head
head unknown displaced torn two = record { undumped = 0; unknown = unknown; displaced = displaced; torn = torn; freed = None; dead = None; two = two }

abbrev pub none_lines : List ℕ
none_lines = codes "undumped 0\nunknown 0 displaced 0 torn 0\n"

abbrev pub one_log : List ℕ
one_log = codes "@ ./a.out:[0x401136] + 0x10100 0x20\n"

abbrev pub four_log : List ℕ
four_log = codes "@ a:[0x1] + 0x10100 0x20\n@ c:[0x3] + 0x10200 0x10\n@ c:[0x3] + 0x10300 0x18\n@ b:[0x2] + 0x10400 0x28\n"

pub record AreWorkedReports : Type 0 where
  pub nothing : text_of (head 0 0 0 None) [] [] [] None [] ≡ codes "blocks 0 bytes 0\n" ++ none_lines ++ codes "marked 0 bytes 0\nleaked 0 bytes 0\nheads 0\n"
  pub leaked : text_of (head 0 0 0 None) (block 0x10100 32 1 (2, 20) ∷ []) (false ∷ []) (true ∷ []) None one_log
      ≡ codes "blocks 1 bytes 32\n" ++ none_lines ++ codes "marked 0 bytes 0\nleaked 1 bytes 32\nheads 1\ncaller 1 32 1 ./a.out:[0x401136]\nleak 0x10100 32 1 head ./a.out:[0x401136]\n"
  pub marked : text_of (head 0 0 0 None) (block 0x10100 32 1 (2, 20) ∷ []) (true ∷ []) (false ∷ []) None one_log
      ≡ codes "blocks 1 bytes 32\n" ++ none_lines ++ codes "marked 1 bytes 32\nleaked 0 bytes 0\nheads 0\n"
  pub counts : text_of (head 2 1 1 None) (block 0x10110 32 2 (0, 0) ∷ []) (false ∷ []) (true ∷ []) None []
      ≡ codes "blocks 1 bytes 32\nundumped 0\nunknown 2 displaced 1 torn 1\nmarked 0 bytes 0\nleaked 1 bytes 32\nheads 1\ncaller 1 32 1 ?\nleak 0x10110 32 2 head ?\n"
  pub two : text_of (head 0 0 0 (Some (record { fresh = 1; fresh_bytes = 32; reread = 0 }))) (block 0x10100 32 4 (0, 0) ∷ block 0x10200 16 2 (0, 0) ∷ []) (true ∷ true ∷ []) (false ∷ false ∷ []) None []
      ≡ codes "blocks 2 bytes 48\n" ++ none_lines ++ codes "new 1 bytes 32\nreread 0\nmarked 2 bytes 48\nleaked 0 bytes 0\nheads 0\n"
  pub freed : text_of (record { undumped = 0; unknown = 0; displaced = 0; torn = 0; freed = Some 4; dead = None; two = Some (record { fresh = 1; fresh_bytes = 8; reread = 0 }) }) [] [] [] None []
      ≡ codes "blocks 0 bytes 0\n" ++ none_lines ++ codes "freed 4\nnew 1 bytes 8\nreread 0\nmarked 0 bytes 0\nleaked 0 bytes 0\nheads 0\n"
  pub dead : text_of (record { undumped = 0; unknown = 0; displaced = 0; torn = 0; freed = Some 4; dead = Some 252; two = Some (record { fresh = 1; fresh_bytes = 8; reread = 0 }) }) [] [] [] None []
      ≡ codes "blocks 0 bytes 0\n" ++ none_lines ++ codes "freed 4\ndead 252\nnew 1 bytes 8\nreread 0\nmarked 0 bytes 0\nleaked 0 bytes 0\nheads 0\n"
  pub only_dead : text_of (record { undumped = 0; unknown = 0; displaced = 0; torn = 0; freed = None; dead = Some 0; two = None }) [] [] [] None []
      ≡ codes "blocks 0 bytes 0\n" ++ none_lines ++ codes "dead 0\nmarked 0 bytes 0\nleaked 0 bytes 0\nheads 0\n"
  pub callers : text_of (head 0 0 0 None) (block 0x10100 32 1 (2, 9) ∷ block 0x10200 16 2 (27, 34) ∷ block 0x10300 24 3 (52, 59) ∷ block 0x10400 40 4 (77, 84) ∷ []) (false ∷ false ∷ false ∷ false ∷ []) (true ∷ true ∷ true ∷ true ∷ []) None four_log
      ≡ codes "blocks 4 bytes 112\n" ++ none_lines ++ codes "marked 0 bytes 0\nleaked 4 bytes 112\nheads 4\ncaller 1 40 1 b:[0x2]\ncaller 2 40 2 c:[0x3]\ncaller 1 32 1 a:[0x1]\nleak 0x10100 32 1 head a:[0x1]\nleak 0x10200 16 2 head c:[0x3]\nleak 0x10300 24 3 head c:[0x3]\nleak 0x10400 40 4 head b:[0x2]\n"
  pub neighbors : text_of (head 0 0 0 None) (block 0x10100 32 1 (0, 0) ∷ block 0x10120 16 2 (0, 0) ∷ []) (true ∷ true ∷ []) (false ∷ false ∷ []) None []
      ≡ codes "blocks 2 bytes 48\n" ++ none_lines ++ codes "marked 2 bytes 48\nleaked 0 bytes 0\nheads 0\n"
  pub ring : text_of (head 0 0 0 None) (block 0x10100 32 1 (0, 0) ∷ block 0x10200 16 2 (0, 0) ∷ []) (false ∷ false ∷ []) (false ∷ false ∷ []) None []
      ≡ codes "blocks 2 bytes 48\n" ++ none_lines ++ codes "marked 0 bytes 0\nleaked 2 bytes 48\nheads 0\ncaller 2 48 0 ?\nleak 0x10100 32 1 held ?\nleak 0x10200 16 2 held ?\n"
  pub empty_block : text_of (head 0 0 0 None) (block 0x10200 0 1 (0, 0) ∷ []) (false ∷ []) (true ∷ []) None []
      ≡ codes "blocks 1 bytes 0\n" ++ none_lines ++ codes "marked 0 bytes 0\nleaked 1 bytes 0\nheads 1\ncaller 1 0 1 ?\nleak 0x10200 0 1 head ?\n"
  pub half_held : text_of (head 0 0 0 None) (block 0x10100 12 1 (0, 0) ∷ block 0x10200 16 2 (0, 0) ∷ []) (true ∷ false ∷ []) (false ∷ true ∷ []) None []
      ≡ codes "blocks 2 bytes 28\n" ++ none_lines ++ codes "marked 1 bytes 12\nleaked 1 bytes 16\nheads 1\ncaller 1 16 1 ?\nleak 0x10200 16 2 head ?\n"
  pub chain : text_of (head 0 0 0 None) (block 0x10100 32 1 (0, 0) ∷ block 0x10200 16 2 (0, 0) ∷ block 0x10300 8 3 (0, 0) ∷ []) (false ∷ false ∷ false ∷ []) (true ∷ false ∷ true ∷ []) None []
      ≡ codes "blocks 3 bytes 56\n" ++ none_lines ++ codes "marked 0 bytes 0\nleaked 3 bytes 56\nheads 2\ncaller 3 56 2 ?\nleak 0x10100 32 1 head ?\nleak 0x10200 16 2 held ?\nleak 0x10300 8 3 head ?\n"
  pub all_fit : text_of (head 0 0 0 None) (block 0x10100 32 1 (2, 20) ∷ []) (true ∷ []) (false ∷ []) (Some (true ∷ [])) one_log
      ≡ codes "blocks 1 bytes 32\n" ++ none_lines ++ codes "marked 1 bytes 32\nleaked 0 bytes 0\nheads 0\nmisfits 0\n"
  pub misfits : text_of (head 0 0 0 None) (block 0x10100 32 1 (2, 9) ∷ block 0x10200 16 2 (27, 34) ∷ block 0x10300 24 3 (52, 59) ∷ []) (true ∷ false ∷ false ∷ []) (false ∷ true ∷ true ∷ []) (Some (false ∷ true ∷ false ∷ [])) four_log
      ≡ codes "blocks 3 bytes 72\n" ++ none_lines ++ codes "marked 1 bytes 32\nleaked 2 bytes 40\nheads 2\nmisfits 2\ncaller 2 40 2 c:[0x3]\nleak 0x10200 16 2 head c:[0x3]\nleak 0x10300 24 3 head c:[0x3]\nmisfit 0x10100 32 1 a:[0x1]\nmisfit 0x10300 24 3 c:[0x3]\n"
