-- Texts of the callers of a log's blocks, kept elsewhere.
use Rattle.std.specs.Prelude.{[], ◌∷◌, codes}
use Rattle.leak_report.specs.TextExamples.{block, five_log}
use Rattle.leak_report.specs.Elsewhere.{HaveTextsAt}

pub record AreWorkedPlaces : Type 0 where
  pub nothing : HaveTextsAt [] [] [] [] []
  pub none : HaveTextsAt (codes "+ 0x10100 0x10\n") (codes "?") ((0, 1) ∷ []) (0 ∷ []) (block 0x10100 1 (0, 0) ∷ [])
  pub five : HaveTextsAt five_log (codes "?aa:[0x1]c:[0x3]") ((0, 1) ∷ (1, 2) ∷ (2, 9) ∷ (9, 16) ∷ []) (3 ∷ 2 ∷ 0 ∷ 1 ∷ 3 ∷ [])
      (block 0x10100 1 (2, 9) ∷ block 0x10200 2 (27, 34) ∷ block 0x10300 3 (0, 0) ∷ block 0x10400 4 (67, 68) ∷ block 0x10500 5 (86, 93) ∷ [])
