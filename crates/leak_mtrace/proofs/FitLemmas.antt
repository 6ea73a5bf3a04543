-- The blocks of a log's lines end within the address space.
use Rattle.std.proofs.Common.{ℕ, List, [], ◌∷◌}
use Rattle.std.specs.List.{AllZip}
use Rattle.leak_mtrace.specs.declared.line.Line.{Line}
use Rattle.leak_mtrace.specs.Log.{with_places, whole_lines, IsGoodLine, IsLog, LinesFit}

all_fit : (texts : List (ℕ × List ℕ)) (lines : List Line) → AllZip IsGoodLine texts lines → LinesFit lines
all_fit [] [] z = tt
all_fit [] (x ∷ lines) z = elim z [ ]
all_fit (t ∷ texts) [] z = elim z [ ]
all_fit (t ∷ texts) (x ∷ lines) z = (z.0.fits, all_fit texts lines z.1)

pub lines_fit : (bytes : List ℕ) (lines : List Line) → IsLog bytes lines → LinesFit lines
unfolding IsLog
lines_fit bytes lines h = all_fit (with_places 0 (whole_lines bytes)) lines h
