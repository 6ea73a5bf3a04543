-- What a report tells, as its lines say it: a reader of the bytes alone finds this, and nothing else.
use Rattle.std.specs.Prelude.{ℕ, Bool, List, [], ◌++◌, flat_map, codes, Option, None, Some}
use Rattle.leak_report.specs.declared.head.Head.{Head}
use Rattle.leak_report.specs.Lines.{caller_front, dead_lines, freed_lines, heads_line, kind_of, leak_front, log_line, newline, sizes_line, two_lines, undumped_line}
use Rattle.leak_report.specs.Misfits.{misfit_front, number_line}

-- a number of blocks, and the sum of their sizes
pub record Sum : Type 0 where
  pub blocks : ℕ
  pub bytes : ℕ

-- the line of a caller
pub record ToldCaller : Type 0 where
  pub blocks : ℕ
  pub bytes : ℕ
  pub heads : ℕ
  pub text : List ℕ

-- the line of a leaked block
pub record ToldLeak : Type 0 where
  pub start : ℕ
  pub size : ℕ
  pub line : ℕ
  pub head : Bool
  pub text : List ℕ

-- the line of a misfit
pub record ToldMisfit : Type 0 where
  pub start : ℕ
  pub size : ℕ
  pub line : ℕ
  pub text : List ℕ

-- the lines of a report
pub record Told : Type 0 where
  pub all : Sum
  pub head : Head
  pub marked : Sum
  pub leaked : Sum
  pub heads : ℕ
  pub misfits : Option ℕ
  pub callers : List ToldCaller
  pub leaks : List ToldLeak
  pub misfit_rows : List ToldMisfit

-- ---- their bytes

abbrev pub sum_line : List ℕ → Sum → List ℕ
sum_line name s = sizes_line name s.blocks s.bytes

abbrev pub caller_text : ToldCaller → List ℕ
caller_text c = caller_front c.blocks c.bytes c.heads ++ c.text ++ newline

abbrev pub leak_text : ToldLeak → List ℕ
leak_text l = leak_front l.start l.size l.line (kind_of l.head) ++ l.text ++ newline

abbrev pub misfit_text : ToldMisfit → List ℕ
misfit_text m = misfit_front m.start m.size m.line ++ m.text ++ newline

abbrev pub number_lines : Option ℕ → List ℕ
number_lines None = []
number_lines (Some n) = number_line n

abbrev pub told_text : Told → List ℕ
told_text t =
    sum_line (codes "blocks") t.all ++ undumped_line t.head ++ log_line t.head ++ freed_lines t.head.freed ++ dead_lines t.head.dead
    ++ two_lines t.head.two
    ++ sum_line (codes "marked") t.marked ++ sum_line (codes "leaked") t.leaked ++ heads_line t.heads ++ number_lines t.misfits
    ++ flat_map caller_text t.callers ++ flat_map leak_text t.leaks ++ flat_map misfit_text t.misfit_rows
