-- What can be read back of a report: numbers below 2^64, and texts without a line feed.
use Rattle.std.specs.Prelude.{◌≡◌, ℕ, ◌<◌, ◌^◌, ◌==◌, false, List, IfSome}
use Rattle.std.specs.List.{AllByRecursion}
use Rattle.leak_report.specs.declared.head.Head.{Head}
use Rattle.leak_report.specs.declared.head.Two.{Two}
use Rattle.leak_laws.specs.Told.{Sum, Told, ToldCaller, ToldLeak, ToldMisfit, told_text}

abbrev pub IsNumber : ℕ → Type 0
IsNumber n = n < 2 ^ 64

-- the byte is not in the text
abbrev pub Lacks : ℕ → List ℕ → Type 0
Lacks byte text = AllByRecursion (λ b. (b == byte) ≡ false) text

pub record IsSumRead (s : Sum) : Type 0 where
  pub blocks : IsNumber s.blocks
  pub bytes : IsNumber s.bytes

pub record IsCallerRead (c : ToldCaller) : Type 0 where
  pub blocks : IsNumber c.blocks
  pub bytes : IsNumber c.bytes
  pub heads : IsNumber c.heads
  pub text : Lacks 10 c.text

pub record IsLeakRead (l : ToldLeak) : Type 0 where
  pub start : IsNumber l.start
  pub size : IsNumber l.size
  pub line : IsNumber l.line
  pub text : Lacks 10 l.text

pub record IsMisfitRead (m : ToldMisfit) : Type 0 where
  pub start : IsNumber m.start
  pub size : IsNumber m.size
  pub line : IsNumber m.line
  pub text : Lacks 10 m.text

pub record AreTwoRead (two : Two) : Type 0 where
  pub fresh : IsNumber two.fresh
  pub fresh_bytes : IsNumber two.fresh_bytes
  pub reread : IsNumber two.reread

pub record IsHeadRead (h : Head) : Type 0 where
  pub undumped : IsNumber h.undumped
  pub unknown : IsNumber h.unknown
  pub displaced : IsNumber h.displaced
  pub torn : IsNumber h.torn
  pub freed : IfSome h.freed IsNumber
  pub dead : IfSome h.dead IsNumber
  pub two : IfSome h.two AreTwoRead

pub record IsRead (t : Told) : Type 0 where
  pub all : IsSumRead t.all
  pub head : IsHeadRead t.head
  pub marked : IsSumRead t.marked
  pub leaked : IsSumRead t.leaked
  pub heads : IsNumber t.heads
  pub misfits : IfSome t.misfits IsNumber
  pub callers : AllByRecursion IsCallerRead t.callers
  pub leaks : AllByRecursion IsLeakRead t.leaks
  pub misfit_rows : AllByRecursion IsMisfitRead t.misfit_rows

-- two reports with the same bytes tell the same
abbrev pub ReportsReadBack : Type 0
ReportsReadBack = (a b : Told) → IsRead a → IsRead b → told_text a ≡ told_text b → a ≡ b
