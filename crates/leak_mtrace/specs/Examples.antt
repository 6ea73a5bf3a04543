-- Worked lines and logs, by hand.
use Rattle.std.specs.Prelude.{◌≡◌, ℕ, List, [], ◌∷◌, codes}
use Rattle.leak_mtrace.specs.declared.line.Kind.{Kind}
use Rattle.leak_mtrace.specs.declared.line.Kind.TheVariants.{Alloc, Free, MoveOut, MoveIn, Failed, Remark}
use Rattle.leak_mtrace.specs.declared.line.Line.{Line}
use Rattle.leak_mtrace.specs.Line.{IsLine}
use Rattle.leak_mtrace.specs.Log.{whole_lines, torn_of, whole_len_of}

abbrev pub line : Kind → ℕ → ℕ → ℕ × ℕ → Line
line kind addr size caller = record { kind = kind; addr = addr; size = size; caller = caller }

-- what lines say
pub record AreLines : Type 0 where
  pub nothing : IsLine [] (line Remark 0 0 (0, 0))
  pub start : IsLine (codes "= Start") (line Remark 0 0 (0, 0))
  pub plain : IsLine (codes "+ 0x10100 0x20") (line Alloc 65792 32 (0, 0))
  pub caller : IsLine (codes "@ ./a b]c:(main+0x1c)[0x113c] + 0x10100 0x20") (line Alloc 65792 32 (2, 29))
  pub freed : IsLine (codes "@ [0x401136] - 0x10100") (line Free 65792 0 (2, 12))
  pub moved_out : IsLine (codes "< 0x10100") (line MoveOut 65792 0 (0, 0))
  pub moved_in : IsLine (codes "> 0x10200 0") (line MoveIn 66048 0 (0, 0))
  pub failed : IsLine (codes "! 0x10100 0xffffffffffffffff") (line Failed 65792 0xffff_ffff_ffff_ffff (0, 0))
  pub nil : IsLine (codes "+ (nil) 0x10") (line Alloc 0 16 (0, 0))
  pub freed_nil : IsLine (codes "- (nil)") (line Free 0 0 (0, 0))
  pub no_bracket : IsLine (codes "@ ./a.out + 0x10100 0x20") (line Alloc 65792 32 (2, 9))
  pub zeros : IsLine (codes "+ 0x0 0x0") (line Alloc 0 0 (0, 0))
  -- the place is one space
  pub space : IsLine (codes "@   + 0x1 0x1") (line Alloc 1 1 (2, 3))

-- the text is no line
abbrev pub SaysNothing : List ℕ → Type 0
SaysNothing text = (x : Line) → IsLine text x → ⊥

-- texts that are no lines
pub record AreRefused : Type 0 where
  pub unsized : SaysNothing (codes "+ 0x10100")
  pub decimal_size : SaysNothing (codes "+ 0x10100 20")
  pub two_spaces : SaysNothing (codes "+  0x10100 0x20")
  pub upper_case : SaysNothing (codes "+ 0X10100 0x20")
  pub seventeen_digits : SaysNothing (codes "+ 0x10000000000000000 0x1")
  pub space_behind : SaysNothing (codes "- 0x10100 ")
  pub other_sign : SaysNothing (codes "* 0x10100")

-- what logs hold
pub record AreLogs : Type 0 where
  pub three_lines : whole_lines (codes "= Start\n\n= End\n") ≡ codes "= Start" ∷ [] ∷ codes "= End" ∷ []
  pub torn : torn_of (codes "- 0x1") ≡ 1
  pub nothing_whole : whole_len_of (codes "- 0x1") ≡ 0
