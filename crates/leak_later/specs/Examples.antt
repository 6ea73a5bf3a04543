-- Worked logs and words.
use Rattle.std.specs.Prelude.{◌≡◌, ℕ, ◌%◌, true, false, List, [], ◌∷◌, ◌&&◌, nat_le, nat_lt, find, ◌==◌, if◌then◌else◌, Option, Some, None}
use Rattle.std.specs.Option.{option_map_or}
use Rattle.leak_mtrace.specs.declared.line.Kind.{Kind}
use Rattle.leak_mtrace.specs.declared.line.Kind.TheVariants.{Alloc, Free, MoveOut, MoveIn}
use Rattle.leak_mtrace.specs.declared.line.Line.{Line}
use Rattle.leak_blocks.specs.Live.{live_of}
use Rattle.leak_later.specs.Differing.{differs, reread_of}
use Rattle.leak_later.specs.Kept.{kept_of, fresh_of, absent_of}

abbrev pub line : Kind → ℕ → ℕ → Line
line kind addr size = record { kind = kind; addr = addr; size = size; caller = (0, 0) }

-- the segment from 0x10000 up to 0x11000, with words set and the others zero
abbrev pub memory : List (ℕ × ℕ) → ℕ → Option ℕ
memory set a =
    if (a % 8 == 0) && nat_le 0x10000 a && nat_lt a 0x11000
    then Some (option_map_or (λ s. s.1) (find (λ s. s.0 == a) set) 0)
    else None

abbrev pub two_blocks : List Line
two_blocks = line Alloc 0x10100 0x20 ∷ line Alloc 0x10200 0x10 ∷ []

-- the first of them moved to where it was
abbrev pub moved : List Line
moved =
    line Alloc 0x10100 0x20 ∷ line Alloc 0x10200 0x10 ∷ line MoveOut 0x10100 0
    ∷ line MoveIn 0x10100 0x20 ∷ []

abbrev pub three_blocks : List Line
three_blocks = line Alloc 0x10100 0x20 ∷ line Alloc 0x10120 0x10 ∷ line Alloc 0x10200 0x10 ∷ []

-- the second of them given back
abbrev pub two_left : List Line
two_left =
    line Alloc 0x10100 0x20 ∷ line Alloc 0x10120 0x10 ∷ line Alloc 0x10200 0x10
    ∷ line Free 0x10120 0 ∷ []

pub record AreWorkedCores : Type 0 where
  pub kept_none : kept_of (live_of two_blocks) (false ∷ false ∷ []) (live_of moved) ≡ []
  pub fresh_first : fresh_of 2 (live_of moved) ≡ 0 ∷ []
  pub absent_first : absent_of (live_of two_blocks) (live_of moved) ≡ 0 ∷ []
  pub kept_all : kept_of (live_of three_blocks) (true ∷ true ∷ true ∷ []) (live_of two_left)
      ≡ 0 ∷ 1 ∷ []
  pub fresh_none : fresh_of 3 (live_of two_left) ≡ []
  pub absent_none : absent_of (live_of three_blocks) (live_of two_left) ≡ []
  pub changed : differs (memory []) (memory ((0x10ff8, 1) ∷ [])) 16 ≡ true
  pub other_page : differs (memory []) (memory ((0x10ff8, 1) ∷ [])) 17 ≡ false
  pub same : differs (memory ((0x10ff8, 1) ∷ [])) (memory ((0x10ff8, 1) ∷ [])) 16 ≡ false
  pub none_readable : differs (memory []) (λ a. None) 16 ≡ false
  pub new_page : differs (λ a. None) (memory []) 16 ≡ true
  pub reread : reread_of (memory []) (16 ∷ []) (live_of two_left) (0 ∷ 1 ∷ []) ≡ 6
