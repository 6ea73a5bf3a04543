-- How pieces are found by their numbers.
use Rattle.std.specs.Prelude.{◌≡◌, ℕ, ◌+◌, ◌<◌, ◌≤◌, ◌^◌, List, [], ◌∷◌, length}
use Rattle.leak_roots.specs.declared.pieces.Long.{Long}
use Rattle.leak_roots.specs.Places.{Places}
use Rattle.leak_roots.specs.Cut.{cut_count, pieces_of, pieces_before}

-- from one place up to another there are as many pieces as ranges
pub record AreSingle (words : ℕ) (ranges : List (ℕ × ℕ)) (from to : ℕ) : Type 0 where
  pub order : from ≤ to
  pub same : pieces_before words ranges to + from ≡ pieces_before words ranges from + to

-- of the ranges from one place up to another, those of more than one piece are listed, each with the number of its first
abbrev pub AreListed : ℕ → List (ℕ × ℕ) → ℕ → List Long → ℕ → Type 0
AreListed words ranges from [] to = AreSingle words ranges from to
AreListed words ranges from (l ∷ ls) to =
    (l.range < to) × (l.first ≡ pieces_before words ranges l.range)
    × AreSingle words ranges from l.range × AreListed words ranges (l.range + 1) ls to

-- pieces are found by the number of those of the registers, by such a list, and by the number of all
pub record AreNumbered (words : ℕ) (p : Places) (registers : ℕ) (long : List Long) (len : ℕ)
    : Type 0 where
  pub some : 0 < words
  pub registers_cut : registers ≡ cut_count words (length p.registers)
  pub listed : AreListed words p.memory 0 long (length p.memory)
  pub counted : len ≡ length (pieces_of words p)
  pub few : len < 2 ^ 62
