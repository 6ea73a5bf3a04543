-- Pages in pieces.
use Rattle.std.specs.Prelude.{◌≡◌, ℕ, ◌*◌, ◌<◌, ◌≤◌, ◌^◌, List, [], ◌∷◌, Option, None}

-- Pieces of pages by ascending number, each from its first page up to its end, which is excluded. They hold all words
-- from a page on.
abbrev pub IsCover : (ℕ → Option ℕ) → ℕ → List (ℕ × ℕ) → Type 0
IsCover word_at page [] = (a : ℕ) → 4096 * page ≤ a → word_at a ≡ None
IsCover word_at page (p ∷ ps) =
    (page ≤ p.0) × (p.0 < p.1) × (p.1 ≤ 2 ^ 52)
    × ((a : ℕ) → 4096 * page ≤ a → a < 4096 * p.0 → word_at a ≡ None) × IsCover word_at p.1 ps
