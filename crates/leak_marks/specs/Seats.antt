-- A table of marks and a seat of it, as callers see them.
use Rattle.std.specs.Prelude.{ℕ, ◌+◌, ◌-◌, List, [], ◌∷◌, ◌++◌}
pub use Rattle.atomic_table.specs.Seated.{TableId}
use Rattle.leak_marks.specs.Lists.{IsDistinct, Within}

-- which table it is, and the number of blocks
pub record TableOf : Type 0 where
  pub table : TableId
  pub blocks : ℕ

-- the table of a seat, the blocks that it claimed in order, those that it has seen marked, and its share of 2 ^ 32
pub record Held : Type 0 where
  pub table : TableId
  pub claims : List ℕ
  pub seen : List ℕ
  pub share : ℕ

abbrev pub held : TableId → List ℕ → List ℕ → ℕ → Held
held t claims seen share = record { table = t; claims = claims; seen = seen; share = share }

-- the seat after a claim of the block that won
abbrev pub with_claim : Held → ℕ → Held
with_claim h block = held h.table (h.claims ++ block ∷ []) (h.seen ++ block ∷ []) h.share

-- the seat after it found the block marked: a claim that lost, or a look
abbrev pub with_sight : Held → ℕ → Held
with_sight h block = held h.table h.claims (h.seen ++ block ∷ []) h.share

-- a seat that was split: what it keeps, and the new seat, whose share is 1
abbrev pub kept_rest : Held → Held
kept_rest h = held h.table h.claims h.seen (h.share - 1)

abbrev pub split_off : Held → Held
split_off h = held h.table [] h.seen 1

-- a seat that another was joined to
abbrev pub both_seats : Held → Held → Held
both_seats h other = held h.table (h.claims ++ other.claims) (h.seen ++ other.seen) (h.share + other.share)

-- the claims are seen, and no block is claimed twice
pub record IsSound (h : Held) : Type 0 where
  pub among : Within h.claims h.seen
  pub distinct : IsDistinct h.claims
