-- A list of numbered blocks that is built from their numbers.
use Rattle.std.proofs.Common.{◌≡◌, ℕ, refl, sym, subst, ◌∙◌, List, [], ◌∷◌, ◌++◌, length, map, drop, append_assoc, append-nil}
use Rattle.std.specs.List.{AllByRecursion}
use Rattle.leak_blocks.specs.declared.block.Block.{Block}
use Rattle.leak_blocks.specs.Numbers.{IsNumbered}

-- the blocks that are built, and those whose numbers are left
pub record AreBuilt (blocks built : List Block) (numbers : List ℕ) : Type 0 where
  pub rest : List Block
  pub whole : blocks ≡ built ++ rest
  pub left : numbers ≡ map (λ b. b.line) rest

-- the block of the next number
pub record IsNext (allocated : List Block) (blocks built : List Block) (number : ℕ) (numbers : List ℕ) : Type 0 where
  pub block : Block
  pub is_number : block.line ≡ number
  pub is_numbered : IsNumbered allocated block
  pub later : AreBuilt blocks (built ++ block ∷ []) numbers

pub all_behind : (P : Block → Type 0) (bs : List Block) (b : Block) (cs : List Block) → AllByRecursion P (bs ++ b ∷ cs) → P b
all_behind P [] b cs h = h.0
all_behind P (c ∷ bs) b cs h = all_behind P bs b cs h.1

pub next_built : (allocated : List Block) (blocks built : List Block) (before numbers : List ℕ) (number : ℕ) → AllByRecursion (IsNumbered allocated) blocks → AreBuilt blocks built before → before ≡ number ∷ numbers → IsNext allocated blocks built number numbers
next_built allocated blocks built before numbers number all b e = go b.rest b.whole (sym e ∙ b.left)
  where
    go : (rest : List Block) → blocks ≡ built ++ rest → number ∷ numbers ≡ map (λ b. b.line) rest → IsNext allocated blocks built number numbers
    go [] w l = absurd cc
    go (c ∷ cs) w l = record {
      block = c;
      is_number = cc;
      is_numbered = all_behind (IsNumbered allocated) built c cs (subst (AllByRecursion (IsNumbered allocated)) w all);
      later = record { rest = cs; whole = w ∙ sym (append_assoc built (c ∷ []) cs); left = cc };
    }

pub built_at_last : (blocks built : List Block) (numbers : List ℕ) → AreBuilt blocks built numbers → numbers ≡ [] → built ≡ blocks
built_at_last blocks built numbers b e = go b.rest b.whole (sym e ∙ b.left)
  where
    go : (rest : List Block) → blocks ≡ built ++ rest → [] ≡ map (λ b. b.line) rest → built ≡ blocks
    go [] w l = sym (w ∙ append-nil built)
    go (c ∷ cs) w l = absurd cc

pub none_left : (xs : List ℕ) → drop (length xs) xs ≡ []
none_left [] = refl
none_left (x ∷ xs) = none_left xs
