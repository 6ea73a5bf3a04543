-- Whether a block begins at an address: the first block that doesn't begin before it tells.
use Rattle.std.proofs.Common.{◌≡◌, ℕ, ◌^◌, ◌<◌, ◌≤◌, true, false, List, length, ◌==◌, ⊎_elim, sym, ◌∙◌, arith}
use Rattle.std.proofs.lemmas.Bool.{eq-eqb, ne_eqb}
use Rattle.std.proofs.lemmas.Bool.Decides.{eqb_tells}
use Rattle.std.proofs.lemmas.List.Elements.{All-from_get_or}
use Rattle.std.proofs.lemmas.List.Folds.{list_any_at, list_any_none}
use Rattle.leak_blocks.specs.declared.block.Block.{Block}
use Rattle.leak_blocks.specs.Span.{AreAddressed, AreDisjoint, IsAddressed}
use Rattle.leak_index.specs.Ranks.{IsCountBelow, none, start_of}
use Rattle.leak_index.proofs.Near.{ascending, at_number, either}
use Rattle.leak_chunks.specs.FreeLinks.{has_start}

-- no block begins at the address, by number
none_starts : (blocks : List Block) (a : ℕ) → ((k : ℕ) → k < length blocks → ¬ (start_of blocks k ≡ a)) → has_start blocks a ≡ false
none_starts blocks a h = list_any_none (λ b. b.start == a) blocks (All-from_get_or (λ b. (b.start == a) ≡ false) blocks none (λ k l. ne_eqb (start_of blocks k) a (h k l)))

-- the first block that doesn't begin before the address begins there
starts_here : (blocks : List Block) (a at : ℕ) → at < length blocks → start_of blocks at ≡ a → has_start blocks a ≡ true
starts_here blocks a at h e = list_any_at (λ b. b.start == a) blocks at none h (eq-eqb (start_of blocks at) a e)

-- or it begins after that
starts_later : (blocks : List Block) (a at : ℕ) → AreDisjoint blocks → IsCountBelow blocks (length blocks) a at → ¬ (start_of blocks at ≡ a) → has_start blocks a ≡ false
starts_later blocks a at apart count other = none_starts blocks a (λ k l.
    either k at (¬ (start_of blocks k ≡ a))
    (λ before e. let h = count.below k before in omega arith)
    (λ behind e.
    let first = count.above at (omega arith) (omega arith) in
    let up = ascending blocks apart at k none behind l in
    other (omega arith)))

-- so it tells
pub first_tells : (blocks : List Block) (a at : ℕ) → AreDisjoint blocks → IsCountBelow blocks (length blocks) a at → at < length blocks → (start_of blocks at == a) ≡ has_start blocks a
first_tells blocks a at apart count h = ⊎_elim
    (λ same. same.0 ∙ sym (starts_here blocks a at h same.1))
    (λ other. other.0 ∙ sym (starts_later blocks a at apart count other.1))
    (eqb_tells (start_of blocks at) a)

-- or there is none
pub all_start_before : (blocks : List Block) (a at : ℕ) → IsCountBelow blocks (length blocks) a at → length blocks ≤ at → has_start blocks a ≡ false
all_start_before blocks a at count all = none_starts blocks a (λ k l e. let h = count.below k (omega arith) in omega arith)

-- no block begins past the last address
pub none_past_the_last : (blocks : List Block) (a : ℕ) → AreAddressed blocks → 2 ^ 64 ≤ a → has_start blocks a ≡ false
none_past_the_last blocks a all past = none_starts blocks a (λ k l e. let h = (at_number IsAddressed blocks k none all l).fits in omega arith)
