-- Items of a round: which they are, and whether they are many.
use Rattle.std.proofs.Common.{◌≡◌, ℕ, zero, suc, ◌<◌, ◌≤◌, List, [], ◌∷◌, length, map, get_or, false, true≢false, refl, sym, ◌∙◌, inl, inr, ⊎_elim, arith}
use Rattle.std.specs.Prelude.{◌↔◌}
use Rattle.std.specs.List.{list_any, range_with_len}
use Rattle.std.proofs.lemmas.List.{length-map}
use Rattle.std.proofs.lemmas.List.FromFn.{length-map-range_with_len, get_or-map-range_with_len}
use Rattle.leak_pool.specs.Items.{AreMany, is_root}
use Rattle.leak_pool.specs.declared.target_source.Item.{Item}
use Rattle.leak_pool.specs.declared.target_source.Item.TheVariants.{Root, Block}

pub roots_long : (n : ℕ) → length (map Root (range_with_len 0 n)) ≡ n
roots_long n = length-map-range_with_len Root 0 n

pub root_at : (n k : ℕ) (d : Item) → k < n → get_or (map Root (range_with_len 0 n)) k d ≡ Root k
root_at n k d h = get_or-map-range_with_len Root 0 n k k d h (omega arith)

pub roots_many : (n : ℕ) → (0 < n) ↔ AreMany (map Root (range_with_len 0 n))
roots_many zero = (λ h. absurd (omega arith), λ many. ⊎_elim (λ t. absurd (true≢false (sym t))) (λ l. omega arith) many)
roots_many (suc n) = (λ h. inl refl, λ many. omega arith)

no_root : (blocks : List ℕ) → list_any is_root (map Block blocks) ≡ false
no_root [] = refl
no_root (b ∷ bs) = no_root bs

pub blocks_many : (blocks : List ℕ) → (1000 ≤ length blocks) ↔ AreMany (map Block blocks)
blocks_many blocks =
    let l = length-map blocks Block in (
      λ many. inr (omega arith),
      λ many. ⊎_elim (λ t. absurd (true≢false (sym t ∙ no_root blocks))) (λ m. omega arith) many,
    )
