-- Lists that partition a set.
use Rattle.std.proofs.Common.{◌≡◌, ◌↔◌, ℕ, ◌<◌, ◌≤◌, List, ⊎_elim, arith}
use Rattle.std.specs.List.{concat}
use Rattle.leak_marks.specs.Lists.{times, Has, IsDistinct}
use Rattle.leak_marks.specs.Partition.{Partitions}
use Rattle.leak_marks.proofs.ListLemmas.{has_or_not}

-- the lists together hold the set
pub partition_holds : (lists : List (List ℕ)) (set : ℕ → Type 0) → Partitions lists set → (b : ℕ) → Has (concat lists) b ↔ set b
partition_holds lists set p b = ((λ h. p.only b h), (λ s. let one = p.once b s in omega arith))

-- and no number twice
pub partition_distinct : (lists : List (List ℕ)) (set : ℕ → Type 0) → Partitions lists set → IsDistinct (concat lists)
partition_distinct lists set p b = ⊎_elim
    (λ h. let one : times b (concat lists) ≡ 1 = p.once b (p.only b h) in omega arith)
    (λ none. none_is_few (times b (concat lists)) none)
    (has_or_not (concat lists) b)
  where
    none_is_few : (n : ℕ) → (0 < n → ⊥) → n ≤ 1
    none_is_few n none = omega arith

-- which is all that a partition is
pub partition_of : (lists : List (List ℕ)) (set : ℕ → Type 0) → IsDistinct (concat lists) → ((b : ℕ) → Has (concat lists) b ↔ set b) → Partitions lists set
partition_of lists set d h = record {
  once = λ b s. let most = d b in let there : 0 < times b (concat lists) = (h b).1 s in omega arith;
  only = λ b i. (h b).0 i;
}

pub partition_same : (lists : List (List ℕ)) (set other : ℕ → Type 0) → ((b : ℕ) → set b ↔ other b) → Partitions lists set → Partitions lists other
partition_same lists set other same p = record { once = λ b o. p.once b ((same b).1 o); only = λ b i. (same b).0 (p.only b i) }
