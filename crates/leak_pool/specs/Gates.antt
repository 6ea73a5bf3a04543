-- Which steps of the workers a gate let through. Before each item a worker makes a step, and its steps are counted from 0
-- over the whole call, modulo 2^64.
use Rattle.std.specs.Prelude.{◌≡◌, ℕ, ◌+◌, ◌-◌, ◌%◌, ◌^◌, ◌<◌, ◌≤◌, List, [], ◌∷◌, length, slice_index_or}
use Rattle.leak_pool.specs.Items.{share}
use Rattle.leak_pool.specs.SearchModel.{Work}

-- how many of n items the worker k of m has
abbrev pub share_size : ℕ → ℕ → ℕ → ℕ
share_size k n m = share (k + 1) n m - share k n m

-- the worker k, which has made these steps, was let through at the one for the j-th of its next items
abbrev pub IsNextPassed : (ℕ → ℕ → Type 0) → List ℕ → ℕ → ℕ → Type 0
IsNextPassed passed steps k j = passed k ((slice_index_or steps k 0 + j) % 2 ^ 64)

-- in a round of n items, each of the workers from low up to high was let through to each item of its share
abbrev pub ArePassed : (ℕ → ℕ → Type 0) → ℕ → ℕ → ℕ → ℕ → Type 0
ArePassed passed n workers low high =
    (k j : ℕ) → low ≤ k → k < high → j < share_size k n workers → passed k j

-- in a round the worker was let through to each item of its share
abbrev pub HasPassedShare : (ℕ → ℕ → Type 0) → Work → ℕ → Type 0
HasPassedShare passed work worker =
    ArePassed (IsNextPassed passed work.steps) (length work.items) work.model.workers worker (worker + 1)

-- the worker's step after the round: from this one on, one for each item of its share
abbrev pub step_after : Work → ℕ → ℕ → ℕ
step_after work worker step = (step + share_size worker (length work.items) work.model.workers) % 2 ^ 64

-- how many items the worker k of m has in rounds of so many items each
abbrev pub sizes_of : ℕ → ℕ → List ℕ → ℕ
sizes_of k m [] = 0
sizes_of k m (n ∷ rounds) = share_size k n m + sizes_of k m rounds

-- in rounds of so many items each, every worker was let through at each of its steps, of which there is one for each item
abbrev pub AreAllPassed : (ℕ → ℕ → Type 0) → ℕ → List ℕ → Type 0
AreAllPassed passed workers rounds =
    (k j : ℕ) → k < workers → j < sizes_of k workers rounds → passed k (j % 2 ^ 64)

-- after such rounds the workers have made these steps
pub record HavePassed (passed : ℕ → ℕ → Type 0) (workers : ℕ) (rounds steps : List ℕ) : Type 0 where
  pub each : AreAllPassed passed workers rounds
  pub counts : (k : ℕ) → k < workers → slice_index_or steps k 0 ≡ sizes_of k workers rounds % 2 ^ 64
