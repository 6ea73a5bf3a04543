-- Rounds of marking.
use Rattle.std.specs.Prelude.{◌≡◌, ◌⊎◌, ◌↔◌, ℕ, ◌+◌, ◌-◌, ◌%◌, ◌^◌, ◌<◌, ◌≤◌, Bool, List, ◌++◌, length, map, slice_index_or}
use Rattle.std.specs.List.{concat}
use Rattle.leak_marks.specs.Lists.{times, Has, Within, mark_of, word_count}
use Rattle.leak_marks.specs.Seats.{Held, IsSound}
use Rattle.leak_marks.specs.Reach.{Graph, Reach}
use Rattle.leak_marks.specs.Partition.{Partitions}
use Rattle.leak_pool.specs.Items.{share}
use Rattle.leak_pool.specs.Marking.{IsSet}
use Rattle.leak_marks.specs.Rounds.{IsKept, appended_from, IsUnderWay}

-- what the parts of the roots lead to begins chains
abbrev pub graph_over : List (List ℕ) → List (List ℕ) → List ℕ → Graph
graph_over roots targets given = record { first = concat roots; targets = targets; given = given }

-- Items were scanned: the claims that the seat gained follow those of the workers, and those that were left follow
-- the blocks that wait.
pub record IsStep (blocks : ℕ → List ℕ) (item : ℕ → Type 0) (workers : ℕ) (claims : List (List ℕ)) (waiting : List ℕ) (before : Held)
    (longer : List (List ℕ)) (more : List ℕ) (after : Held) (gained : List (List ℕ)) (left : List ℕ) : Type 0 where
  pub table : after.table ≡ before.table
  pub share : after.share ≡ before.share
  pub sound : IsSound after
  pub few : length gained ≤ workers
  pub claims_are : longer ≡ appended_from 0 claims gained
  pub waiting_are : more ≡ waiting ++ left
  pub listed : after.claims ≡ before.claims ++ concat gained
  pub of_gained : Within left (concat gained)
  pub left_few : length left ≤ length (concat gained)
  pub kept : IsKept blocks item before.seen after.seen gained left

-- Marking between two rounds. The seat's claims are those of the start and those of the workers' lists.
pub record IsGoing (graph : Graph) (blocks workers : ℕ) (base : List ℕ) (claims : List (List ℕ)) (waiting : List ℕ) (seat : Held) : Type 0 where
  pub under : IsUnderWay graph workers claims waiting seat.seen
  pub long : length claims ≡ workers
  pub sound : IsSound seat
  pub whole : seat.share ≡ 4294967296
  pub count : (b : ℕ) → times b seat.claims ≡ times b base + times b (concat claims)
  pub base_given : Within base graph.given
  pub inside : (b : ℕ) → Has seat.claims b → b < blocks
  pub held : Within waiting (concat claims)

-- The lists partition what is reached, and the marks set are those of the given blocks and of those reached.
pub record AreWords (graph : Graph) (blocks workers : ℕ) (words : List ℕ) (claims : List (List ℕ)) (rounds : ℕ) : Type 0 where
  pub long : word_count blocks ≤ length words
  pub lists : length claims ≡ workers
  pub partition : Partitions claims (Reach graph)
  pub marks : (b : ℕ) → (mark_of words b ≡ 1) ↔ (Has graph.given b ⊎ Reach graph b)
  pub few : rounds ≤ blocks + 1

-- The same with a test for each block.
pub record IsMarked (graph : Graph) (blocks workers : ℕ) (tests : List Bool) (claims : List (List ℕ)) (rounds : ℕ) : Type 0 where
  pub set : IsSet tests blocks (λ b. Has graph.given b ⊎ Reach graph b)
  pub lists : length claims ≡ workers
  pub partition : Partitions claims (Reach graph)
  pub few : rounds ≤ blocks + 1
  pub none : blocks ≡ 0 → rounds ≡ 0

-- The steps of the first `until` workers have grown by their shares of `items` items, modulo 2^64; those of the others stay.
pub record AreCounted (items workers until : ℕ) (before after : List ℕ) : Type 0 where
  pub grown : (k : ℕ) → k < until → slice_index_or after k 0 ≡ (slice_index_or before k 0 + (share (k + 1) items workers - share k items workers)) % 2 ^ 64
  pub rest : (k : ℕ) → until ≤ k → slice_index_or after k 0 ≡ slice_index_or before k 0

-- marking is going on, from some claims of the start
abbrev pub Going : List (List ℕ) → List (List ℕ) → List ℕ → ℕ → List (List ℕ) → List ℕ → Held → Type 0
Going roots targets start workers claims waiting seat = (base : List ℕ) × IsGoing (graph_over roots targets start) (length targets) workers base claims waiting seat × Within (concat roots) seat.seen
