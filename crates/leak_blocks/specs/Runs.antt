-- The state of a replay between two lines: a map of live blocks, and a run of others that are one above the other.
use Rattle.std.specs.Prelude.{◌≡◌, ℕ, ◌+◌, ◌<◌, ◌≤◌, ◌⊎◌, Bool, true, false, List, [], ◌∷◌, map, length, ◌++◌}
use Rattle.std.specs.List.{AllByRecursion}
use Rattle.leak_mtrace.specs.declared.line.Line.{Line}
use Rattle.leak_mtrace.specs.Log.{LinesFit}
use Rattle.leak_mtrace.specs.Reading.{Reading, HasRead, HasReadAll}
use Rattle.leak_blocks.specs.declared.block.Block.{Block}
use Rattle.leak_blocks.specs.declared.ongoing_replay.OngoingReplay.{OngoingReplay}
use Rattle.leak_blocks.specs.Span.{AreDisjoint, span_end}
use Rattle.leak_blocks.specs.Live.{replay_of}
use Rattle.leak_blocks.specs.declared.stage.Stage.{Stage}
use Rattle.leak_blocks.specs.Numbers.{IsNumbered, AreNumbersOf, HavePlacesOf, IsStageAfter, entries_of, AreOf}

-- the run has the numbers of these blocks; the map has the entries of those below them, and of those above them
pub record AreBetween (allocated : List Block) (entries : List (ℕ × ℕ)) (run : List ℕ) (below held above : List Block) : Type 0 where
  pub mapped : entries ≡ entries_of (below ++ above)
  pub listed : run ≡ map (λ b. b.line) held
  pub numbered : AllByRecursion (IsNumbered allocated) (below ++ held)
  pub disjoint : AreDisjoint ((below ++ held) ++ above)

-- the run's blocks lie one above the other among those of the map
abbrev pub MayBePlaced : List Block → List (ℕ × ℕ) → List ℕ → Type 0
MayBePlaced allocated entries run = (below held above : List Block) × AreBetween allocated entries run below held above

-- the map has the entries of the run too
abbrev pub ArePlacedOf : List Block → List (ℕ × ℕ) → List ℕ → List (ℕ × ℕ) → Type 0
ArePlacedOf allocated entries run placed =
    (below held above : List Block) → AreBetween allocated entries run below held above → placed ≡ entries_of ((below ++ held) ++ above)

-- the numbers are those of all of them
abbrev pub AreJoinedOf : List Block → List (ℕ × ℕ) → List ℕ → List ℕ → Type 0
AreJoinedOf allocated entries run joined =
    (below held above : List Block) → AreBetween allocated entries run below held above → joined ≡ map (λ b. b.line) ((below ++ held) ++ above)

-- each of the map's blocks begins below the last address, or not below the limit
abbrev pub IsLimitOf : List Block → List (ℕ × ℕ) → ℕ → ℕ → Type 0
IsLimitOf allocated entries last limit =
    (blocks : List Block) → AreOf allocated entries blocks → AllByRecursion (λ b. (b.start < last) ⊎ (limit ≤ b.start)) blocks

-- the blocks are those of the map and those of the run; between its last address and the limit there is none
pub record IsSplit (allocated : List Block) (entries : List (ℕ × ℕ)) (run : List ℕ) (low high : ℕ) (blocks : List Block) : Type 0 where
  pub below : List Block
  pub held : List Block
  pub above : List Block
  pub whole : blocks ≡ (below ++ held) ++ above
  pub between : AreBetween allocated entries run below held above
  pub lower : AllByRecursion (λ b. span_end b ≤ low + 1) (below ++ held)
  pub upper : AllByRecursion (λ b. high ≤ b.start) above

-- the map, the run and the counts after these lines
pub record IsRunAfter (lines : List Line) (allocated : List Block) (entries : List (ℕ × ℕ)) (run : List ℕ) (low high unknown displaced : ℕ) : Type 0 where
  pub numbered : List Block
  pub stand : AreNumbersOf allocated numbered (replay_of lines).blocks
  pub blocks : IsSplit allocated entries run low high numbered
  pub missed : unknown ≡ (replay_of lines).unknown
  pub ended : displaced ≡ (replay_of lines).displaced

-- the replay has come to this after these lines
abbrev pub IsOngoingAfter : List Line → OngoingReplay → Type 0
IsOngoingAfter lines ongoing = IsRunAfter lines ongoing.allocated.items ongoing.numbers.entries ongoing.run.items ongoing.low ongoing.high ongoing.unknown ongoing.displaced

-- the next line has this number
abbrev pub HasComeTo : ℕ → OngoingReplay → Type 0
HasComeTo number ongoing = (lines : List Line) × (number ≡ length lines + 1) × IsOngoingAfter lines ongoing

-- the replay has gone over the line
abbrev pub IsStepOf : Line → ℕ → OngoingReplay → OngoingReplay → Type 0
IsStepOf x number before after =
    (lines : List Line) → number ≡ length lines + 1 → IsOngoingAfter lines before → IsOngoingAfter (lines ++ x ∷ []) after

-- the reader has come as far as the replay, which holds the blocks of all allocations
pub record HaveRead (reading : Reading) (ongoing : OngoingReplay) : Type 0 where
  pub lines : List Line
  pub read : HasRead reading lines
  pub replayed : IsOngoingAfter lines ongoing
  pub places : HavePlacesOf lines ongoing.allocated.items

-- both have come to the end of the log
pub record HaveReadAll (reading : Reading) (ongoing : OngoingReplay) : Type 0 where
  pub lines : List Line
  pub read : HasReadAll reading lines
  pub fit : LinesFit lines
  pub replayed : IsOngoingAfter lines ongoing
  pub places : HavePlacesOf lines ongoing.allocated.items

-- there may be more, or they have come to the end
abbrev pub HaveReadOn : Bool → Reading → OngoingReplay → Type 0
HaveReadOn true reading ongoing = HaveRead reading ongoing
HaveReadOn false reading ongoing = HaveReadAll reading ongoing

-- the reader and a replay between two arenas have come to the end of the log
pub record AreAtEnd (reading : Reading) (stage : Stage) : Type 0 where
  pub lines : List Line
  pub read : HasReadAll reading lines
  pub fit : LinesFit lines
  pub replayed : IsStageAfter lines stage
  pub places : HavePlacesOf lines stage.allocated.items
