-- A reader and a replay that have come equally far.
use Rattle.std.proofs.Common.{◌≡◌, ◌∙◌, ℕ, ◌+◌, Bool, true, false, List, [], ◌∷◌, ◌++◌, length, Option, Some, ap, subst, arith, length-append}
use Rattle.leak_mtrace.specs.declared.line.Line.{Line}
use Rattle.leak_mtrace.specs.Reading.{Reading, HasRead, IsNextRead}
use Rattle.leak_blocks.specs.declared.ongoing_replay.OngoingReplay.{OngoingReplay}
use Rattle.leak_blocks.specs.declared.stage.Stage.{Stage}
use Rattle.leak_blocks.specs.Numbers.{HavePlacesOf, IsStageAfter}
use Rattle.leak_blocks.specs.Runs.{AreAtEnd, HaveRead, IsStepOf}
use Rattle.leak_blocks.specs.Windows.{all_blocks, grown_by}
use Rattle.leak_blocks.proofs.PlaceLemmas.{places_stepped}

-- between two arenas
pub record AreBetweenArenas (reading : Reading) (stage : Stage) : Type 0 where
  pub lines : List Line
  pub read : HasRead reading lines
  pub replayed : IsStageAfter lines stage
  pub places : HavePlacesOf lines stage.allocated.items

-- there may be more, or they have come to the end
abbrev pub HaveReadStage : Bool → Reading → Stage → Type 0
HaveReadStage true reading stage = AreBetweenArenas reading stage
HaveReadStage false reading stage = AreAtEnd reading stage

pub counts_more : (before after : Reading) (lines : List Line) (x : Line) (next : Option Line) → HasRead before lines → next ≡ Some x → IsNextRead after lines next → after.count ≡ before.count + 1
counts_more before after lines x next read is later =
    let has : HasRead after (lines ++ x ∷ []) = subst (IsNextRead after lines) is later in
    omega (arith, read.counted, has.counted, length-append lines (x ∷ []))

-- both have come one line further
pub read_more : (old new : OngoingReplay) (before after : Reading) (x : Line) (next : Option Line) (number : ℕ) (so_far : HaveRead before old)
    → next ≡ Some x → IsNextRead after so_far.lines next → number ≡ after.count → IsStepOf x number old new → all_blocks new ≡ grown_by number x (all_blocks old) → HaveRead after new
read_more old new before after x next number so_far is read counted step grown =
    let has : HasRead after (so_far.lines ++ x ∷ []) = subst (IsNextRead after so_far.lines) is read in
    record {
      lines = so_far.lines ++ x ∷ [];
      read = has;
      replayed = step so_far.lines (omega (arith, counted, has.counted, length-append so_far.lines (x ∷ []))) so_far.replayed;
      places = places_stepped so_far.lines x number old.allocated.items new.allocated.items grown so_far.places;
    }
