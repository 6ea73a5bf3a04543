-- A log is replayed while it is read, window by window.
use Rattle.std.proofs.Common.{◌≡◌, ◌∙◌, ℕ, ◌+◌, ◌-◌, ◌<◌, ◌≤◌, Bool, true, false, cond, List, [], ◌∷◌, ◌++◌, length, take, drop, ap, ap₂, sym, subst, arith, append_assoc, append-nil, length-append}
use Rattle.std.specs.List.{AllByRecursion}
use Rattle.std.proofs.lemmas.List.{length-map, length-take-le, length-drop, take-append-drop, take_all}
use Rattle.std.proofs.Math.Seq.{drop-append_seam}
use Rattle.leak_mtrace.specs.declared.line.Line.{Line}
use Rattle.leak_mtrace.specs.declared.error.LogError.{LogError}
use Rattle.leak_mtrace.specs.Log.{IsFirstFault, placed, whole_len_of}
use Rattle.leak_mtrace.specs.Parts.{IsCallerBehind, later_fault, moved}
use Rattle.leak_mtrace.proofs.PartLemmas.{callers_behind, fault_joins, few_lines, lines_join, whole_len_joins}
use Rattle.leak_blocks.specs.declared.block.Block.{Block}
use Rattle.leak_blocks.specs.declared.ongoing_replay.OngoingReplay.{OngoingReplay}
use Rattle.leak_blocks.specs.declared.window.LogPlace.{LogPlace}
use Rattle.leak_blocks.specs.Live.{block_of, is_allocation}
use Rattle.leak_blocks.specs.Numbers.{HavePlacesOf}
use Rattle.leak_blocks.specs.Runs.{HasComeTo as HasComeToLine, IsOngoingAfter}
use Rattle.leak_blocks.specs.Windows.{GoesOn, IsLaterFault, allocated_by}
use Rattle.leak_blocks.proofs.PlaceLemmas.{places_by}
use Rattle.leak_streams.specs.declared.fault.ReadFault.{ReadFault}
use Rattle.leak_streams.specs.declared.fault.ReadFault.TheVariants.{NoMemory}
use Rattle.leak_streams.specs.Pieces.{TakenSoFar, HasComeTo, TakesPiece, FindsEnd, GivesUp}
use Rattle.leak_streams.specs.Reads.{Calls}
use Rattle.leak_replaying.specs.declared.log_so_far.LogSoFar.{LogSoFar}
use Rattle.leak_replaying.specs.Numbering.{AreNumberedBy, IsBehind, NumbersMore}
use Rattle.leak_replaying.specs.Replaying.{HasPassed, HoldsMore, PassesOn}

-- ---- the lines of a window

-- the callers of the blocks that they allocate are in it
behind_by : (n len k : ℕ) (lines : List Line) → AllByRecursion (IsCallerBehind n len) lines → AllByRecursion (λ (b : Block). IsBehind n len b.caller) (allocated_by k lines)
behind_by n len k [] all = tt
behind_by n len k (x ∷ lines) all = go (is_allocation x) (behind_by n len (k + 1) lines all.1)
  where
    go : (t : Bool) → AllByRecursion (λ (b : Block). IsBehind n len b.caller) (allocated_by (k + 1) lines)
        → AllByRecursion (λ (b : Block). IsBehind n len b.caller) (cond t (block_of (k + 1) x ∷ allocated_by (k + 1) lines) (allocated_by (k + 1) lines))
    go true rest = (record { order = all.0.order; within = all.0.within; from = all.0.from }, rest)
    go false rest = rest

module _ (was : LogSoFar) (ongoing later : OngoingReplay) (to : LogPlace) (more : Bool) (goes : GoesOn was.window.items was.at to more ongoing later) where
  abbrev pub window : List ℕ
  window = was.window.items

  abbrev pub front : List ℕ
  front = take goes.len window

  pub long : length front ≡ goes.len
  long = length-take-le goes.len window goes.within

  -- those that are new
  pub new_blocks : drop (length ongoing.allocated.items) later.allocated.items ≡ allocated_by was.at.lines (moved was.at.bytes goes.lines)
  new_blocks = ap (drop (length ongoing.allocated.items)) goes.allocated ∙ drop-append_seam ongoing.allocated.items (allocated_by was.at.lines (moved was.at.bytes goes.lines))

  pub callers_are_behind : AllByRecursion (λ (b : Block). IsBehind was.at.bytes (length front) b.caller) (drop (length ongoing.allocated.items) later.allocated.items)
  callers_are_behind =
      subst (λ (bs : List Block). AllByRecursion (λ (b : Block). IsBehind was.at.bytes (length front) b.caller) bs) (sym new_blocks)
      (behind_by was.at.bytes (length front) was.at.lines (moved was.at.bytes goes.lines) (callers_behind was.at.bytes front goes.lines goes.are.is_log))

  -- so many bytes of it are let go
  pub len_is : to.bytes - was.at.bytes ≡ goes.len
  len_is = omega (arith, goes.bytes)

  -- the blocks behind those that were there
  pub rest_of_blocks : (old new : List Block) → old ≡ ongoing.allocated.items → new ≡ later.allocated.items
      → take (length new - length old) (drop (length old) new) ≡ drop (length ongoing.allocated.items) later.allocated.items
  rest_of_blocks old new same_old same_new =
      take_all (length new - length old) (drop (length old) new) (omega (arith, length-drop (length old) new))
      ∙ ap₂ (λ (o n : List Block). drop (length o) n) same_old same_new

  pub are_in_front : (old new : List Block) → old ≡ ongoing.allocated.items → new ≡ later.allocated.items
      → AllByRecursion (λ (b : Block). IsBehind was.at.bytes (to.bytes - was.at.bytes) b.caller) (take (length new - length old) (drop (length old) new))
  are_in_front old new same_old same_new =
      subst (λ (bs : List Block). AllByRecursion (λ (b : Block). IsBehind was.at.bytes (to.bytes - was.at.bytes) b.caller) bs) (sym (rest_of_blocks old new same_old same_new))
      (subst (λ (n : ℕ). AllByRecursion (λ (b : Block). IsBehind was.at.bytes n b.caller) (drop (length ongoing.allocated.items) later.allocated.items)) (long ∙ sym len_is) callers_are_behind)

  -- they are let go
  module _ (now : LogSoFar) (rest : now.window.items ≡ drop goes.len window) (at : now.at ≡ to) (spans : now.spans ≡ was.spans)
      (numbers : NumbersMore was.at.bytes front (drop (length ongoing.allocated.items) later.allocated.items) was.texts was.numbers.items now.texts now.numbers.items)
      (passed : List ℕ) (lines : List Line) (has : HasPassed was passed lines ongoing.allocated.items) (replayed : IsOngoingAfter lines ongoing) where
    abbrev pub all : List ℕ
    all = passed ++ front

    abbrev pub all_lines : List Line
    all_lines = lines ++ moved (length passed) goes.lines

    same_moved : moved was.at.bytes goes.lines ≡ moved (length passed) goes.lines
    same_moved = ap (λ (n : ℕ). moved n goes.lines) has.bytes

    cut : window ≡ front ++ now.window.items
    cut = sym (take-append-drop goes.len window) ∙ ap (λ (r : List ℕ). front ++ r) (sym rest)

    all_blocks : ongoing.allocated.items ++ drop (length ongoing.allocated.items) later.allocated.items ≡ later.allocated.items
    all_blocks = ap (λ (bs : List Block). ongoing.allocated.items ++ bs) new_blocks ∙ sym goes.allocated

    has_now : HasPassed now all all_lines later.allocated.items
    has_now = record {
      are = lines_join passed front lines goes.lines has.are goes.are;
      bytes = omega (arith, ap (λ (p : LogPlace). p.bytes) at, goes.bytes, has.bytes, long, length-append passed front);
      count = omega (arith, ap (λ (p : LogPlace). p.lines) at, goes.count, has.count, length-append lines (moved (length passed) goes.lines), length-map goes.lines (placed (length passed)));
      texts = subst (λ (bs : List Block). AreNumberedBy all bs now.texts now.numbers.items) all_blocks (numbers passed ongoing.allocated.items (sym has.bytes) has.texts);
      all = λ wanted.
          subst (λ (ms : List Line). HavePlacesOf (lines ++ ms) later.allocated.items) same_moved
          (places_by lines (moved was.at.bytes goes.lines) was.at.lines ongoing.allocated.items later.allocated.items goes.allocated (has.all (sym spans ∙ wanted)));
    }

    none_left : more ≡ false → whole_len_of now.window.items ≡ 0
    none_left e =
        let both : whole_len_of (front ++ now.window.items) ≡ length front + whole_len_of now.window.items = whole_len_joins front now.window.items goes.are.whole in
        let whole : whole_len_of window ≡ goes.len = goes.end e in
        omega (arith, ap whole_len_of cut, both, whole, long)

    pub passes_on : PassesOn was passed more now later
    passes_on = record {
      front = front;
      lines = all_lines;
      cut = cut;
      has = has_now;
      replayed = subst (λ (ms : List Line). IsOngoingAfter (lines ++ ms) later) same_moved (goes.replayed lines has.count replayed);
      further = λ e. omega (arith, ap (λ (p : LogPlace). p.bytes) at, goes.bytes, goes.progress e);
      end = none_left;
    }

-- what a replay of a window asks for
pub few_so_far : (log : LogSoFar) (passed : List ℕ) (lines : List Line) (allocated : List Block) → HasPassed log passed lines allocated → log.at.lines ≤ log.at.bytes
few_so_far log passed lines allocated has = omega (arith, has.bytes, has.count, few_lines passed lines has.are.is_log)

pub has_come : (log : LogSoFar) (passed : List ℕ) (lines : List Line) (ongoing : OngoingReplay) → HasPassed log passed lines ongoing.allocated.items
    → IsOngoingAfter lines ongoing → HasComeToLine (log.at.lines + 1) ongoing
has_come log passed lines ongoing has replayed = (lines, ap (λ (n : ℕ). n + 1) has.count, replayed)

-- its first fault is that of the log
pub later_is_first : (log : LogSoFar) (e : LogError) → IsLaterFault log.at.lines log.window.items e → (passed : List ℕ) (lines : List Line) (allocated : List Block)
    → HasPassed log passed lines allocated → IsFirstFault (passed ++ log.window.items) e
later_is_first log e is passed lines allocated has =
    subst (IsFirstFault (passed ++ log.window.items)) (ap (λ (n : ℕ). later_fault n is.0) (sym has.count) ∙ sym is.2)
    (fault_joins passed log.window.items lines is.0 has.are is.1)

-- ---- pieces that are read

module _ {R : Type 0} (calls : Calls R) (limit : ℕ) (before : R) (was : TakenSoFar) (held : List ℕ) where
  pub none_more : HoldsMore calls limit before was held before was false held
  none_more = record {
    more = [];
    held_is = sym (append-nil held);
    come = λ first bytes has.
        (subst (λ (l : List ℕ). HasComeTo calls limit first before was l) (sym (append-nil bytes)) has, subst (λ (l : List ℕ). length l ≤ limit) (sym (append-nil bytes)) has.few);
  }

  module _ (mid : R) (now : TakenSoFar) (middle : List ℕ) (so_far : HoldsMore calls limit before was held mid now false middle) where
    pub piece_more : (after : R) (next : TakenSoFar) (later : List ℕ) → TakesPiece calls limit mid now after next → later ≡ middle ++ next.piece
        → HoldsMore calls limit before was held after next false later
    piece_more after next later takes is = record {
      more = so_far.more ++ next.piece;
      held_is = is ∙ ap (λ (l : List ℕ). l ++ next.piece) so_far.held_is ∙ append_assoc held so_far.more next.piece;
      come = λ first bytes has.
          let come : HasComeTo calls limit first after next (bytes ++ (so_far.more ++ next.piece)) =
          subst (λ (l : List ℕ). HasComeTo calls limit first after next l) (append_assoc bytes so_far.more next.piece) (takes first (bytes ++ so_far.more) (so_far.come first bytes has).0) in
          (come, come.few);
    }

    -- or the end
    pub all_held : (after : R) (next : TakenSoFar) → FindsEnd calls limit mid now after → HoldsMore calls limit before was held after next true middle
    all_held after next end = record {
      more = so_far.more;
      held_is = so_far.held_is;
      come = λ first bytes has. (end first (bytes ++ so_far.more) (so_far.come first bytes has).0, (so_far.come first bytes has).1);
    }

    pub given_up : (after : R) (f : ReadFault) → GivesUp calls limit mid now after f → GivesUp calls limit before was after f
    given_up after f up first bytes has = up first (bytes ++ so_far.more) (so_far.come first bytes has).0

    -- also for want of memory for one piece more
    pub given_up_next : (after : R) (next : TakenSoFar) → TakesPiece calls limit mid now after next → GivesUp calls limit before was after NoMemory
    given_up_next after next takes first bytes has =
        let come : HasComeTo calls limit first after next ((bytes ++ so_far.more) ++ next.piece) = takes first (bytes ++ so_far.more) (so_far.come first bytes has).0 in
        (record { bytes = (bytes ++ so_far.more) ++ next.piece; interruptions = next.interruptions }, come.come)

    -- a piece more, and fewer bytes are left
    pub nearer_by_piece : (after : R) (next : TakenSoFar) (first : R) (bytes : List ℕ) → HasComeTo calls limit first before was bytes → TakesPiece calls limit mid now after next
        → next.taken ≡ now.taken + length next.piece → 0 < length next.piece → limit - next.taken < limit - now.taken
    nearer_by_piece after next first bytes has takes counted some =
        let come : HasComeTo calls limit first after next ((bytes ++ so_far.more) ++ next.piece) = takes first (bytes ++ so_far.more) (so_far.come first bytes has).0 in
        let taken : next.taken ≡ length ((bytes ++ so_far.more) ++ next.piece) = come.taken in
        let few : length ((bytes ++ so_far.more) ++ next.piece) ≤ limit = come.few in
        omega (arith, counted, some, taken, few)

    -- nothing is counted back
    pub taken_more : (first : R) (bytes : List ℕ) → HasComeTo calls limit first before was bytes → limit - now.taken ≤ limit - was.taken
    taken_more first bytes has =
        let come : HasComeTo calls limit first mid now (bytes ++ so_far.more) = (so_far.come first bytes has).0 in
        omega (arith, come.taken, has.taken, length-append bytes so_far.more)
