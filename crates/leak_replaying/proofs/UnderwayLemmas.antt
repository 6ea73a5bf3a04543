-- A log that is read and the replay of it, which go on together.
use Rattle.std.proofs.Common.{◌≡◌, ◌≢◌, ◌∙◌, ℕ, ◌^◌, ◌+◌, ◌-◌, ◌<◌, ◌≤◌, Bool, true, false, if◌then◌else◌, List, [], ◌++◌, refl, length, ap, sym, subst, arith, append_assoc, length-append}
use Rattle.leak_mtrace.specs.declared.line.Line.{Line}
use Rattle.leak_mtrace.specs.declared.error.LogError.{LogError}
use Rattle.leak_mtrace.specs.declared.error.LogError.TheVariants.{NoMemory as NoMemoryForLog}
use Rattle.leak_mtrace.specs.Log.{IsFirstFault}
use Rattle.leak_blocks.specs.declared.block.Block.{Block}
use Rattle.leak_blocks.specs.declared.ongoing_replay.OngoingReplay.{OngoingReplay}
use Rattle.leak_streams.specs.declared.fault.ReadFault.{ReadFault}
use Rattle.leak_streams.specs.declared.fault.ReadFault.TheVariants.{NoMemory as NoMemoryToRead}
use Rattle.leak_streams.specs.Pieces.{HasComeTo, GivesUp}
use Rattle.leak_streams.specs.Reads.{Calls, IsGivenUp, IsReadWhole}
use Rattle.leak_replaying.specs.declared.log_so_far.LogSoFar.{LogSoFar}
use Rattle.leak_replaying.specs.declared.replaying.Stop.TheVariants.{Log}
use Rattle.leak_replaying.specs.Replaying.{HasPassed, HasReadTo, IsOngoing, IsStoppedBy, IsUnderway, PassesOn, ReadsOn}

module _ {R : Type 0} (calls : Calls R) (limit : ℕ) (first last : R) (log : LogSoFar) (lines : List Line) (ongoing : OngoingReplay) (is : IsOngoing calls limit first last log lines ongoing) where
  -- the window lies within 64 bits
  pub window_fits : limit < 2 ^ 64 → log.at.bytes + length log.window.items < 2 ^ 64
  window_fits fits = omega (arith, fits, is.0.few, is.0.has.bytes, length-append is.0.passed log.window.items)

  -- it was gone over
  pub gone_over : (more : Bool) (now : LogSoFar) (later : OngoingReplay) → now.reading ≡ log.reading → now.ended ≡ log.ended → PassesOn log is.0.passed more now later
      → (ls : List Line) × IsOngoing calls limit first last now ls later
  gone_over more now later reading ended on =
      let same : is.0.passed ++ log.window.items ≡ (is.0.passed ++ on.front) ++ now.window.items =
      ap (λ (w : List ℕ). is.0.passed ++ w) on.cut ∙ sym (append_assoc is.0.passed on.front now.window.items) in (
        on.lines,
        (
          record {
            passed = is.0.passed ++ on.front;
            read = rw (reading, ended, ← same) is.0.read;
            few = rw (← same) is.0.few;
            has = on.has;
          },
          on.replayed,
        ),
      )

  pub not_back : (more : Bool) (now : LogSoFar) (later : OngoingReplay) → PassesOn log is.0.passed more now later → log.at.bytes ≤ now.at.bytes
  not_back more now later on = omega (arith, is.0.has.bytes, on.has.bytes, length-append is.0.passed on.front)

  -- a fault of the window is the log's, which was read so far
  pub is_stopped : (e : LogError) (now : LogSoFar) → now.reading ≡ log.reading → now.ended ≡ log.ended
      → (e ≢ NoMemoryForLog → IsFirstFault (is.0.passed ++ log.window.items) e) → IsStoppedBy calls limit first last now (Log e)
  is_stopped e now reading ended fault = (is.0.passed ++ log.window.items, rw (reading, ended) is.0.read, fault)

  -- more was read
  module _ (not_ended : log.ended ≡ false) where
    pub come : HasComeTo calls limit first last log.reading (is.0.passed ++ log.window.items)
    come = subst (λ (t : Bool). HasReadTo calls limit first last log.reading t (is.0.passed ++ log.window.items)) not_ended is.0.read

    pub read_on : (after : R) (now : LogSoFar) → ReadsOn calls limit last log after now → (ls : List Line) × IsOngoing calls limit first after now ls ongoing
    read_on after now on =
        let read = on.holds.come first (is.0.passed ++ log.window.items) come in
        let same : (is.0.passed ++ log.window.items) ++ on.holds.more ≡ is.0.passed ++ now.window.items =
        append_assoc is.0.passed log.window.items on.holds.more ∙ ap (λ (w : List ℕ). is.0.passed ++ w) (sym on.holds.held_is) in (
          lines,
          (
            record {
              passed = is.0.passed;
              read = rw (← same) read.0;
              few = rw (← same) read.1;
              has = record {
                are = is.0.has.are;
                bytes = rw (on.at) is.0.has.bytes;
                count = rw (on.at) is.0.has.count;
                texts = rw (on.texts, on.numbers) is.0.has.texts;
                all = λ wanted. is.0.has.all (sym on.spans ∙ wanted);
              };
            },
            is.1,
          ),
        )

    pub is_given_up : (after : R) (f : ReadFault) → GivesUp calls limit last log.reading after f → IsGivenUp calls limit first after f
    is_given_up after f up = up first (is.0.passed ++ log.window.items) come

-- ---- between two arenas

module _ {R : Type 0} (calls : Calls R) (limit : ℕ) (first last : R) (log : LogSoFar) where
  -- want of memory stops a replay wherever it is
  pub no_memory : (lines : List Line) (allocated : List Block) → IsUnderway calls limit first last log lines allocated → IsStoppedBy calls limit first last log (Log NoMemoryForLog)
  no_memory lines allocated is = (is.passed ++ log.window.items, is.read, λ not. absurd (not refl))

  pub no_memory_after : (lines : List Line) (allocated : List Block) → IsUnderway calls limit first last log lines allocated → (now : LogSoFar) → now.reading ≡ log.reading → now.ended ≡ log.ended
      → IsStoppedBy calls limit first last now (Log NoMemoryForLog)
  no_memory_after lines allocated is now reading ended = (is.passed ++ log.window.items, rw (reading, ended) is.read, λ not. absurd (not refl))

  -- the place is within the limit
  pub place_within : (lines : List Line) (allocated : List Block) → IsUnderway calls limit first last log lines allocated → log.at.bytes ≤ limit
  place_within lines allocated is = omega (arith, is.few, is.has.bytes, length-append is.passed log.window.items)

  -- an arena is begun and left with the same blocks
  pub same_blocks : (lines : List Line) (allocated other : List Block) → other ≡ allocated → IsUnderway calls limit first last log lines allocated → IsUnderway calls limit first last log lines other
  same_blocks lines allocated other same is = subst (λ (bs : List Block). IsUnderway calls limit first last log lines bs) (sym same) is

  -- allocations are let go
  pub let_gone : (lines : List Line) (allocated : List Block) (is : IsUnderway calls limit first last log lines allocated) (now : LogSoFar) (fewer : List Block)
      → now.reading ≡ log.reading → now.ended ≡ log.ended → now.window ≡ log.window → HasPassed now is.passed lines fewer → IsUnderway calls limit first last now lines fewer
  let_gone lines allocated is now fewer reading ended window has = record {
    passed = is.passed;
    read = rw (reading, ended, window) is.read;
    few = rw (window) is.few;
    has = has;
  }

-- before the first line, when more was read
pub first_read : {R : Type 0} (calls : Calls R) (limit : ℕ) (first last : R) (log : LogSoFar) → IsUnderway calls limit first last log [] [] → log.ended ≡ false
    → (after : R) (now : LogSoFar) → ReadsOn calls limit last log after now → IsUnderway calls limit first after now [] []
first_read calls limit first last log is not_ended after now on =
    let come : HasComeTo calls limit first last log.reading (is.passed ++ log.window.items) =
    subst (λ (t : Bool). HasReadTo calls limit first last log.reading t (is.passed ++ log.window.items)) not_ended is.read in
    let read = on.holds.come first (is.passed ++ log.window.items) come in
    let same : (is.passed ++ log.window.items) ++ on.holds.more ≡ is.passed ++ now.window.items =
    append_assoc is.passed log.window.items on.holds.more ∙ ap (λ (w : List ℕ). is.passed ++ w) (sym on.holds.held_is) in
    record {
      passed = is.passed;
      read = rw (← same) read.0;
      few = rw (← same) read.1;
      has = record { are = is.has.are; bytes = rw (on.at) is.has.bytes; count = rw (on.at) is.has.count; texts = rw (on.texts, on.numbers) is.has.texts; all = λ wanted. is.has.all (sym on.spans ∙ wanted) };
    }

pub first_come : {R : Type 0} (calls : Calls R) (limit : ℕ) (first last : R) (log : LogSoFar) (is : IsUnderway calls limit first last log [] []) → log.ended ≡ false
    → HasComeTo calls limit first last log.reading (is.passed ++ log.window.items)
first_come calls limit first last log is not_ended =
    subst (λ (t : Bool). HasReadTo calls limit first last log.reading t (is.passed ++ log.window.items)) not_ended is.read

-- a further arena is begun only where the place went on
pub nearer : (limit was now : ℕ) (more again : Bool) → more ≡ true → was ≤ now → (again ≡ true → was < now) → now ≤ limit
    → (limit - now) + (if again then 1 else 0) < (limit - was) + (if more then 1 else 0)
nearer limit was now true true e back further within = omega (arith, further refl)
nearer limit was now true false e back further within = omega arith
nearer limit was now false again e back further within = absurd (let f : ⊥ = cc in f)

-- ---- the whole log

-- before the first read
pub begun : {R : Type 0} (calls : Calls R) (limit : ℕ) (reader : R) (log : LogSoFar) → log.ended ≡ false → log.window.items ≡ [] → HasComeTo calls limit reader reader log.reading []
    → HasPassed log [] [] [] → IsUnderway calls limit reader reader log [] []
begun calls limit reader log not_ended empty come has = record {
  passed = [];
  read = rw (not_ended, empty) come;
  few = rw (empty) (let f : 0 ≤ limit = omega arith in f);
  has = has;
}

-- memory was refused then
pub none_read : {R : Type 0} (calls : Calls R) (limit : ℕ) (reader : R) → IsGivenUp calls limit reader reader NoMemoryToRead
none_read calls limit reader = (record { bytes = []; interruptions = 0 }, record { reads = []; by_reads = (refl, refl, refl) })

-- a log that was read to its end was read whole
pub read_whole : {R : Type 0} (calls : Calls R) (limit : ℕ) (first last : R) (log : LogSoFar) (lines : List Line) (allocated : List Block) (is : IsUnderway calls limit first last log lines allocated)
    → log.ended ≡ true → IsReadWhole calls limit first last (is.passed ++ log.window.items)
read_whole calls limit first last log lines allocated is ended =
    subst (λ (t : Bool). HasReadTo calls limit first last log.reading t (is.passed ++ log.window.items)) ended is.read
