-- Writes, one after the other.
use Rattle.std.proofs.Common.{◌≡◌, ℕ, ◌+◌, ◌-◌, ◌≤◌, ◌<◌, List, [], ◌∷◌, length, take, drop, Option, None, Some, append_assoc, append-nil, arith, refl, subst, sym}
use Rattle.std.proofs.Math.Seq.{take-add}
use Rattle.std.proofs.lemmas.List.{length-drop, take_all}
use Rattle.std.specs.Prelude.{Result, Ok, Err}
use Rattle.std.specs.declared.io.Error.{Error}
use Rattle.std.specs.Io.{WritesAtMost}
use Rattle.std.specs.Io.KnownBytes.{Appends, Keeps, WriteAppends}
use Rattle.leak_lemmas.proofs.Lists.{left_whole}
use Rattle.leak_streams.specs.declared.writers.WrittenSoFar.{WrittenSoFar}
use Rattle.leak_streams.specs.declared.fault.WriteFault.{WriteFault}
use Rattle.leak_streams.specs.Laws.{WritesTell}
use Rattle.leak_streams.specs.Writes.{Calls, GoesOn, Stops, IsTurn, ComesBy, HasCome, IsWrittenWhole, IsCutOff}

-- if a writing goes on, no more is taken than the text, and there were not too many interruptions
pub goes_on_within : (text : List ℕ) (now next : WrittenSoFar) (answer : Result ℕ Error) → now.written ≤ length text
    → WritesAtMost answer (drop now.written text) → GoesOn now answer next → next.written ≤ length text
goes_on_within text now next (Ok count) within bound on = let is = on.1 in omega (arith, is, bound, within, length-drop now.written text)
goes_on_within text now next (Err e) within bound on = let is = on.1 in omega (arith, is, within)

pub goes_on_few : (now next : WrittenSoFar) (answer : Result ℕ Error) → now.interruptions < 1000000 → GoesOn now answer next → next.interruptions < 1000000
goes_on_few now next (Ok count) few on = let is = on.2 in omega (arith, is, few)
goes_on_few now next (Err e) few on = on.3

-- the first n bytes of the text, and then the next k
Appends-more : (before between after : Option (List ℕ)) (n k : ℕ) (text : List ℕ) → Appends before between (take n text)
    → Appends between after (take k (drop n text)) → Appends before after (take (n + k) text)
Appends-more None between after n k text first next = tt
Appends-more (Some xs) None after n k text first next = absurd first
Appends-more (Some xs) (Some ys) None n k text first next = absurd next
Appends-more (Some xs) (Some ys) (Some zs) n k text first next = rw (next, first, take-add n k text, append_assoc) refl

Appends-kept : (before between after : Option (List ℕ)) (bytes : List ℕ) → Appends before between bytes → Keeps between after → Appends before after bytes
Appends-kept None between after bytes first kept = tt
Appends-kept (Some xs) None after bytes first kept = absurd first
Appends-kept (Some xs) (Some ys) None bytes first kept = absurd kept
Appends-kept (Some xs) (Some ys) (Some zs) bytes first kept = rw (kept, first) refl

Appends-none : (held : Option (List ℕ)) → Appends held held []
Appends-none None = tt
Appends-none (Some xs) = sym (append-nil xs)

-- ---- turns

module _ {W : Type 0} (calls : Calls W) (text : List ℕ) where
  -- no turn yet
  pub none_yet : (first : W) (now : WrittenSoFar) → now.written ≡ 0 → now.interruptions ≡ 0 → HasCome calls text first first now
  none_yet first now written interruptions = record { turns = []; by_turns = (refl, written, interruptions) }

  -- a turn, by what was given to the writer
  pub is_turn : (now : WrittenSoFar) (before after : W) (answer : Result ℕ Error) → now.written < length text
      → calls before (take (length text - now.written) (drop now.written text)) answer after → IsTurn calls text now before answer after
  is_turn now before after answer left call =
      record { left = left; call = subst (λ bytes. calls before bytes answer after) (left_whole now.written text) call }

  -- one turn more
  pub one_more : (first before last : W) (was now : WrittenSoFar) (answer : Result ℕ Error) → HasCome calls text first before was
      → IsTurn calls text was before answer last → GoesOn was answer now → HasCome calls text first last now
  one_more first before last was now answer come turn on = record { turns = (answer, before) ∷ come.turns; by_turns = (was, come.by_turns, turn, on) }

-- ---- what turns come to, if the writer tells its bytes

-- a write, by the bytes that the writer holds
abbrev pub tells : {W : Type 0} → (W → Option (List ℕ)) → Calls W
tells contents before bytes answer after = WriteAppends (contents before) (contents after) answer bytes × WritesAtMost answer bytes

module _ {W : Type 0} (contents : W → Option (List ℕ)) (text : List ℕ) (first : W) where
  goes_on_appends : (before last : W) (was now : WrittenSoFar) (answer : Result ℕ Error) → Appends (contents first) (contents before) (take was.written text)
      → IsTurn (tells contents) text was before answer last → GoesOn was answer now → Appends (contents first) (contents last) (take now.written text)
  goes_on_appends before last was now (Ok count) so_far turn on =
      rw (on.1) (Appends-more _ (contents before) _ was.written count text so_far turn.call.0)
  goes_on_appends before last was now (Err e) so_far turn on = rw (on.1) (Appends-kept _ (contents before) _ _ so_far turn.call.0)

  come_appends : (turns : List (Result ℕ Error × W)) (last : W) (now : WrittenSoFar) → ComesBy (tells contents) text first turns last now
      → Appends (contents first) (contents last) (take now.written text)
  come_appends [] last now come = rw (come.0, come.1) (Appends-none _)
  come_appends (turn ∷ turns) last now come =
      goes_on_appends turn.1 last come.0 now turn.0 (come_appends turns turn.1 come.0 come.1) come.2 come.3

  -- the whole text, and nothing else
  pub whole_appends : (last : W) → IsWrittenWhole (tells contents) text first last → Appends (contents first) (contents last) text
  whole_appends last whole =
      subst (λ bytes. Appends (contents first) (contents last) bytes) (rw (whole.all) (take_all _ _ (omega arith)))
      (come_appends whole.come.turns last whole.now whole.come.by_turns)

  stops_appends : (before last : W) (now : WrittenSoFar) (answer : Result ℕ Error) → Appends (contents first) (contents before) (take now.written text)
      → IsTurn (tells contents) text now before answer last → Stops now answer → Appends (contents first) (contents last) (take now.written text)
  stops_appends before last now (Ok count) so_far turn stops =
      let more = Appends-more _ (contents before) (contents last) now.written count text so_far turn.call.0 in
      subst (λ n. Appends (contents first) (contents last) (take n text)) (omega (arith, stops)) more
  stops_appends before last now (Err e) so_far turn stops = Appends-kept _ (contents before) _ _ so_far turn.call.0

  -- as many of the first bytes of the text as the fault tells
  pub cut_off_appends : (last : W) (f : WriteFault) → IsCutOff (tells contents) text first last f → Appends (contents first) (contents last) (take f.written text)
  cut_off_appends last f cut = rw (cut.told) (stops_appends cut.before last cut.now cut.answer
      (come_appends cut.come.turns cut.before cut.now cut.come.by_turns) cut.turn cut.stops)

-- and that is not all of it
pub cut_off_short : {W : Type 0} (calls : Calls W) (text : List ℕ) (first last : W) (f : WriteFault) → IsCutOff calls text first last f → f.written < length text
cut_off_short calls text first last f cut = let left = cut.turn.left in let told = cut.told in omega (arith, left, told)

-- the whole text, or its first bytes, for a writer whose writes are told by its bytes
pub writes_tell : {W : Type 0} (contents : W → Option (List ℕ)) → WritesTell (tells contents) contents
writes_tell contents = record {
  whole = λ text first last. whole_appends contents text first last;
  cut_off = λ text first last f. cut_off_appends contents text first last f;
}
