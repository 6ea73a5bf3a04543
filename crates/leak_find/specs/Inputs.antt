-- Readers that are read to their ends, one after the other.
use Rattle.std.specs.Prelude.{◌≡◌, ℕ, suc, ◌+◌, ◌≤◌, List, [], ◌∷◌, length, map, Some, Vec, slice_get, slice_index_or, slice_set}
use Rattle.std.specs.declared.alloc.Global.{Global}
use Rattle.leak_streams.specs.declared.fault.ReadFault.{ReadFault}
use Rattle.leak_find.specs.declared.fault.RunFault.{RunFault}
use Rattle.leak_find.specs.declared.fault.RunFault.TheVariants.{Read, Find, NoBlock, Write}
use Rattle.leak_find.specs.Streams.{Source}

-- the bytes of inputs that were read
abbrev pub bytes_of : List (Vec ℕ Global) → List (List ℕ)
bytes_of inputs = map (λ input. input.items) inputs

-- the bytes that the reader with the number, from 0, held
abbrev pub input_at : List (List ℕ) → ℕ → List ℕ
input_at inputs i = slice_index_or inputs i []

-- the first readers held these inputs, and each was read to its end; the limits tell by its number what each may hold. The readers
-- after them are those that they were.
abbrev pub AreRead : {R : Type 0} → Source R → (ℕ → ℕ) → List R → List R → List (List ℕ) → Type 0
AreRead source limit before after [] = after ≡ before
AreRead source limit [] after (bytes ∷ inputs) = ⊥
AreRead source limit (first ∷ before) [] (bytes ∷ inputs) = ⊥
AreRead source limit (first ∷ before) (last ∷ after) (bytes ∷ inputs) =
    source.whole (limit 0) first last bytes × AreRead source (λ i. limit (suc i)) before after inputs

-- the first readers were read to their ends, and the one that follows them was not. The readers after it are those that they were.
abbrev pub AreReadUpTo : {R : Type 0} → Source R → (ℕ → ℕ) → List R → List R → List (List ℕ) → ReadFault → Type 0
AreReadUpTo source limit [] after inputs e = ⊥
AreReadUpTo source limit (first ∷ before) [] inputs e = ⊥
AreReadUpTo source limit (first ∷ before) (last ∷ after) [] e =
    source.stopped (limit 0) first last e × (after ≡ before)
AreReadUpTo source limit (first ∷ before) (last ∷ after) (bytes ∷ inputs) e =
    source.whole (limit 0) first last bytes × AreReadUpTo source (λ i. limit (suc i)) before after inputs e

-- all readers were read to their ends, and held these inputs
pub record AreAllRead {R : Type 0} (source : Source R) (limit : ℕ → ℕ) (before after : List R) (inputs : List (List ℕ)) : Type 0 where
  pub count : length inputs ≡ length before
  pub read : AreRead source limit before after inputs

-- of this many readers, the one with the number, from 1, is the first that was not read to its end
pub record IsReadFaultWithin {R : Type 0} (source : Source R) (limit : ℕ → ℕ) (readers : ℕ) (before after : List R)
    (number : ℕ) (e : ReadFault) : Type 0 where
  pub inputs : List (List ℕ)
  pub number_is : number ≡ length inputs + 1
  pub few : number ≤ readers
  pub stopped : AreReadUpTo source limit before after inputs e

-- the reader with the number, from 0, was read to its end, and no other was read
pub record IsReadAt {R : Type 0} (source : Source R) (number limit : ℕ) (before after : List R) (bytes : List ℕ) : Type 0 where
  pub first : R
  pub last : R
  pub is : slice_get before number ≡ Some first
  pub becomes : after ≡ slice_set before number last
  pub whole : source.whole limit first last bytes

-- the reader with the number, from 0, was not read to its end, and no other was read
pub record IsStoppedAt {R : Type 0} (source : Source R) (number limit : ℕ) (before after : List R) (e : ReadFault) : Type 0 where
  pub first : R
  pub last : R
  pub is : slice_get before number ≡ Some first
  pub becomes : after ≡ slice_set before number last
  pub stopped : source.stopped limit first last e

-- the reader with the number, from 0, refuses the run
abbrev pub IsReaderFault : {R : Type 0} → Source R → ℕ → ℕ → List R → List R → RunFault → Type 0
IsReaderFault source i limit before after (Read n e) = (n ≡ i + 1) × IsStoppedAt source i limit before after e
IsReaderFault source i limit before after (Find e) = ⊥
IsReaderFault source i limit before after (NoBlock a) = ⊥
IsReaderFault source i limit before after (Write f) = ⊥

-- a reader refuses the run, the first that was not read to its end
abbrev pub IsReadRefusal : {R : Type 0} → Source R → (ℕ → ℕ) → List R → List R → RunFault → Type 0
IsReadRefusal source limit before after (Read n e) = IsReadFaultWithin source limit (length before) before after n e
IsReadRefusal source limit before after (Find e) = ⊥
IsReadRefusal source limit before after (NoBlock a) = ⊥
IsReadRefusal source limit before after (Write f) = ⊥
