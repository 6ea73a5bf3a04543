-- Heads of cores, and readings that come to them.
use Rattle.std.proofs.Common.{◌≡◌, ◌∙◌, ℕ, ◌-◌, ◌<◌, ◌≤◌, false, List, [], length, take, drop, sym, arith}
use Rattle.std.proofs.lemmas.List.{append-nil, length-take-le, take-append-drop}
use Rattle.leak_elf.specs.Head.{IsHead}
use Rattle.leak_elf.specs.HeadLength.{has_dumped}
use Rattle.leak_streams.specs.Reads.{Calls}
use Rattle.leak_passing.specs.Begun.{BeginsWithHead}
use Rattle.leak_passing.specs.Underway.{Place, IsAt, HasBegun, GoesOn}

-- the first bytes are a head
pub head_of : (bytes : List ℕ) (n : ℕ) → BeginsWithHead bytes n → IsHead (take n bytes) × (has_dumped (take n bytes) ≡ false)
head_of bytes n begins =
    begins.is_head (take n bytes) (record { rest = drop n bytes; more = []; same = take-append-drop n bytes ∙ sym (append-nil bytes) })
    (length-take-le n bytes begins.within)

-- a reading that has begun, and goes on to more bytes, has fewer to come
pub nearer : {R : Type 0} (calls : Calls R) (limit : ℕ) (from at to : Place R) → HasBegun calls limit from → GoesOn calls limit from at → GoesOn calls limit at to
    → length at.bytes < length to.bytes → limit - length to.bytes < limit - length at.bytes
nearer calls limit from at to begun so_far on more =
    let come : IsAt calls limit begun.0 to = on begun.0 (so_far begun.0 begun.1) in
    let few : length to.bytes ≤ limit = come.few in omega (arith, few, more)
