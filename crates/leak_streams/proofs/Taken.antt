-- Reads into a buffer, again while they are interrupted.
use Rattle.std.proofs.Common.{◌≡◌, ℕ, ◌+◌, ◌-◌, ◌≤◌, ◌<◌, ◌++◌, List, [], ◌∷◌, length, min, take, drop, refl, ap, arith, ◌∙◌, length-take, length-append}
use Rattle.std.proofs.lemmas.List.{take-append-le}
use Rattle.std.specs.Prelude.{Result, Ok, Err, IfOk}
use Rattle.std.specs.Io.{ReadsAtMost}
use Rattle.std.specs.declared.io.Error.{Error}
use Rattle.leak_streams.specs.declared.fault.ReadFault.{ReadFault}
use Rattle.leak_streams.specs.declared.fault.ReadFault.TheVariants.{TooLong, Device, TooManyTurns, NoMemory}
use Rattle.leak_streams.specs.declared.pieces.Turn.TheVariants.{End, Bytes, Again, Stop}
use Rattle.leak_streams.specs.Pieces.{TakenSoFar, GivesUp, ComesTo}
use Rattle.leak_streams.specs.Reads.{Calls, StopsBy, IsEnd, Follows, ReadSoFar, GoesOn, OneRead, IsRead, HasCome, IsCutOff, IsGivenUp}

-- ---- what follows an answer

ended : (left turns : ℕ) (answer : Result ℕ Error) → Follows left turns answer End → IsEnd answer
ended left turns (Ok count) follows = follows
ended left turns (Err e) follows = absurd follows

stopped_by : (left turns : ℕ) (answer : Result ℕ Error) (f : ReadFault) → Follows left turns answer (Stop f) → StopsBy left turns answer f
stopped_by left turns (Ok count) f follows = follows
stopped_by left turns (Err e) f follows = follows

no_memory : (left turns : ℕ) (answer : Result ℕ Error) → StopsBy left turns answer NoMemory → ⊥
no_memory left turns (Ok count) stops = stops
no_memory left turns (Err e) stops = stops

-- as many bytes as were read are within the limit, and in the piece
pub counts : (left turns : ℕ) (answer : Result ℕ Error) (count : ℕ) (piece : List ℕ) → ReadsAtMost answer piece
    → Follows left turns answer (Bytes count) → (0 < count) × (count ≤ left) × (count ≤ length piece)
counts left turns (Ok read) count piece bound follows =
    let is = follows.0 in let some = follows.1 in let few = follows.2 in let most = bound.0 in
    (omega (arith, is, some), omega (arith, is, few), omega (arith, is, most))
counts left turns (Err e) count piece bound follows = absurd follows

pub turns_more : (left turns : ℕ) (answer : Result ℕ Error) (now : ℕ) → Follows left turns answer (Again now) → (now ≡ turns + 1) × (now < 1000000)
turns_more left turns (Ok read) now follows = absurd follows
turns_more left turns (Err e) now follows = (follows.1, follows.2)

-- one interruption more, and there are fewer to come
pub nearer_by_turn : (turns now : ℕ) → (now ≡ turns + 1) × (now < 1000000) → 1000000 - now < 1000000 - turns
nearer_by_turn turns now more = let is = more.0 in let few = more.1 in omega (arith, is, few)

on_by_bytes : (limit left turns count : ℕ) (bytes piece : List ℕ) (answer : Result ℕ Error) → limit ≡ length bytes + left
    → Follows left turns answer (Bytes count)
    → GoesOn limit (record { bytes = bytes; interruptions = turns }) piece answer (record { bytes = bytes ++ take count piece; interruptions = turns })
on_by_bytes limit left turns count bytes piece (Ok read) is follows =
    let same = follows.0 in let within = follows.2 in
    (follows.1, omega (arith, is, within), ap (λ n. bytes ++ take n piece) same, refl)
on_by_bytes limit left turns count bytes piece (Err e) is follows = absurd follows

on_by_interruption : (limit left turns now : ℕ) (bytes piece : List ℕ) (answer : Result ℕ Error) → Follows left turns answer (Again now)
    → GoesOn limit (record { bytes = bytes; interruptions = turns }) piece answer (record { bytes = bytes; interruptions = now })
on_by_interruption limit left turns now bytes piece (Ok read) follows = absurd follows
on_by_interruption limit left turns now bytes piece (Err e) follows = (follows.0, refl, follows.1, follows.2)

-- what a read asks for: a byte at least, and a byte over the limit at most
asks_for : (left sum size room : ℕ) (new buffer : List ℕ) → sum ≡ min (left + 1) 18446744073709551615 → room ≡ min sum size → 0 < size
    → length buffer ≡ size → length new ≡ length (take room buffer) → (0 < length new) × (length new ≤ left + 1)
asks_for left sum size room new buffer is_sum is_room some kept is_new =
    let h : length new ≡ min room (length buffer) = is_new ∙ length-take room buffer in
    (omega (arith, h, is_sum, is_room, some, kept), omega (arith, h, is_sum, is_room))

-- ---- reads

-- wherever the reading had come with as many bytes left, it comes there with more interruptions
abbrev pub KeepsComing : {R : Type 0} → Calls R → ℕ → R → ℕ → R → ℕ → Type 0
KeepsComing {R} calls left before was after now = (limit : ℕ) (first : R) (bytes : List ℕ) → limit ≡ length bytes + left
    → HasCome calls limit first before (record { bytes = bytes; interruptions = was })
    → HasCome calls limit first after (record { bytes = bytes; interruptions = now })

-- one read more
one_more : {R : Type 0} (calls : Calls R) (limit : ℕ) (first last : R) (read : OneRead R) (was now : ReadSoFar) → HasCome calls limit first read.before was
    → IsRead calls limit was read last → GoesOn limit was read.piece read.answer now → HasCome calls limit first last now
one_more calls limit first last read was now come is_read on = record { reads = read ∷ come.reads; by_reads = (was, come.by_reads, is_read, on) }

most_of : (answer : Result ℕ Error) (piece : List ℕ) → ReadsAtMost answer piece → IfOk answer (λ count. count ≤ length piece)
most_of (Ok count) piece bound = bound.0
most_of (Err e) piece bound = tt

-- no read yet
pub none_yet : {R : Type 0} (calls : Calls R) (limit : ℕ) (first : R) → HasCome calls limit first first (record { bytes = []; interruptions = 0 })
none_yet calls limit first = record { reads = []; by_reads = (refl, refl, refl) }

-- a read: the reader before and after it, the buffer before it, and the piece as it left it
module _ {R : Type 0} (calls : Calls R) (start before after : R) (left began turns sum size room : ℕ) (buffer piece : List ℕ) (answer : Result ℕ Error)
    (is_sum : sum ≡ min (left + 1) 18446744073709551615) (is_room : room ≡ min sum size) (some : 0 < size) (kept : length buffer ≡ size)
    (is_piece : length piece ≡ length (take room buffer)) (bound : ReadsAtMost answer piece) (call : calls before piece answer after)
    (come : KeepsComing calls left start began before turns) where
  is_read : (limit : ℕ) (bytes : List ℕ) → limit ≡ length bytes + left
      → IsRead calls limit (record { bytes = bytes; interruptions = turns }) (record { before = before; piece = piece; answer = answer }) after
  is_read limit bytes is =
      let asks = asks_for left sum size room piece buffer is_sum is_room some kept is_piece in
      record { asks = asks.0; bounded = (let most = asks.1 in omega (arith, is, most)); within = most_of answer piece bound; call = call }

  pub at_end : Follows left turns answer End → (limit : ℕ) (first : R) (bytes : List ℕ) → limit ≡ length bytes + left
      → HasCome calls limit first start (record { bytes = bytes; interruptions = began })
      → ComesTo calls limit first after bytes (piece ++ drop room buffer) turns (Ok 0)
  at_end follows limit first bytes is has = (
    λ _. record {
      now = record { bytes = bytes; interruptions = turns };
      read = record { before = before; piece = piece; answer = answer };
      come = come limit first bytes is has;
      is_read = is_read limit bytes is;
      end = ended left turns answer follows;
      is = refl;
    },
    λ more. absurd (omega (arith, more)),
  )

  pub by_bytes : (count : ℕ) → Follows left turns answer (Bytes count) → (limit : ℕ) (first : R) (bytes : List ℕ) → limit ≡ length bytes + left
      → HasCome calls limit first start (record { bytes = bytes; interruptions = began })
      → ComesTo calls limit first after bytes (piece ++ drop room buffer) turns (Ok count)
  by_bytes count follows limit first bytes is has =
      let counted = counts left turns answer count piece bound follows in
      let front : take count (piece ++ drop room buffer) ≡ take count piece = take-append-le count piece (drop room buffer) counted.2 in (
        λ none. absurd (let more = counted.0 in omega (arith, none, more)),
        λ _. rw front
            (one_more calls limit first after _ (record { bytes = bytes; interruptions = turns }) _ (come limit first bytes is has) (is_read limit bytes is)
            (on_by_bytes limit left turns count bytes piece answer is follows)),
      )

  pub by_interruption : (now : ℕ) → Follows left turns answer (Again now) → KeepsComing calls left start began after now
  by_interruption now follows limit first bytes is has =
      one_more calls limit first after _ (record { bytes = bytes; interruptions = turns }) _ (come limit first bytes is has) (is_read limit bytes is)
      (on_by_interruption limit left turns now bytes piece answer follows)

  pub stopped_here : (f : ReadFault) → Follows left turns answer (Stop f) → (limit : ℕ) (first : R) (bytes : List ℕ) → limit ≡ length bytes + left
      → HasCome calls limit first start (record { bytes = bytes; interruptions = began })
      → ComesTo calls limit first after bytes (piece ++ drop room buffer) turns (Err f)
  stopped_here f follows limit first bytes is has =
      let rest : limit - length bytes ≡ left = omega (arith, is) in
      record {
        now = record { bytes = bytes; interruptions = turns };
        read = record { before = before; piece = piece; answer = answer };
        come = come limit first bytes is has;
        is_read = is_read limit bytes is;
        stops = rw rest (stopped_by left turns answer f follows);
      }

-- ---- a reading

given_up : {R : Type 0} (calls : Calls R) (limit : ℕ) (first last : R) (f : ReadFault) → IsCutOff calls limit first last f → IsGivenUp calls limit first last f
given_up calls limit first last TooLong cut = cut
given_up calls limit first last Device cut = cut
given_up calls limit first last TooManyTurns cut = cut
given_up calls limit first last NoMemory cut = absurd (no_memory _ _ cut.read.answer cut.stops)

-- a reading that reads cut off is given up
pub gives_up : {R : Type 0} (calls : Calls R) (limit left : ℕ) (before after : R) (was : TakenSoFar) (buffer : List ℕ) (turns : ℕ) (f : ReadFault)
    → left ≡ limit - was.taken → ((limit : ℕ) (first : R) (bytes : List ℕ) → limit ≡ length bytes + left
    → HasCome calls limit first before (record { bytes = bytes; interruptions = was.interruptions })
    → ComesTo calls limit first after bytes buffer turns (Err f))
    → GivesUp calls limit before was after f
gives_up calls limit left before after was buffer turns f is comes first bytes has =
    let counted = has.taken in let few = has.few in
    given_up calls limit first after f (comes limit first bytes (omega (arith, is, counted, few)) has.come)

-- a piece more, and fewer bytes are left
pub nearer_by_piece : (limit : ℕ) (bytes piece now : List ℕ) → now ≡ bytes ++ piece → 0 < length piece → length (bytes ++ piece) ≤ limit
    → limit - length now < limit - length bytes
nearer_by_piece limit bytes piece now is some few = rw is (omega (arith, length-append bytes piece, some, few))
