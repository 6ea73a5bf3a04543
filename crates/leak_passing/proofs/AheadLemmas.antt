-- A reading that has a piece to be sifted.
use Rattle.std.proofs.Common.{◌≡◌, ℕ, zero, suc, ◌+◌, ◌<◌, ◌≤◌, false, nat_lt, List, length, take, refl, sym, ap, subst, arith}
use Rattle.std.proofs.lemmas.List.{length-take-le}
use Rattle.std.specs.Prelude.{IsTrue, Result, Ok, Err, IfOk, IfErr}
use Rattle.leak_blocks.proofs.OrderLemmas.{less_of, not_less_of}
use Rattle.leak_sift.specs.Sifted.{Sifted, Takes}
use Rattle.leak_streams.specs.declared.fault.ReadFault.{ReadFault}
use Rattle.leak_streams.specs.Pieces.{TakenSoFar, HasComeTo, TakesPiece, FindsEnd, GivesUp}
use Rattle.leak_streams.specs.Reads.{Calls}
use Rattle.leak_alike.specs.SiftedCores.{AreBytes}
use Rattle.leak_streams.specs.declared.fault.ReadFault.TheVariants.{NoMemory}
use Rattle.leak_passing.specs.declared.fault.RestFault.{RestFault}
use Rattle.leak_passing.specs.declared.fault.RestFault.TheVariants.{Read, Short}
use Rattle.leak_passing.specs.Rest.{LosesRest}
use Rattle.leak_passing.specs.Sifting.{ReadsInto, SiftsPiece}

positive : (n : ℕ) → IsTrue (nat_lt 0 n) → 0 < n
positive n more = less_of 0 n more

none : (n : ℕ) → nat_lt 0 n ≡ false → n ≡ 0
none n end = let least = not_less_of 0 n end in omega (arith, least)

module _ {R : Type 0} (calls : Calls R) (limit : ℕ) (before after : R) (was reading : TakenSoFar) (piece : List ℕ) (view_is : was ≡ record reading { piece = piece }) where
  -- what a reading has come to does not depend on its piece
  aside : (first : R) (bytes : List ℕ) → HasComeTo calls limit first before was bytes → HasComeTo calls limit first before reading bytes
  aside first bytes has =
      let here : HasComeTo calls limit first before (record reading { piece = piece }) bytes =
      subst (λ (n : TakenSoFar). HasComeTo calls limit first before n bytes) view_is has in
      record { taken = here.taken; few = here.few; come = here.come }

  -- it is given up,
  pub lost : (f : ReadFault) → GivesUp calls limit before reading after f → LosesRest calls limit before was after (Read f)
  lost f up first bytes has = up first bytes (aside first bytes has)

  -- or the piece is sifted, and so many bytes are read into a buffer
  pub sifts_piece : (state later : Sifted) (now : TakenSoFar) (count : ℕ) (buffer : List ℕ) → Takes state piece later → AreBytes piece
      → (0 < count → TakesPiece calls limit before reading after (record now { piece = take count buffer }))
      → (count ≡ 0 → FindsEnd calls limit before reading after) → now.taken ≡ reading.taken + count → count ≤ length buffer
      → SiftsPiece calls limit before was state after (record now { piece = take count buffer }) later (nat_lt 0 count)
  sifts_piece state later now count buffer taken bytes more end counted within =
      let len : length (take count buffer) ≡ count = length-take-le count buffer within in
      let had : was.taken ≡ reading.taken = ap (λ (n : TakenSoFar). n.taken) view_is in
      record {
        taken = subst (λ (n : TakenSoFar). Takes state n.piece later) (sym view_is) taken;
        bytes = subst (λ (n : TakenSoFar). AreBytes n.piece) (sym view_is) bytes;
        next = λ is_more first bytes has. more (positive count is_more) first bytes (aside first bytes has);
        some = λ is_more. let some = positive count is_more in omega (arith, len, some);
        counted = λ is_more. omega (arith, len, had, counted);
        end = λ is_none first bytes has. end (none count is_none) first bytes (aside first bytes has);
      }

  module _ (now : TakenSoFar) (buffer : List ℕ) (answer : Result ℕ ReadFault) (reads : ReadsInto calls limit before reading after now buffer answer) where
    -- the read that was made meanwhile is given up,
    pub lost_beside : (f : ReadFault) → answer ≡ Err f → LosesRest calls limit before was after (Read f)
    lost_beside f is = lost f (subst (λ (a : Result ℕ ReadFault). IfErr a (GivesUp calls limit before reading after)) is reads.refused)

    -- or it gave so many bytes: if there is no memory for what is kept, the core has ended, or the reading is given up,
    pub short : (count : ℕ) (f : RestFault) → answer ≡ Ok count → (count ≡ 0 → f ≡ Short) → (0 < count → f ≡ Read NoMemory)
        → LosesRest calls limit before was after f
    short zero f is end more first bytes has = rw (end refl)
        (bytes, subst (λ (a : Result ℕ ReadFault). IfOk a (λ count. count ≡ 0 → FindsEnd calls limit before reading after)) is reads.end refl first bytes (aside first bytes has))
    short (suc n) f is end more first bytes has =
        let some : 0 < suc n = omega arith in
        let come = subst (λ (a : Result ℕ ReadFault). IfOk a (λ count. 0 < count → TakesPiece calls limit before reading after (record now { piece = take count buffer }))) is reads.more some first bytes (aside first bytes has) in
        rw (more some) (_, come.come)

    -- or the piece was sifted
    pub sifts_beside : (state later : Sifted) (count : ℕ) → answer ≡ Ok count → Takes state piece later → AreBytes piece
        → SiftsPiece calls limit before was state after (record now { piece = take count buffer }) later (nat_lt 0 count)
    sifts_beside state later count is taken bytes =
        let here : ReadsInto calls limit before reading after now buffer (Ok count) = subst (λ (a : Result ℕ ReadFault). ReadsInto calls limit before reading after now buffer a) is reads in
        sifts_piece state later now count buffer taken bytes here.more here.end here.taken here.within
