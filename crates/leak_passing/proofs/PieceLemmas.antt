-- Pieces that are sifted, one after the other.
use Rattle.std.proofs.Common.{◌≡◌, ℕ, ◌+◌, ◌-◌, ◌<◌, ◌≤◌, Bool, false, List, [], ◌++◌, length, sym, subst, arith}
use Rattle.std.proofs.lemmas.List.{append-nil, append_assoc}
use Rattle.std.specs.Prelude.{IsTrue}
use Rattle.leak_sift.specs.Sifted.{Sifted}
use Rattle.leak_sift.proofs.TakenLemmas.{takes_none, takes_both}
use Rattle.leak_streams.specs.Pieces.{TakenSoFar, HasComeTo}
use Rattle.leak_streams.specs.Reads.{Calls}
use Rattle.leak_passing.specs.declared.fault.RestFault.{RestFault}
use Rattle.leak_passing.specs.Rest.{LosesRest}
use Rattle.leak_passing.specs.Sifting.{HasSifted, SiftsPiece, SiftsRest}
use Rattle.leak_passing.proofs.ByteLemmas.{bytes_none, bytes_append}

module _ {R : Type 0} (calls : Calls R) (limit : ℕ) (before : R) (was : TakenSoFar) (state : Sifted) where
  -- no piece yet
  pub none_sifted : (now : TakenSoFar) → now ≡ record was { piece = [] } → HasSifted calls limit before was state before now state []
  none_sifted now is = record {
    come = λ first bytes has. subst (λ (n : TakenSoFar). HasComeTo calls limit first before n (bytes ++ ([] ++ n.piece))) (sym is)
        (subst (λ (l : List ℕ). HasComeTo calls limit first before (record was { piece = [] }) l) (sym (append-nil bytes))
        (record { taken = has.taken; few = has.few; come = has.come }));
    taken = takes_none state;
    bytes = bytes_none;
  }

  module _ (mid : R) (now : TakenSoFar) (middle : Sifted) (more : List ℕ) (so_far : HasSifted calls limit before was state mid now middle more) where
    module _ (after : R) (next : TakenSoFar) (later : Sifted) (is_more : Bool) (sifts : SiftsPiece calls limit mid now middle after next later is_more) where
      -- one piece more
      pub more_sifted : IsTrue is_more → HasSifted calls limit before was state after next later (more ++ now.piece)
      more_sifted true_is = record {
        come = λ first had has. subst (λ (l : List ℕ). HasComeTo calls limit first after next l) (append_assoc had (more ++ now.piece) next.piece)
            (sifts.next true_is first (had ++ (more ++ now.piece)) (so_far.come first had has));
        taken = takes_both state middle later more now.piece so_far.taken sifts.taken;
        bytes = bytes_append more now.piece so_far.bytes sifts.bytes;
      }

      -- and fewer bytes are left
      pub nearer_by_piece : (first : R) (had : List ℕ) → HasComeTo calls limit first before was had → IsTrue is_more → limit - next.taken < limit - now.taken
      nearer_by_piece first had has true_is =
          let come = sifts.next true_is first (had ++ (more ++ now.piece)) (so_far.come first had has) in
          let taken : next.taken ≡ length ((had ++ (more ++ now.piece)) ++ next.piece) = come.taken in
          let few : length ((had ++ (more ++ now.piece)) ++ next.piece) ≤ limit = come.few in
          let counted : next.taken ≡ now.taken + length next.piece = sifts.counted true_is in
          let some : 0 < length next.piece = sifts.some true_is in
          omega (arith, counted, some, taken, few)

      -- no piece is left
      pub all_sifted : is_more ≡ false → SiftsRest calls limit before was state after later (more ++ now.piece)
      all_sifted none = record {
        whole = λ first had has. sifts.end none first (had ++ (more ++ now.piece)) (so_far.come first had has);
        taken = takes_both state middle later more now.piece so_far.taken sifts.taken;
        bytes = bytes_append more now.piece so_far.bytes sifts.bytes;
      }

    -- nothing is kept of the rest
    pub rest_lost : (after : R) (f : RestFault) → LosesRest calls limit mid now after f → LosesRest calls limit before was after f
    rest_lost after f lost first had has = lost first (had ++ (more ++ now.piece)) (so_far.come first had has)
