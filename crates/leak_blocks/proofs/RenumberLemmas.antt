-- Live blocks that are numbered anew, by their places in the list.
use Rattle.std.proofs.Common.{◌≡◌, ◌∙◌, ℕ, ◌+◌, refl, ap, sym, subst, List, [], ◌∷◌, ◌++◌, length, map, slice_get, Some, arith, append_assoc, length-append}
use Rattle.std.specs.List.{range_with_len}
use Rattle.leak_lemmas.proofs.Ranges.{range-append}
use Rattle.leak_blocks.specs.declared.block.Block.{Block}
use Rattle.leak_blocks.specs.Numbers.{AreNumbersOf, AreNumbered}

pub one_more : (n : ℕ) → range_with_len 0 n ++ n ∷ [] ≡ range_with_len 0 (n + 1)
one_more n = let e : 0 + n ≡ n = omega arith in ap (λ (k : ℕ). range_with_len 0 n ++ k ∷ []) (sym e) ∙ sym (range-append 0 n 1)

abbrev renumbered : ℕ → List Block → List Block
renumbered n [] = []
renumbered n (b ∷ bs) = record { start = b.start; size = b.size; line = n; caller = b.caller } ∷ renumbered (n + 1) bs

at_seam : (xs : List Block) (b : Block) (ys : List Block) → slice_get (xs ++ b ∷ ys) (length xs) ≡ Some b
at_seam [] b ys = refl
at_seam (x ∷ xs) b ys = at_seam xs b ys

stand_from : (before blocks : List Block) (n : ℕ) → n ≡ length before → AreNumbersOf (before ++ blocks) (renumbered n blocks) blocks
stand_from before [] n e = tt
stand_from before (b ∷ bs) n e = (
  record { at = ap (slice_get (before ++ b ∷ bs)) e ∙ at_seam before b bs; start = refl; size = refl },
  subst (λ (l : List Block). AreNumbersOf l (renumbered (n + 1) bs) bs) (append_assoc before (b ∷ []) bs)
      (stand_from (before ++ b ∷ []) bs (n + 1) (omega (arith, e, length-append before (b ∷ [])))),
)

listed_from : (n : ℕ) (blocks : List Block) → range_with_len n (length blocks) ≡ map (λ b. b.line) (renumbered n blocks)
listed_from n [] = refl
listed_from n (b ∷ bs) = ap (λ (ns : List ℕ). n ∷ ns) (listed_from (n + 1) bs)

pub numbered_anew : (blocks : List Block) (numbers : List ℕ) → numbers ≡ range_with_len 0 (length blocks) → AreNumbered blocks numbers blocks
numbered_anew blocks numbers e = record {
  numbered = renumbered 0 blocks;
  stand = stand_from [] blocks 0 refl;
  listed = e ∙ listed_from 0 blocks;
}
