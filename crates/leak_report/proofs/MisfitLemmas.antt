-- The misfits among the first blocks, and how many there are.
use Rattle.std.proofs.Common.{suc, zero, add-one, zero-add, ◌≡◌, ℕ, ◌+◌, ◌<◌, Bool, true, false, not, cond, List, [], ◌∷◌, ◌++◌, length, take, get_or, flat_map, Option, None, Some, IfSome, option_copied, refl, ap, sym, ◌∙◌, append_assoc, arith}
use denote.Ref.{Bor}
use Rattle.std.specs.List.{count_by}
use Rattle.std.proofs.lemmas.List.{append-nil}
use Rattle.std.proofs.lemmas.List.Concat.{flat_map-append}
use Rattle.std.proofs.lemmas.List.Sums.{sum_by-cons}
use Rattle.leak_blocks.specs.declared.block.Block.{Block}
use Rattle.leak_report.specs.Misfits.{misfits_in, misfit_sums, number_line}

-- one more block that doesn't fit
misfits_push : (fits : List Bool) (blocks : List Block) (i : ℕ) (d : Bool) (b : Block) → i < length fits → i < length blocks → get_or fits i d ≡ false
    → misfits_in (take (suc i) fits) (take (suc i) blocks) ≡ misfits_in (take i fits) (take i blocks) ++ get_or blocks i b ∷ []
misfits_push [] blocks i d b p q is = absurd (omega arith)
misfits_push (f ∷ fits) [] i d b p q is = absurd (omega arith)
misfits_push (true ∷ fits) (x ∷ blocks) zero d b p q is = cc
misfits_push (false ∷ fits) (x ∷ blocks) zero d b p q is = refl
misfits_push (true ∷ fits) (x ∷ blocks) (suc i) d b p q is = misfits_push fits blocks i d b (omega arith) (omega arith) is
misfits_push (false ∷ fits) (x ∷ blocks) (suc i) d b p q is = ap (λ bs. x ∷ bs) (misfits_push fits blocks i d b (omega arith) (omega arith) is)

-- one more that does
misfits_stay : (fits : List Bool) (blocks : List Block) (i : ℕ) (d : Bool) → i < length fits → i < length blocks → get_or fits i d ≡ true
    → misfits_in (take (suc i) fits) (take (suc i) blocks) ≡ misfits_in (take i fits) (take i blocks)
misfits_stay [] blocks i d p q is = absurd (omega arith)
misfits_stay (f ∷ fits) [] i d p q is = absurd (omega arith)
misfits_stay (false ∷ fits) (x ∷ blocks) zero d p q is = cc
misfits_stay (true ∷ fits) (x ∷ blocks) zero d p q is = refl
misfits_stay (true ∷ fits) (x ∷ blocks) (suc i) d p q is = misfits_stay fits blocks i d (omega arith) (omega arith) is
misfits_stay (false ∷ fits) (x ∷ blocks) (suc i) d p q is = ap (λ bs. x ∷ bs) (misfits_stay fits blocks i d (omega arith) (omega arith) is)

-- the line of one more
pub misfit_more : (line : Block → List ℕ) (fits : List Bool) (blocks : List Block) (i : ℕ) (d : Bool) (b : Block) (first : List ℕ)
    → i < length fits → i < length blocks → get_or fits i d ≡ false
    → (first ++ flat_map line (misfits_in (take i fits) (take i blocks))) ++ line (get_or blocks i b)
    ≡ first ++ flat_map line (misfits_in (take (i + 1) fits) (take (i + 1) blocks))
misfit_more line fits blocks i d b first p q is =
    let before : List Block = misfits_in (take i fits) (take i blocks) in
    append_assoc first (flat_map line before) (line (get_or blocks i b))
    ∙ ap (λ t. first ++ (flat_map line before ++ t)) (sym (append-nil (line (get_or blocks i b))))
    ∙ ap (λ t. first ++ t) (sym (flat_map-append line before (get_or blocks i b ∷ [])))
    ∙ ap (λ bs. first ++ flat_map line bs) (sym (misfits_push fits blocks i d b p q is) ∙ ap (λ n. misfits_in (take n fits) (take n blocks)) (sym (add-one i)))

pub misfit_none : (line : Block → List ℕ) (fits : List Bool) (blocks : List Block) (i : ℕ) (d : Bool) (first : List ℕ)
    → i < length fits → i < length blocks → get_or fits i d ≡ true
    → first ++ flat_map line (misfits_in (take i fits) (take i blocks)) ≡ first ++ flat_map line (misfits_in (take (i + 1) fits) (take (i + 1) blocks))
misfit_none line fits blocks i d first p q is =
    ap (λ bs. first ++ flat_map line bs) (sym (misfits_stay fits blocks i d p q is) ∙ ap (λ n. misfits_in (take n fits) (take n blocks)) (sym (add-one i)))

-- they are as many as the entries that say so
pub length-misfits : (fits : List Bool) (blocks : List Block) → length fits ≡ length blocks → length (misfits_in fits blocks) ≡ count_by not fits
length-misfits [] blocks same = refl
length-misfits (f ∷ fits) [] same = absurd (omega arith)
length-misfits (true ∷ fits) (b ∷ blocks) same =
    let rest = length-misfits fits blocks (omega (arith, same)) in
    let one = sum_by-cons (λ (x : Bool). cond (not x) 1 0) true fits in
    rw (one, rest) (sym (zero-add (count_by not fits)))
length-misfits (false ∷ fits) (b ∷ blocks) same =
    let rest = length-misfits fits blocks (omega (arith, same)) in
    let one = sum_by-cons (λ (x : Bool). cond (not x) 1 0) false fits in
    rw (one, ← rest) (omega arith)

-- their number is told by the entries alone
pub misfit_sums-same : (fits : Option (Bor (List Bool))) (bs cs : List Block) → length bs ≡ length cs → IfSome fits (λ f. length f.now ≡ length bs)
    → misfit_sums (option_copied fits) bs ≡ misfit_sums (option_copied fits) cs
misfit_sums-same None bs cs same each = refl
misfit_sums-same (Some f) bs cs same each = ap number_line (length-misfits f.now bs each ∙ sym (length-misfits f.now cs (each ∙ same)))
