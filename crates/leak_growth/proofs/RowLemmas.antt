-- Rows, put together text by text.
use Rattle.std.proofs.Common.{◌≡◌, ℕ, ◌+◌, ◌<◌, suc, zero, Bool, true, false, List, [], ◌∷◌, ◌++◌, length, take, get_or, filter, refl, sym, ap, ◌∙◌, arith, add-one}
use denote.Ref.{Bor}
use Rattle.leak_report.proofs.Leaks.{filter-push_yes, filter-push_no}
use Rattle.leak_growth.specs.declared.rows.Row.{Row}
use Rattle.leak_growth.specs.declared.summing.Sizes.{Sizes}
use Rattle.leak_growth.specs.Rows.{rows_with, is_changed}

abbrev pub row_at : List (Bor (List ℕ)) → List Sizes → List Sizes → List Sizes → ℕ → Bor (List ℕ) → Sizes → Row
row_at ts xs bs cs i t s = record { text = get_or ts i t; earlier = get_or xs i s; later = get_or bs i s; new = get_or cs i s }

rows_push : (ts : List (Bor (List ℕ))) (xs bs cs : List Sizes) (i : ℕ) (t : Bor (List ℕ)) (s : Sizes) → i < length ts → i < length xs → i < length bs → i < length cs
    → rows_with (take (suc i) ts) (take (suc i) xs) (take (suc i) bs) (take (suc i) cs) ≡ rows_with (take i ts) (take i xs) (take i bs) (take i cs) ++ row_at ts xs bs cs i t s ∷ []
rows_push [] xs bs cs i t s h p q r = absurd (omega arith)
rows_push (x ∷ ts) [] bs cs i t s h p q r = absurd (omega arith)
rows_push (x ∷ ts) (a ∷ xs) [] cs i t s h p q r = absurd (omega arith)
rows_push (x ∷ ts) (a ∷ xs) (b ∷ bs) [] i t s h p q r = absurd (omega arith)
rows_push (x ∷ ts) (a ∷ xs) (b ∷ bs) (c ∷ cs) zero t s h p q r = refl
rows_push (x ∷ ts) (a ∷ xs) (b ∷ bs) (c ∷ cs) (suc i) t s h p q r =
    let row : Row = record { text = x; earlier = a; later = b; new = c } in
    ap (λ (rows : List Row). row ∷ rows) (rows_push ts xs bs cs i t s (omega arith) (omega arith) (omega arith) (omega arith))

pub rows_more : (ts : List (Bor (List ℕ))) (xs bs cs : List Sizes) (i : ℕ) (t : Bor (List ℕ)) (s : Sizes) → i < length ts → i < length xs → i < length bs → i < length cs
    → rows_with (take (i + 1) ts) (take (i + 1) xs) (take (i + 1) bs) (take (i + 1) cs) ≡ rows_with (take i ts) (take i xs) (take i bs) (take i cs) ++ row_at ts xs bs cs i t s ∷ []
rows_more ts xs bs cs i t s h p q r = ap (λ n. rows_with (take n ts) (take n xs) (take n bs) (take n cs)) (add-one i) ∙ rows_push ts xs bs cs i t s h p q r

-- a row that changed, and one that didn't
pub changed_more : (ts : List (Bor (List ℕ))) (xs bs cs : List Sizes) (i : ℕ) (t : Bor (List ℕ)) (s : Sizes) → i < length ts → i < length xs → i < length bs → i < length cs
    → is_changed (row_at ts xs bs cs i t s) ≡ true
    → filter is_changed (rows_with (take (i + 1) ts) (take (i + 1) xs) (take (i + 1) bs) (take (i + 1) cs))
    ≡ filter is_changed (rows_with (take i ts) (take i xs) (take i bs) (take i cs)) ++ row_at ts xs bs cs i t s ∷ []
changed_more ts xs bs cs i t s h p q r is =
    ap (filter is_changed) (rows_more ts xs bs cs i t s h p q r) ∙ filter-push_yes is_changed (rows_with (take i ts) (take i xs) (take i bs) (take i cs)) (row_at ts xs bs cs i t s) is

pub same_more : (ts : List (Bor (List ℕ))) (xs bs cs : List Sizes) (i : ℕ) (t : Bor (List ℕ)) (s : Sizes) → i < length ts → i < length xs → i < length bs → i < length cs
    → is_changed (row_at ts xs bs cs i t s) ≡ false
    → filter is_changed (rows_with (take (i + 1) ts) (take (i + 1) xs) (take (i + 1) bs) (take (i + 1) cs))
    ≡ filter is_changed (rows_with (take i ts) (take i xs) (take i bs) (take i cs))
same_more ts xs bs cs i t s h p q r is =
    ap (filter is_changed) (rows_more ts xs bs cs i t s h p q r) ∙ filter-push_no is_changed (rows_with (take i ts) (take i xs) (take i bs) (take i cs)) (row_at ts xs bs cs i t s) is
