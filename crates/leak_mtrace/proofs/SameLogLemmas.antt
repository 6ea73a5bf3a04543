-- A log has one reading, and a log that continues another has its lines.
use Rattle.std.proofs.Common.{◌≡◌, ℕ, zero, suc, ◌+◌, ◌<◌, ◌==◌, if◌then◌else◌, IsTrue, refl, sym, subst, ap, ◌∙◌, ⊎_elim, List, [], ◌∷◌, ◌++◌, Some, slice_get, IfSome, arith, length, take, drop, Bool, true, false}
use Rattle.std.proofs.lemmas.Bool.{cases_lt}
use Rattle.std.proofs.lemmas.Bool.Decides.{Decides-eqb}
use Rattle.std.proofs.lemmas.List.{take_all}
use Rattle.std.proofs.lemmas.Slice.Eq.{starts_is}
use Rattle.std.proofs.lemmas.Option.{same_Some}
use Rattle.std.specs.List.{AllZip}
use Rattle.leak_mtrace.specs.declared.line.Line.{Line}
use Rattle.leak_mtrace.specs.declared.error.LogError.{LogError}
use Rattle.leak_mtrace.specs.declared.error.LogError.TheVariants.{BadLine, Extent, NoMemory}
use Rattle.leak_mtrace.specs.Log.{whole_lines, whole_len_of, with_places, placed, IsGoodLine, IsPastEnd, IsLog, IsFaulty, IsFirstFault, is_continued_by}
use Rattle.leak_mtrace.proofs.LogLemmas.{length_places}
use Rattle.leak_mtrace.proofs.OneLineLemmas.{one_line}
use Rattle.leak_mtrace.proofs.CutLemmas.{joined, Cut, cut_of, lines_of_joined, lines_of_cut, bytes_of_cut}

-- ---- two lists, place by place

zip_one : {A B : Type 0} (R : A → B → Type 0) → ((t : A) (x y : B) → R t x → R t y → x ≡ y) → (ts : List A) (xs ys : List B) → AllZip R ts xs → AllZip R ts ys → xs ≡ ys
zip_one R one [] [] [] p q = refl
zip_one R one [] [] (y ∷ ys) p q = elim q [ ]
zip_one R one [] (x ∷ xs) ys p q = elim p [ ]
zip_one R one (t ∷ ts) [] ys p q = elim p [ ]
zip_one R one (t ∷ ts) (x ∷ xs) [] p q = elim q [ ]
zip_one R one (t ∷ ts) (x ∷ xs) (y ∷ ys) p q = ap (λ z. z ∷ xs) (one t x y p.0 q.0) ∙ ap (λ zs. y ∷ zs) (zip_one R one ts xs ys p.1 q.1)

zip_front : {A B : Type 0} (R : A → B → Type 0) (ts us : List A) (xs : List B) → AllZip R (ts ++ us) xs → (front : List B) × (after : List B) × (xs ≡ front ++ after) × AllZip R ts front
zip_front R [] us xs p = ([], xs, refl, tt)
zip_front R (t ∷ ts) us [] p = elim p [ ]
zip_front R (t ∷ ts) us (x ∷ xs) p = let r = zip_front R ts us xs p.1 in (x ∷ r.0, r.1, ap (λ z. x ∷ z) r.2, (p.0, r.3))

-- a place that both lists have
zip_at : {A B : Type 0} (R : A → B → Type 0) (ts : List A) (xs : List B) (n k : ℕ) → AllZip R (take n ts) xs → k < n → (t : A) → slice_get ts k ≡ Some t → (x : B) × R t x
zip_at R [] xs n k p l t e = absurd (let f : ⊥ = cc in f)
zip_at R (u ∷ ts) xs zero k p l t e = absurd (omega arith)
zip_at R (u ∷ ts) [] (suc n) k p l t e = elim p [ ]
zip_at R (u ∷ ts) (x ∷ xs) (suc n) zero p l t e = (x, subst (λ z. R z x) (let f : u ≡ t = cc in f) p.0)
zip_at R (u ∷ ts) (x ∷ xs) (suc n) (suc k) p l t e = zip_at R ts xs n k p.1 (omega arith) t e

some_at : {A : Type 0} (ts : List A) (n : ℕ) → n < length ts → (P : A → Type 0) → IfSome (slice_get ts n) P → (t : A) × (slice_get ts n ≡ Some t) × P t
some_at [] n l P f = absurd (omega arith)
some_at (t ∷ ts) zero l P f = (t, refl, f)
some_at (t ∷ ts) (suc n) l P f = some_at ts n (omega arith) P f

-- ---- one line of a log

good_one : (t : ℕ × List ℕ) (x y : Line) → IsGoodLine t x → IsGoodLine t y → x ≡ y
good_one t x y g h = g.is_line.2 ∙ ap (placed t.0) (one_line t.1 g.is_line.0 h.is_line.0 g.is_line.1 h.is_line.1) ∙ sym h.is_line.2

placed_past_end : (at : ℕ) (y : Line) → IsPastEnd y → IsPastEnd (placed at y)
placed_past_end at y p = go (y.caller.1 == 0)
  where
    go : (none : Bool) → IsPastEnd (if none then y else record y { caller = (at + y.caller.0, at + y.caller.1) })
    go true = p
    go false = p

faulty_not_good : (e : LogError) (number : ℕ) (t : ℕ × List ℕ) (x : Line) → IsFaulty e number t → IsGoodLine t x → ⊥
faulty_not_good (BadLine n) number t x f g = f.1 g.is_line.0 g.is_line.1
faulty_not_good (Extent n) number t x f g =
    g.fits (subst IsPastEnd (sym g.is_line.2) (placed_past_end t.0 g.is_line.0 (subst IsPastEnd (one_line t.1 f.1 g.is_line.0 f.2 g.is_line.1) f.3)))
faulty_not_good NoMemory number t x f g = f

faulty_one : (e f : LogError) (number : ℕ) (t : ℕ × List ℕ) → IsFaulty e number t → IsFaulty f number t → e ≡ f
faulty_one (BadLine m) (BadLine n) number t p q = ap (λ k. BadLine k) (p.0 ∙ sym q.0)
faulty_one (BadLine m) (Extent n) number t p q = absurd (p.1 q.1 q.2)
faulty_one (BadLine m) NoMemory number t p q = absurd q
faulty_one (Extent m) (BadLine n) number t p q = absurd (q.1 p.1 p.2)
faulty_one (Extent m) (Extent n) number t p q = ap (λ k. Extent k) (p.0 ∙ sym q.0)
faulty_one (Extent m) NoMemory number t p q = absurd q
faulty_one NoMemory f number t p q = absurd p

-- ---- whole logs

pub logs_are_one : (bytes : List ℕ) (xs ys : List Line) → IsLog bytes xs → IsLog bytes ys → xs ≡ ys
unfolding IsLog
logs_are_one bytes xs ys h k = zip_one IsGoodLine good_one (with_places 0 (whole_lines bytes)) xs ys h k

-- the line at which a fault was found
faulty_at : (bytes : List ℕ) (e : LogError) (n : ℕ) → IfSome (slice_get (with_places 0 (whole_lines bytes)) n) (IsFaulty e (n + 1)) → n < length (with_places 0 (whole_lines bytes))
    → (t : ℕ × List ℕ) × (slice_get (with_places 0 (whole_lines bytes)) n ≡ Some t) × IsFaulty e (n + 1) t
faulty_at bytes e n f l = some_at (with_places 0 (whole_lines bytes)) n l (IsFaulty e (n + 1)) f

-- a line before the end of the good ones isn't faulty
not_before : (bytes : List ℕ) (e : LogError) (good : List Line) (n m : ℕ) → AllZip IsGoodLine (take m (with_places 0 (whole_lines bytes))) good → n < m
    → (t : ℕ × List ℕ) × (slice_get (with_places 0 (whole_lines bytes)) n ≡ Some t) × IsFaulty e (n + 1) t → ⊥
not_before bytes e good n m z l f = let g = zip_at IsGoodLine (with_places 0 (whole_lines bytes)) good m n z l f.0 f.1 in faulty_not_good e (n + 1) f.0 g.0 f.2 g.1

pub no_fault : (bytes : List ℕ) (lines : List Line) (e : LogError) → IsLog bytes lines → IsFirstFault bytes e → ⊥
unfolding IsLog IsFirstFault
no_fault bytes lines e h f =
    let ts : List (ℕ × List ℕ) = with_places 0 (whole_lines bytes) in
    let size : length ts ≡ length (whole_lines bytes) = length_places 0 (whole_lines bytes) in
    not_before bytes e lines (length f.0) (length ts) (subst (λ (t : List (ℕ × List ℕ)). AllZip IsGoodLine t lines) (sym (take_all (length ts) ts (omega arith))) h) (omega (arith, f.3)) (faulty_at bytes e (length f.0) f.2 (omega (arith, f.3)))

pub first_faults_are_one : (bytes : List ℕ) (e f : LogError) → IsFirstFault bytes e → IsFirstFault bytes f → e ≡ f
unfolding IsFirstFault
first_faults_are_one bytes e f p q =
    let ts : List (ℕ × List ℕ) = with_places 0 (whole_lines bytes) in
    let size : length ts ≡ length (whole_lines bytes) = length_places 0 (whole_lines bytes) in
    let at = faulty_at bytes e (length p.0) p.2 (omega (arith, p.3)) in
    let at' = faulty_at bytes f (length q.0) q.2 (omega (arith, q.3)) in
    let early : length p.0 < length q.0 → ⊥ = λ l. not_before bytes e q.0 (length p.0) (length q.0) q.1 l at in
    let late : length q.0 < length p.0 → ⊥ = λ l. not_before bytes f p.0 (length q.0) (length p.0) p.1 l at' in
    let same : length q.0 ≡ length p.0 = ⊎_elim (λ l. absurd (early l)) (λ g. ⊎_elim (λ l. absurd (late l)) (λ g'. omega arith) (cases_lt (length q.0) (length p.0))) (cases_lt (length p.0) (length q.0)) in
    let there : slice_get ts (length p.0) ≡ Some at'.0 = ap (slice_get ts) (sym same) ∙ at'.1 in
    let t_same : at'.0 ≡ at.0 = same_Some at'.0 at.0 (sym there ∙ at.1) in
    faulty_one e f (length p.0 + 1) at.0 at.2 (subst (λ (n : ℕ). IsFaulty f (n + 1) at.0) same (subst (IsFaulty f (length q.0 + 1)) t_same at'.2))

-- ---- a log that continues another

pub places_of_both : (at : ℕ) (texts more : List (List ℕ)) → (later : List (ℕ × List ℕ)) × (with_places at (texts ++ more) ≡ with_places at texts ++ later)
places_of_both at [] more = (with_places at more, refl)
places_of_both at (text ∷ texts) more = let r = places_of_both (at + length text + 1) texts more in (r.0, ap (λ t. (at, text) ∷ t) r.1)

pub logs_continue : (log1 log2 : List ℕ) (lines1 lines2 : List Line) → IsTrue (is_continued_by log1 log2) → IsLog log1 lines1 → IsLog log2 lines2 → (after : List Line) × (lines2 ≡ lines1 ++ after)
unfolding IsLog
logs_continue log1 log2 lines1 lines2 begins h k =
    let c : Cut log1 = cut_of log1 in
    let front : List ℕ = take (whole_len_of log1) log1 in
    let rest : List ℕ = drop (length front) log2 in
    let whole : log2 ≡ joined c.texts ++ rest = (starts_is Decides-eqb log2 front (is_continued_by log1 log2) refl).0 begins ∙ ap (λ t. t ++ rest) (bytes_of_cut log1 c) in
    let lines : whole_lines log2 ≡ c.texts ++ whole_lines rest = ap whole_lines whole ∙ lines_of_joined c.texts rest c.plain in
    let both = places_of_both 0 c.texts (whole_lines rest) in
    let zipped : AllZip IsGoodLine (with_places 0 c.texts ++ both.0) lines2 = subst (λ (t : List (ℕ × List ℕ)). AllZip IsGoodLine t lines2) (ap (with_places 0) lines ∙ both.1) k in
    let cut = zip_front IsGoodLine (with_places 0 c.texts) both.0 lines2 zipped in
    let one : AllZip IsGoodLine (with_places 0 c.texts) lines1 = subst (λ (t : List (List ℕ)). AllZip IsGoodLine (with_places 0 t) lines1) (lines_of_cut log1 c) h in
    (cut.1, cut.2 ∙ ap (λ t. t ++ cut.1) (zip_one IsGoodLine good_one (with_places 0 c.texts) cut.0 lines1 cut.3 one))
