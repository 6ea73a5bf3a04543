-- The callers of a log's lines are ranges of the log, which hold their places.
use Rattle.std.proofs.Common.{◌≡◌, ℕ, ◌+◌, ◌-◌, ◌≤◌, ◌==◌, if◌then◌else◌, inl, inr, refl, sym, subst, ap, ◌∙◌, List, [], ◌∷◌, ◌++◌, take, drop, append_assoc, arith, length, length-append, Bool, true, false, eq-eqb, ne_eqb}
use Rattle.std.proofs.lemmas.List.{take_at, drop_at}
use Rattle.std.specs.List.{AllZip}
use Rattle.leak_mtrace.specs.declared.line.Line.{Line}
use Rattle.leak_mtrace.specs.Line.{IsLine, IsPlaced}
use Rattle.leak_mtrace.specs.Log.{with_places, whole_lines, placed, IsGoodLine, IsLog, IsCallerIn, CallersAreIn, in_range, HasItsPlace}
use Rattle.leak_mtrace.proofs.LineLemmas.{caller_within}
use Rattle.leak_mtrace.proofs.OneLineLemmas.{one_line}
use Rattle.leak_mtrace.proofs.CutLemmas.{joined, cut_of, lines_of_cut}

placed_in : (bytes : List ℕ) (at : ℕ) (y : Line) → y.caller.0 ≤ y.caller.1 → at + y.caller.1 ≤ length bytes → IsCallerIn bytes (placed at y)
placed_in bytes at y order within = go y.caller.0 y.caller.1 order within (y.caller.1 == 0) refl
  where
    go : (a b : ℕ) → a ≤ b → at + b ≤ length bytes → (none : Bool) → (y.caller.1 == 0) ≡ none → IsCallerIn bytes (if none then y else record y { caller = (at + y.caller.0, at + y.caller.1) })
    go a b l h true e = record { order = order; within = omega arith }
    go a b l h false e = record { order = omega arith; within = within }

good_in : (bytes text : List ℕ) (at : ℕ) (x : Line) → IsGoodLine (at, text) x → at + length text ≤ length bytes → IsCallerIn bytes x
good_in bytes text at x g h =
    let y : Line = g.is_line.0 in
    let range : (y.caller.0 ≤ y.caller.1) × (y.caller.1 ≤ length text) = caller_within text y g.is_line.1 in
    subst (IsCallerIn bytes) (sym g.is_line.2) (placed_in bytes at y range.0 (omega arith))

all_in : (bytes : List ℕ) (at : ℕ) (texts : List (List ℕ)) (lines : List Line) → at + length (joined texts) ≤ length bytes → AllZip IsGoodLine (with_places at texts) lines → CallersAreIn bytes lines
all_in bytes at [] [] h z = tt
all_in bytes at [] (x ∷ lines) h z = elim z [ ]
all_in bytes at (text ∷ texts) [] h z = elim z [ ]
all_in bytes at (text ∷ texts) (x ∷ lines) h z =
    let size : length (joined (text ∷ texts)) ≡ length text + (length (joined texts) + 1) = length-append text (10 ∷ joined texts) ∙ omega arith in
    (good_in bytes text at x z.0 (omega arith), all_in bytes (at + length text + 1) texts lines (omega arith) z.1)

pub callers_are_in : (bytes : List ℕ) (lines : List Line) → IsLog bytes lines → CallersAreIn bytes lines
unfolding IsLog
callers_are_in bytes lines h =
    let c = cut_of bytes in
    let size : length bytes ≡ length (joined c.texts) + length c.torn = ap length c.whole ∙ length-append (joined c.texts) c.torn in
    all_in bytes 0 c.texts lines (omega arith) (subst (λ (t : List (List ℕ)). AllZip IsGoodLine (with_places 0 t) lines) (lines_of_cut bytes c) h)

-- ---- what a caller holds

abbrev shifted : ℕ → Bool → Line → Line
shifted at none y = if none then y else record y { caller = (at + y.caller.0, at + y.caller.1) }

no_place : (text : List ℕ) (y : Line) → IsLine text y → y.caller ≡ (0, 0) → (z : Line) → IsPlaced text z → ⊥
unfolding IsLine
no_place text y h e z p = let same : y ≡ z = one_line text y z h (inr (inr p)) in absurd (omega (arith, sym (ap (λ (c : ℕ × ℕ). c.1) e) ∙ ap (λ (l : Line). l.caller.1) same ∙ ap (λ (c : ℕ × ℕ). c.1) p.5))

-- the place follows the '@' and the space
place_in : (bytes front text more : List ℕ) (at : ℕ) (y : Line) → bytes ≡ front ++ (text ++ more) → length front ≡ at → (p : IsPlaced text y) → in_range bytes (at + 2, at + (2 + length p.0)) ≡ p.0
place_in bytes front text more at y w e p =
    let whole : text ++ more ≡ 64 ∷ 32 ∷ (p.0 ++ ((32 ∷ p.1) ++ more)) = ap (λ t. t ++ more) (p.2 ∙ ap (λ t. 64 ∷ 32 ∷ t) (append_assoc p.0 (32 ∷ []) p.1)) ∙ ap (λ t. 64 ∷ 32 ∷ t) (append_assoc p.0 (32 ∷ p.1) more) in
    let cut : bytes ≡ (front ++ 64 ∷ 32 ∷ []) ++ (p.0 ++ ((32 ∷ p.1) ++ more)) = w ∙ ap (λ t. front ++ t) whole ∙ sym (append_assoc front (64 ∷ 32 ∷ []) (p.0 ++ ((32 ∷ p.1) ++ more))) in
    let size : length (front ++ 64 ∷ 32 ∷ []) ≡ at + 2 = length-append front (64 ∷ 32 ∷ []) ∙ omega arith in
    ap (λ t. take (at + (2 + length p.0) - (at + 2)) (drop (at + 2) t)) cut
    ∙ ap (take (at + (2 + length p.0) - (at + 2))) (drop_at (front ++ 64 ∷ 32 ∷ []) (p.0 ++ ((32 ∷ p.1) ++ more)) (at + 2) size)
    ∙ take_at p.0 ((32 ∷ p.1) ++ more) (at + (2 + length p.0) - (at + 2)) (omega arith)

holds : (bytes front text more : List ℕ) (at : ℕ) (y : Line) → bytes ≡ front ++ (text ++ more) → length front ≡ at → IsLine text y → HasItsPlace bytes (at, text) (placed at y)
unfolding IsLine
holds bytes front text more at y w e h = elim h [
  | inl r ↦ none (ap (λ (l : Line). l.caller) r.1)
  | inr m ↦ elim m [ inl p ↦ none p.1 | inr p ↦ some p ]
]
  where
    none : y.caller ≡ (0, 0) → HasItsPlace bytes (at, text) (placed at y)
    none f = inl (ap (λ (b : Bool). (shifted at b y).caller) (eq-eqb _ _ (ap (λ (c : ℕ × ℕ). c.1) f)) ∙ f, no_place text y h f)

    some : IsPlaced text y → HasItsPlace bytes (at, text) (placed at y)
    some p =
        let far : y.caller.1 ≡ 2 + length p.0 = ap (λ (c : ℕ × ℕ). c.1) p.5 in
        let there : (placed at y).caller ≡ (at + 2, at + (2 + length p.0)) =
        ap (λ (b : Bool). (shifted at b y).caller) (ne_eqb y.caller.1 0 (λ z. absurd (omega arith))) ∙ ap (λ (c : ℕ × ℕ). (at + c.0, at + c.1)) p.5 in
        inr (y, p, ap (in_range bytes) there ∙ place_in bytes front text more at y w e p)

good_holds : (bytes front text more : List ℕ) (at : ℕ) (x : Line) → bytes ≡ front ++ (text ++ more) → length front ≡ at → IsGoodLine (at, text) x → HasItsPlace bytes (at, text) x
good_holds bytes front text more at x w e g = subst (HasItsPlace bytes (at, text)) (sym g.is_line.2) (holds bytes front text more at g.is_line.0 w e g.is_line.1)

all_hold : (bytes front : List ℕ) (at : ℕ) (texts : List (List ℕ)) (torn : List ℕ) (lines : List Line) → bytes ≡ front ++ (joined texts ++ torn) → length front ≡ at → AllZip IsGoodLine (with_places at texts) lines → AllZip (HasItsPlace bytes) (with_places at texts) lines
all_hold bytes front at [] torn [] w e z = tt
all_hold bytes front at [] torn (x ∷ lines) w e z = elim z [ ]
all_hold bytes front at (text ∷ texts) torn [] w e z = elim z [ ]
all_hold bytes front at (text ∷ texts) torn (x ∷ lines) w e z =
    let near : bytes ≡ front ++ (text ++ ((10 ∷ joined texts) ++ torn)) = w ∙ ap (λ t. front ++ t) (append_assoc text (10 ∷ joined texts) torn) in
    let next : List ℕ = front ++ (text ++ 10 ∷ []) in
    let later : bytes ≡ next ++ (joined texts ++ torn) =
    near ∙ ap (λ t. front ++ t) (sym (append_assoc text (10 ∷ []) (joined texts ++ torn))) ∙ sym (append_assoc front (text ++ 10 ∷ []) (joined texts ++ torn)) in
    let size : length next ≡ at + length text + 1 = length-append front (text ++ 10 ∷ []) ∙ ap (λ n. length front + n) (length-append text (10 ∷ [])) ∙ omega arith in
    (good_holds bytes front text ((10 ∷ joined texts) ++ torn) at x near e z.0, all_hold bytes next (at + length text + 1) texts torn lines later size z.1)

pub callers_hold_places : (bytes : List ℕ) (lines : List Line) → IsLog bytes lines → AllZip (HasItsPlace bytes) (with_places 0 (whole_lines bytes)) lines
unfolding IsLog
callers_hold_places bytes lines h =
    let c = cut_of bytes in
    let same : whole_lines bytes ≡ c.texts = lines_of_cut bytes c in
    subst (λ (t : List (List ℕ)). AllZip (HasItsPlace bytes) (with_places 0 t) lines) (sym same)
    (all_hold bytes [] 0 c.texts c.torn lines c.whole refl (subst (λ (t : List (List ℕ)). AllZip IsGoodLine (with_places 0 t) lines) same h))
