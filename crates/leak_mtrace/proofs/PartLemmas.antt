-- A log that begins with complete lines has these, and then those of what follows, moved.
use Rattle.std.proofs.Common.{◌≡◌, ℕ, zero, suc, ◌+◌, ◌-◌, ◌<◌, ◌≤◌, ◌==◌, if◌then◌else◌, refl, sym, subst, ap, ◌∙◌, ⊎_elim, List, [], ◌∷◌, ◌++◌, Option, Some, None, slice_get, IfSome, arith, length, get_or, take, drop, map, append_assoc, append-nil, length-append, Bool, true, false, ne_eqb}
use Rattle.std.proofs.lemmas.Bool.{cases_lt, eqb-false, eqb-true}
use Rattle.std.proofs.lemmas.List.{append_cancel_right, get_or-append_right, get_or-take, length-map, length-take-le, nil_from_length, take-append-drop, take-append-le, take-map}
use Rattle.std.proofs.lemmas.Option.{slice_get-map}
use Rattle.std.proofs.lemmas.Slice.Zip.{AllZip-long}
use Rattle.std.proofs.Math.Seq.{take-append-add}
use Rattle.std.specs.List.{AllZip, AllByRecursion}
use Rattle.std.specs.Option.{option_map}
use Rattle.leak_lemmas.proofs.Members.{each_append}
use Rattle.leak_mtrace.specs.declared.line.Line.{Line}
use Rattle.leak_mtrace.specs.declared.error.LogError.{LogError}
use Rattle.leak_mtrace.specs.declared.error.LogError.TheVariants.{BadLine, Extent, NoMemory}
use Rattle.leak_mtrace.specs.Log.{whole_lines, whole_len_of, torn_of, with_places, placed, IsGoodLine, IsPastEnd, LinesFit, IsLog, IsFaulty, IsFirstFault, IsCallerIn, CallersAreIn}
use Rattle.leak_mtrace.specs.Parts.{AreLinesOf, moved, later_fault, IsCallerBehind}
use Rattle.leak_mtrace.specs.Reading.{Reading, HasRead}
use Rattle.leak_mtrace.proofs.LogLemmas.{length_places}
use Rattle.leak_mtrace.proofs.CutLemmas.{HasNoFeed, joined, Cut, cut_of, lines_of_joined, lines_of_cut, len_of_cut, torn_of_cut}
use Rattle.leak_mtrace.proofs.CallerLemmas.{callers_are_in}
use Rattle.leak_mtrace.proofs.FitLemmas.{lines_fit}
use Rattle.leak_mtrace.proofs.SameLogLemmas.{places_of_both}

-- ---- two parts as one log

joined_both : (texts more : List (List ℕ)) → joined (texts ++ more) ≡ joined texts ++ joined more
joined_both [] more = refl
joined_both (text ∷ texts) more = ap (λ t. text ++ 10 ∷ t) (joined_both texts more) ∙ sym (append_assoc text (10 ∷ joined texts) (joined more))

-- complete lines have no torn piece
front_whole : (a : List ℕ) (c : Cut a) → whole_len_of a ≡ length a → a ≡ joined c.texts
front_whole a c e =
    let size : length a ≡ length (joined c.texts) + length c.torn = ap length c.whole ∙ length-append (joined c.texts) c.torn in
    c.whole ∙ ap (λ t. joined c.texts ++ t) (nil_from_length c.torn (omega (arith, len_of_cut a c))) ∙ append-nil (joined c.texts)

abbrev cut_both : (a b : List ℕ) (c : Cut a) (d : Cut b) → a ≡ joined c.texts → Cut (a ++ b)
cut_both a b c d e = record {
  texts = c.texts ++ d.texts;
  torn = d.torn;
  whole = ap (λ t. t ++ b) e ∙ ap (λ t. joined c.texts ++ t) d.whole ∙ sym (append_assoc (joined c.texts) (joined d.texts) d.torn) ∙ ap (λ t. t ++ d.torn) (sym (joined_both c.texts d.texts));
  plain = each_append HasNoFeed c.texts d.texts c.plain d.plain;
  rest = d.rest;
}

pub whole_len_joins : (a b : List ℕ) → whole_len_of a ≡ length a → whole_len_of (a ++ b) ≡ length a + whole_len_of b
whole_len_joins a b e =
    let c : Cut a = cut_of a in
    let d : Cut b = cut_of b in
    let f : a ≡ joined c.texts = front_whole a c e in
    let both : length (joined (c.texts ++ d.texts)) ≡ length (joined c.texts) + length (joined d.texts) = ap length (joined_both c.texts d.texts) ∙ length-append (joined c.texts) (joined d.texts) in
    len_of_cut (a ++ b) (cut_both a b c d f) ∙ both ∙ ap (λ n. n + length (joined d.texts)) (sym (ap length f)) ∙ ap (λ n. length a + n) (sym (len_of_cut b d))

pub torn_joins : (a b : List ℕ) → whole_len_of a ≡ length a → torn_of (a ++ b) ≡ torn_of b
torn_joins a b e =
    let c : Cut a = cut_of a in
    let d : Cut b = cut_of b in
    ap (λ n. if n == 0 then 0 else 1) (torn_of_cut (a ++ b) (cut_both a b c d (front_whole a c e)) ∙ sym (torn_of_cut b d))

-- ---- places

places_both : (at : ℕ) (texts more : List (List ℕ)) → with_places at (texts ++ more) ≡ with_places at texts ++ with_places (at + length (joined texts)) more
places_both at [] more = ap (λ p. with_places p more) (let h : at ≡ at + 0 = omega arith in h)
places_both at (text ∷ texts) more =
    let size : length (joined (text ∷ texts)) ≡ length text + (length (joined texts) + 1) = length-append text (10 ∷ joined texts) ∙ omega arith in
    let next : at + length text + 1 + length (joined texts) ≡ at + length (joined (text ∷ texts)) = omega arith in
    ap (λ t. (at, text) ∷ t) (places_both (at + length text + 1) texts more) ∙ ap (λ p. (at, text) ∷ (with_places (at + length text + 1) texts ++ with_places p more)) next

places_behind : (a b : List ℕ) → whole_len_of a ≡ length a → with_places 0 (whole_lines (a ++ b)) ≡ with_places 0 (whole_lines a) ++ with_places (length a) (whole_lines b)
places_behind a b e =
    let c : Cut a = cut_of a in
    let f : a ≡ joined c.texts = front_whole a c e in
    let size : length a ≡ length (joined c.texts) = ap length f in
    ap (λ t. with_places 0 (whole_lines (t ++ b))) f ∙ ap (with_places 0) (lines_of_joined c.texts b c.plain) ∙ places_both 0 c.texts (whole_lines b)
    ∙ ap (λ p. with_places 0 c.texts ++ with_places p (whole_lines b)) (let h : 0 + length (joined c.texts) ≡ length a = omega arith in h)
    ∙ ap (λ t. with_places 0 t ++ with_places (length a) (whole_lines b)) (sym (lines_of_cut a c))

-- the line with so many bytes more before it
abbrev shifted : ℕ → ℕ × List ℕ → ℕ × List ℕ
shifted n t = (n + t.0, t.1)

places_shifted : (n at : ℕ) (texts : List (List ℕ)) → with_places (n + at) texts ≡ map (shifted n) (with_places at texts)
places_shifted n at [] = refl
places_shifted n at (text ∷ texts) =
    ap (λ p. (n + at, text) ∷ with_places p texts) (let h : n + at + length text + 1 ≡ n + (at + length text + 1) = omega arith in h)
    ∙ ap (λ t. (n + at, text) ∷ t) (places_shifted n (at + length text + 1) texts)

places_joined : (a b : List ℕ) → whole_len_of a ≡ length a → with_places 0 (whole_lines (a ++ b)) ≡ with_places 0 (whole_lines a) ++ map (shifted (length a)) (with_places 0 (whole_lines b))
places_joined a b e =
    places_behind a b e ∙ ap (λ p. with_places 0 (whole_lines a) ++ with_places p (whole_lines b)) (let h : length a ≡ length a + 0 = omega arith in h)
    ∙ ap (λ t. with_places 0 (whole_lines a) ++ t) (places_shifted (length a) 0 (whole_lines b))

-- ---- lines, moved

abbrev placed_if : ℕ → Bool → Line → Line
placed_if at none y = if none then y else record y { caller = (at + y.caller.0, at + y.caller.1) }

placed_twice : (n at : ℕ) (y : Line) → placed n (placed at y) ≡ placed (n + at) y
placed_twice n at y = go (y.caller.1 == 0) refl
  where
    go : (none : Bool) → (y.caller.1 == 0) ≡ none → placed n (placed_if at none y) ≡ placed_if (n + at) none y
    go true e = ap (λ (b : Bool). placed_if n b y) e
    go false e =
        let some : (at + y.caller.1 == 0) ≡ false = ne_eqb (at + y.caller.1) 0 (λ z. eqb-false y.caller.1 0 e (omega arith)) in
        let low : n + (at + y.caller.0) ≡ n + at + y.caller.0 = omega arith in
        let high : n + (at + y.caller.1) ≡ n + at + y.caller.1 = omega arith in
        ap (λ (b : Bool). placed_if n b (placed_if at false y)) some ∙ ap (λ (k : ℕ). record y { caller = (k, n + (at + y.caller.1)) }) low ∙ ap (λ (k : ℕ). record y { caller = (n + at + y.caller.0, k) }) high

pub placed_fits : (n : ℕ) (x : Line) → (IsPastEnd x → ⊥) → (IsPastEnd (placed n x) → ⊥)
placed_fits n x f = go (x.caller.1 == 0)
  where
    go : (none : Bool) → IsPastEnd (placed_if n none x) → ⊥
    go true = f
    go false = f

good_moved : (n : ℕ) (t : ℕ × List ℕ) (x : Line) → IsGoodLine t x → IsGoodLine (shifted n t) (placed n x)
good_moved n t x g = record {
  is_line = (g.is_line.0, g.is_line.1, ap (placed n) g.is_line.2 ∙ placed_twice n t.0 g.is_line.0);
  fits = placed_fits n x g.fits;
}

all_moved : (n : ℕ) (ts : List (ℕ × List ℕ)) (xs : List Line) → AllZip IsGoodLine ts xs → AllZip IsGoodLine (map (shifted n) ts) (moved n xs)
all_moved n [] [] z = tt
all_moved n [] (x ∷ xs) z = elim z [ ]
all_moved n (t ∷ ts) [] z = elim z [ ]
all_moved n (t ∷ ts) (x ∷ xs) z = (good_moved n t x z.0, all_moved n ts xs z.1)

zip_both : {A B : Type 0} (R : A → B → Type 0) (ts us : List A) (xs ys : List B) → AllZip R ts xs → AllZip R us ys → AllZip R (ts ++ us) (xs ++ ys)
zip_both R [] us [] ys p q = q
zip_both R [] us (x ∷ xs) ys p q = elim p [ ]
zip_both R (t ∷ ts) us [] ys p q = elim p [ ]
zip_both R (t ∷ ts) us (x ∷ xs) ys p q = (p.0, zip_both R ts us xs ys p.1 q)

-- ---- complete lines, and the log behind them

pub no_lines : AreLinesOf [] []
unfolding IsLog
no_lines = record { whole = refl; is_log = tt }

pub log_joins : (a b : List ℕ) (xs ys : List Line) → AreLinesOf a xs → IsLog b ys → IsLog (a ++ b) (xs ++ moved (length a) ys)
unfolding IsLog
log_joins a b xs ys h k =
    subst (λ (t : List (ℕ × List ℕ)). AllZip IsGoodLine t (xs ++ moved (length a) ys)) (sym (places_joined a b h.whole))
    (zip_both IsGoodLine (with_places 0 (whole_lines a)) (map (shifted (length a)) (with_places 0 (whole_lines b))) xs (moved (length a) ys) h.is_log (all_moved (length a) (with_places 0 (whole_lines b)) ys k))

pub lines_join : (a b : List ℕ) (xs ys : List Line) → AreLinesOf a xs → AreLinesOf b ys → AreLinesOf (a ++ b) (xs ++ moved (length a) ys)
lines_join a b xs ys h k = record {
  whole = whole_len_joins a b h.whole ∙ ap (λ n. length a + n) k.whole ∙ sym (length-append a b);
  is_log = log_joins a b xs ys h k.is_log;
}

-- a log with no complete line
none_whole : (rest : List ℕ) → whole_len_of rest ≡ 0 → whole_lines rest ≡ []
none_whole rest e = go (cut_of rest).texts (lines_of_cut rest (cut_of rest)) (len_of_cut rest (cut_of rest))
  where
    go : (texts : List (List ℕ)) → whole_lines rest ≡ texts → whole_len_of rest ≡ length (joined texts) → whole_lines rest ≡ []
    go [] same size = same
    go (text ∷ texts) same size = let long : length (joined (text ∷ texts)) ≡ length text + (length (joined texts) + 1) = length-append text (10 ∷ joined texts) ∙ omega arith in absurd (omega arith)

pub log_ends : (a rest : List ℕ) (xs : List Line) → AreLinesOf a xs → whole_len_of rest ≡ 0 → IsLog (a ++ rest) xs
unfolding IsLog
log_ends a rest xs h e =
    let none : IsLog rest [] = subst (λ (t : List (List ℕ)). AllZip IsGoodLine (with_places 0 t) []) (sym (none_whole rest e)) tt in
    subst (λ (t : List Line). IsLog (a ++ rest) t) (append-nil xs) (log_joins a rest xs [] h none)

-- ---- the lines that were read so far

-- the place where a line begins has no torn piece before it
no_torn : (bytes : List ℕ) (start : ℕ) (c : Cut (take start bytes)) → start ≤ length bytes → (0 < start → get_or bytes (start - 1) 0 ≡ 10) → length c.torn ≡ 0
no_torn bytes start c within edge = ⊎_elim (λ l. absurd (torn l)) (λ g. omega arith) (cases_lt 0 (length c.torn))
  where
    torn : 0 < length c.torn → ⊥
    torn l =
        let a : List ℕ = take start bytes in
        let front : ℕ = length (joined c.texts) in
        let long : length a ≡ start = length-take-le start bytes within in
        let size : length a ≡ front + length c.torn = ap length c.whole ∙ length-append (joined c.texts) c.torn in
        let feed : get_or a (start - 1) 0 ≡ 10 = get_or-take start bytes (start - 1) 0 (omega arith) ∙ edge (omega arith) in
        let last : get_or a (start - 1) 0 ≡ get_or c.torn (start - 1 - front) 0 = ap (λ t. get_or t (start - 1) 0) c.whole ∙ get_or-append_right (joined c.texts) c.torn front (start - 1) 0 refl (omega arith) in
        eqb-false (get_or c.torn (start - 1 - front) 0) 10 (c.rest (start - 1 - front) 0 (omega arith)) (sym last ∙ feed)

pub lines_so_far : (r : Reading) (lines : List Line) → HasRead r lines → AreLinesOf (take r.start r.bytes) lines
unfolding IsLog
lines_so_far r lines h =
    let a : List ℕ = take r.start r.bytes in
    let rest : List ℕ = drop r.start r.bytes in
    let c : Cut a = cut_of a in
    let long : length a ≡ r.start = length-take-le r.start r.bytes h.before.within in
    let size : length a ≡ length (joined c.texts) + length c.torn = ap length c.whole ∙ length-append (joined c.texts) c.torn in
    let whole : whole_len_of a ≡ length a = omega (arith, len_of_cut a c, no_torn r.bytes r.start c h.before.within h.before.edge) in
    let all : with_places 0 (whole_lines r.bytes) ≡ with_places 0 (whole_lines a) ++ with_places r.start (whole_lines rest) =
    ap (λ t. with_places 0 (whole_lines t)) (sym (take-append-drop r.start r.bytes)) ∙ places_behind a rest whole ∙ ap (λ p. with_places 0 (whole_lines a) ++ with_places p (whole_lines rest)) long in
    let done : h.before.done ≡ with_places 0 (whole_lines a) = append_cancel_right h.before.done (with_places 0 (whole_lines a)) (with_places r.start (whole_lines rest)) (sym h.before.whole ∙ all) in
    record { whole = whole; is_log = subst (λ (t : List (ℕ × List ℕ)). AllZip IsGoodLine t lines) done h.before.good }

-- ---- the first fault

get_front : {A : Type 0} (xs ys : List A) (n : ℕ) → n < length xs → slice_get (xs ++ ys) n ≡ slice_get xs n
get_front [] ys n l = absurd (omega arith)
get_front (x ∷ xs) ys zero l = refl
get_front (x ∷ xs) ys (suc n) l = get_front xs ys n (omega arith)

get_behind : {A : Type 0} (xs ys : List A) (n k : ℕ) → n ≡ length xs + k → slice_get (xs ++ ys) n ≡ slice_get ys k
get_behind [] ys n k e = ap (slice_get ys) (let f : n ≡ k = omega arith in f)
get_behind (x ∷ xs) ys zero k e = absurd (omega arith)
get_behind (x ∷ xs) ys (suc n) k e = get_behind xs ys n k (omega arith)

later_faulty : (e : LogError) (m n number later : ℕ) (t : ℕ × List ℕ) → later ≡ m + number → IsFaulty e number t → IsFaulty (later_fault m e) later (shifted n t)
later_faulty (BadLine k) m n number later t same f = (let same_k : k ≡ number = f.0 in omega arith, f.1)
later_faulty (Extent k) m n number later t same f = (let same_k : k ≡ number = f.0 in omega arith, f.1, f.2, f.3)
later_faulty NoMemory m n number later t same f = f

some_faulty : (e : LogError) (m n number later : ℕ) (o : Option (ℕ × List ℕ)) → later ≡ m + number → IfSome o (IsFaulty e number) → IfSome (option_map (shifted n) o) (IsFaulty (later_fault m e) later)
some_faulty e m n number later (Some t) same f = later_faulty e m n number later t same f
some_faulty e m n number later None same f = f

pub fault_joins : (a b : List ℕ) (xs : List Line) (e : LogError) → AreLinesOf a xs → IsFirstFault b e → IsFirstFault (a ++ b) (later_fault (length xs) e)
unfolding IsLog IsFirstFault
fault_joins a b xs e h f =
    let n : ℕ = length a in
    let ps : List (ℕ × List ℕ) = with_places 0 (whole_lines a) in
    let qs : List (ℕ × List ℕ) = with_places 0 (whole_lines b) in
    let good : List Line = xs ++ moved n f.0 in
    let k : ℕ = length f.0 in
    let all : with_places 0 (whole_lines (a ++ b)) ≡ ps ++ map (shifted n) qs = places_joined a b h.whole in
    let long : length xs ≡ length ps = AllZip-long IsGoodLine ps xs h.is_log in
    let size : length good ≡ length ps + k = length-append xs (moved n f.0) ∙ ap (λ m. length xs + m) (length-map f.0 (placed n)) ∙ ap (λ m. m + k) long in
    let front : take (length good) (with_places 0 (whole_lines (a ++ b))) ≡ ps ++ map (shifted n) (take k qs) =
    ap (take (length good)) all ∙ ap (λ m. take m (ps ++ map (shifted n) qs)) size ∙ take-append-add ps (map (shifted n) qs) k ∙ ap (λ t. ps ++ t) (take-map (shifted n) k qs) in
    let there : slice_get (with_places 0 (whole_lines (a ++ b))) (length good) ≡ option_map (shifted n) (slice_get qs k) =
    ap (λ t. slice_get t (length good)) all ∙ get_behind ps (map (shifted n) qs) (length good) k size ∙ slice_get-map (shifted n) qs k in
    let total : length (whole_lines (a ++ b)) ≡ length ps + length qs =
    sym (length_places 0 (whole_lines (a ++ b))) ∙ ap length all ∙ length-append ps (map (shifted n) qs) ∙ ap (λ m. length ps + m) (length-map qs (shifted n)) in (
      good,
      subst (λ (t : List (ℕ × List ℕ)). AllZip IsGoodLine t good) (sym front) (zip_both IsGoodLine ps (map (shifted n) (take k qs)) xs (moved n f.0) h.is_log (all_moved n (take k qs) f.0 f.1)),
      subst (λ (o : Option (ℕ × List ℕ)). IfSome o (IsFaulty (later_fault (length xs) e) (length good + 1))) (sym there) (some_faulty e (length xs) n (k + 1) (length good + 1) (slice_get qs k) (omega arith) f.2),
      omega (arith, f.3, length_places 0 (whole_lines b)),
    )

pub fault_stays : (a b : List ℕ) (e : LogError) → IsFirstFault a e → IsFirstFault (a ++ b) e
unfolding IsFirstFault
fault_stays a b e f =
    let c : Cut a = cut_of a in
    let ps : List (ℕ × List ℕ) = with_places 0 (whole_lines a) in
    let more = places_of_both 0 c.texts (whole_lines (c.torn ++ b)) in
    let all : with_places 0 (whole_lines (a ++ b)) ≡ ps ++ more.0 =
    ap (λ t. with_places 0 (whole_lines (t ++ b))) c.whole ∙ ap (λ t. with_places 0 (whole_lines t)) (append_assoc (joined c.texts) c.torn b) ∙ ap (with_places 0) (lines_of_joined c.texts (c.torn ++ b) c.plain)
    ∙ more.1 ∙ ap (λ t. with_places 0 t ++ more.0) (sym (lines_of_cut a c)) in
    let within : length f.0 < length ps = omega (arith, f.3, length_places 0 (whole_lines a)) in
    let total : length (whole_lines (a ++ b)) ≡ length ps + length more.0 = sym (length_places 0 (whole_lines (a ++ b))) ∙ ap length all ∙ length-append ps more.0 in (
      f.0,
      subst (λ (t : List (ℕ × List ℕ)). AllZip IsGoodLine t f.0) (sym (ap (take (length f.0)) all ∙ take-append-le (length f.0) ps more.0 (omega arith))) f.1,
      subst (λ (o : Option (ℕ × List ℕ)). IfSome o (IsFaulty e (length f.0 + 1))) (sym (ap (λ t. slice_get t (length f.0)) all ∙ get_front ps more.0 (length f.0) within)) f.2,
      omega arith,
    )

-- ---- callers and extents

pub callers_of : (a : List ℕ) (xs : List Line) → IsLog a xs → CallersAreIn a xs
callers_of a xs h = callers_are_in a xs h

pub fits_of : (a : List ℕ) (xs : List Line) → IsLog a xs → LinesFit xs
fits_of a xs h = lines_fit a xs h

caller_behind : (n : ℕ) (b : List ℕ) (y : Line) → IsCallerIn b y → IsCallerBehind n (length b) (placed n y)
caller_behind n b y h = go y.caller.0 y.caller.1 h.order h.within (y.caller.1 == 0) refl
  where
    go : (low high : ℕ) → low ≤ high → high ≤ length b → (none : Bool) → (high == 0) ≡ none → IsCallerBehind n (length b) (placed_if n none (record y { caller = (low, high) }))
    go low high l w true e = record { order = l; within = omega arith; from = λ p. absurd (let z : ⊥ = omega (arith, eqb-true high 0 e) in z) }
    go low high l w false e = record { order = omega arith; within = omega arith; from = λ p. omega arith }

all_behind : (n : ℕ) (b : List ℕ) (ys : List Line) → CallersAreIn b ys → AllByRecursion (IsCallerBehind n (length b)) (moved n ys)
all_behind n b [] h = tt
all_behind n b (y ∷ ys) h = (caller_behind n b y h.0, all_behind n b ys h.1)

pub callers_behind : (n : ℕ) (b : List ℕ) (ys : List Line) → IsLog b ys → AllByRecursion (IsCallerBehind n (length b)) (moved n ys)
callers_behind n b ys h = all_behind n b ys (callers_are_in b ys h)

-- ---- how many lines

few_texts : (texts : List (List ℕ)) → length texts ≤ length (joined texts)
few_texts [] = omega arith
few_texts (text ∷ texts) = omega (arith, few_texts texts, length-append text (10 ∷ joined texts))

pub few_lines : (a : List ℕ) (xs : List Line) → IsLog a xs → length xs ≤ length a
unfolding IsLog
few_lines a xs h =
    let c : Cut a = cut_of a in
    let size : length a ≡ length (joined c.texts) + length c.torn = ap length c.whole ∙ length-append (joined c.texts) c.torn in
    let lines : length (whole_lines a) ≡ length c.texts = ap length (lines_of_cut a c) in
    omega (arith, few_texts c.texts, AllZip-long IsGoodLine (with_places 0 (whole_lines a)) xs h, length_places 0 (whole_lines a))
