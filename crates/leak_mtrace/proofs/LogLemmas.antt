-- A log read up to a line's beginning.
use Rattle.std.proofs.Common.{◌≡◌, ℕ, zero, suc, ◌+◌, ◌-◌, ◌<◌, ◌≤◌, false, not, ◌==◌, refl, sym, subst, ap, ◌∙◌, List, [], ◌∷◌, ◌++◌, Option, Some, None, slice_get, IfSome, arith, length, get_or, take, drop, append_assoc, append-nil, length-append, length-drop, eqb-true, eq-eqb, ne_eqb, lt-ltb, le-ltb, nat_lt, if◌then◌else◌, ⊎_elim}
use Rattle.std.proofs.lemmas.Bool.{cases_lt}
use Rattle.std.proofs.lemmas.List.{take_at, drop-drop, take-append-drop, drop_more, get_or-take, get_or_default, get_or-drop, length-take-le}
use Rattle.std.proofs.lemmas.List.Splits.{slice_split_at, slice_split_none, length-slice_split}
use Rattle.std.proofs.lemmas.List.Sums.{suffix_len_is}
use Rattle.std.proofs.lemmas.Slice.Zip.{all_zipped_more, AllZip-long}
use Rattle.std.specs.List.{All, AllZip, suffix_len}
use mir.Val.{bool_byte}
use Rattle.memchr.specs.Find.{IsFirstByte, is_byte}
use Rattle.leak_mtrace.specs.declared.line.Line.{Line}
use Rattle.leak_mtrace.specs.declared.error.LogError.{LogError}
use Rattle.leak_mtrace.specs.Log.{pieces, whole_lines, torn_piece, torn_of, whole_len_of, with_places, IsGoodLine, IsLog, IsFaulty, IsFirstFault}
use Rattle.leak_mtrace.specs.Reading.{ReadTo}

-- ---- pieces

not_feed : (text : List ℕ) → ((k : ℕ) → k < length text → get_or text k 0 ≡ 10 → ⊥) → All (λ b. (b == 10) ≡ false) text
not_feed text h k d l = ne_eqb _ _ (λ e. h k l (get_or_default text k 0 d l ∙ e))

take_front : {A : Type 0} (x : A) (xs : List A) → 1 ≤ length xs → take (length (x ∷ xs) - 1) (x ∷ xs) ≡ x ∷ take (length xs - 1) xs
take_front x xs h = ap (λ n. take n (x ∷ xs)) (let f : length (x ∷ xs) - 1 ≡ suc (length xs - 1) = omega arith in f)

pub lines_step : (text rest : List ℕ) → All (λ b. (b == 10) ≡ false) text → whole_lines (text ++ 10 ∷ rest) ≡ text ∷ whole_lines rest
lines_step text rest h =
    let some : 1 ≤ length (pieces rest) = omega (arith, length-slice_split (λ b. b == 10) rest) in
    ap (λ (p : List (List ℕ)). take (length p - 1) p) (slice_split_at (λ b. b == 10) text 10 rest h refl) ∙ take_front text (pieces rest) some

pub lines_end : (text : List ℕ) → All (λ b. (b == 10) ≡ false) text → whole_lines text ≡ []
lines_end text h = ap (λ (p : List (List ℕ)). take (length p - 1) p) (slice_split_none (λ b. b == 10) text h)

-- ---- the beginning

pub read_start : (bytes : List ℕ) → ReadTo bytes 0 []
read_start bytes = record { done = []; whole = refl; good = tt; within = omega arith; edge = λ h. absurd (omega arith); few = omega arith }

-- ---- one line more

-- the line at start; the next line feed is len bytes on
record Next (bytes : List ℕ) (start len : ℕ) : Type 0 where
  low : start + len < length bytes
  feed : get_or bytes (start + len) 0 ≡ 10
  lines : whole_lines (drop start bytes) ≡ take len (drop start bytes) ∷ whole_lines (drop (start + (len + 1)) bytes)
  size : length (take len (drop start bytes)) ≡ len

next : (bytes : List ℕ) (start len : ℕ) → start ≤ length bytes → IsFirstByte (is_byte 10) (drop start bytes) (Some len) → Next bytes start len
next bytes start len within f =
    let hay : List ℕ = drop start bytes in
    let total : length hay ≡ length bytes - start = length-drop start bytes in
    let high : len < length hay = f.0.high in
    let here : get_or hay len 0 ≡ 10 = eqb-true _ _ f.1 in
    let long : length (take len hay) ≡ len = length-take-le len hay (omega arith) in
    let plain : All (λ b. (b == 10) ≡ false) (take len hay) = not_feed (take len hay) (λ k l e. f.0.before k (omega arith) (omega arith) (eq-eqb _ _ (sym (get_or-take len hay k 0 (omega arith)) ∙ e))) in
    let cut : hay ≡ take len hay ++ 10 ∷ drop (len + 1) hay = sym (take-append-drop len hay) ∙ ap (λ t. take len hay ++ t) (drop_more hay len 0 high ∙ ap (λ b. b ∷ drop (len + 1) hay) here) in
    record {
      low = omega arith;
      feed = sym (get_or-drop start bytes len 0) ∙ here;
      lines = ap whole_lines cut ∙ lines_step (take len hay) (drop (len + 1) hay) plain ∙ ap (λ t. take len hay ∷ whole_lines t) (drop-drop (len + 1) start bytes);
      size = long;
    }

pub read_more : (bytes text : List ℕ) (start len : ℕ) (lines : List Line) (x : Line) → ReadTo bytes start lines → IsFirstByte (is_byte 10) (drop start bytes) (Some len) → text ≡ take len (drop start bytes) → IsGoodLine (start, text) x → ReadTo bytes (start + (len + 1)) (lines ++ x ∷ [])
read_more bytes text start len lines x r f e g =
    let n : Next bytes start len = next bytes start len r.within f in
    let size : length text ≡ len = ap length e ∙ n.size in
    let later : with_places start (whole_lines (drop start bytes)) ≡ (start, text) ∷ with_places (start + (len + 1)) (whole_lines (drop (start + (len + 1)) bytes)) =
    ap (with_places start) n.lines ∙ ap (λ t. with_places start (t ∷ whole_lines (drop (start + (len + 1)) bytes))) (sym e)
    ∙ ap (λ p. (start, text) ∷ with_places p (whole_lines (drop (start + (len + 1)) bytes))) (let h : start + length text + 1 ≡ start + (len + 1) = omega arith in h) in
    record {
      done = r.done ++ (start, text) ∷ [];
      whole = r.whole ∙ ap (λ t. r.done ++ t) later ∙ sym (append_assoc r.done ((start, text) ∷ []) _);
      good = all_zipped_more IsGoodLine r.done lines (start, text) x r.good g;
      within = omega (arith, n.low);
      edge = λ h. ap (λ k. get_or bytes k 0) (let h : start + (len + 1) - 1 ≡ start + len = omega arith in h) ∙ n.feed;
      few = omega (arith, r.few, length-append lines (x ∷ []));
    }

-- ---- a faulty line

get_at : {A : Type 0} (xs ys : List A) (y : A) (n : ℕ) → n ≡ length xs → slice_get (xs ++ y ∷ ys) n ≡ Some y
get_at [] ys y n e = ap (slice_get (y ∷ ys)) e
get_at (x ∷ xs) ys y zero e = absurd (omega arith)
get_at (x ∷ xs) ys y (suc n) e = get_at xs ys y n (omega arith)

pub length_places : (at : ℕ) (texts : List (List ℕ)) → length (with_places at texts) ≡ length texts
length_places at [] = refl
length_places at (text ∷ texts) = ap suc (length_places (at + length text + 1) texts)

pub read_fault : (bytes text : List ℕ) (start len : ℕ) (lines : List Line) (e : LogError) → ReadTo bytes start lines → IsFirstByte (is_byte 10) (drop start bytes) (Some len) → text ≡ take len (drop start bytes) → IsFaulty e (length lines + 1) (start, text) → IsFirstFault bytes e
unfolding IsFirstFault
read_fault bytes text start len lines e r f same bad =
    let n : Next bytes start len = next bytes start len r.within f in
    let later : List (ℕ × List ℕ) = with_places (start + len + 1) (whole_lines (drop (start + (len + 1)) bytes)) in
    let all : with_places 0 (whole_lines bytes) ≡ r.done ++ (start, text) ∷ with_places (start + length text + 1) (whole_lines (drop (start + (len + 1)) bytes)) =
    r.whole ∙ ap (λ t. r.done ++ t) (ap (with_places start) n.lines ∙ ap (λ t. with_places start (t ∷ whole_lines (drop (start + (len + 1)) bytes))) (sym same)) in
    let long : length lines ≡ length r.done = AllZip-long IsGoodLine r.done lines r.good in (
      lines,
      subst (λ (t : List (ℕ × List ℕ)). AllZip IsGoodLine t lines) (sym (ap (take (length lines)) all ∙ take_at r.done _ (length lines) (sym long))) r.good,
      subst (λ (o : Option (ℕ × List ℕ)). IfSome o (IsFaulty e (length lines + 1))) (sym (ap (λ t. slice_get t (length lines)) all ∙ get_at r.done _ (start, text) (length lines) long)) bad,
      omega (arith, sym (length_places 0 (whole_lines bytes)) ∙ ap length all, length-append r.done ((start, text) ∷ with_places (start + length text + 1) (whole_lines (drop (start + (len + 1)) bytes))), long),
    )

-- ---- the end

record AtEnd (bytes : List ℕ) (start : ℕ) : Type 0 where
  lines : whole_lines (drop start bytes) ≡ []
  torn : torn_piece bytes ≡ drop start bytes
  size : length (torn_piece bytes) ≡ length bytes - start

at_end : (bytes : List ℕ) (start : ℕ) (lines : List Line) → ReadTo bytes start lines → IsFirstByte (is_byte 10) (drop start bytes) None → AtEnd bytes start
at_end bytes start lines r f =
    let total : length (drop start bytes) ≡ length bytes - start = length-drop start bytes in
    let plain : All (λ b. (b == 10) ≡ false) (drop start bytes) = not_feed (drop start bytes) (λ k l e. f k (omega arith) l (eq-eqb _ _ e)) in
    let tail : suffix_len (λ b. not (b == 10)) bytes ≡ length bytes - start =
    suffix_len_is (λ b. not (b == 10)) bytes start 0 r.within
    (λ k l h. ap not (ne_eqb _ _ (λ e. f (k - start) (omega arith) (omega arith) (eq-eqb _ _ (get_or-drop start bytes (k - start) 0 ∙ ap (λ p. get_or bytes p 0) (let g : start + (k - start) ≡ k = omega arith in g) ∙ e)))))
    (λ h. ap not (eq-eqb _ _ (r.edge h))) in
    let torn : torn_piece bytes ≡ drop start bytes = ap (λ n. drop (length bytes - n) bytes) tail ∙ ap (λ n. drop n bytes) (let w : start ≤ length bytes = r.within in let g : length bytes - (length bytes - start) ≡ start = omega arith in g) in
    record { lines = lines_end (drop start bytes) plain; torn = torn; size = ap length torn ∙ total }

pub read_lines : (bytes : List ℕ) (start : ℕ) (lines : List Line) → ReadTo bytes start lines → IsFirstByte (is_byte 10) (drop start bytes) None → IsLog bytes lines
unfolding IsLog
read_lines bytes start lines r f =
    let end : AtEnd bytes start = at_end bytes start lines r f in
    subst (λ (t : List (ℕ × List ℕ)). AllZip IsGoodLine t lines) (sym (r.whole ∙ ap (λ t. r.done ++ with_places start t) end.lines ∙ append-nil r.done)) r.good

pub read_len : (bytes : List ℕ) (start : ℕ) (lines : List Line) → ReadTo bytes start lines → IsFirstByte (is_byte 10) (drop start bytes) None → start ≡ whole_len_of bytes
read_len bytes start lines r f = let end : AtEnd bytes start = at_end bytes start lines r f in let w : start ≤ length bytes = r.within in omega (arith, end.size)

pub read_torn : (bytes : List ℕ) (start : ℕ) (lines : List Line) → ReadTo bytes start lines → IsFirstByte (is_byte 10) (drop start bytes) None → length (torn_piece bytes) ≡ length bytes - start
read_torn bytes start lines r f = let end : AtEnd bytes start = at_end bytes start lines r f in end.size

pub torn_byte : (bytes : List ℕ) (start : ℕ) → length (torn_piece bytes) ≡ length bytes - start → bool_byte (nat_lt start (length bytes)) ≡ torn_of bytes
torn_byte bytes start e = ⊎_elim
    (λ l. ap bool_byte (lt-ltb start (length bytes) l) ∙ sym (ap (λ b. if b then 0 else 1) (ne_eqb (length (torn_piece bytes)) 0 (λ z. absurd (omega arith)))))
    (λ g. ap bool_byte (le-ltb start (length bytes) g) ∙ sym (ap (λ b. if b then 0 else 1) (eq-eqb (length (torn_piece bytes)) 0 (omega arith))))
    (cases_lt start (length bytes))
