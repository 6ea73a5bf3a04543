-- The bytes of a log are its complete lines, each with its line feed, and the torn piece.
use Rattle.std.proofs.Common.{◌≡◌, ℕ, ◌+◌, ◌-◌, ◌<◌, ◌≤◌, false, not, ◌==◌, refl, sym, ap, ◌∙◌, List, [], ◌∷◌, ◌++◌, arith, length, get_or, take, drop, append_assoc, append-nil, length-append, eq-eqb, ne_eqb, ⊎_elim}
use Rattle.std.proofs.lemmas.Bool.{cases_eq}
use Rattle.std.proofs.lemmas.List.{take_at, drop_at, get_or_at, get_or-append_right}
use Rattle.std.proofs.lemmas.List.Elements.{All-cons, All-nil}
use Rattle.std.proofs.lemmas.List.Sums.{suffix_len_is}
use Rattle.std.specs.List.{All, AllByRecursion, suffix_len}
use Rattle.leak_mtrace.specs.Log.{whole_lines, torn_piece, whole_len_of}
use Rattle.leak_mtrace.proofs.LogLemmas.{lines_step, lines_end}

-- no line feed in it
abbrev pub HasNoFeed : List ℕ → Type 0
HasNoFeed text = All (λ b. (b == 10) ≡ false) text

abbrev pub joined : List (List ℕ) → List ℕ
joined [] = []
joined (text ∷ texts) = text ++ 10 ∷ joined texts

pub record Cut (bytes : List ℕ) : Type 0 where
  pub texts : List (List ℕ)
  pub torn : List ℕ
  pub whole : bytes ≡ joined texts ++ torn
  pub plain : AllByRecursion HasNoFeed texts
  pub rest : HasNoFeed torn

cut_at_feed : (b : ℕ) (bytes : List ℕ) → b ≡ 10 → Cut bytes → Cut (b ∷ bytes)
cut_at_feed b bytes e c = record {
  texts = [] ∷ c.texts;
  torn = c.torn;
  whole = ap (λ x. x ∷ bytes) e ∙ ap (λ t. 10 ∷ t) c.whole;
  plain = (All-nil (λ b. (b == 10) ≡ false), c.plain);
  rest = c.rest;
}

cut_in_line : (b : ℕ) (bytes : List ℕ) → (b == 10) ≡ false → Cut bytes → Cut (b ∷ bytes)
cut_in_line b bytes e c = go c.texts c.torn c.whole c.plain c.rest
  where
    go : (texts : List (List ℕ)) (torn : List ℕ) → bytes ≡ joined texts ++ torn → AllByRecursion HasNoFeed texts → HasNoFeed torn → Cut (b ∷ bytes)
    go [] torn w p r = record { texts = []; torn = b ∷ torn; whole = ap (λ t. b ∷ t) w; plain = tt; rest = All-cons (λ b. (b == 10) ≡ false) b torn e r }
    go (text ∷ texts) torn w p r = record { texts = (b ∷ text) ∷ texts; torn = torn; whole = ap (λ t. b ∷ t) w; plain = (All-cons (λ b. (b == 10) ≡ false) b text e p.0, p.1); rest = r }

pub cut_of : (bytes : List ℕ) → Cut bytes
cut_of [] = record { texts = []; torn = []; whole = refl; plain = tt; rest = All-nil (λ b. (b == 10) ≡ false) }
cut_of (b ∷ bytes) = ⊎_elim (λ e. cut_at_feed b bytes e (cut_of bytes)) (λ n. cut_in_line b bytes (ne_eqb b 10 n) (cut_of bytes)) (cases_eq b 10)

-- ---- the complete lines

pub lines_of_joined : (texts : List (List ℕ)) (rest : List ℕ) → AllByRecursion HasNoFeed texts → whole_lines (joined texts ++ rest) ≡ texts ++ whole_lines rest
lines_of_joined [] rest p = refl
lines_of_joined (text ∷ texts) rest p =
    ap whole_lines (append_assoc text (10 ∷ joined texts) rest) ∙ lines_step text (joined texts ++ rest) p.0 ∙ ap (λ t. text ∷ t) (lines_of_joined texts rest p.1)

pub lines_of_cut : (bytes : List ℕ) (c : Cut bytes) → whole_lines bytes ≡ c.texts
lines_of_cut bytes c = ap whole_lines c.whole ∙ lines_of_joined c.texts c.torn c.plain ∙ ap (λ t. c.texts ++ t) (lines_end c.torn c.rest) ∙ append-nil c.texts

-- ---- their length

ends_in_feed : (text : List ℕ) (texts : List (List ℕ)) → (front : List ℕ) × (joined (text ∷ texts) ≡ front ++ 10 ∷ [])
ends_in_feed text [] = (text, refl)
ends_in_feed text (next ∷ texts) = let r = ends_in_feed next texts in (text ++ 10 ∷ r.0, ap (λ t. text ++ 10 ∷ t) r.1 ∙ sym (append_assoc text (10 ∷ r.0) (10 ∷ [])))

feed_before : (texts : List (List ℕ)) (torn : List ℕ) → 0 < length (joined texts) → get_or (joined texts ++ torn) (length (joined texts) - 1) 0 ≡ 10
feed_before [] torn h = absurd (omega arith)
feed_before (text ∷ texts) torn h =
    let r = ends_in_feed text texts in
    let size : length (joined (text ∷ texts)) ≡ length r.0 + 1 = ap length r.1 ∙ length-append r.0 (10 ∷ []) in
    ap (λ t. get_or (t ++ torn) (length (joined (text ∷ texts)) - 1) 0) r.1
    ∙ ap (λ t. get_or t (length (joined (text ∷ texts)) - 1) 0) (append_assoc r.0 (10 ∷ []) torn)
    ∙ get_or_at r.0 10 torn 0 (length (joined (text ∷ texts)) - 1) (omega arith)

pub torn_of_cut : (bytes : List ℕ) (c : Cut bytes) → length (torn_piece bytes) ≡ length c.torn
torn_of_cut bytes c =
    let front : ℕ = length (joined c.texts) in
    let size : length bytes ≡ front + length c.torn = ap length c.whole ∙ length-append (joined c.texts) c.torn in
    let behind : (k : ℕ) → front ≤ k → k < length bytes → not (get_or bytes k 0 == 10) ≡ not false =
    λ k l h. ap not (ap (λ t. get_or t k 0 == 10) c.whole ∙ ap (λ b. b == 10) (get_or-append_right (joined c.texts) c.torn front k 0 refl l) ∙ c.rest (k - front) 0 (omega arith)) in
    let edge : 0 < front → not (get_or bytes (front - 1) 0 == 10) ≡ false = λ h. ap not (eq-eqb _ _ (ap (λ t. get_or t (front - 1) 0) c.whole ∙ feed_before c.texts c.torn h)) in
    let tail : suffix_len (λ b. not (b == 10)) bytes ≡ length bytes - front = suffix_len_is (λ b. not (b == 10)) bytes front 0 (omega arith) behind edge in
    ap (λ n. length (drop (length bytes - n) bytes)) tail ∙ ap (λ n. length (drop n bytes)) (let f : length bytes - (length bytes - front) ≡ front = omega arith in f)
    ∙ ap (λ t. length (drop front t)) c.whole ∙ ap length (drop_at (joined c.texts) c.torn front refl)

pub len_of_cut : (bytes : List ℕ) (c : Cut bytes) → whole_len_of bytes ≡ length (joined c.texts)
len_of_cut bytes c =
    let size : length bytes ≡ length (joined c.texts) + length c.torn = ap length c.whole ∙ length-append (joined c.texts) c.torn in
    omega (arith, torn_of_cut bytes c)

-- the complete lines, as bytes
pub bytes_of_cut : (bytes : List ℕ) (c : Cut bytes) → take (whole_len_of bytes) bytes ≡ joined c.texts
bytes_of_cut bytes c = ap (take (whole_len_of bytes)) c.whole ∙ take_at (joined c.texts) c.torn (whole_len_of bytes) (sym (len_of_cut bytes c))
