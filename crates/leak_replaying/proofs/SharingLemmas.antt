-- The lines of a window are read part by part.
use Rattle.std.proofs.Common.{◌≡◌, ◌∙◌, ℕ, ◌+◌, ◌-◌, ◌<◌, ◌≤◌, ◌==◌, Bool, true, false, not, List, [], ◌∷◌, ◌++◌, length, take, drop, get_or, refl, ap, sym, subst, arith, append_assoc, append-nil, length-append}
use Rattle.std.specs.List.{AllZip}
use Rattle.std.proofs.lemmas.List.{length-drop, length-take-le, nil_from_length, take-append-drop, take-take}
use Rattle.std.proofs.lemmas.List.Elements.{All-nil}
use Rattle.std.proofs.lemmas.List.Sums.{suffix_len_is}
use Rattle.std.specs.List.{suffix_len}
use Rattle.memchr.specs.Find.{Nowhere, NoneAfter, Passes, is_byte}
use Rattle.leak_mtrace.specs.Log.{Whole, IsGoodLine, IsLog, IsReadAs, torn_piece, whole_len_of, whole_lines, with_places}
use Rattle.leak_mtrace.specs.Parts.{AreLinesOf}
use Rattle.leak_mtrace.proofs.CutLemmas.{Cut, bytes_of_cut, cut_of, joined, len_of_cut, lines_of_cut}
use Rattle.leak_mtrace.proofs.PartLemmas.{whole_len_joins}
use Rattle.leak_blocks.specs.Windows.{AreReadInParts}

-- ---- how many bytes the complete lines take

not_true : (t : Bool) → (t ≡ true → ⊥) → not t ≡ true
not_true true h = absurd (h refl)
not_true false h = refl

len_by : (bytes : List ℕ) (n : ℕ) → n ≤ length bytes → Nowhere (Passes (is_byte 10) bytes) n (length bytes) → (0 < n → not (get_or bytes (n - 1) 0 == 10) ≡ false) → n ≡ whole_len_of bytes
len_by bytes n within nowhere edge =
    let behind : (k : ℕ) → n ≤ k → k < length bytes → not (get_or bytes k 0 == 10) ≡ true = λ k l h. not_true (get_or bytes k 0 == 10) (nowhere k l h) in
    let tail : suffix_len (λ b. not (b == 10)) bytes ≡ length bytes - n = suffix_len_is (λ b. not (b == 10)) bytes n 0 within behind edge in
    let torn : length (torn_piece bytes) ≡ length bytes - n =
    ap (λ m. length (drop (length bytes - m) bytes)) tail ∙ ap (λ m. length (drop m bytes)) (let f : length bytes - (length bytes - n) ≡ n = omega arith in f) ∙ length-drop n bytes in
    omega (arith, torn, within)

-- up to the last line feed
pub len_to_last : (bytes : List ℕ) (at : ℕ) → NoneAfter (Passes (is_byte 10) bytes) 0 (length bytes) at → Passes (is_byte 10) bytes at → at + 1 ≡ whole_len_of bytes
len_to_last bytes at none here =
    len_by bytes (at + 1) (omega (arith, none.high)) none.after
    (λ l. let same : at + 1 - 1 ≡ at = omega arith in ap (λ k. not (get_or bytes k 0 == 10)) same ∙ ap not here)

-- or none
pub len_of_none : (bytes : List ℕ) → Nowhere (Passes (is_byte 10) bytes) 0 (length bytes) → 0 ≡ whole_len_of bytes
len_of_none bytes nowhere = len_by bytes 0 (omega arith) nowhere (λ l. absurd (let f : ⊥ = omega (arith, l) in f))

-- ---- the complete lines, without the torn piece

module _ (bytes : List ℕ) where
  abbrev c : Cut bytes
  c = cut_of bytes

  -- they have no torn piece
  abbrev cut_front : Cut (joined c.texts)
  cut_front = record { texts = c.texts; torn = []; whole = sym (append-nil (joined c.texts)); plain = c.plain; rest = All-nil (λ b. (b == 10) ≡ false) }

  pub front_whole : whole_len_of (take (whole_len_of bytes) bytes) ≡ length (take (whole_len_of bytes) bytes)
  front_whole = subst (λ (l : List ℕ). whole_len_of l ≡ length l) (sym (bytes_of_cut bytes c)) (len_of_cut (joined c.texts) cut_front)

  same_lines : whole_lines bytes ≡ whole_lines (take (whole_len_of bytes) bytes)
  same_lines = lines_of_cut bytes c ∙ sym (ap whole_lines (bytes_of_cut bytes c) ∙ lines_of_cut (joined c.texts) cut_front)

  front_len : length (take (whole_len_of bytes) bytes) ≡ whole_len_of bytes
  front_len = length-take-le (whole_len_of bytes) bytes (let f : length bytes - length (torn_piece bytes) ≤ length bytes = omega arith in f)

  front_lines : (read : Whole) → IsReadAs bytes read → AreLinesOf (take (whole_len_of bytes) bytes) read.lines
  unfolding IsLog
  front_lines read is = record { whole = front_whole; is_log = subst (λ (ts : List (List ℕ)). AllZip IsGoodLine (with_places 0 ts) read.lines) same_lines is.0 }

  -- nothing complete is behind them
  none_behind : whole_len_of (drop (whole_len_of bytes) bytes) ≡ 0
  none_behind =
      let front : List ℕ = take (whole_len_of bytes) bytes in
      let rest : List ℕ = drop (whole_len_of bytes) bytes in
      let both : whole_len_of (front ++ rest) ≡ length front + whole_len_of rest = whole_len_joins front rest front_whole in
      omega (arith, sym (ap whole_len_of (take-append-drop (whole_len_of bytes) bytes)), both, front_len)

-- ---- parts

pub one_part : (bytes : List ℕ) (read : Whole) → IsReadAs bytes read → AreReadInParts bytes (read ∷ [])
one_part bytes read is = (
  take (whole_len_of bytes) bytes,
  drop (whole_len_of bytes) bytes,
  sym (take-append-drop (whole_len_of bytes) bytes),
  (front_lines bytes read is, is.2 ∙ sym (front_len bytes)),
  none_behind bytes,
)

-- one more, behind complete lines
part_more : (front back : List ℕ) (parts : List Whole) (read : Whole) → whole_len_of front ≡ length front → AreReadInParts front parts → IsReadAs back read → AreReadInParts (front ++ back) (parts ++ read ∷ [])
part_more front back [] read whole are is =
    let none : front ≡ [] = nil_from_length front (omega (arith, whole, are)) in
    subst (λ (l : List ℕ). AreReadInParts (l ++ back) (read ∷ [])) (sym none) (one_part back read is)
part_more front back (x ∷ parts) read whole are is =
    let both : whole_len_of (are.0 ++ are.1) ≡ length are.0 + whole_len_of are.1 = whole_len_joins are.0 are.1 are.3.0.whole in
    let left : whole_len_of are.1 ≡ length are.1 = omega (arith, both, whole, ap whole_len_of are.2, ap length are.2, length-append are.0 are.1) in (
      are.0,
      are.1 ++ back,
      ap (λ (l : List ℕ). l ++ back) are.2 ∙ append_assoc are.0 are.1 back,
      are.3,
      part_more are.1 back parts read left are.4 is,
    )

-- the parts on both sides of the end of a line
pub parts_both : (bytes front back : List ℕ) (n middle : ℕ) (parts : List Whole) (read : Whole) → n ≤ length bytes → middle ≡ whole_len_of (take n bytes) → front ≡ take middle bytes → back ≡ drop middle bytes
    → AreReadInParts front parts → IsReadAs back read → AreReadInParts bytes (parts ++ read ∷ [])
parts_both bytes front back n middle parts read within is front_is back_is are last =
    let first : List ℕ = take n bytes in
    let less : whole_len_of first ≤ length first = (let f : length first - length (torn_piece first) ≤ length first = omega arith in f) in
    let below : middle ≤ n = omega (arith, is, less, length-take-le n bytes within) in
    let same : front ≡ take (whole_len_of first) first = front_is ∙ sym (take-take middle n bytes below) ∙ ap (λ (k : ℕ). take k first) is in
    let whole : whole_len_of front ≡ length front = subst (λ (l : List ℕ). whole_len_of l ≡ length l) (sym same) (front_whole first) in
    let all : front ++ back ≡ bytes = ap (λ (l : List ℕ). l ++ back) front_is ∙ ap (λ (l : List ℕ). take middle bytes ++ l) back_is ∙ take-append-drop middle bytes in
    subst (λ (l : List ℕ). AreReadInParts l (parts ++ read ∷ [])) all (part_more front back parts read whole are last)
