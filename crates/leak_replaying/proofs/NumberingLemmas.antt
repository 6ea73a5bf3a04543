-- The texts of callers are numbered, block by block and window by window.
use Rattle.std.proofs.Common.{◌≡◌, ◌∙◌, ℕ, ◌+◌, ◌-◌, ◌<◌, ◌≤◌, Bool, true, false, cond, nat_lt, if◌then◌else◌, List, [], ◌∷◌, ◌++◌, length, map, take, drop, slice_range, slice_index_or, refl, ap, ap₂, sym, subst, arith, ⊎_elim, zero, suc}
use Rattle.std.specs.List.{All}
use Rattle.std.proofs.lemmas.List.{length-map, length-append, length-drop, length-take-le, take-append-le, drop-append-le, map-append, get_or-map, get_or_append_left}
use Rattle.std.proofs.lemmas.List.Elements.{All-nil, All-cons, All-head, All-tail, All-append, All-weaker}
use Rattle.std.proofs.lemmas.Bool.{lt-ltb}
use borrow.Author.Tests.{ltb-true}
use Rattle.leak_lemmas.proofs.Members.{each_push, each_implied}
use Rattle.leak_blocks.specs.declared.block.Block.{Block}
use Rattle.leak_report.specs.Totals.{IsIn, HaveCallersIn, text_at}
use Rattle.leak_report.specs.Numbered.{text_with, texts_of}
use Rattle.leak_texts.specs.Texts.{IsNumbered}
use Rattle.leak_replaying.specs.Numbering.{AreNumberedBy, HasByte, IsBehind, moved_back}

-- ---- a log with more bytes behind it

-- a range of it has what it had,
range-more : (log more : List ℕ) (a b : ℕ) → b ≤ length log → a ≤ b → slice_range (log ++ more) a b ≡ slice_range log a b
range-more log more a b within order =
    ap (take (b - a)) (drop-append-le a log more (omega arith)) ∙ take-append-le (b - a) (drop a log) more (omega (arith, length-drop a log))

pub text-more : (log more : List ℕ) (c : ℕ × ℕ) → IsIn log c → text_at (log ++ more) c ≡ text_at log c
text-more log more c is =
    ap (λ (t : List ℕ). if nat_lt c.0 c.1 then t else 63 ∷ []) (range-more log more c.0 c.1 is.within is.order)

in-more : (log more : List ℕ) (c : ℕ × ℕ) → IsIn log c → IsIn (log ++ more) c
in-more log more c is = record { order = is.order; within = omega (arith, is.within, length-append log more) }

-- and so have the texts of blocks
texts-more : (log more : List ℕ) (blocks : List Block) → HaveCallersIn log blocks → texts_of (log ++ more) blocks ≡ texts_of log blocks
texts-more log more [] in_log = refl
texts-more log more (b ∷ blocks) in_log =
    ap₂ (λ (t : List ℕ) (ts : List (List ℕ)). t ∷ ts) (text-more log more b.caller in_log.0) (texts-more log more blocks in_log.1)

pub wider : (log more : List ℕ) (blocks : List Block) (texts : List (List ℕ)) (numbers : List ℕ) → AreNumberedBy log blocks texts numbers
    → AreNumberedBy (log ++ more) blocks texts numbers
wider log more blocks texts numbers are = record {
  inside = each_implied (λ (b : Block). IsIn log b.caller) (λ (b : Block). IsIn (log ++ more) b.caller) (λ b is. in-more log more b.caller is) blocks are.inside;
  each = are.each;
  below = are.below;
  same = are.same ∙ sym (texts-more log more blocks are.inside);
}

-- ---- a range behind other bytes

drop-behind : (log window : List ℕ) (n : ℕ) → length log ≤ n → drop n (log ++ window) ≡ drop (n - length log) window
drop-behind [] window n l = let e : n - 0 ≡ n = omega arith in ap (λ (k : ℕ). drop k window) (sym e)
drop-behind (x ∷ log) window zero l = absurd (omega arith)
drop-behind (x ∷ log) window (suc n) l =
    let e : suc n - length (x ∷ log) ≡ n - length log = omega arith in
    drop-behind log window n (omega arith) ∙ ap (λ (k : ℕ). drop k window) (sym e)

pub text_behind : (log window : List ℕ) (c : ℕ × ℕ) → IsBehind (length log) (length window) c → text_at window (moved_back (length log) c) ≡ text_at (log ++ window) c
text_behind log window c is = go (nat_lt c.0 c.1) refl
  where
    go : (t : Bool) → nat_lt c.0 c.1 ≡ t → text_at window (cond t (c.0 - length log, c.1 - length log) (0, 0)) ≡ cond t (slice_range (log ++ window) c.0 c.1) (63 ∷ [])
    go true e =
        let less : c.0 < c.1 = ltb-true c.0 c.1 e in
        let from : length log ≤ c.0 = is.from less in
        let still : nat_lt (c.0 - length log) (c.1 - length log) ≡ true = lt-ltb (c.0 - length log) (c.1 - length log) (omega arith) in
        ap (λ (s : Bool). if s then slice_range window (c.0 - length log) (c.1 - length log) else 63 ∷ []) still
        ∙ ap₂ (λ (n : ℕ) (t : List ℕ). take n t) (let f : (c.1 - length log) - (c.0 - length log) ≡ c.1 - c.0 = omega arith in f) (sym (drop-behind log window c.0 from))
    go false e = refl

pub in_window : (log window : List ℕ) (c : ℕ × ℕ) → IsBehind (length log) (length window) c → IsIn window (moved_back (length log) c)
in_window log window c is = go (nat_lt c.0 c.1) refl
  where
    go : (t : Bool) → nat_lt c.0 c.1 ≡ t → IsIn window (cond t (c.0 - length log, c.1 - length log) (0, 0))
    go true e =
        let less : c.0 < c.1 = ltb-true c.0 c.1 e in
        let within : c.1 ≤ length log + length window = is.within in
        record { order = omega arith; within = omega arith }
    go false e = record { order = omega arith; within = omega arith }

pub in_whole : (log window : List ℕ) (c : ℕ × ℕ) → IsBehind (length log) (length window) c → IsIn (log ++ window) c
in_whole log window c is = record { order = is.order; within = omega (arith, is.within, length-append log window) }

-- ---- a text

-- the text of a caller has a byte
pub caller_has : (log : List ℕ) (c : ℕ × ℕ) → IsIn log c → HasByte (text_at log c)
caller_has log c is = go (nat_lt c.0 c.1) refl
  where
    go : (t : Bool) → nat_lt c.0 c.1 ≡ t → HasByte (cond t (slice_range log c.0 c.1) (63 ∷ []))
    go true e =
        let less : c.0 < c.1 = ltb-true c.0 c.1 e in
        let within : c.1 ≤ length log = is.within in
        let rest : length (drop c.0 log) ≡ length log - c.0 = length-drop c.0 log in
        let long : length (slice_range log c.0 c.1) ≡ c.1 - c.0 = length-take-le (c.1 - c.0) (drop c.0 log) (omega arith) in
        omega arith
    go false e = omega arith

-- ---- one more block

module _ (log : List ℕ) (blocks : List Block) (texts : List (List ℕ)) (numbers : List ℕ) (are : AreNumberedBy log blocks texts numbers) (b : Block) (in_log : IsIn log b.caller)
    (later : List (List ℕ)) (n : ℕ) (is : IsNumbered texts (text_at log b.caller) later n) where
  -- the texts so far have the numbers that they had
  longer : length texts ≤ length later
  longer = ⊎_elim (λ same. omega (arith, ap length same)) (λ next. omega (arith, ap length next.added, length-append texts (text_at log b.caller ∷ []))) is.adds

  same_text : (k : ℕ) → k < length texts → text_with later k ≡ text_with texts k
  same_text k below =
      ⊎_elim (λ same. ap (λ (ts : List (List ℕ)). text_with ts k) same)
      (λ next. ap (λ (ts : List (List ℕ)). text_with ts k) next.added ∙ get_or_append_left texts (text_at log b.caller ∷ []) [] k below) is.adds

  same_texts : (ks : List ℕ) → All (λ k. k < length texts) ks → map (text_with later) ks ≡ map (text_with texts) ks
  same_texts [] below = refl
  same_texts (k ∷ ks) below =
      ap₂ (λ (t : List ℕ) (ts : List (List ℕ)). t ∷ ts) (same_text k (All-head (λ k. k < length texts) k ks below)) (same_texts ks (All-tail (λ k. k < length texts) k ks below))

  each_later : All HasByte later
  each_later =
      ⊎_elim (λ same. subst (All HasByte) (sym same) are.each)
      (λ next. subst (All HasByte) (sym next.added)
      (All-append HasByte texts (text_at log b.caller ∷ []) are.each (All-cons HasByte (text_at log b.caller) [] (caller_has log b.caller in_log) (All-nil HasByte)))) is.adds

  pub one_more : AreNumberedBy log (blocks ++ b ∷ []) later (numbers ++ n ∷ [])
  one_more = record {
    inside = each_push (λ (x : Block). IsIn log x.caller) blocks b are.inside in_log;
    each = each_later;
    below = All-append (λ k. k < length later) numbers (n ∷ [])
        (All-weaker (λ k. k < length texts) (λ k. k < length later) (λ k h. omega (arith, h, longer)) numbers are.below)
        (All-cons (λ k. k < length later) n [] is.below (All-nil (λ k. k < length later)));
    same = map-append (text_with later) numbers (n ∷ [])
        ∙ ap₂ (λ (ts : List (List ℕ)) (t : List ℕ). ts ++ t ∷ []) (same_texts numbers are.below ∙ are.same) is.is
        ∙ sym (map-append (λ (x : Block). text_at log x.caller) blocks (b ∷ []));
  }

-- ---- no block

pub numbered_none : AreNumberedBy [] [] [] []
numbered_none = record { inside = tt; each = All-nil HasByte; below = All-nil (λ k. k < 0); same = refl }

-- ---- of many blocks some

-- there is a number for each block
as_many : (log : List ℕ) (blocks : List Block) (texts : List (List ℕ)) (numbers : List ℕ) → AreNumberedBy log blocks texts numbers → length numbers ≡ length blocks
as_many log blocks texts numbers are =
    sym (length-map numbers (text_with texts)) ∙ ap length are.same ∙ length-map blocks (λ (x : Block). text_at log x.caller)

pub within_numbers : (log : List ℕ) (blocks : List Block) (texts : List (List ℕ)) (numbers places : List ℕ) → AreNumberedBy log blocks texts numbers → All (λ k. k < length blocks) places
    → All (λ k. k < length numbers) places
within_numbers log blocks texts numbers places are within =
    All-weaker (λ k. k < length blocks) (λ k. k < length numbers) (λ k h. omega (arith, h, as_many log blocks texts numbers are)) places within

pub chosen : (log : List ℕ) (blocks some : List Block) (texts : List (List ℕ)) (numbers places : List ℕ) → AreNumberedBy log blocks texts numbers
    → All (λ k. k < length blocks) places
    → map (λ k. slice_index_or (map (text_with texts) numbers) k []) places ≡ texts_of log some
    → map (text_with texts) (map (λ k. slice_index_or numbers k 0) places) ≡ texts_of log some
chosen log blocks some texts numbers places are within picked = each places (within_numbers log blocks texts numbers places are within) ∙ picked
  where
    each : (ks : List ℕ) → All (λ k. k < length numbers) ks → map (text_with texts) (map (λ k. slice_index_or numbers k 0) ks) ≡ map (λ k. slice_index_or (map (text_with texts) numbers) k []) ks
    each [] w = refl
    each (k ∷ ks) w =
        ap₂ (λ (t : List ℕ) (ts : List (List ℕ)). t ∷ ts)
        (sym (get_or-map (text_with texts) numbers k 0 [] (All-head (λ k. k < length numbers) k ks w)))
        (each ks (All-tail (λ k. k < length numbers) k ks w))

pub chosen_below : (count : ℕ) (numbers places : List ℕ) → All (λ n. n < count) numbers → All (λ k. k < length numbers) places
    → All (λ n. n < count) (map (λ k. slice_index_or numbers k 0) places)
chosen_below count numbers [] below within = All-nil (λ n. n < count)
chosen_below count numbers (k ∷ ks) below within =
    All-cons (λ n. n < count) (slice_index_or numbers k 0) (map (λ k. slice_index_or numbers k 0) ks)
    (below k 0 (All-head (λ k. k < length numbers) k ks within)) (chosen_below count numbers ks below (All-tail (λ k. k < length numbers) k ks within))
