-- The items of a list of displacements that were read, and the values that are kept of them.
use Rattle.std.proofs.Common.{◌≡◌, ℕ, ◌+◌, ◌<◌, ◌≤◌, suc, Bool, true, false, refl, ap, sym, ◌∙◌, List, [], ◌∷◌, ◌++◌, take, length, cond, not, Option, Some, None, arith, set, append_assoc, length-append, length-set, length-take, zero-add}
use Rattle.std.proofs.lemmas.Bool.{ltb-false, ltb-true}
use Rattle.std.proofs.lemmas.List.{length-map, map-append, take-append-le, take_all, take_more_set}
use Rattle.leak_index.specs.declared.error.ReadingError.TheVariants.{TooMany}
use Rattle.std.specs.Prelude.{nat_lt, min, IfSome, IsTrue}
use Rattle.std.specs.List.{position_from}
use Rattle.std.specs.Borrow.{Bor}
use Rattle.leak_request.specs.declared.fault.DisplaceFault.TheVariants as fault
use Rattle.leak_index.specs.Readings.{refusal_of}
use Rattle.leak_request.specs.Displacements.{decimal_value, displace_fault_of, first_other, is_number, items_after, items_of, values_in}

-- the bytes that are left, and one more if an item is left
abbrev pub size_after : Option (Bor (List ℕ)) → ℕ
size_after None = 0
size_after (Some text) = length text.now + 1

pub record AreRead (text : List ℕ) (rest : Option (Bor (List ℕ))) (count : ℕ) (values : List ℕ) : Type 0 where
  pub seen : List (List ℕ)
  pub items : items_of text ≡ seen ++ items_after rest
  pub count_is : length seen ≡ count
  pub numbers : first_other seen ≡ None
  pub room : length values ≡ 17
  pub kept : take (min count 17) values ≡ take 17 (values_in seen)
  pub size : count + size_after rest ≤ length text + 1

-- the item after those that the test fails is the first that it passes, or fails it too
first_after : {X : Type 0} (p : X → Bool) (k : ℕ) (seen : List X) (item : X) (more : List X) → position_from p k seen ≡ None → p item ≡ true
    → position_from p k (seen ++ item ∷ more) ≡ Some (k + length seen)
first_after p k [] item more ok is = rw is (ap Some (omega arith))
first_after p k (x ∷ seen) item more ok is = go (p x) ok (λ e. first_after p (k + 1) seen item more e is)
  where
    go : (t : Bool) → cond t (Some k) (position_from p (k + 1) seen) ≡ None
        → (position_from p (k + 1) seen ≡ None → position_from p (k + 1) (seen ++ item ∷ more) ≡ Some (k + 1 + length seen))
        → cond t (Some k) (position_from p (k + 1) (seen ++ item ∷ more)) ≡ Some (k + suc (length seen))
    go true e rec = cc
    go false e rec = rec e ∙ ap Some (omega arith)

none_after : {X : Type 0} (p : X → Bool) (k : ℕ) (seen : List X) (item : X) → position_from p k seen ≡ None → p item ≡ false
    → position_from p k (seen ++ item ∷ []) ≡ None
none_after p k [] item ok is = rw is refl
none_after p k (x ∷ seen) item ok is = go (p x) ok (λ e. none_after p (k + 1) seen item e is)
  where
    go : (t : Bool) → cond t (Some k) (position_from p (k + 1) seen) ≡ None
        → (position_from p (k + 1) seen ≡ None → position_from p (k + 1) (seen ++ item ∷ []) ≡ None)
        → cond t (Some k) (position_from p (k + 1) (seen ++ item ∷ [])) ≡ None
    go true e rec = cc
    go false e rec = rec e

not_true : (t : Bool) → (IsTrue t → ⊥) → not t ≡ true
not_true true other = absurd (other refl)
not_true false _ = refl

-- an item that is no number is the first such after those that are
pub other_after : {text : List ℕ} {left : Bor (List ℕ)} {count : ℕ} {values : List ℕ} (item : List ℕ) (more : List (List ℕ))
    → AreRead text (Some left) count values → items_of left.now ≡ item ∷ more → ¬ IsTrue (is_number item)
    → displace_fault_of text ≡ Some (fault.Number count)
other_after {text} item more read cut other =
    let all : items_of text ≡ read.seen ++ item ∷ more = read.items ∙ ap (λ xs. read.seen ++ xs) cut in
    let first : first_other (items_of text) ≡ Some (length read.seen) = ap first_other all ∙ first_after _ 0 read.seen item more read.numbers (not_true _ other) ∙ ap Some (zero-add (length read.seen)) in
    rw first (ap (λ k. Some (fault.Number k)) read.count_is)

-- the values that are kept, with one more that there is room for, and with one that there is none for
kept_more : (values seen : List ℕ) (count v : ℕ) → count < 17 → length values ≡ 17 → length seen ≡ count → take (min count 17) values ≡ take 17 seen
    → take (min (count + 1) 17) (set values count v) ≡ take 17 (seen ++ v ∷ [])
kept_more values seen count v low room same kept =
    let here : min count 17 ≡ count = omega arith in
    let next : min (count + 1) 17 ≡ count + 1 = omega arith in
    let before : take count values ≡ seen = rw here at kept ∙ take_all 17 seen (omega arith) in
    let whole : take 17 (seen ++ v ∷ []) ≡ seen ++ v ∷ [] = take_all 17 (seen ++ v ∷ []) (simp length-append (omega arith)) in
    rw next (take_more_set values count v (omega arith) ∙ ap (λ xs. xs ++ v ∷ []) before ∙ sym whole)

kept_all : (values seen : List ℕ) (count v : ℕ) → 17 ≤ count → length seen ≡ count → take (min count 17) values ≡ take 17 seen
    → take (min (count + 1) 17) values ≡ take 17 (seen ++ v ∷ [])
kept_all values seen count v high same kept =
    let here : min count 17 ≡ 17 = omega arith in
    let next : min (count + 1) 17 ≡ 17 = omega arith in
    rw next (rw here at kept ∙ sym (take-append-le 17 seen (v ∷ []) (omega arith)))

-- one number more
next_read : {text : List ℕ} {left : Bor (List ℕ)} {count : ℕ} {values : List ℕ} (after : Option (Bor (List ℕ))) (item : List ℕ) (kept : List ℕ)
    → AreRead text (Some left) count values → items_of left.now ≡ item ∷ items_after after → size_after after ≤ length left.now → IsTrue (is_number item)
    → length kept ≡ 17 → ((seen : List ℕ) → length seen ≡ count → take (min count 17) values ≡ take 17 seen → take (min (count + 1) 17) kept ≡ take 17 (seen ++ decimal_value item ∷ []))
    → AreRead text after (count + 1) kept
next_read {text} {left} {count} {values} after item kept read cut size is room same = record {
  seen = read.seen ++ item ∷ [];
  items = read.items ∙ ap (λ xs. read.seen ++ xs) cut ∙ sym (append_assoc read.seen (item ∷ []) (items_after after));
  count_is = simp length-append (omega (arith, read.count_is));
  numbers = none_after _ 0 read.seen item read.numbers (ap not is);
  room = room;
  kept = same (values_in read.seen) (simp length-map read.count_is) read.kept ∙ ap (take 17) (sym (map-append _ read.seen (item ∷ [])));
  size = let h = read.size in omega arith;
}

pub kept_read : {text : List ℕ} {left : Bor (List ℕ)} {count : ℕ} {values : List ℕ} (after : Option (Bor (List ℕ))) (item : List ℕ)
    → AreRead text (Some left) count values → items_of left.now ≡ item ∷ items_after after → size_after after ≤ length left.now → IsTrue (is_number item)
    → count < 17 → AreRead text after (count + 1) (set values count (decimal_value item))
kept_read {text} {left} {count} {values} after item read cut size is low =
    next_read after item _ read cut size is (simp length-set read.room) (λ seen long kept. kept_more values seen count _ low read.room long kept)

pub dropped_read : {text : List ℕ} {left : Bor (List ℕ)} {count : ℕ} {values : List ℕ} (after : Option (Bor (List ℕ))) (item : List ℕ)
    → AreRead text (Some left) count values → items_of left.now ≡ item ∷ items_after after → size_after after ≤ length left.now → IsTrue (is_number item)
    → 17 ≤ count → AreRead text after (count + 1) values
dropped_read {text} {left} {count} {values} after item read cut size is high =
    next_read after item _ read cut size is read.room (λ seen long kept. kept_all values seen count _ high long kept)

-- the kept values are refused just as all are
pub refusal_of_kept : (values : List ℕ) → refusal_of (take 17 values) ≡ refusal_of values
refusal_of_kept values = go (nat_lt 16 (length values)) refl
  where
    go : (t : Bool) → nat_lt 16 (length values) ≡ t → refusal_of (take 17 values) ≡ refusal_of values
    go true e =
        let many = ltb-true _ _ e in
        let full : length (take 17 values) ≡ 17 = simp length-take (omega arith) in
        rw (full, e) refl
    go false e = ap refusal_of (take_all 17 values (let few = ltb-false _ _ e in omega arith))

pub accepted_whole : (values : List ℕ) → refusal_of values ≡ None → take 17 values ≡ values
accepted_whole values ok = go (nat_lt 16 (length values)) refl
  where
    go : (t : Bool) → nat_lt 16 (length values) ≡ t → take 17 values ≡ values
    go true e = let no : refusal_of values ≡ Some TooMany = rw e refl in cc
    go false e = take_all 17 values (let few = ltb-false _ _ e in omega arith)

-- what follows the comma is shorter than what was left
pub size_after-less : (left : Bor (List ℕ)) (after : Option (Bor (List ℕ))) → IfSome after (λ b. length b.now < length left.now) → size_after after ≤ length left.now
size_after-less left None h = omega arith
size_after-less left (Some b) h = omega (arith, h)
