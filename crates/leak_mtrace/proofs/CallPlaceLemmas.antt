-- The place of a call ends where its end is found.
use Rattle.std.proofs.Common.{◌≡◌, ◌≢◌, ℕ, suc, ◌+◌, ◌-◌, ◌<◌, ◌≤◌, inl, inr, Bool, true, false, true≢false, not, ◌&&◌, ◌||◌, ◌==◌, IsTrue, refl, sym, subst, ap, ◌∙◌, List, [], ◌∷◌, ◌++◌, Option, Some, None, slice_get, arith, length, get_or, take, drop, length-append, eqb-true, eq-eqb, ne_eqb, ⊎_elim, codes}
use Rattle.std.proofs.lemmas.Bool.{cases_lt, cases_Bool}
use Rattle.std.proofs.lemmas.Bool.Decides.{Decides-eqb}
use Rattle.std.proofs.lemmas.List.{get_or-append-add, get_or_at, get_or_append_left, take-append-drop, drop_more, take_more, length-take-le, get_or-append_right, get_or-take, get_or-drop, get_or_default}
use Rattle.std.proofs.lemmas.List.Folds.{list_any-append, list_any_at, Any-from_list_any}
use Rattle.std.proofs.lemmas.Slice.Eq.{ends_is}
use Rattle.std.specs.List.{list_all, ends_with, Any}
use Rattle.memchr.specs.Find.{IsLastByte, is_byte}
use Rattle.leak_lemmas.proofs.Bools.{and_right, and_left}
use Rattle.leak_mtrace.specs.declared.line.Kind.{Kind}
use Rattle.leak_mtrace.specs.declared.line.Kind.TheVariants.{Alloc, Free, MoveOut, MoveIn, Failed, Remark}
use Rattle.leak_mtrace.specs.Number.{IsHex, IsAddress, IsSize, IsPair, is_digit}
use Rattle.leak_mtrace.specs.Line.{IsBody, IsCall, IsPlace, sign_of}
use Rattle.leak_mtrace.specs.CallPlace.{is_sign, is_spot, IsLastSpot, IsPlaceEnd, has_bracket}
use Rattle.leak_mtrace.proofs.CallLemmas.{call_spaces}
use Rattle.std.specs.Option.{MatchOption}
use Rattle.leak_mtrace.proofs.SpotLemmas.{spot_within}
use Rattle.leak_mtrace.proofs.BodyLemmas.{call_body, call_front, call_not_remark}

-- ---- no call has a ']'

digits_plain : (digits : List ℕ) → list_all is_digit digits ≡ true → has_bracket digits ≡ false
digits_plain [] h = refl
digits_plain (d ∷ digits) h =
    let here : (d == 93) ≡ false = ne_eqb d 93 (λ e. true≢false (sym (subst (λ (b : ℕ). is_digit b ≡ true) e (and_left (is_digit d) (list_all is_digit digits) h)))) in
    ap (λ b. b || has_bracket digits) here ∙ digits_plain digits (and_right (is_digit d) (list_all is_digit digits) h)

hex_plain : (text : List ℕ) (n : ℕ) → IsHex text n → has_bracket text ≡ false
hex_plain text n h = ap has_bracket h.1 ∙ digits_plain h.0 h.4

address_plain : (text : List ℕ) (n : ℕ) → IsAddress text n → has_bracket text ≡ false
address_plain text n (inl h) = ap has_bracket h.0
address_plain text n (inr h) = hex_plain text n h

size_plain : (text : List ℕ) (n : ℕ) → IsSize text n → has_bracket text ≡ false
size_plain text n (inl h) = ap has_bracket h.0
size_plain text n (inr h) = hex_plain text n h

pair_plain : (text : List ℕ) (m n : ℕ) → IsPair text m n → has_bracket text ≡ false
pair_plain text m n h = ap has_bracket h.2 ∙ list_any-append (λ b. b == 93) h.0 (32 ∷ h.1) ∙ ap (λ b. b || has_bracket h.1) (address_plain h.0 m h.3) ∙ size_plain h.1 n h.4

body_plain : (k : Kind) (text : List ℕ) (m n : ℕ) → IsBody k text m n → has_bracket text ≡ false
body_plain Alloc text m n h = pair_plain text m n h
body_plain Free text m n h = address_plain text m h.0
body_plain MoveOut text m n h = address_plain text m h.0
body_plain MoveIn text m n h = pair_plain text m n h
body_plain Failed text m n h = pair_plain text m n h
body_plain Remark text m n h = elim h [ ]

sign_plain : (k : Kind) (rest : List ℕ) → has_bracket (sign_of k ∷ 32 ∷ rest) ≡ has_bracket rest
sign_plain Alloc rest = refl
sign_plain Free rest = refl
sign_plain MoveOut rest = refl
sign_plain MoveIn rest = refl
sign_plain Failed rest = refl
sign_plain Remark rest = refl

pub call_plain : (k : Kind) (text : List ℕ) (m n : ℕ) → IsCall k text m n → has_bracket text ≡ false
call_plain k text m n c =
    let b : (rest : List ℕ) × (text ≡ sign_of k ∷ 32 ∷ rest) × IsBody k rest m n = call_body k text m n c in
    ap has_bracket b.1 ∙ sign_plain k b.0 ∙ body_plain k b.0 m n b.2

-- ---- spots

pub sign_is : (k : Kind) → k ≢ Remark → is_sign (sign_of k) ≡ true
sign_is Alloc h = refl
sign_is Free h = refl
sign_is MoveOut h = refl
sign_is MoveIn h = refl
sign_is Failed h = refl
sign_is Remark h = absurd (h refl)

three : (x y z : ℕ) → x ≡ 32 → is_sign y ≡ true → z ≡ 32 → (x == 32 && (is_sign y && z == 32)) ≡ true
three x y z e f g = ap (λ b. b && (is_sign y && z == 32)) (eq-eqb x 32 e) ∙ ap (λ b. b && z == 32) f ∙ eq-eqb z 32 g

-- a spot follows a place
pub spot_at : (text place rest : List ℕ) (k : Kind) (m n : ℕ) → text ≡ place ++ 32 ∷ rest → IsCall k rest m n → is_spot text (length place) ≡ true
spot_at text place rest k m n e c =
    let front : (2 ≤ length rest) × (get_or rest 0 0 ≡ sign_of k) × (get_or rest 1 0 ≡ 32) = call_front k rest m n c in
    let first : get_or text (length place + 1) 0 ≡ sign_of k = ap (λ t. get_or t (length place + 1) 0) e ∙ get_or-append-add place (32 ∷ rest) 1 0 ∙ front.1 in
    three (get_or text (length place) 0) (get_or text (length place + 1) 0) (get_or text (length place + 2) 0) (ap (λ t. get_or t (length place) 0) e ∙ get_or_at place 32 rest 0 (length place) refl) (ap is_sign first ∙ sign_is k (call_not_remark k rest m n c)) (ap (λ t. get_or t (length place + 2) 0) e ∙ get_or-append-add place (32 ∷ rest) 2 0 ∙ front.2)

pub no_sign : (b : ℕ) → is_sign b ≡ true → (b ≡ 40 → ⊥) × (b ≡ 48 → ⊥)
no_sign b h = (λ e. true≢false (sym (subst (λ (x : ℕ). is_sign x ≡ true) e h)), λ e. true≢false (sym (subst (λ (x : ℕ). is_sign x ≡ true) e h)))

first_of_get : (text : List ℕ) (b : ℕ) → slice_get text 0 ≡ Some b → get_or text 0 0 ≡ b
first_of_get [] b e = absurd (let f : ⊥ = cc in f)
first_of_get (x ∷ text) b e = cc

-- a space of a call that a sign follows
no_spot_in : (rest : List ℕ) (k : Kind) (m n j : ℕ) → IsCall k rest m n → j < length rest → get_or rest j 0 ≡ 32 → is_sign (get_or rest (j + 1) 0) ≡ true → ⊥
no_spot_in rest k m n j c l e s =
    let cut : rest ≡ take j rest ++ 32 ∷ drop (j + 1) rest = sym (take-append-drop j rest) ∙ ap (λ t. take j rest ++ t) (drop_more rest j 0 l ∙ ap (λ b. b ∷ drop (j + 1) rest) e) in
    let head : get_or (drop (j + 1) rest) 0 0 ≡ get_or rest (j + 1) 0 = get_or-drop (j + 1) rest 0 0 ∙ ap (λ p. get_or rest p 0) (let f : j + 1 + 0 ≡ j + 1 = omega arith in f) in
    elim (call_spaces k rest m n c (take j rest) (drop (j + 1) rest) cut) [
      | inl b ↦ (no_sign _ s).0 (sym head ∙ first_of_get _ 40 b)
      | inr b ↦ (no_sign _ s).1 (sym head ∙ first_of_get _ 48 b)
    ]

-- no spot comes after it
pub spot_past : (text place rest : List ℕ) (k : Kind) (m n i : ℕ) → text ≡ place ++ 32 ∷ rest → IsCall k rest m n → length place < i → is_spot text i ≡ true → ⊥
spot_past text place rest k m n i e c l s =
    let j : ℕ = i - length place - 1 in
    let step : i ≡ length place + (j + 1) = omega arith in
    let there : i + 2 < length text = spot_within text i s in
    let size : length text ≡ length place + (length rest + 1) = ap length e ∙ length-append place (32 ∷ rest) ∙ omega arith in
    let at : (d : ℕ) → get_or text (i + d) 0 ≡ get_or rest (j + d) 0 =
    λ d. ap (λ t. get_or t (i + d) 0) e ∙ ap (λ p. get_or (place ++ 32 ∷ rest) p 0) (let f : i + d ≡ length place + suc (j + d) = omega arith in f) ∙ get_or-append-add place (32 ∷ rest) (suc (j + d)) 0 in
    let zeroth : get_or text i 0 ≡ get_or rest j 0 = ap (λ p. get_or text p 0) (let f : i ≡ i + 0 = omega arith in f) ∙ at 0 ∙ ap (λ p. get_or rest p 0) (let f : j + 0 ≡ j = omega arith in f) in
    let tests : (is_sign (get_or text (i + 1) 0) && get_or text (i + 2) 0 == 32) ≡ true = and_right (get_or text i 0 == 32) (is_sign (get_or text (i + 1) 0) && get_or text (i + 2) 0 == 32) s in
    no_spot_in rest k m n j c (omega arith)
    (sym zeroth ∙ eqb-true _ _ (and_left (get_or text i 0 == 32) (is_sign (get_or text (i + 1) 0) && get_or text (i + 2) 0 == 32) s))
    (ap is_sign (sym (at 1)) ∙ and_left (is_sign (get_or text (i + 1) 0)) (get_or text (i + 2) 0 == 32) tests)

-- ---- the place's end

-- a text that ends in ']'
pub ends_so : (text : List ℕ) → ends_with ◌==◌ text (codes "]") ≡ true → text ≡ take (length text - 1) text ++ 93 ∷ []
ends_so text h = (ends_is Decides-eqb text (codes "]") (ends_with ◌==◌ text (codes "]")) refl).0 h

pub bracket_false : (a b : Bool) → (not a || b) ≡ true → a ≡ true → b ≡ true
bracket_false true b h e = h
bracket_false false b h e = absurd (true≢false (sym e))

no_nil : (place : List ℕ) → place ≢ [] → 0 < length place
no_nil [] h = absurd (h refl)
no_nil (x ∷ place) h = omega arith

bracket_end : (text place rest : List ℕ) (at : ℕ) (k : Kind) (m n : ℕ) → IsLastByte (is_byte 93) text (Some at) → text ≡ place ++ 32 ∷ rest → IsPlace place → IsCall k rest m n → at + 1 ≡ length place
bracket_end text place rest at k m n f e p c =
    let size : length text ≡ length place + (length rest + 1) = ap length e ∙ length-append place (32 ∷ rest) ∙ omega arith in
    let high : at < length text = f.0.high in
    let there : get_or text at 0 ≡ 93 = eqb-true _ _ f.1 in
    let inside : at < length place = ⊎_elim (λ l. l) (λ g.
    let i : ℕ = at - length place in
    let behind : get_or (32 ∷ rest) i 0 ≡ 93 = sym (ap (λ t. get_or t at 0) e ∙ get_or-append_right place (32 ∷ rest) (length place) at 0 refl g) ∙ there in
    absurd (true≢false (sym (list_any_at (λ b. b == 93) (32 ∷ rest) i 0 (omega arith) (eq-eqb _ _ behind)) ∙ call_plain k rest m n c)))
    (cases_lt at (length place)) in
    let here : get_or place at 0 ≡ 93 = sym (ap (λ t. get_or t at 0) e ∙ get_or_append_left place (32 ∷ rest) 0 at inside) ∙ there in
    let some : has_bracket place ≡ true = list_any_at (λ b. b == 93) place at 0 inside (eq-eqb _ _ here) in
    let ends : place ≡ take (length place - 1) place ++ 93 ∷ [] = ends_so place (bracket_false (has_bracket place) (ends_with ◌==◌ place (codes "]")) p.1 some) in
    let last : ℕ = length place - 1 in
    let front : length (take last place) ≡ last = length-take-le last place (omega arith) in
    let at_last : get_or place last 0 ≡ 93 = ap (λ t. get_or t last 0) ends ∙ get_or_at (take last place) 93 [] 0 last front in
    let in_text : get_or text last 0 ≡ 93 = ap (λ t. get_or t last 0) e ∙ get_or_append_left place (32 ∷ rest) 0 last (omega arith) ∙ at_last in
    ⊎_elim (λ l. absurd (f.0.after last (omega arith) (omega arith) (eq-eqb _ _ in_text))) (λ g. omega arith) (cases_lt at last)

spot_end : (text place rest : List ℕ) (r : Option ℕ) (k : Kind) (m n : ℕ) → IsLastSpot text r → text ≡ place ++ 32 ∷ rest → IsCall k rest m n → r ≡ Some (length place)
spot_end text place rest None k m n f e c =
    let here : is_spot text (length place) ≡ true = spot_at text place rest k m n e c in
    let within : length place + 2 < length text = spot_within text (length place) here in
    absurd (f (length place) (omega arith) (omega arith) here)
spot_end text place rest (Some i) k m n f e c =
    let here : is_spot text (length place) ≡ true = spot_at text place rest k m n e c in
    let within : length place + 2 < length text = spot_within text (length place) here in
    let early : i < length place → ⊥ = λ l. f.0.after (length place) (omega arith) (omega arith) here in
    let late : length place < i → ⊥ = λ l. spot_past text place rest k m n i e c l f.1 in
    let same : i ≡ length place = ⊎_elim (λ l. absurd (early l)) (λ g. ⊎_elim (λ l. absurd (late l)) (λ g'. omega arith) (cases_lt (length place) i)) (cases_lt i (length place)) in
    ap (λ x. Some x) same

pub place_end_is : (text place rest : List ℕ) (r : Option ℕ) (k : Kind) (m n : ℕ) → IsPlaceEnd text r → text ≡ place ++ 32 ∷ rest → IsPlace place → IsCall k rest m n → r ≡ Some (length place)
place_end_is text place rest r k m n h e p c = go h.0 h.1 h.2
  where
    go : (bracket : Option ℕ) → IsLastByte (is_byte 93) text bracket → MatchOption bracket (IsLastSpot text r) (λ at. r ≡ Some (at + 1)) → r ≡ Some (length place)
    go None f g = spot_end text place rest r k m n g e c
    go (Some at) f g = g ∙ ap (λ x. Some x) (bracket_end text place rest at k m n f e p c)

pub not_or_left : (a b : Bool) → a ≡ false → (not a || b) ≡ true
not_or_left a b e = ap (λ x. not x || b) e

pub not_or_right : (a b : Bool) → b ≡ true → (not a || b) ≡ true
not_or_right true b e = e
not_or_right false b e = refl

take_some : (end : ℕ) (text : List ℕ) → 0 < end → end ≤ length text → take end text ≢ []
take_some end text h l e = absurd (omega (arith, sym (ap length e) ∙ length-take-le end text l))

end_same : {x y : ℕ} → Some x ≡ Some y → x ≡ y
end_same e = cc

pub place_end_within : (text : List ℕ) (end : ℕ) → IsPlaceEnd text (Some end) → end ≤ length text
place_end_within text end h = go h.0 h.1 h.2
  where
    go : (bracket : Option ℕ) → IsLastByte (is_byte 93) text bracket → MatchOption bracket (IsLastSpot text (Some end)) (λ at. Some end ≡ Some (at + 1)) → end ≤ length text
    go None f g = omega (arith, g.0.high)
    go (Some at) f g = omega (arith, end_same g, f.0.high)

-- a ']' in a front of a text
bracket_in_front : (text : List ℕ) (end : ℕ) → end ≤ length text → has_bracket (take end text) ≡ true → IsLastByte (is_byte 93) text None → ⊥
bracket_in_front text end l t f = go (Any-from_list_any (λ b. b == 93) (take end text) t)
  where
    go : Any (λ x. (x == 93) ≡ true) (take end text) → ⊥
    go a =
        let size : length (take end text) ≡ end = length-take-le end text l in
        let below : a.0 < end = omega (arith, a.2, size) in
        let is : a.1 ≡ 93 = eqb-true _ _ a.4 in
        f a.0 (omega arith) (omega arith) (eq-eqb _ _ (get_or_default text a.0 0 a.1 (omega arith) ∙ sym (get_or-take end text a.0 a.1 below) ∙ a.3 ∙ is))

-- what comes before the end that was found is a place
pub place_end_place : (text : List ℕ) (end : ℕ) → IsPlaceEnd text (Some end) → 0 < end → IsPlace (take end text)
place_end_place text end h some = (take_some end text some (place_end_within text end h), go h.0 h.1 h.2)
  where
    go : (bracket : Option ℕ) → IsLastByte (is_byte 93) text bracket → MatchOption bracket (IsLastSpot text (Some end)) (λ at. Some end ≡ Some (at + 1)) → IsTrue (not (has_bracket (take end text)) || ends_with ◌==◌ (take end text) (codes "]"))
    go None f g = not_or_left (has_bracket (take end text)) _ (⊎_elim (λ t. absurd (bracket_in_front text end (place_end_within text end h) t f)) (λ t. t) (cases_Bool (has_bracket (take end text))))
    go (Some at) f g = not_or_right (has_bracket (take end text)) _ (
        let same : end ≡ at + 1 = end_same g in
        let high : at < length text = f.0.high in
        let whole : take end text ≡ take at text ++ 93 ∷ [] = ap (λ n. take n text) same ∙ take_more text at 0 high ∙ ap (λ b. take at text ++ b ∷ []) (eqb-true _ _ f.1) in
        (ends_is Decides-eqb (take end text) (codes "]") (ends_with ◌==◌ (take end text) (codes "]")) refl).1 (take at text) whole)
