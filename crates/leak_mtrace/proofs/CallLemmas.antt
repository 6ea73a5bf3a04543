-- A call's text has one reading.
use Rattle.std.proofs.Common.{◌≡◌, ◌≢◌, ℕ, ◌⊎◌, inl, inr, refl, sym, subst, ap, ◌∙◌, List, [], ◌∷◌, ◌++◌, Some, slice_get, arith, append_assoc, ◌==◌, if◌then◌else◌}
use Rattle.std.proofs.lemmas.Option.{same_Some, none-some}
use Rattle.leak_mtrace.specs.declared.line.Kind.{Kind}
use Rattle.leak_mtrace.specs.declared.line.Kind.TheVariants.{Alloc, Free, MoveOut, MoveIn, Failed, Remark}
use Rattle.leak_mtrace.specs.Number.{IsHex, IsAddress, IsSize, value_of}
use Rattle.leak_mtrace.specs.Line.{IsSized, IsBare, IsCall, sign_of}
use Rattle.leak_mtrace.proofs.SplitLemmas.{tail, head, no_cons, HasNoSpace, no_space_in, behind, compared, digits_no_space}

-- ---- numbers

-- it begins with ( or 0
abbrev pub Begins : List ℕ → Type 0
Begins text = (slice_get text 0 ≡ Some 40) ⊎ (slice_get text 0 ≡ Some 48)

hex_no_space : (text : List ℕ) (n : ℕ) → IsHex text n → HasNoSpace text
hex_no_space text n h = subst HasNoSpace (sym h.1) ((λ e. absurd (omega (arith, e))), ((λ e. absurd (omega (arith, e))), digits_no_space h.0 h.4))

pub address_no_space : (text : List ℕ) (n : ℕ) → IsAddress text n → HasNoSpace text
address_no_space text n (inl h) = subst HasNoSpace (sym h.0) ((λ e. absurd (omega (arith, e))), ((λ e. absurd (omega (arith, e))), ((λ e. absurd (omega (arith, e))), ((λ e. absurd (omega (arith, e))), ((λ e. absurd (omega (arith, e))), tt)))))
address_no_space text n (inr h) = hex_no_space text n h

pub size_no_space : (text : List ℕ) (n : ℕ) → IsSize text n → HasNoSpace text
size_no_space text n (inl h) = subst HasNoSpace (sym h.0) ((λ e. absurd (omega (arith, e))), tt)
size_no_space text n (inr h) = hex_no_space text n h

pub address_begins : (text : List ℕ) (n : ℕ) → IsAddress text n → Begins text
address_begins text n (inl h) = inl (ap (λ t. slice_get t 0) h.0)
address_begins text n (inr h) = inr (ap (λ t. slice_get t 0) h.1)

size_begins : (text : List ℕ) (n : ℕ) → IsSize text n → Begins text
size_begins text n (inl h) = inr (ap (λ t. slice_get t 0) h.0)
size_begins text n (inr h) = inr (ap (λ t. slice_get t 0) h.1)

pub begins_append : (text more : List ℕ) → Begins text → Begins (text ++ more)
begins_append [] more (inl e) = absurd (none-some 40 e)
begins_append [] more (inr e) = absurd (none-some 48 e)
begins_append (x ∷ text) more h = h

one_hex : (text : List ℕ) (m n : ℕ) → IsHex text m → IsHex text n → m ≡ n
one_hex text m n h k = h.5 ∙ ap value_of (tail (tail (sym h.1 ∙ k.1))) ∙ sym k.5

one_address : (text : List ℕ) (m n : ℕ) → IsAddress text m → IsAddress text n → m ≡ n
one_address text m n (inl h) (inl k) = h.1 ∙ sym k.1
one_address text m n (inl h) (inr k) = absurd (omega (arith, head (sym h.0 ∙ k.1)))
one_address text m n (inr h) (inl k) = absurd (omega (arith, head (sym h.1 ∙ k.0)))
one_address text m n (inr h) (inr k) = one_hex text m n h k

one_size : (text : List ℕ) (m n : ℕ) → IsSize text m → IsSize text n → m ≡ n
one_size text m n (inl h) (inl k) = h.1 ∙ sym k.1
one_size text m n (inl h) (inr k) = absurd (no_cons (tail (sym h.0 ∙ k.1)))
one_size text m n (inr h) (inl k) = absurd (no_cons (tail (sym k.0 ∙ h.1)))
one_size text m n (inr h) (inr k) = one_hex text m n h k

-- ---- calls, after the sign

-- an address, a space and a size
sized_one : (a s a' s' : List ℕ) (m n m' n' : ℕ) → IsAddress a m → IsSize s n → IsAddress a' m' → IsSize s' n' → a ++ 32 ∷ s ≡ a' ++ 32 ∷ s' → (m ≡ m') × (n ≡ n')
sized_one a s a' s' m n m' n' h k h' k' e = elim (compared a a' s s' e) [
  | inl same ↦ (one_address a m m' h (subst (λ (t : List ℕ). IsAddress t m') (sym same.0) h'), one_size s n n' k (subst (λ (t : List ℕ). IsSize t n') (sym same.1) k'))
  | inr other ↦ elim other [ inl q ↦ absurd (no_space_in s q.0 s' (size_no_space s n k) q.1) | inr q ↦ absurd (no_space_in s' q.0 s (size_no_space s' n' k') q.1) ]
]

-- what follows a space in it begins with ( or 0
sized_spaces : (a s : List ℕ) (m n : ℕ) → IsAddress a m → IsSize s n → (q r : List ℕ) → a ++ 32 ∷ s ≡ q ++ 32 ∷ r → Begins r
sized_spaces a s m n h k q r e = go (behind a (32 ∷ s) q r (address_no_space a m h) e)
  where
    go : (p : List ℕ) × (32 ∷ s ≡ p ++ 32 ∷ r) → Begins r
    go = λ (p, f). at p f
      where
        at : (p : List ℕ) → 32 ∷ s ≡ p ++ 32 ∷ r → Begins r
        at [] f = subst Begins (tail f) (size_begins s n k)
        at (y ∷ p) f = absurd (no_space_in s p r (size_no_space s n k) (tail f))

pub regroup : (a s : List ℕ) → (a ++ 32 ∷ []) ++ s ≡ a ++ 32 ∷ s
regroup a s = append_assoc a (32 ∷ []) s

-- what follows a space in a sign, a space and a text
sign_spaces : (sign : ℕ) (text : List ℕ) → sign ≢ 32 → Begins text → ((q r : List ℕ) → text ≡ q ++ 32 ∷ r → Begins r) → (q r : List ℕ) → sign ∷ 32 ∷ text ≡ q ++ 32 ∷ r → Begins r
sign_spaces sign text other here rest [] r e = absurd (other (head e))
sign_spaces sign text other here rest (x ∷ []) r e = subst Begins (tail (tail e)) here
sign_spaces sign text other here rest (x ∷ y ∷ q) r e = rest q r (tail (tail e))

-- ---- calls

abbrev pub kind_of : ℕ → Kind
kind_of n = if n == 43 then Alloc else (if n == 45 then Free else (if n == 60 then MoveOut else (if n == 62 then MoveIn else (if n == 33 then Failed else Remark))))

pub kind_of_sign : (k : Kind) → kind_of (sign_of k) ≡ k
kind_of_sign Alloc = refl
kind_of_sign Free = refl
kind_of_sign MoveOut = refl
kind_of_sign MoveIn = refl
kind_of_sign Failed = refl
kind_of_sign Remark = refl

-- the first byte is the sign
pub first_byte : (k : Kind) (text : List ℕ) (m n : ℕ) → IsCall k text m n → slice_get text 0 ≡ Some (sign_of k)
first_byte Alloc text m n c = ap (λ t. slice_get t 0) c.2
first_byte Free text m n c = ap (λ t. slice_get t 0) c.1
first_byte MoveOut text m n c = ap (λ t. slice_get t 0) c.1
first_byte MoveIn text m n c = ap (λ t. slice_get t 0) c.2
first_byte Failed text m n c = ap (λ t. slice_get t 0) c.2
first_byte Remark text m n c = elim c [ ]

pub one_kind : (k k' : Kind) (text : List ℕ) (m n m' n' : ℕ) → IsCall k text m n → IsCall k' text m' n' → k ≡ k'
one_kind k k' text m n m' n' c d =
    sym (kind_of_sign k) ∙ ap kind_of (same_Some (sign_of k) (sign_of k') (sym (first_byte k text m n c) ∙ first_byte k' text m' n' d)) ∙ kind_of_sign k'

-- no call begins after a space of a call
pub begins_no_sign : (k : Kind) (r : List ℕ) (m n : ℕ) → IsCall k r m n → Begins r → ⊥
begins_no_sign k r m n c b = go k (first_byte k r m n c) c b
  where
    go : (k : Kind) → slice_get r 0 ≡ Some (sign_of k) → IsCall k r m n → Begins r → ⊥
    go Alloc e c (inl s) = absurd (omega (arith, same_Some _ _ (sym e ∙ s)))
    go Alloc e c (inr s) = absurd (omega (arith, same_Some _ _ (sym e ∙ s)))
    go Free e c (inl s) = absurd (omega (arith, same_Some _ _ (sym e ∙ s)))
    go Free e c (inr s) = absurd (omega (arith, same_Some _ _ (sym e ∙ s)))
    go MoveOut e c (inl s) = absurd (omega (arith, same_Some _ _ (sym e ∙ s)))
    go MoveOut e c (inr s) = absurd (omega (arith, same_Some _ _ (sym e ∙ s)))
    go MoveIn e c (inl s) = absurd (omega (arith, same_Some _ _ (sym e ∙ s)))
    go MoveIn e c (inr s) = absurd (omega (arith, same_Some _ _ (sym e ∙ s)))
    go Failed e c (inl s) = absurd (omega (arith, same_Some _ _ (sym e ∙ s)))
    go Failed e c (inr s) = absurd (omega (arith, same_Some _ _ (sym e ∙ s)))
    go Remark e c s = c

sized_call_spaces : (sign : ℕ) (text : List ℕ) (m n : ℕ) → sign ≢ 32 → IsSized (sign ∷ 32 ∷ []) text m n → (q r : List ℕ) → text ≡ q ++ 32 ∷ r → Begins r
sized_call_spaces sign text m n other c q r e =
    sign_spaces sign (c.0 ++ 32 ∷ c.1) other (begins_append c.0 (32 ∷ c.1) (address_begins c.0 m c.3)) (sized_spaces c.0 c.1 m n c.3 c.4) q r
    (ap (λ t. sign ∷ 32 ∷ t) (sym (regroup c.0 c.1)) ∙ sym c.2 ∙ e)

bare_call_spaces : (sign : ℕ) (text : List ℕ) (m n : ℕ) → sign ≢ 32 → IsBare (sign ∷ 32 ∷ []) text m n → (q r : List ℕ) → text ≡ q ++ 32 ∷ r → Begins r
bare_call_spaces sign text m n other c q r e =
    sign_spaces sign c.0 other (address_begins c.0 m c.2) (λ q r f. absurd (no_space_in c.0 q r (address_no_space c.0 m c.2) f)) q r (sym c.1 ∙ e)

pub call_spaces : (k : Kind) (text : List ℕ) (m n : ℕ) → IsCall k text m n → (q r : List ℕ) → text ≡ q ++ 32 ∷ r → Begins r
call_spaces Alloc text m n c = sized_call_spaces 43 text m n (λ e. absurd (omega (arith, e))) c
call_spaces Free text m n c = bare_call_spaces 45 text m n (λ e. absurd (omega (arith, e))) c
call_spaces MoveOut text m n c = bare_call_spaces 60 text m n (λ e. absurd (omega (arith, e))) c
call_spaces MoveIn text m n c = sized_call_spaces 62 text m n (λ e. absurd (omega (arith, e))) c
call_spaces Failed text m n c = sized_call_spaces 33 text m n (λ e. absurd (omega (arith, e))) c
call_spaces Remark text m n c = elim c [ ]

pub no_call_within : (k k' : Kind) (text r : List ℕ) (m n m' n' : ℕ) → IsCall k text m n → IsCall k' r m' n' → (q : List ℕ) → text ≡ q ++ 32 ∷ r → ⊥
no_call_within k k' text r m n m' n' c d q e = begins_no_sign k' r m' n' d (call_spaces k text m n c q r e)

one_sized : (sign : List ℕ) (x y : ℕ) (text : List ℕ) (m n m' n' : ℕ) → IsSized (x ∷ y ∷ []) text m n → IsSized (x ∷ y ∷ []) text m' n' → (m ≡ m') × (n ≡ n')
one_sized sign x y text m n m' n' c d =
    sized_one c.0 c.1 d.0 d.1 m n m' n' c.3 c.4 d.3 d.4 (sym (regroup c.0 c.1) ∙ tail (tail (sym c.2 ∙ d.2)) ∙ regroup d.0 d.1)

one_bare : (x y : ℕ) (text : List ℕ) (m n m' n' : ℕ) → IsBare (x ∷ y ∷ []) text m n → IsBare (x ∷ y ∷ []) text m' n' → (m ≡ m') × (n ≡ n')
one_bare x y text m n m' n' c d =
    (one_address c.0 m m' c.2 (subst (λ (t : List ℕ). IsAddress t m') (sym (tail (tail (sym c.1 ∙ d.1)))) d.2), c.3 ∙ sym d.3)

pub one_call : (k : Kind) (text : List ℕ) (m n m' n' : ℕ) → IsCall k text m n → IsCall k text m' n' → (m ≡ m') × (n ≡ n')
one_call Alloc text m n m' n' c d = one_sized [] 43 32 text m n m' n' c d
one_call Free text m n m' n' c d = one_bare 45 32 text m n m' n' c d
one_call MoveOut text m n m' n' c d = one_bare 60 32 text m n m' n' c d
one_call MoveIn text m n m' n' c d = one_sized [] 62 32 text m n m' n' c d
one_call Failed text m n m' n' c d = one_sized [] 33 32 text m n m' n' c d
one_call Remark text m n m' n' c d = elim c [ ]
