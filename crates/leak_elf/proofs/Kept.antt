-- Segments at their place by address.
use Rattle.std.proofs.Common.{◌≡◌, ℕ, zero, suc, ◌+◌, ◌-◌, ◌<◌, ◌≤◌, Bool, true, false, cond, List, [], ◌∷◌, ◌++◌, length, get_or, take, map, filter, refl, sym, ap, ◌∙◌, arith, inl, inr, subst}
use Rattle.std.specs.List.{insert, sum_by}
use Rattle.std.proofs.lemmas.List.{append-nil}
use Rattle.std.proofs.lemmas.List.Sums.{sum_by_push}
use Rattle.std.proofs.lemmas.Bool.{cases_order}
use Rattle.std.proofs.lemmas.List.{map-append}
use Rattle.std.proofs.lemmas.List.Elements.{filter_more}
use Rattle.leak_elf.specs.declared.header.Header.{Header}
use Rattle.leak_elf.specs.declared.segment.Segment.{Segment}
use Rattle.leak_elf.specs.Segments.{by_address, ascending, IsAscending, segment_of, lacking}
use Rattle.leak_elf.specs.Headers.{has_addresses}

ascending-append : (acc xs ys : List Segment) → ascending acc (xs ++ ys) ≡ ascending (ascending acc xs) ys
ascending-append acc [] ys = refl
ascending-append acc (x ∷ xs) ys = ascending-append (by_address x acc) xs ys

abbrev pub kept : List Header → List Segment
kept hs = ascending [] (map segment_of (filter has_addresses hs))

pub kept_more : (hs : List Header) (i : ℕ) (d : Header) → i < length hs → kept (take (i + 1) hs) ≡ cond (has_addresses (get_or hs i d)) (by_address (segment_of (get_or hs i d)) (kept (take i hs))) (kept (take i hs))
kept_more hs i d l =
    let h = get_or hs i d in
    let step : (t : Bool) → ascending [] (map segment_of (filter has_addresses (take i hs) ++ cond t (h ∷ []) [])) ≡ cond t (by_address (segment_of h) (kept (take i hs))) (kept (take i hs)) =
    λ t. rw (map-append segment_of (filter has_addresses (take i hs)) (cond t (h ∷ []) []), ascending-append [] (map segment_of (filter has_addresses (take i hs))) (map segment_of (cond t (h ∷ []) [])))
    (elim t as (λ v. ascending (kept (take i hs)) (map segment_of (cond v (h ∷ []) [])) ≡ cond v (by_address (segment_of h) (kept (take i hs))) (kept (take i hs))) [ true ↦ refl | false ↦ refl ]) in
    rw (filter_more has_addresses hs i d l) (step (has_addresses h))

-- the item at an index once s is put among xs
before_place : (s : Segment) (xs : List Segment) (i k : ℕ) (d : Segment) → i ≤ length xs → k < i → get_or (insert xs i s) k d ≡ get_or xs k d
before_place s xs zero k d b l = absurd (omega arith)
before_place s [] (suc i) k d b l = absurd (omega arith)
before_place s (t ∷ ts) (suc i) zero d b l = refl
before_place s (t ∷ ts) (suc i) (suc k) d b l = before_place s ts i k d (omega arith) (omega arith)

at_place : (s : Segment) (xs : List Segment) (i : ℕ) (d : Segment) → i ≤ length xs → get_or (insert xs i s) i d ≡ s
at_place s xs zero d b = refl
at_place s [] (suc i) d b = absurd (omega arith)
at_place s (t ∷ ts) (suc i) d b = at_place s ts i d (omega arith)

behind_place : (s : Segment) (xs : List Segment) (i k : ℕ) (d : Segment) → i ≤ length xs → i ≤ k → get_or (insert xs i s) (suc k) d ≡ get_or xs k d
behind_place s xs zero k d b l = refl
behind_place s [] (suc i) k d b l = absurd (omega arith)
behind_place s (t ∷ ts) (suc i) zero d b l = absurd (omega arith)
behind_place s (t ∷ ts) (suc i) (suc k) d b l = behind_place s ts i k d (omega arith) (omega arith)

-- any two items of the new list, by where they were
pub data Was (s : Segment) (xs : List Segment) (i k : ℕ) (d y : Segment) : Type 0 where
  low : k < i → y ≡ get_or xs k d → Was s xs i k d y
  new : k ≡ i → y ≡ s → Was s xs i k d y
  high : (m : ℕ) → k ≡ suc m → i ≤ m → y ≡ get_or xs m d → Was s xs i k d y

pub was : (s : Segment) (xs : List Segment) (i k : ℕ) (d : Segment) → i ≤ length xs → Was s xs i k d (get_or (insert xs i s) k d)
was s xs i k d b =
    elim (cases_order k i) [
      | inl e ↦ new e (ap (λ (j : ℕ). get_or (insert xs i s) j d) e ∙ at_place s xs i d b)
      | inr f ↦ elim f [
        | inl t ↦ low t (before_place s xs i k d b t)
        | inr u ↦ let e : k ≡ suc (k - 1) = omega arith in high (k - 1) e (omega arith) (ap (λ (j : ℕ). get_or (insert xs i s) j d) e ∙ behind_place s xs i (k - 1) d b (omega arith))
      ]
    ]

length_insert : (s : Segment) (xs : List Segment) (i : ℕ) → i ≤ length xs → length (insert xs i s) ≡ length xs + 1
length_insert s xs zero b = omega arith
length_insert s [] (suc i) b = absurd (omega arith)
length_insert s (t ∷ ts) (suc i) b = let r = length_insert s ts i (omega arith) in omega (arith, r)

pub insert_ascends : (s : Segment) (xs : List Segment) (i : ℕ) → IsAscending xs → i ≤ length xs → ((k : ℕ) (d : Segment) → k < i → (get_or xs k d).vaddr ≤ s.vaddr) → ((k : ℕ) (d : Segment) → i ≤ k → k < length xs → s.vaddr < (get_or xs k d).vaddr) → IsAscending (insert xs i s)
insert_ascends s xs i up b p q j k d le lt =
    let n = length_insert s xs i b in
    elim (was s xs i j d b) [
      | low a e ↦ elim (was s xs i k d b) [
        | low a' e' ↦ let r = up j k d le (omega arith) in rw (e, e') r
        | new a' e' ↦ rw (e, e') (p j d a)
        | high m a' b' e' ↦ let r = up j m d (omega arith) (omega arith) in rw (e, e') r
      ]
      | new a e ↦ elim (was s xs i k d b) [
        | low a' e' ↦ absurd (omega arith)
        | new a' e' ↦ rw (e, e') (omega arith)
        | high m a' b' e' ↦ let r = q m d b' (omega arith) in rw (e, e') (omega arith)
      ]
      | high o a f e ↦ elim (was s xs i k d b) [
        | low a' e' ↦ absurd (omega arith)
        | new a' e' ↦ absurd (omega arith)
        | high m a' b' e' ↦ let r = up o m d (omega arith) (omega arith) in rw (e, e') r
      ]
    ]

abbrev lack : Segment → ℕ
lack s = s.memsz - s.filesz

abbrev writes : Segment → Bool
writes s = s.writable

-- one more segment of which the file may lack something
lacking_by : (xs : List Segment) (s : Segment) (t : Bool) → sum_by lack (filter writes xs ++ cond t (s ∷ []) []) ≡ lacking xs + cond t (s.memsz - s.filesz) 0
lacking_by xs s true = sum_by_push lack (filter writes xs) s
lacking_by xs s false = rw (append-nil (filter writes xs)) (omega arith)

pub lacking_more : (xs : List Segment) (i : ℕ) (d : Segment) (t : Bool) → i < length xs → (get_or xs i d).writable ≡ t → lacking (take (i + 1) xs) ≡ lacking (take i xs) + cond t ((get_or xs i d).memsz - (get_or xs i d).filesz) 0
lacking_more xs i d t l e =
    let y = get_or xs i d in
    let by = subst (λ (b : Bool). sum_by lack (filter writes (take i xs) ++ cond b (y ∷ []) []) ≡ lacking (take i xs) + cond t (y.memsz - y.filesz) 0) (sym e) (lacking_by (take i xs) y t) in
    ap (sum_by lack) (filter_more writes xs i d l) ∙ by
