-- A segment meets others only beside its place.
use Rattle.std.proofs.Common.{◌≡◌, ℕ, suc, ◌+◌, ◌<◌, ◌≤◌, Bool, true, false, ltb, ◌||◌, ◌&&◌, ◌∙◌, List, [], ◌∷◌, length, get_or, map, filter, refl, ◌⊎◌, inl, inr, arith}
use Rattle.std.specs.List.{list_any}
use Rattle.std.proofs.lemmas.Bool.{le-ltb, ltb-false}
use Rattle.leak_elf.specs.declared.segment.Segment.{Segment}
use Rattle.leak_elf.specs.Segments.{shares, by_address, ascending, segment_of}
use Rattle.leak_elf.specs.Headers.{has_addresses, share_address}
use Rattle.leak_elf.specs.declared.header.Header.{Header}
use Rattle.leak_elf.specs.Headers.{is_load}

pub none_any : (p : Segment → Bool) (xs : List Segment) (d : Segment) → ((k : ℕ) → k < length xs → p (get_or xs k d) ≡ false) → list_any p xs ≡ false
none_any p [] d h = refl
none_any p (x ∷ xs) d h = rw (h 0 (omega arith)) (none_any p xs d (λ k l. h (suc k) (omega arith)))

pub beside_all : (s t : Segment) → (t.vaddr + t.memsz ≤ s.vaddr) ⊎ (s.vaddr + s.memsz ≤ t.vaddr) → shares s t ≡ false
beside_all s t h = elim h [ inl p ↦ le-ltb _ _ (omega arith) | inr p ↦ le-ltb _ _ (omega arith) ]

pub swap_or : (a b c : Bool) → (a || (b || c)) ≡ (b || (a || c))
swap_or true true c = refl
swap_or true false c = refl
swap_or false true c = refl
swap_or false false c = refl

join_or : (a b c : Bool) → ((a || b) || c) ≡ (b || (a || c))
join_or true true c = refl
join_or true false c = refl
join_or false true c = refl
join_or false false c = refl

pub or_false : (a : Bool) → a ≡ (a || false)
or_false true = refl
or_false false = refl

any_by : (p : Segment → Bool) (s t : Segment) (ts : List Segment) (b : Bool) → ltb s.vaddr t.vaddr ≡ b → list_any p (by_address s ts) ≡ (p s || list_any p ts) → list_any p (by_address s (t ∷ ts)) ≡ (p s || (p t || list_any p ts))
any_by p s t ts true e ih = rw e refl
any_by p s t ts false e ih = rw (e, ih) (swap_or (p t) (p s) (list_any p ts))

pub any_by_address : (p : Segment → Bool) (s : Segment) (xs : List Segment) → list_any p (by_address s xs) ≡ (p s || list_any p xs)
any_by_address p s [] = refl
any_by_address p s (t ∷ ts) = any_by p s t ts (ltb s.vaddr t.vaddr) refl (any_by_address p s ts)

pub any_ascending : (p : Segment → Bool) (acc xs : List Segment) → list_any p (ascending acc xs) ≡ (list_any p acc || list_any p xs)
any_ascending p acc [] = or_false (list_any p acc)
any_ascending p acc (x ∷ xs) = any_ascending p (by_address x acc) xs ∙ (rw (any_by_address p x acc) (join_or (p x) (list_any p acc) (list_any p xs)))

meets_header : (h g : Header) (gs : List Header) (l m : Bool) → is_load g ≡ l → ltb 0 g.memsz ≡ m → list_any (shares (segment_of h)) (map segment_of (filter has_addresses gs)) ≡ list_any (λ g. is_load g && share_address g h) gs
    → list_any (shares (segment_of h)) (map segment_of (filter has_addresses (g ∷ gs))) ≡ ((is_load g && share_address g h) || list_any (λ g. is_load g && share_address g h) gs)
meets_header h g gs false m e f ih = rw e ih
meets_header h g gs true true e f ih = rw (e, f, ih) refl
meets_header h g gs true false e f ih =
    let z = ltb-false 0 g.memsz f in
    let none : share_address g h ≡ false = le-ltb _ _ (omega arith) in
    rw (e, f, none) ih

meets_headers : (h : Header) (hs : List Header) → list_any (shares (segment_of h)) (map segment_of (filter has_addresses hs)) ≡ list_any (λ g. is_load g && share_address g h) hs
meets_headers h [] = refl
meets_headers h (g ∷ gs) = meets_header h g gs (is_load g) (ltb 0 g.memsz) refl refl (meets_headers h gs)

-- the earlier headers that a header meets are the segments that it meets
pub same_overlap : (h : Header) (hs : List Header) → list_any (shares (segment_of h)) (ascending [] (map segment_of (filter has_addresses hs))) ≡ list_any (λ g. is_load g && share_address g h) hs
same_overlap h hs = any_ascending (shares (segment_of h)) [] (map segment_of (filter has_addresses hs)) ∙ meets_headers h hs
