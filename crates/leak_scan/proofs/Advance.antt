-- One step of a scan over addresses.
use Rattle.std.proofs.Common.{◌≡◌, ℕ, ◌+◌, ◌-◌, ◌<◌, ◌≤◌, Bool, true, false, refl, ap, sym, ◌∙◌, List, [], ◌∷◌, ◌++◌, Option, Some, None, IsSome, ◌⊎◌, inl, inr, if◌then◌else◌, arith, filter_map, filter, cond}
use Rattle.std.proofs.lemmas.Bool.{cases_lt}
use Rattle.std.specs.List.{cons_option}
use Rattle.leak_index.specs.Hits.{Index}
use Rattle.leak_scan.specs.declared.reading.ReadWords.{ReadWords}
use Rattle.leak_scan.specs.Targets.{targets_of}
use Rattle.leak_scan.specs.Positions.{is_in, listed_word, words_from, words_found, IsRead, IsFirstWindowAt, LeadsNowhere}
use Rattle.leak_scan.proofs.Ahead.{targets_append}
use Rattle.leak_scan.proofs.Leading.{lead, leads_none, lead_aligned, left_out, listed_lead, none_found, not_leading}
use Rattle.leak_scan.proofs.Ranges.{IsAligned, nothing_in, same_range, skip, split, agreeing}

on_pages : (word_at : ℕ → Option ℕ) (pages : Option (List ℕ)) (a : ℕ) → is_in pages a ≡ true → listed_word word_at pages a ≡ word_at a
on_pages word_at pages a h = ap (λ t. if t then word_at a else None) h

off_pages : (word_at : ℕ → Option ℕ) (pages : Option (List ℕ)) (a : ℕ) → is_in pages a ≡ false → listed_word word_at pages a ≡ None
off_pages word_at pages a h = ap (λ t. if t then word_at a else None) h

no_word : (word_at : ℕ → Option ℕ) (pages : Option (List ℕ)) (a : ℕ) → word_at a ≡ None → listed_word word_at pages a ≡ None
no_word word_at pages a h = go (is_in pages a) (word_at a) h
  where
    go : (t : Bool) (x : Option ℕ) → x ≡ None → (if t then x else None) ≡ None
    go true x e = e
    go false x e = refl

word_cases : (x : Option ℕ) → (x ≡ None) ⊎ IsSome x
word_cases None = inl refl
word_cases (Some v) = inr refl

-- no address may be read
pub advance_none : (word_at : ℕ → Option ℕ) (pages : Option (List ℕ)) (from count : ℕ) → ((a : ℕ) → from ≤ a → a < from + count → is_in pages a ≡ false) → words_from (listed_word word_at pages) from count ≡ []
advance_none word_at pages from count h = nothing_in _ from count (λ a l u. off_pages word_at pages a (h a l u))

-- none that may has a word
pub advance_end : (word_at : ℕ → Option ℕ) (pages : Option (List ℕ)) (from count start window : ℕ) → IsFirstWindowAt pages from count start window → ((a : ℕ) → start ≤ a → word_at a ≡ None) → words_from (listed_word word_at pages) from count ≡ []
advance_end word_at pages from count start window first ended = nothing_in _ from count (λ a l u. at a l (cases_lt a start))
  where
    at : (a : ℕ) → from ≤ a → (a < start) ⊎ (start ≤ a) → listed_word word_at pages a ≡ None
    at a l (inl h) = off_pages word_at pages a (first.none a l h)
    at a l (inr h) = no_word word_at pages a (ended a h)

-- the same if words that may be read lead nowhere
pub advance_idle : (index : Index) (word_at : ℕ → Option ℕ) (pages : Option (List ℕ)) (from count start window : ℕ) → IsFirstWindowAt pages from count start window → ((a : ℕ) → start ≤ a → LeadsNowhere index (word_at a)) →
    targets_of index (words_from (listed_word word_at pages) from count) ≡ targets_of index [] ++ targets_of index (words_from (listed_word word_at pages) from 0)
advance_idle index word_at pages from count start window first ended =
    let f = listed_word (lead index word_at) pages in
    left_out index (listed_word word_at pages) f from count (listed_lead index word_at pages)
    ∙ none_found index (listed_word word_at pages) from (words_from f from count) (advance_end (lead index word_at) pages from count start window first (λ a l. leads_none index (word_at a) (ended a l)))

-- words were read
pub advance_read : (index : Index) (word_at : ℕ → Option ℕ) (pages : Option (List ℕ)) (from count start window later left : ℕ) (found : ReadWords) → IsAligned word_at → IsFirstWindowAt pages from count start window → IsRead word_at index start window found later → left ≡ count - (later - from) →
    targets_of index (words_from (listed_word word_at pages) from count) ≡ targets_of index (words_found found) ++ targets_of index (words_from (listed_word word_at pages) later left)
advance_read index word_at pages from count start window later left found aligned first read e =
    let f = listed_word (lead index word_at) pages in
    let rest = count - (start - from) - (later - start) in
    let behind = first.behind in
    let on = read.on in
    left_out index (listed_word word_at pages) f from count (listed_lead index word_at pages)
    ∙ ap (targets_of index) (
    skip f (start - from) from count start (count - (start - from)) (omega arith) refl (λ a l u. off_pages (lead index word_at) pages a (first.none a l (omega (arith, u))))
    ∙ split f (later - start) start (count - (start - from)) later (omega arith) (λ a l u. outside a l u (word_cases (lead index word_at a))))
    ∙ targets_append index (words_from f start (later - start)) (words_from f later rest)
    ∙ ap (λ ts. ts ++ targets_of index (words_from f later rest)) (
    ap (targets_of index) (agreeing f (lead index word_at) start (later - start) (λ a l u. same a l u (word_cases (lead index word_at a))))
    ∙ sym (left_out index word_at (lead index word_at) start (later - start) (λ a. refl)) ∙ read.words)
    ∙ ap (λ ws. targets_of index (words_found found) ++ targets_of index ws) (same_range f later later rest left refl (omega arith))
    ∙ ap (λ ts. targets_of index (words_found found) ++ ts) (sym (left_out index (listed_word word_at pages) f later left (listed_lead index word_at pages)))
  where
    within : (a : ℕ) → a < later → IsSome (lead index word_at a) → a < start + window
    within a u s = elim (cases_lt a (start + window)) [ inl l ↦ l | inr m ↦ absurd (not_leading index (word_at a) (read.outside a m u) s) ]

    outside : (a : ℕ) → start + (count - (start - from)) ≤ a → a < start + (later - start) → (lead index word_at a ≡ None) ⊎ IsSome (lead index word_at a) → listed_word (lead index word_at) pages a ≡ None
    outside a l u (inl h) = no_word (lead index word_at) pages a h
    outside a l u (inr h) = let on = read.on in let inside : a < start + window = within a (omega (arith, u)) h in absurd (omega (arith, first.within, first.behind, l))

    same : (a : ℕ) → start ≤ a → a < start + (later - start) → (lead index word_at a ≡ None) ⊎ IsSome (lead index word_at a) → listed_word (lead index word_at) pages a ≡ lead index word_at a
    same a l u (inl h) = no_word (lead index word_at) pages a h ∙ sym h
    same a l u (inr h) = let on = read.on in on_pages (lead index word_at) pages a (first.all a l (within a (omega (arith, u)) h) (lead_aligned index word_at aligned a h))

-- leaving out elements is the same as giving nothing for them
pub filtered : (f : ℕ → Option ℕ) (p : ℕ → Bool) (xs : List ℕ) → filter_map (λ a. if p a then f a else None) xs ≡ filter_map f (filter p xs)
filtered f p [] = refl
filtered f p (x ∷ xs) = go (p x) (filtered f p xs)
  where
    go : (t : Bool) → filter_map (λ a. if p a then f a else None) xs ≡ filter_map f (filter p xs) → cons_option (if t then f x else None) (filter_map (λ a. if p a then f a else None) xs) ≡ filter_map f (cond t (x ∷ filter p xs) (filter p xs))
    go true e = ap (cons_option (f x)) e
    go false e = e
