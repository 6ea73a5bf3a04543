-- Words that lead nowhere may be left out.
use Rattle.std.proofs.Common.{◌≡◌, ℕ, zero, suc, ◌+◌, Bool, true, false, refl, ap, sym, ◌∙◌, subst, List, [], ◌∷◌, ◌++◌, Option, Some, None, IsSome, true≢false, if◌then◌else◌}
use Rattle.std.specs.List.{cons_option}
use Rattle.leak_index.specs.Hits.{Index, hits_of}
use Rattle.leak_scan.specs.Targets.{targets_of}
use Rattle.leak_scan.specs.Positions.{is_in, listed_word, words_from, LeadsNowhere}
use Rattle.leak_scan.proofs.Ranges.{IsAligned, no_addresses, step}
use Rattle.leak_scan.proofs.Ahead.{targets_none, targets_skip, targets_more}

abbrev pub unless_none : List ℕ → ℕ → Option ℕ
unless_none [] word = None
unless_none (hit ∷ hits) word = Some word

-- the word if it leads to a block
abbrev pub leading : Index → Option ℕ → Option ℕ
leading index None = None
leading index (Some word) = unless_none (hits_of index word) word

-- the words that lead to a block
abbrev pub lead : Index → (ℕ → Option ℕ) → ℕ → Option ℕ
lead index f a = leading index (f a)

pub leads_none : (index : Index) (x : Option ℕ) → LeadsNowhere index x → leading index x ≡ None
leads_none index None h = refl
leads_none index (Some word) h = ap (λ hits. unless_none hits word) h

some_of : (index : Index) (x : Option ℕ) → IsSome (leading index x) → IsSome x
some_of index None s = s
some_of index (Some word) s = refl

pub lead_aligned : (index : Index) (f : ℕ → Option ℕ) → IsAligned f → IsAligned (lead index f)
lead_aligned index f aligned a s = aligned a (some_of index (f a) s)

-- an address that has no word
pub nowhere : (index : Index) (x : Option ℕ) → (IsSome x → ⊥) → LeadsNowhere index x
nowhere index None h = tt
nowhere index (Some word) h = absurd (h refl)

pub not_leading : (index : Index) (x : Option ℕ) → LeadsNowhere index x → IsSome (leading index x) → ⊥
not_leading index x h s = true≢false (sym (subst (λ (y : Option ℕ). IsSome y) (leads_none index x h) s))

pub listed_lead : (index : Index) (f : ℕ → Option ℕ) (pages : Option (List ℕ)) (a : ℕ) → listed_word (lead index f) pages a ≡ leading index (listed_word f pages a)
listed_lead index f pages a = go (is_in pages a) (f a)
  where
    go : (t : Bool) (x : Option ℕ) → (if t then leading index x else None) ≡ leading index (if t then x else None)
    go true x = refl
    go false x = refl

one_left_out : (index : Index) (x : Option ℕ) (words : List ℕ) → targets_of index (cons_option x words) ≡ targets_of index (cons_option (leading index x) words)
one_left_out index None words = refl
one_left_out index (Some word) words = go (hits_of index word) refl
  where
    go : (hits : List ℕ) → hits_of index word ≡ hits → targets_of index (word ∷ words) ≡ targets_of index (cons_option (unless_none hits word) words)
    go [] e = targets_skip index word words (sym e)
    go (hit ∷ hits) e = refl

then_same : (index : Index) (x : Option ℕ) (words others : List ℕ) → targets_of index words ≡ targets_of index others → targets_of index (cons_option x words) ≡ targets_of index (cons_option x others)
then_same index None words others e = e
then_same index (Some word) words others e = targets_more index word words ∙ ap (λ ts. hits_of index word ++ ts) e ∙ sym (targets_more index word others)

-- the others lead to the same blocks
pub left_out : (index : Index) (f g : ℕ → Option ℕ) (from count : ℕ) → ((a : ℕ) → g a ≡ leading index (f a)) → targets_of index (words_from f from count) ≡ targets_of index (words_from g from count)
left_out index f g from zero h = ap (targets_of index) (no_addresses f from ∙ sym (no_addresses g from))
left_out index f g from (suc n) h =
    ap (targets_of index) (step f from n)
    ∙ one_left_out index (f from) (words_from f (from + 1) n)
    ∙ ap (λ x. targets_of index (cons_option x (words_from f (from + 1) n))) (sym (h from))
    ∙ then_same index (g from) (words_from f (from + 1) n) (words_from g (from + 1) n) (left_out index f g (from + 1) n h)
    ∙ ap (targets_of index) (sym (step g from n))

-- no words, and no addresses left
pub none_found : (index : Index) (f : ℕ → Option ℕ) (from : ℕ) (words : List ℕ) → words ≡ [] → targets_of index words ≡ targets_of index [] ++ targets_of index (words_from f from 0)
none_found index f from words e =
    ap (targets_of index) e ∙ ap (λ ts. ts ++ targets_of index []) (sym (targets_none index)) ∙ ap (λ xs. targets_of index [] ++ targets_of index xs) (sym (no_addresses f from))
