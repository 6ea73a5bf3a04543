-- Ranges of addresses, one after another.
use Rattle.std.proofs.Common.{◌≡◌, ℕ, ◌≤◌, Bool, true, false, List, [], ◌∷◌, ◌++◌, filter, cond, refl, ap, ◌∙◌, append-nil, arith}
use Rattle.std.specs.List.{AllByRecursion}
use Rattle.std.proofs.lemmas.Grind.{flat_map-append}
use Rattle.leak_lemmas.proofs.Members.{each_push}
use Rattle.leak_roots.specs.Places.{IsRange, AreRanges, BeginFrom, EndBy, addresses_in, memory_places}

pub end_later : (a b : ℕ) (rs : List (ℕ × ℕ)) → a ≤ b → EndBy a rs → EndBy b rs
end_later a b [] l h = tt
end_later a b (r ∷ rs) l h = (let e = h.0 in omega arith, end_later a b rs l h.1)

pub begin_earlier : (a b : ℕ) (rs : List (ℕ × ℕ)) → a ≤ b → BeginFrom b rs → BeginFrom a rs
begin_earlier a b [] l h = tt
begin_earlier a b (r ∷ rs) l h = (let e = h.0 in omega arith, begin_earlier a b rs l h.1)

pub each_append : (P : ℕ × ℕ → Type 0) (rs ss : List (ℕ × ℕ)) → AllByRecursion P rs → AllByRecursion P ss → AllByRecursion P (rs ++ ss)
each_append P [] ss h e = e
each_append P (r ∷ rs) ss h e = (h.0, each_append P rs ss h.1 e)

-- ranges that end before others begin
pub ranges_append : (at : ℕ) (rs ss : List (ℕ × ℕ)) → AreRanges rs → EndBy at rs → AreRanges ss → BeginFrom at ss → AreRanges (rs ++ ss)
ranges_append at [] ss h e are begin = are
ranges_append at (r ∷ rs) ss h e are begin = (h.0, each_append (λ (t : ℕ × ℕ). r.1 ≤ t.0) rs ss h.1 (begin_earlier r.1 at ss e.0 begin), ranges_append at rs ss h.2 e.1 are begin)

-- ---- those that a test keeps

pub each_kept : (P : ℕ × ℕ → Type 0) (keeps : ℕ × ℕ → Bool) (rs : List (ℕ × ℕ)) → AllByRecursion P rs → AllByRecursion P (filter keeps rs)
each_kept P keeps [] h = tt
each_kept P keeps (r ∷ rs) h = go (keeps r) (each_kept P keeps rs h.1)
  where
    go : (t : Bool) → AllByRecursion P (filter keeps rs) → AllByRecursion P (cond t (r ∷ filter keeps rs) (filter keeps rs))
    go true rest = (h.0, rest)
    go false rest = rest

pub ranges_kept : (keeps : ℕ × ℕ → Bool) (rs : List (ℕ × ℕ)) → AreRanges rs → AreRanges (filter keeps rs)
ranges_kept keeps [] h = tt
ranges_kept keeps (r ∷ rs) h = go (keeps r) (ranges_kept keeps rs h.2)
  where
    go : (t : Bool) → AreRanges (filter keeps rs) → AreRanges (cond t (r ∷ filter keeps rs) (filter keeps rs))
    go true rest = (h.0, each_kept (λ (s : ℕ × ℕ). r.1 ≤ s.0) keeps rs h.1, rest)
    go false rest = rest

pub keeps_all : (keeps : ℕ × ℕ → Bool) (rs : List (ℕ × ℕ)) → ((r : ℕ × ℕ) → keeps r ≡ true) → filter keeps rs ≡ rs
keeps_all keeps [] h = refl
keeps_all keeps (r ∷ rs) h = rw (h r) (ap (λ (ss : List (ℕ × ℕ)). r ∷ ss) (keeps_all keeps rs h))

-- one range more, whether it is kept or not
pub kept_one : (keeps : ℕ × ℕ → Bool) (r : ℕ × ℕ) → keeps r ≡ true → filter keeps (r ∷ []) ≡ r ∷ []
kept_one keeps r e = rw e refl

pub lost_one : (keeps : ℕ × ℕ → Bool) (r : ℕ × ℕ) → keeps r ≡ false → filter keeps (r ∷ []) ≡ []
lost_one keeps r e = rw e refl

pub ranges_push : (rs : List (ℕ × ℕ)) (r : ℕ × ℕ) → AreRanges rs → EndBy r.0 rs → IsRange r → AreRanges (rs ++ r ∷ [])
ranges_push [] r h e one = (one, tt, tt)
ranges_push (s ∷ ss) r h e one = (h.0, each_push (λ (t : ℕ × ℕ). s.1 ≤ t.0) ss r h.1 e.0, ranges_push ss r h.2 e.1 one)

pub places_push : (rs : List (ℕ × ℕ)) (r : ℕ × ℕ) → memory_places (rs ++ r ∷ []) ≡ memory_places rs ++ addresses_in r
places_push rs r = flat_map-append addresses_in rs (r ∷ []) ∙ ap (λ (xs : List ℕ). memory_places rs ++ xs) (append-nil (addresses_in r))
