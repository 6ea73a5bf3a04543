-- Scanning, target by target.
use Rattle.std.proofs.Common.{◌≡◌, ◌⊎◌, ℕ, ◌<◌, List, [], ◌∷◌, ◌++◌, refl, sym, ap, ◌∙◌, subst, inl, inr, ⊎_elim, arith, append_assoc}
use Rattle.leak_marks.specs.Lists.{Has, IsDistinct}
use Rattle.leak_marks.specs.Seats.{Held, IsSound}
use Rattle.leak_marks.proofs.ListLemmas.{here, there, at_head, has_front, has_back, has_last, of_append, distinct_back, distinct_apart}
use Rattle.std.proofs.lemmas.List.{append-nil}
use Rattle.leak_marks.specs.Rounds.{IsKeptInRounds}
use Rattle.leak_pool.specs.Promises.{IsScanned, IsScanning}

pub none_has : {A : Type 0} (b : ℕ) → Has [] b → A
none_has b h = absurd (let z : 0 < 0 = h in omega arith)

-- at the start
pub scanning_none : (item : ℕ → Type 0) (rest : List ℕ) (seat : Held) (list : List ℕ) → IsSound seat → ((b : ℕ) → item b → Has rest b) → ((b : ℕ) → Has rest b → item b) → IsScanning item rest seat list seat list
scanning_none item rest seat list sound all some = record {
  table = refl;
  share = refl;
  sound = sound;
  listed = λ base e. e;
  some = some;
  scanned = record { keeps = λ b h. h; covers = λ b i. inr (all b i); gains = λ b h. inl h; grown = ([], sym (append-nil list)) };
}

-- one target more
pub scanning_more : (item : ℕ → Type 0) (rest later : List ℕ) (t : ℕ) (before : Held) (list : List ℕ) (mid : Held) (longer : List ℕ) (after : Held) (longest : List ℕ)
    → IsScanning item rest before list mid longer → rest ≡ t ∷ later → after.table ≡ mid.table → after.share ≡ mid.share → IsSound after → after.seen ≡ mid.seen ++ t ∷ []
    → ((base : List ℕ) → mid.claims ≡ base ++ longer → after.claims ≡ base ++ longest)
    → ((b : ℕ) → Has longest b → Has longer b ⊎ ((b ≡ t) × (Has mid.seen t → ⊥))) → ((more : List ℕ) × (longest ≡ longer ++ more)) → IsScanning item later before list after longest
scanning_more item rest later t before list mid longer after longest s is table share sound seen listed gained grew = record {
  table = table ∙ s.table;
  share = share ∙ s.share;
  sound = sound;
  listed = λ base e. listed base (s.listed base e);
  some = λ b h. s.some b (subst (λ (l : List ℕ). Has l b) (sym is) (there t later b h));
  scanned = record {
    keeps = λ b h. seen_more b (s.scanned.keeps b h);
    covers = λ b i. ⊎_elim (λ d. inl (seen_more b d))
        (λ r. ⊎_elim (λ e. inl (subst (λ (l : List ℕ). Has l b) (sym seen) (subst (λ (y : ℕ). Has (mid.seen ++ t ∷ []) y) e (has_last mid.seen t)))) (λ l. inr l)
        (at_head t later b (subst (λ (l : List ℕ). Has l b) is r)))
        (s.scanned.covers b i);
    gains = λ b h. ⊎_elim (λ old. s.scanned.gains b old)
        (λ new. inr (subst item (sym new.0) (s.some t (subst (λ (l : List ℕ). Has l t) (sym is) (here t later))), λ was. new.1 (subst (λ (y : ℕ). Has mid.seen y) new.0 (s.scanned.keeps b was))))
        (gained b h);
    grown = (s.scanned.grown.0 ++ grew.0, grew.1 ∙ ap (λ (l : List ℕ). l ++ grew.0) s.scanned.grown.1 ∙ append_assoc list s.scanned.grown.0 grew.0);
  };
}
  where
    seen_more : (b : ℕ) → Has mid.seen b → Has after.seen b
    seen_more b h = subst (λ (l : List ℕ). Has l b) (sym seen) (has_front mid.seen (t ∷ []) b h)

-- some targets more, that were scanned by themselves
pub scanning_part : (item : ℕ → Type 0) (rest now later : List ℕ) (before : Held) (list : List ℕ) (mid : Held) (longer : List ℕ) (after : Held) (longest : List ℕ)
    → IsScanning item rest before list mid longer → rest ≡ now ++ later → after.table ≡ mid.table → after.share ≡ mid.share → IsSound after
    → ((base : List ℕ) → mid.claims ≡ base ++ longer → after.claims ≡ base ++ longest)
    → IsScanned (Has now) [] mid.seen longer after.seen longest → IsScanning item later before list after longest
scanning_part item rest now later before list mid longer after longest s is table share sound listed part = record {
  table = table ∙ s.table;
  share = share ∙ s.share;
  sound = sound;
  listed = λ base e. listed base (s.listed base e);
  some = λ b h. s.some b (subst (λ (l : List ℕ). Has l b) (sym is) (has_back now later b h));
  scanned = record {
    keeps = λ b h. part.keeps b (s.scanned.keeps b h);
    covers = λ b i. ⊎_elim (λ d. inl (part.keeps b d))
        (λ r. ⊎_elim (λ f. ⊎_elim (λ d. inl d) (λ n. none_has b n) (part.covers b f)) (λ l. inr l) (of_append now later b (subst (λ (l : List ℕ). Has l b) is r)))
        (s.scanned.covers b i);
    gains = λ b h. ⊎_elim (λ old. s.scanned.gains b old)
        (λ new. inr (s.some b (subst (λ (l : List ℕ). Has l b) (sym is) (has_front now later b new.0)), λ was. new.1 (s.scanned.keeps b was)))
        (part.gains b h);
    grown = (s.scanned.grown.0 ++ part.grown.0, part.grown.1 ∙ ap (λ (l : List ℕ). l ++ part.grown.0) s.scanned.grown.1 ∙ append_assoc list s.scanned.grown.0 part.grown.0);
  };
}

-- ---- what was claimed

-- what follows the list was claimed for the item
pub kept_of_scan : (item : ℕ → Type 0) (base list more : List ℕ) (before after : Held) (longer : List ℕ) → longer ≡ list ++ more → after.claims ≡ base ++ longer → IsSound after
    → IsScanned item [] before.seen list after.seen longer → IsKeptInRounds item before.seen after.seen more
kept_of_scan item base list more before after longer is claims sound s = record {
  keeps = s.keeps;
  covers = λ b i. ⊎_elim (λ d. d) (λ n. none_has b n) (s.covers b i);
  fresh = λ b h was. (new b h).1 was;
  gains = λ b h. (new b h).0;
}
  where
    once : IsDistinct (list ++ more)
    once = distinct_back base (list ++ more) (subst (λ (l : List ℕ). IsDistinct l) (claims ∙ ap (λ (l : List ℕ). base ++ l) is) sound.distinct)

    new : (b : ℕ) → Has more b → item b × (Has before.seen b → ⊥)
    new b h = ⊎_elim (λ old. absurd (distinct_apart list more once b old h)) (λ n. n) (s.gains b (subst (λ (l : List ℕ). Has l b) (sym is) (has_back list more b h)))
