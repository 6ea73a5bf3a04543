-- The texts of callers where they are kept, and blocks with their places.
use Rattle.std.proofs.Common.{◌≡◌, ◌∙◌, ℕ, ◌-◌, ◌<◌, ◌≤◌, Bool, true, false, cond, nat_lt, List, [], ◌∷◌, length, map, take, drop, get_or, slice_range, refl, ap, ap₂, sym, subst, arith}
use Rattle.std.specs.List.{All}
use Rattle.std.proofs.lemmas.List.{length-map, get_or-map}
use Rattle.std.proofs.lemmas.List.Elements.{All-nil, All-head, All-tail, All-weaker}
use borrow.Author.Tests.{ltb-false}
use Rattle.leak_blocks.specs.declared.block.Block.{Block}
use Rattle.leak_report.specs.Totals.{IsIn, text_at}
use Rattle.leak_report.specs.Numbered.{text_with, texts_of}
use Rattle.leak_report.specs.Elsewhere.{HaveTextsAt, text_there}
use Rattle.leak_texts.specs.Texts.{IsWithin, StandAt}
use Rattle.leak_replaying.specs.Numbering.{HasByte}

-- the text at a place
abbrev there : List ℕ → ℕ × ℕ → List ℕ
there bytes p = slice_range bytes p.0 p.1

-- ---- the texts of callers

-- so that it is not taken for none where it stands
text_at-there : (kept : List ℕ) (place : ℕ × ℕ) → HasByte (there kept place) → text_at kept place ≡ there kept place
text_at-there kept place has = go (nat_lt place.0 place.1) refl
  where
    go : (t : Bool) → nat_lt place.0 place.1 ≡ t → cond t (there kept place) (63 ∷ []) ≡ there kept place
    go true e = refl
    go false e =
        let most : place.1 ≤ place.0 = ltb-false place.0 place.1 e in
        let none : place.1 - place.0 ≡ 0 = omega arith in
        let empty : there kept place ≡ [] = ap (λ (n : ℕ). take n (drop place.0 kept)) none in
        absurd (omega (arith, ap length empty, has))

module _ (kept : List ℕ) (places : List (ℕ × ℕ)) (texts : List (List ℕ)) (stand : StandAt kept places texts) (have : All HasByte texts) where
  long : length places ≡ length texts
  long = sym (length-map places (there kept)) ∙ ap length stand.are

  text_of : (n : ℕ) → n < length texts → text_there kept places n ≡ text_with texts n
  text_of n below =
      let there_is : there kept (get_or places n (0, 0)) ≡ text_with texts n =
      sym (get_or-map (there kept) places n (0, 0) [] (omega (arith, below, long))) ∙ ap (λ (ts : List (List ℕ)). get_or ts n []) stand.are in
      text_at-there kept (get_or places n (0, 0)) (subst HasByte (sym there_is) (have n [] below)) ∙ there_is

  texts_there : (numbers : List ℕ) → All (λ n. n < length texts) numbers → map (text_there kept places) numbers ≡ map (text_with texts) numbers
  texts_there [] below = refl
  texts_there (n ∷ numbers) below =
      ap₂ (λ (t : List ℕ) (ts : List (List ℕ)). t ∷ ts) (text_of n (All-head (λ n. n < length texts) n numbers below))
      (texts_there numbers (All-tail (λ n. n < length texts) n numbers below))

in_kept : (kept : List ℕ) (place : ℕ × ℕ) → IsWithin kept place → IsIn kept place
in_kept kept place is = record { order = is.order; within = is.within }

pub have_texts : (log kept : List ℕ) (places : List (ℕ × ℕ)) (texts : List (List ℕ)) (numbers : List ℕ) (blocks : List Block) → All HasByte texts
    → All (λ n. n < length texts) numbers → map (text_with texts) numbers ≡ texts_of log blocks → StandAt kept places texts → HaveTextsAt log kept places numbers blocks
have_texts log kept places texts numbers blocks have below same stand =
    let as_many : length places ≡ length texts = long kept places texts stand have in
    record {
      one_each = sym (length-map numbers (text_with texts)) ∙ ap length same ∙ length-map blocks (λ (b : Block). text_at log b.caller);
      within = All-weaker (λ n. n < length texts) (λ n. n < length places) (λ n h. omega (arith, h, as_many)) numbers below;
      inside = All-weaker (IsWithin kept) (IsIn kept) (in_kept kept) places stand.inside;
      same = texts_there kept places texts stand have numbers below ∙ same;
    }

-- of no block no text is asked
pub no_texts : (log kept : List ℕ) (places : List (ℕ × ℕ)) (numbers : List ℕ) → kept ≡ [] → places ≡ [] → numbers ≡ [] → HaveTextsAt log kept places numbers []
no_texts log kept places numbers no_bytes no_places no_numbers = rw (no_bytes, no_places, no_numbers) (record {
  one_each = refl;
  within = All-nil (λ n. n < 0);
  inside = All-nil (IsIn []);
  same = refl;
})
