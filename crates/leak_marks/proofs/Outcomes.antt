-- What a step of the program tells, at its numbers, and what it leaves the seat with.
use Rattle.std.proofs.Common.{◌≡◌, ℕ, ◌+◌, ◌/◌, ◌%◌, ◌^◌, ◌<◌, ◌≤◌, List, [], ◌∷◌, ◌++◌, sym, ap, ◌∙◌, subst, arith}
use mathlib.Core.Option.{none, some}
use mathlib.Core.Logic.{dite}
use native.Mathlib.Decide.{ℕ_discrete}
use lib.ListN.{get_elem?}
use Rattle.std.specs.Prelude.{bit_or}
use Rattle.std.specs.Int.{bit_at}
use Rattle.atomic_table.specs.Table.{State, Me, step, Allows}
use Rattle.std.proofs.lemmas.Nat.Bits.{bit_at-lt}
use Rattle.leak_marks.specs.declared.view.View.{View}
use Rattle.leak_marks.specs.Lists.{times, Has, IsDistinct, Within, mark_of}
use Rattle.leak_marks.specs.Marks.{view, Kept, won, noted, claimed, looked, checked, joined}
use Rattle.atomic_table.specs.Seated.{TableId}
use Rattle.leak_marks.specs.Seats.{Held, held}
use Rattle.leak_marks.proofs.ListLemmas.{has_front, within_push, within_append, distinct_push}
use Rattle.leak_marks.proofs.Moves.{claims, looks, seen_set, all_claims}

abbrev St : Type 0
St = State (Unit {0}) View

abbrev Sat : Type 0
Sat = Me (Unit {0}) View

-- a seat's claims after a step: the same share, no slot, and still seen and distinct
pub record Sound (m m' : Sat) : Type 0 where
  pub share : m'.0.share ≡ m.0.share
  pub slots : m'.1 ≡ m.1
  pub among : Within m'.0.claims m'.0.seen
  pub distinct : IsDistinct m'.0.claims

within_noted : (xs ys : List ℕ) (b : ℕ) → Within xs ys → Within xs (ys ++ b ∷ [])
within_noted xs ys b w x e = has_front ys (b ∷ []) x (w x e)

sound_won : (m m' : Sat) (b : ℕ) → m'.1 ≡ m.1 → m'.0 ≡ won m.0 b → ¬ Has m.0.seen b → Within m.0.claims m.0.seen → IsDistinct m.0.claims → Sound m m'
sound_won m m' b slots is not w d = record {
  share = ap (λ (v : View). v.share) is;
  slots = slots;
  among = subst (λ (v : View). Within v.claims v.seen) (sym is) (within_push m.0.claims m.0.seen b w);
  distinct = subst (λ (v : View). IsDistinct v.claims) (sym is) (distinct_push m.0.claims b (λ h. not (w b h)) d);
}

sound_noted : (m m' : Sat) (b : ℕ) → m'.1 ≡ m.1 → m'.0 ≡ noted m.0 b → Within m.0.claims m.0.seen → IsDistinct m.0.claims → Sound m m'
sound_noted m m' b slots is w d = record {
  share = ap (λ (v : View). v.share) is;
  slots = slots;
  among = subst (λ (v : View). Within v.claims v.seen) (sym is) (within_noted m.0.claims m.0.seen b w);
  distinct = subst (λ (v : View). IsDistinct v.claims) (sym is) d;
}

sound_same : (m m' : Sat) → m'.1 ≡ m.1 → m'.0 ≡ m.0 → Within m.0.claims m.0.seen → IsDistinct m.0.claims → Sound m m'
sound_same m m' slots is w d = record {
  share = ap (λ (v : View). v.share) is;
  slots = slots;
  among = subst (λ (v : View). Within v.claims v.seen) (sym is) w;
  distinct = subst (λ (v : View). IsDistinct v.claims) (sym is) d;
}

-- the step of the program, at its numbers
pub claims_at : (blocks slots id b word bit : ℕ) (m : Sat) → b < blocks → 0 < m.0.share → word ≡ b / 64 → bit ≡ 2 ^ (b % 64)
    → Allows (Kept blocks) slots id m word (λ n. bit_or n bit) (λ n m'. claimed (step slots word bit 0 none) m n m')
claims_at blocks slots id b word bit m inside share e f = subst
    (λ (p : ℕ × ℕ). Allows (Kept blocks) slots id m p.0 (λ n. bit_or n p.1) (λ n m'. claimed (step slots p.0 p.1 0 none) m n m'))
    (λ i. (sym e i, sym f i))
    (claims blocks slots id b m inside share)

pub claim_sound : (slots b word bit n : ℕ) (m m' : Sat) → word ≡ b / 64 → bit ≡ 2 ^ (b % 64) → claimed (step slots word bit 0 none) m n m' → Within m.0.claims m.0.seen → IsDistinct m.0.claims → Sound m m'
claim_sound slots b word bit n m m' e f told w d = let t = told b (sym e) (sym f) in let l = bit_at-lt n (b % 64) in
    dite (ℕ_discrete (bit_at n (b % 64)) 0) (λ z. sound_won m m' b t.0 (t.1 z).0 (t.1 z).1 w d) (λ nz. sound_noted m m' b t.0 (t.2 (omega arith)) w d)

pub looks_at : (blocks slots id b word : ℕ) (m : Sat) → 0 < m.0.share → b < blocks → word ≡ b / 64
    → Allows (Kept blocks) slots id m word (λ n. n) (λ n m'. looked b (step slots word 0 0 none) m n m')
looks_at blocks slots id b word m share inside e = subst
    (λ (p : ℕ). Allows (Kept blocks) slots id m p (λ n. n) (λ n m'. looked b (step slots p 0 0 none) m n m'))
    (sym e)
    (looks blocks slots id b m inside share)

pub look_sound : (slots b word n : ℕ) (m m' : Sat) → word ≡ b / 64 → looked b (step slots word 0 0 none) m n m' → Within m.0.claims m.0.seen → IsDistinct m.0.claims → Sound m m'
look_sound slots b word n m m' e told w d = let t = told (sym e) in let l = bit_at-lt n (b % 64) in
    dite (ℕ_discrete (bit_at n (b % 64)) 0) (λ z. sound_same m m' t.0 (t.1 z).0 w d) (λ nz. sound_noted m m' b t.0 (t.2 (omega arith)) w d)

-- the same, if the step names the block by b'
pub looks_at_named : (blocks slots id b b' word : ℕ) (m : Sat) → b ≡ b' → 0 < m.0.share → b < blocks → word ≡ b / 64
    → Allows (Kept blocks) slots id m word (λ n. n) (λ n m'. looked b' (step slots word 0 0 none) m n m')
looks_at_named blocks slots id b b' word m is share inside e = subst
    (λ (x : ℕ). Allows (Kept blocks) slots id m word (λ n. n) (λ n m'. looked x (step slots word 0 0 none) m n m'))
    is
    (looks_at blocks slots id b word m share inside e)

-- what the receiver has after a join and the load after it
pub record Joined (v w : View) (m' : Sat) : Type 0 where
  pub share : v.share + w.share ≡ m'.0.share
  pub most : v.share + w.share ≤ 4294967296
  pub slots : m'.1 ≡ []
  pub among : Within m'.0.claims m'.0.seen
  pub distinct : IsDistinct m'.0.claims

pub join_sound : (slots word n : ℕ) (v w : View) (m m' : Sat) → m ≡ (joined v w, []) → checked (step slots word 0 0 none) m n m' → Within v.claims v.seen → Within w.claims w.seen → Joined v w m'
join_sound slots word n v w m m' is told among theirs =
    let all : m' ≡ (joined v w, []) = told.0 ∙ is in record {
      share = sym (ap (λ (x : Sat). x.0.share) all);
      most = subst (λ (x : Sat). x.0.share ≤ 4294967296) is told.2;
      slots = ap (λ (x : Sat). x.1) all;
      among = subst (λ (x : Sat). Within x.0.claims x.0.seen) (sym all) (within_append v.claims w.claims v.seen w.seen among theirs);
      distinct = subst (λ (x : Sat). IsDistinct x.0.claims) (sym told.0) told.1;
    }

-- what the words are once a seat with the whole share is closed
pub whole_words : (blocks : ℕ) (s : St) → Kept blocks s → (id : ℕ) (v : View) → get_elem? s.views id ≡ some v → v.share ≡ 4294967296 → Within v.seen v.claims
whole_words blocks s h id v at full b has = let one = seen_set blocks s h id v at b has in let is = all_claims blocks s h id v at full b in omega arith

pub closed_whole : (blocks : ℕ) (s : St) (words items : List ℕ) (id : ℕ) (v : View) (t : TableId) (h : Held) → Kept blocks s → get_elem? s.views id ≡ some v → s.words ≡ words → items ≡ words
    → held t v.claims v.seen v.share ≡ h → h.share ≡ 4294967296 → Within h.seen h.claims × ((b : ℕ) → mark_of items b ≡ times b h.claims)
closed_whole blocks s words items id v t h kept at is copied view full =
    let share : v.share ≡ 4294967296 = ap (λ (x : Held). x.share) view ∙ full in (
      subst (λ (x : Held). Within x.seen x.claims) view (whole_words blocks s kept id v at share),
      subst (λ (x : Held). (b : ℕ) → mark_of items b ≡ times b x.claims) view
          (λ b. ap (λ (ws : List ℕ). mark_of ws b) (copied ∙ sym is) ∙ all_claims blocks s kept id v at share b),
    )
