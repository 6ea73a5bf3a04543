-- Each step on the table keeps its rule.
use Rattle.std.proofs.Common.{◌≡◌, ◌≢◌, ℕ, zero, suc, ◌+◌, ◌/◌, ◌%◌, ◌^◌, ◌<◌, ◌≤◌, List, [], ◌∷◌, ◌++◌, length, get_or, set, replicate, refl, sym, ap, ◌∙◌, subst, ⊎_elim, arith, length-set}
use mathlib.Core.Option.{none, some, some-ne-none, some-injective}
use mathlib.Core.Logic.{dite}
use native.Mathlib.Decide.{ℕ_discrete}
use lib.ListN.{get_elem?}
use Rattle.std.specs.Prelude.{bit_or}
use Rattle.std.specs.Int.{bit_at}
use Rattle.atomic_table.specs.Table.{State, Me, step, keeps, opening, Allows, Splits, Joins}
use Rattle.atomic_table.proofs.Lists.{at_set, at_snoc}
use Rattle.std.proofs.lemmas.List.{length-replicate}
use Rattle.std.proofs.lemmas.Nat.Bits.{bit_at-zero}
use Rattle.leak_marks.specs.declared.view.View.{View}
use Rattle.leak_marks.specs.Lists.{times, Has, IsDistinct, mark_of, word_count}
use Rattle.leak_marks.specs.Marks.{whole, spent, Fits, Kept, won, noted, claimed, looked, checked, left_of, right_of, joined}
use Rattle.leak_marks.proofs.Places.{same_block, mark_lt, marked, mark_here, mark_else, word_there}
use Rattle.leak_marks.proofs.ListLemmas.{times-append, push_same, push_other, has_front, within_push, within_append}
use Rattle.leak_marks.proofs.Totals.{total_set, total_snoc, one_le_total, alone}

abbrev St : Type 0
St = State (Unit {0}) View

abbrev Sat : Type 0
Sat = Me (Unit {0}) View

-- the words and one view change
abbrev turned : St → List ℕ → ℕ → View → St
turned s words id w = record { words = words; homes = s.homes; views = set s.views id w }

fits_later : (words later : List ℕ) (v : View) → ((c : ℕ) → mark_of words c ≡ 1 → mark_of later c ≡ 1) → Fits words v → Fits later v
fits_later words later v stays h = record { among = h.among; set = λ b x. stays b (h.set b x); idle = h.idle }

module _ (blocks : ℕ) (s : St) (h : Kept blocks s) (id : ℕ) (v : View) (at : get_elem? s.views id ≡ some v) where
  -- a step keeps the rule if the marks change as the claims do, and none is cleared
  pub kept_turn : (later : List ℕ) (w : View) → length later ≡ length s.words
      → ((c : ℕ) → mark_of later c + times c v.claims ≡ mark_of s.words c + times c w.claims)
      → ((c : ℕ) → mark_of s.words c ≡ 1 → mark_of later c ≡ 1)
      → ((c : ℕ) → blocks ≤ c → mark_of later c ≡ 0)
      → Fits later w → w.share ≡ v.share → Kept blocks (turned s later id w)
  kept_turn later w wide even stays clear fits share = record {
    wide = wide ∙ h.wide;
    once = λ b. (let t = total_set (λ u. times b u.claims) s.views id v w at in let o = h.once b in let e = even b in omega arith);
    clear = clear;
    fits = λ j u e. ⊎_elim
        (λ (x : (j ≡ id) × (w ≡ u)). subst (λ (y : View). Fits later y) x.1 fits)
        (λ (x : (j ≢ id) × (get_elem? s.views j ≡ some u)). fits_later s.words later u stays (h.fits j u x.1))
        (at_set s.views id j w u e);
    shares = (let t = total_set (λ u. u.share) s.views id v w at in let o = h.shares in omega arith);
  }

  -- a mark that is set is in every later state
  pub never_twice : IsDistinct v.claims
  never_twice b = let t = one_le_total (λ u. times b u.claims) s.views id v at in let o = h.once b in let l = mark_lt s.words b in omega arith

  -- what a seat has seen is set
  pub seen_set : (b : ℕ) → Has v.seen b → mark_of s.words b ≡ 1
  seen_set b = (h.fits id v at).set b

set_same : (xs : List ℕ) (i : ℕ) → set xs i (get_or xs i 0) ≡ xs
set_same [] i = refl
set_same (x ∷ xs) zero = refl
set_same (x ∷ xs) (suc i) = ap (λ (ys : List ℕ). x ∷ ys) (set_same xs i)

push_else : (xs : List ℕ) (b x : ℕ) → Has (xs ++ b ∷ []) x → (x ≢ b → Has xs x)
push_else xs b x e ne = let p = push_other xs x b ne in omega arith

module _ (blocks slots id b : ℕ) (m : Sat) (inside : b < blocks) (share : 0 < m.0.share) where
  -- the marks after the bit of b was set
  module _ (s : St) (h : Kept blocks s) (at : get_elem? s.views id ≡ some m.0) where
    there : b / 64 < length s.words
    there = word_there blocks b (length s.words) inside h.wide

    stays : (c : ℕ) → mark_of s.words c ≡ 1 → mark_of (marked s.words b) c ≡ 1
    stays c e = dite (ℕ_discrete c b)
        (λ is. subst (λ (x : ℕ). mark_of (marked s.words b) x ≡ 1) (sym is) (mark_here s.words b there))
        (λ not. mark_else s.words b c there not ∙ e)

    clear : (c : ℕ) → blocks ≤ c → mark_of (marked s.words b) c ≡ 0
    clear c e = mark_else s.words b c there (λ is. omega arith) ∙ h.clear c e

    set_push : (c : ℕ) → Has (m.0.seen ++ b ∷ []) c → mark_of (marked s.words b) c ≡ 1
    set_push c e = dite (ℕ_discrete c b)
        (λ is. subst (λ (x : ℕ). mark_of (marked s.words b) x ≡ 1) (sym is) (mark_here s.words b there))
        (λ not. stays c (seen_set blocks s h id m.0 at c (push_else m.0.seen b c e not)))

    idle_push : (cs ss : List ℕ) → m.0.share ≡ 0 → (cs ≡ []) × (ss ≡ [])
    idle_push cs ss gone = absurd (omega arith)

    first_time : mark_of s.words b ≡ 0 → Kept blocks (turned s (marked s.words b) id (won m.0 b))
    first_time clean = kept_turn blocks s h id m.0 at (marked s.words b) (won m.0 b) (length-set s.words (b / 64) (bit_or (get_or s.words (b / 64) 0) (2 ^ (b % 64))))
        (λ c. dite (ℕ_discrete c b)
        (λ is. subst (λ (x : ℕ). mark_of (marked s.words b) x + times x m.0.claims ≡ mark_of s.words x + times x (m.0.claims ++ b ∷ [])) (sym is)
        (let p = mark_here s.words b there in let q = push_same m.0.claims b in omega arith))
        (λ not. let p = mark_else s.words b c there not in let q = push_other m.0.claims c b not in omega arith))
        stays clear
        record { among = within_push m.0.claims m.0.seen b ((h.fits id m.0 at).among); set = set_push; idle = idle_push (m.0.claims ++ b ∷ []) (m.0.seen ++ b ∷ []) }
        refl

    later : mark_of s.words b ≡ 1 → Kept blocks (turned s (marked s.words b) id (noted m.0 b))
    later dirty = kept_turn blocks s h id m.0 at (marked s.words b) (noted m.0 b) (length-set s.words (b / 64) (bit_or (get_or s.words (b / 64) 0) (2 ^ (b % 64))))
        (λ c. dite (ℕ_discrete c b)
        (λ is. subst (λ (x : ℕ). mark_of (marked s.words b) x + times x m.0.claims ≡ mark_of s.words x + times x m.0.claims) (sym is)
        (let p = mark_here s.words b there in omega arith))
        (λ not. let p = mark_else s.words b c there not in omega arith))
        stays clear
        record { among = λ x e. has_front m.0.seen (b ∷ []) x ((h.fits id m.0 at).among x e); set = set_push; idle = idle_push m.0.claims (m.0.seen ++ b ∷ []) }
        refl

  abbrev Told : ℕ → Sat → Type 0
  Told n m' = claimed (step slots (b / 64) (2 ^ (b % 64)) 0 none) m n m'

  pub claims : Allows (Kept blocks) slots id m (b / 64) (λ n. bit_or n (2 ^ (b % 64))) Told
  claims s h _ at _ = dite (ℕ_discrete (mark_of s.words b) 0)
      (λ clean. (
        won m.0 b,
        keeps,
        tt,
        first_time s h at clean,
        λ c word bit. subst (λ (x : ℕ). (m.1 ≡ m.1) × (bit_at (get_or s.words (b / 64) 0) (x % 64) ≡ 0 → (won m.0 b ≡ won m.0 x) × ¬ Has m.0.seen x) × (bit_at (get_or s.words (b / 64) 0) (x % 64) ≡ 1 → won m.0 b ≡ noted m.0 x)) (sym (same_block c b word bit))
            (refl, (λ _. (refl, λ has. let one = seen_set blocks s h id m.0 at b has in omega arith)), (λ one. absurd (omega arith))),
      ))
      (λ dirty. let l = mark_lt s.words b in let one : mark_of s.words b ≡ 1 = omega arith in (
        noted m.0 b,
        keeps,
        tt,
        later s h at one,
        λ c word bit. subst (λ (x : ℕ). (m.1 ≡ m.1) × (bit_at (get_or s.words (b / 64) 0) (x % 64) ≡ 0 → (noted m.0 b ≡ won m.0 x) × ¬ Has m.0.seen x) × (bit_at (get_or s.words (b / 64) 0) (x % 64) ≡ 1 → noted m.0 b ≡ noted m.0 x)) (sym (same_block c b word bit))
            (refl, (λ z. absurd (dirty z)), (λ _. refl)),
      ))

  abbrev Shown : ℕ → Sat → Type 0
  Shown n m' = looked b (step slots (b / 64) 0 0 none) m n m'

  -- a look changes no word
  module _ (s : St) (h : Kept blocks s) (at : get_elem? s.views id ≡ some m.0) where
    same_words : set s.words (b / 64) (get_or s.words (b / 64) 0) ≡ s.words
    same_words = set_same s.words (b / 64)

    sighted : mark_of s.words b ≡ 1 → Kept blocks (turned s s.words id (noted m.0 b))
    sighted dirty = kept_turn blocks s h id m.0 at s.words (noted m.0 b) refl (λ c. refl) (λ c e. e) h.clear
        record {
          among = λ x e. has_front m.0.seen (b ∷ []) x ((h.fits id m.0 at).among x e);
          set = λ x e. dite (ℕ_discrete x b) (λ is. subst (λ (y : ℕ). mark_of s.words y ≡ 1) (sym is) dirty) (λ not. seen_set blocks s h id m.0 at x (push_else m.0.seen b x e not));
          idle = λ e. absurd (omega arith);
        }
        refl

    unmoved : Kept blocks (turned s s.words id m.0)
    unmoved = kept_turn blocks s h id m.0 at s.words m.0 refl (λ c. refl) (λ c e. e) h.clear (h.fits id m.0 at) refl

  pub looks : Allows (Kept blocks) slots id m (b / 64) (λ n. n) Shown
  looks s h _ at _ = dite (ℕ_discrete (mark_of s.words b) 0)
      (λ clean. (
        m.0,
        keeps,
        tt,
        subst (λ (ws : List ℕ). Kept blocks (turned s ws id m.0)) (sym (same_words s h at)) (unmoved s h at),
        λ _. (refl, (λ _. (refl, λ has. let one = seen_set blocks s h id m.0 at b has in omega arith)), (λ one. absurd (omega arith))),
      ))
      (λ dirty. let l = mark_lt s.words b in let one : mark_of s.words b ≡ 1 = omega arith in (
        noted m.0 b,
        keeps,
        tt,
        subst (λ (ws : List ℕ). Kept blocks (turned s ws id (noted m.0 b))) (sym (same_words s h at)) (sighted s h at one),
        λ _. (refl, (λ z. absurd (dirty z)), (λ _. refl)),
      ))

-- the fact that the claims of a joined list are in it once is read at a load
pub checks : (blocks slots id word : ℕ) (m : Sat) → Allows (Kept blocks) slots id m word (λ n. n) (λ n m'. checked (step slots word 0 0 none) m n m')
checks blocks slots id word m s h _ at _ = (
  m.0,
  keeps,
  tt,
  subst (λ (ws : List ℕ). Kept blocks (turned s ws id m.0)) (sym (set_same s.words word))
      (kept_turn blocks s h id m.0 at s.words m.0 refl (λ c. refl) (λ c e. e) h.clear (h.fits id m.0 at) refl),
  (refl, never_twice blocks s h id m.0 at, subst (λ (n : ℕ). m.0.share ≤ n) h.shares (one_le_total (λ u. u.share) s.views id m.0 at)),
)

pub splits : (blocks id : ℕ) (v : View) → 1 < v.share → Splits (Kept blocks) id v (left_of v) (right_of v)
splits blocks id v some_left s h at = record {
  wide = h.wide;
  once = λ b. (let t = total_set (λ u. times b u.claims) s.views id v (left_of v) at in let r = total_snoc (λ u. times b u.claims) (set s.views id (left_of v)) (right_of v) in let o = h.once b in omega arith);
  clear = h.clear;
  fits = λ j u e. ⊎_elim
      (λ (x : get_elem? (set s.views id (left_of v)) j ≡ some u). ⊎_elim
      (λ (y : (j ≡ id) × (left_of v ≡ u)). subst (λ (z : View). Fits s.words z) y.1 record { among = (h.fits id v at).among; set = (h.fits id v at).set; idle = λ e. absurd (omega arith) })
      (λ (y : (j ≢ id) × (get_elem? s.views j ≡ some u)). h.fits j u y.1)
      (at_set s.views id j (left_of v) u x))
      (λ (x : right_of v ≡ u). subst (λ (z : View). Fits s.words z) x record { among = λ b has. absurd (omega arith); set = (h.fits id v at).set; idle = λ e. absurd (omega arith) })
      (at_snoc (set s.views id (left_of v)) (right_of v) u j e);
  shares = (let t = total_set (λ u. u.share) s.views id v (left_of v) at in let r = total_snoc (λ u. u.share) (set s.views id (left_of v)) (right_of v) in let o = h.shares in omega arith);
}

fits_joined : (words : List ℕ) (v w : View) → 0 < v.share → Fits words v → Fits words w → Fits words (joined v w)
fits_joined words v w live f g = record {
  among = within_append v.claims w.claims v.seen w.seen f.among g.among;
  set = λ b e. (let p = times-append b v.seen w.seen in dite (ℕ_discrete (times b v.seen) 0) (λ z. g.set b (omega arith)) (λ nz. f.set b (omega arith)));
  idle = λ e. absurd (omega arith);
}

fits_spent : (words : List ℕ) → Fits words spent
fits_spent words = record { among = λ b e. absurd (omega arith); set = λ b e. absurd (omega arith); idle = λ _. (refl, refl) }

pub joins : (blocks id : ℕ) (v : View) (other : ℕ) (w : View) → 0 < v.share → Joins (Kept blocks) id v other w (joined v w) spent
joins blocks id v other w live s h at apart there =
    let theirs : get_elem? s.views other ≡ some w = ⊎_elim
    (λ (x : (other ≡ id) × (joined v w ≡ w)). absurd (apart x.0))
    (λ (x : (other ≢ id) × (get_elem? s.views other ≡ some w)). x.1)
    (at_set s.views id other (joined v w) w there) in record {
      wide = h.wide;
      once = λ b. (let t = total_set (λ u. times b u.claims) s.views id v (joined v w) at in let r = total_set (λ u. times b u.claims) (set s.views id (joined v w)) other w spent there in let o = h.once b in
          let p = times-append b v.claims w.claims in omega arith);
      clear = h.clear;
      fits = λ j u e. ⊎_elim
          (λ (x : (j ≡ other) × (spent ≡ u)). subst (λ (z : View). Fits s.words z) x.1 (fits_spent s.words))
          (λ (x : (j ≢ other) × (get_elem? (set s.views id (joined v w)) j ≡ some u)). ⊎_elim
          (λ (y : (j ≡ id) × (joined v w ≡ u)). subst (λ (z : View). Fits s.words z) y.1 (fits_joined s.words v w live (h.fits id v at) (h.fits other w theirs)))
          (λ (y : (j ≢ id) × (get_elem? s.views j ≡ some u)). h.fits j u y.1)
          (at_set s.views id j (joined v w) u x.1))
          (at_set (set s.views id (joined v w)) other j spent u e);
      shares = (let t = total_set (λ u. u.share) s.views id v (joined v w) at in let r = total_set (λ u. u.share) (set s.views id (joined v w)) other w spent there in let o = h.shares in omega arith);
    }

-- the one seat with the whole share has all claims
pub all_claims : (blocks : ℕ) (s : St) → Kept blocks s → (id : ℕ) (v : View) → get_elem? s.views id ≡ some v → v.share ≡ 4294967296 → (b : ℕ) → mark_of s.words b ≡ times b v.claims
all_claims blocks s h id v at full b = sym (h.once b)
    ∙ alone (λ u. times b u.claims) (λ u. u.share) s.views id v at (λ k u e z. ap (λ (xs : List ℕ). times b xs) (((h.fits k u e).idle z).0)) (h.shares ∙ sym full)

zero_at : (n i : ℕ) → ◌≡◌ {A = ℕ} (get_or (replicate n 0) i 0) 0
zero_at zero i = refl
zero_at (suc n) zero = refl
zero_at (suc n) (suc i) = zero_at n i

pub no_mark : (n b : ℕ) → mark_of (replicate n 0) b ≡ 0
no_mark n b = ap (λ (x : ℕ). bit_at x (b % 64)) (zero_at n (b / 64)) ∙ bit_at-zero (b % 64)

-- with no mark set, the first seat has claimed nothing
pub opens : (blocks n : ℕ) → n ≡ word_count blocks → Kept blocks (opening (replicate n 0) [] whole)
opens blocks n e = record {
  wide = length-replicate n 0 ∙ e;
  once = λ b. sym (no_mark n b);
  clear = λ b _. no_mark n b;
  fits = one;
  shares = refl;
}
  where
    fits_whole : Fits (replicate n 0) whole
    fits_whole = record { among = λ b x. absurd (omega arith); set = λ b x. absurd (omega arith); idle = λ _. (refl, refl) }

    one : (j : ℕ) (v : View) → get_elem? (whole ∷ []) j ≡ some v → Fits (replicate n 0) v
    one zero v x = subst (λ (u : View). Fits (replicate n 0) u) (some-injective _ _ x) fits_whole
    one (suc j) v x = absurd (some-ne-none v (sym x))
