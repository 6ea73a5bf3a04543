-- A worker that scans blocks of its own list.
use Rattle.std.proofs.Common.{◌≡◌, ◌⊎◌, ℕ, inl, inr, ⊎_elim, sym, subst, List, [], ◌∷◌, ◌++◌}
use Rattle.std.specs.List.{concat, AllByRecursion}
use Rattle.std.proofs.lemmas.List.{append-nil}
use Rattle.leak_marks.specs.Lists.{Has, Within}
use Rattle.leak_marks.specs.Rounds.{AreLed, IsKept, IsKeptInRounds}
use Rattle.leak_marks.proofs.ListLemmas.{none_has, here, there, at_head, has_front, has_back, of_append}

pub of_one : (list : List ℕ) (b : ℕ) → Has (concat (list ∷ [])) b → Has list b
of_one list b h = subst (λ (l : List ℕ). Has l b) (append-nil list) h

pub to_one : (list : List ℕ) (b : ℕ) → Has list b → Has (concat (list ∷ [])) b
to_one list b h = subst (λ (l : List ℕ). Has l b) (sym (append-nil list)) h

-- each claim is a target of an item, or of another claim
pub led_from : (targets : ℕ → List ℕ) (item P : ℕ → Type 0) → ((b : ℕ) → item b → P b) → ((s b : ℕ) → Has (targets s) b → P b)
    → (earlier claims : List ℕ) → AreLed targets item earlier claims → (b : ℕ) → Has claims b → P b
led_from targets item P of_item of_block earlier [] led b h = absurd (none_has b h)
led_from targets item P of_item of_block earlier (x ∷ xs) led b h = ⊎_elim
    (λ is. subst (λ (y : ℕ). P y) is (⊎_elim (λ i. of_item x i) (λ s. of_block s.0 x s.2) led.0))
    (λ r. led_from targets item P of_item of_block (x ∷ earlier) xs led.1 b r)
    (at_head x xs b h)

pub all_led_from : (targets : ℕ → List ℕ) (item P : ℕ → Type 0) → ((b : ℕ) → item b → P b) → ((s b : ℕ) → Has (targets s) b → P b)
    → (gained : List (List ℕ)) → AllByRecursion (AreLed targets item []) gained → (b : ℕ) → Has (concat gained) b → P b
all_led_from targets item P of_item of_block [] led b h = absurd (none_has b h)
all_led_from targets item P of_item of_block (g ∷ gs) led b h = ⊎_elim
    (λ f. led_from targets item P of_item of_block [] g led.0 b f)
    (λ r. all_led_from targets item P of_item of_block gs led.1 b r)
    (of_append g (concat gs) b h)

-- claims that items lead to, or claims before them
module _ (targets : ℕ → List ℕ) (item more : ℕ → Type 0) where
  led_rest : (earlier claims : List ℕ)
      → ((b : ℕ) → Has claims b → more b ⊎ ((s : ℕ) × Has earlier s × Has (targets s) b)) → AreLed targets more earlier claims
  led_rest earlier [] all = tt
  led_rest earlier (b ∷ claims) all = (
    all b (here b claims),
    led_rest (b ∷ earlier) claims (λ x h. ⊎_elim (λ m. inl m) (λ s. inr (s.0, there b earlier s.0 s.1, s.2)) (all x (there b claims x h))),
  )

  pub led_behind : (earlier list claims : List ℕ) → ((b : ℕ) → item b → more b) → AreLed targets item earlier list
      → ((b : ℕ) → Has claims b → more b ⊎ ((s : ℕ) × (Has earlier s ⊎ Has list s) × Has (targets s) b)) → AreLed targets more earlier (list ++ claims)
  led_behind earlier [] claims wider led all = led_rest earlier claims
      (λ b h. ⊎_elim (λ m. inl m) (λ s. inr (s.0, ⊎_elim (λ e. e) (λ n. absurd (none_has s.0 n)) s.1, s.2)) (all b h))
  led_behind earlier (x ∷ list) claims wider led all = (
    ⊎_elim (λ i. inl (wider x i)) (λ s. inr s) led.0,
    led_behind (x ∷ earlier) list claims wider led.1
        (λ b h. ⊎_elim (λ m. inl m)
        (λ s. inr (
          s.0,
          ⊎_elim (λ e. inl (there x earlier s.0 e)) (λ l. ⊎_elim (λ is. inl (subst (λ (y : ℕ). Has (x ∷ earlier) y) is (here x earlier))) (λ r. inr r) (at_head x list s.0 l)) s.1,
          s.2,
        ))
        (all b h)),
  )

-- A worker scans something more: an item, or a block of its list. What leads on from there is of the whole, or of the list.
pub kept_more : (targets : ℕ → List ℕ) (item next whole : ℕ → Type 0) (before between after list more left later : List ℕ)
    → ((b : ℕ) → item b → whole b) → ((b : ℕ) → whole b → item b ⊎ next b) → ((b : ℕ) → next b → whole b ⊎ ((s : ℕ) × Has list s × Has (targets s) b))
    → IsKept targets item before between (list ∷ []) left → IsKeptInRounds next between after more
    → ((s : ℕ) → Has left s → ((b : ℕ) → Has (targets s) b → next b) ⊎ Has later s) → Within more later
    → IsKept targets whole before after ((list ++ more) ∷ []) later
kept_more targets item next whole before between after list more left later wider all leads k n stays rest = record {
  keeps = λ b h. n.keeps b (k.keeps b h);
  covers = λ b h. ⊎_elim (λ i. n.keeps b (k.covers b i)) (λ j. n.covers b j) (all b h);
  scans = λ s b h t. ⊎_elim
      (λ old. ⊎_elim (λ w. ⊎_elim (λ done. inr (n.covers b (done b t))) (λ l. inl l) (stays s w)) (λ d. inr (n.keeps b d)) (k.scans s b (to_one list s old) t))
      (λ new. inl (rest s new))
      (of_append list more s (of_one (list ++ more) s h));
  fresh = λ b h d. ⊎_elim (λ old. k.fresh b (to_one list b old) d) (λ new. n.fresh b new (k.keeps b d)) (of_append list more b (of_one (list ++ more) b h));
  led = (
    led_behind targets item whole [] list more wider k.led.0
        (λ b h. ⊎_elim (λ w. inl w) (λ s. inr (s.0, inr s.1, s.2)) (leads b (n.gains b h))),
    tt,
  );
}

-- an item more
pub kept_item : (targets : ℕ → List ℕ) (item next whole : ℕ → Type 0) (before between after list more left later : List ℕ)
    → ((b : ℕ) → item b → whole b) → ((b : ℕ) → next b → whole b) → ((b : ℕ) → whole b → item b ⊎ next b)
    → IsKept targets item before between (list ∷ []) left → IsKeptInRounds next between after more → Within left later → Within more later
    → IsKept targets whole before after ((list ++ more) ∷ []) later
kept_item targets item next whole before between after list more left later wider new all k n stays rest =
    kept_more targets item next whole before between after list more left later wider all (λ b h. inl (new b h)) k n (λ s h. inr (stays s h)) rest

-- a block of the list more
pub kept_block : (targets : ℕ → List ℕ) (item : ℕ → Type 0) (before between after list more left later : List ℕ) (block : ℕ)
    → IsKept targets item before between (list ∷ []) left → Has list block → IsKeptInRounds (Has (targets block)) between after more
    → ((s : ℕ) → Has left s → (s ≡ block) ⊎ Has later s) → Within more later
    → IsKept targets item before after ((list ++ more) ∷ []) later
kept_block targets item before between after list more left later block k own n stays rest =
    kept_more targets item (Has (targets block)) item before between after list more left later (λ b h. h) (λ b h. inl h) (λ b h. inr (block, own, h)) k n
    (λ s h. ⊎_elim (λ is. inl (λ b t. subst (λ (y : ℕ). Has (targets y) b) is t)) (λ l. inr l) (stays s h)) rest

-- before the first item
pub kept_nothing : (targets : ℕ → List ℕ) (item : ℕ → Type 0) (seen : List ℕ) → ((b : ℕ) → item b → ⊥) → IsKept targets item seen seen ([] ∷ []) []
kept_nothing targets item seen none = record {
  keeps = λ b h. h;
  covers = λ b h. absurd (none b h);
  scans = λ s b h t. absurd (none_has s h);
  fresh = λ b h d. none_has b h;
  led = (tt, tt);
}
