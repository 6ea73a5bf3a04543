-- Parts of a step, put together.
use Rattle.std.proofs.Common.{◌≡◌, ◌⊎◌, ℕ, inl, inr, ⊎_elim, sym, subst, List, [], ◌∷◌, ◌++◌, replicate, arith}
use Rattle.std.specs.List.{concat, AllByRecursion}
use Rattle.leak_marks.specs.Lists.{times, Has, Within}
use Rattle.leak_marks.specs.Reach.{Graph, targets_of}
use Rattle.leak_marks.specs.Runs.{Attempt, IsWholeRun, claims_after}
use Rattle.leak_marks.specs.Rounds.{AreLed, IsKept, Step, AreKept, appended_from, claims_of, waiting_of, seen_of}
use Rattle.leak_marks.specs.Halves.{AreKeptInRounds}
use Rattle.leak_marks.proofs.ListLemmas.{times_concat_append, has_front, has_back, either}
use Rattle.leak_marks.proofs.RoundLemmas.{in_rounds, steps_make_a_run}

of_lists : (ls ms : List (List ℕ)) (b : ℕ) → Has (concat (ls ++ ms)) b → Has (concat ls) b ⊎ Has (concat ms) b
of_lists ls ms b h = let p = times_concat_append b ls ms in either (times b (concat ls)) (times b (concat ms)) (omega arith) (λ i. inl i) (λ j. inr j)

led_more : (targets : ℕ → List ℕ) (item more : ℕ → Type 0) → ((b : ℕ) → item b → more b) → (earlier claims : List ℕ) → AreLed targets item earlier claims → AreLed targets more earlier claims
led_more targets item more f earlier [] led = tt
led_more targets item more f earlier (b ∷ claims) led = (⊎_elim (λ i. inl (f b i)) (λ s. inr s) led.0, led_more targets item more f (b ∷ earlier) claims led.1)

all_led_both : (targets : ℕ → List ℕ) (item item' more : ℕ → Type 0) → ((b : ℕ) → item b → more b) → ((b : ℕ) → item' b → more b) → (ls ms : List (List ℕ))
    → AllByRecursion (AreLed targets item []) ls → AllByRecursion (AreLed targets item' []) ms → AllByRecursion (AreLed targets more []) (ls ++ ms)
all_led_both targets item item' more f g [] [] a b = tt
all_led_both targets item item' more f g [] (m ∷ ms) a b = (led_more targets item' more g [] m b.0, all_led_both targets item item' more f g [] ms tt b.1)
all_led_both targets item item' more f g (l ∷ ls) ms a b = (led_more targets item more f [] l a.0, all_led_both targets item item' more f g ls ms a.1 b)

-- items of two parts, which are the items of the whole
module _ (targets : ℕ → List ℕ) (item item' more : ℕ → Type 0) (lower : (b : ℕ) → item b → more b) (upper : (b : ℕ) → item' b → more b) (all : (b : ℕ) → more b → item b ⊎ item' b) where
  pub kept_beside : (before after after' : List ℕ) (gained gained' : List (List ℕ)) (left left' : List ℕ)
      → IsKept targets item before after gained left → IsKept targets item' before after' gained' left'
      → IsKept targets more before (after ++ after') (gained ++ gained') (left ++ left')
  kept_beside before after after' gained gained' left left' k l = record {
    keeps = λ b h. has_front after after' b (k.keeps b h);
    covers = λ b h. ⊎_elim (λ i. has_front after after' b (k.covers b i)) (λ j. has_back after after' b (l.covers b j)) (all b h);
    scans = λ s b h t. ⊎_elim
        (λ i. ⊎_elim (λ w. inl (has_front left left' s w)) (λ d. inr (has_front after after' b d)) (k.scans s b i t))
        (λ j. ⊎_elim (λ w. inl (has_back left left' s w)) (λ d. inr (has_back after after' b d)) (l.scans s b j t))
        (of_lists gained gained' s h);
    fresh = λ b h d. ⊎_elim (λ i. k.fresh b i d) (λ j. l.fresh b j d) (of_lists gained gained' b h);
    led = all_led_both targets item item' more lower upper gained gained' k.led l.led;
  }

  pub kept_in_turn : (before between after : List ℕ) (gained gained' : List (List ℕ)) (left left' : List ℕ)
      → IsKept targets item before between gained left → IsKept targets item' between after gained' left'
      → IsKept targets more before after (gained ++ gained') (left ++ left')
  kept_in_turn before between after gained gained' left left' k l = record {
    keeps = λ b h. l.keeps b (k.keeps b h);
    covers = λ b h. ⊎_elim (λ i. l.keeps b (k.covers b i)) (λ j. l.covers b j) (all b h);
    scans = λ s b h t. ⊎_elim
        (λ i. ⊎_elim (λ w. inl (has_front left left' s w)) (λ d. inr (l.keeps b d)) (k.scans s b i t))
        (λ j. ⊎_elim (λ w. inl (has_back left left' s w)) (λ d. inr d) (l.scans s b j t))
        (of_lists gained gained' s h);
    fresh = λ b h d. ⊎_elim (λ i. k.fresh b i d) (λ j. l.fresh b j (k.keeps b d)) (of_lists gained gained' b h);
    led = all_led_both targets item item' more lower upper gained gained' k.led l.led;
  }

kept_of_rounds : (g : Graph) (workers : ℕ) (claims : List (List ℕ)) (waiting seen : List ℕ) (steps : List Step) → AreKeptInRounds g workers claims waiting seen steps → AreKept g workers claims waiting seen steps
kept_of_rounds g workers claims waiting seen [] k = tt
kept_of_rounds g workers claims waiting seen (s ∷ steps) k = (
  subst (λ (l : List ℕ). IsKept (targets_of g) (Has s.items) seen s.seen s.gained l) (sym k.1) (in_rounds (targets_of g) (Has s.items) seen s.seen s.gained k.0),
  k.2,
  kept_of_rounds g workers (appended_from 0 claims s.gained) s.later s.seen steps k.3,
)

pub rounds_make_a_run : (g : Graph) (workers : ℕ) (seen : List ℕ) (steps : List Step) → Within g.given seen
    → AreKeptInRounds g workers (replicate workers []) [] seen steps → waiting_of [] steps ≡ [] → Within g.first (seen_of seen steps)
    → ((b : ℕ) → Has (seen_of seen steps) b → Has g.given b ⊎ Has (concat (claims_of (replicate workers []) steps)) b)
    → (run : List Attempt) × IsWholeRun g workers run × (claims_after workers run ≡ claims_of (replicate workers []) steps)
rounds_make_a_run g workers seen steps given kept none roots all = steps_make_a_run g workers seen steps given (kept_of_rounds g workers (replicate workers []) [] seen steps kept) none roots all
