-- Chains: what a whole run attempts, and what a graph's lists have to do with its reach.
use Rattle.std.proofs.Common.{◌≡◌, ◌↔◌, ℕ, sym, subst, List, [], ◌∷◌, Option, Some, None, ⊎_elim, get_or}
use Rattle.leak_marks.specs.Lists.{Has, Within}
use Rattle.leak_marks.specs.Reach.{Graph, Reach, IsChain, targets_of}
use Rattle.leak_marks.specs.Runs.{Attempt, IsWholeRun, IsLawfulAfter, IsLedTo, targets_in}
use Rattle.leak_marks.proofs.ListLemmas.{none_has, at_head}

-- ---- runs

reach_of_led : (g : Graph) (earlier : List ℕ) → ((b : ℕ) → Has earlier b → Reach g b) → (source : Option ℕ) (target : ℕ) → ¬ Has g.given target → IsLedTo g earlier source target → Reach g target
reach_of_led g earlier all None t out led = ([], (out, led))
reach_of_led g earlier all (Some s) t out led = let r : Reach g s = all s led.0 in (s ∷ r.0, (out, led.1, r.1))

-- what holds of a number and of the elements of a list holds of those of the longer list
with_head : (P : ℕ → Type 0) (x : ℕ) (xs : List ℕ) → P x → ((b : ℕ) → Has xs b → P b) → (b : ℕ) → Has (x ∷ xs) b → P b
with_head P x xs here rest b h = ⊎_elim (λ e. subst P e here) (λ r. rest b r) (at_head x xs b h)

pub lawful_reach : (g : Graph) (earlier : List ℕ) (run : List Attempt) → ((b : ℕ) → Has earlier b → Reach g b) → IsLawfulAfter g earlier run → (b : ℕ) → Has (targets_in run) b → Reach g b
lawful_reach g earlier [] all law b h = absurd (none_has b h)
lawful_reach g earlier (a ∷ run) all law b h =
    let here : Reach g a.target = reach_of_led g earlier all a.source a.target law.0 law.1 in
    with_head (Reach g) a.target (targets_in run) here (lawful_reach g (a.target ∷ earlier) run (with_head (Reach g) a.target earlier here all) law.2) b h

pub reach_attempted : (g : Graph) (workers : ℕ) (run : List Attempt) → IsWholeRun g workers run → (b : ℕ) (before : List ℕ) → IsChain g (b ∷ before) → Has (targets_in run) b
reach_attempted g n run whole b [] chain = whole.first b chain.1 chain.0
reach_attempted g n run whole b (s ∷ before) chain = whole.next s b (reach_attempted g n run whole s before chain.2) chain.1 chain.0

-- nothing is attempted before a run
pub none_earlier : (g : Graph) (b : ℕ) → Has [] b → Reach g b
none_earlier g b h = absurd (none_has b h)

-- ---- graphs

-- a block that is reached is outside the given ones
pub reach_outside : (g : Graph) (b : ℕ) → Reach g b → ¬ Has g.given b
reach_outside g b r = outside b r.0 r.1
  where
    outside : (x : ℕ) (before : List ℕ) → IsChain g (x ∷ before) → ¬ Has g.given x
    outside x [] c = c.0
    outside x (s ∷ before) c = c.0

-- more begins chains, less is given, and each block leads to as much: as much is reached
module _ (g h : Graph) (first : Within g.first h.first) (given : Within h.given g.given) (targets : (s : ℕ) → Within (targets_of g s) (targets_of h s)) where
  chain_more : (b : ℕ) (before : List ℕ) → IsChain g (b ∷ before) → IsChain h (b ∷ before)
  chain_more b [] c = ((λ i. c.0 (given b i)), first b c.1)
  chain_more b (s ∷ before) c = ((λ i. c.0 (given b i)), targets s b c.1, chain_more s before c.2)

  pub reach_more : (b : ℕ) → Reach g b → Reach h b
  reach_more b r = (r.0, chain_more b r.0 r.1)

-- what begins chains and what is given matter as sets alone
pub reach_same : (g h : Graph) → ((b : ℕ) → Has g.first b ↔ Has h.first b) → ((b : ℕ) → Has g.given b ↔ Has h.given b) → g.targets ≡ h.targets → (b : ℕ) → Reach g b ↔ Reach h b
reach_same g h first given targets b = (
  reach_more g h (λ x i. (first x).0 i) (λ x i. (given x).1 i) (λ s x i. subst (λ (ts : List (List ℕ)). Has (get_or ts s []) x) targets i) b,
  reach_more h g (λ x i. (first x).1 i) (λ x i. (given x).0 i) (λ s x i. subst (λ (ts : List (List ℕ)). Has (get_or ts s []) x) (sym targets) i) b,
)

-- what begins more chains reaches as much
pub reach_within : (g h : Graph) → Within g.first h.first → ((b : ℕ) → Has g.given b ↔ Has h.given b) → g.targets ≡ h.targets → (b : ℕ) → Reach g b → Reach h b
reach_within g h first given targets b = reach_more g h first (λ x i. (given x).1 i) (λ s x i. subst (λ (ts : List (List ℕ)). Has (get_or ts s []) x) targets i) b
