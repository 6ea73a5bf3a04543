-- From what the searches promise of some bytes to the answers for inputs that are these.
use Rattle.std.proofs.Common.{◌≡◌, ℕ, List, [], ◌∷◌, Option, ap, length, refl, subst}
use Rattle.leak_index.specs.Readings.{distances_of}
use Rattle.leak_holders.specs.declared.question.Question.{Question}
use Rattle.leak_report.specs.declared.signs.Signs.{Signs}
use Rattle.leak_request.specs.declared.options.Options.{Options}
use Rattle.leak_search.specs.Signs.{AreSigns}
use Rattle.leak_search.specs.declared.rules.Rules.{Rules}
use Rattle.leak_search.specs.Why.{TellsWhy}
use Rattle.leak_search.specs.declared.why.Why.{Why as Chain}
use Rattle.leak_holder_search.specs.declared.search.Holding.{Holding}
use Rattle.leak_growth.specs.Growth.{FindsGrowth}
use Rattle.leak_growth.specs.declared.growth.Grown.{Grown}
use Rattle.leak_find.specs.Answers.{Holds, TellsChain, TellsGrowth, TellsHolding, leaked_if_not}
use Rattle.leak_find.specs.Inputs.{input_at}
use Rattle.leak_find.specs.Rules.{rules_in}
use Rattle.leak_find.specs.declared.answer.Answer.{Answer}

-- ---- inputs of four readers

just_four : (inputs : List (List ℕ)) → length inputs ≡ 4
    → input_at inputs 0 ∷ input_at inputs 1 ∷ input_at inputs 2 ∷ input_at inputs 3 ∷ [] ≡ inputs
just_four [] count = cc
just_four (a ∷ []) count = cc
just_four (a ∷ b ∷ []) count = cc
just_four (a ∷ b ∷ c ∷ []) count = cc
just_four (a ∷ b ∷ c ∷ d ∷ []) count = refl
just_four (a ∷ b ∷ c ∷ d ∷ more ∷ others) count = cc

module _ (o : Options) (rules : Rules) (inputs : List (List ℕ)) (signs : List Signs) (rules_are : rules ≡ rules_in o) where
  pub signs_of_four : length inputs ≡ 4 → (core1 log1 core2 log2 : List ℕ)
      → core1 ≡ input_at inputs 0 → log1 ≡ input_at inputs 1 → core2 ≡ input_at inputs 2 → log2 ≡ input_at inputs 3
      → AreSigns rules.other_heap (core1 ∷ log1 ∷ core2 ∷ log2 ∷ []) signs → AreSigns o.other_heap inputs signs
  signs_of_four count core1 log1 core2 log2 core1_is log1_is core2_is log2_is are =
      subst (λ (is : List (List ℕ)). AreSigns o.other_heap is signs) (just_four inputs count)
      (subst (λ (l : List ℕ). AreSigns o.other_heap (input_at inputs 0 ∷ input_at inputs 1 ∷ input_at inputs 2 ∷ l ∷ []) signs) log2_is
      (subst (λ (c : List ℕ). AreSigns o.other_heap (input_at inputs 0 ∷ input_at inputs 1 ∷ c ∷ log2 ∷ []) signs) core2_is
      (subst (λ (l : List ℕ). AreSigns o.other_heap (input_at inputs 0 ∷ l ∷ core2 ∷ log2 ∷ []) signs) log1_is
      (subst (λ (c : List ℕ). AreSigns o.other_heap (c ∷ log1 ∷ core2 ∷ log2 ∷ []) signs) core1_is
      (subst (λ (r : Rules). AreSigns r.other_heap (core1 ∷ log1 ∷ core2 ∷ log2 ∷ []) signs) rules_are are)))))

-- ---- answers

pub chain_told : (o : Options) (address : ℕ) (core log core_read log_read : List ℕ) (rules : Rules) (chain : Chain) (answer : Answer)
    → rules ≡ rules_in o → core_read ≡ core → log_read ≡ log → TellsWhy core_read log_read (distances_of rules.reading) rules.skip address chain
    → AreSigns rules.other_heap (core_read ∷ log_read ∷ []) chain.signs.items
    → answer.text.items ≡ chain.text.items → answer.leaked ≡ leaked_if_not chain.held → answer.signs.items ≡ chain.signs.items
    → TellsChain o address core log answer
chain_told o address core log core_read log_read rules chain answer rules_are core_is log_is tells signs text leaked same = record {
  chain = chain;
  tells = subst (λ (l : List ℕ). TellsWhy core l (distances_of o.reading) o.skip address chain) log_is
      (subst (λ (c : List ℕ). TellsWhy c log_read (distances_of o.reading) o.skip address chain) core_is
      (subst (λ (r : Rules). TellsWhy core_read log_read (distances_of r.reading) r.skip address chain) rules_are tells));
  text = text;
  leaked = leaked;
  signs = rw (same) (subst (λ (l : List ℕ). AreSigns o.other_heap (core ∷ l ∷ []) chain.signs.items) log_is
      (subst (λ (c : List ℕ). AreSigns o.other_heap (c ∷ log_read ∷ []) chain.signs.items) core_is
      (subst (λ (r : Rules). AreSigns r.other_heap (core_read ∷ log_read ∷ []) chain.signs.items) rules_are signs)));
}

pub holding_told : (o : Options) (question : Option Question) (core log core_read log_read : List ℕ) (since since_read : Option (List ℕ)) (holding : Holding) (answer : Answer)
    → core_read ≡ core → log_read ≡ log → since_read ≡ since → Holds question o core_read log_read since_read holding
    → AreSigns o.other_heap (core_read ∷ log_read ∷ []) holding.signs.items
    → answer ≡ record { text = holding.report; leaked = 0; signs = holding.signs } → TellsHolding o question core log since answer
holding_told o question core log core_read log_read since since_read holding answer core_is log_is since_is holds signs is = record {
  holding = holding;
  holds = subst (λ (s : Option (List ℕ)). Holds question o core log s holding) since_is
      (subst (λ (l : List ℕ). Holds question o core l since_read holding) log_is
      (subst (λ (c : List ℕ). Holds question o c log_read since_read holding) core_is holds));
  text = ap (λ (a : Answer). a.text.items) is;
  leaked = ap (λ (a : Answer). a.leaked) is;
  signs = rw (is) (subst (λ (l : List ℕ). AreSigns o.other_heap (core ∷ l ∷ []) holding.signs.items) log_is
      (subst (λ (c : List ℕ). AreSigns o.other_heap (c ∷ log_read ∷ []) holding.signs.items) core_is signs));
}

pub growth_told : (log1 log2 log1_read log2_read : List ℕ) (grown : Grown) (answer : Answer) → log1_read ≡ log1 → log2_read ≡ log2
    → FindsGrowth log1_read log2_read grown → answer ≡ record { text = grown.report; leaked = 0; signs = grown.signs } → TellsGrowth log1 log2 answer
growth_told log1 log2 log1_read log2_read grown answer log1_is log2_is finds is = record {
  grown = grown;
  finds = subst (λ (l : List ℕ). FindsGrowth log1 l grown) log2_is (subst (λ (l : List ℕ). FindsGrowth l log2_read grown) log1_is finds);
  text = ap (λ (a : Answer). a.text.items) is;
  leaked = ap (λ (a : Answer). a.leaked) is;
  signs = ap (λ (a : Answer). a.signs.items) is;
}
