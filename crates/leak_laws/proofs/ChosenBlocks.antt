-- The chosen blocks, by numbers of texts and by the texts.
use Rattle.std.proofs.Common.{◌≡◌, ℕ, ◌<◌, ◌==◌, Bool, true, false, List, [], ◌∷◌, length, get_or, ⊎_elim, sym, ap, subst, ◌∙◌, arith}
use Rattle.std.specs.Prelude.{if◌then◌else◌}
use Rattle.std.specs.List.{range_with_len}
use Rattle.std.proofs.lemmas.Bool.{eq-eqb, eqb-true}
use Rattle.std.proofs.lemmas.List.FromFn.{get_or-map-range_with_len, length-map-range_with_len}
use Rattle.leak_growth.proofs.SumLemmas.{one_place}
use Rattle.leak_blocks.specs.declared.block.Block.{Block}
use Rattle.leak_marks.specs.Lists.{Has}
use Rattle.leak_marks.proofs.ElementLemmas.{has_filter, of_filter, of_range}
use Rattle.leak_marks.proofs.ListLemmas.{at_head, here, none_has}
use Rattle.leak_without.specs.Without.{chosen}
use Rattle.leak_without.proofs.GoingLemmas.{has_range}
use Rattle.leak_report.specs.Numbered.{AreTexts, text_with, texts_of}
use Rattle.leak_holder_search.specs.Held.{chosen_with}
use Rattle.leak_laws.specs.PartLines.{chosen_blocks}
use Rattle.leak_laws.proofs.TextBlocks.{a_number_each, has_text, inside_text, number_low, text_is}

module _ (log : List ℕ) (blocks : List Block) (texts : List (List ℕ)) (numbers : List ℕ) (are : AreTexts log blocks texts numbers) (block : ℕ) (inside : block < length blocks) where
  abbrev passes : Bool → ℕ → Bool
  passes alone b = if alone then b == block else get_or numbers b 0 == get_or numbers block 0

  among : (alone : Bool) (b : ℕ) → b < length blocks → passes alone b ≡ true → Has (chosen_blocks log blocks block alone) b
  among true b low is = subst (λ (c : ℕ). Has (block ∷ []) c) (sym (eqb-true b block is)) (here block [])
  among false b low is =
      has_text log blocks texts numbers are (text_with (texts_of log blocks) block) b low
      (text_is log blocks texts numbers are b low ∙ ap (text_with texts) (eqb-true (get_or numbers b 0) (get_or numbers block 0) is) ∙ sym (text_is log blocks texts numbers are block inside))

  of_among : (alone : Bool) (b : ℕ) → Has (chosen_blocks log blocks block alone) b → (b < length blocks) × (passes alone b ≡ true)
  of_among true b i =
      ⊎_elim (λ (e : block ≡ b). (subst (λ (c : ℕ). c < length blocks) e inside, eq-eqb b block (sym e))) (λ (h : Has [] b). absurd (none_has b h)) (at_head block [] b i)
  of_among false b i =
      let parts = inside_text log blocks texts numbers are (text_with (texts_of log blocks) block) b i in
      let same : text_with texts (get_or numbers b 0) ≡ text_with texts (get_or numbers block 0) = sym (text_is log blocks texts numbers are b parts.0) ∙ parts.1 ∙ text_is log blocks texts numbers are block inside in (
        parts.0,
        eq-eqb (get_or numbers b 0) (get_or numbers block 0)
            (one_place texts (get_or numbers b 0) (get_or numbers block 0) are.ascending (number_low log blocks texts numbers are b parts.0) (number_low log blocks texts numbers are block inside) same),
      )

  module _ (alone : Bool) where
    pub chosen_at : (b : ℕ) → b < length blocks → get_or (chosen_with numbers block alone) b false ≡ passes alone b
    chosen_at b low =
        let long = a_number_each log blocks texts numbers are in
        get_or-map-range_with_len (λ c. passes alone c) 0 (length numbers) b b false (omega (arith, low, long)) (omega arith)

    pub chosen_each : length (chosen_with numbers block alone) ≡ length blocks
    chosen_each = length-map-range_with_len (λ c. passes alone c) 0 (length numbers) ∙ a_number_each log blocks texts numbers are

    -- a block that is told as chosen is one of them
    pub told_chosen : (b : ℕ) → b < length blocks → get_or (chosen_with numbers block alone) b false ≡ true → Has (chosen_blocks log blocks block alone) b
    told_chosen b low is = among alone b low (sym (chosen_at b low) ∙ is)

    pub chosen_told : (b : ℕ) → Has (chosen_blocks log blocks block alone) b → (b < length blocks) × (get_or (chosen_with numbers block alone) b false ≡ true)
    chosen_told b i = let parts = of_among alone b i in (parts.0, chosen_at b parts.0 ∙ parts.1)

    pub of_chosen : (b : ℕ) → Has (chosen (chosen_with numbers block alone)) b → Has (chosen_blocks log blocks block alone) b
    of_chosen b i =
        let parts = of_filter _ (range_with_len 0 (length (chosen_with numbers block alone))) b i in
        let low = of_range (length (chosen_with numbers block alone)) 0 b parts.0 in
        told_chosen b (omega (arith, low.1, chosen_each)) parts.1

    pub to_chosen : (b : ℕ) → Has (chosen_blocks log blocks block alone) b → Has (chosen (chosen_with numbers block alone)) b
    to_chosen b i =
        let parts = chosen_told b i in
        has_filter _ (range_with_len 0 (length (chosen_with numbers block alone))) b (has_range (length (chosen_with numbers block alone)) b (omega (arith, parts.0, chosen_each))) parts.1
