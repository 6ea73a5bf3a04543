-- The blocks of a text, by its bytes and by its number.
use Rattle.std.proofs.Common.{◌≡◌, ℕ, ◌<◌, List, [], length, get_or, sym, ap, ◌∙◌, arith}
use Rattle.std.specs.List.{range_with_len}
use Rattle.std.proofs.lemmas.List.{get_or-map, length-map}
use Rattle.std.proofs.lemmas.Slice.Eq.{bytes_eq-Decides}
use Rattle.leak_growth.proofs.SumLemmas.{one_place}
use Rattle.leak_blocks.specs.declared.block.Block.{Block}
use Rattle.leak_marks.specs.Lists.{Has, Within}
use Rattle.leak_marks.specs.Reach.{Graph}
use Rattle.leak_marks.proofs.ElementLemmas.{has_filter, of_filter, of_range}
use Rattle.leak_without.specs.Without.{IsHeldBy, graph_of, members}
use Rattle.leak_without.proofs.GoingLemmas.{has_range, of_members, to_members}
use Rattle.leak_without.proofs.HeldLemmas.{larger_hold_as_much}
use Rattle.leak_report.specs.Totals.{text_at}
use Rattle.leak_report.specs.Numbered.{AreTexts, text_with, texts_of}
use Rattle.leak_laws.specs.HolderLines.{blocks_with_text}
use Rattle.leak_laws.proofs.OuterTexts.{holder_reached}

module _ (log : List ℕ) (blocks : List Block) (texts : List (List ℕ)) (numbers : List ℕ) (are : AreTexts log blocks texts numbers) where
  pub a_number_each : length numbers ≡ length blocks
  a_number_each = sym (length-map numbers (text_with texts)) ∙ ap length are.same ∙ length-map blocks (λ (b : Block). text_at log b.caller)

  pub number_low : (b : ℕ) → b < length blocks → get_or numbers b 0 < length texts
  number_low b inside = are.below b 0 (omega (arith, inside, a_number_each))

  -- a block's text is that with its number
  pub text_is : (b : ℕ) → b < length blocks → text_with (texts_of log blocks) b ≡ text_with texts (get_or numbers b 0)
  text_is b inside = ap (λ (ts : List (List ℕ)). get_or ts b []) (sym are.same) ∙ get_or-map (text_with texts) numbers b 0 [] (omega (arith, inside, a_number_each))

  pub inside_text : (text : List ℕ) (b : ℕ) → Has (blocks_with_text log blocks text) b → (b < length blocks) × (text_with (texts_of log blocks) b ≡ text)
  inside_text text b i =
      let parts = of_filter _ (range_with_len 0 (length blocks)) b i in
      let low = of_range (length blocks) 0 b parts.0 in
      (omega (arith, low.1), (bytes_eq-Decides (text_with (texts_of log blocks) b) text).0 parts.1)

  pub has_text : (text : List ℕ) (b : ℕ) → b < length blocks → text_with (texts_of log blocks) b ≡ text → Has (blocks_with_text log blocks text) b
  has_text text b inside is = has_filter _ (range_with_len 0 (length blocks)) b (has_range (length blocks) b inside) ((bytes_eq-Decides (text_with (texts_of log blocks) b) text).1 is)

  pub by_number : (n : ℕ) → n < length texts → Within (members numbers n) (blocks_with_text log blocks (text_with texts n))
  by_number n low b i =
      let long = a_number_each in
      let parts = of_filter _ (range_with_len 0 (length numbers)) b i in
      let below = of_range (length numbers) 0 b parts.0 in
      let inside : b < length blocks = omega (arith, below.1, long) in
      has_text (text_with texts n) b inside (text_is b inside ∙ ap (text_with texts) (of_members numbers n b i))

  pub by_text : (n : ℕ) → n < length texts → Within (blocks_with_text log blocks (text_with texts n)) (members numbers n)
  by_text n low b i =
      let parts = inside_text (text_with texts n) b i in
      to_members numbers n b (omega (arith, parts.0, a_number_each)) (one_place texts (get_or numbers b 0) n are.ascending (number_low b parts.0) low (sym (text_is b parts.0) ∙ parts.1))

  module _ (graph : Graph) where
    pub holds_by_number : (n : ℕ) → n < length texts → (b : ℕ) → IsHeldBy graph (members numbers n) b → IsHeldBy graph (blocks_with_text log blocks (text_with texts n)) b
    holds_by_number n low b held = larger_hold_as_much graph (members numbers n) (blocks_with_text log blocks (text_with texts n)) (by_number n low) b held

    pub holds_by_text : (n : ℕ) → n < length texts → (b : ℕ) → IsHeldBy graph (blocks_with_text log blocks (text_with texts n)) b → IsHeldBy graph (members numbers n) b
    holds_by_text n low b held = larger_hold_as_much graph (blocks_with_text log blocks (text_with texts n)) (members numbers n) (by_text n low) b held

  -- the number of a text
  pub record IsText (text : List ℕ) : Type 0 where
    pub number : ℕ
    pub low : number < length texts
    pub is : text ≡ text_with texts number

  -- a text that holds a block is one of the texts
  pub holder_text : (first : List ℕ) (targets : List (List ℕ)) (text : List ℕ) (b : ℕ) → IsHeldBy (graph_of first targets) (blocks_with_text log blocks text) b → IsText text
  holder_text first targets text b held =
      let own = holder_reached first targets (blocks_with_text log blocks text) b held in
      let parts = inside_text text own.block own.«in» in
      record { number = get_or numbers own.block 0; low = number_low own.block parts.0; is = sym parts.1 ∙ text_is own.block parts.0 }
