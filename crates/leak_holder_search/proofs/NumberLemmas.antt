-- Texts are no more than blocks, and what holds of the numbers of blocks.
use Rattle.std.proofs.Common.{◌≡◌, ℕ, ◌<◌, ◌≤◌, ◌^◌, true, List, length, sym, ap, ◌∙◌, arith, refl}
use Rattle.std.specs.List.{Contains}
use Rattle.std.specs.declared.cmp.Ordering.{Ordering}
use Rattle.std.specs.declared.cmp.Ordering.TheVariants.{Less, Equal, Greater}
use Rattle.std.specs.Cmp.Lexicographic.{slice_cmp}
use Rattle.std.specs.Ordering.{nat_cmp, eq_by_cmp, is_eq}
use Rattle.std.proofs.lemmas.Cmp.{nat_list_cmp_total, eq_by_cmp_equiv}
use Rattle.std.proofs.lemmas.List.{length-map}
use Rattle.std.proofs.lemmas.List.Elements.{All-contains}
use Rattle.std.proofs.lemmas.Map.Keys.{IsDistinct-from_sorted}
use Rattle.std.proofs.lemmas.Map.Lookups.{exact_bytes}
use Rattle.std.proofs.lemmas.Map.Made.{length-le_from_is_member}
use Rattle.std.proofs.lemmas.Map.Views.{Contains-from_any, list_any-from_Contains}
use Rattle.leak_blocks.specs.declared.block.Block.{Block}
use Rattle.leak_report.specs.Numbered.{AreNumbered, AreTexts, text_with, texts_of}
use Rattle.leak_report.specs.Totals.{text_at}
use Rattle.leak_holder_search.specs.Rows.{AreNumbers}

tied : (o : Ordering) → is_eq o ≡ true → o ≡ Equal
tied Less e = cc
tied Equal e = refl
tied Greater e = cc

same_text : (x y : List ℕ) → eq_by_cmp (slice_cmp nat_cmp) x y ≡ true → x ≡ y
same_text x y e = exact_bytes x y (tied (slice_cmp nat_cmp x y) e)

-- each text is one of the given, and none is there twice
few_texts : (given texts : List (List ℕ)) (numbers : List ℕ) → AreNumbered given texts numbers → length texts ≤ length given
few_texts given texts numbers are =
    length-le_from_is_member (eq_by_cmp_equiv nat_list_cmp_total) texts given (IsDistinct-from_sorted (slice_cmp nat_cmp) texts are.ascending)
    (λ q m. list_any-from_Contains (eq_by_cmp_equiv nat_list_cmp_total) q given
    (All-contains (Contains given) texts q are.each (Contains-from_any same_text q texts m)))

pub are_numbers : (log : List ℕ) (blocks : List Block) (texts : List (List ℕ)) (numbers : List ℕ) → AreTexts log blocks texts numbers → length blocks < 2 ^ 32
    → AreNumbers (length blocks) (length texts) numbers
are_numbers log blocks texts numbers are few =
    let given : length (texts_of log blocks) ≡ length blocks = length-map blocks (λ (b : Block). text_at log b.caller) in
    let long : length numbers ≡ length blocks = sym (length-map numbers (text_with texts)) ∙ ap length are.same ∙ given in
    record {
      one_each = long;
      of_texts = λ b h. are.below b 0 (omega arith);
      few = let no_more : length texts ≤ length (texts_of log blocks) = few_texts (texts_of log blocks) texts numbers are in omega arith;
    }
