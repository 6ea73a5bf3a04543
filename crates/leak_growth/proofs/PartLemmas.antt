-- The numbers of two lists of blocks that were numbered together.
use Rattle.std.proofs.Common.{◌≡◌, ℕ, ◌<◌, List, [], ◌++◌, length, map, take, drop, sym, ap, subst, ◌∙◌}
use denote.Ref.{Bor}
use Rattle.std.proofs.lemmas.List.{take-map, drop-map, take_at, drop_at, length-map}
use Rattle.std.proofs.lemmas.List.Elements.{All-take, All-drop}
use Rattle.leak_blocks.specs.declared.block.Block.{Block}
use Rattle.leak_report.specs.Totals.{text_at}
use Rattle.leak_report.specs.Numbered.{AreNumbered, bytes_each, text_with, texts_of}
use Rattle.leak_growth.specs.Rows.{AreTextsOf}

pub first_part : (log : List ℕ) (blocks : List Block) (rest texts : List (List ℕ)) (numbers : List ℕ) → AreNumbered (texts_of log blocks ++ rest) texts numbers
    → AreTextsOf log blocks texts (take (length blocks) numbers)
first_part log blocks rest texts numbers are = record {
  ascending = are.ascending;
  below = All-take (λ n. n < length texts) (length blocks) numbers are.below;
  same = sym (take-map (text_with texts) (length blocks) numbers) ∙ ap (take (length blocks)) are.same
      ∙ take_at (texts_of log blocks) rest (length blocks) (length-map blocks (λ (b : Block). text_at log b.caller));
}

pub second_part : (log : List ℕ) (blocks : List Block) (first texts : List (List ℕ)) (numbers : List ℕ) (n : ℕ) → AreNumbered (first ++ texts_of log blocks) texts numbers
    → length first ≡ n → AreTextsOf log blocks texts (drop n numbers)
second_part log blocks first texts numbers n are long = record {
  ascending = are.ascending;
  below = All-drop (λ n. n < length texts) n numbers are.below;
  same = sym (drop-map (text_with texts) n numbers) ∙ ap (drop n) are.same ∙ drop_at first (texts_of log blocks) n long;
}

-- what was numbered are the texts of both lists
pub numbered_both : (none one two slices items texts : List (Bor (List ℕ))) (first second : List (List ℕ)) (given numbers : List ℕ) → none ≡ [] → bytes_each one ≡ bytes_each none ++ first
    → bytes_each two ≡ bytes_each one ++ second → slices ≡ two → texts ≡ items → numbers ≡ given
    → AreNumbered (bytes_each slices) (bytes_each items) given → AreNumbered (first ++ second) (bytes_each texts) numbers
numbered_both none one two slices items texts first second given numbers empty one_more two_more is same those are =
    let both : bytes_each slices ≡ first ++ second =
    ap bytes_each is ∙ two_more ∙ ap (λ (ts : List (List ℕ)). ts ++ second) (one_more ∙ ap (λ (ss : List (Bor (List ℕ))). bytes_each ss ++ first) empty) in
    subst (λ (g : List (List ℕ)). AreNumbered g (bytes_each texts) numbers) both
    (subst (λ (ss : List (Bor (List ℕ))). AreNumbered (bytes_each slices) (bytes_each ss) numbers) (sym same)
    (subst (λ (ns : List ℕ). AreNumbered (bytes_each slices) (bytes_each items) ns) (sym those) are))
