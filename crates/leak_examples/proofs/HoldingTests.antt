-- Who holds the memory of a core whose marked blocks are computed.
use Rattle.std.proofs.Common.{◌≡◌, ◌↔◌, ℕ, zero, suc, ◌+◌, ◌^◌, ◌<◌, Bool, true, false, not, ◌&&◌, List, [], ◌∷◌, length, map, Option, None, refl, sym, subst, ◌∙◌, arith}
use Rattle.std.specs.Prelude.{nat_lt, slice_index, slice_index_or, IsTrue}
use Rattle.std.specs.List.{range_with_len}
use Rattle.std.proofs.lemmas.Bool.{ltb-true}
use Rattle.std.proofs.lemmas.List.FromFn.{get_or-map-range_with_len, length-map-range_with_len}
use Rattle.leak_lemmas.proofs.Bools.{not_true as not_has, and_right, and_left}
use Rattle.leak_mtrace.specs.declared.line.Line.{Line}
use Rattle.leak_mtrace.specs.Log.{IsLog}
use Rattle.leak_blocks.specs.declared.block.Block.{Block}
use Rattle.leak_blocks.specs.Live.{live_of}
use Rattle.leak_marks.specs.Lists.{has}
use Rattle.leak_marks.specs.Reach.{Graph}
use Rattle.leak_without.specs.Without.{IsHeldBy, chosen, members, without}
use Rattle.leak_report.specs.Numbered.{AreTexts}
use Rattle.leak_holders.specs.Examples.{lent}
use Rattle.leak_holders.specs.Holders.{AreHolders, Held, rows_of}
use Rattle.leak_holders.specs.Parts.{counted_in, parts_but, parts_by}
use Rattle.leak_holders.specs.declared.block_table.BlockTable.{BlockTable}
use Rattle.leak_holders.specs.declared.holder.Holder.{Holder}
use Rattle.leak_holders.specs.declared.question.Side.TheVariants.{In, Of}
use Rattle.leak_search.specs.Inputs.{IsCore}
use Rattle.leak_search.specs.Search.{graph_of_one, head_of_one}
use Rattle.leak_why.specs.Asked.{IsAsked}
use Rattle.leak_holder_search.specs.Held.{both, chosen_with, held_text}
use Rattle.leak_holder_search.specs.Since.{counted_of, is_continued_from, news_of}
use Rattle.leak_holder_search.specs.Text.{holders_text}
use Rattle.leak_examples.specs.Holding.{AreHoldersOf, IsHeldAs}
use Rattle.leak_roots.specs.Skipped.{usual_skip}
use Rattle.leak_examples.specs.Searches.{interior}
use Rattle.leak_examples.proofs.GraphTests.{is_reached, reach_is, tests_are, tests_of}

-- of the marked blocks, those that are not reached without the set
abbrev pub is_held : List ℕ → List ℕ → ℕ → Bool
is_held marked outside b = has marked b && not (has outside b)

not_is : (t : Bool) → (t ≡ true → ⊥) → not t ≡ true
not_is true h = absurd (h refl)
not_is false h = refl

and_is : (a b : Bool) → a ≡ true → b ≡ true → (a && b) ≡ true
and_is true b e f = f
and_is false b e f = absurd (let x : false ≡ true = e in cc)

pub held_is : (g : Graph) (set marked outside : List ℕ) (b : ℕ) → is_reached g marked ≡ true → is_reached (without g set) outside ≡ true → IsTrue (is_held marked outside b) ↔ IsHeldBy g set b
held_is g set marked outside b reached without_it = (
  (λ t. (
    (reach_is g marked b reached).1 (and_left (has marked b) (not (has outside b)) t),
    (λ r. not_has (has outside b) (and_right (has marked b) (not (has outside b)) t) ((reach_is (without g set) outside b without_it).0 r)),
  )),
  (λ h. and_is (has marked b) (not (has outside b)) ((reach_is g marked b reached).0 h.0)
      (not_is (has outside b) (λ e. h.1 ((reach_is (without g set) outside b without_it).1 e)))),
)

-- for each text from the number on, the blocks that are reached without its blocks
abbrev pub are_outside : Graph → List ℕ → ℕ → List (List ℕ) → Bool
are_outside g numbers text [] = true
are_outside g numbers text (o ∷ outside) = is_reached (without g (members numbers text)) o && are_outside g numbers (text + 1) outside

outside_at : (g : Graph) (numbers : List ℕ) (text k n : ℕ) (outside : List (List ℕ)) → are_outside g numbers text outside ≡ true → n ≡ text + k → k < length outside
    → is_reached (without g (members numbers n)) (slice_index_or outside k []) ≡ true
outside_at g numbers text k n [] t e h = absurd (omega arith)
outside_at g numbers text zero n (o ∷ outside) t e h =
    subst (λ (m : ℕ). is_reached (without g (members numbers m)) o ≡ true) (let s : text ≡ n = omega arith in s) (and_left (is_reached (without g (members numbers text)) o) (are_outside g numbers (text + 1) outside) t)
outside_at g numbers text (suc k) n (o ∷ outside) t e h = outside_at g numbers (text + 1) k n outside (and_right (is_reached (without g (members numbers text)) o) _ t) (omega arith) (omega arith)

abbrev pub held_with : List ℕ → List (List ℕ) → Held
held_with marked outside text b = is_held marked (slice_index_or outside text []) b

-- what is known of the blocks
abbrev pub table_with : List Block → List ℕ → List Bool → List Bool → BlockTable
table_with blocks numbers reached counted = record { blocks = lent blocks; numbers = lent numbers; reached = lent reached; counted = lent counted }

are_holders : (g : Graph) (f : BlockTable) (marked : List ℕ) (outside : List (List ℕ)) (texts : ℕ) (rows : List Holder) → is_reached g marked ≡ true → are_outside g f.numbers.now 0 outside ≡ true → texts ≡ length outside
    → rows ≡ rows_of f (held_with marked outside) texts → AreHolders g f texts rows
are_holders g f marked outside texts rows reached each many are = record {
  held = held_with marked outside;
  holds = λ text b low inside. held_is g (members f.numbers.now text) marked (slice_index_or outside text []) b reached (outside_at g f.numbers.now 0 text text outside each (omega arith) (omega (arith, low, many)));
  are = are;
}

-- what is known of an input: its marked blocks, its texts, and what is reached without the blocks of each
pub record IsInput (core log : List ℕ) (since : Option (List ℕ)) (lines : List Line) (marked : List ℕ) (texts : List (List ℕ)) (numbers : List ℕ) (outside : List (List ℕ)) : Type 0 where
  pub accepted : IsCore core
  pub is_log : IsLog log lines
  pub continued : is_continued_from since log ≡ true
  pub few : nat_lt (length (live_of lines)) (2 ^ 32) ≡ true
  pub reached : is_reached (graph_of_one core interior usual_skip lines) marked ≡ true
  pub numbered : AreTexts log (live_of lines) texts numbers
  pub each : are_outside (graph_of_one core interior usual_skip lines) numbers 0 outside ≡ true
  pub many : length texts ≡ length outside

-- the table of an input
abbrev pub table_of : List Line → Option (List ℕ) → List ℕ → List ℕ → BlockTable
table_of lines since marked numbers = table_with (live_of lines) numbers (tests_of marked (length (live_of lines))) (counted_of since (live_of lines))

pub finds_holders : (core log : List ℕ) (since : Option (List ℕ)) (lines : List Line) (marked : List ℕ) (texts : List (List ℕ)) (numbers : List ℕ) (outside : List (List ℕ)) (report : List ℕ)
    → IsInput core log since lines marked texts numbers outside
    → holders_text (head_of_one core log usual_skip lines) (live_of lines) (news_of since (live_of lines)) (tests_of marked (length (live_of lines))) texts
    (rows_of (table_of lines since marked numbers) (held_with marked outside) (length texts)) ≡ report
    → AreHoldersOf core log since report
finds_holders core log since lines marked texts numbers outside report h told = λ found is. record {
  accepted = h.accepted;
  continued = h.continued;
  lines = lines;
  is_log = h.is_log;
  few = ltb-true (length (live_of lines)) (2 ^ 32) h.few;
  set = tests_of marked (length (live_of lines));
  marked = tests_are (graph_of_one core interior usual_skip lines) marked (length (live_of lines)) h.reached;
  texts = texts;
  numbers = numbers;
  numbered = h.numbered;
  rows = rows_of (table_of lines since marked numbers) (held_with marked outside) (length texts);
  are = record {
    table = table_of lines since marked numbers;
    known = record { of_blocks = refl; of_texts = refl; reached = refl; counts = refl };
    holders = are_holders (graph_of_one core interior usual_skip lines) (table_of lines since marked numbers) marked outside (length texts) _ h.reached h.each h.many refl;
  };
  report = is ∙ sym told;
}

-- what chosen blocks hold
pub finds_held : (core log : List ℕ) (lines : List Line) (marked : List ℕ) (texts : List (List ℕ)) (numbers : List ℕ) (outside : List (List ℕ)) (address block : ℕ) (alone : Bool) (left : List ℕ) (report : List ℕ)
    → IsInput core log None lines marked texts numbers outside → IsAsked (live_of lines) address block
    → is_reached (without (graph_of_one core interior usual_skip lines) (chosen (chosen_with numbers block alone))) left ≡ true
    → held_text log (live_of lines) block In (both (chosen_with numbers block alone) (tests_of marked (length (live_of lines))))
    (both (map (is_held marked left) (range_with_len 0 (length (live_of lines)))) (counted_of None (live_of lines))) texts
    (parts_by (table_of lines None marked numbers) (λ b. slice_index_or (map (is_held marked left) (range_with_len 0 (length (live_of lines)))) b false) (length texts)) ≡ report
    → length (graph_of_one core interior usual_skip lines).targets ≡ length (live_of lines)
    → IsHeldAs core log (record { address = address; side = In; alone = alone }) report
finds_held core log lines marked texts numbers outside address block alone left report h asked without_them told all = λ found is. record {
  accepted = h.accepted;
  continued = h.continued;
  lines = lines;
  is_log = h.is_log;
  few = ltb-true (length (live_of lines)) (2 ^ 32) h.few;
  block = block;
  asked = asked;
  set = tests_of marked (length (live_of lines));
  marked = tests_are (graph_of_one core interior usual_skip lines) marked (length (live_of lines)) h.reached;
  texts = texts;
  numbers = numbers;
  numbered = h.numbered;
  table = table_of lines None marked numbers;
  known = record { of_blocks = refl; of_texts = refl; reached = refl; counts = refl };
  told = both held (counted_of None (live_of lines));
  parts = parts_by (table_of lines None marked numbers) (λ b. slice_index_or held b false) (length texts);
  are = record {
    held = held;
    len = length-map-range_with_len (is_held marked left) 0 (length (live_of lines)) ∙ sym all;
    holds = λ b inside. subst (λ (t : Bool). IsTrue t ↔ IsHeldBy (graph_of_one core interior usual_skip lines) (chosen (chosen_with numbers block alone)) b)
        (sym (get_or-map-range_with_len (is_held marked left) 0 (length (live_of lines)) b b false (omega (arith, inside, all)) (omega arith)))
        (held_is (graph_of_one core interior usual_skip lines) (chosen (chosen_with numbers block alone)) marked left b h.reached without_them);
    told_are = refl;
    rows = refl;
  };
  report = is ∙ sym told;
}
  where
    held : List Bool
    held = map (is_held marked left) (range_with_len 0 (length (live_of lines)))

-- who holds chosen blocks
pub finds_holding : (core log : List ℕ) (lines : List Line) (marked : List ℕ) (texts : List (List ℕ)) (numbers : List ℕ) (outside : List (List ℕ)) (address block : ℕ) (alone : Bool) (report : List ℕ)
    → IsInput core log None lines marked texts numbers outside → IsAsked (live_of lines) address block
    → held_text log (live_of lines) block Of (both (chosen_with numbers block alone) (tests_of marked (length (live_of lines))))
    (both (both (chosen_with numbers block alone) (tests_of marked (length (live_of lines)))) (counted_of None (live_of lines))) texts
    (parts_but (slice_index numbers block) (rows_of (counted_in (table_of lines None marked numbers) (chosen_with numbers block alone)) (held_with marked outside) (length texts))) ≡ report
    → IsHeldAs core log (record { address = address; side = Of; alone = alone }) report
finds_holding core log lines marked texts numbers outside address block alone report h asked told = λ found is. record {
  accepted = h.accepted;
  continued = h.continued;
  lines = lines;
  is_log = h.is_log;
  few = ltb-true (length (live_of lines)) (2 ^ 32) h.few;
  block = block;
  asked = asked;
  set = tests_of marked (length (live_of lines));
  marked = tests_are (graph_of_one core interior usual_skip lines) marked (length (live_of lines)) h.reached;
  texts = texts;
  numbers = numbers;
  numbered = h.numbered;
  table = table_of lines None marked numbers;
  known = record { of_blocks = refl; of_texts = refl; reached = refl; counts = refl };
  told = both (both (chosen_with numbers block alone) (tests_of marked (length (live_of lines)))) (counted_of None (live_of lines));
  parts = parts_but (slice_index numbers block) (rows_of (counted_in (table_of lines None marked numbers) (chosen_with numbers block alone)) (held_with marked outside) (length texts));
  are = record {
    told_are = refl;
    rows = record {
      holders = rows_of (counted_in (table_of lines None marked numbers) (chosen_with numbers block alone)) (held_with marked outside) (length texts);
      hold = are_holders (graph_of_one core interior usual_skip lines) (counted_in (table_of lines None marked numbers) (chosen_with numbers block alone)) marked outside (length texts) _ h.reached h.each h.many refl;
      are = refl;
    };
  };
  report = is ∙ sym told;
}
