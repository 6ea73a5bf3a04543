-- Slack of blocks.
use Rattle.std.proofs.Common.{◌≡◌, ℕ, ◌+◌, ◌-◌, ◌%◌, ◌^◌, ◌<◌, ◌≤◌, Bool, true, false, ◌&&◌, List, [], ◌∷◌, ◌++◌, length, take, get_or, Option, Some, None, refl, sym, ap, subst, ◌∙◌, append-nil, arith, if◌then◌else◌, nat_lt, ltb→lt}
use Rattle.std.specs.Bool.{passes}
use Rattle.std.proofs.Math.Bool.{and-false}
use Rattle.std.specs.Prelude.{filter_map}
use Rattle.std.specs.List.{cons_option}
use Rattle.std.specs.Option.{option_map_or}
use Rattle.std.proofs.lemmas.Bool.{le-ltb, lt-ltb, eq-eqb, ne_eqb}
use Rattle.std.proofs.lemmas.List.{take_more, take_all}
use Rattle.std.proofs.lemmas.List.Elements.{filter_map-append}
use Rattle.leak_lemmas.proofs.Bools.{and_right}
use Rattle.leak_blocks.specs.declared.block.Block.{Block}
use Rattle.leak_blocks.specs.declared.small.Span.{Span}
use Rattle.leak_blocks.specs.Small.{AreSpans}
use Rattle.leak_blocks.proofs.SmallLemmas.{spans_push}
use Rattle.leak_chunks.specs.Fit.{chunk_size, fits_core, fits_word, is_mapped}
use Rattle.leak_chunks.specs.Slack.{chunk_end, slack_by, slack_of, slack_spans_of}

-- ---- the slack of a block by its size word

pub ends_at : (b : Block) (word after taken : ℕ) → after ≡ b.start + chunk_size word → taken ≡ (if is_mapped word then 16 else 8) → after - taken ≡ chunk_end b word
ends_at b word after taken e f = rw (e, f) refl

pub taken_is : (word taken : ℕ) (t : Bool) → t ≡ is_mapped word → taken ≡ (if t then 16 else 8) → taken ≡ (if is_mapped word then 16 else 8)
taken_is word taken t e f = rw (← e) f

pub beyond_the_last : (b : Block) (word : ℕ) → 2 ^ 64 ≤ b.start + chunk_size word → None ≡ slack_by b word
unfolding slack_by
beyond_the_last b word past = rw (le-ltb (b.start + chunk_size word) (2 ^ 64) past) refl

pub no_slack : (b : Block) (word end : ℕ) → end ≡ chunk_end b word → end ≤ b.start + b.size → None ≡ slack_by b word
unfolding slack_by
no_slack b word end is full =
    let none : nat_lt (b.start + b.size) (chunk_end b word) ≡ false = le-ltb (b.start + b.size) (chunk_end b word) (subst (λ (n : ℕ). n ≤ b.start + b.size) is full) in
    rw (none, and-false (nat_lt (b.start + chunk_size word) (2 ^ 64))) refl

pub some_slack : (b : Block) (word end : ℕ) → end ≡ chunk_end b word → b.start + chunk_size word < 2 ^ 64 → b.start + b.size < end
    → Some (record { first = b.start + b.size; last = end - 1 }) ≡ slack_by b word
unfolding slack_by
some_slack b word end is fits some =
    let low : nat_lt (b.start + chunk_size word) (2 ^ 64) ≡ true = lt-ltb (b.start + chunk_size word) (2 ^ 64) fits in
    let more : nat_lt (b.start + b.size) (chunk_end b word) ≡ true = lt-ltb (b.start + b.size) (chunk_end b word) (subst (λ (n : ℕ). b.start + b.size < n) is some) in
    rw (low, more, is) refl

-- slack has an address
by_word : (b : Block) (word : ℕ) (s : Span) → slack_by b word ≡ Some s → s.first ≤ s.last
unfolding slack_by
by_word b word s e = go (nat_lt (b.start + chunk_size word) (2 ^ 64) && nat_lt (b.start + b.size) (chunk_end b word)) refl e
  where
    go : (t : Bool) → (nat_lt (b.start + chunk_size word) (2 ^ 64) && nat_lt (b.start + b.size) (chunk_end b word)) ≡ t
        → (if t then Some (record { first = b.start + b.size; last = chunk_end b word - 1 }) else None) ≡ Some s → s.first ≤ s.last
    go true is f =
        let same : record { first = b.start + b.size; last = chunk_end b word - 1 } ≡ s = cc in
        let more : b.start + b.size < chunk_end b word = ltb→lt _ _ (passes _ (and_right (nat_lt (b.start + chunk_size word) (2 ^ 64)) (nat_lt (b.start + b.size) (chunk_end b word)) is)) in
        subst (λ (t : Span). t.first ≤ t.last) same (omega arith)
    go false is f = absurd cc

-- ---- the slack of a block

module _ (word_at : ℕ → Option ℕ) where
  pub none_unaligned : (b : Block) → ¬ (b.start % 16 ≡ 0) → None ≡ slack_of word_at b
  unfolding slack_of fits_core
  none_unaligned b other = rw (ne_eqb (b.start % 16) 0 other) refl

  pub none_wordless : (b : Block) → b.start % 16 ≡ 0 → word_at (b.start - 8) ≡ None → None ≡ slack_of word_at b
  unfolding slack_of fits_core
  none_wordless b aligned is = rw (eq-eqb (b.start % 16) 0 aligned, is) refl

  pub none_misfit : (b : Block) (word : ℕ) → b.start % 16 ≡ 0 → word_at (b.start - 8) ≡ Some word → fits_word word_at b word ≡ false → None ≡ slack_of word_at b
  unfolding slack_of fits_core
  none_misfit b word aligned is misfit = rw (eq-eqb (b.start % 16) 0 aligned, is, misfit) refl

  pub of_fitting : (b : Block) (word : ℕ) → b.start % 16 ≡ 0 → word_at (b.start - 8) ≡ Some word → fits_word word_at b word ≡ true → slack_by b word ≡ slack_of word_at b
  unfolding slack_of fits_core
  of_fitting b word aligned is fits = rw (eq-eqb (b.start % 16) 0 aligned, is, fits) refl

  pub is_slack : (b : Block) (s : Span) → slack_of word_at b ≡ Some s → s.first ≤ s.last
  unfolding slack_of
  is_slack b s e = go (fits_core word_at b) (word_at (b.start - 8)) e
    where
      go : (t : Bool) (o : Option ℕ) → (if t then option_map_or (slack_by b) o None else None) ≡ Some s → s.first ≤ s.last
      go true (Some word) f = by_word b word s f
      go true None f = absurd cc
      go false o f = absurd cc

-- ---- the slack of the first blocks

pub record AreSlackOf (word_at : ℕ → Option ℕ) (blocks : List Block) (i : ℕ) (spans : List Span) : Type 0 where
  pub each : AreSpans spans
  pub is : spans ≡ slack_spans_of word_at (take i blocks)

module _ (word_at : ℕ → Option ℕ) where
  -- one block more
  spans_next : (blocks : List Block) (i : ℕ) (d : Block) → i < length blocks
      → slack_spans_of word_at (take (i + 1) blocks) ≡ slack_spans_of word_at (take i blocks) ++ cons_option (slack_of word_at (get_or blocks i d)) []
  unfolding slack_spans_of
  spans_next blocks i d h =
      ap (filter_map (slack_of word_at)) (take_more blocks i d h) ∙ filter_map-append (slack_of word_at) (take i blocks) (get_or blocks i d ∷ [])

  pub slack_first : (blocks : List Block) → AreSlackOf word_at blocks 0 []
  unfolding slack_spans_of
  slack_first blocks = record { each = λ k d h. absurd (omega arith); is = refl }

  pub slack_same : (blocks : List Block) (i : ℕ) (d : Block) (spans : List Span) → AreSlackOf word_at blocks i spans → i < length blocks → slack_of word_at (get_or blocks i d) ≡ None
      → AreSlackOf word_at blocks (i + 1) spans
  slack_same blocks i d spans found h none = record {
    each = found.each;
    is = found.is ∙ sym (spans_next blocks i d h ∙ ap (λ (o : Option Span). slack_spans_of word_at (take i blocks) ++ cons_option o []) none ∙ append-nil (slack_spans_of word_at (take i blocks)));
  }

  pub slack_more : (blocks : List Block) (i : ℕ) (d : Block) (spans : List Span) (s : Span) → AreSlackOf word_at blocks i spans → i < length blocks → slack_of word_at (get_or blocks i d) ≡ Some s
      → AreSlackOf word_at blocks (i + 1) (spans ++ s ∷ [])
  slack_more blocks i d spans s found h some = record {
    each = spans_push spans s found.each (is_slack word_at (get_or blocks i d) s some);
    is = ap (λ (ss : List Span). ss ++ s ∷ []) found.is ∙ sym (spans_next blocks i d h ∙ ap (λ (o : Option Span). slack_spans_of word_at (take i blocks) ++ cons_option o []) some);
  }

  pub slack_all : (blocks : List Block) (i : ℕ) (spans : List Span) → AreSlackOf word_at blocks i spans → length blocks ≤ i → spans ≡ slack_spans_of word_at blocks
  slack_all blocks i spans found all = found.is ∙ ap (slack_spans_of word_at) (take_all i blocks all)
