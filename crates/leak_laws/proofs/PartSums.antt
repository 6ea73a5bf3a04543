-- Each held block that is counted is in the line of one text.
use Rattle.std.proofs.Common.{◌≡◌, ℕ, zero, suc, ◌+◌, ◌<◌, ◌≤◌, ◌==◌, ◌⊎◌, inl, inr, Bool, true, false, ◌&&◌, cond, List, [], ◌∷◌, length, map, filter, sum_by, Option, None, Some, get_or, refl, sym, ap, subst, ◌∙◌, arith}
use Rattle.std.specs.Prelude.{IfSome, if◌then◌else◌, nat_lt, slice_index, slice_index_or}
use Rattle.std.specs.List.{list_any, range_with_len}
use Rattle.std.specs.Ordering.{is_lt}
use Rattle.std.proofs.lemmas.Bool.{cases_eq, eq-eqb, ltb-false, ne_eqb}
use Rattle.std.proofs.lemmas.List.FromFn.{get_or-map-range_with_len, length-map-range_with_len}
use Rattle.std.proofs.lemmas.List.Sums.{sum_by-cons}
use Rattle.leak_lemmas.proofs.Sums.{sum_empty, none_is, one_is, sum_none as zeros, sum_same}
use Rattle.leak_blocks.specs.declared.block.Block.{Block}
use Rattle.leak_blocks.specs.Live.{live_of}
use Rattle.leak_index.specs.Leads.{Distances}
use Rattle.leak_roots.specs.declared.skip.Skip.{Skip}
use Rattle.leak_report.specs.Totals.{bytes_of, marked_in}
use Rattle.leak_holders.specs.declared.block_table.BlockTable.{BlockTable}
use Rattle.leak_holders.specs.declared.caller_share.CallerShare.{CallerShare}
use Rattle.leak_holders.specs.declared.question.Question.{Question}
use Rattle.leak_holders.specs.declared.question.Side.{Side}
use Rattle.leak_holders.specs.declared.question.Side.TheVariants.{In}
use Rattle.leak_holders.specs.Holders.{is_counted, size_of, text_of}
use Rattle.leak_holders.specs.Parts.{held_of, part_of, parts_by, parts_with_blocks, placed_part, rank_of_parts, ranked_parts}
use Rattle.leak_holders.specs.Words.{table_of}
use Rattle.leak_search.specs.Search.{graph_of_one}
use Rattle.leak_holder_search.specs.declared.search.Holding.{Holding}
use Rattle.leak_holder_search.specs.Held.{AreHeld, FindsHeld, both, chosen_with}
use Rattle.leak_holder_search.specs.Since.{counted_of}
use Rattle.leak_holder_search.proofs.NumberLemmas.{are_numbers}
use Rattle.leak_laws.specs.HeldOneLine.{told_by_answer}
use Rattle.leak_laws.specs.InSums.{AddUpTo}
use Rattle.leak_laws.specs.Reports.{sum_of}
use Rattle.leak_laws.specs.ToldAnswers.{ToldPart, ToldRows, told_part, told_rows}
use Rattle.leak_laws.proofs.HolderSums.{Tell, as_large, as_many, default as same_default}
use Rattle.leak_laws.proofs.SameHeld.{one_each}
use Rattle.leak_laws.proofs.SameRows.{known_in}
use Rattle.leak_laws.proofs.TextSums.{length_sum, sum_both, sum_map}

-- ---- sums over lines

sum_placed : (w : CallerShare → ℕ) (p : CallerShare) (rows : List CallerShare) → sum_by w (placed_part p rows) ≡ w p + sum_by w rows
sum_placed w p [] = sum_by-cons w p []
sum_placed w p (q ∷ rows) = go (is_lt (rank_of_parts p q)) (sum_placed w p rows)
  where
    go : (b : Bool) → sum_by w (placed_part p rows) ≡ w p + sum_by w rows → sum_by w (if b then p ∷ q ∷ rows else q ∷ placed_part p rows) ≡ w p + sum_by w (q ∷ rows)
    go true rest = sum_by-cons w p (q ∷ rows)
    go false rest = omega (arith, rest, sum_by-cons w q (placed_part p rows), sum_by-cons w q rows)

sum_ranked : (w : CallerShare → ℕ) (rows : List CallerShare) → sum_by w (ranked_parts rows) ≡ sum_by w rows
sum_ranked w [] = refl
sum_ranked w (p ∷ rows) = omega (arith, sum_placed w p (ranked_parts rows), sum_ranked w rows, sum_by-cons w p rows)

-- lines without a block add nothing
sum_shown : (w : CallerShare → ℕ) (row : ℕ → CallerShare) → ((t : ℕ) → (row t).blocks ≡ 0 → w (row t) ≡ 0) → (ts : List ℕ) → sum_by w (parts_with_blocks (map row ts)) ≡ sum_by (λ t. w (row t)) ts
sum_shown w row none [] = refl
sum_shown w row none (t ∷ ts) = go (nat_lt 0 (row t).blocks) refl (sum_shown w row none ts)
  where
    go : (b : Bool) → nat_lt 0 (row t).blocks ≡ b → sum_by w (parts_with_blocks (map row ts)) ≡ sum_by (λ u. w (row u)) ts
        → sum_by w (cond b (row t ∷ parts_with_blocks (map row ts)) (parts_with_blocks (map row ts))) ≡ sum_by (λ u. w (row u)) (t ∷ ts)
    go true is rest = omega (arith, rest, sum_by-cons w (row t) (parts_with_blocks (map row ts)), sum_by-cons (λ (u : ℕ). w (row u)) t ts)
    go false is rest = let zero_blocks = ltb-false 0 (row t).blocks is in omega (arith, rest, none t (omega arith), sum_by-cons (λ (u : ℕ). w (row u)) t ts)

-- ---- each block is in one line

module _ (w text : ℕ → ℕ) (held counted : ℕ → Bool) (texts : ℕ) where
  abbrev of : ℕ → ℕ → Bool
  of t b = (held b && (text b == t)) && counted b

  abbrev told : ℕ → Bool
  told b = held b && counted b

  one_more : (t b : ℕ) (xs : List ℕ) → sum_by w (cond (of t b) (b ∷ xs) xs) ≡ cond (text b == t) (cond (told b) (w b) 0) 0 + sum_by w xs
  one_more t b xs = go (held b) (text b == t) (counted b)
    where
      go : (h e c : Bool) → sum_by w (cond ((h && e) && c) (b ∷ xs) xs) ≡ cond e (cond (h && c) (w b) 0) 0 + sum_by w xs
      go true true true = sum_by-cons w b xs
      go true true false = omega arith
      go true false c = omega arith
      go false true c = omega arith
      go false false c = omega arith

  told_more : (b : ℕ) (xs : List ℕ) → sum_by w (cond (told b) (b ∷ xs) xs) ≡ cond (told b) (w b) 0 + sum_by w xs
  told_more b xs = go (told b)
    where
      go : (t : Bool) → sum_by w (cond t (b ∷ xs) xs) ≡ cond t (w b) 0 + sum_by w xs
      go true = sum_by-cons w b xs
      go false = omega arith

  each_once : (a n : ℕ) → ((b : ℕ) → a ≤ b → b < a + n → text b < texts)
      → sum_by (λ t. sum_by w (filter (of t) (range_with_len a n))) (range_with_len 0 texts) ≡ sum_by w (filter told (range_with_len a n))
  each_once a zero inside = zeros (range_with_len 0 texts)
  each_once a (suc n) inside =
      let more = sum_same (λ t. sum_by w (filter (of t) (range_with_len a (suc n)))) (λ t. cond (text a == t) (cond (told a) (w a) 0) 0 + sum_by w (filter (of t) (range_with_len (a + 1) n)))
      (λ t. one_more t a (filter (of t) (range_with_len (a + 1) n))) (range_with_len 0 texts) in
      let split = sum_both (λ t. cond (text a == t) (cond (told a) (w a) 0) 0) (λ t. sum_by w (filter (of t) (range_with_len (a + 1) n))) (range_with_len 0 texts) in
      let one = one_is (text a) (cond (told a) (w a) 0) 0 texts (omega arith) (let low = inside a (omega arith) (omega arith) in omega arith) in
      let right = told_more a (filter told (range_with_len (a + 1) n)) in
      omega (arith, more, split, one, right, each_once (a + 1) n (λ b l h. inside b (omega arith) (omega arith)))

-- ---- the lines of an answer

module _ (f : BlockTable) (held : ℕ → Bool) (texts : ℕ) (inside : (b : ℕ) → b < length f.blocks.now → text_of f b < texts) where
  in_blocks : sum_by (λ p. p.blocks) (parts_by f held texts) ≡ length (filter (λ b. held b && is_counted f b) (range_with_len 0 (length f.blocks.now)))
  in_blocks =
      sum_ranked (λ p. p.blocks) (parts_with_blocks (map (part_of f held) (range_with_len 0 texts)))
      ∙ sum_shown (λ p. p.blocks) (part_of f held) (λ t e. e) (range_with_len 0 texts)
      ∙ sum_same (λ t. length (held_of f held t)) (λ t. sum_by (λ b. 1) (held_of f held t)) (λ t. length_sum (held_of f held t)) (range_with_len 0 texts)
      ∙ each_once (λ b. 1) (text_of f) held (is_counted f) texts 0 (length f.blocks.now) (λ b l h. inside b (omega arith))
      ∙ sym (length_sum (filter (λ b. held b && is_counted f b) (range_with_len 0 (length f.blocks.now))))

  in_bytes : sum_by (λ p. p.bytes) (parts_by f held texts) ≡ sum_by (size_of f) (filter (λ b. held b && is_counted f b) (range_with_len 0 (length f.blocks.now)))
  in_bytes =
      sum_ranked (λ p. p.bytes) (parts_with_blocks (map (part_of f held) (range_with_len 0 texts)))
      ∙ sum_shown (λ p. p.bytes) (part_of f held) (λ t e. sum_empty (size_of f) (held_of f held t) e) (range_with_len 0 texts)
      ∙ each_once (size_of f) (text_of f) held (is_counted f) texts 0 (length f.blocks.now) (λ b l h. inside b (omega arith))

shown : (blocks : List Block) (own told : List Bool) (texts : List (List ℕ)) (parts : List CallerShare) → sum_by (λ p. p.blocks) parts ≡ length (marked_in told blocks) → sum_by (λ p. p.bytes) parts ≡ bytes_of (marked_in told blocks)
    → IfSome (told_rows blocks own told texts parts) AddUpTo
shown blocks own told texts parts many large = go (list_any (λ x. x) own)
  where
    go : (b : Bool) → IfSome {T = ToldRows} (if b then Some (record { sum = sum_of (marked_in told blocks); parts = map (told_part texts) parts }) else None) AddUpTo
    go true = record { blocks = sum_map (told_part texts) (λ (p : ToldPart). p.blocks) parts ∙ many; bytes = sum_map (told_part texts) (λ (p : ToldPart). p.bytes) parts ∙ large }
    go false = tt

pub in_lines_add_up : (core log : List ℕ) (since : Option (List ℕ)) (reading : Distances) (skip : Skip) (question : Question) (found : Holding)
    → (f : FindsHeld core log since reading skip question found) → question.side ≡ In → IfSome (told_by_answer f).rows AddUpTo
in_lines_add_up core log since reading skip question found f side =
    let are = subst (λ (s : Side). AreHeld s (graph_of_one core reading skip f.lines) f.table (length f.texts) (chosen_with f.numbers f.block question.alone) (slice_index f.numbers f.block) f.told f.parts) side f.are in
    let known = known_in (graph_of_one core reading skip f.lines) (live_of f.lines) f.numbers f.set (counted_of since (live_of f.lines)) (length f.texts) (chosen_with f.numbers f.block question.alone) f.told f.parts f.table f.known are in
    let n = are_numbers log (live_of f.lines) f.texts f.numbers f.numbered f.few in
    let long : length known.held ≡ length (live_of f.lines) = known.len ∙ sym (one_each core reading skip f.lines) in
    let held : ℕ → Bool = λ b. slice_index_or known.held b false in
    let k : BlockTable = table_of (live_of f.lines) f.numbers f.set (counted_of since (live_of f.lines)) in
    let tell : Tell (λ b. slice_index_or known.held b false && is_counted k b) (size_of k) 0 f.told (live_of f.lines) = record {
      tests = λ i low.
          (let e : 0 + i ≡ i = omega arith in
          let there : i < length known.held = omega (arith, low, ap length known.told_are, length-map-range_with_len (λ b. slice_index_or known.held b false && slice_index_or (counted_of since (live_of f.lines)) b false) 0 (length known.held)) in
          ap (λ (j : ℕ). slice_index_or known.held j false && is_counted k j) e
          ∙ sym (get_or-map-range_with_len (λ b. slice_index_or known.held b false && slice_index_or (counted_of since (live_of f.lines)) b false) 0 (length known.held) i i false there (omega arith))
          ∙ ap (λ (t : List Bool). slice_index_or t i false) (sym known.told_are));
      sizes = λ i d low.
          (let e : 0 + i ≡ i = omega arith in
          ap (size_of k) e ∙ ap (λ (b : Block). b.size) (same_default (live_of f.lines) i (record { start = 0; size = 0; line = 0; caller = (0, 0) }) d low));
    } in
    let as_told : length f.told ≡ length (live_of f.lines) = ap length known.told_are ∙ length-map-range_with_len (λ b. slice_index_or known.held b false && slice_index_or (counted_of since (live_of f.lines)) b false) 0 (length known.held) ∙ long in
    let blocks : sum_by (λ p. p.blocks) f.parts ≡ length (marked_in f.told (live_of f.lines)) =
    ap (sum_by (λ p. p.blocks)) known.rows ∙ in_blocks k held (length f.texts) (λ b low. n.of_texts b low) ∙ as_many _ _ 0 f.told (live_of f.lines) as_told tell in
    let bytes : sum_by (λ p. p.bytes) f.parts ≡ bytes_of (marked_in f.told (live_of f.lines)) =
    ap (sum_by (λ p. p.bytes)) known.rows ∙ in_bytes k held (length f.texts) (λ b low. n.of_texts b low) ∙ as_large _ _ 0 f.told (live_of f.lines) as_told tell in
    shown (live_of f.lines) (both (chosen_with f.numbers f.block question.alone) f.set) f.told f.texts f.parts blocks bytes
