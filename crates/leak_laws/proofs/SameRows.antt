-- Rows are told by lists of what is known of blocks, and by which blocks are held.
use Rattle.std.proofs.Common.{◌≡◌, ℕ, zero, suc, ◌+◌, ◌<◌, ◌≤◌, Bool, true, false, not, ◌&&◌, ◌==◌, cond, List, [], ◌∷◌, length, map, filter, refl, sym, ap, subst, ◌∙◌, arith, IsTrue}
use Rattle.std.specs.Prelude.{◌↔◌, slice_index_or, slice_index}
use Rattle.std.specs.List.{list_all, range_with_len}
use Rattle.leak_lemmas.proofs.Ranges.{filter_same}
use Rattle.leak_blocks.specs.declared.block.Block.{Block}
use Rattle.leak_marks.specs.Reach.{Graph}
use Rattle.leak_holders.specs.declared.block_table.BlockTable.{BlockTable}
use Rattle.leak_holders.specs.declared.holder.Holder.{Holder}
use Rattle.leak_holders.specs.declared.caller_share.CallerShare.{CallerShare}
use Rattle.leak_holders.specs.declared.question.Side.{Side}
use Rattle.leak_holders.specs.declared.question.Side.TheVariants.{In, Of}
use Rattle.leak_holders.specs.Holders.{AreHolders, Held, below, blocks_with, bytes_of, held_by, is_counted, is_own, is_within, own_of, ranked, row_of, rows_of, with_blocks}
use Rattle.leak_holders.specs.Parts.{counted_in, parts_but, parts_by}
use Rattle.leak_holders.specs.Words.{table_of}
use Rattle.leak_holder_search.specs.Held.{AreHeld, AreHeldIn, AreHeldOf, both}
use Rattle.leak_holder_search.specs.Rows.{AreKnown, AreRows}

pub bool_same : (x y : Bool) {P : Type 0} → (IsTrue x ↔ P) → (IsTrue y ↔ P) → x ≡ y
bool_same true true p q = refl
bool_same false false p q = refl
bool_same true false p q = sym (q.1 (p.0 refl))
bool_same false true p q = p.1 (q.0 refl)

tests_are_one : (xs ys : List Bool) → length xs ≡ length ys → ((i : ℕ) → i < length xs → slice_index_or xs i false ≡ slice_index_or ys i false) → xs ≡ ys
tests_are_one [] [] n same = refl
tests_are_one [] (y ∷ ys) n same = absurd (omega (arith, n))
tests_are_one (x ∷ xs) [] n same = absurd (omega (arith, n))
tests_are_one (x ∷ xs) (y ∷ ys) n same =
    let first : x ≡ y = same 0 (omega arith) in
    let rest : xs ≡ ys = tests_are_one xs ys (omega (arith, n)) (λ i low. same (suc i) (omega arith)) in
    cc

map_range : {X : Type 0} (g h : ℕ → X) (a n : ℕ) → ((x : ℕ) → a ≤ x → x < a + n → g x ≡ h x) → map g (range_with_len a n) ≡ map h (range_with_len a n)
map_range g h a zero same = refl
map_range g h a (suc n) same =
    let first = same a (omega arith) (omega arith) in
    let rest = map_range g h (a + 1) n (λ x low high. same x (omega arith) (omega arith)) in
    cc

all_same : (p q r : ℕ → Bool) (a n : ℕ) → ((x : ℕ) → a ≤ x → x < a + n → p x ≡ q x) → list_all p (filter r (range_with_len a n)) ≡ list_all q (filter r (range_with_len a n))
all_same p q r a zero same = refl
all_same p q r a (suc n) same = go (r a) (same a (omega arith) (omega arith)) (all_same p q r (a + 1) n (λ x low high. same x (omega arith) (omega arith)))
  where
    go : (t : Bool) → p a ≡ q a → list_all p (filter r (range_with_len (a + 1) n)) ≡ list_all q (filter r (range_with_len (a + 1) n))
        → list_all p (cond t (a ∷ filter r (range_with_len (a + 1) n)) (filter r (range_with_len (a + 1) n))) ≡ list_all q (cond t (a ∷ filter r (range_with_len (a + 1) n)) (filter r (range_with_len (a + 1) n)))
    go true here rest = ap (λ (b : Bool). b && list_all p (filter r (range_with_len (a + 1) n))) here ∙ ap (λ (b : Bool). q a && b) rest
    go false here rest = rest

-- ---- rows of holders

module _ (f : BlockTable) (texts : ℕ) (held other : Held) (agree : (t b : ℕ) → t < texts → b < length f.blocks.now → held t b ≡ other t b) where
  row_same : (t : ℕ) → t < texts → row_of f held texts t ≡ row_of f other texts t
  row_same t low =
      let hs : held_by f held t ≡ held_by f other t =
      filter_same (λ b. held t b && is_counted f b) (λ b. other t b && is_counted f b) 0 (length f.blocks.now) (λ b l h. ap (λ (v : Bool). v && is_counted f b) (agree t b low (omega arith))) in
      let ws : below texts (is_within f held t) ≡ below texts (is_within f other t) =
      filter_same (is_within f held t) (is_within f other t) 0 texts
      (λ o l h. ap (λ (v : Bool). not (o == t) && v) (all_same (held o) (other o) (is_own f t) 0 (length f.blocks.now) (λ b m i. agree o b (omega arith) (omega arith)))) in
      ap (λ (bs : List ℕ). record { text = t; blocks = length bs; bytes = bytes_of f bs; own = length (own_of f t); own_bytes = bytes_of f (own_of f t); within = length (below texts (is_within f held t)); block = slice_index (blocks_with f (is_own f t)) 0 }) hs
      ∙ ap (λ (os : List ℕ). record { text = t; blocks = length (held_by f other t); bytes = bytes_of f (held_by f other t); own = length (own_of f t); own_bytes = bytes_of f (own_of f t); within = length os; block = slice_index (blocks_with f (is_own f t)) 0 }) ws

  rows_same : rows_of f held texts ≡ rows_of f other texts
  rows_same = ap (λ (rows : List Holder). ranked (with_blocks rows)) (map_range (row_of f held texts) (row_of f other texts) 0 texts (λ t l h. row_same t (omega arith)))

holders_are_one : (graph : Graph) (f : BlockTable) (texts : ℕ) (rows others : List Holder) → length f.blocks.now ≡ length graph.targets → AreHolders graph f texts rows → AreHolders graph f texts others → rows ≡ others
holders_are_one graph f texts rows others n p q =
    p.are ∙ rows_same f texts p.held q.held (λ t b low inside. bool_same (p.held t b) (q.held t b) (p.holds t b low (omega (arith, n))) (q.holds t b low (omega (arith, n)))) ∙ sym q.are

-- ---- what is known, as lists

abbrev plain : BlockTable → BlockTable
plain f = table_of f.blocks.now f.numbers.now f.reached.now f.counted.now

plain_is : (blocks : List Block) (numbers : List ℕ) (set counted : List Bool) (f : BlockTable) → AreKnown blocks numbers set counted f → plain f ≡ table_of blocks numbers set counted
plain_is blocks numbers set counted f k =
    ap (λ (bs : List Block). table_of bs f.numbers.now f.reached.now f.counted.now) k.of_blocks ∙ ap (λ (ns : List ℕ). table_of blocks ns f.reached.now f.counted.now) k.of_texts
    ∙ ap (λ (s : List Bool). table_of blocks numbers s f.counted.now) k.reached ∙ ap (λ (s : List Bool). table_of blocks numbers set s) k.counts

plain_holders : (graph : Graph) (f : BlockTable) (texts : ℕ) (rows : List Holder) → AreHolders graph f texts rows → AreHolders graph (plain f) texts rows
plain_holders graph f texts rows p = record { held = p.held; holds = p.holds; are = p.are }

pub plain_rows : (graph : Graph) (blocks : List Block) (numbers : List ℕ) (set counted : List Bool) (texts : ℕ) (rows : List Holder) → AreRows graph blocks numbers set counted texts rows
    → AreHolders graph (table_of blocks numbers set counted) texts rows
plain_rows graph blocks numbers set counted texts rows p =
    subst (λ (f : BlockTable). AreHolders graph f texts rows) (plain_is blocks numbers set counted p.table p.known) (plain_holders graph p.table texts rows p.holders)

pub rows_are_one : (graph : Graph) (blocks : List Block) (numbers : List ℕ) (set counted : List Bool) (texts : ℕ) (rows others : List Holder) → length blocks ≡ length graph.targets
    → AreRows graph blocks numbers set counted texts rows → AreRows graph blocks numbers set counted texts others → rows ≡ others
rows_are_one graph blocks numbers set counted texts rows others n p q =
    holders_are_one graph (table_of blocks numbers set counted) texts rows others n (plain_rows graph blocks numbers set counted texts rows p) (plain_rows graph blocks numbers set counted texts others q)

-- ---- rows about chosen blocks

plain_in : (graph : Graph) (f : BlockTable) (texts : ℕ) (set told : List Bool) (parts : List CallerShare) → AreHeldIn graph f texts set told parts → AreHeldIn graph (plain f) texts set told parts
plain_in graph f texts set told parts p = record { held = p.held; len = p.len; holds = p.holds; told_are = p.told_are; rows = p.rows }

pub known_in : (graph : Graph) (blocks : List Block) (numbers : List ℕ) (reached counted : List Bool) (texts : ℕ) (set told : List Bool) (parts : List CallerShare) (f : BlockTable) → AreKnown blocks numbers reached counted f
    → AreHeldIn graph f texts set told parts → AreHeldIn graph (table_of blocks numbers reached counted) texts set told parts
known_in graph blocks numbers reached counted texts set told parts f known p =
    subst (λ (k : BlockTable). AreHeldIn graph k texts set told parts) (plain_is blocks numbers reached counted f known) (plain_in graph f texts set told parts p)

plain_of : (graph : Graph) (f : BlockTable) (texts : ℕ) (set : List Bool) (but : ℕ) (told : List Bool) (parts : List CallerShare) → AreHeldOf graph f texts set but told parts → AreHeldOf graph (plain f) texts set but told parts
plain_of graph f texts set but told parts p = record {
  told_are = p.told_are;
  rows = record {
    holders = p.rows.holders;
    hold = record { held = p.rows.hold.held; holds = p.rows.hold.holds; are = p.rows.hold.are };
    are = p.rows.are;
  };
}

pub known_of : (graph : Graph) (blocks : List Block) (numbers : List ℕ) (reached counted : List Bool) (texts : ℕ) (set : List Bool) (but : ℕ) (told : List Bool) (parts : List CallerShare) (f : BlockTable) → AreKnown blocks numbers reached counted f
    → AreHeldOf graph f texts set but told parts → AreHeldOf graph (table_of blocks numbers reached counted) texts set but told parts
known_of graph blocks numbers reached counted texts set but told parts f known p =
    subst (λ (k : BlockTable). AreHeldOf graph k texts set but told parts) (plain_is blocks numbers reached counted f known) (plain_of graph f texts set but told parts p)

plain_held : (side : Side) (graph : Graph) (f : BlockTable) (texts : ℕ) (set : List Bool) (but : ℕ) (told : List Bool) (parts : List CallerShare) → AreHeld side graph f texts set but told parts → AreHeld side graph (plain f) texts set but told parts
plain_held In graph f texts set but told parts p = plain_in graph f texts set told parts p
plain_held Of graph f texts set but told parts p = plain_of graph f texts set but told parts p

-- which blocks are told, and the rows
pub record AreAlike (told others : List Bool) (parts more : List CallerShare) : Type 0 where
  pub told_same : told ≡ others
  pub parts_same : parts ≡ more

in_alike : (graph : Graph) (f : BlockTable) (texts : ℕ) (set told others : List Bool) (parts more : List CallerShare) → AreHeldIn graph f texts set told parts → AreHeldIn graph f texts set others more → AreAlike told others parts more
in_alike graph f texts set told others parts more p q =
    let same : p.held ≡ q.held =
    tests_are_one p.held q.held (p.len ∙ sym q.len) (λ i low. bool_same (slice_index_or p.held i false) (slice_index_or q.held i false) (p.holds i (omega (arith, p.len))) (q.holds i (omega (arith, p.len)))) in
    record {
      told_same = p.told_are ∙ ap (λ (h : List Bool). both h f.counted.now) same ∙ sym q.told_are;
      parts_same = p.rows ∙ ap (λ (h : List Bool). parts_by f (λ b. slice_index_or h b false) texts) same ∙ sym q.rows;
    }

of_alike : (graph : Graph) (f : BlockTable) (texts : ℕ) (set : List Bool) (but : ℕ) (told others : List Bool) (parts more : List CallerShare) → length f.blocks.now ≡ length graph.targets
    → AreHeldOf graph f texts set but told parts → AreHeldOf graph f texts set but others more → AreAlike told others parts more
of_alike graph f texts set but told others parts more n p q =
    let same : p.rows.holders ≡ q.rows.holders = holders_are_one graph (counted_in f set) texts p.rows.holders q.rows.holders n p.rows.hold q.rows.hold in
    record {
      told_same = p.told_are ∙ sym q.told_are;
      parts_same = p.rows.are ∙ ap (parts_but but) same ∙ sym q.rows.are;
    }

alike : (side : Side) (graph : Graph) (f : BlockTable) (texts : ℕ) (set : List Bool) (but : ℕ) (told others : List Bool) (parts more : List CallerShare) → length f.blocks.now ≡ length graph.targets
    → AreHeld side graph f texts set but told parts → AreHeld side graph f texts set but others more → AreAlike told others parts more
alike In graph f texts set but told others parts more n p q = in_alike graph f texts set told others parts more p q
alike Of graph f texts set but told others parts more n p q = of_alike graph f texts set but told others parts more n p q

pub held_are_one : (side : Side) (graph : Graph) (blocks : List Block) (numbers : List ℕ) (reached counted : List Bool) (texts : ℕ) (set : List Bool) (but : ℕ) (f g : BlockTable) (told others : List Bool) (parts more : List CallerShare)
    → length blocks ≡ length graph.targets → AreKnown blocks numbers reached counted f → AreKnown blocks numbers reached counted g
    → AreHeld side graph f texts set but told parts → AreHeld side graph g texts set but others more → AreAlike told others parts more
held_are_one side graph blocks numbers reached counted texts set but f g told others parts more n known knows p q =
    alike side graph (table_of blocks numbers reached counted) texts set but told others parts more n
    (subst (λ (k : BlockTable). AreHeld side graph k texts set but told parts) (plain_is blocks numbers reached counted f known) (plain_held side graph f texts set but told parts p))
    (subst (λ (k : BlockTable). AreHeld side graph k texts set but others more) (plain_is blocks numbers reached counted g knows) (plain_held side graph g texts set but others more q))
