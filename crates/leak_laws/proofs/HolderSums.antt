-- Each marked block is one of one line's own.
use Rattle.std.proofs.Common.{◌≡◌, ℕ, zero, suc, ◌+◌, ◌<◌, Bool, true, false, ◌&&◌, cond, List, [], ◌∷◌, length, map, filter, sum_by, None, get_or, refl, sym, ap, ◌∙◌, arith}
use Rattle.std.specs.Prelude.{slice_index_or}
use Rattle.std.specs.List.{range_with_len}
use Rattle.std.proofs.lemmas.List.Sums.{sum_by-cons}
use Rattle.leak_blocks.specs.declared.block.Block.{Block}
use Rattle.leak_blocks.specs.Live.{live_of}
use Rattle.leak_index.specs.Leads.{Distances}
use Rattle.leak_roots.specs.declared.skip.Skip.{Skip}
use Rattle.leak_report.specs.Totals.{bytes_of, marked_in}
use Rattle.leak_lemmas.proofs.Members.{each_from_All, each_implied, each_mapped}
use Rattle.leak_holders.specs.declared.block_table.BlockTable.{BlockTable}
use Rattle.leak_holders.specs.Laws.{IsBounded, reached_of}
use Rattle.leak_holders.specs.Words.{table_of}
use Rattle.leak_holders.proofs.AddedUp.{are_bounded, own_add_up}
use Rattle.leak_search.specs.Search.{graph_of_one}
use Rattle.leak_holder_search.specs.declared.search.Holding.{Holding}
use Rattle.leak_holder_search.specs.Holders.{FindsHolders}
use Rattle.leak_laws.specs.HeldTogether.{IsWithin, OwnAreMarked, told_by_holders}
use Rattle.leak_laws.specs.ToldHolders.{ToldHolder, told_holder}
use Rattle.leak_laws.proofs.HolderTables.{rows_of_report}
use Rattle.leak_laws.proofs.TextSums.{sum_map}

-- ---- numbers of blocks, and blocks

module _ (p : ℕ → Bool) (size : ℕ → ℕ) where
  -- the numbers from a on pass if the blocks are marked, and have their sizes
  pub record Tell (a : ℕ) (set : List Bool) (blocks : List Block) : Type 0 where
    pub tests : (i : ℕ) → i < length set → p (a + i) ≡ slice_index_or set i false
    pub sizes : (i : ℕ) (d : Block) → i < length blocks → size (a + i) ≡ (slice_index_or blocks i d).size

  tell_rest : (a : ℕ) (s : Bool) (set : List Bool) (b : Block) (blocks : List Block) → Tell a (s ∷ set) (b ∷ blocks) → Tell (a + 1) set blocks
  tell_rest a s set b blocks t = record {
    tests = λ i low. (let e : a + 1 + i ≡ a + suc i = omega arith in ap p e ∙ t.tests (suc i) (omega arith));
    sizes = λ i d low. (let e : a + 1 + i ≡ a + suc i = omega arith in ap size e ∙ t.sizes (suc i) d (omega arith));
  }

  pub as_many : (a : ℕ) (set : List Bool) (blocks : List Block) → length set ≡ length blocks → Tell a set blocks → length (filter p (range_with_len a (length blocks))) ≡ length (marked_in set blocks)
  as_many a [] [] n t = refl
  as_many a [] (b ∷ blocks) n t = absurd (omega (arith, n))
  as_many a (s ∷ set) [] n t = absurd (omega (arith, n))
  as_many a (s ∷ set) (b ∷ blocks) n t =
      let e : a + 0 ≡ a = omega arith in
      let here : p a ≡ s = ap p (sym e) ∙ t.tests 0 (omega arith) in
      ap (λ (u : Bool). length (cond u (a ∷ filter p (range_with_len (a + 1) (length blocks))) (filter p (range_with_len (a + 1) (length blocks))))) here
      ∙ go s (as_many (a + 1) set blocks (omega (arith, n)) (tell_rest a s set b blocks t))
    where
      go : (u : Bool) → length (filter p (range_with_len (a + 1) (length blocks))) ≡ length (marked_in set blocks)
          → length (cond u (a ∷ filter p (range_with_len (a + 1) (length blocks))) (filter p (range_with_len (a + 1) (length blocks)))) ≡ length (marked_in (u ∷ set) (b ∷ blocks))
      go true rest = omega (arith, rest)
      go false rest = rest

  pub as_large : (a : ℕ) (set : List Bool) (blocks : List Block) → length set ≡ length blocks → Tell a set blocks → sum_by size (filter p (range_with_len a (length blocks))) ≡ bytes_of (marked_in set blocks)
  as_large a [] [] n t = refl
  as_large a [] (b ∷ blocks) n t = absurd (omega (arith, n))
  as_large a (s ∷ set) [] n t = absurd (omega (arith, n))
  as_large a (s ∷ set) (b ∷ blocks) n t =
      let e : a + 0 ≡ a = omega arith in
      let here : p a ≡ s = ap p (sym e) ∙ t.tests 0 (omega arith) in
      let large : size a ≡ b.size = ap size (sym e) ∙ t.sizes 0 b (omega arith) in
      ap (λ (u : Bool). sum_by size (cond u (a ∷ filter p (range_with_len (a + 1) (length blocks))) (filter p (range_with_len (a + 1) (length blocks))))) here
      ∙ go s large (as_large (a + 1) set blocks (omega (arith, n)) (tell_rest a s set b blocks t))
    where
      go : (u : Bool) → size a ≡ b.size → sum_by size (filter p (range_with_len (a + 1) (length blocks))) ≡ bytes_of (marked_in set blocks)
          → sum_by size (cond u (a ∷ filter p (range_with_len (a + 1) (length blocks))) (filter p (range_with_len (a + 1) (length blocks)))) ≡ bytes_of (marked_in (u ∷ set) (b ∷ blocks))
      go true large rest = omega (arith, sum_by-cons size a (filter p (range_with_len (a + 1) (length blocks))), sum_by-cons (λ (c : Block). c.size) b (marked_in set blocks), large, rest)
      go false large rest = rest

-- ---- without an earlier log

pub all_counted : (blocks : List Block) (i : ℕ) → i < length blocks → slice_index_or (map (λ b. true) blocks) i false ≡ true
all_counted [] i low = absurd (omega arith)
all_counted (b ∷ blocks) zero low = refl
all_counted (b ∷ blocks) (suc i) low = all_counted blocks i (omega arith)

and_true : (b : Bool) (c : Bool) → c ≡ true → (b && c) ≡ b
and_true true c e = e
and_true false c e = refl

pub default : (bs : List Block) (i : ℕ) (d e : Block) → i < length bs → get_or bs i d ≡ get_or bs i e
default [] i d e low = absurd (omega arith)
default (b ∷ bs) zero d e low = refl
default (b ∷ bs) (suc i) d e low = default bs i d e (omega arith)

pub own_are_marked : (core log : List ℕ) (reading : Distances) (skip : Skip) (found : Holding) → (f : FindsHolders core log None reading skip found) → OwnAreMarked (told_by_holders f)
own_are_marked core log reading skip found f =
    let known : BlockTable = table_of (live_of f.lines) f.numbers f.set (map (λ b. true) (live_of f.lines)) in
    let of = rows_of_report core log None reading skip found f in
    let sums = own_add_up (graph_of_one core reading skip f.lines) known (length f.texts) f.rows of in
    let bounds = are_bounded (graph_of_one core reading skip f.lines) known (length f.texts) f.rows of in
    let tell : Tell (λ b. slice_index_or f.set b false && slice_index_or (map (λ b. true) (live_of f.lines)) b false) (λ b. (slice_index_or (live_of f.lines) b (record { start = 0; size = 0; line = 0; caller = (0, 0) })).size) 0 f.set (live_of f.lines) = record {
      tests = λ i low.
          (let e : 0 + i ≡ i = omega arith in
          ap (λ (j : ℕ). slice_index_or f.set j false && slice_index_or (map (λ b. true) (live_of f.lines)) j false) e
          ∙ and_true (slice_index_or f.set i false) (slice_index_or (map (λ b. true) (live_of f.lines)) i false) (all_counted (live_of f.lines) i (omega (arith, low, f.marked.len))));
      sizes = λ i d low.
          (let e : 0 + i ≡ i = omega arith in
          ap (λ (j : ℕ). (slice_index_or (live_of f.lines) j (record { start = 0; size = 0; line = 0; caller = (0, 0) })).size) e
          ∙ ap (λ (b : Block). b.size) (default (live_of f.lines) i (record { start = 0; size = 0; line = 0; caller = (0, 0) }) d low));
    } in
    let many : length (reached_of known) ≡ length (marked_in f.set (live_of f.lines)) = as_many _ _ 0 f.set (live_of f.lines) f.marked.len tell in
    let large = as_large _ _ 0 f.set (live_of f.lines) f.marked.len tell in
    record {
      own = sum_map (told_holder (live_of f.lines) f.texts) (λ (h : ToldHolder). h.own) f.rows ∙ sums.0 ∙ many;
      own_bytes = sum_map (told_holder (live_of f.lines) f.texts) (λ (h : ToldHolder). h.own_bytes) f.rows ∙ sums.1 ∙ large;
      each = each_mapped (told_holder (live_of f.lines) f.texts) (IsWithin (told_by_holders f)) f.rows
          (each_implied (IsBounded known) (λ r. IsWithin (told_by_holders f) (told_holder (live_of f.lines) f.texts r))
          (λ r b. record { own = b.own; own_bytes = b.own_bytes; blocks = omega (arith, b.blocks, many); bytes = omega (arith, b.bytes, large) }) f.rows (each_from_All (IsBounded known) f.rows bounds));
    }
