-- The rows of some blocks are those of their texts, each by its first block.
use Rattle.std.proofs.Common.{◌≡◌, ℕ, Bool, true, false, not, cond, List, [], ◌∷◌, length, map, filter, bytes_eq, Some, inl, inr, refl, sym, ap, subst, ◌∙◌}
use Rattle.std.specs.List.{AllByRecursion}
use Rattle.std.specs.Cmp.Lexicographic.{slice_cmp}
use Rattle.std.specs.Ordering.{nat_cmp, ordering_then}
use Rattle.std.specs.declared.cmp.Ordering.{Ordering}
use Rattle.std.specs.declared.cmp.Ordering.TheVariants.{Less, Equal, Greater}
use Rattle.std.proofs.lemmas.Slice.Eq.{bytes_eq-Decides}
use Rattle.std.proofs.lemmas.Map.Lookups.{exact_bytes}
use Rattle.leak_report.specs.declared.totals.CallerRow.{CallerRow}
use Rattle.leak_report.specs.Totals.{Leak, bytes_in, heads_in, text_at, with_text, has_same_text, first_of_each, row_of, rank}
use Rattle.leak_report.specs.Groups.{row_from, row_with}
use Rattle.leak_lemmas.proofs.Members.{Has, each_implied, each_mapped, each_filtered, Has-map, Has-filter}
use Rattle.leak_report.proofs.Ranks.{Differ, AllDiffer}

-- the row is that of the blocks with its text
abbrev pub IsRow : List ℕ → List Leak → CallerRow → Type 0
IsRow log blocks row = row_with log blocks (text_at log row.caller) ≡ Some row

-- the block is the first with its text
abbrev IsFirst : List ℕ → List Leak → Leak → Type 0
IsFirst log blocks b = (rest : List Leak) × (with_text log (text_at log b.block.caller) blocks ≡ b ∷ rest)

same_bytes : (xs ys : List ℕ) → xs ≡ ys → bytes_eq xs ys ≡ true
same_bytes xs ys e = (bytes_eq-Decides xs ys).1 e

IsFirst-head : (log : List ℕ) (b : Leak) (blocks : List Leak) → IsFirst log (b ∷ blocks) b
IsFirst-head log b blocks =
    (with_text log (text_at log b.block.caller) blocks, ap (λ t. cond t (b ∷ with_text log (text_at log b.block.caller) blocks) (with_text log (text_at log b.block.caller) blocks)) (same_bytes (text_at log b.block.caller) (text_at log b.block.caller) refl))

IsFirst-behind : (log : List ℕ) (b c : Leak) (blocks : List Leak) → IsFirst log blocks c → not (has_same_text log b c) ≡ true → IsFirst log (b ∷ blocks) c
IsFirst-behind log b c blocks is differs =
    let other : has_same_text log b c ≡ false = not_true (has_same_text log b c) differs in
    (is.0, ap (λ t. cond t (b ∷ with_text log (text_at log c.block.caller) blocks) (with_text log (text_at log c.block.caller) blocks)) other ∙ is.1)
  where
    not_true : (t : Bool) → not t ≡ true → t ≡ false
    not_true true e = cc
    not_true false e = refl

each_is_first : (log : List ℕ) (blocks : List Leak) → AllByRecursion (IsFirst log blocks) (first_of_each log blocks)
each_is_first log [] = tt
each_is_first log (b ∷ blocks) = (
  IsFirst-head log b blocks,
  each_implied (λ c. IsFirst log blocks c × (not (has_same_text log b c) ≡ true)) (IsFirst log (b ∷ blocks)) (λ c h. IsFirst-behind log b c blocks h.0 h.1)
      (filter (λ c. not (has_same_text log b c)) (first_of_each log blocks))
      (each_filtered (λ c. not (has_same_text log b c)) (IsFirst log blocks) (first_of_each log blocks) (each_is_first log blocks)),
)

row_from-first : (blocks : List Leak) (b : Leak) (rest : List Leak) → blocks ≡ b ∷ rest
    → row_from blocks ≡ Some (record { blocks = length blocks; bytes = bytes_in blocks; heads = heads_in blocks; caller = b.block.caller })
row_from-first [] b rest e = cc
row_from-first (c ∷ blocks) b rest e = let same : c ≡ b = cc in ap (λ (x : Leak). Some (record { blocks = length (c ∷ blocks); bytes = bytes_in (c ∷ blocks); heads = heads_in (c ∷ blocks); caller = x.block.caller })) same

-- each row is one of a text
pub each_is_row : (log : List ℕ) (blocks : List Leak) → AllByRecursion (IsRow log blocks) (map (row_of log blocks) (first_of_each log blocks))
each_is_row log blocks =
    each_mapped (row_of log blocks) (IsRow log blocks) (first_of_each log blocks)
    (each_implied (IsFirst log blocks) (λ b. IsRow log blocks (row_of log blocks b))
    (λ b is. row_from-first (with_text log (text_at log b.block.caller) blocks) b is.0 is.1) (first_of_each log blocks) (each_is_first log blocks))

-- the first with a text has it
pub with_text-head : (log text : List ℕ) (blocks : List Leak) (b : Leak) (rest : List Leak) → with_text log text blocks ≡ b ∷ rest → text_at log b.block.caller ≡ text
with_text-head log text [] b rest e = cc
with_text-head log text (c ∷ blocks) b rest e =
    go (bytes_eq (text_at log c.block.caller) text) refl e (with_text-head log text blocks b rest)
  where
    go : (t : Bool) → bytes_eq (text_at log c.block.caller) text ≡ t → cond t (c ∷ with_text log text blocks) (with_text log text blocks) ≡ b ∷ rest
        → (with_text log text blocks ≡ b ∷ rest → text_at log b.block.caller ≡ text) → text_at log b.block.caller ≡ text
    go true is e later = let same : c ≡ b = cc in ap (λ (x : Leak). text_at log x.block.caller) (sym same) ∙ (bytes_eq-Decides (text_at log c.block.caller) text).0 is
    go false is e later = later e

-- and is the first of its text
Has-first : (log text : List ℕ) (blocks : List Leak) (b : Leak) (rest : List Leak) → with_text log text blocks ≡ b ∷ rest → Has (first_of_each log blocks) b
Has-first log text [] b rest e = cc
Has-first log text (c ∷ blocks) b rest e =
    go (bytes_eq (text_at log c.block.caller) text) refl e (Has-first log text blocks b rest)
  where
    go : (t : Bool) → bytes_eq (text_at log c.block.caller) text ≡ t → cond t (c ∷ with_text log text blocks) (with_text log text blocks) ≡ b ∷ rest
        → (with_text log text blocks ≡ b ∷ rest → Has (first_of_each log blocks) b) → Has (first_of_each log (c ∷ blocks)) b
    go true is e later = inl (cc)
    go false is e later =
        let has : text_at log b.block.caller ≡ text = with_text-head log text blocks b rest e in
        let other : not (has_same_text log c b) ≡ true = ap (λ u. not (bytes_eq (text_at log c.block.caller) u)) has ∙ ap not is in
        inr (Has-filter (λ d. not (has_same_text log c d)) (first_of_each log blocks) b (later e) other)

row_of-first : (log : List ℕ) (blocks : List Leak) (b : Leak) (rest : List Leak) → with_text log (text_at log b.block.caller) blocks ≡ b ∷ rest
    → row_of log blocks b ≡ record { blocks = length (b ∷ rest); bytes = bytes_in (b ∷ rest); heads = heads_in (b ∷ rest); caller = b.block.caller }
row_of-first log blocks b rest e = ap (λ bs. record { blocks = length bs; bytes = bytes_in bs; heads = heads_in bs; caller = b.block.caller }) e

-- each row of a text is there
pub Has-row : (log : List ℕ) (blocks : List Leak) (row : CallerRow) → IsRow log blocks row → Has (map (row_of log blocks) (first_of_each log blocks)) row
Has-row log blocks row is = go (with_text log (text_at log row.caller) blocks) refl is
  where
    go : (with : List Leak) → with_text log (text_at log row.caller) blocks ≡ with → row_from with ≡ Some row → Has (map (row_of log blocks) (first_of_each log blocks)) row
    go [] e r = cc
    go (b ∷ rest) e r =
        let summed : CallerRow = record { blocks = length (b ∷ rest); bytes = bytes_in (b ∷ rest); heads = heads_in (b ∷ rest); caller = b.block.caller } in
        let same : summed ≡ row = cc in
        let has : text_at log b.block.caller ≡ text_at log row.caller = with_text-head log (text_at log row.caller) blocks b rest e in
        let it : row_of log blocks b ≡ summed = row_of-first log blocks b rest (ap (λ t. with_text log t blocks) has ∙ e) in
        subst (Has (map (row_of log blocks) (first_of_each log blocks))) same
        (subst (Has (map (row_of log blocks) (first_of_each log blocks))) it
        (Has-map (row_of log blocks) (first_of_each log blocks) b (Has-first log (text_at log row.caller) blocks b rest e)))

-- rows of different texts differ in rank
text_tells : (log : List ℕ) (r s : CallerRow) → rank log r s ≡ Equal → text_at log r.caller ≡ text_at log s.caller
text_tells log r s e = exact_bytes (text_at log r.caller) (text_at log s.caller) (go (nat_cmp s.bytes r.bytes) (slice_cmp nat_cmp (text_at log r.caller) (text_at log s.caller)) e)
  where
    go : (a b : Ordering) → ordering_then a b ≡ Equal → b ≡ Equal
    go Less b e = cc
    go Equal b e = e
    go Greater b e = cc

Differ-first : (log : List ℕ) (all : List Leak) (b c : Leak) → not (has_same_text log b c) ≡ true → Differ log (row_of log all b) (row_of log all c)
Differ-first log all b c differs = λ e.
    let same : has_same_text log b c ≡ true = same_bytes (text_at log b.block.caller) (text_at log c.block.caller) (text_tells log (row_of log all b) (row_of log all c) e) in
    let turned : not (has_same_text log b c) ≡ false = ap not same in
    absurd (cc)

each_differs : (log : List ℕ) (all : List Leak) (p : Leak → Bool) (blocks : List Leak) → AllDiffer log (map (row_of log all) blocks) → AllDiffer log (map (row_of log all) (filter p blocks))
each_differs log all p [] differ = tt
each_differs log all p (b ∷ blocks) differ = go (p b) (each_differs log all p blocks differ.1)
  where
    kept : (blocks : List Leak) → AllByRecursion (Differ log (row_of log all b)) (map (row_of log all) blocks) → AllByRecursion (Differ log (row_of log all b)) (map (row_of log all) (filter p blocks))
    kept [] h = tt
    kept (c ∷ blocks) h = elim (p c) as (λ t. AllByRecursion (Differ log (row_of log all b)) (map (row_of log all) (cond t (c ∷ filter p blocks) (filter p blocks)))) [ true ↦ (h.0, kept blocks h.1) | false ↦ kept blocks h.1 ]

    go : (t : Bool) → AllDiffer log (map (row_of log all) (filter p blocks)) → AllDiffer log (map (row_of log all) (cond t (b ∷ filter p blocks) (filter p blocks)))
    go true rest = (kept blocks differ.0, rest)
    go false rest = rest

pub all_differ : (log : List ℕ) (all blocks : List Leak) → AllDiffer log (map (row_of log all) (first_of_each log blocks))
all_differ log all [] = tt
all_differ log all (b ∷ blocks) = (
  each_mapped (row_of log all) (Differ log (row_of log all b)) (filter (λ c. not (has_same_text log b c)) (first_of_each log blocks))
      (each_implied (λ c. Unit {0} × (not (has_same_text log b c) ≡ true)) (λ c. Differ log (row_of log all b) (row_of log all c)) (λ c h. Differ-first log all b c h.1)
      (filter (λ c. not (has_same_text log b c)) (first_of_each log blocks))
      (each_filtered (λ c. not (has_same_text log b c)) (λ c. Unit {0}) (first_of_each log blocks) (each_unit (first_of_each log blocks)))),
  each_differs log all (λ c. not (has_same_text log b c)) (first_of_each log blocks) (all_differ log all blocks),
)
  where
    each_unit : (blocks : List Leak) → AllByRecursion (λ c. Unit {0}) blocks
    each_unit [] = tt
    each_unit (c ∷ blocks) = (tt, each_unit blocks)
