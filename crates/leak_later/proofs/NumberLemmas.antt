-- The numbers of the blocks that pass a test.
use Rattle.std.proofs.Common.{◌≡◌, ℕ, zero, suc, ◌+◌, ◌<◌, ◌≤◌, Bool, true, false, ◌&&◌, inl, inr, refl, sym, subst, ap, ◌∙◌, true≢false, ◌==◌, List, [], ◌∷◌, ◌++◌, Option, Some, length, take, get_or, slice_get, slice_index, arith, if◌then◌else◌, eq-eqb, add-one, append-nil}
use Rattle.std.proofs.lemmas.Option.{same_Some, none-some}
use Rattle.std.specs.Prelude.{⊤}
use Rattle.std.specs.List.Sorted.{IsStrictlyIncreasing}
use Rattle.leak_blocks.specs.declared.block.Block.{Block}
use Rattle.leak_index.specs.Leads.{Distances, leads}
use Rattle.leak_index.specs.Hits.{hits_from}
use Rattle.leak_marks.specs.Lists.{Has}
use Rattle.leak_marks.proofs.BoolLemmas.{same_number}
use Rattle.leak_marks.proofs.ListLemmas.{none_has, here, there, at_head}
use Rattle.leak_later.specs.Kept.{numbers_from, has_marked_line}

pub inside : {A : Type 0} (xs : List A) (n : ℕ) (x : A) → slice_get xs n ≡ Some x → n < length xs
inside [] n x e = absurd (none-some x e)
inside (y ∷ xs) zero x e = omega arith
inside (y ∷ xs) (suc n) x e = let h = inside xs n x e in omega arith

-- ---- numbers

-- a block that passes
pub record PassesAt (test : Block → Bool) (blocks : List Block) (k : ℕ) : Type 0 where
  pub block : Block
  pub at : slice_get blocks k ≡ Some block
  pub passes : test block ≡ true

abbrev pub Numbered : ℕ → (Block → Bool) → List Block → ℕ → Type 0
Numbered n test blocks j = (k : ℕ) × (j ≡ n + k) × PassesAt test blocks k

later : (n : ℕ) (test : Block → Bool) (b : Block) (blocks : List Block) (j : ℕ) → Numbered (n + 1) test blocks j → Numbered n test (b ∷ blocks) j
later n test b blocks j r = (suc r.0, omega (arith, r.1), record { block = r.2.block; at = r.2.at; passes = r.2.passes })

pub of_numbers : (n : ℕ) (test : Block → Bool) (blocks : List Block) (j : ℕ) → Has (numbers_from n test blocks) j → Numbered n test blocks j
of_numbers n test [] j h = absurd (none_has j h)
of_numbers n test (b ∷ blocks) j h = go (test b) refl h (λ r. of_numbers (n + 1) test blocks j r)
  where
    go : (t : Bool) → test b ≡ t → Has (if t then n ∷ numbers_from (n + 1) test blocks else numbers_from (n + 1) test blocks) j → (Has (numbers_from (n + 1) test blocks) j → Numbered (n + 1) test blocks j) → Numbered n test (b ∷ blocks) j
    go true e k rest = elim (at_head n (numbers_from (n + 1) test blocks) j k) [
      | inl s ↦ (0, omega (arith, s), record { block = b; at = refl; passes = e })
      | inr r ↦ later n test b blocks j (rest r)
    ]
    go false e k rest = later n test b blocks j (rest k)

pub to_numbers : (n : ℕ) (test : Block → Bool) (blocks : List Block) (k j : ℕ) (b : Block) → slice_get blocks k ≡ Some b → test b ≡ true → j ≡ n + k → Has (numbers_from n test blocks) j
to_numbers n test [] k j b e p s = absurd (none-some b e)
to_numbers n test (c ∷ blocks) zero j b e p s =
    subst (λ (t : Bool). Has (if t then n ∷ numbers_from (n + 1) test blocks else numbers_from (n + 1) test blocks) j) (sym (ap test (same_Some c b e) ∙ p))
    (subst (λ (m : ℕ). Has (n ∷ numbers_from (n + 1) test blocks) m) (let q : n ≡ j = omega arith in q) (here n (numbers_from (n + 1) test blocks)))
to_numbers n test (c ∷ blocks) (suc k) j b e p s = go (test c) (to_numbers (n + 1) test blocks k j b e p (omega arith))
  where
    go : (t : Bool) → Has (numbers_from (n + 1) test blocks) j → Has (if t then n ∷ numbers_from (n + 1) test blocks else numbers_from (n + 1) test blocks) j
    go true h = there n (numbers_from (n + 1) test blocks) j h
    go false h = h

-- the number of the next block, if it passes
numbers_next : (n : ℕ) (test : Block → Bool) (blocks : List Block) (k : ℕ) (d : Block) → k < length blocks →
    numbers_from n test (take (suc k) blocks) ≡ numbers_from n test (take k blocks) ++ (if test (get_or blocks k d) then (n + k) ∷ [] else [])
numbers_next n test [] k d h = absurd (omega arith)
numbers_next n test (b ∷ blocks) zero d h = ap (λ (m : ℕ). if test b then m ∷ [] else []) (let e : n ≡ n + 0 = omega arith in e)
numbers_next n test (b ∷ blocks) (suc k) d h = go (test b)
    (numbers_next (n + 1) test blocks k d (omega arith) ∙ ap (λ (m : ℕ). numbers_from (n + 1) test (take k blocks) ++ (if test (get_or blocks k d) then m ∷ [] else [])) (let e : n + 1 + k ≡ n + suc k = omega arith in e))
  where
    go : (t : Bool) → numbers_from (n + 1) test (take (suc k) blocks) ≡ numbers_from (n + 1) test (take k blocks) ++ (if test (get_or blocks k d) then (n + suc k) ∷ [] else []) →
        (if t then n ∷ numbers_from (n + 1) test (take (suc k) blocks) else numbers_from (n + 1) test (take (suc k) blocks))
        ≡ (if t then n ∷ numbers_from (n + 1) test (take k blocks) else numbers_from (n + 1) test (take k blocks)) ++ (if test (get_or blocks k d) then (n + suc k) ∷ [] else [])
    go true e = ap (λ (xs : List ℕ). n ∷ xs) e
    go false e = e

pub numbers_more : (n : ℕ) (test : Block → Bool) (blocks : List Block) (k : ℕ) (d : Block) → k < length blocks →
    numbers_from n test (take (k + 1) blocks) ≡ numbers_from n test (take k blocks) ++ (if test (get_or blocks k d) then (n + k) ∷ [] else [])
numbers_more n test blocks k d h = ap (λ (m : ℕ). numbers_from n test (take m blocks)) (add-one k) ∙ numbers_next n test blocks k d h

-- the blocks that a word leads to are those that pass the test
pub hits_are_numbers : (n : ℕ) (reading : Distances) (blocks : List Block) (w : ℕ) → hits_from n reading blocks w ≡ numbers_from n (leads reading w) blocks
hits_are_numbers n reading [] w = refl
hits_are_numbers n reading (b ∷ blocks) w = ap (λ (r : List ℕ). if leads reading w b then n ∷ r else r) (hits_are_numbers (n + 1) reading blocks w)

-- ---- marked lines

pub record MarkedAt (set : List Bool) (blocks : List Block) (line : ℕ) : Type 0 where
  pub place : ℕ
  pub block : Block
  pub marked : slice_get set place ≡ Some true
  pub at : slice_get blocks place ≡ Some block
  pub is_line : block.line ≡ line

later_marked : (s : Bool) (set : List Bool) (b : Block) (blocks : List Block) (line : ℕ) → MarkedAt set blocks line → MarkedAt (s ∷ set) (b ∷ blocks) line
later_marked s set b blocks line m = record { place = suc m.place; block = m.block; marked = m.marked; at = m.at; is_line = m.is_line }

pub of_marked : (set : List Bool) (blocks : List Block) (line : ℕ) → has_marked_line set blocks line ≡ true → MarkedAt set blocks line
of_marked [] blocks line h = absurd (true≢false (sym h))
of_marked (s ∷ set) [] line h = absurd (true≢false (sym h))
of_marked (true ∷ set) (b ∷ blocks) line h = go (b.line == line) refl h (λ k. of_marked set blocks line k)
  where
    go : (t : Bool) → (b.line == line) ≡ t → (if t then true else has_marked_line set blocks line) ≡ true → (has_marked_line set blocks line ≡ true → MarkedAt set blocks line) → MarkedAt (true ∷ set) (b ∷ blocks) line
    go true e k rest = record { place = 0; block = b; marked = refl; at = refl; is_line = same_number b.line line e }
    go false e k rest = later_marked true set b blocks line (rest k)
of_marked (false ∷ set) (b ∷ blocks) line h = later_marked false set b blocks line (of_marked set blocks line h)

pub to_marked : (set : List Bool) (blocks : List Block) (n : ℕ) (b : Block) → slice_get set n ≡ Some true → slice_get blocks n ≡ Some b → has_marked_line set blocks b.line ≡ true
to_marked [] blocks n b m e = absurd (none-some true m)
to_marked (s ∷ set) [] n b m e = absurd (none-some b e)
to_marked (s ∷ set) (c ∷ blocks) zero b m e =
    subst (λ (t : Bool). (if t then true else has_marked_line set blocks b.line) ≡ true)
    (sym (ap (λ (t : Bool). t && (c.line == b.line)) (same_Some s true m) ∙ ap (λ (x : Block). x.line == b.line) (same_Some c b e) ∙ eq-eqb b.line b.line refl)) refl
to_marked (s ∷ set) (c ∷ blocks) (suc n) b m e = go (s && (c.line == b.line)) (to_marked set blocks n b m e)
  where
    go : (t : Bool) → has_marked_line set blocks b.line ≡ true → (if t then true else has_marked_line set blocks b.line) ≡ true
    go true h = refl
    go false h = h

-- ---- a list of numbers that grows block by block

-- the list with the number, if the block's line has the test's answer
pub numbers_kept : (test : ℕ → Bool) (blocks : List Block) (k : ℕ) (d : Block) (numbers longer : List ℕ) (t : Bool) → k < length blocks →
    numbers ≡ numbers_from 0 (λ b. test b.line) (take k blocks) → t ≡ test (get_or blocks k d).line → longer ≡ (if t then numbers ++ k ∷ [] else numbers) →
    longer ≡ numbers_from 0 (λ b. test b.line) (take (k + 1) blocks)
numbers_kept test blocks k d numbers longer t h so_far is e =
    e ∙ joined t
    ∙ ap (λ (xs : List ℕ). xs ++ (if t then k ∷ [] else [])) so_far
    ∙ ap (λ (m : ℕ). numbers_from 0 (λ b. test b.line) (take k blocks) ++ (if t then m ∷ [] else [])) (let z : k ≡ 0 + k = omega arith in z)
    ∙ ap (λ (u : Bool). numbers_from 0 (λ b. test b.line) (take k blocks) ++ (if u then (0 + k) ∷ [] else [])) is
    ∙ sym (numbers_more 0 (λ b. test b.line) blocks k d h)
  where
    joined : (u : Bool) → (if u then numbers ++ k ∷ [] else numbers) ≡ numbers ++ (if u then k ∷ [] else [])
    joined true = refl
    joined false = sym (append-nil numbers)

-- ---- their order

-- each number is at least the first bound, and above those before it
abbrev pub Rises : ℕ → List ℕ → Type 0
Rises low [] = ⊤
Rises low (x ∷ xs) = (low ≤ x) × Rises (x + 1) xs

pub rises_lower : (low m : ℕ) (xs : List ℕ) → low ≤ m → Rises m xs → Rises low xs
rises_lower low m [] h r = tt
rises_lower low m (x ∷ xs) h r = (let l = r.0 in omega arith, r.1)

pub numbers_rise : (n : ℕ) (test : Block → Bool) (blocks : List Block) → Rises n (numbers_from n test blocks)
numbers_rise n test [] = tt
numbers_rise n test (b ∷ blocks) = go (test b) (numbers_rise (n + 1) test blocks)
  where
    go : (t : Bool) → Rises (n + 1) (numbers_from (n + 1) test blocks) → Rises n (if t then n ∷ numbers_from (n + 1) test blocks else numbers_from (n + 1) test blocks)
    go true r = (omega arith, r)
    go false r = rises_lower n (n + 1) (numbers_from (n + 1) test blocks) (omega arith) r

pub increasing : (low : ℕ) (xs : List ℕ) → Rises low xs → IsStrictlyIncreasing xs
increasing low [] r k h = absurd (omega arith)
increasing low (x ∷ []) r k h = absurd (omega arith)
increasing low (x ∷ y ∷ xs) r zero h = let l : x + 1 ≤ y = r.1.0 in omega arith
increasing low (x ∷ y ∷ xs) r (suc k) h =
    let e : suc k + 1 ≡ suc (k + 1) = omega arith in
    subst (λ (n : ℕ). slice_index (y ∷ xs) k < slice_index (x ∷ y ∷ xs) n) (sym e) (increasing (x + 1) (y ∷ xs) r.1 k (omega arith))
