-- Entries of a list, and how many steps they are away from the roots.
use Rattle.std.proofs.Common.{◌≡◌, ℕ, zero, suc, ◌+◌, ◌<◌, Bool, true, false, true≢false, List, [], ◌∷◌, ◌++◌, length, get_or, Some, slice_get, refl, sym, ap, ◌∙◌, subst, inl, inr, ◌⊎◌, ⊎_elim, arith}
use Rattle.std.specs.List.{AllByRecursion}
use Rattle.std.proofs.lemmas.List.{map-append, length-map, get_or-map}
use Rattle.std.proofs.lemmas.Option.{slice_get_within, slice_get-get_or, get_or_from_slice_get}
use Rattle.leak_marks.specs.Lists.{Has, IsDistinct}
use Rattle.leak_marks.proofs.ListLemmas.{times-append, times_one, distinct_back}
use Rattle.leak_marks.proofs.ElementLemmas.{has_map, of_map, has_at}
use Rattle.leak_marks.specs.Reach.{Graph}
use Rattle.leak_why.specs.declared.reached_block.ReachedBlock.{ReachedBlock}
use Rattle.leak_why.specs.declared.reached_block.Origin.{Origin}
use Rattle.leak_why.specs.declared.reached_block.Origin.TheVariants.{Registers}
use Rattle.leak_why.specs.declared.reached_block.FirstLead.{FirstLead}
use Rattle.leak_why.specs.declared.reached_block.FirstLead.TheVariants.{Root, Earlier}
use Rattle.leak_why.specs.ReachedBlocks.{IsAt, IsNear, IsScanned, blocks_of}

-- what stands for an entry past the end of a list
abbrev pub nothing : ReachedBlock
nothing = record { block = 0; source = Root Registers }

-- ---- entries of a list

pub get_grown : (xs ys : List ReachedBlock) (i : ℕ) (e : ReachedBlock) → slice_get xs i ≡ Some e → slice_get (xs ++ ys) i ≡ Some e
get_grown [] ys i e h = absurd (let l = slice_get_within [] i e h in omega arith)
get_grown (x ∷ xs) ys zero e h = h
get_grown (x ∷ xs) ys (suc i) e h = get_grown xs ys i e h

pub get_back : (xs ys : List ReachedBlock) (i : ℕ) (e : ReachedBlock) → slice_get (xs ++ ys) i ≡ Some e → (slice_get xs i ≡ Some e) ⊎ ((k : ℕ) × (i ≡ length xs + k) × (slice_get ys k ≡ Some e))
get_back [] ys i e h = inr (i, omega arith, h)
get_back (x ∷ xs) ys zero e h = inl h
get_back (x ∷ xs) ys (suc i) e h = ⊎_elim
    (λ old. inl old)
    (λ new. let p : (k : ℕ) × (i ≡ length xs + k) × (slice_get ys k ≡ Some e) = new in inr (p.0, (let q : i ≡ length xs + p.0 = p.1 in omega arith), p.2))
    (get_back xs ys i e h)

pub entry_at : (es : List ReachedBlock) (i : ℕ) → i < length es → (e : ReachedBlock) × (slice_get es i ≡ Some e)
entry_at es i h = (get_or es i nothing, slice_get-get_or es i nothing h)

pub same_entry : (es : List ReachedBlock) (i : ℕ) (a b : ReachedBlock) → slice_get es i ≡ Some a → slice_get es i ≡ Some b → a ≡ b
same_entry es i a b h k = sym (get_or_from_slice_get es i a nothing h) ∙ get_or_from_slice_get es i b nothing k

pub all_at : (P : ReachedBlock → Type 0) (es : List ReachedBlock) (i : ℕ) (e : ReachedBlock) → AllByRecursion P es → slice_get es i ≡ Some e → P e
all_at P [] i e all h = absurd (let l = slice_get_within [] i e h in omega arith)
all_at P (x ∷ xs) zero e all h = subst P (same_entry (x ∷ xs) 0 x e refl h) all.0
all_at P (x ∷ xs) (suc i) e all h = all_at P xs i e all.1 h

pub has_block : (es : List ReachedBlock) (i : ℕ) (e : ReachedBlock) → slice_get es i ≡ Some e → Has (blocks_of es) e.block
has_block es i e h =
    subst (λ (x : ReachedBlock). Has (blocks_of es) x.block) (get_or_from_slice_get es i e nothing h) (has_map (λ x. x.block) es i nothing (slice_get_within es i e h))

pub of_block : (es : List ReachedBlock) (b : ℕ) → Has (blocks_of es) b → (i : ℕ) × (e : ReachedBlock) × (slice_get es i ≡ Some e) × (e.block ≡ b)
of_block es b h =
    let p : (k : ℕ) × (k < length es) × ((d : ReachedBlock) → (get_or es k d).block ≡ b) = of_map (λ x. x.block) es b h in
    (p.0, get_or es p.0 nothing, slice_get-get_or es p.0 nothing p.1, p.2 nothing)

pub blocks-append : (xs ys : List ReachedBlock) → blocks_of (xs ++ ys) ≡ blocks_of xs ++ blocks_of ys
blocks-append xs ys = map-append (λ e. e.block) xs ys

-- in a list without repeats a number is at one place
twice : (x : ℕ) (xs : List ℕ) (j : ℕ) → IsDistinct (x ∷ xs) → j < length xs → x ≡ get_or xs j 0 → ⊥
twice x xs j once k e =
    let there : Has xs x = subst (λ (y : ℕ). Has xs y) (sym e) (has_at xs j 0 k) in
    let o = once x in let p = times-append x (x ∷ []) xs in let q = times_one x in omega arith

same_place : (xs : List ℕ) (i j : ℕ) → IsDistinct xs → i < length xs → j < length xs → get_or xs i 0 ≡ get_or xs j 0 → i ≡ j
same_place [] i j once h k e = absurd (omega arith)
same_place (x ∷ xs) zero zero once h k e = refl
same_place (x ∷ xs) zero (suc j) once h k e = absurd (twice x xs j once (omega arith) e)
same_place (x ∷ xs) (suc i) zero once h k e = absurd (twice x xs i once (omega arith) (sym e))
same_place (x ∷ xs) (suc i) (suc j) once h k e =
    let r : i ≡ j = same_place xs i j (distinct_back (x ∷ []) xs once) (omega arith) (omega arith) e in omega arith

pub same_number : (es : List ReachedBlock) (i j : ℕ) (a b : ReachedBlock) → IsDistinct (blocks_of es) → slice_get es i ≡ Some a → slice_get es j ≡ Some b → a.block ≡ b.block → i ≡ j
same_number es i j a b once h k e =
    let l = length-map es (λ x. x.block) in
    let low = slice_get_within es i a h in let high = slice_get_within es j b k in
    same_place (blocks_of es) i j once (omega arith) (omega arith) (block_at es i a h ∙ e ∙ sym (block_at es j b k))
  where
    block_at : (es : List ReachedBlock) (i : ℕ) (a : ReachedBlock) → slice_get es i ≡ Some a → get_or (blocks_of es) i 0 ≡ a.block
    block_at es i a h = get_or-map (λ x. x.block) es i nothing 0 (slice_get_within es i a h) ∙ ap (λ (x : ReachedBlock). x.block) (get_or_from_slice_get es i a nothing h)

-- ---- steps

abbrev is_root : FirstLead → Bool
is_root (Root o) = true
is_root (Earlier j) = false

abbrev number_in : FirstLead → ℕ
number_in (Root o) = 0
number_in (Earlier j) = j

pub not_both : (s : FirstLead) (o : Origin) (j : ℕ) → s ≡ Root o → s ≡ Earlier j → ⊥
not_both s o j r e = true≢false (sym (ap is_root r) ∙ ap is_root e)

pub at_grown : (xs ys : List ReachedBlock) (d i : ℕ) → IsAt xs d i → IsAt (xs ++ ys) d i
at_grown xs ys zero i a = (a.0, a.1, get_grown xs ys i a.0 a.2, a.3)
at_grown xs ys (suc d) i a = (a.0, a.1, get_grown xs ys i a.0 a.2, a.3, at_grown xs ys d a.1 a.4)

pub at_same : (es : List ReachedBlock) (d n i : ℕ) → IsAt es d i → IsAt es n i → d ≡ n
at_same es zero zero i a b = refl
at_same es zero (suc n) i a b = absurd (not_both b.0.source a.1 b.1 (subst (λ (x : ReachedBlock). x.source ≡ Root a.1) (same_entry es i a.0 b.0 a.2 b.2) a.3) b.3)
at_same es (suc d) zero i a b = absurd (not_both a.0.source b.1 a.1 (subst (λ (x : ReachedBlock). x.source ≡ Root b.1) (same_entry es i b.0 a.0 b.2 a.2) b.3) a.3)
at_same es (suc d) (suc n) i a b =
    let same : a.1 ≡ b.1 = sym (ap number_in a.3) ∙ ap (λ (x : ReachedBlock). number_in x.source) (same_entry es i a.0 b.0 a.2 b.2) ∙ ap number_in b.3 in
    let r : d ≡ n = at_same es d n a.1 a.4 (subst (λ (j : ℕ). IsAt es n j) (sym same) b.4) in omega arith

pub near_grown : (xs ys : List ReachedBlock) (m b : ℕ) → IsNear xs m b → IsNear (xs ++ ys) m b
near_grown xs ys m b n = record {
  number = n.number;
  entry = n.entry;
  is_entry = get_grown xs ys n.number n.entry n.is_entry;
  is_block = n.is_block;
  steps = n.steps;
  few = n.few;
  at = at_grown xs ys n.steps n.number n.at;
}

pub scanned_grown : (g : Graph) (xs ys : List ReachedBlock) (i : ℕ) → IsScanned g xs i → IsScanned g (xs ++ ys) i
scanned_grown g xs ys i s = record {
  entry = s.entry;
  is_entry = get_grown xs ys i s.entry s.is_entry;
  steps = s.steps;
  at = at_grown xs ys s.steps i s.at;
  near = λ b h. near_grown xs ys (suc s.steps) b (s.near b h);
}
