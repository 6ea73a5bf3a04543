-- The leaked blocks of the first entries of a set.
use Rattle.std.proofs.Common.{suc, zero, add-one, add-zero, ◌≡◌, ℕ, ◌+◌, ◌<◌, ◌≤◌, Bool, true, false, not, cond, List, [], ◌∷◌, ◌++◌, length, take, drop, get_or, filter, refl, ap, sym, ◌∙◌, arith}
use Rattle.std.proofs.lemmas.List.Sums.{sum_by-cons}
use Rattle.std.proofs.lemmas.List.{append-nil, length-append}
use Rattle.std.proofs.lemmas.List.Elements.{filter-append}
use Rattle.std.proofs.lemmas.List.Filters.{length-filter_both}
use Rattle.std.proofs.Math.Seq.{drop-cons}
use Rattle.leak_blocks.specs.declared.block.Block.{Block}
use Rattle.leak_report.specs.Totals.{Leak, leaked_in, leaks_in, marked_in, bytes_of, bytes_in, heads_in}

-- one more block that is not in the set
pub leaks_push : (set heads : List Bool) (blocks : List Block) (i : ℕ) (d e : Bool) (b : Block) → i < length set → i < length heads → i < length blocks
    → get_or set i d ≡ false
    → leaks_in (take (suc i) set) (take (suc i) heads) (take (suc i) blocks)
    ≡ leaks_in (take i set) (take i heads) (take i blocks) ++ record { block = get_or blocks i b; head = get_or heads i e } ∷ []
leaks_push [] heads blocks i d e b p o q is = absurd (omega arith)
leaks_push (s ∷ set) [] blocks i d e b p o q is = absurd (omega arith)
leaks_push (s ∷ set) (h ∷ heads) [] i d e b p o q is = absurd (omega arith)
leaks_push (true ∷ set) (h ∷ heads) (x ∷ blocks) zero d e b p o q is = cc
leaks_push (false ∷ set) (h ∷ heads) (x ∷ blocks) zero d e b p o q is = refl
leaks_push (true ∷ set) (h ∷ heads) (x ∷ blocks) (suc i) d e b p o q is = leaks_push set heads blocks i d e b (omega arith) (omega arith) (omega arith) is
leaks_push (false ∷ set) (h ∷ heads) (x ∷ blocks) (suc i) d e b p o q is =
    ap (λ ls. record { block = x; head = h } ∷ ls) (leaks_push set heads blocks i d e b (omega arith) (omega arith) (omega arith) is)

-- one more that is in it
pub leaks_stay : (set heads : List Bool) (blocks : List Block) (i : ℕ) (d : Bool) → i < length set → i < length heads → i < length blocks
    → get_or set i d ≡ true
    → leaks_in (take (suc i) set) (take (suc i) heads) (take (suc i) blocks) ≡ leaks_in (take i set) (take i heads) (take i blocks)
leaks_stay [] heads blocks i d p o q is = absurd (omega arith)
leaks_stay (s ∷ set) [] blocks i d p o q is = absurd (omega arith)
leaks_stay (s ∷ set) (h ∷ heads) [] i d p o q is = absurd (omega arith)
leaks_stay (false ∷ set) (h ∷ heads) (x ∷ blocks) zero d p o q is = cc
leaks_stay (true ∷ set) (h ∷ heads) (x ∷ blocks) zero d p o q is = refl
leaks_stay (true ∷ set) (h ∷ heads) (x ∷ blocks) (suc i) d p o q is = leaks_stay set heads blocks i d (omega arith) (omega arith) (omega arith) is
leaks_stay (false ∷ set) (h ∷ heads) (x ∷ blocks) (suc i) d p o q is =
    ap (λ ls. record { block = x; head = h } ∷ ls) (leaks_stay set heads blocks i d (omega arith) (omega arith) (omega arith) is)

-- they have no more bytes than all blocks, and are no more
pub bytes_in-leaks : (set heads : List Bool) (blocks : List Block) → bytes_in (leaks_in set heads blocks) ≤ bytes_of blocks
bytes_in-leaks [] heads blocks = omega arith
bytes_in-leaks (s ∷ set) [] blocks = omega arith
bytes_in-leaks (s ∷ set) (h ∷ heads) [] = omega arith
bytes_in-leaks (true ∷ set) (h ∷ heads) (b ∷ blocks) = omega (arith, bytes_in-leaks set heads blocks, sum_by-cons (λ (b : Block). b.size) b blocks)
bytes_in-leaks (false ∷ set) (h ∷ heads) (b ∷ blocks) =
    omega (
      arith,
      bytes_in-leaks set heads blocks,
      sum_by-cons (λ (b : Block). b.size) b blocks,
      sum_by-cons (λ (l : Leak). l.block.size) (record { block = b; head = h }) (leaks_in set heads blocks),
    )

pub length-leaks : (set heads : List Bool) (blocks : List Block) → length (leaks_in set heads blocks) ≤ length blocks
length-leaks [] heads blocks = omega arith
length-leaks (s ∷ set) [] blocks = omega arith
length-leaks (s ∷ set) (h ∷ heads) [] = omega arith
length-leaks (true ∷ set) (h ∷ heads) (b ∷ blocks) = omega (arith, length-leaks set heads blocks)
length-leaks (false ∷ set) (h ∷ heads) (b ∷ blocks) = omega (arith, length-leaks set heads blocks)

-- no more bytes than those of all blocks, and no more blocks
pub bytes_of-leaked : (set : List Bool) (blocks : List Block) → bytes_of (leaked_in set blocks) ≤ bytes_of blocks
bytes_of-leaked [] blocks = omega arith
bytes_of-leaked (s ∷ set) [] = omega arith
bytes_of-leaked (true ∷ set) (b ∷ blocks) = omega (arith, bytes_of-leaked set blocks, sum_by-cons (λ (b : Block). b.size) b blocks)
bytes_of-leaked (false ∷ set) (b ∷ blocks) =
    omega (arith, bytes_of-leaked set blocks, sum_by-cons (λ (b : Block). b.size) b blocks, sum_by-cons (λ (b : Block). b.size) b (leaked_in set blocks))

pub length-leaked : (set : List Bool) (blocks : List Block) → length (leaked_in set blocks) ≤ length blocks
length-leaked [] blocks = omega arith
length-leaked (s ∷ set) [] = omega arith
length-leaked (true ∷ set) (b ∷ blocks) = omega (arith, length-leaked set blocks)
length-leaked (false ∷ set) (b ∷ blocks) = omega (arith, length-leaked set blocks)

-- one more element of a filtered list
pub filter-push_yes : {X : Type 0} (p : X → Bool) (xs : List X) (x : X) → p x ≡ true → filter p (xs ++ x ∷ []) ≡ filter p xs ++ x ∷ []
filter-push_yes p xs x h = rw (filter-append p xs (x ∷ []), h) refl

pub filter-push_no : {X : Type 0} (p : X → Bool) (xs : List X) (x : X) → p x ≡ false → filter p (xs ++ x ∷ []) ≡ filter p xs
filter-push_no p xs x h = rw (filter-append p xs (x ∷ []), h) (append-nil _)

-- the heads with one more leaked block
pub heads_in-push : (leaks : List Leak) (l : Leak) → heads_in (leaks ++ l ∷ []) ≡ heads_in leaks + cond l.head 1 0
heads_in-push leaks l = go l.head refl
  where
    go : (t : Bool) → l.head ≡ t → heads_in (leaks ++ l ∷ []) ≡ heads_in leaks + cond t 1 0
    go true e = ap (λ (ls : List Leak). length ls) (filter-push_yes (λ (x : Leak). x.head) leaks l e) ∙ length-append (filter (λ (x : Leak). x.head) leaks) (l ∷ [])
    go false e = ap (λ (ls : List Leak). length ls) (filter-push_no (λ (x : Leak). x.head) leaks l e) ∙ sym (add-zero (heads_in leaks))

-- no more heads than leaked blocks
pub few_heads : (leaks : List Leak) → heads_in leaks ≤ length leaks
few_heads leaks = omega (arith, length-filter_both (λ (x : Leak). x.head) (λ x. not x.head) (λ x. refl) leaks)

-- they are the blocks that the set leaves out
pub length-leaks_leaked : (set heads : List Bool) (blocks : List Block) → length heads ≡ length blocks → length (leaks_in set heads blocks) ≡ length (leaked_in set blocks)
length-leaks_leaked [] heads blocks e = refl
length-leaks_leaked (s ∷ set) [] [] e = refl
length-leaks_leaked (s ∷ set) [] (b ∷ blocks) e = absurd (omega (arith, e))
length-leaks_leaked (s ∷ set) (h ∷ heads) [] e = refl
length-leaks_leaked (true ∷ set) (h ∷ heads) (b ∷ blocks) e = length-leaks_leaked set heads blocks (omega (arith, e))
length-leaks_leaked (false ∷ set) (h ∷ heads) (b ∷ blocks) e = omega (arith, length-leaks_leaked set heads blocks (omega (arith, e)))

pub bytes-leaks_leaked : (set heads : List Bool) (blocks : List Block) → length heads ≡ length blocks → bytes_in (leaks_in set heads blocks) ≡ bytes_of (leaked_in set blocks)
bytes-leaks_leaked [] heads blocks e = refl
bytes-leaks_leaked (s ∷ set) [] [] e = refl
bytes-leaks_leaked (s ∷ set) [] (b ∷ blocks) e = absurd (omega (arith, e))
bytes-leaks_leaked (s ∷ set) (h ∷ heads) [] e = refl
bytes-leaks_leaked (true ∷ set) (h ∷ heads) (b ∷ blocks) e = bytes-leaks_leaked set heads blocks (omega (arith, e))
bytes-leaks_leaked (false ∷ set) (h ∷ heads) (b ∷ blocks) e =
    omega (
      arith,
      bytes-leaks_leaked set heads blocks (omega (arith, e)),
      sum_by-cons (λ (b : Block). b.size) b (leaked_in set blocks),
      sum_by-cons (λ (l : Leak). l.block.size) (record { block = b; head = h }) (leaks_in set heads blocks),
    )

-- marked and leaked blocks together are all
pub bytes_of-both : (set : List Bool) (blocks : List Block) → length set ≡ length blocks
    → bytes_of (marked_in set blocks) + bytes_of (leaked_in set blocks) ≡ bytes_of blocks
bytes_of-both [] [] e = refl
bytes_of-both [] (b ∷ blocks) e = absurd (omega arith)
bytes_of-both (s ∷ set) [] e = absurd (omega arith)
bytes_of-both (true ∷ set) (b ∷ blocks) e =
    omega (arith, bytes_of-both set blocks (omega arith), sum_by-cons (λ (b : Block). b.size) b blocks, sum_by-cons (λ (b : Block). b.size) b (marked_in set blocks))
bytes_of-both (false ∷ set) (b ∷ blocks) e =
    omega (arith, bytes_of-both set blocks (omega arith), sum_by-cons (λ (b : Block). b.size) b blocks, sum_by-cons (λ (b : Block). b.size) b (leaked_in set blocks))

pub length-both : (set : List Bool) (blocks : List Block) → length set ≡ length blocks
    → length (marked_in set blocks) + length (leaked_in set blocks) ≡ length blocks
length-both [] [] e = refl
length-both [] (b ∷ blocks) e = absurd (omega arith)
length-both (s ∷ set) [] e = absurd (omega arith)
length-both (true ∷ set) (b ∷ blocks) e = omega (arith, length-both set blocks (omega arith))
length-both (false ∷ set) (b ∷ blocks) e = omega (arith, length-both set blocks (omega arith))

-- what is left of the marked blocks, if the next is marked and if it isn't
pub marked_next : (set : List Bool) (blocks : List Block) (i : ℕ) (d : Bool) (b : Block) → i < length set → i < length blocks → get_or set i d ≡ true
    → marked_in (drop i set) (drop i blocks) ≡ get_or blocks i b ∷ marked_in (drop (i + 1) set) (drop (i + 1) blocks)
marked_next set blocks i d b p q e = rw (drop-cons set i d, drop-cons blocks i b, e, add-one) refl

pub marked_later : (set : List Bool) (blocks : List Block) (i : ℕ) (d : Bool) (b : Block) → i < length set → i < length blocks → get_or set i d ≡ false
    → marked_in (drop i set) (drop i blocks) ≡ marked_in (drop (i + 1) set) (drop (i + 1) blocks)
marked_later set blocks i d b p q e = rw (drop-cons set i d, drop-cons blocks i b, e, add-one) refl

pub bytes_of-marked : (set : List Bool) (blocks : List Block) → bytes_of (marked_in set blocks) ≤ bytes_of blocks
bytes_of-marked [] blocks = omega arith
bytes_of-marked (s ∷ set) [] = omega arith
bytes_of-marked (false ∷ set) (b ∷ blocks) = omega (arith, bytes_of-marked set blocks, sum_by-cons (λ (b : Block). b.size) b blocks)
bytes_of-marked (true ∷ set) (b ∷ blocks) =
    omega (arith, bytes_of-marked set blocks, sum_by-cons (λ (b : Block). b.size) b blocks, sum_by-cons (λ (b : Block). b.size) b (marked_in set blocks))

pub length-marked : (set : List Bool) (blocks : List Block) → length (marked_in set blocks) ≤ length blocks
length-marked [] blocks = omega arith
length-marked (s ∷ set) [] = omega arith
length-marked (true ∷ set) (b ∷ blocks) = omega (arith, length-marked set blocks)
length-marked (false ∷ set) (b ∷ blocks) = omega (arith, length-marked set blocks)
