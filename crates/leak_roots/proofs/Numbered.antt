-- Pieces by their numbers.
use Rattle.std.proofs.Common.{◌≡◌, ℕ, zero, suc, ◌+◌, ◌-◌, ◌*◌, ◌/◌, ◌%◌, ◌<◌, ◌≤◌, ◌⊎◌, inl, inr, List, [], ◌∷◌, ◌++◌, length, get_or, take, refl, ap, ◌∙◌, append-nil, length-append, arith}
use Rattle.std.specs.List.{AllByRecursion}
use Rattle.std.proofs.Math.Nat.{mul-le-mul_left}
use Rattle.std.proofs.lemmas.Bool.{cases_eq}
use Rattle.std.proofs.lemmas.Grind.{flat_map-append}
use Rattle.std.proofs.lemmas.List.{take_more, take_all, get_or_append_left, get_or-append_right}
use Rattle.std.proofs.lemmas.List.FromFn.{length-map-range_with_len, get_or-map-range_with_len}
use Rattle.leak_roots.specs.declared.piece.Piece.{Piece}
use Rattle.leak_roots.specs.declared.pieces.Long.{Long}
use Rattle.leak_roots.specs.Places.{Places, IsRange, AreRanges}
use Rattle.leak_roots.specs.Cut.{cut_count, register_piece, register_pieces, words_in, range_piece, range_pieces, memory_pieces, pieces_of, pieces_before}
use Rattle.leak_roots.specs.Numbers.{AreSingle, AreListed}
use Rattle.leak_roots.proofs.Cutting.{range_is}

-- ---- how many pieces words make

low_by : (words count i : ℕ) → 0 < words → ((count % words ≡ 0) ⊎ (count % words ≡ 0 → ⊥)) → i < cut_count words count → words * i < count
low_by words count i some (inl e) h =
    let m : words * (i + 1) ≤ words * (count / words) = mul-le-mul_left words (omega arith) in omega arith
low_by words count i some (inr e) h =
    let m : words * i ≤ words * (count / words) = mul-le-mul_left words (omega arith) in omega arith

pub cut_low : (words count i : ℕ) → 0 < words → i < cut_count words count → words * i < count
cut_low words count i some h = low_by words count i some (cases_eq (count % words) 0) h

high_by : (words count : ℕ) → 0 < words → ((count % words ≡ 0) ⊎ (count % words ≡ 0 → ⊥)) → count ≤ words * cut_count words count
high_by words count some (inl e) = let k : cut_count words count ≡ count / words = omega arith in rw k (omega arith)
high_by words count some (inr e) = let k : cut_count words count ≡ count / words + 1 = omega arith in rw k (omega arith)

pub cut_high : (words count : ℕ) → 0 < words → count ≤ words * cut_count words count
cut_high words count some = high_by words count some (cases_eq (count % words) 0)

positive : (w n c : ℕ) → n ≤ w * c → 0 < n → 0 < c
positive w n zero h p = absurd (omega arith)
positive w n (suc c) h p = omega arith

pub cut_some : (words count : ℕ) → 0 < words → 0 < count → 0 < cut_count words count
cut_some words count some h = positive words count (cut_count words count) (cut_high words count some) h

few_by : (w n c : ℕ) → 0 < w → ((i : ℕ) → i < c → w * i < n) → c ≤ n
few_by zero n c some h = absurd (omega arith)
few_by (suc w) n zero some h = omega arith
few_by (suc w) n (suc c) some h = let l : suc w * c < n = h c (omega arith) in omega arith

pub cut_few : (words count : ℕ) → 0 < words → cut_count words count ≤ count
cut_few words count some = few_by words count (cut_count words count) some (λ i h. cut_low words count i some h)

-- ---- the pieces of a range

pub length_range_pieces : (words : ℕ) (range : ℕ × ℕ) → length (range_pieces words range) ≡ cut_count words (words_in range)
unfolding range_pieces
length_range_pieces words range = length-map-range_with_len (range_piece words range) 0 (cut_count words (words_in range))

pub some_pieces : (words : ℕ) (range : ℕ × ℕ) → 0 < words → IsRange range → 0 < length (range_pieces words range)
some_pieces words range some is =
    let s = is.some in let f = is.from_multiple in let t = is.to_multiple in
    rw (length_range_pieces words range) (cut_some words (words_in range) some (omega arith))

pub few_pieces : (words : ℕ) (range : ℕ × ℕ) → 0 < words → IsRange range → range.0 + 8 * length (range_pieces words range) ≤ range.1
few_pieces words range some is =
    let s = is.some in let few = cut_few words (words_in range) some in
    rw (length_range_pieces words range) (omega arith)

pub range_piece_at : (words : ℕ) (range : ℕ × ℕ) (i : ℕ) (d : Piece) → i < length (range_pieces words range) → get_or (range_pieces words range) i d ≡ range_piece words range i
unfolding range_pieces
range_piece_at words range i d h =
    let n = length_range_pieces words range in
    get_or-map-range_with_len (range_piece words range) 0 (cut_count words (words_in range)) i i d (omega arith) (omega arith)

pub register_piece_at : (words count i : ℕ) (d : Piece) → i < cut_count words count → get_or (register_pieces words count) i d ≡ register_piece words count i
register_piece_at words count i d h = get_or-map-range_with_len (register_piece words count) 0 (cut_count words count) i i d h (omega arith)

pub length_register_pieces : (words count : ℕ) → length (register_pieces words count) ≡ cut_count words count
length_register_pieces words count = length-map-range_with_len (register_piece words count) 0 (cut_count words count)

-- ---- the pieces before a range

pub before_more : (words : ℕ) (ranges : List (ℕ × ℕ)) (i : ℕ) (d : ℕ × ℕ) → i < length ranges → pieces_before words ranges (i + 1) ≡ pieces_before words ranges i + length (range_pieces words (get_or ranges i d))
unfolding pieces_before
before_more words ranges i d h =
    let r = get_or ranges i d in
    ap (λ (rs : List (ℕ × ℕ)). length (memory_pieces words rs)) (take_more ranges i d h)
    ∙ ap length (flat_map-append (range_pieces words) (take i ranges) (r ∷ []))
    ∙ length-append (memory_pieces words (take i ranges)) (memory_pieces words (r ∷ []))
    ∙ ap (λ (xs : List Piece). length (memory_pieces words (take i ranges)) + length xs) (append-nil (range_pieces words r))

pub before_all : (words : ℕ) (ranges : List (ℕ × ℕ)) → pieces_before words ranges (length ranges) ≡ length (memory_pieces words ranges)
unfolding pieces_before
before_all words ranges = ap (λ (rs : List (ℕ × ℕ)). length (memory_pieces words rs)) (take_all (length ranges) ranges (omega arith))

pub before_none : (words : ℕ) (ranges : List (ℕ × ℕ)) → pieces_before words ranges 0 ≡ 0
unfolding pieces_before
before_none words ranges = refl

some_at : (words : ℕ) (ranges : List (ℕ × ℕ)) (i : ℕ) → 0 < words → AreRanges ranges → i < length ranges → pieces_before words ranges i < pieces_before words ranges (i + 1)
some_at words ranges i some are h =
    let m = before_more words ranges i (0, 0) h in
    let s = some_pieces words (get_or ranges i (0, 0)) some (range_is ranges i (0, 0) are h) in omega arith

pub grows : (words : ℕ) (ranges : List (ℕ × ℕ)) (i n : ℕ) → 0 < words → AreRanges ranges → i + n ≤ length ranges → pieces_before words ranges i + n ≤ pieces_before words ranges (i + n)
grows words ranges i zero some are h = let e : i + zero ≡ i = omega arith in rw e (omega arith)
grows words ranges i (suc n) some are h =
    let e : i + suc n ≡ i + n + 1 = omega arith in
    let g = grows words ranges i n some are (omega arith) in
    let s = some_at words ranges (i + n) some are (omega arith) in rw e (omega arith)

low_sum : (words : ℕ) (ranges : List (ℕ × ℕ)) (low i : ℕ) (d : ℕ × ℕ) → 0 < words → AreRanges ranges → AllByRecursion (λ s. low ≤ s.0) ranges → i < length ranges
    → low + 8 * length (memory_pieces words (take i ranges)) ≤ (get_or ranges i d).0
low_sum words [] low i d some are all h = absurd (omega arith)
low_sum words (r ∷ rs) low zero d some are all h = let a = all.0 in omega arith
low_sum words (r ∷ rs) low (suc i) d some are all h =
    let a = all.0 in let f = few_pieces words r some are.0 in
    let rest = low_sum words rs r.1 i d some are.2 are.1 (omega arith) in
    let l = length-append (range_pieces words r) (memory_pieces words (take i rs)) in
    omega arith

any_low : (ranges : List (ℕ × ℕ)) → AllByRecursion (λ s. 0 ≤ s.0) ranges
any_low [] = tt
any_low (r ∷ rs) = (omega arith, any_low rs)

-- a piece takes 8 bytes at least
pub before_fits : (words : ℕ) (ranges : List (ℕ × ℕ)) (i : ℕ) (d : ℕ × ℕ) → 0 < words → AreRanges ranges → i < length ranges → 8 * pieces_before words ranges i ≤ (get_or ranges i d).0
unfolding pieces_before
before_fits words ranges i d some are h = let l = low_sum words ranges 0 i d some are (any_low ranges) h in omega arith

-- the piece of a range among all
pub flat_at : (words : ℕ) (ranges : List (ℕ × ℕ)) (i k : ℕ) (r : ℕ × ℕ) (d : Piece) → i < length ranges → k < length (range_pieces words (get_or ranges i r))
    → get_or (memory_pieces words ranges) (pieces_before words ranges i + k) d ≡ get_or (range_pieces words (get_or ranges i r)) k d
unfolding pieces_before
flat_at words [] i k r d h l = absurd (omega arith)
flat_at words (x ∷ xs) zero k r d h l =
    let e : length (memory_pieces words []) + k ≡ k = omega arith in
    rw e (get_or_append_left (range_pieces words x) (memory_pieces words xs) d k l)
flat_at words (x ∷ xs) (suc i) k r d h l =
    let a = length-append (range_pieces words x) (memory_pieces words (take i xs)) in
    let n = length (range_pieces words x) in
    let m = length (memory_pieces words (take i xs)) in
    get_or-append_right (range_pieces words x) (memory_pieces words xs) n (length (range_pieces words x ++ memory_pieces words (take i xs)) + k) d refl (omega arith)
    ∙ ap (λ (j : ℕ). get_or (memory_pieces words xs) j d) (let e : length (range_pieces words x ++ memory_pieces words (take i xs)) + k - n ≡ m + k = omega arith in e)
    ∙ flat_at words xs i k r d (omega arith) l

-- ---- the list of ranges of more than one piece

pub listed_none : (words : ℕ) (ranges : List (ℕ × ℕ)) → AreListed words ranges 0 [] 0
listed_none words ranges = record { order = omega arith; same = omega arith }

-- a range of one piece is not listed
pub listed_more : (words : ℕ) (ranges : List (ℕ × ℕ)) (from : ℕ) (ls : List Long) (i : ℕ) (d : ℕ × ℕ) → i < length ranges → length (range_pieces words (get_or ranges i d)) ≡ 1 → AreListed words ranges from ls i → AreListed words ranges from ls (i + 1)
listed_more words ranges from [] i d h one are =
    let o = are.order in let s = are.same in let m = before_more words ranges i d h in
    record { order = omega arith; same = omega arith }
listed_more words ranges from (l ∷ ls) i d h one are =
    let b = are.0 in (omega arith, are.1, are.2, listed_more words ranges (l.range + 1) ls i d h one are.3)

pub listed_push : (words : ℕ) (ranges : List (ℕ × ℕ)) (from : ℕ) (ls : List Long) (l : Long) → l.first ≡ pieces_before words ranges l.range → AreListed words ranges from ls l.range → AreListed words ranges from (ls ++ l ∷ []) (l.range + 1)
listed_push words ranges from [] l e are = (omega arith, e, are, record { order = omega arith; same = refl })
listed_push words ranges from (k ∷ ks) l e are =
    let b = are.0 in (omega arith, are.1, are.2, listed_push words ranges (k.range + 1) ks l e are.3)

listed_low : (words : ℕ) (ranges : List (ℕ × ℕ)) (from : ℕ) (ls : List Long) (to j : ℕ) (d : Long) → 0 < words → AreRanges ranges → to ≤ length ranges → AreListed words ranges from ls to → j < length ls → pieces_before words ranges from ≤ (get_or ls j d).first
listed_low words ranges from [] to j d some ranged end are h = absurd (omega arith)
listed_low words ranges from (l ∷ ls) to zero d some ranged end are h = let e = are.1 in let o = are.2.order in let s = are.2.same in omega arith
listed_low words ranges from (l ∷ ls) to (suc j) d some ranged end are h =
    let b = are.0 in let e = are.1 in let o = are.2.order in let s = are.2.same in
    let g = some_at words ranges l.range some ranged (omega arith) in
    let r = listed_low words ranges (l.range + 1) ls to j d some ranged end are.3 (omega arith) in omega arith

pub listed_ascend : (words : ℕ) (ranges : List (ℕ × ℕ)) (from : ℕ) (ls : List Long) (to i j : ℕ) (d : Long) → 0 < words → AreRanges ranges → to ≤ length ranges → AreListed words ranges from ls to → i ≤ j → j < length ls → (get_or ls i d).first ≤ (get_or ls j d).first
listed_ascend words ranges from [] to i j d some ranged end are le h = absurd (omega arith)
listed_ascend words ranges from (l ∷ ls) to zero zero d some ranged end are le h = omega arith
listed_ascend words ranges from (l ∷ ls) to zero (suc j) d some ranged end are le h =
    let b = are.0 in let e = are.1 in
    let g = some_at words ranges l.range some ranged (omega arith) in
    let r = listed_low words ranges (l.range + 1) ls to j d some ranged end are.3 (omega arith) in omega arith
listed_ascend words ranges from (l ∷ ls) to (suc i) zero d some ranged end are le h = absurd (omega arith)
listed_ascend words ranges from (l ∷ ls) to (suc i) (suc j) d some ranged end are le h =
    listed_ascend words ranges (l.range + 1) ls to i j d some ranged end are.3 (omega arith) (omega arith)

pub listed_at : (words : ℕ) (ranges : List (ℕ × ℕ)) (from : ℕ) (ls : List Long) (to j : ℕ) (d : Long) → AreListed words ranges from ls to → j < length ls
    → ((get_or ls j d).range < to) × ((get_or ls j d).first ≡ pieces_before words ranges (get_or ls j d).range)
listed_at words ranges from [] to j d are h = absurd (omega arith)
listed_at words ranges from (l ∷ ls) to zero d are h = (are.0, are.1)
listed_at words ranges from (l ∷ ls) to (suc j) d are h = listed_at words ranges (l.range + 1) ls to j d are.3 (omega arith)

-- ---- finding

-- where the ranges of one piece begin after this many listed ranges
pub begin : ℕ → List Long → ℕ → ℕ
begin from ls zero = from
begin from [] (suc j) = from
begin from (l ∷ ls) (suc j) = begin (l.range + 1) ls j

pub begin_first : (from : ℕ) (ls : List Long) → begin from ls 0 ≡ from
unfolding begin
begin_first from ls = refl

pub begin_next : (from : ℕ) (ls : List Long) (j : ℕ) (d : Long) → j < length ls → begin from ls (j + 1) ≡ (get_or ls j d).range + 1
unfolding begin
begin_next from [] j d h = absurd (omega arith)
begin_next from (l ∷ ls) zero d h = refl
begin_next from (l ∷ ls) (suc j) d h = let e : suc j + 1 ≡ suc (j + 1) = omega arith in rw e (begin_next (l.range + 1) ls j d (omega arith))

-- a piece lies in the ranges of one piece from a place on, if it is not before them
pub record IsInRun (words : ℕ) (ranges : List (ℕ × ℕ)) (from piece : ℕ) : Type 0 where
  pub to : ℕ
  pub bound : to ≤ length ranges
  pub single : AreSingle words ranges from to
  pub below : piece < pieces_before words ranges to

pub run_at : (words : ℕ) (ranges : List (ℕ × ℕ)) (from : ℕ) (ls : List Long) (j piece : ℕ) → AreListed words ranges from ls (length ranges) → j ≤ length ls → piece < pieces_before words ranges (length ranges)
    → ((k : ℕ) (d : Long) → j ≤ k → k < length ls → piece < (get_or ls k d).first) → IsInRun words ranges (begin from ls j) piece
unfolding begin
run_at words ranges from [] zero piece are h below beyond = record { to = length ranges; bound = omega arith; single = are; below = below }
run_at words ranges from [] (suc j) piece are h below beyond = absurd (omega arith)
run_at words ranges from (l ∷ ls) zero piece are h below beyond =
    let b = are.0 in let e = are.1 in let n = beyond 0 l (omega arith) (omega arith) in
    record { to = l.range; bound = omega arith; single = are.2; below = omega arith }
run_at words ranges from (l ∷ ls) (suc j) piece are h below beyond =
    run_at words ranges (l.range + 1) ls j piece are.3 (omega arith) below (λ k d le lt. beyond (suc k) d (omega arith) (omega arith))

-- the place of its range
pub record IsAlone (words : ℕ) (ranges : List (ℕ × ℕ)) (place piece : ℕ) : Type 0 where
  pub inside : place < length ranges
  pub first : pieces_before words ranges place ≡ piece

pub in_run : (words : ℕ) (ranges : List (ℕ × ℕ)) (from piece place : ℕ) → 0 < words → AreRanges ranges → IsInRun words ranges from piece → from + piece ≡ pieces_before words ranges from + place → pieces_before words ranges from ≤ piece
    → IsAlone words ranges place piece
in_run words ranges from piece place some are run e low =
    let b = run.bound in let o = run.single.order in let s = run.single.same in let u = run.below in
    let n = place - from in let m = run.to - place in
    let p : from + n ≡ place = omega arith in
    let q : place + m ≡ run.to = omega arith in
    let g : pieces_before words ranges from + n ≤ pieces_before words ranges place = rw p at (grows words ranges from n some are (omega arith)) in
    let k : pieces_before words ranges place + m ≤ pieces_before words ranges run.to = rw q at (grows words ranges place m some are (omega arith)) in
    record { inside = omega arith; first = omega arith }

-- before the first listed range
pub found_first : (words : ℕ) (ranges : List (ℕ × ℕ)) (ls : List Long) (next piece : ℕ) → 0 < words → AreRanges ranges → AreListed words ranges 0 ls (length ranges) → piece < length (memory_pieces words ranges)
    → ((k : ℕ) (d : Long) → next ≤ k → k < length ls → piece < (get_or ls k d).first) → next ≡ 0 → IsAlone words ranges piece piece
found_first words ranges ls next piece some are listed below beyond e =
    let all = before_all words ranges in
    let none = before_none words ranges in
    let run = rw begin_first at (run_at words ranges 0 ls 0 piece listed (omega arith) (omega arith) (λ k d le lt. beyond k d (omega arith) lt)) in
    in_run words ranges 0 piece piece some are run (omega arith) (omega arith)

-- after the pieces of a listed range
pub found_after : (words : ℕ) (ranges : List (ℕ × ℕ)) (ls : List Long) (next piece place : ℕ) (d : Long) (r : ℕ × ℕ) → 0 < words → AreRanges ranges → AreListed words ranges 0 ls (length ranges) → piece < length (memory_pieces words ranges)
    → ((k : ℕ) (d : Long) → next ≤ k → k < length ls → piece < (get_or ls k d).first) → 0 < next → next ≤ length ls
    → (get_or ls (next - 1) d).first + length (range_pieces words (get_or ranges (get_or ls (next - 1) d).range r)) ≤ piece
    → place ≡ (get_or ls (next - 1) d).range + 1 + (piece - (get_or ls (next - 1) d).first - length (range_pieces words (get_or ranges (get_or ls (next - 1) d).range r)))
    → IsAlone words ranges place piece
found_after words ranges ls next piece place d r some are listed below beyond any bound past e =
    let all = before_all words ranges in
    let l = listed_at words ranges 0 ls (length ranges) (next - 1) d listed (omega arith) in
    let inside = l.0 in let first = l.1 in
    let more = before_more words ranges (get_or ls (next - 1) d).range r inside in
    let n : next - 1 + 1 ≡ next = omega arith in
    let from : begin 0 ls next ≡ (get_or ls (next - 1) d).range + 1 = rw n at (begin_next 0 ls (next - 1) d (omega arith)) in
    let run = rw from at (run_at words ranges 0 ls next piece listed bound (omega arith) beyond) in
    in_run words ranges ((get_or ls (next - 1) d).range + 1) piece place some are run (omega arith) (omega arith)

-- ---- all pieces

pub length_pieces_of : (words : ℕ) (p : Places) → length (pieces_of words p) ≡ cut_count words (length p.registers) + length (memory_pieces words p.memory)
unfolding pieces_of
length_pieces_of words p =
    let a = length-append (register_pieces words (length p.registers)) (memory_pieces words p.memory) in
    let b = length_register_pieces words (length p.registers) in omega arith

pub register_at : (words : ℕ) (p : Places) (place : ℕ) (d : Piece) → place < cut_count words (length p.registers) → get_or (pieces_of words p) place d ≡ get_or (register_pieces words (length p.registers)) place d
unfolding pieces_of
register_at words p place d h =
    let b = length_register_pieces words (length p.registers) in
    get_or_append_left (register_pieces words (length p.registers)) (memory_pieces words p.memory) d place (omega arith)

pub memory_at : (words : ℕ) (p : Places) (place : ℕ) (d : Piece) → cut_count words (length p.registers) ≤ place → get_or (pieces_of words p) place d ≡ get_or (memory_pieces words p.memory) (place - cut_count words (length p.registers)) d
unfolding pieces_of
memory_at words p place d h =
    get_or-append_right (register_pieces words (length p.registers)) (memory_pieces words p.memory) (cut_count words (length p.registers)) place d (length_register_pieces words (length p.registers)) h
