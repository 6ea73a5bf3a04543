-- Cutting root words into pieces, one piece after another.
use Rattle.std.proofs.Common.{◌≡◌, ℕ, zero, suc, zero-add, ◌+◌, ◌-◌, ◌*◌, ◌/◌, ◌%◌, ◌<◌, ◌≤◌, min, List, [], ◌∷◌, ◌++◌, length, get_or, take, map, flat_map, sym, ap, ◌∙◌, append-nil, append_assoc, arith}
use Rattle.std.specs.List.{AllByRecursion, range_with_len}
use Rattle.std.proofs.lemmas.Grind.{flat_map-append}
use Rattle.std.proofs.lemmas.List.{map-append, length-map, take_more, take_all}
use Rattle.std.proofs.lemmas.List.FromFn.{length-range_with_len}
use Rattle.leak_lemmas.proofs.Ranges.{range-append}
use Rattle.leak_lemmas.proofs.Members.{each_push}
use Rattle.leak_roots.specs.declared.piece.Piece.{Piece}
use Rattle.leak_roots.specs.declared.piece.Piece.TheVariants.{Registers, Memory}
use Rattle.leak_roots.specs.Places.{Places, IsRange, AreRanges, addresses_in, memory_places}
use Rattle.leak_roots.specs.Pieces.{Place, IsPiece, IsCutPiece, AreCut, places_of}
use Rattle.leak_roots.specs.Pieces.Place.{InRegisters, InMemory}
use Rattle.leak_roots.proofs.Addresses.{addresses_in-split}

length-registers : (from n : ℕ) → length (map InRegisters (range_with_len from n)) ≡ n
length-registers from n = length-map (range_with_len from n) (λ (i : ℕ). InRegisters i) ∙ length-range_with_len from n

length-memory : (from to : ℕ) → length (map InMemory (addresses_in (from, to))) ≡ (to - from) / 8
length-memory from to =
    length-map (addresses_in (from, to)) (λ (a : ℕ). InMemory a) ∙ length-map (range_with_len 0 ((to - from) / 8)) (λ (i : ℕ). from + 8 * i) ∙ length-range_with_len 0 ((to - from) / 8)

registers_piece : (p : Places) (words from to : ℕ) → from < to → to ≤ length p.registers → to ≤ from + words → IsCutPiece p words (Registers from to)
registers_piece p words from to some bound few =
    let n = length-registers from (to - from) in
    record { piece = (omega arith, bound); some = rw n (omega arith); few = rw n (omega arith) }

memory_piece : (p : Places) (words from to : ℕ) → from < to → from % 8 ≡ 0 → to % 8 ≡ 0 → to ≤ from + 8 * words → IsCutPiece p words (Memory from to)
memory_piece p words from to some f t few =
    let n = length-memory from to in
    record { piece = record { some = some; from_multiple = f; to_multiple = t }; some = rw n (omega arith); few = rw n (omega arith) }

places_push : (ps : List Piece) (x : Piece) → flat_map places_of (ps ++ x ∷ []) ≡ flat_map places_of ps ++ places_of x
places_push ps x = flat_map-append places_of ps (x ∷ []) ∙ ap (λ (xs : List Place). flat_map places_of ps ++ xs) (append-nil (places_of x))

-- the register words before a number were cut
pub record AreRegistersCut (registers words : ℕ) (old new : List Piece) (from : ℕ) : Type 0 where
  pub bound : from ≤ registers
  pub places : flat_map places_of new ≡ flat_map places_of old ++ map InRegisters (range_with_len 0 from)
  pub each : (p : Places) → length p.registers ≡ registers → AllByRecursion (IsCutPiece p words) old → AllByRecursion (IsCutPiece p words) new

pub registers_first : (registers words : ℕ) (old : List Piece) → AreRegistersCut registers words old old 0
registers_first registers words old = record { bound = omega arith; places = sym (append-nil (flat_map places_of old)); each = λ p e h. h }

registers_join : (from to : ℕ) → from ≤ to → map InRegisters (range_with_len 0 from) ++ map InRegisters (range_with_len from (to - from)) ≡ map InRegisters (range_with_len 0 to)
registers_join from to h =
    let sum : from + (to - from) ≡ to = omega arith in
    sym (map-append (λ (i : ℕ). InRegisters i) (range_with_len 0 from) (range_with_len from (to - from)))
    ∙ ap (map (λ (i : ℕ). InRegisters i)) (ap (λ (a : ℕ). range_with_len 0 from ++ range_with_len a (to - from)) (sym (zero-add from)) ∙ sym (range-append 0 from (to - from)) ∙ ap (λ (n : ℕ). range_with_len 0 n) sum)

pub registers_more : (registers words : ℕ) (old new more : List Piece) (from to : ℕ) → 0 < words → from < registers → to ≡ from + min words (registers - from) → AreRegistersCut registers words old new from → more ≡ new ++ Registers from to ∷ []
    → AreRegistersCut registers words old more to
registers_more registers words old new more from to some room is cut e = record {
  bound = omega arith;
  places = ap (flat_map places_of) e ∙ places_push new (Registers from to)
      ∙ (rw (cut.places, append_assoc (flat_map places_of old) (map InRegisters (range_with_len 0 from)) (map InRegisters (range_with_len from (to - from)))) (ap (λ (xs : List Place). flat_map places_of old ++ xs) (registers_join from to (omega arith))));
  each = λ p q h. rw e (each_push (IsCutPiece p words) new (Registers from to) (cut.each p q h) (registers_piece p words from to (omega arith) (omega arith) (omega arith)));
}

-- the words of a range before an address were cut
pub record AreMemoryCut (range : ℕ × ℕ) (words : ℕ) (old new : List Piece) (from : ℕ) : Type 0 where
  pub low : range.0 ≤ from
  pub high : from ≤ range.1
  pub multiple : from % 8 ≡ 0
  pub places : flat_map places_of new ≡ flat_map places_of old ++ map InMemory (addresses_in (range.0, from))
  pub each : (p : Places) → AllByRecursion (IsCutPiece p words) old → AllByRecursion (IsCutPiece p words) new

pub memory_first : (range : ℕ × ℕ) (words : ℕ) (old : List Piece) → IsRange range → AreMemoryCut range words old old range.0
memory_first range words old is = record {
  low = omega arith;
  high = let s = is.some in omega arith;
  multiple = is.from_multiple;
  places = let z : (range.0 - range.0) / 8 ≡ 0 = omega arith in rw z (sym (append-nil (flat_map places_of old)));
  each = λ p h. h;
}

memory_join : (a b c : ℕ) → a % 8 ≡ 0 → b % 8 ≡ 0 → c % 8 ≡ 0 → a ≤ b → b ≤ c → map InMemory (addresses_in (a, b)) ++ map InMemory (addresses_in (b, c)) ≡ map InMemory (addresses_in (a, c))
memory_join a b c p q r l m = sym (map-append (λ (a : ℕ). InMemory a) (addresses_in (a, b)) (addresses_in (b, c))) ∙ ap (map (λ (a : ℕ). InMemory a)) (sym (addresses_in-split a b c p q r l m))

pub memory_more : (range : ℕ × ℕ) (words : ℕ) (old new more : List Piece) (from to : ℕ) → IsRange range → 0 < words → from < range.1 → to ≡ from + 8 * min ((range.1 - from) / 8) words → AreMemoryCut range words old new from → more ≡ new ++ Memory from to ∷ []
    → AreMemoryCut range words old more to
memory_more range words old new more from to is_range some room is cut e =
    let f = cut.multiple in
    let s = is_range.from_multiple in
    let t = is_range.to_multiple in
    let l = cut.low in
    let multiple' : to % 8 ≡ 0 = omega arith in
    let above : from < to = omega arith in
    record {
      low = omega arith;
      high = omega arith;
      multiple = multiple';
      places = ap (flat_map places_of) e ∙ places_push new (Memory from to)
          ∙ (rw (cut.places, append_assoc (flat_map places_of old) (map InMemory (addresses_in (range.0, from))) (map InMemory (addresses_in (from, to)))) (ap (λ (xs : List Place). flat_map places_of old ++ xs) (memory_join range.0 from to s f multiple' l (omega arith))));
      each = λ p h. rw e (each_push (IsCutPiece p words) new (Memory from to) (cut.each p h) (memory_piece p words from to above f multiple' (omega arith)));
    }

pub memory_all : (range : ℕ × ℕ) (words : ℕ) (old new : List Piece) (from : ℕ) → range.1 ≤ from → AreMemoryCut range words old new from → flat_map places_of new ≡ flat_map places_of old ++ map InMemory (addresses_in range)
memory_all range words old new from end cut = let h = cut.high in let e : range.1 ≡ from = omega arith in cut.places ∙ ap (λ (b : ℕ). flat_map places_of old ++ map InMemory (addresses_in (range.0, b))) (sym e)

-- the registers and the first ranges were cut
pub record AreFirstCut (p : Places) (words i : ℕ) (pieces : List Piece) : Type 0 where
  pub places : flat_map places_of pieces ≡ map InRegisters (range_with_len 0 (length p.registers)) ++ map InMemory (memory_places (take i p.memory))
  pub each : AllByRecursion (IsCutPiece p words) pieces

pub range_is : (rs : List (ℕ × ℕ)) (i : ℕ) (d : ℕ × ℕ) → AreRanges rs → i < length rs → IsRange (get_or rs i d)
range_is [] i d h l = absurd (omega arith)
range_is (r ∷ rs) zero d h l = h.0
range_is (r ∷ rs) (suc i) d h l = range_is rs i d h.2 (omega arith)

pub first_none : (p : Places) (words : ℕ) (pieces : List Piece) → flat_map places_of pieces ≡ map InRegisters (range_with_len 0 (length p.registers)) → AllByRecursion (IsCutPiece p words) pieces → AreFirstCut p words 0 pieces
first_none p words pieces e each = record { places = e ∙ sym (append-nil _); each = each }

one_range : (r : ℕ × ℕ) → memory_places (r ∷ []) ≡ addresses_in r
one_range r = append-nil (addresses_in r)

pub first_more : (p : Places) (words i : ℕ) (pieces more : List Piece) (d : ℕ × ℕ) → i < length p.memory → AreFirstCut p words i pieces → flat_map places_of more ≡ flat_map places_of pieces ++ map InMemory (addresses_in (get_or p.memory i d)) → AllByRecursion (IsCutPiece p words) more
    → AreFirstCut p words (i + 1) more
first_more p words i pieces more d h cut e each =
    let r = get_or p.memory i d in
    let rs = take i p.memory in
    let next : memory_places (take (i + 1) p.memory) ≡ memory_places rs ++ addresses_in r =
    ap memory_places (take_more p.memory i d h) ∙ flat_map-append addresses_in rs (r ∷ []) ∙ ap (λ (xs : List ℕ). memory_places rs ++ xs) (one_range r) in
    let first = map InRegisters (range_with_len 0 (length p.registers)) in
    record {
      places = e ∙ ap (λ (xs : List Place). xs ++ map InMemory (addresses_in r)) cut.places ∙ append_assoc first (map InMemory (memory_places rs)) (map InMemory (addresses_in r))
          ∙ ap (λ (xs : List Place). first ++ xs) (sym (map-append (λ (a : ℕ). InMemory a) (memory_places rs) (addresses_in r)) ∙ ap (map (λ (a : ℕ). InMemory a)) (sym next));
      each = each;
    }

parts : (p : Places) (words : ℕ) (pieces : List Piece) → AllByRecursion (IsCutPiece p words) pieces → AllByRecursion (IsPiece p) pieces × AllByRecursion (λ x. 1 ≤ length (places_of x)) pieces × AllByRecursion (λ x. length (places_of x) ≤ words) pieces
parts p words [] h = (tt, tt, tt)
parts p words (x ∷ xs) h = let r = parts p words xs h.1 in let one = h.0 in ((one.piece, r.0), (one.some, r.1), (one.few, r.2))

pub first_all : (p : Places) (words i : ℕ) (pieces : List Piece) → length p.memory ≤ i → AreFirstCut p words i pieces → AreCut p words pieces
first_all p words i pieces h cut =
    let q = parts p words pieces cut.each in
    record {
      each = q.0;
      some = q.1;
      few = q.2;
      whole = cut.places ∙ ap (λ (rs : List (ℕ × ℕ)). map InRegisters (range_with_len 0 (length p.registers)) ++ map InMemory (memory_places rs)) (take_all i p.memory h);
    }

-- the same for the ranges as they are read
pub read_more : (p : Places) (words i : ℕ) (rs : List (ℕ × ℕ)) (pieces more : List Piece) (d : ℕ × ℕ) → rs ≡ p.memory → i < length rs → AreFirstCut p words i pieces → flat_map places_of more ≡ flat_map places_of pieces ++ map InMemory (addresses_in (get_or rs i d)) → AllByRecursion (IsCutPiece p words) more
    → AreFirstCut p words (i + 1) more
read_more p words i rs pieces more d e h cut places' each = first_more p words i pieces more d (rw e at h) cut (rw e at places') each

pub read_all : (p : Places) (words i : ℕ) (rs : List (ℕ × ℕ)) (pieces : List Piece) → rs ≡ p.memory → length rs ≤ i → AreFirstCut p words i pieces → AreCut p words pieces
read_all p words i rs pieces e h cut = first_all p words i pieces (rw e at h) cut
