-- The pieces by their numbers are a cut.
use Rattle.std.proofs.Common.{◌≡◌, ℕ, zero, suc, ◌+◌, ◌*◌, ◌<◌, ◌≤◌, min, List, [], ◌∷◌, ◌++◌, length, get_or, take, map, flat_map, refl, sym, ap, ◌∙◌, append-nil, append_assoc, arith}
use Rattle.std.specs.List.{range_with_len}
use Rattle.std.proofs.lemmas.Grind.{flat_map-append}
use Rattle.std.proofs.lemmas.List.{take_more, take_all}
use Rattle.std.proofs.lemmas.List.FromFn.{map-range_with_len_more}
use Rattle.leak_lemmas.proofs.Members.{each_append}
use Rattle.leak_roots.specs.declared.piece.Piece.{Piece}
use Rattle.leak_roots.specs.declared.piece.Piece.TheVariants.{Registers, Memory}
use Rattle.leak_roots.specs.Places.{Places, IsRange, AreRanges}
use Rattle.leak_roots.specs.Pieces.{Place, IsCutPiece, AreCut, places_of}
use Rattle.leak_roots.specs.Cut.{cut_count, register_piece, register_pieces, words_in, range_piece, range_pieces, memory_pieces, pieces_of}
use Rattle.leak_roots.proofs.Cutting.{AreRegistersCut, registers_first, registers_more, AreMemoryCut, memory_first, memory_more, memory_all, AreFirstCut, first_none, first_more, first_all, range_is}
use Rattle.leak_roots.proofs.Numbered.{cut_low, cut_high}

-- ---- registers

first_registers : (words count c : ℕ) → 0 < words → c ≤ cut_count words count → AreRegistersCut count words [] (map (register_piece words count) (range_with_len 0 c)) (min count (words * c))
first_registers words count zero some h = let e : min count (words * zero) ≡ 0 = omega arith in rw e (registers_first count words [])
first_registers words count (suc c) some h =
    let low = cut_low words count c some (omega arith) in
    let from : min count (words * c) ≡ words * c = omega arith in
    let to : min count (words * suc c) ≡ min count (words * c + words) = omega arith in
    let cut = rw from at (first_registers words count c some (omega arith)) in
    let e : suc c ≡ c + 1 = omega arith in
    let more : map (register_piece words count) (range_with_len 0 (suc c)) ≡ map (register_piece words count) (range_with_len 0 c) ++ Registers (words * c) (min count (words * c + words)) ∷ [] =
    ap (λ (n : ℕ). map (register_piece words count) (range_with_len 0 n)) e ∙ map-range_with_len_more (register_piece words count) 0 c c (omega arith) in
    rw to (registers_more count words [] (map (register_piece words count) (range_with_len 0 c)) (map (register_piece words count) (range_with_len 0 (suc c)))
    (words * c) (min count (words * c + words)) some low (omega arith) cut more)

all_registers : (words count : ℕ) → 0 < words → AreRegistersCut count words [] (register_pieces words count) count
all_registers words count some =
    let e : min count (words * cut_count words count) ≡ count = let h = cut_high words count some in omega arith in
    rw e at (first_registers words count (cut_count words count) some (omega arith))

-- ---- a range

first_words : (words : ℕ) (range : ℕ × ℕ) (c : ℕ) → 0 < words → IsRange range → c ≤ cut_count words (words_in range)
    → AreMemoryCut range words [] (map (range_piece words range) (range_with_len 0 c)) (range.0 + 8 * min (words_in range) (words * c))
first_words words range zero some is h = let e : range.0 + 8 * min (words_in range) (words * zero) ≡ range.0 = omega arith in rw e (memory_first range words [] is)
first_words words range (suc c) some is h =
    let n = words_in range in
    let s = is.some in let f = is.from_multiple in let t = is.to_multiple in
    let low = cut_low words n c some (omega arith) in
    let from : range.0 + 8 * min n (words * c) ≡ range.0 + 8 * (words * c) = omega arith in
    let to : range.0 + 8 * min n (words * suc c) ≡ range.0 + 8 * min n (words * c + words) = omega arith in
    let cut = rw from at (first_words words range c some is (omega arith)) in
    let e : suc c ≡ c + 1 = omega arith in
    let more : map (range_piece words range) (range_with_len 0 (suc c)) ≡ map (range_piece words range) (range_with_len 0 c) ++ Memory (range.0 + 8 * (words * c)) (range.0 + 8 * min n (words * c + words)) ∷ [] =
    ap (λ (n : ℕ). map (range_piece words range) (range_with_len 0 n)) e ∙ map-range_with_len_more (range_piece words range) 0 c c (omega arith) in
    rw to (memory_more range words [] (map (range_piece words range) (range_with_len 0 c)) (map (range_piece words range) (range_with_len 0 (suc c)))
    (range.0 + 8 * (words * c)) (range.0 + 8 * min n (words * c + words)) is some (omega arith) (omega arith) cut more)

all_words : (words : ℕ) (range : ℕ × ℕ) → 0 < words → IsRange range → AreMemoryCut range words [] (range_pieces words range) range.1
unfolding range_pieces
all_words words range some is =
    let n = words_in range in
    let s = is.some in let f = is.from_multiple in let t = is.to_multiple in
    let e : range.0 + 8 * min n (words * cut_count words n) ≡ range.1 = let h = cut_high words n some in omega arith in
    rw e at (first_words words range (cut_count words n) some is (omega arith))

-- ---- all ranges

first_ranges : (words : ℕ) (p : Places) (i : ℕ) → 0 < words → AreRanges p.memory → i ≤ length p.memory → AreFirstCut p words i (register_pieces words (length p.registers) ++ memory_pieces words (take i p.memory))
first_ranges words p zero some are h =
    let all = all_registers words (length p.registers) some in
    rw (append-nil (register_pieces words (length p.registers))) (first_none p words (register_pieces words (length p.registers)) all.places (all.each p refl tt))
first_ranges words p (suc i) some are h =
    let r = get_or p.memory i (0, 0) in
    let old = register_pieces words (length p.registers) ++ memory_pieces words (take i p.memory) in
    let first = first_ranges words p i some are (omega arith) in
    let all = all_words words r some (range_is p.memory i (0, 0) are (omega arith)) in
    let e : suc i ≡ i + 1 = omega arith in
    let more : memory_pieces words (take (i + 1) p.memory) ≡ memory_pieces words (take i p.memory) ++ range_pieces words r =
    ap (memory_pieces words) (take_more p.memory i (0, 0) (omega arith)) ∙ flat_map-append (range_pieces words) (take i p.memory) (r ∷ [])
    ∙ ap (λ (xs : List Piece). memory_pieces words (take i p.memory) ++ xs) (append-nil (range_pieces words r)) in
    let new : register_pieces words (length p.registers) ++ memory_pieces words (take (i + 1) p.memory) ≡ old ++ range_pieces words r =
    ap (λ (xs : List Piece). register_pieces words (length p.registers) ++ xs) more ∙ sym (append_assoc (register_pieces words (length p.registers)) (memory_pieces words (take i p.memory)) (range_pieces words r)) in
    rw (e, new) (first_more p words i old (old ++ range_pieces words r) (0, 0) (omega arith) first
    (flat_map-append places_of old (range_pieces words r) ∙ ap (λ (xs : List Place). flat_map places_of old ++ xs) (memory_all r words [] (range_pieces words r) r.1 (omega arith) all))
    (each_append (IsCutPiece p words) old (range_pieces words r) first.each (all.each p tt)))

pub pieces_cut : (words : ℕ) (p : Places) → 0 < words → AreRanges p.memory → AreCut p words (pieces_of words p)
unfolding pieces_of
pieces_cut words p some are =
    let all : memory_pieces words (take (length p.memory) p.memory) ≡ memory_pieces words p.memory = ap (memory_pieces words) (take_all (length p.memory) p.memory (omega arith)) in
    rw all at (first_all p words (length p.memory) (register_pieces words (length p.registers) ++ memory_pieces words (take (length p.memory) p.memory)) (omega arith) (first_ranges words p (length p.memory) some are (omega arith)))
