-- From pieces to words.
use Rattle.std.proofs.Common.{◌≡◌, ℕ, zero, suc, ◌+◌, ◌-◌, ◌<◌, ◌≤◌, List, [], ◌∷◌, ◌++◌, length, get_or, take, drop, map, flat_map, filter_map, Option, Some, refl, sym, ap, ◌∙◌, add-one, arith}
use Rattle.std.specs.Prelude.{slice_get}
use Rattle.std.specs.List.{AllByRecursion, range_with_len, cons_option}
use Rattle.std.proofs.Math.Seq.{drop-cons}
use Rattle.std.proofs.lemmas.Grind.{flat_map-append}
use Rattle.std.proofs.lemmas.List.{take_all}
use Rattle.std.proofs.lemmas.Option.{slice_get-get_or}
use Rattle.std.proofs.lemmas.List.Elements.{filter_map-append}
use Rattle.leak_elf.specs.Words.{word_of}
use Rattle.leak_blocks.specs.declared.block.Block.{Block}
use Rattle.leak_roots.specs.declared.piece.Piece.{Piece}
use Rattle.leak_roots.specs.declared.piece.Piece.TheVariants.{Registers, Memory}
use Rattle.leak_roots.specs.Places.{Places, addresses_in, memory_places, words_at}
use Rattle.leak_roots.specs.Pieces.{Place, AreCut, IsPiece, places_of, all_places, words_of}
use Rattle.leak_roots.specs.Pieces.Place.{InRegisters, InMemory}
use Rattle.leak_roots.specs.LeftOut.{LeftOut}
use Rattle.leak_roots.specs.Roots.{AreRootsOf, root_words}

-- the word at a place
value_at : (ℕ → Option ℕ) → List ℕ → Place → Option ℕ
value_at word_at registers (InRegisters i) = slice_get registers i
value_at word_at registers (InMemory a) = word_at a

values_of_registers : (word_at : ℕ → Option ℕ) (registers : List ℕ) (from n : ℕ) → from + n ≤ length registers → filter_map (value_at word_at registers) (map (λ i. InRegisters i) (range_with_len from n)) ≡ take n (drop from registers)
unfolding value_at
values_of_registers word_at registers from zero h = refl
values_of_registers word_at registers from (suc n) h =
    let there : from < length registers = omega arith in
    let here : slice_get registers from ≡ Some (get_or registers from 0) = slice_get-get_or registers from 0 (omega arith) in
    let rest = values_of_registers word_at registers (from + 1) n (omega arith) in
    let cut : drop from registers ≡ get_or registers from 0 ∷ drop (from + 1) registers = rw (add-one, drop-cons registers from 0) refl in
    rw (here, rest, cut) refl

values_of_memory : (word_at : ℕ → Option ℕ) (registers addrs : List ℕ) → filter_map (value_at word_at registers) (map (λ a. InMemory a) addrs) ≡ filter_map word_at addrs
unfolding value_at
values_of_memory word_at registers [] = refl
values_of_memory word_at registers (a ∷ addrs) = ap (cons_option (word_at a)) (values_of_memory word_at registers addrs)

values_of_piece : (word_at : ℕ → Option ℕ) (p : Places) (x : Piece) → IsPiece p x → filter_map (value_at word_at p.registers) (places_of x) ≡ words_of word_at p x
values_of_piece word_at p (Registers from to) h = values_of_registers word_at p.registers from (to - from) (let a = h.0 in let b = h.1 in omega arith)
values_of_piece word_at p (Memory from to) h = values_of_memory word_at p.registers (addresses_in (from, to))

values_of_pieces : (word_at : ℕ → Option ℕ) (p : Places) (xs : List Piece) → AllByRecursion (IsPiece p) xs → filter_map (value_at word_at p.registers) (flat_map places_of xs) ≡ flat_map (words_of word_at p) xs
values_of_pieces word_at p [] h = refl
values_of_pieces word_at p (x ∷ xs) h =
    filter_map-append (value_at word_at p.registers) (places_of x) (flat_map places_of xs)
    ∙ (rw (values_of_piece word_at p x h.0, values_of_pieces word_at p xs h.1) refl)

values_of_all : (word_at : ℕ → Option ℕ) (p : Places) → filter_map (value_at word_at p.registers) (all_places p) ≡ words_at word_at p
unfolding words_at
values_of_all word_at p =
    filter_map-append (value_at word_at p.registers) (map (λ i. InRegisters i) (range_with_len 0 (length p.registers))) (map (λ a. InMemory a) (memory_places p.memory))
    ∙ (rw (values_of_registers word_at p.registers 0 (length p.registers) (omega arith), values_of_memory word_at p.registers (memory_places p.memory)) (ap (λ (xs : List ℕ). xs ++ filter_map word_at (memory_places p.memory)) (take_all (length p.registers) p.registers (omega arith))))

-- the words of the pieces are those at all places
pub pieces_words : (word_at : ℕ → Option ℕ) (p : Places) (words : ℕ) (pieces : List Piece) → AreCut p words pieces → flat_map (words_of word_at p) pieces ≡ words_at word_at p
pieces_words word_at p words pieces cut =
    sym (values_of_pieces word_at p pieces cut.each) ∙ ap (filter_map (value_at word_at p.registers)) cut.whole ∙ values_of_all word_at p

made_of_pieces : (f : ℕ → List ℕ) (g : Piece → List ℕ) (xs : List Piece) → flat_map (λ x. flat_map f (g x)) xs ≡ flat_map f (flat_map g xs)
made_of_pieces f g [] = refl
made_of_pieces f g (x ∷ xs) = ap (λ (ys : List ℕ). flat_map f (g x) ++ ys) (made_of_pieces f g xs) ∙ sym (flat_map-append f (g x) (flat_map g xs))

-- what is made of each word
pub pieces_made : (f : ℕ → List ℕ) (word_at : ℕ → Option ℕ) (p : Places) (words : ℕ) (pieces : List Piece) → AreCut p words pieces → flat_map (λ piece. flat_map f (words_of word_at p piece)) pieces ≡ flat_map f (words_at word_at p)
pieces_made f word_at p words pieces cut = made_of_pieces f (words_of word_at p) pieces ∙ ap (flat_map f) (pieces_words word_at p words pieces cut)

pub places_words : (left : LeftOut) (file : List ℕ) (blocks : List Block) (p : Places) → AreRootsOf left file blocks p → words_at (word_of file) p ≡ root_words left file blocks
unfolding words_at root_words
places_words left file blocks p roots = rw (roots.registers, roots.memory) refl
