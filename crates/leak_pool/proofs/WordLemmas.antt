-- What ranges and pieces of the root words lead to.
use Rattle.std.proofs.Common.{◌≡◌, Bool, true, false, ℕ, zero, suc, ◌+◌, ◌-◌, ◌*◌, ◌/◌, ◌%◌, ◌<◌, ◌≤◌, List, [], ◌∷◌, ◌++◌, length, map, get_or, take, drop, Option, Some, None, IsSome, refl, sym, ap, ◌∙◌, subst, arith, add-one, drop-cons}
use Rattle.std.specs.List.{concat, cons_option, range_with_len, flat_map, filter_map, AllByRecursion}
use Rattle.std.proofs.lemmas.List.Elements.{filter_map-append}
use Rattle.std.proofs.lemmas.List.{take_all}
use Rattle.std.proofs.lemmas.Grind.{flat_map-append}
use Rattle.leak_lemmas.proofs.Ranges.{range-append}
use Rattle.leak_elf.specs.Words.{words_between}
use Rattle.leak_roots.specs.Places.{Places, addresses_in, memory_places, IsRange}
use Rattle.leak_roots.specs.Pieces.{Place, InRegisters, InMemory, places_of, IsPiece, AreCut}
use Rattle.leak_roots.specs.declared.piece.Piece.{Piece}
use Rattle.leak_roots.specs.declared.piece.Piece.TheVariants.{Registers, Memory}
use Rattle.leak_index.specs.Hits.{Index}
use Rattle.leak_scan.specs.Targets.{targets_of}
use Rattle.leak_scan.specs.RootWords.{targets_without_links, range_without_links}
use Rattle.leak_scan.proofs.RootRanges.{range_eighths, without_append, shifted}
use Rattle.leak_scan.proofs.Ahead.{targets_append, targets_none}
use Rattle.leak_pool.specs.Marking.{led_in_memory, led_by_roots}
use Rattle.leak_pool.specs.Scopes.{piece_targets}

-- ---- flat_map

pub flat_map-flat_map : {A B C : Type 0} (g : B → List C) (f : A → List B) (xs : List A) → flat_map g (flat_map f xs) ≡ flat_map (λ x. flat_map g (f x)) xs
flat_map-flat_map g f [] = refl
flat_map-flat_map g f (x ∷ xs) = flat_map-append g (f x) (flat_map f xs) ∙ ap (λ l. flat_map g (f x) ++ l) (flat_map-flat_map g f xs)

pub flat_map_same : {A B : Type 0} (f g : A → List B) (P : A → Type 0) (xs : List A) → ((x : A) → P x → f x ≡ g x) → AllByRecursion P xs → flat_map f xs ≡ flat_map g xs
flat_map_same f g P [] e all = refl
flat_map_same f g P (x ∷ xs) e all = ap (λ l. l ++ flat_map f xs) (e x all.0) ∙ ap (λ l. g x ++ l) (flat_map_same f g P xs e all.1)

pub concat-map : {A : Type 0} (f : A → List ℕ) (xs : List A) → concat (map f xs) ≡ flat_map f xs
concat-map f [] = refl
concat-map f (x ∷ xs) = ap (λ (l : List ℕ). f x ++ l) (concat-map f xs)

-- ---- what words lead to

pub targets-flat_map : {A : Type 0} (index : Index) (f : A → List ℕ) (xs : List A) → targets_of index (flat_map f xs) ≡ concat (map (λ x. targets_of index (f x)) xs)
targets-flat_map index f [] = targets_none index
targets-flat_map index f (x ∷ xs) = targets_append index (f x) (flat_map f xs) ∙ ap (λ l. targets_of index (f x) ++ l) (targets-flat_map index f xs)

-- ---- a range of multiples of 8

abbrev pub Aligned : (ℕ → Option ℕ) → Type 0
Aligned word_at = (addr : ℕ) → IsSome (word_at addr) → addr % 8 ≡ 0

no_word : (word_at : ℕ → Option ℕ) → Aligned word_at → (x : ℕ) → 0 < x % 8 → word_at x ≡ None
no_word word_at aligned x h = go (word_at x) refl
  where
    go : (o : Option ℕ) → word_at x ≡ o → o ≡ None
    go None e = refl
    go (Some v) e = absurd (let z : x % 8 ≡ 0 = aligned x (subst (λ (r : Option ℕ). IsSome r) (sym e) refl) in omega arith)

no_words : (word_at : ℕ → Option ℕ) → (a n : ℕ) → ((x : ℕ) → a ≤ x → x < a + n → word_at x ≡ None) → filter_map word_at (range_with_len a n) ≡ []
no_words word_at a zero none = refl
no_words word_at a (suc n) none = ap (λ (o : Option ℕ). cons_option o (filter_map word_at (range_with_len (a + 1) n))) (none a (omega arith) (omega arith)) ∙ no_words word_at (a + 1) n (λ x low high. none x (omega arith) (omega arith))

eighths : (word_at : ℕ → Option ℕ) → Aligned word_at → (k a : ℕ) → a % 8 ≡ 0 → filter_map word_at (range_with_len a (8 * k + 1)) ≡ filter_map word_at (map (λ i. a + 8 * i) (range_with_len 0 (k + 1)))
eighths word_at aligned zero a m = ap (λ (x : ℕ). filter_map word_at (x ∷ [])) (let r : a ≡ a + 8 * 0 = omega arith in r)
eighths word_at aligned (suc k) a m =
    ap (λ n. filter_map word_at (range_with_len a n)) (let r : 8 * suc k + 1 ≡ 1 + (7 + (8 * k + 1)) = omega arith in r)
    ∙ ap (λ l. filter_map word_at l) (range-append a 1 (7 + (8 * k + 1)) ∙ ap (λ l. (a ∷ []) ++ l) (range-append (a + 1) 7 (8 * k + 1)))
    ∙ filter_map-append word_at (a ∷ []) (range_with_len (a + 1) 7 ++ range_with_len (a + 1 + 7) (8 * k + 1))
    ∙ ap (λ l. filter_map word_at (a ∷ []) ++ l) (filter_map-append word_at (range_with_len (a + 1) 7) (range_with_len (a + 1 + 7) (8 * k + 1))
    ∙ ap (λ l. l ++ filter_map word_at (range_with_len (a + 1 + 7) (8 * k + 1))) (no_words word_at (a + 1) 7 (λ x low high. no_word word_at aligned x (omega arith)))
    ∙ ap (λ n. filter_map word_at (range_with_len n (8 * k + 1))) (let r : a + 1 + 7 ≡ a + 8 = omega arith in r)
    ∙ eighths word_at aligned k (a + 8) (omega arith)
    ∙ ap (λ l. filter_map word_at l) (sym (shifted a 0 (k + 1))))
    ∙ sym (filter_map-append word_at (a ∷ []) (map (λ i. a + 8 * i) (range_with_len 1 (k + 1))))
    ∙ ap (λ (x : ℕ). filter_map word_at (x ∷ map (λ i. a + 8 * i) (range_with_len 1 (k + 1)))) (let r : a ≡ a + 8 * 0 = omega arith in r)
    ∙ ap (λ n. filter_map word_at (map (λ i. a + 8 * i) (range_with_len 0 n))) (let r : suc (k + 1) ≡ suc k + 1 = omega arith in r)

pub words_of_range : (word_at : ℕ → Option ℕ) → Aligned word_at → (from to : ℕ) → IsRange (from, to) → words_between word_at from to ≡ filter_map word_at (addresses_in (from, to))
unfolding words_between
words_of_range word_at aligned from to r =
    let s = r.some in let a = r.from_multiple in let b = r.to_multiple in
    let k : ℕ = (to - from) / 8 - 1 in
    ap (λ n. filter_map word_at (range_with_len from n)) (let e : to - 7 - from ≡ 8 * k + 1 = omega arith in e)
    ∙ eighths word_at aligned k from r.from_multiple
    ∙ ap (λ n. filter_map word_at (map (λ i. from + 8 * i) (range_with_len 0 n))) (let e : k + 1 ≡ (to - from) / 8 = omega arith in e)

-- ---- root words in memory

pub memory-nil : (skips_links : Bool) (word_at : ℕ → Option ℕ) (index : Index) → led_in_memory skips_links word_at index [] ≡ []
unfolding targets_without_links
memory-nil false word_at index = targets_none index
memory-nil true word_at index = refl

pub memory-append : (skips_links : Bool) (word_at : ℕ → Option ℕ) (index : Index) (xs ys : List ℕ)
    → led_in_memory skips_links word_at index (xs ++ ys) ≡ led_in_memory skips_links word_at index xs ++ led_in_memory skips_links word_at index ys
memory-append false word_at index xs ys = ap (λ (l : List ℕ). targets_of index l) (filter_map-append word_at xs ys) ∙ targets_append index (filter_map word_at xs) (filter_map word_at ys)
memory-append true word_at index xs ys = without_append word_at index xs ys

-- what a range leads to if links are left out, and if they are not
pub led_without : (skips_links : Bool) (word_at : ℕ → Option ℕ) (index : Index) → Aligned word_at → (from to : ℕ) → IsRange (from, to) → skips_links ≡ true
    → range_without_links word_at index from to ≡ led_in_memory skips_links word_at index (addresses_in (from, to))
led_without skips_links word_at index aligned from to r is =
    range_eighths word_at index aligned from to r.some r.from_multiple r.to_multiple
    ∙ ap (λ (s : Bool). led_in_memory s word_at index (addresses_in (from, to))) (sym is)

pub led_with : (skips_links : Bool) (word_at : ℕ → Option ℕ) (index : Index) → Aligned word_at → (from to : ℕ) → IsRange (from, to) → skips_links ≡ false
    → targets_of index (words_between word_at from to) ≡ led_in_memory skips_links word_at index (addresses_in (from, to))
led_with skips_links word_at index aligned from to r is =
    ap (λ (l : List ℕ). targets_of index l) (words_of_range word_at aligned from to r)
    ∙ ap (λ (s : Bool). led_in_memory s word_at index (addresses_in (from, to))) (sym is)

-- ---- pieces of the root words

-- what the word at a place leads to
led_at : (ℕ → Option ℕ) → Index → Places → Place → List ℕ
led_at word_at index p (InRegisters i) = targets_of index (take 1 (drop i p.registers))
led_at word_at index p (InMemory a) = led_in_memory p.skips_links word_at index (a ∷ [])

led_by_registers : (word_at : ℕ → Option ℕ) (index : Index) (p : Places) (n from : ℕ) → from + n ≤ length p.registers
    → flat_map (led_at word_at index p) (map InRegisters (range_with_len from n)) ≡ targets_of index (take n (drop from p.registers))
unfolding led_at
led_by_registers word_at index p zero from h = sym (targets_none index)
led_by_registers word_at index p (suc n) from h =
    let x : ℕ = get_or p.registers from 0 in
    let here : drop from p.registers ≡ x ∷ drop (suc from) p.registers = drop-cons p.registers from 0 (omega arith) in
    ap (λ (l : List ℕ). targets_of index (take 1 l) ++ flat_map (led_at word_at index p) (map InRegisters (range_with_len (from + 1) n))) here
    ∙ ap (λ (l : List ℕ). targets_of index (x ∷ []) ++ l)
    (led_by_registers word_at index p n (from + 1) (omega arith) ∙ ap (λ k. targets_of index (take n (drop k p.registers))) (add-one from))
    ∙ sym (targets_append index (x ∷ []) (take n (drop (suc from) p.registers)))
    ∙ ap (λ (l : List ℕ). targets_of index (take (suc n) l)) (sym here)

led_by_memory : (word_at : ℕ → Option ℕ) (index : Index) (p : Places) (xs : List ℕ) → flat_map (led_at word_at index p) (map InMemory xs) ≡ led_in_memory p.skips_links word_at index xs
unfolding led_at
led_by_memory word_at index p [] = sym (memory-nil p.skips_links word_at index)
led_by_memory word_at index p (x ∷ xs) =
    ap (λ (l : List ℕ). led_in_memory p.skips_links word_at index (x ∷ []) ++ l) (led_by_memory word_at index p xs)
    ∙ sym (memory-append p.skips_links word_at index (x ∷ []) xs)

led_by_piece : (word_at : ℕ → Option ℕ) (index : Index) (p : Places) (x : Piece) → IsPiece p x → flat_map (led_at word_at index p) (places_of x) ≡ piece_targets word_at index p x
led_by_piece word_at index p (Registers from to) h = led_by_registers word_at index p (to - from) from (let a = h.0 in let b = h.1 in omega arith)
led_by_piece word_at index p (Memory from to) h = led_by_memory word_at index p (addresses_in (from, to))

-- what the pieces lead to, one piece after the other, is what the root words lead to
pub led_by_pieces : (word_at : ℕ → Option ℕ) (index : Index) (p : Places) (n : ℕ) (pieces : List Piece) → AreCut p n pieces → concat (map (piece_targets word_at index p) pieces) ≡ led_by_roots word_at index p
led_by_pieces word_at index p n pieces cut =
    concat-map (piece_targets word_at index p) pieces
    ∙ sym (flat_map_same (λ x. flat_map (led_at word_at index p) (places_of x)) (piece_targets word_at index p) (IsPiece p) pieces (led_by_piece word_at index p) cut.each)
    ∙ sym (flat_map-flat_map (led_at word_at index p) places_of pieces)
    ∙ ap (λ l. flat_map (led_at word_at index p) l) cut.whole
    ∙ flat_map-append (led_at word_at index p) (map InRegisters (range_with_len 0 (length p.registers))) (map InMemory (memory_places p.memory))
    ∙ ap (λ (l : List ℕ). l ++ flat_map (led_at word_at index p) (map InMemory (memory_places p.memory)))
    (led_by_registers word_at index p (length p.registers) 0 (omega arith) ∙ ap (λ (l : List ℕ). targets_of index l) (take_all (length p.registers) p.registers (omega arith)))
    ∙ ap (λ (l : List ℕ). targets_of index p.registers ++ l) (led_by_memory word_at index p (memory_places p.memory))
