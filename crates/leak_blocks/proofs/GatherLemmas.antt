-- The list of blocks that is gathered by their numbers.
use Rattle.std.proofs.Common.{◌≡◌, ◌<◌, ◌≤◌, ℕ, zero, suc, ◌+◌, ◌-◌, refl, sym, subst, ap, ◌∙◌, List, [], ◌∷◌, ◌++◌, length, map, take, drop, set, get_or, Some, slice_get, arith, append_assoc, append-nil, length-append}
use Rattle.std.proofs.lemmas.List.{take-append-drop, take-map, drop-map, length-take-le, length-drop, drop_more, get_or-drop, take_more_set, drop-set-lt, drop-drop}
use Rattle.std.proofs.lemmas.Option.{slice_get_within, get_or_from_slice_get}
use Rattle.leak_blocks.specs.declared.block.Block.{Block}
use Rattle.leak_blocks.specs.Numbers.{AreNumbersOf, AreNumbered, AreBehind, CountUp}
use Rattle.leak_blocks.proofs.BuildLemmas.{none_left}
use Rattle.leak_blocks.proofs.NumberedLemmas.{same_length}

-- the blocks that are gathered, and those whose numbers are left
pub record AreGathered (allocated blocks gathered : List Block) (numbers : List ℕ) : Type 0 where
  pub rest : List Block
  pub left : AreNumbered allocated numbers rest
  pub whole : blocks ≡ gathered ++ rest

pub gathered_at_first : (allocated blocks gathered : List Block) (numbers : List ℕ) → AreNumbered allocated numbers blocks → gathered ≡ [] → AreGathered allocated blocks gathered (drop 0 numbers)
gathered_at_first allocated blocks gathered numbers n e = record { rest = blocks; left = n; whole = ap (λ (l : List Block). l ++ blocks) (sym e) }

-- the block of the next number
pub record IsNextOf (allocated blocks gathered : List Block) (number : ℕ) (numbers : List ℕ) : Type 0 where
  pub block : Block
  pub at : slice_get allocated number ≡ Some block
  pub inside : number < length allocated
  pub later : AreGathered allocated blocks (gathered ++ block ∷ []) numbers

pub next_gathered : (allocated blocks gathered : List Block) (before : List ℕ) (number : ℕ) (numbers : List ℕ) → AreGathered allocated blocks gathered before → before ≡ number ∷ numbers → IsNextOf allocated blocks gathered number numbers
next_gathered allocated blocks gathered before number numbers g e = go g.left.numbered g.rest g.left.stand (sym e ∙ g.left.listed) g.whole
  where
    go : (bs cs : List Block) → AreNumbersOf allocated bs cs → number ∷ numbers ≡ map (λ b. b.line) bs → blocks ≡ gathered ++ cs → IsNextOf allocated blocks gathered number numbers
    go [] cs h l w = absurd cc
    go (b ∷ bs) [] h l w = elim h [ ]
    go (b ∷ bs) (c ∷ cs) h l w =
        let same : number ≡ b.line = cc in
        let others : numbers ≡ map (λ d. d.line) bs = cc in
        record {
          block = c;
          at = ap (slice_get allocated) same ∙ h.0.at;
          inside = slice_get_within allocated number c (ap (slice_get allocated) same ∙ h.0.at);
          later = record { rest = cs; left = record { numbered = bs; stand = h.1; listed = others }; whole = w ∙ sym (append_assoc gathered (c ∷ []) cs) };
        }

pub gathered_at_last : (allocated blocks gathered : List Block) (numbers : List ℕ) → AreGathered allocated blocks gathered numbers → numbers ≡ [] → gathered ≡ blocks
gathered_at_last allocated blocks gathered numbers g e = go g.left.numbered g.rest g.left.stand (sym e ∙ g.left.listed) g.whole
  where
    go : (bs cs : List Block) → AreNumbersOf allocated bs cs → [] ≡ map (λ b. b.line) bs → blocks ≡ gathered ++ cs → gathered ≡ blocks
    go [] [] h l w = sym (w ∙ append-nil gathered)
    go [] (c ∷ cs) h l w = elim h [ ]
    go (b ∷ bs) cs h l w = absurd cc

-- ---- in place

-- the first k blocks are gathered at the front of all, and those from there on are untouched
pub record AreForward (allocated now : List Block) (numbers : List ℕ) (k : ℕ) : Type 0 where
  pub front : (blocks : List Block) → AreNumbered allocated numbers blocks → AreGathered allocated blocks (take k now) (drop k numbers)
  pub rest : drop k now ≡ drop k allocated

-- the next place and the number there are those of blocks
pub record AreInside (allocated : List Block) (numbers : List ℕ) (k : ℕ) : Type 0 where
  pub place : k < length allocated
  pub number : get_or numbers k 0 < length allocated
  pub behind : k ≤ get_or numbers k 0

pub forward_inside : (allocated now : List Block) (numbers : List ℕ) (k : ℕ) → (blocks : List Block) × AreNumbered allocated numbers blocks → AreBehind numbers → AreForward allocated now numbers k → k < length numbers → AreInside allocated numbers k
forward_inside allocated now numbers k held all f h =
    let inside : get_or numbers k 0 < length allocated = (next_gathered allocated held.0 (take k now) (drop k numbers) _ _ (f.front held.0 held.1) (drop_more numbers k 0 h)).inside in
    let behind : k ≤ get_or numbers k 0 = all k h in
    record { place = omega arith; number = inside; behind = behind }

untouched : (allocated now : List Block) (k n : ℕ) (d : Block) → drop k now ≡ drop k allocated → k ≤ n → get_or now n d ≡ get_or allocated n d
untouched allocated now k n d rest h =
    let there : k + (n - k) ≡ n = omega arith in
    ap (λ (i : ℕ). get_or now i d) (sym there)
    ∙ sym (get_or-drop k now (n - k) d)
    ∙ ap (λ (l : List Block). get_or l (n - k) d) rest
    ∙ get_or-drop k allocated (n - k) d
    ∙ ap (λ (i : ℕ). get_or allocated i d) there

pub forward_next : (allocated now : List Block) (numbers : List ℕ) (k : ℕ) (d : Block) → AreForward allocated now numbers k → AreInside allocated numbers k → length now ≡ length allocated → k < length numbers → AreForward allocated (set now k (get_or now (get_or numbers k 0) d)) numbers (k + 1)
forward_next allocated now numbers k d f i long h = record {
  front = λ blocks of.
      let n : IsNextOf allocated blocks (take k now) (get_or numbers k 0) (drop (k + 1) numbers) =
      next_gathered allocated blocks (take k now) (drop k numbers) _ _ (f.front blocks of) (drop_more numbers k 0 h) in
      let same : get_or now (get_or numbers k 0) d ≡ n.block = untouched allocated now k (get_or numbers k 0) d f.rest i.behind ∙ get_or_from_slice_get allocated _ n.block _ n.at in
      let inside : k < length now = omega arith in
      subst (λ (l : List Block). AreGathered allocated blocks l (drop (k + 1) numbers)) (sym (take_more_set now k _ inside ∙ ap (λ (b : Block). take k now ++ b ∷ []) same)) n.later;
  rest = drop-set-lt (k + 1) now k _ (omega arith) ∙ sym (drop-drop 1 k now) ∙ ap (drop 1) f.rest ∙ drop-drop 1 k allocated;
}

pub forward_all : (allocated now blocks : List Block) (numbers : List ℕ) (k : ℕ) → AreForward allocated now numbers k → k ≡ length numbers → AreNumbered allocated numbers blocks → take (length numbers) now ≡ blocks
forward_all allocated now blocks numbers k f e of =
    ap (λ (n : ℕ). take n now) (sym e)
    ∙ gathered_at_last allocated blocks (take k now) (drop k numbers) (f.front blocks of) (ap (λ (n : ℕ). drop n numbers) e ∙ none_left numbers)

-- ---- all of them

get_after : (front : List Block) (c : Block) (rest : List Block) → slice_get (front ++ c ∷ rest) (length front) ≡ Some c
get_after [] c rest = refl
get_after (b ∷ front) c rest = get_after front c rest

long_after : (front : List Block) (c : Block) → length (front ++ c ∷ []) ≡ length front + 1
long_after front c = length-append front (c ∷ [])

-- numbers that count up from the first of the rest have just the rest
counted : (allocated front rest bs cs : List Block) → allocated ≡ front ++ rest → AreNumbersOf allocated bs cs → CountUp (length front) (map (λ b. b.line) bs) → length bs ≡ length rest → rest ≡ cs
counted allocated front [] [] [] w h k e = refl
counted allocated front rest [] (c ∷ cs) w h k e = elim h [ ]
counted allocated front (r ∷ rest) [] cs w h k e = absurd cc
counted allocated front [] (b ∷ bs) cs w h k e = absurd cc
counted allocated front rest (b ∷ bs) [] w h k e = elim h [ ]
counted allocated front (r ∷ rest) (b ∷ bs) (c ∷ cs) w h k e =
    let at : slice_get allocated (length front) ≡ Some c = ap (slice_get allocated) (sym k.0) ∙ h.0.at in
    let here : slice_get allocated (length front) ≡ Some r = ap (λ (l : List Block). slice_get l (length front)) w ∙ get_after front r rest in
    let same : r ≡ c = some_same (sym here ∙ at) in
    let others : rest ≡ cs = counted allocated (front ++ r ∷ []) rest bs cs (w ∙ sym (append_assoc front (r ∷ []) rest)) h.1 (subst (λ (n : ℕ). CountUp n (map (λ d. d.line) bs)) (sym (long_after front r)) k.1) cc in
    ap (λ (d : Block). d ∷ rest) same ∙ ap (λ (l : List Block). c ∷ l) others
  where
    some_same : Some r ≡ Some c → r ≡ c
    some_same s = cc

map_length : (bs : List Block) → length (map (λ b. b.line) bs) ≡ length bs
map_length [] = refl
map_length (b ∷ bs) = ap (λ (n : ℕ). suc n) (map_length bs)

-- ---- a part of them

-- the numbers up to one, and those from it on, have the blocks of that part
pub record AreHalves (allocated blocks : List Block) (numbers : List ℕ) (n : ℕ) : Type 0 where
  pub first : AreNumbered allocated (take n numbers) (take n blocks)
  pub rest : AreNumbered allocated (drop n numbers) (drop n blocks)

first_stand : (n : ℕ) (allocated bs cs : List Block) → AreNumbersOf allocated bs cs → AreNumbersOf allocated (take n bs) (take n cs)
first_stand zero allocated bs cs h = tt
first_stand (suc n) allocated [] [] h = tt
first_stand (suc n) allocated [] (c ∷ cs) h = elim h [ ]
first_stand (suc n) allocated (b ∷ bs) [] h = elim h [ ]
first_stand (suc n) allocated (b ∷ bs) (c ∷ cs) h = (h.0, first_stand n allocated bs cs h.1)

rest_stand : (n : ℕ) (allocated bs cs : List Block) → AreNumbersOf allocated bs cs → AreNumbersOf allocated (drop n bs) (drop n cs)
rest_stand zero allocated bs cs h = h
rest_stand (suc n) allocated [] [] h = tt
rest_stand (suc n) allocated [] (c ∷ cs) h = elim h [ ]
rest_stand (suc n) allocated (b ∷ bs) [] h = elim h [ ]
rest_stand (suc n) allocated (b ∷ bs) (c ∷ cs) h = rest_stand n allocated bs cs h.1

pub halves : (allocated blocks : List Block) (numbers : List ℕ) (n : ℕ) → AreNumbered allocated numbers blocks → AreHalves allocated blocks numbers n
halves allocated blocks numbers n a = record {
  first = record {
    numbered = take n a.numbered;
    stand = first_stand n allocated a.numbered blocks a.stand;
    listed = ap (take n) a.listed ∙ take-map (λ (b : Block). b.line) n a.numbered;
  };
  rest = record {
    numbered = drop n a.numbered;
    stand = rest_stand n allocated a.numbered blocks a.stand;
    listed = ap (drop n) a.listed ∙ drop-map (λ (b : Block). b.line) n a.numbered;
  };
}

pub as_many : (allocated blocks : List Block) (numbers : List ℕ) → AreNumbered allocated numbers blocks → length numbers ≡ length blocks
as_many allocated blocks numbers a = ap length a.listed ∙ map_length a.numbered ∙ same_length allocated a.numbered blocks a.stand

-- from a number on they count up, so the rest of the allocations is the rest of the blocks
rest_counted : (allocated blocks : List Block) (numbers : List ℕ) (n : ℕ) → AreNumbered allocated numbers blocks → n ≤ length numbers → CountUp n (drop n numbers) → length numbers ≡ length allocated → drop n allocated ≡ drop n blocks
rest_counted allocated blocks numbers n a within k e =
    let h : AreNumbered allocated (drop n numbers) (drop n blocks) = (halves allocated blocks numbers n a).rest in
    let front : length (take n allocated) ≡ n = length-take-le n allocated (subst (λ (m : ℕ). n ≤ m) e within) in
    counted allocated (take n allocated) (drop n allocated) h.numbered (drop n blocks) (sym (take-append-drop n allocated)) h.stand
    (subst (λ (m : ℕ). CountUp m (map (λ b. b.line) h.numbered)) (sym front) (subst (CountUp n) h.listed k))
    (sym (map_length h.numbered) ∙ sym (ap length h.listed) ∙ length-drop n numbers ∙ ap (λ (m : ℕ). m - n) e ∙ sym (length-drop n allocated))

-- as many were gathered as there are numbers
pub first_gathered : (allocated blocks first : List Block) (numbers : List ℕ) (n : ℕ) → AreNumbered allocated numbers blocks → n ≤ length numbers → first ≡ take n blocks → length first ≡ n
first_gathered allocated blocks first numbers n a within f = ap length f ∙ length-take-le n blocks (subst (λ (m : ℕ). n ≤ m) (as_many allocated blocks numbers a) within)

-- the first were gathered, and replace as many
pub all_gathered : (allocated blocks first : List Block) (numbers : List ℕ) (n : ℕ) → AreNumbered allocated numbers blocks → n ≤ length numbers → CountUp n (drop n numbers) → length numbers ≡ length allocated → first ≡ take n blocks → first ++ drop (length first) allocated ≡ blocks
all_gathered allocated blocks first numbers n a within k e f =
    let long : length first ≡ n = first_gathered allocated blocks first numbers n a within f in
    ap (λ (l : List Block). l ++ drop (length first) allocated) f
    ∙ ap (λ (m : ℕ). take n blocks ++ drop m allocated) long
    ∙ ap (λ (l : List Block). take n blocks ++ l) (rest_counted allocated blocks numbers n a within k e)
    ∙ take-append-drop n blocks
