-- A replay that goes on over a window: one line more, and the texts of the live blocks' callers.
use Rattle.std.proofs.Common.{◌≡◌, ◌∙◌, sym, refl, ap, subst, ℕ, ◌+◌, ◌<◌, ◌≤◌, Bool, true, false, List, [], ◌∷◌, ◌++◌, length, map, slice_get, slice_index_or, Option, Some, if◌then◌else◌, arith, append_assoc, append-nil, length-append, take, get_or, IfSome}
use Rattle.std.specs.List.{AllByRecursion}
use Rattle.std.proofs.lemmas.List.{map-append, length-map, get_or-map, length-take-le}
use Rattle.std.proofs.lemmas.Option.{get_or_from_slice_get, slice_get_within, slice_get-get_or}
use Rattle.leak_mtrace.specs.declared.line.Line.{Line}
use Rattle.leak_mtrace.specs.declared.error.LogError.{LogError}
use Rattle.leak_mtrace.specs.declared.error.LogError.TheVariants.{BadLine, Extent, NoMemory}
use Rattle.leak_mtrace.specs.Log.{placed, whole_len_of, IsPastEnd, whole_lines, with_places, IsCallerIn, IsFaulty, IsFirstFault}
use Rattle.leak_mtrace.specs.Reading.{Reading, HasRead}
use Rattle.leak_mtrace.specs.Parts.{AreLinesOf, moved}
use Rattle.leak_mtrace.proofs.CallerLemmas.{callers_are_in}
use Rattle.leak_mtrace.proofs.CutLemmas.{joined, Cut, cut_of, lines_of_cut}
use Rattle.leak_mtrace.proofs.LogLemmas.{length_places}
use Rattle.leak_mtrace.proofs.PartLemmas.{placed_fits, lines_so_far}
use Rattle.leak_blocks.specs.declared.block.Block.{Block}
use Rattle.leak_blocks.specs.declared.ongoing_replay.OngoingReplay.{OngoingReplay}
use Rattle.leak_blocks.specs.declared.stage.Stage.{Stage}
use Rattle.leak_blocks.specs.declared.window.LogPlace.{LogPlace}
use Rattle.leak_blocks.specs.Live.{block_of, is_allocation, replay_of}
use Rattle.leak_blocks.specs.Numbers.{IsStageAfter, AreNumbersOf}
use Rattle.leak_blocks.specs.Runs.{IsOngoingAfter, HasComeTo, IsStepOf}
use Rattle.leak_blocks.specs.Windows.{all_blocks, all_blocks_of, live_numbers, allocated_by, grown_by, line_of_fault, GoesOn, IsNextMoved, HaveComeOn}
use Rattle.leak_blocks.proofs.GatherLemmas.{as_many}
use Rattle.leak_blocks.proofs.GrowthLemmas.{new_block}

-- ---- the blocks of all allocations, with one line more

pub grown_allocated : (number : ℕ) (x : Line) (blocks longer : List Block) → is_allocation x ≡ true → longer ≡ blocks ++ block_of number x ∷ [] → longer ≡ grown_by number x blocks
grown_allocated number x blocks longer a e = e ∙ sym (ap (λ (t : Bool). if t then blocks ++ block_of number x ∷ [] else blocks) a)

pub grown_kept : (number : ℕ) (x : Line) (blocks : List Block) → is_allocation x ≡ false → blocks ≡ grown_by number x blocks
grown_kept number x blocks a = sym (ap (λ (t : Bool). if t then blocks ++ block_of number x ∷ [] else blocks) a)

grown_new : (number : ℕ) (x : Line) (blocks : List Block) → grown_by number x blocks ≡ blocks ++ new_block number x
grown_new number x blocks = go (is_allocation x)
  where
    go : (t : Bool) → (if t then blocks ++ block_of number x ∷ [] else blocks) ≡ blocks ++ (if t then block_of number x ∷ [] else [])
    go true = refl
    go false = sym (append-nil blocks)

allocated_last : (n : ℕ) (lines : List Line) (x : Line) (number : ℕ) → number ≡ n + length lines + 1 → allocated_by n (lines ++ x ∷ []) ≡ allocated_by n lines ++ new_block number x
allocated_last n [] x number e = let f : n + 1 ≡ number = omega (arith, e) in ap (λ (k : ℕ). new_block k x) f
allocated_last n (y ∷ lines) x number e = go (is_allocation y) (allocated_last (n + 1) lines x number (omega (arith, e)))
  where
    go : (t : Bool) → allocated_by (n + 1) (lines ++ x ∷ []) ≡ allocated_by (n + 1) lines ++ new_block number x
        → (if t then block_of (n + 1) y ∷ allocated_by (n + 1) (lines ++ x ∷ []) else allocated_by (n + 1) (lines ++ x ∷ [])) ≡ (if t then block_of (n + 1) y ∷ allocated_by (n + 1) lines else allocated_by (n + 1) lines) ++ new_block number x
    go true rest = ap (λ (l : List Block). block_of (n + 1) y ∷ l) rest
    go false rest = rest

pub allocated_more : (n : ℕ) (lines : List Line) (x : Line) (number : ℕ) (before : List Block) → number ≡ n + length lines + 1 → grown_by number x (before ++ allocated_by n lines) ≡ before ++ allocated_by n (lines ++ x ∷ [])
allocated_more n lines x number before e =
    grown_new number x (before ++ allocated_by n lines)
    ∙ append_assoc before (allocated_by n lines) (new_block number x)
    ∙ ap (λ (l : List Block). before ++ l) (sym (allocated_last n lines x number e))

-- what each line has, the blocks of the allocations have
pub each_allocated : (P : Line → Type 0) (Q : Block → Type 0) → ((number : ℕ) (x : Line) → P x → Q (block_of number x)) → (n : ℕ) (lines : List Line) → AllByRecursion P lines → AllByRecursion Q (allocated_by n lines)
each_allocated P Q each n [] h = tt
each_allocated P Q each n (x ∷ lines) h = go (is_allocation x) (each_allocated P Q each (n + 1) lines h.1)
  where
    go : (t : Bool) → AllByRecursion Q (allocated_by (n + 1) lines) → AllByRecursion Q (if t then block_of (n + 1) x ∷ allocated_by (n + 1) lines else allocated_by (n + 1) lines)
    go true rest = (each (n + 1) x h.0, rest)
    go false rest = rest

-- ---- the next line of the window

last_of : (P : Line → Type 0) (lines : List Line) (x : Line) → AllByRecursion P (lines ++ x ∷ []) → P x
last_of P [] x h = h.0
last_of P (y ∷ lines) x h = last_of P lines x h.1

-- the caller of the line that was read last is in the window
pub caller_in : (reading : Reading) (lines : List Line) (x : Line) → HasRead reading (lines ++ x ∷ []) → IsCallerIn reading.bytes x
caller_in reading lines x h =
    let a : List ℕ = take reading.start reading.bytes in
    let i : IsCallerIn a x = last_of (IsCallerIn a) lines x (callers_are_in a (lines ++ x ∷ []) (lines_so_far reading (lines ++ x ∷ []) h).is_log) in
    record { order = i.order; within = omega (arith, i.within, length-take-le reading.start reading.bytes h.before.within, h.before.within) }

module _ (from : LogPlace) (before old : OngoingReplay) (reading later : Reading) (y : Line) (number : ℕ) (so_far : HaveComeOn reading from before old) (next : IsNextMoved from.bytes later so_far.lines (Some y))
    (numbered : number ≡ from.lines + later.count) where
  long : length (moved from.bytes so_far.lines) ≡ length so_far.lines
  long = length-map so_far.lines (placed from.bytes)

  number_is : number ≡ from.lines + length so_far.lines + 1
  number_is = omega (arith, numbered, next.2.counted, length-append so_far.lines (next.0 ∷ []))

  more_moved : moved from.bytes (so_far.lines ++ next.0 ∷ []) ≡ moved from.bytes so_far.lines ++ y ∷ []
  more_moved = map-append (placed from.bytes) so_far.lines (next.0 ∷ []) ∙ ap (λ (z : Line). moved from.bytes so_far.lines ++ z ∷ []) (sym next.1)

  number_behind : (earlier : List Line) → from.lines ≡ length earlier → number ≡ length (earlier ++ moved from.bytes so_far.lines) + 1
  number_behind earlier e = omega (arith, number_is, long, e, length-append earlier (moved from.bytes so_far.lines))

  pub next_fits : IsPastEnd y → ⊥
  next_fits = subst (λ (z : Line). IsPastEnd z → ⊥) (sym next.1) (placed_fits from.bytes next.0 (last_of (λ x. IsPastEnd x → ⊥) so_far.lines next.0 next.2.fit))

  pub next_comes : HasComeTo (from.lines + 1) before → HasComeTo number old
  next_comes h =
      let e : from.lines ≡ length h.0 = omega (arith, h.1) in
      (h.0 ++ moved from.bytes so_far.lines, number_behind h.0 e, so_far.replayed h.0 e h.2)

  pub come_on : (new : OngoingReplay) → IsStepOf y number old new → all_blocks new ≡ grown_by number y (all_blocks old) → HaveComeOn later from before new
  come_on new step grown = record {
    lines = so_far.lines ++ next.0 ∷ [];
    read = next.2;
    replayed = λ earlier e o.
        subst (λ (ls : List Line). IsOngoingAfter ls new) (append_assoc earlier (moved from.bytes so_far.lines) (y ∷ []) ∙ ap (λ (ls : List Line). earlier ++ ls) (sym more_moved))
        (step (earlier ++ moved from.bytes so_far.lines) (number_behind earlier e) (so_far.replayed earlier e o));
    allocated =
        grown
        ∙ ap (grown_by number y) so_far.allocated
        ∙ allocated_more from.lines (moved from.bytes so_far.lines) y number before.allocated.items (omega (arith, number_is, long))
        ∙ ap (λ (ls : List Line). before.allocated.items ++ allocated_by from.lines ls) (sym more_moved);
  }

-- before the window's first line
pub at_first : (from : LogPlace) (before : OngoingReplay) (reading : Reading) → HasRead reading [] → HaveComeOn reading from before before
at_first from before reading h = record {
  lines = [];
  read = h;
  replayed = λ earlier e o. subst (λ (ls : List Line). IsOngoingAfter ls before) (sym (append-nil earlier)) o;
  allocated = sym (append-nil before.allocated.items);
}

-- the reader has come to the place where the replay stops
pub gone_on : (window : List ℕ) (from to : LogPlace) (more : Bool) (before after : OngoingReplay) (reading : Reading) → reading.bytes ≡ window → HaveComeOn reading from before after → (more ≡ false → whole_len_of reading.bytes ≡ reading.start) →
    (more ≡ true → 0 < reading.count) → to.bytes ≡ from.bytes + reading.start → to.lines ≡ from.lines + reading.count → GoesOn window from to more before after
gone_on window from to more before after reading same h end later bytes lines = record {
  len = reading.start;
  lines = h.lines;
  within = subst (λ (l : List ℕ). reading.start ≤ length l) same h.read.before.within;
  are = subst (λ (l : List ℕ). AreLinesOf (take reading.start l) h.lines) same (lines_so_far reading h.lines h.read);
  bytes = bytes;
  count = lines ∙ ap (λ (n : ℕ). from.lines + n) h.read.counted;
  replayed = h.replayed;
  allocated = h.allocated;
  end = λ e. ap whole_len_of (sym same) ∙ end e;
  progress = λ e. omega (arith, later e, h.read.counted, h.read.before.few);
}

-- ---- the number of a fault

few_texts : (texts : List (List ℕ)) → length texts ≤ length (joined texts)
few_texts [] = omega arith
few_texts (text ∷ texts) = omega (arith, few_texts texts, length-append text (10 ∷ joined texts))

few_lines : (bytes : List ℕ) → length (whole_lines bytes) ≤ length bytes
few_lines bytes =
    let c : Cut bytes = cut_of bytes in
    let size : length bytes ≡ length (joined c.texts) + length c.torn = ap length c.whole ∙ length-append (joined c.texts) c.torn in
    omega (arith, ap length (lines_of_cut bytes c), few_texts c.texts)

faulty_number : (e : LogError) (number : ℕ) (t : ℕ × List ℕ) → IsFaulty e number t → line_of_fault e ≤ number
faulty_number (BadLine n) number t f = let same : n ≡ number = f.0 in omega arith
faulty_number (Extent n) number t f = let same : n ≡ number = f.0 in omega arith
faulty_number NoMemory number t f = omega arith

pub fault_number : (bytes : List ℕ) (e : LogError) → IsFirstFault bytes e → line_of_fault e ≤ length bytes
unfolding IsFirstFault
fault_number bytes e f =
    let all : List (ℕ × List ℕ) = with_places 0 (whole_lines bytes) in
    let k : ℕ = length f.0 in
    let t : ℕ × List ℕ = get_or all k (0, []) in
    let within : k < length all = omega (arith, f.3, length_places 0 (whole_lines bytes)) in
    let bad : IsFaulty e (k + 1) t = subst (λ (o : Option (ℕ × List ℕ)). IfSome o (IsFaulty e (k + 1))) (slice_get-get_or all k (0, []) within) f.2 in
    omega (arith, faulty_number e (k + 1) t bad, f.3, few_lines bytes)

-- ---- the live blocks' texts

-- there is a number for each live block
pub numbers_long : (lines : List Line) (stage : Stage) → IsStageAfter lines stage → length (live_numbers stage) ≡ length (replay_of lines).blocks
numbers_long lines stage after = as_many stage.allocated.items (replay_of lines).blocks stage.numbers.items after.blocks

given_at : (allocated : List Block) (n : ℕ) (b : Block) (f : Block → List ℕ) (given : List (List ℕ)) → given ≡ map f allocated → slice_get allocated n ≡ Some b → slice_index_or given n [] ≡ f b
given_at allocated n b f given e at =
    ap (λ (l : List (List ℕ)). slice_index_or l n []) e
    ∙ get_or-map f allocated n b [] (slice_get_within allocated n b at)
    ∙ ap f (get_or_from_slice_get allocated n b b at)

-- each live block's text is that of its allocation, if each allocation has one
pub picked : (lines : List Line) (stage : Stage) → IsStageAfter lines stage → (f : Block → List ℕ) (given : List (List ℕ)) → given ≡ map f (all_blocks_of stage) →
    map (λ n. slice_index_or given n []) (live_numbers stage) ≡ map f (replay_of lines).blocks
picked lines stage after f given e =
    ap (map (λ n. slice_index_or given n [])) after.blocks.listed ∙ go after.blocks.numbered (replay_of lines).blocks after.blocks.stand
  where
    go : (bs cs : List Block) → AreNumbersOf stage.allocated.items bs cs → map (λ n. slice_index_or given n []) (map (λ b. b.line) bs) ≡ map f cs
    go [] [] h = refl
    go [] (c ∷ cs) h = elim h [ ]
    go (b ∷ bs) [] h = elim h [ ]
    go (b ∷ bs) (c ∷ cs) h = ap (λ (t : List ℕ). t ∷ map (λ n. slice_index_or given n []) (map (λ d. d.line) bs)) (given_at stage.allocated.items b.line c f given e h.0.at) ∙ ap (λ (l : List (List ℕ)). f c ∷ l) (go bs cs h.1)
