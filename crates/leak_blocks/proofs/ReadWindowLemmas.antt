-- A replay that goes on over a window whose lines were read before, part by part.
use Rattle.std.proofs.Common.{◌≡◌, ◌∙◌, sym, refl, ap, subst, ℕ, ◌+◌, ◌^◌, ◌<◌, ◌≤◌, ◌==◌, Bool, true, false, List, [], ◌∷◌, ◌++◌, length, arith, append_assoc, append-nil, length-append, take, drop, get_or, if◌then◌else◌, ne_eqb}
use Rattle.std.proofs.lemmas.Bool.{eqb-false}
use Rattle.std.proofs.lemmas.List.{map-append, length-map, length-take-le, take-append-drop, take_at, take_more, drop_at, drop_more}
use Rattle.leak_lemmas.proofs.Members.{All-from_each}
use Rattle.leak_mtrace.specs.declared.line.Line.{Line}
use Rattle.leak_mtrace.specs.Log.{Whole, placed, whole_len_of, IsPastEnd, IsCallerIn}
use Rattle.leak_mtrace.specs.Parts.{AreLinesOf, moved}
use Rattle.leak_mtrace.proofs.PartLemmas.{callers_of, few_lines, fits_of, lines_join, no_lines, placed_fits, whole_len_joins}
use Rattle.leak_blocks.specs.declared.block.Block.{Block}
use Rattle.leak_blocks.specs.declared.ongoing_replay.OngoingReplay.{OngoingReplay}
use Rattle.leak_blocks.specs.declared.window.LogPlace.{LogPlace}
use Rattle.leak_blocks.specs.Live.{block_of, is_allocation}
use Rattle.leak_blocks.specs.Runs.{HasComeTo, IsOngoingAfter, IsStepOf}
use Rattle.leak_blocks.specs.Windows.{all_blocks, allocated_by, grown_by, AreReadInParts, GoesOn, GoesOver}
use Rattle.leak_blocks.proofs.WindowLemmas.{allocated_more}

-- ---- lines that are gone over

pub over_none : (n : ℕ) (before : OngoingReplay) → GoesOver n [] before before
over_none n before = record {
  replayed = λ earlier e o. subst (λ (ls : List Line). IsOngoingAfter ls before) (sym (append-nil earlier)) o;
  allocated = sym (append-nil before.allocated.items);
}

pub over_more : (n : ℕ) (xs : List Line) (y : Line) (number : ℕ) (before old new : OngoingReplay) → number ≡ n + length xs + 1 → GoesOver n xs before old → IsStepOf y number old new
    → all_blocks new ≡ grown_by number y (all_blocks old) → GoesOver n (xs ++ y ∷ []) before new
over_more n xs y number before old new is over step grown = record {
  replayed = λ earlier e o.
      let here : number ≡ length (earlier ++ xs) + 1 = omega (arith, is, e, length-append earlier xs) in
      subst (λ (ls : List Line). IsOngoingAfter ls new) (append_assoc earlier xs (y ∷ [])) (step (earlier ++ xs) here (over.replayed earlier e o));
  allocated = grown ∙ ap (grown_by number y) over.allocated ∙ allocated_more n xs y number before.allocated.items is;
}

pub over_comes : (n : ℕ) (xs : List Line) (number : ℕ) (before old : OngoingReplay) → number ≡ n + length xs + 1 → GoesOver n xs before old → HasComeTo (n + 1) before → HasComeTo number old
over_comes n xs number before old is over h =
    let e : n ≡ length h.0 = omega (arith, h.1) in
    let here : number ≡ length (h.0 ++ xs) + 1 = omega (arith, is, e, length-append h.0 xs) in
    (h.0 ++ xs, here, over.replayed h.0 e h.2)

allocated_both : (n m : ℕ) (xs ys : List Line) → m ≡ n + length xs → allocated_by n (xs ++ ys) ≡ allocated_by n xs ++ allocated_by m ys
allocated_both n m [] ys e = ap (λ (k : ℕ). allocated_by k ys) (let f : n ≡ m = omega (arith, e) in f)
allocated_both n m (x ∷ xs) ys e = go (is_allocation x) (allocated_both (n + 1) m xs ys (omega (arith, e)))
  where
    go : (t : Bool) → allocated_by (n + 1) (xs ++ ys) ≡ allocated_by (n + 1) xs ++ allocated_by m ys
        → (if t then block_of (n + 1) x ∷ allocated_by (n + 1) (xs ++ ys) else allocated_by (n + 1) (xs ++ ys)) ≡ (if t then block_of (n + 1) x ∷ allocated_by (n + 1) xs else allocated_by (n + 1) xs) ++ allocated_by m ys
    go true rest = ap (λ (l : List Block). block_of (n + 1) x ∷ l) rest
    go false rest = rest

over_both : (n m : ℕ) (xs ys : List Line) (before mid after : OngoingReplay) → m ≡ n + length xs → GoesOver n xs before mid → GoesOver m ys mid after → GoesOver n (xs ++ ys) before after
over_both n m xs ys before mid after is over next = record {
  replayed = λ earlier e o.
      let here : m ≡ length (earlier ++ xs) = omega (arith, is, e, length-append earlier xs) in
      subst (λ (ls : List Line). IsOngoingAfter ls after) (append_assoc earlier xs ys) (next.replayed (earlier ++ xs) here (over.replayed earlier e o));
  allocated =
      next.allocated
      ∙ ap (λ (bs : List Block). bs ++ allocated_by m ys) over.allocated
      ∙ append_assoc before.allocated.items (allocated_by n xs) (allocated_by m ys)
      ∙ ap (λ (bs : List Block). before.allocated.items ++ bs) (sym (allocated_both n m xs ys is));
}

-- ---- lines, moved twice

abbrev placed_if : ℕ → Bool → Line → Line
placed_if at none y = if none then y else record y { caller = (at + y.caller.0, at + y.caller.1) }

placed_twice : (n at : ℕ) (y : Line) → placed n (placed at y) ≡ placed (n + at) y
placed_twice n at y = go (y.caller.1 == 0) refl
  where
    go : (none : Bool) → (y.caller.1 == 0) ≡ none → placed n (placed_if at none y) ≡ placed_if (n + at) none y
    go true e = ap (λ (b : Bool). placed_if n b y) e
    go false e =
        let some : (at + y.caller.1 == 0) ≡ false = ne_eqb (at + y.caller.1) 0 (λ z. eqb-false y.caller.1 0 e (omega arith)) in
        let low : n + (at + y.caller.0) ≡ n + at + y.caller.0 = omega arith in
        let high : n + (at + y.caller.1) ≡ n + at + y.caller.1 = omega arith in
        ap (λ (b : Bool). placed_if n b (placed_if at false y)) some ∙ ap (λ (k : ℕ). record y { caller = (k, n + (at + y.caller.1)) }) low ∙ ap (λ (k : ℕ). record y { caller = (n + at + y.caller.0, k) }) high

moved_twice : (n at : ℕ) (ys : List Line) → moved n (moved at ys) ≡ moved (n + at) ys
moved_twice n at [] = refl
moved_twice n at (y ∷ ys) = ap (λ (z : Line). z ∷ moved n (moved at ys)) (placed_twice n at y) ∙ ap (λ (zs : List Line). placed (n + at) y ∷ zs) (moved_twice n at ys)

-- ---- a line

-- it is the lines' next
pub over_line : (from : LogPlace) (lines : List Line) (i : ℕ) (d y : Line) (number : ℕ) (before old new : OngoingReplay) → i < length lines → y ≡ placed from.bytes (get_or lines i d)
    → number ≡ from.lines + i → GoesOver from.lines (moved from.bytes (take i lines)) before old → IsStepOf y (number + 1) old new
    → all_blocks new ≡ grown_by (number + 1) y (all_blocks old) → GoesOver from.lines (moved from.bytes (take (i + 1) lines)) before new
over_line from lines i d y number before old new within is numbered over step grown =
    let xs : List Line = moved from.bytes (take i lines) in
    let long : length xs ≡ i = length-map (take i lines) (placed from.bytes) ∙ length-take-le i lines (omega arith) in
    let more : moved from.bytes (take (i + 1) lines) ≡ xs ++ y ∷ [] =
    ap (moved from.bytes) (take_more lines i d within) ∙ map-append (placed from.bytes) (take i lines) (get_or lines i d ∷ []) ∙ ap (λ (z : Line). xs ++ z ∷ []) (sym is) in
    subst (λ (ls : List Line). GoesOver from.lines ls before new) (sym more) (over_more from.lines xs y (number + 1) before old new (omega (arith, numbered, long)) over step grown)

-- its caller is in the part
pub caller_at : (bytes : List ℕ) (lines : List Line) (i : ℕ) (d : Line) → AreLinesOf bytes lines → i < length lines → IsCallerIn bytes (get_or lines i d)
caller_at bytes lines i d are within = All-from_each (IsCallerIn bytes) lines (callers_of bytes lines are.is_log) i d within

pub fits_at : (bytes : List ℕ) (lines : List Line) (i : ℕ) (d y : Line) (n : ℕ) → AreLinesOf bytes lines → i < length lines → y ≡ placed n (get_or lines i d) → IsPastEnd y → ⊥
fits_at bytes lines i d y n are within is =
    subst (λ (z : Line). IsPastEnd z → ⊥) (sym is) (placed_fits n (get_or lines i d) (All-from_each (λ (x : Line). IsPastEnd x → ⊥) lines (fits_of bytes lines are.is_log) i d within))

-- ---- parts of the window

-- the replay has gone over the parts so far, and these are left
pub record HasGoneOn (window : List ℕ) (left : List Whole) (from to : LogPlace) (before after : OngoingReplay) : Type 0 where
  pub len : ℕ
  pub lines : List Line
  pub within : len ≤ length window
  pub are : AreLinesOf (take len window) lines
  pub bytes : to.bytes ≡ from.bytes + len
  pub count : to.lines ≡ from.lines + length lines
  pub over : GoesOver from.lines (moved from.bytes lines) before after
  pub rest : AreReadInParts (drop len window) left

pub gone_none : (window : List ℕ) (parts : List Whole) (from : LogPlace) (before : OngoingReplay) → AreReadInParts window parts → HasGoneOn window parts from from before before
gone_none window parts from before read = record {
  len = 0;
  lines = [];
  within = omega arith;
  are = no_lines;
  bytes = omega arith;
  count = omega arith;
  over = over_none from.lines before;
  rest = read;
}

-- the next of them
pub gone_next : (window : List ℕ) (parts : List Whole) (i : ℕ) (x : Whole) (from at : LogPlace) (before mid : OngoingReplay) → i < length parts → x ≡ get_or parts i x → HasGoneOn window (drop i parts) from at before mid
    → HasGoneOn window (x ∷ drop (i + 1) parts) from at before mid
gone_next window parts i x from at before mid within is gone =
    subst (λ (ps : List Whole). HasGoneOn window ps from at before mid) (drop_more parts i x within ∙ ap (λ (y : Whole). y ∷ drop (i + 1) parts) (sym is)) gone

module _ (window : List ℕ) (x : Whole) (left : List Whole) (from at : LogPlace) (before mid : OngoingReplay) (gone : HasGoneOn window (x ∷ left) from at before mid) where
  abbrev front : List ℕ
  front = take gone.len window

  abbrev pub part : List ℕ
  part = gone.rest.0

  abbrev rest : List ℕ
  rest = gone.rest.1

  long : length front ≡ gone.len
  long = length-take-le gone.len window gone.within

  cut : window ≡ front ++ (part ++ rest)
  cut = sym (take-append-drop gone.len window) ∙ ap (λ (l : List ℕ). front ++ l) gone.rest.2

  cut_behind : window ≡ (front ++ part) ++ rest
  cut_behind = cut ∙ sym (append_assoc front part rest)

  size : length window ≡ gone.len + length part + length rest
  size = omega (arith, ap length cut, long, length-append front (part ++ rest), length-append part rest)

  both_long : gone.len + length part ≡ length (front ++ part)
  both_long = omega (arith, long, length-append front part)

  pub are_part : AreLinesOf part x.lines
  are_part = gone.rest.3.0

  pub part_fits : from.bytes + length window < 2 ^ 64 → at.bytes + length part < 2 ^ 64
  part_fits fits = omega (arith, fits, size, gone.bytes)

  pub part_long : x.whole_len ≡ length part
  part_long = gone.rest.3.1

  pub part_few : length x.lines ≤ length part
  part_few = few_lines part x.lines are_part.is_log

  pub few_so_far : from.lines ≤ from.bytes → at.lines ≤ at.bytes
  few_so_far few = omega (arith, few, gone.bytes, gone.count, long, few_lines front gone.lines gone.are.is_log)

  many : length (moved from.bytes gone.lines) ≡ length gone.lines
  many = length-map gone.lines (placed from.bytes)

  pub comes_so_far : HasComeTo (from.lines + 1) before → HasComeTo (at.lines + 1) mid
  comes_so_far h = over_comes from.lines (moved from.bytes gone.lines) (at.lines + 1) before mid (omega (arith, gone.count, many)) gone.over h

  pub gone_more : (to : LogPlace) (after : OngoingReplay) → to.bytes ≡ at.bytes + x.whole_len → to.lines ≡ at.lines + length x.lines → GoesOver at.lines (moved at.bytes x.lines) mid after → HasGoneOn window left from to before after
  gone_more to after bytes count next = record {
    len = gone.len + length part;
    lines = gone.lines ++ moved (length front) x.lines;
    within = omega (arith, size);
    are = subst (λ (l : List ℕ). AreLinesOf l (gone.lines ++ moved (length front) x.lines)) (sym front_is) (lines_join front part gone.lines x.lines gone.are are_part);
    bytes = omega (arith, bytes, gone.bytes, part_long);
    count = omega (arith, count, gone.count, length-append gone.lines (moved (length front) x.lines), length-map x.lines (placed (length front)));
    over = subst (λ (ls : List Line). GoesOver from.lines ls before after) (sym lines_are) (over_both from.lines at.lines (moved from.bytes gone.lines) (moved at.bytes x.lines) before mid after (omega (arith, gone.count, many)) gone.over next);
    rest = subst (λ (l : List ℕ). AreReadInParts l left) (sym rest_is) gone.rest.4;
  }
    where
      front_is : take (gone.len + length part) window ≡ front ++ part
      front_is = ap (take (gone.len + length part)) cut_behind ∙ take_at (front ++ part) rest (gone.len + length part) (sym both_long)

      rest_is : drop (gone.len + length part) window ≡ rest
      rest_is = ap (drop (gone.len + length part)) cut_behind ∙ drop_at (front ++ part) rest (gone.len + length part) (sym both_long)

      place : from.bytes + length front ≡ at.bytes
      place = omega (arith, long, gone.bytes)

      lines_are : moved from.bytes (gone.lines ++ moved (length front) x.lines) ≡ moved from.bytes gone.lines ++ moved at.bytes x.lines
      lines_are = map-append (placed from.bytes) gone.lines (moved (length front) x.lines)
          ∙ ap (λ (ls : List Line). moved from.bytes gone.lines ++ ls) (moved_twice from.bytes (length front) x.lines ∙ ap (λ (n : ℕ). moved n x.lines) place)

pub gone_all : (window : List ℕ) (from to : LogPlace) (before after : OngoingReplay) → HasGoneOn window [] from to before after → GoesOn window from to false before after
gone_all window from to before after gone = record {
  len = gone.len;
  lines = gone.lines;
  within = gone.within;
  are = gone.are;
  bytes = gone.bytes;
  count = gone.count;
  replayed = gone.over.replayed;
  allocated = gone.over.allocated;
  end = λ e.
      let front : List ℕ = take gone.len window in
      let long : length front ≡ gone.len = length-take-le gone.len window gone.within in
      let both : whole_len_of (front ++ drop gone.len window) ≡ length front + whole_len_of (drop gone.len window) = whole_len_joins front (drop gone.len window) gone.are.whole in
      omega (arith, sym (ap whole_len_of (take-append-drop gone.len window)), both, gone.rest, long);
  progress = λ e. absurd (let f : ⊥ = cc in f);
}
