-- A line of the log, as the replay takes it.
use Rattle.std.proofs.Common.{◌≡◌, ℕ, ◌+◌, ◌≤◌, Bool, true, false, not, ◌&&◌, cond, refl, sym, ap, ◌∙◌, List, [], ◌∷◌, ◌++◌, length, filter, count_by, arith, ◌==◌, if◌then◌else◌}
use Rattle.std.specs.List.{list_any}
use Rattle.std.proofs.lemmas.List.Elements.{filter_agree}
use Rattle.std.proofs.lemmas.List.Sums.{length-filter, count_by-le-length}
use Rattle.leak_mtrace.specs.declared.line.Line.{Line}
use Rattle.leak_blocks.specs.declared.block.Block.{Block}
use Rattle.leak_blocks.specs.Live.{Replay, moments, block_of, live_of, replay_of, is_allocation, is_give_back, is_displaced, is_unknown, among}
use Rattle.leak_blocks.specs.Steps.{meets, ends_block, left_by, after_line, misses}
use Rattle.leak_blocks.specs.Numbers.{AreBlocksOf, IsNumberedAfter}
use Rattle.leak_blocks.proofs.GrowthLemmas.{ends_met, ends_given, ends_none, gives_nothing, allocates_nothing, live_grown, displaced_grown, unknown_grown, displaced_by, moments_many}
use Rattle.leak_blocks.proofs.ChangeLemmas.{elsewhere, unmet}

-- ---- what each kind of line leaves

left_unmet : (x : Line) → is_allocation x ≡ true → (bs : List Block) → left_by x bs ≡ unmet x bs
left_unmet x a bs = filter_agree (λ b. not (ends_block x b)) (λ b. not (meets x b)) (λ b. ap not (ends_met x b a)) bs

left_elsewhere : (x : Line) → is_give_back x ≡ true → (bs : List Block) → left_by x bs ≡ elsewhere x.addr bs
left_elsewhere x g bs = filter_agree (λ b. not (ends_block x b)) (λ b. not (x.addr == b.start)) (λ b. ap not (ends_given x b g)) bs

kept_all : (bs : List Block) → filter (λ b. true) bs ≡ bs
kept_all [] = refl
kept_all (b ∷ bs) = ap (λ (l : List Block). b ∷ l) (kept_all bs)

left_all : (x : Line) → is_allocation x ≡ false → is_give_back x ≡ false → (bs : List Block) → left_by x bs ≡ bs
left_all x a g bs = filter_agree (λ b. not (ends_block x b)) (λ b. true) (λ b. ap not (ends_none x b a g)) bs ∙ kept_all bs

counted_met : (x : Line) → is_allocation x ≡ true → (bs : List Block) → count_by (ends_block x) bs ≡ count_by (meets x) bs
counted_met x a bs = sym (length-filter (ends_block x) bs) ∙ ap length (filter_agree (ends_block x) (meets x) (λ b. ends_met x b a) bs) ∙ length-filter (meets x) bs

-- ---- the lines so far

pub replayed : (lines : List Line) → (replay_of lines).blocks ≡ live_of lines
unfolding replay_of
replayed lines = refl

unknown_of : (lines : List Line) → (replay_of lines).unknown ≡ count_by is_unknown (moments lines)
unfolding replay_of
unknown_of lines = refl

displaced_of : (lines : List Line) → (replay_of lines).displaced ≡ count_by is_displaced (moments lines)
unfolding replay_of
displaced_of lines = refl

-- the counts are at most the number of lines
pub unknown_fits : (lines : List Line) → (replay_of lines).unknown ≤ length lines
unknown_fits lines = omega (arith, unknown_of lines, count_by-le-length is_unknown (moments lines), moments_many [] lines)

pub displaced_fits : (lines : List Line) → (replay_of lines).displaced ≤ length lines
displaced_fits lines = omega (arith, displaced_of lines, count_by-le-length is_displaced (moments lines), moments_many [] lines)

-- ---- one line

abbrev pub one_if : Bool → ℕ
one_if t = cond t 1 0

module _ (lines : List Line) (x : Line) where
  -- the blocks before the line
  abbrev first : List Block
  first = live_of lines

  unknown_after : (replay_of (lines ++ x ∷ [])).unknown ≡ (replay_of lines).unknown + cond (misses x first) 1 0
  unknown_after = unknown_of (lines ++ x ∷ []) ∙ unknown_grown lines x ∙ ap {B = ℕ} (λ (n : ℕ). n + cond (misses x first) 1 0) (sym (unknown_of lines))

  displaced_after : (replay_of (lines ++ x ∷ [])).displaced ≡ (replay_of lines).displaced + displaced_by x first
  displaced_after = displaced_of (lines ++ x ∷ []) ∙ displaced_grown lines x ∙ ap (λ (n : ℕ). n + displaced_by x first) (sym (displaced_of lines))

  misses_not : is_give_back x ≡ false → one_if (misses x first) ≡ 0
  misses_not g = ap {B = ℕ} (λ (t : Bool). cond (t && not (list_any (λ b. b.start == x.addr) first)) 1 0) g

  displaces_not : is_allocation x ≡ false → displaced_by x first ≡ 0
  displaces_not a = ap {B = ℕ} (λ (t : Bool). if t then count_by (ends_block x) first else 0) a

  left_after_line : is_allocation x ≡ false → after_line (length lines + 1) x first ≡ left_by x first
  left_after_line a = ap (λ (t : Bool). if t then among (block_of (length lines + 1) x) (left_by x first) else left_by x first) a

  -- an allocation
  module _ (a : is_allocation x ≡ true) where
    pub blocks_allocated : live_of (lines ++ x ∷ []) ≡ among (block_of (length lines + 1) x) (unmet x first)
    blocks_allocated = live_grown lines x ∙ ap (λ (t : Bool). if t then among (block_of (length lines + 1) x) (left_by x first) else left_by x first) a
        ∙ ap (among (block_of (length lines + 1) x)) (left_unmet x a first)

    pub unknown_allocated : (replay_of (lines ++ x ∷ [])).unknown ≡ (replay_of lines).unknown
    unknown_allocated = omega (arith, unknown_after, misses_not (gives_nothing x a))

    pub displaced_allocated : (replay_of (lines ++ x ∷ [])).displaced ≡ (replay_of lines).displaced + count_by (meets x) first
    displaced_allocated = omega (arith, displaced_after, counted_met x a first, ap {B = ℕ} (λ (t : Bool). if t then count_by (ends_block x) first else 0) a)

  -- a give-back
  module _ (g : is_give_back x ≡ true) where
    pub blocks_given : live_of (lines ++ x ∷ []) ≡ elsewhere x.addr first
    blocks_given = live_grown lines x ∙ left_after_line (allocates_nothing x g) ∙ left_elsewhere x g first

    pub unknown_given : (replay_of (lines ++ x ∷ [])).unknown ≡ (replay_of lines).unknown + one_if (not (list_any (λ b. b.start == x.addr) first))
    unknown_given = omega (arith, unknown_after, ap {B = ℕ} (λ (t : Bool). cond (t && not (list_any (λ b. b.start == x.addr) first)) 1 0) g)

    pub displaced_given : (replay_of (lines ++ x ∷ [])).displaced ≡ (replay_of lines).displaced
    displaced_given = omega (arith, displaced_after, displaces_not (allocates_nothing x g))

  -- any other line
  module _ (a : is_allocation x ≡ false) (g : is_give_back x ≡ false) where
    pub blocks_other : live_of (lines ++ x ∷ []) ≡ first
    blocks_other = live_grown lines x ∙ left_after_line a ∙ left_all x a g first

    pub unknown_other : (replay_of (lines ++ x ∷ [])).unknown ≡ (replay_of lines).unknown
    unknown_other = omega (arith, unknown_after, misses_not g)

    pub displaced_other : (replay_of (lines ++ x ∷ [])).displaced ≡ (replay_of lines).displaced
    displaced_other = omega (arith, displaced_after, displaces_not a)

-- ---- before the first line

pub numbered_none : (allocated : List Block) (numbers : List ℕ) → allocated ≡ [] → numbers ≡ [] → IsNumberedAfter [] allocated numbers 0 0
unfolding replay_of live_of
numbered_none allocated numbers f e = record { blocks = record { numbered = []; stand = tt; listed = e }; missed = refl; ended = refl }

-- ---- after the last line

module _ (lines : List Line) (allocated : List Block) (numbers : List ℕ) (unknown displaced : ℕ) (after : IsNumberedAfter lines allocated numbers unknown displaced) where
  pub all_built : (built : List Block) → AreBlocksOf allocated numbers built → built ≡ live_of lines
  all_built built b = b (replay_of lines).blocks after.blocks ∙ replayed lines

  pub replay_is : (blocks : List Block) → blocks ≡ live_of lines → (let r : Replay = record { blocks = blocks; unknown = unknown; displaced = displaced } in r) ≡ replay_of lines
  unfolding replay_of
  replay_is blocks e =
      let u : unknown ≡ count_by is_unknown (moments lines) = after.missed in
      let d : displaced ≡ count_by is_displaced (moments lines) = after.ended in
      cc
