-- Root places, and what is left out of them: freed memory, slack, dead stack.
use Rattle.std.proofs.Common.{◌≡◌, ℕ, Bool, not, List, [], length, filter, refl, sym, ap, ◌∙◌}
use Rattle.leak_blocks.specs.declared.block.Block.{Block}
use Rattle.leak_blocks.specs.declared.small.Span.{Span}
use Rattle.leak_blocks.specs.Small.{CoverSame, CoverSameOutside}
use Rattle.leak_roots.specs.Places.{Places, AreRanges, memory_places}
use Rattle.leak_roots.specs.LeftOut.{LeftOut, freed_left_out}
use Rattle.leak_roots.specs.Roots.{AreRootsOf, is_inside, outside_places, freed_places, kept_places, dead_places, root_places}
use Rattle.leak_roots.proofs.LeftOut.{filter_alike, filter_outside, inside_same, inside_same_outside, none_counted, none_left_out}

-- ---- freed memory

pub root_places_same : (left : LeftOut) (file : List ℕ) (blocks : List Block) (others : List Span) → CoverSameOutside blocks left.freed others → root_places left file blocks ≡ root_places (record left { freed = others }) file blocks
unfolding root_places kept_places
root_places_same left file blocks others same = ap (λ (places : List ℕ). filter (λ a. not (is_inside left.dead a)) (filter (λ a. not (is_inside left.slack a)) places))
    (filter_outside (λ a. not (is_inside left.freed a)) (λ a. not (is_inside others a)) left.unwritable file blocks (λ a apart. ap not (inside_same_outside blocks left.freed others a same apart)))

pub freed_places_same : (left : LeftOut) (file : List ℕ) (blocks : List Block) (others : List Span) → CoverSameOutside blocks left.freed others → freed_places left file blocks ≡ freed_places (record left { freed = others }) file blocks
unfolding freed_places
freed_places_same left file blocks others same = filter_outside (is_inside left.freed) (is_inside others) left.unwritable file blocks (λ a apart. inside_same_outside blocks left.freed others a same apart)

pub root_places_some : (unwritable : Bool) (file : List ℕ) (blocks : List Block) (spans : List Span) → filter (λ a. not (is_inside spans a)) (outside_places unwritable file blocks) ≡ root_places (freed_left_out unwritable spans) file blocks
unfolding root_places kept_places
root_places_some unwritable file blocks spans =
    let unfreed = filter (λ a. not (is_inside spans a)) (outside_places unwritable file blocks) in
    none_left_out [] unfreed refl ∙ none_left_out [] (filter (λ a. not (is_inside [] a)) unfreed) refl

pub freed_places_some : (unwritable : Bool) (file : List ℕ) (blocks : List Block) (spans : List Span) → filter (is_inside spans) (outside_places unwritable file blocks) ≡ freed_places (freed_left_out unwritable spans) file blocks
unfolding freed_places
freed_places_some unwritable file blocks spans = refl

-- ---- slack

-- the root places without slack are those with it that are not inside the slack
slack_left_out : (left : LeftOut) (file : List ℕ) (blocks : List Block) (slack others : List Span) → CoverSame slack others
    → filter (λ a. not (is_inside slack a)) (root_places (record left { slack = []; dead = [] }) file blocks) ≡ root_places (record left { slack = others; dead = [] }) file blocks
unfolding root_places kept_places
slack_left_out left file blocks slack others same =
    let unfreed = filter (λ a. not (is_inside left.freed a)) (outside_places left.unwritable file blocks) in
    ap (filter (λ a. not (is_inside slack a))) (sym (none_left_out [] unfreed refl ∙ none_left_out [] (filter (λ a. not (is_inside [] a)) unfreed) refl))
    ∙ filter_alike (λ a. not (is_inside slack a)) (λ a. not (is_inside others a)) unfreed (λ a. ap not (inside_same slack others a same))
    ∙ none_left_out [] (filter (λ a. not (is_inside others a)) unfreed) refl

-- no place is dead if there is no dead stack
pub none_dead : (left : LeftOut) (file : List ℕ) (blocks : List Block) → 0 ≡ length (dead_places (record left { dead = [] }) file blocks)
unfolding dead_places
none_dead left file blocks = none_counted [] (kept_places (record left { dead = [] }) file blocks) refl

pub roots_without_slack : (left : LeftOut) (file : List ℕ) (blocks : List Block) (slack others : List Span) (all kept : Places) → CoverSame slack others
    → AreRootsOf (record left { slack = []; dead = [] }) file blocks all → kept.registers ≡ all.registers → memory_places kept.memory ≡ filter (λ a. not (is_inside slack a)) (memory_places all.memory)
    → AreRanges kept.memory → kept.freed ≡ all.freed → kept.dead ≡ all.dead → AreRootsOf (record left { slack = others; dead = [] }) file blocks kept
unfolding freed_places
roots_without_slack left file blocks slack others all kept same roots registers' memory' ranges' freed' dead' = record {
  registers = registers' ∙ roots.registers;
  memory = memory' ∙ ap (filter (λ a. not (is_inside slack a))) roots.memory ∙ slack_left_out left file blocks slack others same;
  ranges = ranges';
  freed = freed' ∙ roots.freed;
  dead = dead' ∙ roots.dead ∙ sym (none_dead (record left { slack = [] }) file blocks) ∙ none_dead (record left { slack = others }) file blocks;
}

-- ---- dead stack

-- the root places without dead stack are those with it that are not inside the dead stack, and the dead ones are the others
pub roots_without_dead : (left : LeftOut) (file : List ℕ) (blocks : List Block) (dead others : List Span) (all kept : Places) → CoverSame dead others
    → AreRootsOf (record left { dead = [] }) file blocks all → kept.registers ≡ all.registers → memory_places kept.memory ≡ filter (λ a. not (is_inside dead a)) (memory_places all.memory)
    → AreRanges kept.memory → kept.freed ≡ all.freed → kept.dead ≡ length (filter (is_inside dead) (memory_places all.memory)) → AreRootsOf (record left { dead = others }) file blocks kept
unfolding root_places dead_places freed_places kept_places
roots_without_dead left file blocks dead others all kept same roots registers' memory' ranges' freed' dead' =
    let places = kept_places left file blocks in
    let rest : memory_places all.memory ≡ places = roots.memory ∙ sym (none_left_out [] places refl) in
    record {
      registers = registers' ∙ roots.registers;
      memory = memory' ∙ ap (filter (λ a. not (is_inside dead a))) rest
          ∙ filter_alike (λ a. not (is_inside dead a)) (λ a. not (is_inside others a)) places (λ a. ap not (inside_same dead others a same));
      ranges = ranges';
      freed = freed' ∙ roots.freed;
      dead = dead' ∙ ap (λ (xs : List ℕ). length (filter (is_inside dead) xs)) rest
          ∙ ap length (filter_alike (is_inside dead) (is_inside others) places (λ a. inside_same dead others a same));
    }
