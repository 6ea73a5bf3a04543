-- The root words that are found of a core.
use Rattle.std.proofs.Common.{◌≡◌, ℕ, Bool, false, not, List, length, filter, ap, ◌∙◌}
use Rattle.leak_notes.specs.Threads.{Registers, threads_of}
use Rattle.leak_blocks.specs.declared.block.Block.{Block}
use Rattle.leak_blocks.specs.declared.small.Span.{Span}
use Rattle.leak_roots.specs.Places.{Places, AreRanges, memory_places}
use Rattle.leak_roots.specs.LeftOut.{freed_left_out}
use Rattle.leak_roots.specs.Found.{AreRootsFound}
use Rattle.leak_roots.specs.Roots.{is_inside, outside_places}
use Rattle.leak_roots.proofs.RootPlaces.{none_dead, root_places_some, freed_places_some, root_places_same, freed_places_same}

-- from the ranges of all places outside blocks and spans, and the number of those inside spans
pub roots_found : (unwritable : Bool) (small : List Span) (file : List ℕ) (threads : Registers) (blocks : List Block) (p : Places) → p.registers ≡ threads.registers
    → memory_places p.memory ≡ filter (λ a. not (is_inside small a)) (outside_places unwritable file blocks) → AreRanges p.memory
    → p.freed ≡ length (filter (is_inside small) (outside_places unwritable file blocks)) → p.dead ≡ 0 → p.skips_links ≡ false
    → AreRootsFound unwritable small file threads blocks p
unfolding threads_of
roots_found unwritable small file threads blocks p of_threads places ranges' inside none kept =
    let left = freed_left_out unwritable small in
    let memory' = places ∙ root_places_some unwritable file blocks small in
    let freed' = inside ∙ ap length (freed_places_some unwritable file blocks small) in
    record {
      registers = of_threads;
      memory = memory';
      ranges = ranges';
      freed = freed';
      dead = none;
      links = kept;
      of_core = λ spans cover same. record {
        registers = of_threads ∙ ap (λ (t : Registers). t.registers) same;
        memory = memory' ∙ root_places_same left file blocks spans cover;
        ranges = ranges';
        freed = freed' ∙ ap length (freed_places_same left file blocks spans cover);
        dead = none ∙ none_dead (freed_left_out unwritable spans) file blocks;
      };
    }
