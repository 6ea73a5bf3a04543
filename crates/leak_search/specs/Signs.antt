-- The signs that a core and its log don't belong together, by the inputs of a search.
use Rattle.std.specs.Prelude.{◌≡◌, ℕ, Bool, not, List, [], ◌∷◌, length, count_by, Option, Some, None, if◌then◌else◌}
use Rattle.leak_elf.specs.Words.{word_of}
use Rattle.leak_mtrace.specs.declared.line.Line.{Line}
use Rattle.leak_mtrace.specs.Log.{IsLog, torn_of}
use Rattle.leak_blocks.specs.Live.{live_of, replay_of}
use Rattle.leak_chunks.specs.Fit.{fits_of}
use Rattle.leak_report.specs.declared.signs.Signs.{Signs}
use Rattle.leak_search.specs.declared.inputs.Input.{Input}

-- how many blocks are counted as misfits: if the heap is another than glibc's, none
abbrev pub misfits_counted : Bool → List Bool → ℕ
misfits_counted other_heap fits = if other_heap then 0 else count_by not fits

-- those of a core and a log that has these lines: its misfits are the live blocks that don't fit the core
abbrev pub signs_of : Bool → List ℕ → List ℕ → List Line → Signs
signs_of other_heap core log lines = record {
  live = length (live_of lines);
  torn = torn_of log;
  unknown = (replay_of lines).unknown;
  displaced = (replay_of lines).displaced;
  misfits = misfits_counted other_heap (fits_of (word_of core) (live_of lines));
}

-- the same for an input that was read
abbrev pub signs_with : Bool → Input → Signs
signs_with other_heap input = record {
  live = length input.live.blocks;
  torn = input.torn;
  unknown = input.live.unknown;
  displaced = input.live.displaced;
  misfits = misfits_counted other_heap (fits_of (word_of input.image) input.live.blocks);
}

-- for each live block of the lines, whether it fits the core, if a report is to tell the misfits
abbrev pub fits_told : Bool → List ℕ → List Line → Option (List Bool)
fits_told check core lines = if check then Some (fits_of (word_of core) (live_of lines)) else None

-- the same for an input that was read
abbrev pub fits_with : Bool → Input → Option (List Bool)
fits_with check input = if check then Some (fits_of (word_of input.image) input.live.blocks) else None

-- of cores and logs that take turns, the signs of each core and its log, in order
abbrev pub AreSigns : Bool → List (List ℕ) → List Signs → Type 0
AreSigns other_heap [] signs = signs ≡ []
AreSigns other_heap (core ∷ []) signs = ⊥
AreSigns other_heap (core ∷ log ∷ inputs) [] = ⊥
AreSigns other_heap (core ∷ log ∷ inputs) (s ∷ signs) =
    ((lines : List Line) × IsLog log lines × (s ≡ signs_of other_heap core log lines)) × AreSigns other_heap inputs signs
