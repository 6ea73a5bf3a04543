-- The search of the sample.
use Rattle.std.specs.Prelude.{◌≡◌, ℕ, List, [], ◌∷◌, Option, None, Some, codes, false, true}
use Rattle.leak_elf.specs.Sample.{sample_with}
use Rattle.leak_index.specs.Readings.{distances_of}
use Rattle.leak_roots.specs.Skipped.{usual_skip}
use Rattle.leak_request.specs.declared.options.Options.{Options}
use Rattle.leak_find.specs.declared.fault.RunFault.{RunFault}
use Rattle.leak_find.specs.declared.task.Task.TheVariants.{Search}
use Rattle.leak_find.specs.Run.{IsRunFault, Runs}
use Rattle.leak_find.specs.Streams.{Sink, by_bytes_left}
use Rattle.leak_program.specs.declared.failure.Failure.{Failure}
use Rattle.leak_program.specs.declared.failure.Failure.TheVariants.{BadArgument, Usage, Open, Read, Run, NoMemory}

-- the log of one allocation of 32 bytes
abbrev pub sample_log : List ℕ
sample_log = codes "@ ./a.out:[0x401136] + 0x10100 0x20\n"

-- the sample core, in which one word leads to the block, and its log
abbrev pub sample_inputs : List (Option (List ℕ))
sample_inputs = Some (sample_with ((0x10008, 0x10100) ∷ [])) ∷ Some sample_log ∷ []

-- the options of a search of the sample, which has no heap: one core, with an interior reading, and as without options
pub record AreOfSample (options : Options) : Type 0 where
  pub one : options.two ≡ false
  pub interior : distances_of options.reading ≡ record { listed = None; skips_ends = false }
  pub usual : options.skip ≡ usual_skip
  pub no_heap : options.other_heap ≡ true
  pub unchecked : options.check ≡ false
  pub lenient : options.strict ≡ false

-- the sample was searched, and the report was written
pub record SearchesSample {W V : Type 0} (sink : Sink W) (warner : Sink V) (held holds : W) (heard hears : V) (status : ℕ) : Type 0 where
  pub options : Options
  pub of_sample : AreOfSample options
  pub after : List (Option (List ℕ))
  pub runs : Runs by_bytes_left sink warner (Search options) sample_inputs after held holds heard hears status

-- the search of the sample has no status for this reason
pub record FailsSample {W : Type 0} (sink : Sink W) (held holds : W) (fault : RunFault) : Type 0 where
  pub options : Options
  pub of_sample : AreOfSample options
  pub after : List (Option (List ℕ))
  pub fails : IsRunFault by_bytes_left sink (Search options) sample_inputs after held holds fault

-- why the sample has no report: its search has none, or no memory is left for its core, and no call is made of the writer
abbrev pub IsSampleFailure : {W : Type 0} → Sink W → W → W → Failure → Type 0
IsSampleFailure sink held holds BadArgument = ⊥
IsSampleFailure sink held holds (Usage fault) = ⊥
IsSampleFailure sink held holds (Open path reason) = ⊥
IsSampleFailure sink held holds (Read n path f) = ⊥
IsSampleFailure sink held holds (Run fault) = FailsSample sink held holds fault
IsSampleFailure sink held holds NoMemory = holds ≡ held
