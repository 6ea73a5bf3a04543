-- What is known of two inputs that were read, and what their refusals tell.
use Rattle.std.proofs.Common.{◌≡◌, ℕ, ◌≤◌, ◌<◌, ◌-◌, ◌^◌, ◌⊎◌, List, length, Bool, true, IsTrue, IsFalse, subst, sym, ◌∙◌, arith, inl, inr}
use Rattle.leak_mtrace.specs.declared.line.Line.{Line}
use Rattle.leak_mtrace.specs.Log.{is_continued_by}
use Rattle.leak_mtrace.proofs.SameLogLemmas.{logs_continue}
use Rattle.leak_blocks.specs.declared.block.Block.{Block}
use Rattle.leak_search.specs.declared.error.FindError.{FindError}
use Rattle.leak_search.specs.declared.error.FindError.TheVariants.{NotPrefix, TooMany}
use Rattle.leak_search.specs.declared.inputs.Input.{Input}
use Rattle.leak_search.specs.declared.pairs.Inputs.{Inputs}
use Rattle.leak_search.specs.Inputs.{IsReadOf, IsRead, IsInputFault, IsFaultless, IsFaultOfTwo, IsTooMany, ArePaired, AreReadTwo}
use Rattle.leak_search.proofs.InputLemmas.{as_input, input_blocks}

abbrev pub faultless : (core log : List ℕ) (lines : List Line) (input : Input) → IsReadOf core log lines input → IsFaultless core log
faultless core log lines input read = record { core_is = read.accepted; lines = lines; log_is = read.is_log }

-- the inputs, as they were read
abbrev pub paired : (core1 log1 core2 log2 : List ℕ) (inputs : Inputs) (read : AreReadTwo core1 log1 core2 log2 inputs) → ArePaired read.before read.now inputs
paired core1 log1 core2 log2 inputs read = record {
  first = as_input core1 log1 read.before inputs.first read.first;
  second = as_input core2 log2 read.now inputs.second read.second;
  continued = read.lines;
}

pub has_too_many : (core log : List ℕ) (input : Input) → IsRead core log input → 2 ^ 32 - 1 < length input.live.blocks → IsTooMany log
has_too_many core log input read many =
    (read.0, read.1.is_log, subst (λ (bs : List Block). 2 ^ 32 ≤ length bs) (input_blocks core log read.0 input read.1) (omega (arith, many)))

pub fault_of_first : (core1 log1 core2 log2 : List ℕ) (e : FindError) → IsInputFault 1 core1 log1 e → IsFaultOfTwo core1 log1 core2 log2 e
fault_of_first core1 log1 core2 log2 e fault = inl fault

pub fault_of_second : (core1 log1 core2 log2 : List ℕ) (first : Input) (e : FindError) → IsRead core1 log1 first → IsInputFault 2 core2 log2 e → IsFaultOfTwo core1 log1 core2 log2 e
fault_of_second core1 log1 core2 log2 first e read fault = inr (inl (faultless core1 log1 read.0 first read.1, fault))

pub no_prefix : (core1 log1 core2 log2 : List ℕ) (first second : Input) → IsRead core1 log1 first → IsRead core2 log2 second → IsFalse (is_continued_by log1 log2) → IsFaultOfTwo core1 log1 core2 log2 NotPrefix
no_prefix core1 log1 core2 log2 first second read1 read2 other = inr (inr (faultless core1 log1 read1.0 first read1.1, faultless core2 log2 read2.0 second read2.1, other))

pub too_many_of_two : (core1 log1 core2 log2 : List ℕ) (first second : Input) → IsRead core1 log1 first → IsRead core2 log2 second → IsTrue (is_continued_by log1 log2)
    → (2 ^ 32 - 1 < length first.live.blocks) ⊎ (2 ^ 32 - 1 < length second.live.blocks) → IsFaultOfTwo core1 log1 core2 log2 TooMany
too_many_of_two core1 log1 core2 log2 first second read1 read2 continued (inl many) =
    inr (inr (faultless core1 log1 read1.0 first read1.1, faultless core2 log2 read2.0 second read2.1, (continued, inl (has_too_many core1 log1 first read1 many))))
too_many_of_two core1 log1 core2 log2 first second read1 read2 continued (inr many) =
    inr (inr (faultless core1 log1 read1.0 first read1.1, faultless core2 log2 read2.0 second read2.1, (continued, inr (has_too_many core2 log2 second read2 many))))

pub are_read : (core1 log1 core2 log2 : List ℕ) (inputs : Inputs) → IsRead core1 log1 inputs.first → IsRead core2 log2 inputs.second → IsTrue (is_continued_by log1 log2)
    → length inputs.first.live.blocks < 2 ^ 32 → length inputs.second.live.blocks < 2 ^ 32 → AreReadTwo core1 log1 core2 log2 inputs
are_read core1 log1 core2 log2 inputs read1 read2 continued few1 few2 = record {
  before = read1.0;
  now = read2.0;
  first = read1.1;
  second = read2.1;
  few_before = few1;
  few_now = few2;
  continued = continued;
  lines = logs_continue log1 log2 read1.0 read2.0 continued read1.1.is_log read2.1.is_log;
}

-- a test that says so
pub is_true : (answer test : Bool) → answer ≡ test → answer ≡ true → IsTrue test
is_true answer test same says = sym same ∙ says
