-- What is known of an input that was read.
use Rattle.std.proofs.Common.{◌≡◌, ℕ, List, [], ◌∷◌, length, Bool, true, false, not, Option, Some, None, refl, ap, subst, sym, ◌∙◌, zero-add, arith, Vec, Global, IfSome, option_map}
use Rattle.std.specs.Prelude.{cond}
use Rattle.std.proofs.lemmas.List.{length-map}
use Rattle.std.proofs.lemmas.List.Sums.{sum_by-cons}
use Rattle.std.specs.List.{count_by}
use Rattle.leak_blocks.proofs.StepLemmas.{replayed as blocks_are}
use Rattle.leak_elf.specs.Words.{word_of}
use Rattle.leak_mtrace.specs.declared.line.Line.{Line}
use Rattle.leak_blocks.specs.declared.block.Block.{Block}
use Rattle.leak_blocks.specs.Live.{Replay, live_of}
use Rattle.leak_blocks.proofs.LineLemmas.{live_of_lines}
use Rattle.leak_notes.specs.Threads.{threads_of}
use Rattle.leak_chunks.specs.Fit.{fits_core, fits_of}
use Rattle.leak_roots.specs.Places.{Places}
use Rattle.leak_roots.specs.Roots.{AreRootsOf}
use Rattle.leak_search.specs.LeftOut.{left_out}
use Rattle.leak_report.specs.Totals.{HaveCallersIn, leaked_in}
use Rattle.leak_report.proofs.Callers.{have_callers}
use Rattle.leak_search.specs.declared.inputs.Input.{Input}
use Rattle.leak_search.specs.Inputs.{AreRootsFor, IsInput, IsReadOf, IsRead}
use Rattle.leak_search.specs.Signs.{fits_told, fits_with}

pub input_blocks : (core log : List ℕ) (lines : List Line) (input : Input) → IsReadOf core log lines input → input.live.blocks ≡ live_of lines
input_blocks core log lines input read = ap (λ (r : Replay). r.blocks) read.live ∙ blocks_are lines

pub input_callers : (core log : List ℕ) (input : Input) → IsRead core log input → HaveCallersIn log input.live.blocks
input_callers core log input read =
    subst (λ (bs : List Block). HaveCallersIn log bs) (sym (input_blocks core log read.0 input read.1))
    (have_callers live_of_lines log read.0 read.1.callers)

-- the input has the core of which it was read
pub own_core : (core log : List ℕ) (lines : List Line) (input : Input) → IsReadOf core log lines input → IsReadOf input.image log lines input
own_core core log lines input read = subst (λ (file : List ℕ). IsReadOf file log lines input) (sym read.image) read

-- an input that was read
abbrev pub as_input : (core log : List ℕ) (lines : List Line) (input : Input) → IsReadOf core log lines input → IsInput lines input
as_input core log lines input read = record { log = log; read = own_core core log lines input read }

-- the places found are those of the input's root words
pub roots_found : (lines : List Line) (input : Input) (found places : Places) → AreRootsOf (left_out input.skip input.image input.live.blocks lines) input.image input.live.blocks found
    → places ≡ record found { skips_links = input.skip.links } → AreRootsFor lines input places
roots_found lines input found places roots is = subst (λ (p : Places). AreRootsFor lines input p) (sym is) (record {
  roots = record { registers = roots.registers; memory = roots.memory; ranges = roots.ranges; freed = roots.freed; dead = roots.dead };
  links = refl;
})

-- the blocks outside a set, counted in the set
pub leaked_count : (set : List Bool) (blocks : List Block) → length set ≡ length blocks → length (leaked_in set blocks) ≡ count_by not set
leaked_count [] blocks same = refl
leaked_count (s ∷ set) [] same = absurd (omega arith)
leaked_count (true ∷ set) (b ∷ blocks) same =
    let rest = leaked_count set blocks (omega (arith, same)) in
    let one = sum_by-cons (λ (x : Bool). cond (not x) 1 0) true set in
    rw (one, rest) (sym (zero-add (count_by not set)))
leaked_count (false ∷ set) (b ∷ blocks) same =
    let rest = leaked_count set blocks (omega (arith, same)) in
    let one = sum_by-cons (λ (x : Bool). cond (not x) 1 0) false set in
    rw (one, ← rest) (omega arith)

-- the threads that were read are those of the core that was read
pub threads_read : (core log : List ℕ) (input : Input) → IsRead core log input → input.threads ≡ threads_of input.image
threads_read core log input read = read.1.threads ∙ ap threads_of (sym read.1.image)

-- which blocks of the input fit, as the report tells it
pub fits_are : (check : Bool) (core log : List ℕ) (lines : List Line) (input : Input) → IsReadOf core log lines input → fits_with check input ≡ fits_told check core lines
fits_are check core log lines input read = rw (read.image, input_blocks core log lines input read) refl

-- there is an entry for each block
pub fits_each : (fits : Option (Vec Bool Global)) (check : Bool) (input : Input) → option_map (λ (v : Vec Bool Global). v.items) fits ≡ fits_with check input
    → IfSome fits (λ v. length v.items ≡ length input.live.blocks)
fits_each None check input is = tt
fits_each (Some v) false input is = cc
fits_each (Some v) true input is =
    let same : v.items ≡ fits_of (word_of input.image) input.live.blocks = cc in
    ap length same ∙ length-map input.live.blocks (fits_core (word_of input.image))
