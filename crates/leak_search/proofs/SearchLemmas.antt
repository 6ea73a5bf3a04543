-- From what was read and marked to what a search comes to.
use Rattle.std.proofs.Common.{◌≡◌, ℕ, ◌-◌, ◌≤◌, ◌<◌, ◌^◌, List, [], length, Bool, Option, Some, None, Result, Ok, Err, IfOk, refl, ap, subst, sym, arith, inr}
use Rattle.std.specs.Prelude.{if◌then◌else◌}
use Rattle.leak_elf.specs.Segments.{undumped_of}
use Rattle.leak_mtrace.specs.Log.{torn_of}
use Rattle.leak_report.specs.declared.head.Two.{Two}
use Rattle.std.specs.Result.{IsErrOf}
use Rattle.leak_elf.specs.Words.{word_of}
use Rattle.leak_mtrace.specs.declared.line.Line.{Line}
use Rattle.leak_blocks.specs.declared.block.Block.{Block}
use Rattle.leak_blocks.specs.Live.{live_of, replay_of}
use Rattle.leak_index.specs.Leads.{Distances}
use Rattle.leak_index.specs.Hits.{Index}
use Rattle.leak_notes.specs.Threads.{registers_of}
use Rattle.leak_roots.specs.Places.{Places}
use Rattle.leak_roots.specs.LeftOut.{LeftOut}
use Rattle.leak_roots.specs.Roots.{AreRootsOf, root_places}
use Rattle.leak_search.specs.LeftOut.{dead_told, freed_told, left_out}
use Rattle.leak_roots.specs.declared.skip.Skip.{Skip}
use Rattle.leak_pool.specs.declared.marked.Marked.{Marked}
use Rattle.leak_pool.specs.Marking.{graph_of, led_by_roots, led_from}
use Rattle.leak_search.specs.declared.error.FindError.{FindError}
use Rattle.leak_search.specs.declared.error.FindError.TheVariants.{TooMany, NoMemory}
use Rattle.leak_pool.specs.declared.error.PoolError.{PoolError}
use Rattle.leak_pool.specs.declared.error.PoolError.TheVariants.{TooMany as TooManyForPool, NoMemory as NoMemoryForPool}
use Rattle.leak_search.specs.declared.inputs.Input.{Input}
use Rattle.leak_search.specs.Inputs.{IsReadOf, IsRead, at_marking, IsFaultOfOne}
use Rattle.leak_search.specs.Report.{head_with}
use Rattle.leak_search.proofs.InputLemmas.{input_blocks}
use Rattle.leak_search.specs.Search.{graph_of_one, index_of}

-- too many blocks is a fault of an input that was read
pub too_many : (core log : List ℕ) (input : Input) → IsRead core log input → 2 ^ 32 - 1 < length input.live.blocks → IsFaultOfOne core log TooMany
too_many core log input read many =
    let e = input_blocks core log read.0 input read.1 in
    inr (refl, read.1.accepted, (read.0, read.1.is_log, subst (λ (bs : List Block). 2 ^ 32 ≤ length bs) e (omega (arith, many))))

-- what the words at the places found lead to is what the root words lead to
pub found_first : (core : List ℕ) (index : Index) (blocks : List Block) (left : LeftOut) (links : Bool) (places : Places) → AreRootsOf left core blocks places → places.skips_links ≡ links
    → led_by_roots (word_of core) index places ≡ led_from links (word_of core) index (registers_of core) (root_places left core blocks)
found_first core index blocks left links places roots same = rw (roots.registers, roots.memory, same) refl

-- the graph that was marked is that of the core and the lines
pub marked_graph : (core : List ℕ) (reading : Distances) (skip : Skip) (lines : List Line) (blocks : List Block) (index : Index) (places : Places)
    → blocks ≡ live_of lines → index ≡ record { blocks = blocks; reading = reading } → AreRootsOf (left_out skip core blocks lines) core blocks places → places.skips_links ≡ skip.links
    → graph_of (word_of core) index (led_by_roots (word_of core) index places) [] ≡ graph_of_one core reading skip lines
marked_graph core reading skip lines blocks index places are is roots links =
    rw (found_first core index blocks (left_out skip core blocks lines) skip.links places roots links, is, are) refl

-- the numbers of freed and of dead places are told if they are left out
pub freed_is : (skip : Skip) (core : List ℕ) (blocks : List Block) (lines : List Line) (places : Places) → AreRootsOf (left_out skip core blocks lines) core blocks places
    → (if skip.freed then Some places.freed else None) ≡ freed_told skip core blocks lines
freed_is skip core blocks lines places roots = ap (λ (n : ℕ). if skip.freed then Some n else None) roots.freed

pub dead_is : (skip : Skip) (core : List ℕ) (blocks : List Block) (lines : List Line) (places : Places) → AreRootsOf (left_out skip core blocks lines) core blocks places
    → (if skip.dead then Some places.dead else None) ≡ dead_told skip core blocks lines
dead_is skip core blocks lines places roots = ap (λ (n : ℕ). if skip.dead then Some n else None) roots.dead

-- the numbers of the first lines
pub head_is : (core log : List ℕ) (lines : List Line) (input : Input) (places : Places) (two : Option Two) → IsReadOf core log lines input → AreRootsOf (left_out input.skip core input.live.blocks lines) core input.live.blocks places
    → head_with input places two ≡ record { undumped = undumped_of core; unknown = (replay_of lines).unknown; displaced = (replay_of lines).displaced; torn = torn_of log; freed = freed_told input.skip core (live_of lines) lines; dead = dead_told input.skip core (live_of lines) lines; two = two }
head_is core log lines input places two read roots =
    let f = subst (λ (bs : List Block). (if input.skip.freed then Some places.freed else None) ≡ freed_told input.skip core bs lines) (input_blocks core log lines input read) (freed_is input.skip core input.live.blocks lines places roots) in
    let d = subst (λ (bs : List Block). (if input.skip.dead then Some places.dead else None) ≡ dead_told input.skip core bs lines) (input_blocks core log lines input read) (dead_is input.skip core input.live.blocks lines places roots) in
    rw (f, d, read.image, read.live, read.torn) refl

pub index_is : (reading : Distances) (lines : List Line) (blocks : List Block) (index : Index) → blocks ≡ live_of lines → index ≡ record { blocks = blocks; reading = reading } → index ≡ index_of reading lines
index_is reading lines blocks index are is = rw (is, are) refl

-- what holds of each value that a result may have
pub ok_by : {A E : Type 0} (T : A → Type 0) (r : Result A E) → ((x : A) → r ≡ Ok x → T x) → IfOk r T
ok_by T (Ok x) each = each x refl
ok_by T (Err e) each = tt

pub at_ok : {A E : Type 0} (P : A → Type 0) (r : Result A E) (x : A) → r ≡ Ok x → IfOk r P → P x
at_ok P r x is holds = subst (λ v. IfOk v P) is holds

-- if marking is refused, so is the search
pub marking_refused : (core log : List ℕ) (input : Input) (e : PoolError) (f : FindError) → IsRead core log input → f ≡ at_marking e
    → (e ≡ TooManyForPool → 2 ^ 32 - 1 < length input.live.blocks) → (f ≡ NoMemory → ⊥) → IsFaultOfOne core log f
marking_refused core log input TooManyForPool f read is many other =
    subst (λ (g : FindError). IsFaultOfOne core log g) (sym is) (too_many core log input read (many refl))
marking_refused core log input NoMemoryForPool f read is many other = absurd (other is)

pub no_error : (marked : Marked) → IsErrOf {T = Marked} {E = PoolError} (Ok marked) TooManyForPool → ⊥
no_error marked e = cc

-- marking that is not refused has blocks that can be numbered
pub few_blocks : (n : ℕ) → (2 ^ 32 - 1 < n → ⊥) → n < 2 ^ 32
few_blocks n not_many = omega (arith, not_many)
