-- From an input that was read and marked to what its search comes to, and from there to its report.
use Rattle.std.proofs.Common.{◌≡◌, ℕ, ◌-◌, ◌<◌, ◌^◌, List, length, Bool, true, false, Option, Some, None, Ok, refl, ap, subst, sym, ◌∙◌, Vec, Global, IfSome, option_map}
use Rattle.std.proofs.lemmas.List.{length-map}
use Rattle.std.specs.Result.{IsErrOf}
use Rattle.leak_elf.specs.Words.{word_of}
use Rattle.leak_mtrace.specs.declared.line.Line.{Line}
use Rattle.leak_blocks.specs.declared.block.Block.{Block}
use Rattle.leak_blocks.specs.Live.{live_of}
use Rattle.leak_chunks.specs.Fit.{fits_core, fits_of}
use Rattle.leak_index.specs.Leads.{Distances}
use Rattle.leak_index.specs.Hits.{Index}
use Rattle.leak_roots.specs.Places.{Places}
use Rattle.leak_roots.specs.Roots.{AreRootsOf}
use Rattle.leak_roots.specs.declared.skip.Skip.{Skip}
use Rattle.leak_scan.specs.Heads.{heads_of}
use Rattle.leak_scan.proofs.Held.{length-heads_of}
use Rattle.leak_marks.specs.Reach.{Graph, Reach}
use Rattle.leak_marks.specs.Partition.{Partitions}
use Rattle.leak_pool.specs.declared.marked.Marked.{Marked}
use Rattle.leak_pool.specs.declared.error.PoolError.{PoolError}
use Rattle.leak_pool.specs.declared.error.PoolError.TheVariants.{TooMany as TooManyForPool}
use Rattle.leak_pool.specs.Marking.{IsSet, MarksFromRoots, lists_of}
use Rattle.leak_report.specs.declared.head.Head.{Head}
use Rattle.leak_report.specs.Report.{text_of}
use Rattle.leak_report.specs.Totals.{leaked_in}
use Rattle.leak_search.specs.declared.found.Found.{Found}
use Rattle.leak_search.specs.declared.found.Searched.{Searched}
use Rattle.leak_search.specs.declared.inputs.Input.{Input}
use Rattle.leak_search.specs.Inputs.{AreRootsFor, IsReadOf}
use Rattle.leak_search.specs.LeftOut.{left_out}
use Rattle.leak_search.specs.Report.{head_with}
use Rattle.leak_search.specs.Search.{FindsOne, graph_of_one, head_of_one, index_of}
use Rattle.leak_search.specs.Searched.{MarksOne, SearchesOne}
use Rattle.leak_search.specs.Signs.{fits_told, fits_with}
use Rattle.leak_search.proofs.InputLemmas.{fits_are, input_blocks}
use Rattle.leak_search.proofs.SearchLemmas.{few_blocks, head_is, index_is, marked_graph, no_error}

-- ---- to what a search comes to

-- which blocks fit, as it is handed on
pub fits_as : {fits told : Option (Vec Bool Global)} {known : Option (List Bool)} → fits ≡ told → option_map (λ (v : Vec Bool Global). v.items) told ≡ known
    → option_map (λ (v : Vec Bool Global). v.items) fits ≡ known
fits_as same is = ap (option_map (λ (v : Vec Bool Global). v.items)) same ∙ is

-- a search that read, found roots and marked
pub marks_one : (core log : List ℕ) (lines : List Line) (reading : Distances) (workers : ℕ) (input : Input) (index : Index) (places : Places) (marked : Marked) (searched : Searched)
    → IsReadOf core log lines input → length input.live.blocks < 2 ^ 32 → index ≡ record { blocks = input.live.blocks; reading = reading }
    → AreRootsOf (left_out input.skip core input.live.blocks lines) core input.live.blocks places → places.skips_links ≡ input.skip.links → MarksFromRoots (word_of core) index places workers marked
    → searched.head ≡ head_with input places None
    → searched.set ≡ marked.set → searched.heads.items ≡ heads_of (word_of core) index marked.set.items → searched.claims ≡ marked.claims
    → MarksOne core log lines reading input.skip workers searched
marks_one core log lines reading workers input index places marked searched read few is roots links marks head set heads claims =
    let e = input_blocks core log lines input read in
    let g = marked_graph core reading input.skip lines input.live.blocks index places e is roots links in
    let of_marked : IsSet marked.set.items (length (live_of lines)) (Reach (graph_of_one core reading input.skip lines)) =
    subst (λ (bs : List Block). IsSet marked.set.items (length bs) (Reach (graph_of_one core reading input.skip lines))) (ap (λ (i : Index). i.blocks) is ∙ e)
    (subst (λ (h : Graph). IsSet marked.set.items (length index.blocks) (Reach h)) g marks.set) in
    record {
      few = subst (λ (bs : List Block). length bs < 2 ^ 32) e few;
      head = head ∙ head_is core log lines input places None read roots;
      marked = rw (set) of_marked;
      heads = heads ∙ ap (λ (i : Index). heads_of (word_of core) i marked.set.items) (index_is reading lines input.live.blocks index e is)
          ∙ sym (ap (λ (v : Vec Bool Global). heads_of (word_of core) (index_of reading lines) v.items) set);
      lists = rw (claims) marks.lists;
      claims = rw (claims) (subst (λ (h : Graph). Partitions (lists_of marked) (Reach h)) g marks.claims);
    }

-- the same of an input as it was read
pub marks_read : (log : List ℕ) (lines : List Line) (reading : Distances) (skip : Skip) (workers : ℕ) (input : Input) (index : Index) (places : Places) (marked : Marked) (searched : Searched)
    → IsReadOf input.image log lines input → input.skip ≡ skip → (2 ^ 32 - 1 < length input.live.blocks → IsErrOf {T = Marked} {E = PoolError} (Ok marked) TooManyForPool)
    → index ≡ record { blocks = input.live.blocks; reading = reading }
    → AreRootsFor lines input places → MarksFromRoots (word_of input.image) index places workers marked
    → searched.head ≡ head_with input places None
    → searched.set ≡ marked.set → searched.heads.items ≡ heads_of (word_of input.image) index marked.set.items → searched.claims ≡ marked.claims
    → MarksOne input.image log lines reading skip workers searched
marks_read log lines reading skip workers input index places marked searched read skips many is roots marks head set heads claims =
    subst (λ (s : Skip). MarksOne input.image log lines reading s workers searched) skips
    (marks_one input.image log lines reading workers input index places marked searched read (few_blocks (length input.live.blocks) (λ h. no_error marked (many h))) is roots.roots roots.links marks head set heads claims)

-- with which blocks fit, of the core of which they were asked
pub searches_by : (core log : List ℕ) (lines : List Line) (reading : Distances) (skip : Skip) (check : Bool) (workers : ℕ) (input : Input) (fits : Option (Vec Bool Global)) (searched : Searched)
    → IsReadOf core log lines input → MarksOne core log lines reading skip workers searched → searched.fits ≡ fits
    → option_map (λ (v : Vec Bool Global). v.items) fits ≡ fits_with check input
    → SearchesOne core log lines reading skip check workers searched
searches_by core log lines reading skip check workers input fits searched read marks same told =
    record { marks = marks; fits = fits_as same told ∙ fits_are check core log lines input read }

-- ---- to the report

module _ (core log : List ℕ) (lines : List Line) (reading : Distances) (skip : Skip) (check : Bool) (workers : ℕ) (searched : Searched) (searches : SearchesOne core log lines reading skip check workers searched) (blocks : List Block) (same : length blocks ≡ length (live_of lines)) where
  -- there is an entry for each block
  pub set_each : length searched.set.items ≡ length blocks
  set_each = searches.marks.marked.len ∙ sym same

  pub heads_each : length searched.heads.items ≡ length blocks
  heads_each = ap length searches.marks.heads ∙ length-heads_of (word_of core) (index_of reading lines) searched.set.items ∙ sym same

  pub told_each : IfSome searched.fits (λ v. length v.items ≡ length blocks)
  told_each = go searched.fits check searches.fits
    where
      go : (fits : Option (Vec Bool Global)) (told : Bool) → option_map (λ (v : Vec Bool Global). v.items) fits ≡ fits_told told core lines → IfSome fits (λ v. length v.items ≡ length blocks)
      go None told is = tt
      go (Some v) false is = cc
      go (Some v) true is =
          let fitting : v.items ≡ fits_of (word_of core) (live_of lines) = cc in
          ap length fitting ∙ length-map (live_of lines) (fits_core (word_of core)) ∙ sym same

-- the report, by what was handed on
pub report_by : (searched : Searched) (blocks : List Block) (head : Head) (set heads : List Bool) (fits : Option (List Bool)) (log text : List ℕ)
    → searched.head ≡ head → searched.set.items ≡ set → searched.heads.items ≡ heads → option_map (λ (v : Vec Bool Global). v.items) searched.fits ≡ fits
    → text ≡ text_of searched.head blocks searched.set.items searched.heads.items (option_map (λ (v : Vec Bool Global). v.items) searched.fits) log
    → text ≡ text_of head blocks set heads fits log
report_by searched blocks head set heads fits log text head_is set_is heads_are fits_are made = made ∙ rw (head_is, set_is, heads_are, fits_are) refl

-- the report that was made of what a search comes to
pub finds_searched : (core log : List ℕ) (lines : List Line) (reading : Distances) (skip : Skip) (check : Bool) (workers : ℕ) (input : Input) (searched : Searched) (found : Found)
    → IsReadOf core log lines input → SearchesOne core log lines reading skip check workers searched
    → found.report.items ≡ text_of searched.head input.live.blocks searched.set.items searched.heads.items (option_map (λ (v : Vec Bool Global). v.items) searched.fits) log
    → found.leaked ≡ length (leaked_in searched.set.items input.live.blocks) → found.claims ≡ searched.claims
    → FindsOne core log reading skip check workers found
finds_searched core log lines reading skip check workers input searched found read searches report leaked claims =
    let e = input_blocks core log lines input read in
    record {
      accepted = read.accepted;
      lines = lines;
      is_log = read.is_log;
      few = searches.marks.few;
      set = searched.set.items;
      marked = searches.marks.marked;
      report = report_by searched input.live.blocks _ _ _ _ log found.report.items searches.marks.head refl searches.marks.heads searches.fits report
          ∙ ap (λ (bs : List Block). text_of (head_of_one core log skip lines) bs searched.set.items (heads_of (word_of core) (index_of reading lines) searched.set.items) (fits_told check core lines) log) e;
      leaked = leaked ∙ ap (λ (bs : List Block). length (leaked_in searched.set.items bs)) e;
      lists = rw (claims) searches.marks.lists;
      claims = rw (claims) searches.marks.claims;
    }
