-- From two inputs that were read, marked and compared to what a search of two cores comes to.
use Rattle.std.proofs.Common.{◌≡◌, ◌≢◌, ℕ, ◌<◌, ◌-◌, ◌^◌, ◌++◌, List, length, Bool, true, false, Result, Ok, Err, IfErr, IsTrue, IsFalse, Option, Some, slice_get, refl, ap, subst, sym, ◌∙◌, arith}
use Rattle.leak_elf.specs.Words.{word_of}
use Rattle.leak_mtrace.specs.declared.line.Line.{Line}
use Rattle.leak_mtrace.specs.Log.{is_continued_by}
use Rattle.leak_blocks.specs.declared.block.Block.{Block}
use Rattle.leak_blocks.specs.Live.{live_of}
use Rattle.leak_index.specs.Leads.{Distances}
use Rattle.leak_index.specs.Hits.{Index}
use Rattle.leak_scan.specs.Heads.{heads_of}
use Rattle.leak_roots.specs.Places.{Places}
use Rattle.leak_roots.specs.Roots.{AreRootsOf}
use Rattle.leak_search.specs.LeftOut.{left_out}
use Rattle.leak_roots.specs.declared.skip.Skip.{Skip}
use Rattle.leak_marks.specs.Lists.{Has}
use Rattle.leak_marks.specs.Reach.{Graph, Reach}
use Rattle.leak_marks.specs.Partition.{Partitions}
use Rattle.leak_marks.proofs.ListLemmas.{has_back}
use Rattle.leak_marks.proofs.ReachLemmas.{reach_within}
use Rattle.leak_pool.specs.declared.marked.Marked.{Marked}
use Rattle.leak_pool.specs.declared.error.PoolError.{PoolError}
use Rattle.leak_pool.specs.declared.error.PoolError.TheVariants.{TooMany as TooManyForPool, NoMemory as NoMemoryForPool}
use Rattle.leak_pool.specs.Marking.{IsSet, MarksFromRoots, graph_of, led_by_roots, lists_of}
use Rattle.leak_later.specs.declared.kept.Carry.{Carry}
use Rattle.leak_later.specs.declared.retracing.Retraced.{Retraced}
use Rattle.leak_later.specs.Differing.{AreDiffering, differs, reread_of}
use Rattle.leak_later.specs.Kept.{AbsentAreFresh, IsCarry, absent_of, kept_of}
use Rattle.leak_later.specs.Retrace.{IsRetrace, OthersLeadWithin, SameWordsLeadWithin, graph_of_two}
use Rattle.leak_report.specs.declared.head.Head.{Head}
use Rattle.leak_report.specs.Totals.{leaked_in}
use Rattle.leak_report.specs.Report.{text_of}
use Rattle.leak_search.specs.declared.error.FindError.{FindError}
use Rattle.leak_search.specs.declared.error.FindError.TheVariants.{NoMemory}
use Rattle.leak_search.specs.declared.found.Found.{Found}
use Rattle.leak_search.specs.declared.inputs.Input.{Input}
use Rattle.leak_search.specs.declared.two_cores.Between.{Between}
use Rattle.leak_search.specs.declared.pairs.Inputs.{Inputs}
use Rattle.leak_search.specs.Inputs.{AreRootsFor, IsReadOf, IsInput, at_marking, Continues, AreReadTwo}
use Rattle.leak_search.specs.Report.{head_with}
use Rattle.leak_search.specs.Search.{first_of, graph_of_one, index_of}
use Rattle.leak_search.specs.SearchTwo.{IsMarkedEarlier, IsBetweenCores, FindsLater, FindsTwo, graph_of_later, head_of_two, kept_blocks, new_blocks, numbers_of_two, size_of}
use Rattle.leak_search.specs.Signs.{fits_with}
use Rattle.leak_search.proofs.PairLemmas.{faultless, paired}
use Rattle.leak_search.proofs.InputLemmas.{fits_are, input_blocks}
use Rattle.leak_search.proofs.SearchLemmas.{found_first, head_is, index_is, marked_graph}

-- ---- refusals

-- marking of blocks that can be numbered is refused for want of memory alone
pub only_memory : (n : ℕ) (e : PoolError) (f : FindError) → f ≡ at_marking e → (e ≡ TooManyForPool → 2 ^ 32 - 1 < n) → n < 2 ^ 32 → f ≡ NoMemory
only_memory n TooManyForPool f is many few = absurd (let m = many refl in omega (arith, m, few))
only_memory n NoMemoryForPool f is many few = is

-- ---- the earlier core

pub marked_earlier : (reading : Distances) (workers : ℕ) (lines : List Line) (input : Input) (index : Index) (places : Places) (marked : Marked)
    → IsInput lines input → index ≡ record { blocks = input.live.blocks; reading = reading }
    → AreRootsFor lines input places → MarksFromRoots (word_of input.image) index places workers marked
    → IsMarkedEarlier input.image reading input.skip lines marked.set.items
marked_earlier reading workers lines input index places marked is_input is roots marks =
    let e = input_blocks input.image is_input.log lines input is_input.read in
    let g = marked_graph input.image reading input.skip lines input.live.blocks index places e is roots.roots roots.links in
    subst (λ (bs : List Block). IsSet marked.set.items (length bs) (Reach (graph_of_one input.image reading input.skip lines))) (ap (λ (i : Index). i.blocks) is ∙ e)
    (subst (λ (h : Graph). IsSet marked.set.items (length index.blocks) (Reach h)) g marks.set)

-- ---- between the cores

pub is_between : (reading : Distances) (skip : Skip) (before now : List Line) (first second : Input) (set : List Bool) (c : Carry) (b : Between)
    → IsInput before first → IsInput now second → Continues before now → AbsentAreFresh
    → IsMarkedEarlier first.image reading skip before set
    → c.kept.items ≡ kept_of first.live.blocks set second.live.blocks → c.fresh.items ≡ absent_of first.live.blocks second.live.blocks
    → IsCarry (length second.live.blocks) c → b.carry ≡ c → AreDiffering (word_of first.image) (word_of second.image) b.pages
    → IsBetweenCores first.image second.image reading skip before now b
is_between reading skip before now first second set c b is_first is_second continues absent marked kept fresh lists same pages =
    let e1 = input_blocks first.image is_first.log before first is_first.read in
    let e2 = input_blocks second.image is_second.log now second is_second.read in
    record {
      earlier = set;
      marked = marked;
      kept = rw (same, kept, e1, e2) refl;
      fresh = rw (same, fresh, e1, e2) (subst (λ (lines : List Line). absent_of (live_of before) (live_of lines) ≡ new_blocks before lines) (sym continues.1) (absent before continues.0));
      lists = rw (same) (subst (λ (bs : List Block). IsCarry (length bs) c) e2 lists);
      pages = pages;
    }

-- words of kept blocks that aren't on the pages lead to kept and new blocks alone
pub others_lead_within : (core1 core2 : List ℕ) (reading : Distances) (skip : Skip) (before now : List Line) (b : Between)
    → IsBetweenCores core1 core2 reading skip before now b → Continues before now → SameWordsLeadWithin
    → OthersLeadWithin (word_of core2) (index_of reading now) b.pages b.carry.kept.items b.carry.fresh.items
others_lead_within core1 core2 reading skip before now b between continues same = rw (between.kept, between.fresh, continues.1) within
  where
    not_differing : (page : ℕ) → ¬ Has b.pages page → IsFalse (differs (word_of core1) (word_of core2) page)
    not_differing page out = go (differs (word_of core1) (word_of core2) page) refl
      where
        go : (t : Bool) → differs (word_of core1) (word_of core2) page ≡ t → IsFalse (differs (word_of core1) (word_of core2) page)
        go true e = absurd (out ((between.pages.each page).1 e))
        go false e = e

    within : OthersLeadWithin (word_of core2) (index_of reading (before ++ continues.0)) b.pages (kept_blocks before between.earlier (before ++ continues.0)) (new_blocks before (before ++ continues.0))
    within i block at kept a w from to is out j hit =
        same (word_of core1) (word_of core2) reading (first_of core1 (index_of reading before) skip before) before continues.0 between.earlier (record { marked = between.marked })
        i block at kept a w from to is (not_differing _ out) j hit

-- ---- the later core

-- what chains of the later core reach from its roots alone is marked
pub reached_later : (core : List ℕ) (reading : Distances) (skip : Skip) (lines : List Line) (kept fresh : List ℕ) (set : List Bool)
    → IsSet set (length (live_of lines)) (Reach (graph_of_later core reading skip kept fresh lines))
    → (i : ℕ) → i < length (live_of lines) → Reach (graph_of_one core reading skip lines) i → slice_get set i ≡ Some true
unfolding graph_of
reached_later core reading skip lines kept fresh set is_set i inside reached =
    (is_set.each i inside).1 (reach_within (graph_of_one core reading skip lines) (graph_of_later core reading skip kept fresh lines)
    (λ x h. has_back (kept ++ fresh) (graph_of_one core reading skip lines).first x h) (λ x. (λ h. h, λ h. h)) refl i reached)

-- ---- what calls ask

pub tests_of : (reading : Distances) (lines : List Line) (input : Input) (set : List Bool) → IsInput lines input → IsMarkedEarlier input.image reading input.skip lines set → length set ≡ length input.live.blocks
tests_of reading lines input set is_input marked = marked.len ∙ ap length (sym (input_blocks input.image is_input.log lines input is_input.read))

pub carried : (core1 core2 core log : List ℕ) (reading : Distances) (skip : Skip) (before now : List Line) (second : Input) (b : Between)
    → IsReadOf core log now second → IsBetweenCores core1 core2 reading skip before now b → IsCarry (length second.live.blocks) b.carry
carried core1 core2 core log reading skip before now second b read between =
    subst (λ (bs : List Block). IsCarry (length bs) b.carry) (sym (input_blocks core log now second read)) between.lists

pub for_memory : {A : Type 0} (T : FindError → Type 0) (r : Result A FindError) → IfErr r (λ e. e ≡ NoMemory) → IfErr r (λ e. e ≢ NoMemory → T e)
for_memory T (Ok x) h = tt
for_memory T (Err e) h = λ other. absurd (other h)

-- ---- the whole

-- the graph that was marked again is that of the later core and its lines
later_graph : (core : List ℕ) (reading : Distances) (skip : Skip) (lines : List Line) (blocks : List Block) (index : Index) (places : Places) (kept fresh : List ℕ)
    → blocks ≡ live_of lines → index ≡ record { blocks = blocks; reading = reading } → AreRootsOf (left_out skip core blocks lines) core blocks places → places.skips_links ≡ skip.links
    → graph_of_two (word_of core) index (led_by_roots (word_of core) index places) kept fresh ≡ graph_of_later core reading skip kept fresh lines
later_graph core reading skip lines blocks index places kept fresh are is roots links =
    rw (found_first core index blocks (left_out skip core blocks lines) skip.links places roots links, is, are) refl

-- a search of the later core that read, compared, found roots and marked again
finds_later : (core log : List ℕ) (reading : Distances) (check : Bool) (workers : ℕ) (lines : List Line) (input : Input) (index : Index) (places : Places) (head : Head) (fits : Option (List Bool)) (pages : List ℕ) (c : Carry) (r : Retraced) (count bytes : ℕ) (found : Found)
    → IsReadOf core log lines input → index ≡ record { blocks = input.live.blocks; reading = reading } → AreRootsOf (left_out input.skip core input.live.blocks lines) core input.live.blocks places → places.skips_links ≡ input.skip.links
    → OthersLeadWithin (word_of core) (index_of reading lines) pages c.kept.items c.fresh.items
    → IsRetrace (word_of core) index places pages c workers r → count ≡ length c.fresh.items → bytes ≡ size_of input.live.blocks c.fresh.items
    → head ≡ head_with input places (Some (record { fresh = count; fresh_bytes = bytes; reread = r.reread }))
    → fits ≡ fits_with check input
    → found.report.items ≡ text_of head input.live.blocks r.marked.set.items (heads_of (word_of core) index r.marked.set.items) fits log
    → found.leaked ≡ length (leaked_in r.marked.set.items input.live.blocks) → found.claims ≡ r.marked.claims
    → FindsLater core log reading input.skip check lines pages c.kept.items c.fresh.items workers found
finds_later core log reading check workers lines input index places head fits pages c r count bytes found read is roots links others retrace counted sized head_at fits_is report leaked claims =
    let e = input_blocks core log lines input read in
    let same_index = index_is reading lines input.live.blocks index e is in
    let within = subst (λ (i : Index). OthersLeadWithin (word_of core) i pages c.kept.items c.fresh.items) (sym same_index) others in
    let g = later_graph core reading input.skip lines input.live.blocks index places c.kept.items c.fresh.items e is roots links in
    let set = subst (λ (bs : List Block). IsSet r.marked.set.items (length bs) (Reach (graph_of_later core reading input.skip c.kept.items c.fresh.items lines))) (ap (λ (i : Index). i.blocks) same_index)
    (subst (λ (h : Graph). IsSet r.marked.set.items (length index.blocks) (Reach h)) g (retrace.set within)) in
    record {
      set = r.marked.set.items;
      marked = set;
      reached = reached_later core reading input.skip lines c.kept.items c.fresh.items r.marked.set.items set;
      report = report ∙ text_is core log reading lines input index places head fits pages c r count bytes read roots same_index retrace.reread counted sized head_at
          ∙ ap (λ (f : Option (List Bool)). text_of (head_of_two core log input.skip lines (numbers_of_two core pages (live_of lines) c.kept.items c.fresh.items)) (live_of lines) r.marked.set.items (heads_of (word_of core) (index_of reading lines) r.marked.set.items) f log)
          (fits_is ∙ fits_are check core log lines input read);
      leaked = subst (λ (bs : List Block). found.leaked ≡ length (leaked_in r.marked.set.items bs)) e leaked;
      lists = rw (claims) retrace.from.2.lists;
      claims = rw (claims) (subst (λ (h : Graph). Partitions (lists_of r.marked) (λ i. Reach h i × ¬ Has c.kept.items i × ¬ Has c.fresh.items i)) g (retrace.claims within));
    }
  where
    text_is : (core log : List ℕ) (reading : Distances) (lines : List Line) (input : Input) (index : Index) (places : Places) (head : Head) (fits : Option (List Bool)) (pages : List ℕ) (c : Carry) (r : Retraced) (count bytes : ℕ)
        → IsReadOf core log lines input → AreRootsOf (left_out input.skip core input.live.blocks lines) core input.live.blocks places → index ≡ index_of reading lines → r.reread ≡ reread_of (word_of core) pages index.blocks c.kept.items
        → count ≡ length c.fresh.items → bytes ≡ size_of input.live.blocks c.fresh.items
        → head ≡ head_with input places (Some (record { fresh = count; fresh_bytes = bytes; reread = r.reread }))
        → text_of head input.live.blocks r.marked.set.items (heads_of (word_of core) index r.marked.set.items) fits log
        ≡ text_of (head_of_two core log input.skip lines (numbers_of_two core pages (live_of lines) c.kept.items c.fresh.items)) (live_of lines) r.marked.set.items (heads_of (word_of core) (index_of reading lines) r.marked.set.items) fits log
    text_is core log reading lines input index places head fits pages c r count bytes read roots is reread counted sized head_at =
        rw (head_at, counted, sized, reread, is, input_blocks core log lines input read)
        (ap (λ (h : Head). text_of h (live_of lines) r.marked.set.items (heads_of (word_of core) (index_of reading lines) r.marked.set.items) fits log)
        (head_is core log lines input places (Some (numbers_of_two core pages (live_of lines) c.kept.items c.fresh.items)) read roots))

-- the same if the inputs are known by what was read
finds_inputs : (log1 log2 : List ℕ) (reading : Distances) (skip : Skip) (check : Bool) (workers : ℕ) (before now : List Line) (first second : Input) (index : Index) (places : Places) (head : Head) (fits : Option (List Bool)) (b : Between) (r : Retraced) (count bytes : ℕ) (found : Found)
    → IsReadOf first.image log1 before first → IsReadOf second.image log2 now second → length first.live.blocks < 2 ^ 32 → length second.live.blocks < 2 ^ 32
    → IsTrue (is_continued_by log1 log2) → Continues before now → SameWordsLeadWithin
    → IsBetweenCores first.image second.image reading skip before now b → second.skip ≡ skip
    → index ≡ record { blocks = second.live.blocks; reading = reading } → AreRootsFor now second places
    → IsRetrace (word_of second.image) index places b.pages b.carry workers r → count ≡ length b.carry.fresh.items → bytes ≡ size_of second.live.blocks b.carry.fresh.items
    → head ≡ head_with second places (Some (record { fresh = count; fresh_bytes = bytes; reread = r.reread }))
    → fits ≡ fits_with check second
    → found.report.items ≡ text_of head second.live.blocks r.marked.set.items (heads_of (word_of second.image) index r.marked.set.items) fits log2
    → found.leaked ≡ length (leaked_in r.marked.set.items second.live.blocks) → found.claims ≡ r.marked.claims
    → FindsTwo first.image log1 second.image log2 reading skip check workers found
finds_inputs log1 log2 reading skip check workers before now first second index places head fits b r count bytes found read1 read2 few1 few2 continued continues same between skips is roots retrace counted sized head_at fits_is report leaked claims =
    let others = others_lead_within first.image second.image reading skip before now b between continues same in
    let later = subst (λ (s : Skip). FindsLater second.image log2 reading s check now b.pages b.carry.kept.items b.carry.fresh.items workers found) skips
    (finds_later second.image log2 reading check workers now second index places head fits b.pages b.carry r count bytes found read2 is roots.roots roots.links others retrace counted sized head_at fits_is report leaked claims) in
    record {
      first = faultless first.image log1 before first read1;
      second = faultless second.image log2 now second read2;
      continued = continued;
      few_before = subst (λ (bs : List Block). length bs < 2 ^ 32) (input_blocks first.image log1 before first read1) few1;
      few_now = subst (λ (bs : List Block). length bs < 2 ^ 32) (input_blocks second.image log2 now second read2) few2;
      earlier = between.earlier;
      marked = between.marked;
      pages = b.pages;
      differing = between.pages;
      finds = subst (λ (kept : List ℕ). FindsLater second.image log2 reading skip check now b.pages kept (new_blocks before now) workers found) between.kept
          (subst (λ (fresh : List ℕ). FindsLater second.image log2 reading skip check now b.pages b.carry.kept.items fresh workers found) between.fresh later);
    }

pub finds_two : (core1 log1 core2 log2 : List ℕ) (reading : Distances) (skip : Skip) (check : Bool) (workers : ℕ) (inputs : Inputs) (index : Index) (places : Places) (head : Head) (fits : Option (List Bool)) (b : Between) (r : Retraced) (count bytes : ℕ) (found : Found)
    → (read : AreReadTwo core1 log1 core2 log2 inputs) → SameWordsLeadWithin
    → IsBetweenCores inputs.first.image inputs.second.image reading inputs.first.skip read.before read.now b → (inputs.first.skip ≡ skip) × (inputs.second.skip ≡ skip)
    → index ≡ record { blocks = inputs.second.live.blocks; reading = reading } → AreRootsFor read.now inputs.second places
    → IsRetrace (word_of inputs.second.image) index places b.pages b.carry workers r → count ≡ length b.carry.fresh.items → bytes ≡ size_of inputs.second.live.blocks b.carry.fresh.items
    → head ≡ head_with inputs.second places (Some (record { fresh = count; fresh_bytes = bytes; reread = r.reread }))
    → fits ≡ fits_with check inputs.second
    → found.report.items ≡ text_of head inputs.second.live.blocks r.marked.set.items (heads_of (word_of inputs.second.image) index r.marked.set.items) fits log2
    → found.leaked ≡ length (leaked_in r.marked.set.items inputs.second.live.blocks) → found.claims ≡ r.marked.claims
    → FindsTwo core1 log1 core2 log2 reading skip check workers found
finds_two core1 log1 core2 log2 reading skip check workers inputs index places head fits b r count bytes found read same between skips is roots retrace counted sized head_at fits_is report leaked claims =
    let pair = paired core1 log1 core2 log2 inputs read in
    let found_it = finds_inputs log1 log2 reading skip check workers read.before read.now inputs.first inputs.second index places head fits b r count bytes found pair.first.read pair.second.read read.few_before read.few_now read.continued read.lines same
    (subst (λ (s : Skip). IsBetweenCores inputs.first.image inputs.second.image reading s read.before read.now b) skips.0 between) skips.1 is roots retrace counted sized head_at fits_is report leaked claims in
    subst (λ (file : List ℕ). FindsTwo core1 log1 file log2 reading skip check workers found) read.second.image
    (subst (λ (file : List ℕ). FindsTwo file log1 inputs.second.image log2 reading skip check workers found) read.first.image found_it)
