-- From an input that was listed to what its search comes to.
use Rattle.std.proofs.Common.{◌≡◌, ◌∙◌, ℕ, ◌-◌, ◌^◌, ◌<◌, ◌≤◌, Bool, true, false, ◌&&◌, nat_lt, if◌then◌else◌, arith, length, List, Ok, Option, None, Some, IfSome, refl, sym, ap, subst}
use Rattle.std.specs.Prelude.{◌↔◌, IsErrOf}
use Rattle.leak_elf.specs.Words.{word_of}
use Rattle.leak_mtrace.specs.declared.line.Line.{Line}
use Rattle.leak_index.specs.Hits.{Index}
use Rattle.leak_index.specs.Leads.{Distances}
use Rattle.leak_roots.specs.LeftOut.{LeftOut, freed_left_out}
use Rattle.leak_roots.specs.Places.{Places}
use Rattle.leak_roots.specs.Roots.{AreRootsOf}
use Rattle.leak_roots.specs.Skipped.{spans_of}
use Rattle.leak_scan.specs.Heads.{heads_of}
use Rattle.leak_marks.specs.Lists.{Has}
use Rattle.leak_pool.specs.Leading.{leading}
use Rattle.leak_pool.specs.LeadingFound.{AreLeadingFound}
use Rattle.leak_blocks.proofs.OrderLemmas.{less_of}
use Rattle.leak_pool.specs.Edges.{kept_count}
use Rattle.leak_pool.specs.Listing.{AreWithin, IsListingOf}
use Rattle.leak_pool.proofs.RowLemmas.{room_kept}
use Rattle.leak_pool.specs.Marking.{MarksFromRoots, led_by_roots}
use Rattle.leak_pool.specs.declared.error.PoolError.{PoolError}
use Rattle.leak_pool.specs.declared.error.PoolError.TheVariants.{TooMany}
use Rattle.leak_pool.specs.declared.listing.Listing.{Listing}
use Rattle.leak_pool.specs.declared.marked.Marked.{Marked}
use Rattle.leak_search.specs.Inputs.{IsInput, IsReadOf}
use Rattle.leak_search.specs.LeftOut.{LeavesOutFreedAlone, leaves_out_freed_alone, left_out}
use Rattle.leak_search.specs.Listed.{AreLeadingFor, IsListedBy, has_many_blocks, index_in, listers, share_in}
use Rattle.leak_search.specs.Report.{head_with}
use Rattle.leak_search.specs.Searched.{MarksOne}
use Rattle.leak_search.specs.declared.found.Searched.{Searched}
use Rattle.leak_search.specs.declared.inputs.Input.{Input}
use Rattle.leak_search.specs.declared.listed.ListedInput.{ListedInput}
use Rattle.leak_search.proofs.InputLemmas.{threads_read}
use Rattle.leak_search.proofs.SearchedLemmas.{marks_one}

-- what holds of a value that is there
pub at_some : {A : Type 0} (P : A → Type 0) (o : Option A) (x : A) → o ≡ Some x → IfSome o P → P x
at_some {A} P o x is holds = subst (λ (v : Option A). IfSome v P) is holds

-- a listing of root words is one of others that lead to the same
listing_by_led : (word_at : ℕ → Option ℕ) (index : Index) (places others : Places) (l : Listing) → led_by_roots word_at index places ≡ led_by_roots word_at index others
    → IsListingOf word_at index places l → IsListingOf word_at index others l
listing_by_led word_at index places others l same it = record {
  few = it.few;
  blocks = it.blocks;
  once = it.once;
  first = subst (λ (led : List ℕ). (b : ℕ) → Has l.first.items b ↔ Has led b) same it.first;
  targets = it.targets;
}

-- the listing of what all root words lead to
pub listed_by : (lines : List Line) (input : Input) (reading : Distances) (index : Index) (places : Places) (listed : ListedInput) → index ≡ index_in input reading
    → AreLeadingFor lines input index listed.head places → IsListingOf (word_of input.image) index places listed.listing → IsListedBy lines input reading listed
listed_by lines input reading index places listed is leading listing = record {
  places = leading.all;
  roots = leading.roots;
  head_is = leading.head_is;
  listing = subst (λ (i : Index). IsListingOf (word_of input.image) i leading.all listed.listing) is
      (listing_by_led (word_of input.image) index places leading.all listed.listing leading.led listing);
}

-- a search that marked what was listed
pub marks_listed : (log : List ℕ) (lines : List Line) (reading : Distances) (workers : ℕ) (input : Input) (listed : ListedInput) (marked : Marked) (searched : Searched)
    → IsReadOf input.image log lines input → (it : IsListedBy lines input reading listed) → MarksFromRoots (word_of input.image) (index_in input reading) it.places workers marked
    → searched.head ≡ listed.head → searched.set ≡ marked.set → searched.heads.items ≡ heads_of (word_of input.image) (index_in input reading) marked.set.items
    → searched.claims ≡ marked.claims → MarksOne input.image log lines reading input.skip workers searched
marks_listed log lines reading workers input listed marked searched read it marks head set heads claims =
    marks_one input.image log lines reading workers input (index_in input reading) it.places marked searched read it.listing.few refl it.roots.roots it.roots.links marks
    (head ∙ it.head_is) set heads claims

-- ---- root words that were tested as they were found

module _ (lines : List Line) (input : Input) (alone : LeavesOutFreedAlone input.skip) where
  -- what is left out then
  freed_is_all : freed_left_out input.skip.unwritable (spans_of input.skip lines) ≡ left_out input.skip input.image input.live.blocks lines
  freed_is_all = rw (alone.slack, alone.dead) refl

  -- the first lines tell the same of those that lead to a block
  same_head : (word_at : ℕ → Option ℕ) (index : Index) (all : Places) → head_with input (leading word_at index all) None ≡ head_with input all None
  unfolding leading
  same_head word_at index all = refl

  pub leading_found : (index : Index) (places : Places) → IsInput lines input → AreLeadingFound index input.skip.unwritable input.heap_spans input.image input.threads input.live.blocks places
      → AreLeadingFor lines input index (head_with input places None) places
  leading_found index places it found = record {
    all = found.all;
    roots = record {
      roots = subst (λ (left : LeftOut). AreRootsOf left input.image input.live.blocks found.all) freed_is_all
          (found.found.of_core (spans_of input.skip lines) it.read.heap_spans (threads_read _ _ _ (lines, it.read)));
      links = found.found.links ∙ sym alone.links;
    };
    head_is = ap (λ (p : Places). head_with input p None) found.value ∙ same_head (word_of input.image) index found.all;
    led = found.led;
  }

-- ---- room

-- of more than two workers some are left when one finds the root words
some_left : (lt many alone : Bool) (n : ℕ) → (lt ≡ true → 2 < n) → 0 < n → 0 < (if lt && many && alone then n - 1 else n)
some_left true true true n two some = let t = two refl in omega (arith, t)
some_left true true false n two some = some
some_left true false alone n two some = some
some_left false many alone n two some = some

some_listers : (input : Input) (workers : ℕ) → 0 < workers → 0 < listers input workers
some_listers input workers some =
    some_left (nat_lt 2 workers) (has_many_blocks input.live.blocks) (leaves_out_freed_alone input.skip) workers (λ e. less_of 2 workers e) some

-- what all of them list has room
pub room_for : (input : Input) (workers : ℕ) (listed : Option ListedInput) → 0 < workers
    → IfSome listed (λ l. AreWithin (length input.live.blocks) (listers input workers) (share_in (Some input.edges) (listers input workers)) l.listing.rows.items)
    → IfSome listed (λ l. kept_count l.listing.rows.items ≤ input.edges)
room_for input workers None some none = none
room_for input workers (Some l) some within =
    room_kept (length input.live.blocks) (listers input workers) input.edges l.listing.rows.items (some_listers input workers some) within.count within.each

-- ---- errors

-- an answer is not told as too many blocks
pub not_told : {T : Type 0} (x : T) (n : ℕ) → IsErrOf {T = T} {E = PoolError} (Ok x) TooMany → 2 ^ 32 - 1 < n
not_told x n e = absurd (refused x e)
  where
    refused : {T : Type 0} (x : T) → IsErrOf {T = T} {E = PoolError} (Ok x) TooMany → ⊥
    refused x e = cc
