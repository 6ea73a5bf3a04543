-- A search finds in a core what it finds in one that is alike.
use Rattle.std.proofs.Common.{◌≡◌, ◌↔◌, ℕ, ◌+◌, ◌-◌, ◌^◌, inl, inr, Bool, true, false, List, [], ◌∷◌, length, Option, Some, None, refl, sym, ap, ap₂, subst, ◌∙◌, Contains}
use Rattle.std.specs.Prelude.{if◌then◌else◌, option_and_then}
use Rattle.std.specs.List.{AllByRecursion}
use Rattle.std.specs.Option.{option_map_or}
use Rattle.leak_lemmas.proofs.Members.{each_implied}
use Rattle.leak_elf.specs.Words.{word_of}
use Rattle.leak_elf.specs.declared.segment.Segment.{Segment}
use Rattle.leak_notes.specs.Stacks.{threads_in}
use Rattle.leak_notes.specs.declared.stacks.StackRegisters.{StackRegisters}
use Rattle.leak_mtrace.specs.Log.{torn_of}
use Rattle.leak_mtrace.specs.declared.line.Line.{Line}
use Rattle.leak_blocks.specs.Live.{live_of, replay_of}
use Rattle.leak_blocks.specs.declared.small.Span.{Span}
use Rattle.leak_index.specs.Hits.{Index}
use Rattle.leak_index.specs.Leads.{Distances}
use Rattle.leak_chunks.specs.Fit.{chunk_size, fits_core, fits_of}
use Rattle.leak_chunks.specs.FreeLinks.{is_least_chunk_for, next_header}
use Rattle.leak_chunks.specs.Slack.{slack_of, slack_spans_of}
use Rattle.leak_stacks.specs.Dead.{dead_from, dead_spans_of}
use Rattle.leak_stacks.specs.Stacks.{first_at, first_in, stack_of}
use Rattle.leak_roots.specs.LeftOut.{LeftOut}
use Rattle.leak_roots.specs.Skipped.{spans_of}
use Rattle.leak_roots.specs.declared.skip.Skip.{Skip}
use Rattle.leak_scan.specs.Heads.{heads_of}
use Rattle.leak_marks.specs.Partition.{Partitions}
use Rattle.leak_marks.specs.Reach.{Graph, Reach}
use Rattle.leak_pool.specs.Marking.{IsSet}
use Rattle.leak_report.specs.Report.{text_of}
use Rattle.leak_report.specs.declared.head.Head.{Head}
use Rattle.leak_report.specs.declared.signs.Signs.{Signs}
use Rattle.leak_search.specs.LeftOut.{left_out}
use Rattle.leak_search.specs.Search.{FindsOne, claims_of, graph_of_one, head_of_one, index_of}
use Rattle.leak_search.specs.Signs.{AreSigns, fits_told, misfits_counted, signs_of}
use Rattle.leak_search.specs.declared.found.Found.{Found}
use Rattle.leak_alike.specs.Alike.{AreAlikeCores, AreAlikeBy, AreAlikeWords, IsAsked, size_word, next_size_word, header_word, record_word, frame_word}
use Rattle.leak_alike.proofs.AlikeLists.{each_contained, filter_map_agree, map_agree}
use Rattle.leak_alike.proofs.AlikeRefusals.{core_faultless}
use Rattle.leak_alike.proofs.AlikeStacks.{HasSameStack, dead_same, stack_same}
use Rattle.leak_alike.proofs.AlikeWords.{HasSameHeader, HasSameSizes, fits_same, slack_same}
use Rattle.leak_alike.proofs.MarkedAlike.{HasSameMarks, graph_same as graph_marked, head_same as head_marked, heads_same as heads_marked}

-- ---- words

pub words_back : (index : Index) (v w : Option ℕ) → AreAlikeWords index v w → AreAlikeWords index w v
words_back index None None same = tt
words_back index None (Some w) same = same
words_back index (Some v) None same = same
words_back index (Some v) (Some w) (inl same) = inl (sym same)
words_back index (Some v) (Some w) (inr none) = inr (none.1, none.0)

-- ---- what a search reads of alike cores

module _ (reading : Distances) (lines : List Line) (skip : Skip) (core other : List ℕ) (alike : AreAlikeCores (index_of reading lines) skip core other) where
  abbrev index : Index
  index = index_of reading lines

  sizes_same : AllByRecursion (HasSameSizes (word_of core) (word_of other)) (live_of lines)
  sizes_same = each_contained (HasSameSizes (word_of core) (word_of other)) (live_of lines) (λ b has. record {
    size = alike.asked (b.start - 8) (size_word b has);
    next = λ word e heap fits. alike.asked (b.start + chunk_size word - 8) (next_size_word b word has e heap fits);
  })

  headers_same : skip.links ≡ true → AllByRecursion (HasSameHeader (word_of core) (word_of other) (live_of lines)) (live_of lines)
  headers_same links = each_contained (HasSameHeader (word_of core) (word_of other) (live_of lines)) (live_of lines) (λ b has. record {
    size = alike.asked (b.start - 8) (size_word b has);
    header = λ least free d at. alike.asked (next_header b + d) (header_word b d links has least free at);
  })

  has_same_stack : (t : StackRegisters) → skip.dead ≡ true → Contains (threads_in core) t → HasSameStack (word_of core) (word_of other) core t
  has_same_stack t dead has = record {
    own = λ a low high. alike.asked a (record_word t a dead has low high);
    frames = λ k a e low high. alike.asked a (frame_word t k a dead has e low high);
  }

  -- ---- sizes

  pub fits_of_same : fits_of (word_of core) (live_of lines) ≡ fits_of (word_of other) (live_of lines)
  fits_of_same = map_agree (fits_core (word_of core)) (fits_core (word_of other)) (live_of lines)
      (each_implied (HasSameSizes (word_of core) (word_of other)) (λ b. fits_core (word_of core) b ≡ fits_core (word_of other) b) (fits_same (word_of core) (word_of other)) (live_of lines) sizes_same)

  slack_spans_same : slack_spans_of (word_of core) (live_of lines) ≡ slack_spans_of (word_of other) (live_of lines)
  unfolding slack_spans_of
  slack_spans_same = filter_map_agree (slack_of (word_of core)) (slack_of (word_of other)) (live_of lines)
      (each_implied (HasSameSizes (word_of core) (word_of other)) (λ b. slack_of (word_of core) b ≡ slack_of (word_of other) b) (slack_same (word_of core) (word_of other)) (live_of lines) sizes_same)

  -- ---- dead stack

  first_stack_same : first_in core ≡ first_in other
  unfolding first_in
  first_stack_same = ap₂ (λ (segments : List Segment) (random : Option ℕ). option_and_then (first_at segments) random) alike.segments alike.random

  dead_spans_same : skip.dead ≡ true → dead_spans_of core ≡ dead_spans_of other
  unfolding dead_spans_of
  dead_spans_same dead =
      dead_same (word_of core) (word_of other) core (2 ^ 28) (threads_in core)
      (each_contained (HasSameStack (word_of core) (word_of other) core) (threads_in core) (λ t has. has_same_stack t dead has))
      ∙ here
    where
      here : dead_from (word_of other) (first_in core) (2 ^ 28) (threads_in core) ≡ dead_from (word_of other) (first_in other) (2 ^ 28) (threads_in other)
      here = rw (first_stack_same, alike.threads) refl

  -- ---- what is left out

  left_out_same : left_out skip core (live_of lines) lines ≡ left_out skip other (live_of lines) lines
  left_out_same =
      ap₂ left (ap (λ (spans : List Span). if skip.slack then spans else []) slack_spans_same) (go skip.dead dead_spans_same)
    where
      left : List Span → List Span → LeftOut
      left slack dead = record { unwritable = skip.unwritable; freed = spans_of skip lines; slack = slack; dead = dead }

      go : (dead : Bool) → (dead ≡ true → dead_spans_of core ≡ dead_spans_of other) → (if dead then dead_spans_of core else []) ≡ (if dead then dead_spans_of other else [])
      go true same = same refl
      go false same = refl

  -- ---- what is found

  same_marks : HasSameMarks reading lines skip core other
  same_marks = record {
    but_words = record {
      faults = alike.faults;
      note_faults = alike.note_faults;
      segments = alike.segments;
      registers = alike.registers;
      threads = alike.threads;
      random = alike.random;
    };
    words = alike.words;
    left = left_out_same;
    headers = headers_same;
  }

  pub graph_same : graph_of_one core reading skip lines ≡ graph_of_one other reading skip lines
  graph_same = graph_marked reading lines skip core other same_marks

  heads_same : (set : List Bool) → heads_of (word_of core) index set ≡ heads_of (word_of other) index set
  heads_same = heads_marked reading lines skip core other same_marks

  pub head_same : (log : List ℕ) → head_of_one core log skip lines ≡ head_of_one other log skip lines
  head_same = head_marked reading lines skip core other same_marks

  fits_told_same : (check : Bool) → fits_told check core lines ≡ fits_told check other lines
  fits_told_same check = ap (λ (fits : List Bool). if check then Some fits else None) fits_of_same

  signs_same : (other_heap : Bool) (log : List ℕ) → signs_of other_heap core log lines ≡ signs_of other_heap other log lines
  signs_same other_heap log = ap signs fits_of_same
    where
      signs : List Bool → Signs
      signs fits = record {
        live = length (live_of lines);
        torn = torn_of log;
        unknown = (replay_of lines).unknown;
        displaced = (replay_of lines).displaced;
        misfits = misfits_counted other_heap fits;
      }

  -- ---- the other way

  asked_back : (a : ℕ) → IsAsked other (live_of lines) skip a → IsAsked core (live_of lines) skip a
  asked_back a (size_word b has) = size_word b has
  asked_back a (next_size_word b word has e heap fits) = next_size_word b word has (alike.asked (b.start - 8) (size_word b has) ∙ e) heap fits
  asked_back a (header_word b d links has least free at) =
      header_word b d links has (ap (λ (o : Option ℕ). option_map_or (is_least_chunk_for b.size) o false) (alike.asked (b.start - 8) (size_word b has)) ∙ least) free at
  asked_back a (record_word t h dead has low high) = record_word t h dead (subst (λ (threads : List StackRegisters). Contains threads t) (sym alike.threads) has) low high
  asked_back a (frame_word t k h dead has e low high) =
      let here : Contains (threads_in core) t = subst (λ (threads : List StackRegisters). Contains threads t) (sym alike.threads) has in
      let stack : stack_of (word_of core) (first_in core) t ≡ stack_of (word_of other) (first_in other) t =
      rw (← first_stack_same) (stack_same (word_of core) (word_of other) core t (has_same_stack t dead here)) in
      frame_word t k h dead here (stack ∙ e) low high

  pub alike_back : AreAlikeCores index skip other core
  alike_back = record {
    faults = sym alike.faults;
    note_faults = sym alike.note_faults;
    segments = sym alike.segments;
    registers = sym alike.registers;
    threads = sym alike.threads;
    random = sym alike.random;
    words = λ a. words_back index (word_of core a) (word_of other a) (alike.words a);
    asked = λ a is. sym (alike.asked a (asked_back a is));
  }

-- ---- the laws

finds_alike : (core other log : List ℕ) (reading : Distances) (skip : Skip) (check : Bool) (workers : ℕ) (found : Found) → AreAlikeBy log reading skip core other
    → FindsOne core log reading skip check workers found → FindsOne other log reading skip check workers found
finds_alike core other log reading skip check workers found alike f =
    let same = alike f.lines f.is_log in
    let graph : graph_of_one core reading skip f.lines ≡ graph_of_one other reading skip f.lines = graph_same reading f.lines skip core other same in
    record {
      accepted = core_faultless core other same.faults same.note_faults f.accepted;
      lines = f.lines;
      is_log = f.is_log;
      few = f.few;
      set = f.set;
      marked = subst (λ (g : Graph). IsSet f.set (length (live_of f.lines)) (Reach g)) graph f.marked;
      report = f.report
          ∙ ap (λ (head : Head). text_of head (live_of f.lines) f.set (heads_of (word_of core) (index_of reading f.lines) f.set) (fits_told check core f.lines) log)
          (head_same reading f.lines skip core other same log)
          ∙ ap₂ (λ (heads : List Bool) (fits : Option (List Bool)). text_of (head_of_one other log skip f.lines) (live_of f.lines) f.set heads fits log)
          (heads_same reading f.lines skip core other same f.set) (fits_told_same reading f.lines skip core other same check);
      leaked = f.leaked;
      lists = f.lists;
      claims = subst (λ (g : Graph). Partitions (claims_of found) (Reach g)) graph f.claims;
    }

pub alike_by_back : (core other log : List ℕ) (reading : Distances) (skip : Skip) → AreAlikeBy log reading skip core other → AreAlikeBy log reading skip other core
alike_by_back core other log reading skip alike lines is = alike_back reading lines skip core other (alike lines is)

pub searches_of_alike_are_one : (core other log : List ℕ) (reading : Distances) (skip : Skip) (check : Bool) (workers : ℕ) (found : Found) → AreAlikeBy log reading skip core other
    → (FindsOne core log reading skip check workers found ↔ FindsOne other log reading skip check workers found)
searches_of_alike_are_one core other log reading skip check workers found alike = (
  finds_alike core other log reading skip check workers found alike,
  finds_alike other core log reading skip check workers found (alike_by_back core other log reading skip alike),
)

signs_alike : (core other log : List ℕ) (reading : Distances) (skip : Skip) (other_heap : Bool) (signs : List Signs) → AreAlikeBy log reading skip core other
    → AreSigns other_heap (core ∷ log ∷ []) signs → AreSigns other_heap (other ∷ log ∷ []) signs
signs_alike core other log reading skip other_heap [] alike are = are
signs_alike core other log reading skip other_heap (s ∷ signs) alike are =
    ((are.0.0, are.0.1, are.0.2 ∙ signs_same reading are.0.0 skip core other (alike are.0.0 are.0.1) other_heap log), are.1)

pub signs_of_alike_are_one : (core other log : List ℕ) (reading : Distances) (skip : Skip) (other_heap : Bool) (signs : List Signs) → AreAlikeBy log reading skip core other
    → (AreSigns other_heap (core ∷ log ∷ []) signs ↔ AreSigns other_heap (other ∷ log ∷ []) signs)
signs_of_alike_are_one core other log reading skip other_heap signs alike = (
  signs_alike core other log reading skip other_heap signs alike,
  signs_alike other core log reading skip other_heap signs (alike_by_back core other log reading skip alike),
)
