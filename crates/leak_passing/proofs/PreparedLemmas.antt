-- A search goes on with the words that are left as it would with all that were kept.
use Rattle.std.proofs.Common.{◌≡◌, ◌∙◌, ℕ, ◌<◌, ◌^◌, ◌⊎◌, inl, inr, Bool, true, false, ◌&&◌, List, [], ◌++◌, length, map, None, Vec, Global, IfSome, option_map, refl, sym, ap, subst, nat_le, nat_lt, arith}
use Rattle.std.specs.Prelude.{Err, if◌then◌else◌}
use Rattle.std.proofs.lemmas.Bool.{leb-false, lt-ltb, or_left, or_right}
use Rattle.std.proofs.lemmas.List.{length-map}
use Rattle.leak_elf.specs.Head.{IsHead}
use Rattle.leak_elf.specs.Refusals.{fault_of}
use Rattle.leak_elf.specs.Segments.{segments_of}
use Rattle.leak_notes.specs.Threads.{threads_of}
use Rattle.leak_mtrace.specs.Log.{IsLog}
use Rattle.leak_mtrace.specs.declared.error.LogError.TheVariants.{NoMemory}
use Rattle.leak_mtrace.specs.declared.line.Line.{Line}
use Rattle.leak_mtrace.proofs.SameLogLemmas.{logs_are_one}
use Rattle.leak_blocks.specs.Live.{Replay, live_of}
use Rattle.leak_blocks.specs.Small.{CoverSameOutside}
use Rattle.leak_blocks.specs.declared.block.Block.{Block}
use Rattle.leak_blocks.specs.declared.small.Span.{Span}
use Rattle.leak_index.specs.Leads.{Distances}
use Rattle.leak_index.specs.Readings.{distances_of}
use Rattle.leak_roots.specs.Skipped.{spans_of}
use Rattle.leak_roots.specs.declared.skip.Skip.{Skip}
use Rattle.leak_report.specs.Report.{text_of}
use Rattle.leak_report.specs.Totals.{leaked_in}
use Rattle.leak_search.specs.Inputs.{IsCore, IsFaultOfOne, IsRead, IsReadOf}
use Rattle.leak_search.specs.Search.{FindsOne, index_of}
use Rattle.leak_search.specs.Searched.{MarksOne, OfLogs, SearchesOne}
use Rattle.leak_search.specs.Signs.{fits_with}
use Rattle.leak_search.specs.declared.found.Found.{Found}
use Rattle.leak_search.specs.declared.found.Searched.{Searched}
use Rattle.leak_search.specs.declared.inputs.Input.{Input}
use Rattle.leak_search.specs.declared.signing.Consistency.{Consistency}
use Rattle.leak_search.specs.declared.rules.Rules.{Rules}
use Rattle.leak_search.proofs.InputLemmas.{fits_are, input_blocks}
use Rattle.leak_search.proofs.SearchedLemmas.{finds_searched, heads_each, set_each, told_each}
use Rattle.leak_sift.specs.Behind.{HasWords, bytes_behind}
use Rattle.leak_sift.specs.Kept.{is_outside}
use Rattle.leak_sift.specs.Passed.{IsRange}
use Rattle.leak_sift.specs.Sifted.{sifted}
use Rattle.leak_sparse.specs.Words.{between}
use Rattle.leak_alike.specs.AlikeToMark.{AreAlikeToMark, LeavesPointers, MarksOfAlikeAreOne, PrunedAreAlike, pruned_core}
use Rattle.leak_alike.specs.OneHead.{AgreeButWords, FilesOfOneHeadAgree, ThreadsOfOneHeadAreOne}
use Rattle.leak_alike.specs.SiftedCores.{rule_of, sifted_core}
use Rattle.leak_alike.proofs.AlikeRefusals.{core_faultless, search_refused}
use Rattle.leak_alike.proofs.SiftedSearches.{both_accepted}
use Rattle.leak_alike.proofs.WordBytes.{behind_long}
use Rattle.leak_passing.specs.declared.passed.PassedByTexts.{PassedByTexts}
use Rattle.leak_replaying.specs.declared.texts.KeptTexts.{KeptTexts}
use Rattle.leak_passing.specs.ByTexts.{AreTextsOf, IsLogOf}
use Rattle.leak_replaying.specs.Texts.{AreKeptOf}
use Rattle.leak_passing.specs.Kept.{IsKept, IsSifted, rule_by}
use Rattle.leak_replaying.specs.Texts.{blocks_of}
use Rattle.leak_passing.specs.Passed.{IsPassedByTexts}
use Rattle.leak_passing.specs.Prepared.{IsLeftToMark, IsPrepared}
use Rattle.leak_passing.proofs.ByTextLemmas.{is_log_of}
use Rattle.leak_passing.proofs.FoundLemmas.{has_words, lines_of, sifted_file}

-- ---- words that are left

-- the words between the bounds are those that aren't outside
leaves : (lines : List Line) (low high : ℕ) → IsRange (live_of lines) low high → LeavesPointers lines (between low high)
leaves lines low high range word = go (nat_le low word) refl (nat_le word high) refl
  where
    outside : (word < low) ⊎ (high < word) → is_outside (live_of lines) word ≡ true
    outside (inl below) = range.tells word ∙ or_left (nat_lt word low) (nat_lt high word) (lt-ltb word low below)
    outside (inr above) = range.tells word ∙ or_right (nat_lt word low) (nat_lt high word) (lt-ltb high word above)

    go : (s : Bool) → nat_le low word ≡ s → (u : Bool) → nat_le word high ≡ u
        → ((if s && u then word else 0) ≡ word) ⊎ (((if s && u then word else 0) ≡ 0) × (is_outside (live_of lines) word ≡ true))
    go true e true f = inl refl
    go true e false f = inr (refl, outside (inr (leb-false word high f)))
    go false e u f = inr (refl, outside (inl (leb-false low word e)))

module _ (core : List ℕ) (skip : Skip) (blocks some : List Block) (held words left : List ℕ) (len : ℕ) (kept : IsKept core skip blocks held words len) (is : IsLeftToMark skip some words left) where
  left_long : length left ≡ length words
  left_long = go is
    where
      go : IsLeftToMark skip some words left → length left ≡ length words
      go (inl same) = ap length same
      go (inr it) = ap length it.4 ∙ length-map words (between it.1 it.2)

  pub left_words : HasWords left len
  left_words =
      let has = has_words core skip blocks held words len kept in
      let long = left_long in
      record { within = omega (arith, has.within, long); all = omega (arith, has.all, long) }

  -- without a word there is none left
  left_none : words ≡ [] → left ≡ words
  left_none none = go is
    where
      go : IsLeftToMark skip some words left → left ≡ words
      go (inl same) = same
      go (inr it) = it.4 ∙ ap (map (between it.1 it.2)) none ∙ sym none

  -- the file of all words that were kept, and that of those that are left
  abbrev pub file : List ℕ
  file = held ++ bytes_behind words len

  abbrev pub other : List ℕ
  other = held ++ bytes_behind left len

  same_file : left ≡ words → file ≡ other
  same_file same = ap (λ (ws : List ℕ). held ++ bytes_behind ws len) (sym same)

  behind_same : length (bytes_behind words len) ≡ length (bytes_behind left len)
  behind_same =
      behind_long words len (has_words core skip blocks held words len kept).within
      ∙ sym (behind_long left len left_words.within)

  pub left_or_head : (bytes_behind left len ≡ []) ⊎ IsHead held
  left_or_head = go kept
    where
      go : IsKept core skip blocks held words len → (bytes_behind left len ≡ []) ⊎ IsHead held
      go (inl whole) = inl (ap (λ (ws : List ℕ). bytes_behind ws len) (left_none whole.words_are ∙ whole.words_are) ∙ ap (λ (n : ℕ). bytes_behind [] n) whole.len_is)
      go (inr it) = inr it.can.head

  -- ---- both files

  pub agree : FilesOfOneHeadAgree → AgreeButWords file other
  agree law = go kept
    where
      go : IsKept core skip blocks held words len → AgreeButWords file other
      go (inl whole) =
          subst (λ (f : List ℕ). AgreeButWords file f) (same_file (left_none whole.words_are))
          (record { faults = refl; note_faults = refl; segments = refl; registers = refl; threads = refl; random = refl })
      go (inr it) = law held (bytes_behind words len) (bytes_behind left len) it.can.head behind_same

  pub threads_same : ThreadsOfOneHeadAreOne → threads_of file ≡ threads_of other
  threads_same law = go kept
    where
      go : IsKept core skip blocks held words len → threads_of file ≡ threads_of other
      go (inl whole) = ap threads_of (same_file (left_none whole.words_are))
      go (inr it) = law held (bytes_behind words len) (bytes_behind left len) it.can.head behind_same

  module _ (log : List ℕ) (lines : List Line) (reading : Distances) (is_log : IsLog log lines) (accepted : fault_of file ≡ None) (numbered : blocks ≡ live_of lines) (same_blocks : some ≡ live_of lines) where
    -- what marking can tell of both
    marks_themselves : left ≡ words → (workers : ℕ) (searched : Searched) → MarksOne other log lines reading skip workers searched → MarksOne file log lines reading skip workers searched
    marks_themselves same workers searched = subst (λ (f : List ℕ). MarksOne f log lines reading skip workers searched) (sym (same_file same))

    module _ (low high : ℕ) (range : IsRange some low high) (pruned : left ≡ map (between low high) words) (it : IsSifted core skip blocks held words len) where
      sifted_is : file ≡ sifted_core (rule_of lines skip) held it.more
      sifted_is = sifted_file core skip blocks held words len it ∙ ap (λ (bs : List Block). sifted_core (rule_by skip bs) held it.more) numbered

      pruned_is : other ≡ pruned_core (between low high) held (sifted (rule_of lines skip) (segments_of held) (length held) it.more) (length it.more)
      pruned_is =
          ap (λ (ws : List ℕ). held ++ bytes_behind ws len)
          (pruned ∙ ap (map (between low high)) (it.words_are ∙ ap (λ (bs : List Block). sifted (rule_by skip bs) (segments_of held) (length held) it.more) numbered))
          ∙ ap (λ (n : ℕ). pruned_core (between low high) held (sifted (rule_of lines skip) (segments_of held) (length held) it.more) n) it.len_is

      alike : PrunedAreAlike → AreAlikeToMark (index_of reading lines) file other
      alike law =
          subst (λ (f : List ℕ). AreAlikeToMark (index_of reading lines) f other) (sym sifted_is)
          (subst (λ (f : List ℕ). AreAlikeToMark (index_of reading lines) (sifted_core (rule_of lines skip) held it.more) f) (sym pruned_is)
          (law (between low high) held it.more log lines reading skip it.can
          (both_accepted (rule_of lines skip) held it.more it.can.head (sym (ap fault_of sifted_is) ∙ accepted)) is_log
          (leaves lines low high (subst (λ (bs : List Block). IsRange bs low high) same_blocks range))))

    pub marks_left : MarksOfAlikeAreOne → PrunedAreAlike → (workers : ℕ) (searched : Searched) → MarksOne other log lines reading skip workers searched → MarksOne file log lines reading skip workers searched
    marks_left marks law workers searched = go is kept
      where
        go : IsLeftToMark skip some words left → IsKept core skip blocks held words len
            → MarksOne other log lines reading skip workers searched → MarksOne file log lines reading skip workers searched
        go (inl same) whole = marks_themselves same workers searched
        go (inr one) (inl whole) = marks_themselves (left_none whole.words_are) workers searched
        go (inr one) (inr it) = (marks file other log lines reading skip workers searched one.0 (alike one.1 one.2 one.3 one.4 it law)).1

  pub accepted_left : FilesOfOneHeadAgree → fault_of file ≡ None → fault_of other ≡ None
  accepted_left law accepted = sym (agree law).faults ∙ accepted

-- ---- the input

-- what is left, by the blocks of the input
pub left_of : (words left : List ℕ) (now live : Replay) (skip : Skip) → now ≡ live → IsLeftToMark skip now.blocks words left → IsLeftToMark skip live.blocks words left
left_of words left now live skip same is = subst (λ (r : Replay). IsLeftToMark skip r.blocks words left) same is

-- the blocks of a log that has lines are the live ones
pub blocks_live : (core log whole : List ℕ) (skip : Skip) (passed : PassedByTexts) (is : IsPassedByTexts core log skip passed) (full : passed.read ≡ Err NoMemory → ⊥) (input : Input)
    (read : IsRead whole log input) → blocks_of passed.read ≡ live_of read.0
blocks_live core log whole skip passed is full input read =
    let lines = lines_of log skip passed.read is.read is.unread full read.0 read.1.is_log in
    lines.2 ∙ ap live_of (logs_are_one log lines.0 read.0 lines.1 read.1.is_log)

module _ (log file other : List ℕ) (check : Bool) (rules : Rules) (kept : KeptTexts) (input after : Input) (consistency : Consistency) (read : IsRead file log input)
    (image : after.image ≡ other) (threads : after.threads ≡ input.threads) (live : after.live ≡ input.live) (skip : after.skip ≡ input.skip)
    (spans : after.heap_spans ≡ input.heap_spans) (torn : after.torn ≡ input.torn)
    (but_words : AgreeButWords file other) (same_threads : threads_of file ≡ threads_of other) where
  spans_cover : CoverSameOutside after.live.blocks after.heap_spans (spans_of after.skip read.0)
  spans_cover = subst (λ (r : Replay). CoverSameOutside r.blocks after.heap_spans (spans_of after.skip read.0)) (sym live)
      (subst (λ (s : Skip). CoverSameOutside input.live.blocks after.heap_spans (spans_of s read.0)) (sym skip)
      (subst (λ (ss : List Span). CoverSameOutside input.live.blocks ss (spans_of input.skip read.0)) (sym spans) read.1.heap_spans))

  -- it was read of either file
  read_whole : IsReadOf file log read.0 (record after { image = file })
  read_whole = record {
    accepted = read.1.accepted;
    image = refl;
    threads = threads ∙ read.1.threads;
    is_log = read.1.is_log;
    torn = torn ∙ read.1.torn;
    callers = read.1.callers;
    live = live ∙ read.1.live;
    heap_spans = spans_cover;
  }

  read_here : IsReadOf after.image log read.0 after
  read_here = record {
    accepted = subst (λ (f : List ℕ). IsCore f) (sym image) (core_faultless file other but_words.faults but_words.note_faults read.1.accepted);
    image = refl;
    threads = threads ∙ read.1.threads ∙ same_threads ∙ ap threads_of (sym image);
    is_log = read.1.is_log;
    torn = torn ∙ read.1.torn;
    callers = read.1.callers;
    live = live ∙ read.1.live;
    heap_spans = spans_cover;
  }

  pub is_prepared : ((workers : ℕ) (searched : Searched) → MarksOne other log read.0 (distances_of rules.reading) rules.skip workers searched
      → MarksOne file log read.0 (distances_of rules.reading) rules.skip workers searched)
      → option_map (λ (v : Vec Bool Global). v.items) consistency.fits ≡ fits_with check input → IsLogOf input kept log
      → IsPrepared file log check rules after consistency kept
  is_prepared marks_law fits texts = record {
    lines = read.0;
    whole = read_whole;
    here = read_here;
    marks = λ workers searched marks. marks_law workers searched (subst (λ (f : List ℕ). MarksOne f log read.0 (distances_of rules.reading) rules.skip workers searched) image marks);
    faults = λ e fault. search_refused other file (sym but_words.faults) (sym but_words.note_faults) log e (subst (λ (f : List ℕ). IsFaultOfOne f log e) image fault);
    fits = fits ∙ fits_are check file log read.0 input read.1;
    texts = subst (λ (r : Replay). AreTextsOf log r.blocks kept) (sym live) texts.texts;
  }

-- an input that has what it had but the words that marking does not need
pub prepared_again : FilesOfOneHeadAgree → ThreadsOfOneHeadAreOne → MarksOfAlikeAreOne → PrunedAreAlike
    → (core log : List ℕ) (check : Bool) (rules : Rules) (passed : PassedByTexts) (held left : List ℕ) (input after : Input) (consistency : Consistency)
    → IsPassedByTexts core log rules.skip passed → held ≡ passed.held.items → (passed.read ≡ Err NoMemory → ⊥) → IsRead (held ++ bytes_behind passed.words passed.len) log input
    → IsLeftToMark rules.skip input.live.blocks passed.words left → after.image ≡ held ++ bytes_behind left passed.len → after.threads ≡ input.threads → after.live ≡ input.live
    → after.skip ≡ input.skip → after.heap_spans ≡ input.heap_spans → after.torn ≡ input.torn
    → option_map (λ (v : Vec Bool Global). v.items) consistency.fits ≡ fits_with check input
    → IsPrepared (held ++ bytes_behind passed.words passed.len) log check rules after consistency passed.texts
prepared_again agree_law threads_law marks_law alike_law core log check rules passed held left input after consistency is same_held full read is_left image threads live skip spans torn fits =
    let kept : IsKept core rules.skip (blocks_of passed.read) held passed.words passed.len =
    subst (λ (h : List ℕ). IsKept core rules.skip (blocks_of passed.read) h passed.words passed.len) (sym same_held) is.kept in
    let file : List ℕ = held ++ bytes_behind passed.words passed.len in
    let numbered = blocks_live core log file rules.skip passed is full input read in
    let same_blocks = input_blocks file log read.0 input read.1 in
    let reading : Distances = distances_of rules.reading in
    is_prepared log file (held ++ bytes_behind left passed.len) check rules passed.texts input after consistency read image threads live skip spans torn
    (agree core rules.skip (blocks_of passed.read) input.live.blocks held passed.words left passed.len kept is_left agree_law)
    (threads_same core rules.skip (blocks_of passed.read) input.live.blocks held passed.words left passed.len kept is_left threads_law)
    (marks_left core rules.skip (blocks_of passed.read) input.live.blocks held passed.words left passed.len kept is_left log read.0 reading read.1.is_log read.1.accepted.headers numbered same_blocks marks_law alike_law)
    fits
    (is_log_of core log file rules.skip passed input is full read)

-- ---- the search

module _ (core log : List ℕ) (check : Bool) (rules : Rules) (input : Input) (consistency : Consistency) (kept : KeptTexts) (it : IsPrepared core log check rules input consistency kept) (workers : ℕ) (searched : Searched)
    (marks : OfLogs input (λ l lines. MarksOne input.image l lines (distances_of rules.reading) rules.skip workers searched)) (fits : searched.fits ≡ consistency.fits) where
  searches : SearchesOne core log it.lines (distances_of rules.reading) rules.skip check workers searched
  searches = record {
    marks = it.marks workers searched (marks log it.lines it.here);
    fits = ap (option_map (λ (v : Vec Bool Global). v.items)) fits ∙ it.fits;
  }

  blocks_are : input.live.blocks ≡ live_of it.lines
  blocks_are = input_blocks core log it.lines (record input { image = core }) it.whole

  pub kept_texts : AreKeptOf log input.live.blocks kept
  kept_texts = it.texts (subst (λ (bs : List Block). length bs < 2 ^ 32) (sym blocks_are) searches.marks.few)

  pub one_each : length searched.set.items ≡ length input.live.blocks
  one_each = set_each core log it.lines (distances_of rules.reading) rules.skip check workers searched searches input.live.blocks (ap length blocks_are)

  pub an_entry_each : length searched.heads.items ≡ length input.live.blocks
  an_entry_each = heads_each core log it.lines (distances_of rules.reading) rules.skip check workers searched searches input.live.blocks (ap length blocks_are)

  pub a_fit_each : IfSome searched.fits (λ v. length v.items ≡ length input.live.blocks)
  a_fit_each = told_each core log it.lines (distances_of rules.reading) rules.skip check workers searched searches input.live.blocks (ap length blocks_are)

  pub finds_prepared : (found : Found)
      → ((l : List ℕ) → AreKeptOf l input.live.blocks kept
      → found.report.items ≡ text_of searched.head input.live.blocks searched.set.items searched.heads.items (option_map (λ (v : Vec Bool Global). v.items) searched.fits) l)
      → found.leaked ≡ length (leaked_in searched.set.items input.live.blocks) → found.claims ≡ searched.claims
      → FindsOne core log (distances_of rules.reading) rules.skip check workers found
  finds_prepared found report leaked claims =
      finds_searched core log it.lines (distances_of rules.reading) rules.skip check workers (record input { image = core }) searched found it.whole searches
      (report log kept_texts) leaked claims
