-- A search goes on with what is left of a core and its log, and with what was listed of that.
use Rattle.std.proofs.Common.{◌≡◌, ◌∙◌, ℕ, Bool, List, ◌++◌, length, Vec, Global, IfSome, option_map, refl, sym, ap, subst}
use Rattle.std.specs.Prelude.{Err}
use Rattle.leak_mtrace.specs.declared.error.LogError.TheVariants.{NoMemory}
use Rattle.leak_blocks.specs.Live.{Replay}
use Rattle.leak_index.specs.Readings.{distances_of}
use Rattle.leak_roots.specs.declared.skip.Skip.{Skip}
use Rattle.leak_report.specs.Report.{text_of}
use Rattle.leak_report.specs.Totals.{leaked_in}
use Rattle.leak_search.specs.Inputs.{IsRead}
use Rattle.leak_search.specs.Search.{FindsOne}
use Rattle.leak_search.specs.Searched.{MarksOne, OfLogs}
use Rattle.leak_search.specs.Signs.{fits_with}
use Rattle.leak_search.specs.Listed.{IsListedInput}
use Rattle.leak_search.specs.declared.found.Found.{Found}
use Rattle.leak_search.specs.declared.found.Searched.{Searched}
use Rattle.leak_search.specs.declared.inputs.Input.{Input}
use Rattle.leak_search.specs.declared.listed.ListedInput.{ListedInput}
use Rattle.leak_search.specs.declared.signing.Consistency.{Consistency}
use Rattle.leak_search.specs.declared.rules.Rules.{Rules}
use Rattle.leak_index.specs.Leads.{Distances}
use Rattle.leak_sift.specs.Behind.{bytes_behind}
use Rattle.leak_alike.specs.AlikeToMark.{MarksOfAlikeAreOne, PrunedAreAlike}
use Rattle.leak_alike.specs.OneHead.{FilesOfOneHeadAgree, ThreadsOfOneHeadAreOne}
use Rattle.leak_replaying.specs.declared.texts.KeptTexts.{KeptTexts}
use Rattle.leak_replaying.specs.Texts.{AreKeptOf, blocks_of}
use Rattle.leak_passing.specs.declared.passed.PassedByTexts.{PassedByTexts}
use Rattle.leak_passing.specs.declared.pruning.Left.{Left}
use Rattle.leak_passing.specs.Left.{IsLeftOf, IsListedOf, IsMadeOf, core_left}
use Rattle.leak_passing.specs.Passed.{IsPassedByTexts}
use Rattle.leak_passing.specs.Prepared.{IsLeftToMark}
use Rattle.leak_passing.proofs.PreparedLemmas.{a_fit_each, accepted_left, an_entry_each, finds_prepared, kept_texts, left_of, left_or_head, left_words, one_each, prepared_again}

-- ---- what is left

-- the core of which the words were kept that marking needs not, too
abbrev pub core_passed : PassedByTexts → List ℕ
core_passed passed = passed.held.items ++ bytes_behind passed.words passed.len

-- what was read in one pass, without the words that marking does not need
pub left_of_passed : FilesOfOneHeadAgree → ThreadsOfOneHeadAreOne → MarksOfAlikeAreOne → PrunedAreAlike
    → (core log : List ℕ) (check : Bool) (rules : Rules) (passed : PassedByTexts) (left : Left) (input : Input) (consistency : Consistency)
    → IsPassedByTexts core log rules.skip passed → (passed.read ≡ Err NoMemory → ⊥) → IsRead (core_passed passed) log input
    → left.held.items ≡ passed.held.items → left.len ≡ passed.len → IsLeftToMark rules.skip left.others.live.blocks passed.words left.words
    → left.others.threads ≡ input.threads → left.others.live ≡ input.live → left.others.skip ≡ input.skip → left.others.heap_spans ≡ input.heap_spans → left.others.torn ≡ input.torn
    → option_map (λ (v : Vec Bool Global). v.items) consistency.fits ≡ fits_with check input
    → IsLeftOf (core_passed passed) log check rules left consistency passed.texts
left_of_passed agree_law threads_law marks_law alike_law core log check rules passed left input consistency is full read held len is_left threads live skip spans torn fits =
    let file : core_left left ≡ passed.held.items ++ bytes_behind left.words passed.len =
    ap (λ (h : List ℕ). h ++ bytes_behind left.words left.len) held ∙ ap (λ (n : ℕ). passed.held.items ++ bytes_behind left.words n) len in
    let blocks = left.others.live.blocks in
    record {
      words = rw (len) (left_words core rules.skip (blocks_of passed.read) blocks passed.held.items passed.words left.words passed.len is.kept is_left);
      head = rw (len, held) (left_or_head core rules.skip (blocks_of passed.read) blocks passed.held.items passed.words left.words passed.len is.kept is_left);
      accepted = rw (file) (accepted_left core rules.skip (blocks_of passed.read) blocks passed.held.items passed.words left.words passed.len is.kept is_left agree_law read.1.accepted.headers);
      prepared = λ after made.
          prepared_again agree_law threads_law marks_law alike_law core log check rules passed passed.held.items left.words input after consistency is refl full read
          (left_of passed.words left.words left.others.live input.live rules.skip live is_left)
          (made.image ∙ file) (made.threads ∙ threads) (made.live ∙ live) (made.skip ∙ skip) (made.spans ∙ spans) (made.torn ∙ torn) fits;
    }

-- the input that was made
pub made_of : (left : Left) (held : List ℕ) (input : Input) → held ≡ left.held.items → input.image ≡ held ++ bytes_behind left.words left.len
    → input.threads ≡ left.others.threads → input.live ≡ left.others.live → input.skip ≡ left.others.skip → input.heap_spans ≡ left.others.heap_spans → input.torn ≡ left.others.torn
    → IsMadeOf left input
made_of left held input same image threads live skip spans torn = record {
  image = image ∙ ap (λ (h : List ℕ). h ++ bytes_behind left.words left.len) same;
  threads = threads;
  live = live;
  skip = skip;
  spans = spans;
  torn = torn;
}

-- ---- what was listed

module _ (core log : List ℕ) (check : Bool) (rules : Rules) (live : Replay) (listed : ListedInput) (consistency : Consistency) (kept : KeptTexts)
    (it : IsListedOf core log check rules live listed consistency kept) (workers : ℕ) (searched : Searched)
    (marks : (input : Input) (reading : Distances) → IsListedInput input reading listed → OfLogs input (λ l lines. MarksOne input.image l lines reading input.skip workers searched))
    (fits : searched.fits ≡ consistency.fits) where
  marked : OfLogs it.input (λ l lines. MarksOne it.input.image l lines (distances_of rules.reading) rules.skip workers searched)
  marked = subst (λ (s : Skip). OfLogs it.input (λ l lines. MarksOne it.input.image l lines (distances_of rules.reading) s workers searched)) it.skip
      (marks it.input (distances_of rules.reading) it.lists)

  pub listed_texts : AreKeptOf log live.blocks kept
  listed_texts = subst (λ (r : Replay). AreKeptOf log r.blocks kept) it.live_is
      (kept_texts core log check rules it.input consistency kept it.prepared workers searched marked fits)

  pub one_each_listed : length searched.set.items ≡ length live.blocks
  one_each_listed = subst (λ (r : Replay). length searched.set.items ≡ length r.blocks) it.live_is
      (one_each core log check rules it.input consistency kept it.prepared workers searched marked fits)

  pub an_entry_each_listed : length searched.heads.items ≡ length live.blocks
  an_entry_each_listed = subst (λ (r : Replay). length searched.heads.items ≡ length r.blocks) it.live_is
      (an_entry_each core log check rules it.input consistency kept it.prepared workers searched marked fits)

  pub a_fit_each_listed : IfSome searched.fits (λ v. length v.items ≡ length live.blocks)
  a_fit_each_listed = subst (λ (r : Replay). IfSome searched.fits (λ v. length v.items ≡ length r.blocks)) it.live_is
      (a_fit_each core log check rules it.input consistency kept it.prepared workers searched marked fits)

  pub finds_listed : (found : Found)
      → ((l : List ℕ) → AreKeptOf l live.blocks kept
      → found.report.items ≡ text_of searched.head live.blocks searched.set.items searched.heads.items (option_map (λ (v : Vec Bool Global). v.items) searched.fits) l)
      → found.leaked ≡ length (leaked_in searched.set.items live.blocks) → found.claims ≡ searched.claims
      → FindsOne core log (distances_of rules.reading) rules.skip check workers found
  finds_listed found report leaked claims =
      finds_prepared core log check rules it.input consistency kept it.prepared workers searched marked fits found
      (subst (λ (r : Replay). (l : List ℕ) → AreKeptOf l r.blocks kept
      → found.report.items ≡ text_of searched.head r.blocks searched.set.items searched.heads.items (option_map (λ (v : Vec Bool Global). v.items) searched.fits) l) (sym it.live_is) report)
      (subst (λ (r : Replay). found.leaked ≡ length (leaked_in searched.set.items r.blocks)) (sym it.live_is) leaked) claims
