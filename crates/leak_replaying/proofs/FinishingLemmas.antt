-- What a log comes to whose complete lines were all gone over, and the texts of its live blocks' callers.
use Rattle.std.proofs.Common.{◌≡◌, ◌∙◌, ℕ, ◌+◌, ◌<◌, ◌==◌, Bool, true, false, not, if◌then◌else◌, List, [], ◌++◌, length, map, slice_index_or, refl, ap, sym, subst, arith, length-append}
use mir.Val.{bool_byte}
use Rattle.std.specs.List.{All}
use Rattle.std.proofs.lemmas.List.{length-map}
use Rattle.leak_mtrace.specs.declared.line.Line.{Line}
use Rattle.leak_mtrace.specs.Log.{CallersAreIn, IsLog, LinesFit, torn_of, torn_piece, whole_len_of}
use Rattle.leak_mtrace.proofs.CutLemmas.{Cut, cut_of, joined, len_of_cut, torn_of_cut}
use Rattle.leak_mtrace.proofs.PartLemmas.{callers_of, fits_of, log_ends, torn_joins, whole_len_joins}
use Rattle.leak_blocks.specs.declared.block.Block.{Block}
use Rattle.leak_blocks.specs.declared.replaying.Replayed.{Replayed}
use Rattle.leak_blocks.specs.declared.small.Span.{Span}
use Rattle.leak_blocks.specs.declared.stage.Stage.{Stage}
use Rattle.leak_blocks.specs.Live.{Replay, replay_of}
use Rattle.leak_blocks.specs.Numbers.{IsStageAfter}
use Rattle.leak_blocks.specs.Outcome.{ComesTo}
use Rattle.leak_blocks.specs.Small.{CoverSameOutside, small_spans_of}
use Rattle.leak_blocks.specs.Windows.{live_numbers}
use Rattle.leak_blocks.proofs.LineLemmas.{live_of_lines}
use Rattle.leak_blocks.proofs.StepLemmas.{replayed as blocks_are}
use Rattle.leak_blocks.proofs.WindowLemmas.{picked}
use Rattle.leak_report.specs.Elsewhere.{HaveTextsAt}
use Rattle.leak_report.specs.Totals.{HaveCallersIn, text_at}
use Rattle.leak_report.specs.Numbered.{text_with, texts_of}
use Rattle.leak_report.proofs.Callers.{have_callers}
use Rattle.leak_texts.specs.Texts.{StandAt, bytes_at}
use Rattle.leak_replaying.specs.declared.log_so_far.LogSoFar.{LogSoFar}
use Rattle.leak_replaying.specs.Numbering.{AreNumberedBy}
use Rattle.leak_replaying.specs.Outcome.{spans_if}
use Rattle.leak_replaying.specs.Replaying.{HasPassed}
use Rattle.leak_replaying.proofs.NumberingLemmas.{chosen, chosen_below, wider, within_numbers}
use Rattle.leak_replaying.proofs.TextLemmas.{have_texts}

-- ---- the log

-- the lines that were gone over fit in the address space
pub lines_fit : (log : LogSoFar) (passed : List ℕ) (lines : List Line) (allocated : List Block) → HasPassed log passed lines allocated → LinesFit lines
lines_fit log passed lines allocated has = fits_of passed lines has.are.is_log

-- 1 if there is something
abbrev some_of : List ℕ → ℕ
some_of bytes = if length bytes == 0 then 0 else 1

-- bytes with no line feed are a torn piece
torn_window : (window : List ℕ) → whole_len_of window ≡ 0 → torn_of window ≡ some_of window
torn_window window none =
    let c : Cut window = cut_of window in
    let size : length window ≡ length (joined c.texts) + length c.torn = ap length c.whole ∙ length-append (joined c.texts) c.torn in
    let same : length (torn_piece window) ≡ length window = omega (arith, torn_of_cut window c, len_of_cut window c) in
    ap (λ n. if n == 0 then 0 else 1) same

-- as a byte
pub some_byte : (window : List ℕ) (len : ℕ) (empty : Bool) → empty ≡ (len == 0) → len ≡ length window → bool_byte (not empty) ≡ some_of window
some_byte window len empty is same = ap (λ (e : Bool). bool_byte (not e)) (is ∙ ap (λ (n : ℕ). n == 0) same) ∙ go (length window == 0)
  where
    go : (t : Bool) → bool_byte (not t) ≡ (if t then 0 else 1)
    go true = refl
    go false = refl

pub comes_to : (log : LogSoFar) (passed : List ℕ) (lines : List Line) (allocated : List Block) (replayed : Replayed) → HasPassed log passed lines allocated → whole_len_of log.window.items ≡ 0
    → replayed.live ≡ replay_of lines → replayed.torn ≡ some_of log.window.items → replayed.whole_len ≡ log.at.bytes → ComesTo (passed ++ log.window.items) lines replayed
comes_to log passed lines allocated replayed has none_left live torn whole_len =
    let window : List ℕ = log.window.items in
    let is_log : IsLog (passed ++ window) lines = log_ends passed window lines has.are none_left in
    let both : whole_len_of (passed ++ window) ≡ length passed + whole_len_of window = whole_len_joins passed window has.are.whole in
    record {
      is_log = is_log;
      callers = callers_of (passed ++ window) lines is_log;
      live = live;
      torn = torn ∙ sym (torn_window window none_left) ∙ sym (torn_joins passed window has.are.whole);
      whole_len = omega (arith, whole_len, has.bytes, both, none_left);
    }

-- ---- the spans

-- these are the lines' spans if they are asked for, and else none
abbrev pub AreSpansIf : Bool → List Line → Replay → List Span → Type 0
AreSpansIf spans lines live small = CoverSameOutside live.blocks small (spans_if spans lines)

pub spans_asked : (spans : Bool) (lines : List Line) (live : Replay) (small : List Span) → spans ≡ true → live ≡ replay_of lines
    → CoverSameOutside (replay_of lines).blocks small (small_spans_of lines) → AreSpansIf spans lines live small
spans_asked spans lines live small asked is covers = rw (asked, is) covers

pub spans_not_asked : (spans : Bool) (lines : List Line) (live : Replay) (small : List Span) → spans ≡ false → small ≡ [] → AreSpansIf spans lines live small
spans_not_asked spans lines live small not_asked none = rw (not_asked, none) (λ a outside. refl)

-- ---- the texts

-- the callers of the live blocks are in the log
live_inside : (log : List ℕ) (lines : List Line) → CallersAreIn log lines → HaveCallersIn log (replay_of lines).blocks
live_inside log lines callers = subst (HaveCallersIn log) (sym (blocks_are lines)) (have_callers live_of_lines log lines callers)

-- as many places as texts
pub places_long : (kept : List ℕ) (places : List (ℕ × ℕ)) (texts : List (List ℕ)) → StandAt kept places texts → length places ≡ length texts
places_long kept places texts stand = sym (length-map places (bytes_at kept)) ∙ ap length stand.are

-- these numbers were gathered: for each live block that of its text
module _ (log : LogSoFar) (passed : List ℕ) (lines : List Line) (stage : Stage) (has : HasPassed log passed lines stage.allocated.items) (after : IsStageAfter lines stage)
    (numbers places gathered : List ℕ) (all : numbers ≡ log.numbers.items) (live : places ≡ live_numbers stage) (within : All (λ k. k < length stage.allocated.items) places)
    (are : gathered ≡ map (λ k. slice_index_or numbers k 0) places) where
  at_places : gathered ≡ map (λ k. slice_index_or log.numbers.items k 0) places
  at_places = are ∙ ap (λ (ns : List ℕ). map (λ k. slice_index_or ns k 0) places) all

  pub live_below : All (λ n. n < length log.texts) gathered
  live_below =
      subst (All (λ n. n < length log.texts)) (sym at_places)
      (chosen_below (length log.texts) log.numbers.items places has.texts.below
      (within_numbers passed stage.allocated.items log.texts log.numbers.items places has.texts within))

  at_live : map (λ k. slice_index_or (map (text_with log.texts) log.numbers.items) k []) places ≡ texts_of passed (replay_of lines).blocks
  at_live =
      ap (map (λ k. slice_index_or (map (text_with log.texts) log.numbers.items) k [])) live
      ∙ picked lines stage after (λ (b : Block). text_at passed b.caller) (map (text_with log.texts) log.numbers.items) has.texts.same

  pub live_numbered : AreNumberedBy passed (replay_of lines).blocks log.texts gathered
  live_numbered = record {
    inside = live_inside passed lines (callers_of passed lines has.are.is_log);
    each = has.texts.each;
    below = live_below;
    same = ap (map (text_with log.texts)) at_places
        ∙ chosen passed stage.allocated.items (replay_of lines).blocks log.texts log.numbers.items places has.texts within at_live;
  }

  pub live_have_texts : (read : Replay) (kept narrow : List ℕ) (ranges : List (ℕ × ℕ)) → read ≡ replay_of lines → narrow ≡ gathered → StandAt kept ranges log.texts
      → HaveTextsAt (passed ++ log.window.items) kept ranges narrow read.blocks
  live_have_texts read kept narrow ranges is same stand =
      let all : AreNumberedBy (passed ++ log.window.items) (replay_of lines).blocks log.texts gathered =
      wider passed log.window.items (replay_of lines).blocks log.texts gathered live_numbered in
      rw (is, same) (have_texts (passed ++ log.window.items) kept ranges log.texts gathered (replay_of lines).blocks all.each all.below all.same stand)
