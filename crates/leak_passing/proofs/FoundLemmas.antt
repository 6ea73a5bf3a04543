-- What is found of what was read in one pass.
use Rattle.std.proofs.Common.{◌≡◌, ◌∙◌, ℕ, ◌+◌, ◌/◌, ◌⊎◌, inl, inr, Bool, List, [], ◌∷◌, ◌++◌, length, sym, ap, subst, arith}
use Rattle.std.specs.Prelude.{◌≢◌, Result, Ok, Err, IfOk, IfErr}
use Rattle.std.proofs.lemmas.List.{append-nil}
use Rattle.leak_elf.specs.Head.{IsHead}
use Rattle.leak_elf.specs.Segments.{segments_of}
use Rattle.leak_mtrace.specs.declared.error.LogError.{LogError}
use Rattle.leak_mtrace.specs.declared.error.LogError.TheVariants.{NoMemory}
use Rattle.leak_mtrace.specs.declared.line.Line.{Line}
use Rattle.leak_mtrace.specs.Log.{IsLog, IsFirstFault}
use Rattle.leak_mtrace.proofs.SameLogLemmas.{no_fault}
use Rattle.leak_blocks.specs.declared.block.Block.{Block}
use Rattle.leak_blocks.specs.declared.replaying.Replayed.{Replayed}
use Rattle.leak_blocks.specs.declared.small.Span.{Span}
use Rattle.leak_blocks.specs.Live.{Replay, live_of, replay_of}
use Rattle.leak_index.specs.Leads.{Distances}
use Rattle.leak_roots.specs.declared.skip.Skip.{Skip}
use Rattle.leak_sift.specs.Behind.{HasWords, bytes_behind}
use Rattle.leak_sift.specs.Sifted.{kept_at, sifted}
use Rattle.leak_sift.proofs.WordLemmas.{length-by_words}
use Rattle.leak_search.specs.Inputs.{IsFaultOfOne, IsReadLog}
use Rattle.leak_search.specs.Search.{FindsOne}
use Rattle.leak_search.specs.Signs.{AreSigns}
use Rattle.leak_search.specs.declared.error.FindError.{FindError}
use Rattle.leak_search.specs.declared.found.Found.{Found}
use Rattle.leak_alike.specs.SiftedCores.{SearchesOfSiftedAreOne, SignsOfSiftedAreOne, RefusedOfSiftedAreOne, rule_of, sifted_core}
use Rattle.leak_passing.specs.declared.passed.PassedByTexts.{PassedByTexts}
use Rattle.leak_passing.specs.Kept.{IsHeld, IsKept, IsSifted, rule_by}
use Rattle.leak_replaying.specs.Texts.{blocks_of}
use Rattle.leak_passing.specs.Passed.{IsPassedByTexts}

-- ---- results

-- of an `Ok`, what follows from two facts
pub both_ok : {T E : Type 0} (r : Result T E) (P Q S : T → Type 0) → ((x : T) → P x → Q x → S x) → IfOk r P → IfOk r Q → IfOk r S
both_ok (Ok x) P Q S f p q = f x p q
both_ok (Err e) P Q S f p q = tt

-- a fact about a file and a text, for equal ones
pub moved : (P : List ℕ → List ℕ → Type 0) (file core text log : List ℕ) → file ≡ core → text ≡ log → P file text → P core log
moved P file core text log same told p = subst (λ (l : List ℕ). P core l) told (subst (λ (l : List ℕ). P l text) same p)

-- ---- the words that are kept

module _ (core : List ℕ) (skip : Skip) (blocks : List Block) (held words : List ℕ) (len : ℕ) where
  pub has_words : IsKept core skip blocks held words len → HasWords words len
  has_words (inl whole) =
      let none : length words ≡ 0 = ap length whole.words_are in
      let zero_long = whole.len_is in
      record { within = omega (arith, none, zero_long); all = omega (arith, none, zero_long) }
  has_words (inr it) =
      let all : length words ≡ length it.more / 8 = ap length it.words_are ∙ length-by_words (λ distance word. kept_at (rule_by skip blocks) (segments_of held) (length held + distance) word) it.more in
      let long = it.len_is in
      record { within = omega (arith, all, long); all = omega (arith, all, long) }

  -- no byte is behind the whole core
  none_behind : IsHeld core held words len → bytes_behind words len ≡ []
  none_behind whole = ap (λ (l : List ℕ). bytes_behind l len) whole.words_are ∙ ap (λ (n : ℕ). bytes_behind [] n) whole.len_is

  pub whole_or_head : IsKept core skip blocks held words len → (bytes_behind words len ≡ []) ⊎ IsHead held
  whole_or_head (inl whole) = inl (none_behind whole)
  whole_or_head (inr it) = inr it.can.head

  pub whole_file : IsHeld core held words len → held ++ bytes_behind words len ≡ core
  whole_file whole = ap (λ (l : List ℕ). held ++ l) (none_behind whole) ∙ append-nil held ∙ whole.whole

  pub sifted_file : (it : IsSifted core skip blocks held words len) → held ++ bytes_behind words len ≡ sifted_core (rule_by skip blocks) held it.more
  sifted_file it = ap (λ (l : List ℕ). held ++ bytes_behind l len) it.words_are
      ∙ ap (λ (n : ℕ). held ++ bytes_behind (sifted (rule_by skip blocks) (segments_of held) (length held) it.more) n) it.len_is

-- ---- the log

-- if the log has lines, its blocks are the live ones
pub lines_of : (log : List ℕ) (skip : Skip) (read : Result (Replayed × List Span) LogError) → IfOk read (IsReadLog skip log) → IfErr read (λ e. e ≢ NoMemory → IsFirstFault log e)
    → (read ≡ Err NoMemory → ⊥) → (lines : List Line) → IsLog log lines → (lines : List Line) × IsLog log lines × (blocks_of read ≡ live_of lines)
unfolding replay_of
lines_of log skip (Ok parts) read unread full lines is = (read.0, read.1.is_log, ap (λ (it : Replay). it.blocks) read.1.live)
lines_of log skip (Err e) read unread full lines is = absurd (no_fault log lines e is (unread (λ same. full (ap Err same))))

-- ---- a search

module _ (core log : List ℕ) (skip : Skip) (passed : PassedByTexts) (is : IsPassedByTexts core log skip passed) where
  abbrev file : List ℕ
  file = passed.held.items ++ bytes_behind passed.words passed.len

  pub finds_core : SearchesOfSiftedAreOne → (passed.read ≡ Err NoMemory → ⊥) → (reading : Distances) (check : Bool) (workers : ℕ) (found : Found)
      → FindsOne file log reading skip check workers found → FindsOne core log reading skip check workers found
  finds_core law full reading check workers found finds = go is.kept
    where
      go : IsKept core skip (blocks_of passed.read) passed.held.items passed.words passed.len → FindsOne core log reading skip check workers found
      go (inl whole) = subst (λ (l : List ℕ). FindsOne l log reading skip check workers found) (whole_file core skip (blocks_of passed.read) passed.held.items passed.words passed.len whole) finds
      go (inr it) =
          let lines = lines_of log skip passed.read is.read is.unread full finds.lines finds.is_log in
          let same : file ≡ sifted_core (rule_of lines.0 skip) passed.held.items it.more =
          sifted_file core skip (blocks_of passed.read) passed.held.items passed.words passed.len it
          ∙ ap (λ (bs : List Block). sifted_core (rule_by skip bs) passed.held.items it.more) lines.2 in
          subst (λ (l : List ℕ). FindsOne l log reading skip check workers found) (sym it.core_is)
          ((law passed.held.items it.more log lines.0 reading skip check workers found it.can it.alive lines.1).1
          (subst (λ (l : List ℕ). FindsOne l log reading skip check workers found) same finds))

  pub signs_core : SearchesOfSiftedAreOne → SignsOfSiftedAreOne → (passed.read ≡ Err NoMemory → ⊥) → (reading : Distances) (check : Bool) (workers : ℕ) (found : Found) (other_heap : Bool)
      → FindsOne file log reading skip check workers found → AreSigns other_heap (file ∷ log ∷ []) found.signs.items → AreSigns other_heap (core ∷ log ∷ []) found.signs.items
  signs_core searches law full reading check workers found other_heap finds signs = go is.kept
    where
      go : IsKept core skip (blocks_of passed.read) passed.held.items passed.words passed.len → AreSigns other_heap (core ∷ log ∷ []) found.signs.items
      go (inl whole) = subst (λ (l : List ℕ). AreSigns other_heap (l ∷ log ∷ []) found.signs.items) (whole_file core skip (blocks_of passed.read) passed.held.items passed.words passed.len whole) signs
      go (inr it) =
          let lines = lines_of log skip passed.read is.read is.unread full finds.lines finds.is_log in
          let same : file ≡ sifted_core (rule_of lines.0 skip) passed.held.items it.more =
          sifted_file core skip (blocks_of passed.read) passed.held.items passed.words passed.len it
          ∙ ap (λ (bs : List Block). sifted_core (rule_by skip bs) passed.held.items it.more) lines.2 in
          let whole = subst (λ (l : List ℕ). FindsOne l log reading skip check workers found) it.core_is (finds_core searches full reading check workers found finds) in
          subst (λ (l : List ℕ). AreSigns other_heap (l ∷ log ∷ []) found.signs.items) (sym it.core_is)
          ((law passed.held.items it.more log lines.0 skip other_heap found.signs.items it.can whole.accepted.headers it.alive lines.1).1
          (subst (λ (l : List ℕ). AreSigns other_heap (l ∷ log ∷ []) found.signs.items) same signs))

  pub refused_core : RefusedOfSiftedAreOne → (e : FindError) → IsFaultOfOne file log e → IsFaultOfOne core log e
  refused_core law e fault = go is.kept
    where
      go : IsKept core skip (blocks_of passed.read) passed.held.items passed.words passed.len → IsFaultOfOne core log e
      go (inl whole) = subst (λ (l : List ℕ). IsFaultOfOne l log e) (whole_file core skip (blocks_of passed.read) passed.held.items passed.words passed.len whole) fault
      go (inr it) =
          subst (λ (l : List ℕ). IsFaultOfOne l log e) (sym it.core_is)
          ((law (rule_by skip (blocks_of passed.read)) passed.held.items it.more log e it.can.head).1
          (subst (λ (l : List ℕ). IsFaultOfOne l log e) (sifted_file core skip (blocks_of passed.read) passed.held.items passed.words passed.len it) fault))
