-- A word that is not kept is outside the blocks and near none of them, and no rule asks for it.
use Rattle.std.proofs.Common.{◌≡◌, ℕ, ◌+◌, ◌-◌, ◌⊎◌, inl, inr, Bool, true, false, not, ◌&&◌, ◌==◌, List, [], ◌++◌, length, slice_get, Option, Some, None, option_map, refl, sym, ap, subst, ◌∙◌, Contains, nat_lt, arith}
use Rattle.std.specs.Prelude.{if◌then◌else◌}
use Rattle.std.specs.List.{list_any}
use Rattle.std.specs.Option.{option_map_or}
use Rattle.std.proofs.lemmas.Bool.{eq-eqb, ltb-true, or_cases, or_left, or_right}
use Rattle.std.proofs.lemmas.List.Folds.{list_any_at}
use Rattle.leak_elf.specs.Refusals.{fault_of}
use Rattle.leak_elf.specs.Words.{word_of}
use Rattle.leak_mtrace.specs.Log.{IsLog}
use Rattle.leak_mtrace.specs.declared.line.Line.{Line}
use Rattle.leak_mtrace.proofs.SameLogLemmas.{logs_are_one}
use Rattle.leak_blocks.specs.Live.{live_of}
use Rattle.leak_blocks.specs.declared.block.Block.{Block}
use Rattle.leak_chunks.specs.Fit.{least_chunk}
use Rattle.leak_index.specs.Leads.{Distances}
use Rattle.leak_sift.specs.Kept.{is_near, is_near_block, is_outside, kept_of}
use Rattle.leak_roots.specs.declared.skip.Skip.{Skip}
use Rattle.leak_search.specs.Search.{index_of}
use Rattle.leak_alike.specs.Alike.{AreAlikeBy, AreAlikeCores, AreAlikeWords, IsAsked, size_word, next_size_word, header_word, record_word, frame_word}
use Rattle.leak_alike.specs.AskedWords.{IsNear, distances, own, past}
use Rattle.leak_alike.specs.Nowhere.{IsOutside, above, below}
use Rattle.leak_alike.specs.SiftedCores.{CanBeSifted, rule_of, sifted_core}
use Rattle.leak_alike.proofs.AskedPlaces.{asked_near}
use Rattle.leak_alike.proofs.NowhereWords.{outside_like_zero}
use Rattle.leak_alike.proofs.OneHeads.{agree_but_words}
use Rattle.leak_alike.proofs.SiftedWords.{behind, sifted_long, sifted_words_kept}

-- ---- words that are not kept

pub outside_is : (blocks : List Block) (word : ℕ) → is_outside blocks word ≡ true → IsOutside blocks word
outside_is blocks word e = go (or_cases (first (slice_get blocks 0)) (last (slice_get blocks (length blocks - 1))) e)
  where
    first : Option Block → Bool
    first o = option_map_or (λ (b : Block). nat_lt word b.start) o true

    last : Option Block → Bool
    last o = option_map_or (λ (b : Block). nat_lt (b.start + b.size) word) o true

    go : (first (slice_get blocks 0) ≡ true) ⊎ (last (slice_get blocks (length blocks - 1)) ≡ true) → IsOutside blocks word
    go (inl is) = below (λ b here. ltb-true word b.start (sym (ap first here) ∙ is))
    go (inr is) = above (λ b here. ltb-true (b.start + b.size) word (sym (ap last here) ∙ is))

module _ (log : List ℕ) (lines : List Line) (reading : Distances) (links : Bool) (a : ℕ) (is : IsLog log lines) where
  word_alike : (word : ℕ) → AreAlikeWords (index_of reading lines) (Some word) (Some (kept_of (live_of lines) links a word))
  word_alike word = go (is_outside (live_of lines) word) (outside_is (live_of lines) word) (is_near (live_of lines) links a)
    where
      go : (t : Bool) → (t ≡ true → IsOutside (live_of lines) word) → (u : Bool) → AreAlikeWords (index_of reading lines) (Some word) (Some (if t && not u then 0 else word))
      go false outside u = inl refl
      go true outside true = inl refl
      go true outside false = outside_like_zero log lines reading word is (outside refl)

  words_alike : (o : Option ℕ) → AreAlikeWords (index_of reading lines) o (option_map (λ word. kept_of (live_of lines) links a word) o)
  words_alike None = tt
  words_alike (Some word) = word_alike word

-- ---- words that rules ask for

near_block : (blocks : List Block) (links : Bool) (place : ℕ) (b : Block) → Contains blocks b → is_near_block links place b ≡ true → is_near blocks links place ≡ true
near_block blocks links place b has here = list_any_at (is_near_block links place) blocks has.0 b has.1 (ap (is_near_block links place) has.2 ∙ here)

near_is : (blocks : List Block) (links : Bool) (place : ℕ) → IsNear blocks links place → is_near blocks links place ≡ true
near_is blocks links place (own b has) =
    near_block blocks links (b.start - 8) b has
    (or_left (b.start - 8 == b.start - 8) (list_any (λ (d : ℕ). b.start - 8 == b.start + least_chunk b.size - 8 + d) (distances links)) (eq-eqb (b.start - 8) (b.start - 8) refl))
near_is blocks links place (past b distance has one) =
    let at = b.start + least_chunk b.size - 8 + distance in
    let test : ℕ → Bool = λ d. at == b.start + least_chunk b.size - 8 + d in
    near_block blocks links at b has
    (or_right (at == b.start - 8) (list_any test (distances links))
    (list_any_at test (distances links) one.0 distance one.1 (ap test one.2 ∙ eq-eqb at at refl)))

near_kept : (blocks : List Block) (links : Bool) (place : ℕ) → is_near blocks links place ≡ true → (o : Option ℕ) → option_map (λ word. kept_of blocks links place word) o ≡ o
near_kept blocks links place near None = refl
near_kept blocks links place near (Some word) = ap (λ (n : ℕ). Some n) (go (is_outside blocks word) (is_near blocks links place) near)
  where
    go : (t u : Bool) → u ≡ true → (if t && not u then 0 else word) ≡ word
    go false u e = refl
    go true true e = refl
    go true false e = absurd (cc)

nothing_asked : (core : List ℕ) (skip : Skip) (a : ℕ) → skip.dead ≡ false → IsAsked core [] skip a → ⊥
nothing_asked core skip a live (size_word b has) = omega (arith, has.1)
nothing_asked core skip a live (next_size_word b word has e heap fits) = omega (arith, has.1)
nothing_asked core skip a live (header_word b d links has least free one) = omega (arith, has.1)
nothing_asked core skip a live (record_word t p dead has low high) = let no : false ≡ true = sym live ∙ dead in cc
nothing_asked core skip a live (frame_word t k p dead has e low high) = let no : false ≡ true = sym live ∙ dead in cc

-- ---- cores

module _ (held rest log : List ℕ) (lines : List Line) (reading : Distances) (skip : Skip) (can : CanBeSifted held rest) (accepted : fault_of (held ++ rest) ≡ None)
    (live : skip.dead ≡ false) (is : IsLog log lines) where
  kept_word : (a : ℕ) → word_of (sifted_core (rule_of lines skip) held rest) a ≡ option_map (λ word. kept_of (live_of lines) skip.links a word) (word_of (held ++ rest) a)
  kept_word a = sifted_words_kept (rule_of lines skip) held rest a can accepted

  asked_kept : (a : ℕ) → IsAsked (held ++ rest) (live_of lines) skip a → word_of (held ++ rest) a ≡ word_of (sifted_core (rule_of lines skip) held rest) a
  asked_kept a asked = go (asked_near (held ++ rest) (live_of lines) skip a asked)
    where
      go : IsNear (live_of lines) skip.links a ⊎ IsAsked (held ++ rest) [] skip a → word_of (held ++ rest) a ≡ word_of (sifted_core (rule_of lines skip) held rest) a
      go (inl near) = sym (kept_word a ∙ near_kept (live_of lines) skip.links a (near_is (live_of lines) skip.links a near) (word_of (held ++ rest) a))
      go (inr none) = absurd (nothing_asked (held ++ rest) skip a live none)

  pub alike_cores : AreAlikeCores (index_of reading lines) skip (held ++ rest) (sifted_core (rule_of lines skip) held rest)
  alike_cores =
      let same = agree_but_words held rest (behind (rule_of lines skip) held rest) can.head (sifted_long (rule_of lines skip) held rest) in
      record {
        faults = same.faults;
        note_faults = same.note_faults;
        segments = same.segments;
        registers = same.registers;
        threads = same.threads;
        random = same.random;
        words = λ a. subst (λ (o : Option ℕ). AreAlikeWords (index_of reading lines) (word_of (held ++ rest) a) o) (sym (kept_word a)) (words_alike log lines reading skip.links a is (word_of (held ++ rest) a));
        asked = asked_kept;
      }

pub alike_by_log : (held rest log : List ℕ) (lines : List Line) (reading : Distances) (skip : Skip) → CanBeSifted held rest → fault_of (held ++ rest) ≡ None
    → skip.dead ≡ false → IsLog log lines → AreAlikeBy log reading skip (held ++ rest) (sifted_core (rule_of lines skip) held rest)
alike_by_log held rest log lines reading skip can accepted live is ls these =
    subst (λ (xs : List Line). AreAlikeCores (index_of reading xs) skip (held ++ rest) (sifted_core (rule_of lines skip) held rest))
    (logs_are_one log lines ls is these) (alike_cores held rest log lines reading skip can accepted live is)
