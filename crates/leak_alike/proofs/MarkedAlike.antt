-- Marking finds in a core what it finds in one whose words lead to the same blocks, if as much is left out of its root words.
use Rattle.std.proofs.Common.{◌≡◌, ℕ, ◌+◌, Bool, true, not, ◌&&◌, ◌==◌, List, [], ◌++◌, length, map, filter, flat_map, is_some, Option, Some, None, refl, ap, ap₂, ◌∙◌}
use mathlib.Core.Path.{fun_ext}
use Rattle.std.specs.Prelude.{if◌then◌else◌}
use Rattle.std.specs.List.{AllByRecursion, enumerate_from, list_all, list_any, range_with_len}
use Rattle.leak_elf.specs.Segments.{lacking, undumped_of}
use Rattle.leak_elf.specs.Words.{places, word_of}
use Rattle.leak_elf.specs.declared.segment.Segment.{Segment}
use Rattle.leak_notes.specs.Threads.{registers_of}
use Rattle.leak_mtrace.specs.Log.{torn_of}
use Rattle.leak_mtrace.specs.declared.line.Line.{Line}
use Rattle.leak_blocks.specs.Live.{live_of, replay_of}
use Rattle.leak_blocks.specs.declared.block.Block.{Block}
use Rattle.leak_index.specs.Hits.{Index}
use Rattle.leak_index.specs.Leads.{Distances}
use Rattle.leak_roots.specs.LeftOut.{LeftOut}
use Rattle.leak_roots.specs.Roots.{dead_places, freed_places, has_roots, is_apart, is_inside, kept_places, outside_places, root_places}
use Rattle.leak_roots.specs.declared.skip.Skip.{Skip}
use Rattle.leak_scan.specs.Heads.{heads_of, is_leaked}
use Rattle.leak_scan.specs.Targets.{block_targets, targets_of}
use Rattle.leak_marks.specs.Reach.{Graph}
use Rattle.leak_pool.specs.Marking.{graph_of, led_in_memory}
use Rattle.leak_report.specs.declared.head.Head.{Head}
use Rattle.leak_search.specs.LeftOut.{dead_told, freed_told, left_out}
use Rattle.leak_search.specs.Search.{first_of, graph_of_one, head_of_one, index_of}
use Rattle.leak_alike.specs.Alike.{AreAlikeWords}
use Rattle.leak_alike.specs.OneHead.{AgreeButWords}
use Rattle.leak_alike.proofs.AlikeWords.{HasSameHeader, block_targets_same, memory_same}

-- what two cores have in common, to marking
pub record HasSameMarks (reading : Distances) (lines : List Line) (skip : Skip) (core other : List ℕ) : Type 0 where
  pub but_words : AgreeButWords core other
  pub words : (a : ℕ) → AreAlikeWords (index_of reading lines) (word_of core a) (word_of other a)
  pub left : left_out skip core (live_of lines) lines ≡ left_out skip other (live_of lines) lines
  pub headers : skip.links ≡ true → AllByRecursion (HasSameHeader (word_of core) (word_of other) (live_of lines)) (live_of lines)

module _ (reading : Distances) (lines : List Line) (skip : Skip) (core other : List ℕ) (same : HasSameMarks reading lines skip core other) where
  abbrev index : Index
  index = index_of reading lines

  -- ---- root words

  has_word_same : (a : ℕ) → is_some (word_of core a) ≡ is_some (word_of other a)
  has_word_same a = go (word_of core a) (word_of other a) (same.words a)
    where
      go : (v w : Option ℕ) → AreAlikeWords index v w → is_some v ≡ is_some w
      go None None alike = refl
      go None (Some w) alike = absurd alike
      go (Some v) None alike = absurd alike
      go (Some v) (Some w) alike = refl

  outside_same : (unwritable : Bool) → outside_places unwritable core (live_of lines) ≡ outside_places unwritable other (live_of lines)
  unfolding outside_places
  outside_same unwritable =
      ap₂ (λ (has : ℕ → Bool) (segments : List Segment).
      flat_map (λ (s : Segment). filter (λ (a : ℕ). has a && list_all (is_apart a) (live_of lines)) (places s.vaddr (s.vaddr + s.filesz))) (filter (has_roots unwritable) segments))
      (fun_ext has_word_same) same.but_words.segments

  -- the same of what is made of the places outside the blocks, and of what is left out
  places_same : {X : Type 0} (make : LeftOut → List ℕ → X)
      → make (left_out skip core (live_of lines) lines) (outside_places skip.unwritable core (live_of lines))
      ≡ make (left_out skip other (live_of lines) lines) (outside_places skip.unwritable other (live_of lines))
  places_same make = ap₂ make same.left (outside_same skip.unwritable)

  roots_same : root_places (left_out skip core (live_of lines) lines) core (live_of lines) ≡ root_places (left_out skip other (live_of lines) lines) other (live_of lines)
  unfolding root_places kept_places
  roots_same = places_same {X = List ℕ} (λ left outside. filter (λ a. not (is_inside left.dead a)) (filter (λ a. not (is_inside left.slack a)) (filter (λ a. not (is_inside left.freed a)) outside)))

  freed_same : freed_places (left_out skip core (live_of lines) lines) core (live_of lines) ≡ freed_places (left_out skip other (live_of lines) lines) other (live_of lines)
  unfolding freed_places
  freed_same = places_same {X = List ℕ} (λ left outside. filter (is_inside left.freed) outside)

  dead_places_same : dead_places (left_out skip core (live_of lines) lines) core (live_of lines) ≡ dead_places (left_out skip other (live_of lines) lines) other (live_of lines)
  unfolding dead_places kept_places
  dead_places_same = places_same {X = List ℕ} (λ left outside. filter (is_inside left.dead) (filter (λ a. not (is_inside left.slack a)) (filter (λ a. not (is_inside left.freed a)) outside)))

  freed_told_same : freed_told skip core (live_of lines) lines ≡ freed_told skip other (live_of lines) lines
  freed_told_same = ap (λ (freed : List ℕ). if skip.freed then Some (length freed) else None) freed_same

  dead_told_same : dead_told skip core (live_of lines) lines ≡ dead_told skip other (live_of lines) lines
  dead_told_same = ap (λ (dead : List ℕ). if skip.dead then Some (length dead) else None) dead_places_same

  -- ---- what is found

  first_same : first_of core index skip lines ≡ first_of other index skip lines
  first_same =
      ap₂ (λ (registers addresses : List ℕ). targets_of index registers ++ led_in_memory skip.links (word_of core) index addresses) same.but_words.registers roots_same
      ∙ ap (λ (led : List ℕ). targets_of index (registers_of other) ++ led)
      (memory_same (word_of core) (word_of other) index same.words skip.links same.headers (root_places (left_out skip other (live_of lines) lines) other (live_of lines)))

  targets_same : block_targets (word_of core) index ≡ block_targets (word_of other) index
  targets_same = block_targets_same (word_of core) (word_of other) index same.words

  pub graph_same : graph_of_one core reading skip lines ≡ graph_of_one other reading skip lines
  unfolding graph_of
  graph_same = ap₂ graph first_same targets_same
    where
      graph : List ℕ → (Block → List ℕ) → Graph
      graph first targets = record { first = first; targets = map targets (live_of lines); given = [] }

  pub heads_same : (set : List Bool) → heads_of (word_of core) index set ≡ heads_of (word_of other) index set
  unfolding heads_of
  heads_same set =
      ap (λ (targets : Block → List ℕ). map (λ (b : ℕ). is_leaked set b && not (list_any (λ (c : ℕ × Block). is_leaked set c.0 && not (c.0 == b) && list_any (λ target. target == b) (targets c.1))
      (enumerate_from 0 (live_of lines)))) (range_with_len 0 (length (live_of lines)))) targets_same

  pub head_same : (log : List ℕ) → head_of_one core log skip lines ≡ head_of_one other log skip lines
  unfolding undumped_of
  head_same log =
      ap (λ (undumped : ℕ). head undumped (freed_told skip core (live_of lines) lines) (dead_told skip core (live_of lines) lines)) (ap lacking same.but_words.segments)
      ∙ ap₂ (head (undumped_of other)) freed_told_same dead_told_same
    where
      head : ℕ → Option ℕ → Option ℕ → Head
      head undumped freed dead = record {
        undumped = undumped;
        unknown = (replay_of lines).unknown;
        displaced = (replay_of lines).displaced;
        torn = torn_of log;
        freed = freed;
        dead = dead;
        two = None;
      }
