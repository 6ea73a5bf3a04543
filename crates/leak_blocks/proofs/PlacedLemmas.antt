-- The numbered blocks of the lines so far, as they are put in the map and as they are read.
use Rattle.std.proofs.Common.{◌≡◌, ℕ, ◌+◌, ◌<◌, ◌≤◌, refl, sym, subst, ap, ◌∙◌, List, [], ◌∷◌, ◌++◌, length, map, slice_get, Some, append-nil, arith}
use Rattle.std.specs.List.{AllByRecursion}
use Rattle.leak_mtrace.specs.declared.line.Line.{Line}
use Rattle.leak_blocks.specs.declared.block.Block.{Block}
use Rattle.leak_blocks.specs.Span.{AreDisjoint, span_end}
use Rattle.leak_blocks.specs.Live.{live_of, replay_of}
use Rattle.leak_blocks.specs.Numbers.{IsNumbered, AreNumbersOf, entries_of, AreOf, IsNumberedAfter}
use Rattle.leak_blocks.specs.Runs.{AreBetween, MayBePlaced, ArePlacedOf, AreJoinedOf, IsSplit, IsRunAfter}
use Rattle.leak_blocks.proofs.DisjointLemmas.{live_disjoint}
use Rattle.leak_blocks.proofs.NumberedLemmas.{all_numbered, stand_disjoint}
use Rattle.leak_blocks.proofs.StepLemmas.{replayed}
use Rattle.leak_blocks.proofs.RunLemmas.{all_front, all_back, number_of_allocation}

-- the numbered blocks of the lines, in three parts
pub run_of : (lines : List Line) (allocated numbered below held above : List Block) (entries : List (ℕ × ℕ)) (run : List ℕ) (low high unknown displaced : ℕ) → AreNumbersOf allocated numbered (live_of lines) → numbered ≡ (below ++ held) ++ above →
    entries ≡ entries_of (below ++ above) → run ≡ map (λ b. b.line) held → AllByRecursion (λ b. span_end b ≤ low + 1) (below ++ held) → AllByRecursion (λ b. high ≤ b.start) above →
    unknown ≡ (replay_of lines).unknown → displaced ≡ (replay_of lines).displaced → IsRunAfter lines allocated entries run low high unknown displaced
run_of lines allocated numbered below held above entries run low high unknown displaced n e m l lower upper u d = record {
  numbered = numbered;
  stand = subst (AreNumbersOf allocated numbered) (sym (replayed lines)) n;
  blocks = record {
    below = below;
    held = held;
    above = above;
    whole = e;
    between = record {
      mapped = m;
      listed = l;
      numbered = all_front (IsNumbered allocated) (below ++ held) above (subst (AllByRecursion (IsNumbered allocated)) e (all_numbered allocated numbered (live_of lines) n));
      disjoint = subst AreDisjoint e (stand_disjoint allocated numbered (live_of lines) n (live_disjoint lines));
    };
    lower = lower;
    upper = upper;
  };
  missed = u;
  ended = d;
}

-- ---- all blocks in the map

module _ (lines : List Line) (allocated : List Block) (entries : List (ℕ × ℕ)) (run : List ℕ) (low high unknown displaced : ℕ) (so_far : IsRunAfter lines allocated entries run low high unknown displaced) where
  abbrev s : IsSplit allocated entries run low high so_far.numbered
  s = so_far.blocks

  pub stand_live : AreNumbersOf allocated so_far.numbered (live_of lines)
  stand_live = subst (AreNumbersOf allocated so_far.numbered) (replayed lines) so_far.stand

  pub may_be_placed : MayBePlaced allocated entries run
  may_be_placed = (s.below, s.held, s.above, s.between)

  pub number_within : (read : List ℕ) (k number : ℕ) → read ≡ run → slice_get read k ≡ Some number → number < length allocated
  number_within read k number r e = number_of_allocation allocated s.held k number (all_back (IsNumbered allocated) s.below s.held s.between.numbered)
      (ap (λ (ns : List ℕ). slice_get ns k) (sym (r ∙ s.between.listed)) ∙ e)

  pub placed_of : (placed : List (ℕ × ℕ)) → ArePlacedOf allocated entries run placed → AreOf allocated placed so_far.numbered
  placed_of placed p = record {
    listed = p s.below s.held s.above s.between ∙ ap entries_of (sym s.whole);
    numbered = all_numbered allocated so_far.numbered (live_of lines) stand_live;
    disjoint = stand_disjoint allocated so_far.numbered (live_of lines) stand_live (live_disjoint lines);
  }

  -- the run is empty then
  pub after_placing : (placed : List (ℕ × ℕ)) (none : List ℕ) → ArePlacedOf allocated entries run placed → none ≡ [] → IsRunAfter lines allocated placed none low high unknown displaced
  after_placing placed none p e =
      run_of lines allocated so_far.numbered (s.below ++ s.held) [] s.above placed none low high unknown displaced stand_live (s.whole ∙ ap (λ (l : List Block). l ++ s.above) (sym (append-nil (s.below ++ s.held)))) (p s.below s.held s.above s.between) e
      (subst (AllByRecursion (λ b. span_end b ≤ low + 1)) (sym (append-nil (s.below ++ s.held))) s.lower) s.upper so_far.missed so_far.ended

  -- ---- the numbers of all

  pub numbers_after : (joined : List ℕ) → AreJoinedOf allocated entries run joined → IsNumberedAfter lines allocated joined unknown displaced
  numbers_after joined j = record {
    blocks = record {
      numbered = so_far.numbered;
      stand = so_far.stand;
      listed = j s.below s.held s.above s.between ∙ ap (map (λ (b : Block). b.line)) (sym s.whole);
    };
    missed = so_far.missed;
    ended = so_far.ended;
  }

-- ---- lists, as they are read

pub placed_as : (allocated seen : List Block) (entries placed : List (ℕ × ℕ)) (run read : List ℕ) → seen ≡ allocated → read ≡ run → ArePlacedOf seen entries read placed → ArePlacedOf allocated entries run placed
placed_as allocated seen entries placed run read e f p = subst (λ (l : List Block). ArePlacedOf l entries run placed) e (subst (λ (ns : List ℕ). ArePlacedOf seen entries ns placed) f p)

pub of_as : (allocated seen : List Block) (entries : List (ℕ × ℕ)) (blocks : List Block) → seen ≡ allocated → AreOf allocated entries blocks → AreOf seen entries blocks
of_as allocated seen entries blocks e of = subst (λ (l : List Block). AreOf l entries blocks) (sym e) of

-- ---- the numbers are placed in an empty map

module _ (lines : List Line) (allocated : List Block) (numbers : List ℕ) (unknown displaced : ℕ) (after : IsNumberedAfter lines allocated numbers unknown displaced) where
  abbrev all : List Block
  all = after.blocks.numbered

  all_stand : AreNumbersOf allocated all (live_of lines)
  all_stand = subst (AreNumbersOf allocated all) (replayed lines) after.blocks.stand

  first_between : (none : List (ℕ × ℕ)) → none ≡ [] → AreBetween allocated none numbers [] all []
  first_between none e = record {
    mapped = e;
    listed = after.blocks.listed;
    numbered = all_numbered allocated all (live_of lines) all_stand;
    disjoint = subst AreDisjoint (sym (append-nil all)) (stand_disjoint allocated all (live_of lines) all_stand (live_disjoint lines));
  }

  pub first_may_be_placed : (none : List (ℕ × ℕ)) → none ≡ [] → MayBePlaced allocated none numbers
  first_may_be_placed none e = ([], all, [], first_between none e)

  all_above : (bs : List Block) → AllByRecursion (λ b. 0 ≤ b.start) bs
  all_above [] = tt
  all_above (b ∷ bs) = (omega arith, all_above bs)

  pub run_after : (none placed : List (ℕ × ℕ)) (run : List ℕ) → none ≡ [] → ArePlacedOf allocated none numbers placed → run ≡ [] → IsRunAfter lines allocated placed run 0 0 unknown displaced
  run_after none placed run e p r = run_of lines allocated all [] [] all placed run 0 0 unknown displaced all_stand refl (p [] all [] (first_between none e) ∙ ap entries_of (append-nil all)) r tt (all_above all) after.missed after.ended
