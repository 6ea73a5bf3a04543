-- What a line does to the map and the run.
use Rattle.std.proofs.Common.{◌≡◌, ◌≢◌, ℕ, ◌+◌, ◌<◌, ◌≤◌, max, ◌⊎◌, inl, inr, Bool, true, false, not, ◌&&◌, true≢false, refl, sym, subst, ap, ◌∙◌, List, [], ◌∷◌, ◌++◌, length, map, count_by, Option, append_assoc, append-nil, arith, ◌==◌, nat_lt}
use Rattle.std.specs.List.{list_any, AllByRecursion}
use Rattle.std.specs.Option.{is_some}
use Rattle.std.specs.Ordering.{nat_cmp}
use Rattle.std.specs.BTreeMap.{is_at}
use Rattle.std.specs.Map.{remove_entry, lookup}
use Rattle.std.proofs.lemmas.Bool.Decides.{nat_tests}
use Rattle.std.proofs.lemmas.List.{map-append}
use Rattle.std.proofs.lemmas.List.Elements.{filter-append}
use Rattle.leak_mtrace.specs.declared.line.Line.{Line}
use Rattle.leak_blocks.specs.declared.block.Block.{Block}
use Rattle.leak_blocks.specs.Span.{AreDisjoint, span_end}
use Rattle.leak_blocks.specs.Live.{live_of, replay_of, block_of, is_allocation, is_give_back, gives_back, among}
use Rattle.leak_blocks.specs.Steps.{meets}
use Rattle.leak_blocks.specs.Numbers.{IsNumbered, IsNumberOf, AreNumbersOf, IsAllocationAt, entries_of, AreOf}
use Rattle.leak_blocks.specs.Runs.{ArePlacedOf, IsSplit, IsRunAfter}
use Rattle.leak_blocks.proofs.DisjointLemmas.{live_disjoint}
use Rattle.leak_blocks.proofs.OrderLemmas.{all_filter, filter_disjoint}
use Rattle.leak_blocks.proofs.NumberLemmas.{all_weaker, none_met}
use Rattle.leak_blocks.proofs.NumberedLemmas.{last_get, stand_longer, all_numbered, IsOfPlace, stand_filter, stand_count, stand_any, stand_among, end_of_place, stand_disjoint}
use Rattle.leak_blocks.proofs.ChangeLemmas.{elsewhere, unmet, all_unmet, removed, looked_up, counted}
use Rattle.leak_blocks.proofs.StepLemmas.{one_if, blocks_allocated, unknown_allocated, displaced_allocated, blocks_given, unknown_given, displaced_given, blocks_other, unknown_other, displaced_other}
use Rattle.leak_blocks.proofs.RunLemmas.{all_front, all_both, all_back, all_two, disjoint_apart, ends_before, among_between, elsewhere_all, elsewhere_out, begins_apart, begins_listed, IsLastHeld, last_held, IsCut, cut, unmet_apart}
use Rattle.leak_blocks.proofs.PlacedLemmas.{run_of, stand_live, after_placing}

-- a give-back is not at address 0
pub given_above : (x : Line) → is_give_back x ≡ true → 0 < x.addr
given_above x g = go (x.addr == 0) refl
  where
    and_false : (t : Bool) → (t && false) ≡ false
    and_false true = refl
    and_false false = refl

    go : (t : Bool) → (x.addr == 0) ≡ t → 0 < x.addr
    go true e = absurd (true≢false (sym g ∙ ap (λ (t : Bool). gives_back x.kind && not t) e ∙ and_false (gives_back x.kind)))
    go false e = grind (arith, nat_tests, e)

-- ---- tests of the place

meets_place : (x : Line) → IsOfPlace (meets x)
meets_place x b c e f = ap (λ (n : ℕ). nat_lt x.addr n && nat_lt b.start (x.addr + max x.size 1)) (end_of_place b c e f) ∙ ap (λ (n : ℕ). nat_lt x.addr (span_end c) && nat_lt n (x.addr + max x.size 1)) e

unmet_place : (x : Line) → IsOfPlace (λ b. not (meets x b))
unmet_place x b c e f = ap not (meets_place x b c e f)

elsewhere_place : (a : ℕ) → IsOfPlace (λ b. not (a == b.start))
elsewhere_place a b c e f = ap (λ (n : ℕ). not (a == n)) e

begins_place : (a : ℕ) → IsOfPlace (λ b. b.start == a)
begins_place a b c e f = ap (λ (n : ℕ). n == a) e

-- ---- one line

module _ (lines : List Line) (x : Line) (allocated : List Block) (entries : List (ℕ × ℕ)) (run : List ℕ) (low high unknown displaced : ℕ) (so_far : IsRunAfter lines allocated entries run low high unknown displaced) where
  abbrev first : List Block
  first = so_far.numbered

  abbrev parts : IsSplit allocated entries run low high first
  parts = so_far.blocks

  stand_first : AreNumbersOf allocated first (live_of lines)
  stand_first = stand_live lines allocated entries run low high unknown displaced so_far

  first_disjoint : AreDisjoint first
  first_disjoint = stand_disjoint allocated first (live_of lines) stand_first (live_disjoint lines)

  -- the blocks that it leaves are those of the map
  pub left_of : (left : List (ℕ × ℕ)) → left ≡ entries_of (unmet x first) → AreOf allocated left (unmet x first)
  left_of left e = record {
    listed = e;
    numbered = all_filter (IsNumbered allocated) (λ b. not (meets x b)) first (all_numbered allocated first (live_of lines) stand_first);
    disjoint = filter_disjoint (λ b. not (meets x b)) first first_disjoint;
  }

  -- an allocation, whose last address this is
  module _ (a : is_allocation x ≡ true) (last : ℕ) (is_last : last + 1 ≡ x.addr + max x.size 1) where
    abbrev block : Block
    block = block_of (length lines + 1) x

    -- it stands for the block
    abbrev new : Block
    new = block_of (length allocated) x

    stand_new : IsNumberOf (allocated ++ block ∷ []) new block
    stand_new = record { at = last_get allocated block; start = refl; size = refl }

    stand_after : AreNumbersOf (allocated ++ block ∷ []) (among new (unmet x first)) (live_of (lines ++ x ∷ []))
    stand_after = subst (AreNumbersOf (allocated ++ block ∷ []) (among new (unmet x first))) (sym (blocks_allocated lines x a))
        (stand_among (allocated ++ block ∷ []) new block stand_new (unmet x first) (unmet x (live_of lines))
        (stand_longer allocated (block ∷ []) (unmet x first) (unmet x (live_of lines)) (stand_filter allocated (λ b. not (meets x b)) (unmet_place x) first (live_of lines) stand_first)))

    -- it is the last of the run
    among_parts : (below held above : List Block) → unmet x first ≡ (below ++ held) ++ above → AllByRecursion (λ c. span_end c ≤ x.addr) (below ++ held) → AllByRecursion (λ c. last < c.start) above →
        among new (unmet x first) ≡ (below ++ (held ++ new ∷ [])) ++ above
    among_parts below held above e front back =
        ap (among new) e
        ∙ among_between new (below ++ held) above front (all_weaker (λ c. last < c.start) (λ c. x.addr < c.start) (λ c l. omega (arith, l, is_last)) above back)
        ∙ sym (append_assoc (below ++ held) (new ∷ []) above) ∙ ap (λ (l : List Block). l ++ above) (append_assoc below held (new ∷ []))

    lower : (below held : List Block) → AllByRecursion (λ c. span_end c ≤ x.addr) (below ++ held) → AllByRecursion (λ c. span_end c ≤ last + 1) (below ++ (held ++ new ∷ []))
    lower below held front = subst (AllByRecursion (λ c. span_end c ≤ last + 1)) (append_assoc below held (new ∷ []))
        (all_both (λ c. span_end c ≤ last + 1) (below ++ held) (new ∷ []) (all_weaker (λ c. span_end c ≤ x.addr) (λ c. span_end c ≤ last + 1) (λ c l. omega (arith, l, is_last)) (below ++ held) front) (omega (arith, is_last), tt))

    pub ended : (count : ℕ) → count ≡ count_by (meets x) first → displaced + count ≡ (replay_of (lines ++ x ∷ [])).displaced
    ended count k = omega (arith, so_far.ended, k, stand_count allocated (meets x) (meets_place x) first (live_of lines) stand_first, displaced_allocated lines x a)

    missed : unknown ≡ (replay_of (lines ++ x ∷ [])).unknown
    missed = so_far.missed ∙ sym (unknown_allocated lines x a)

    module _ (longer : List Block) (is_longer : longer ≡ allocated ++ block ∷ []) where
      stand_all : AreNumbersOf longer (among new (unmet x first)) (live_of (lines ++ x ∷ []))
      stand_all = subst (λ (l : List Block). AreNumbersOf l (among new (unmet x first)) (live_of (lines ++ x ∷ []))) (sym is_longer) stand_after

      -- above the run, and below what is above it
      pub after_pushing : low < x.addr → last < high → (pushed : List ℕ) → pushed ≡ run ++ length allocated ∷ [] → IsRunAfter (lines ++ x ∷ []) longer entries pushed last high unknown displaced
      after_pushing l h pushed e =
          let s : IsSplit allocated entries run low high first = parts in
          let front : AllByRecursion (λ c. span_end c ≤ x.addr) (s.below ++ s.held) = all_weaker (λ c. span_end c ≤ low + 1) (λ c. span_end c ≤ x.addr) (λ c k. omega (arith, k, l)) (s.below ++ s.held) s.lower in
          let back : AllByRecursion (λ c. last < c.start) s.above = all_weaker (λ c. high ≤ c.start) (λ c. last < c.start) (λ c k. omega (arith, k, h)) s.above s.upper in
          let none : list_any (meets x) first ≡ false = none_met x last is_last first (subst (AllByRecursion (λ c. (last < c.start) ⊎ (span_end c ≤ x.addr))) (sym s.whole)
          (all_both (λ c. (last < c.start) ⊎ (span_end c ≤ x.addr)) (s.below ++ s.held) s.above
          (all_weaker (λ c. span_end c ≤ x.addr) (λ c. (last < c.start) ⊎ (span_end c ≤ x.addr)) (λ c k. inr k) (s.below ++ s.held) front)
          (all_weaker (λ c. last < c.start) (λ c. (last < c.start) ⊎ (span_end c ≤ x.addr)) (λ c k. inl k) s.above back))) in
          let kept : unmet x first ≡ first = all_unmet x first none in
          let no_count : 0 ≡ count_by (meets x) first = omega (arith, counted x first, ap length kept) in
          let same : displaced + 0 ≡ displaced = omega arith in
          run_of (lines ++ x ∷ []) longer (among new (unmet x first)) s.below (s.held ++ new ∷ []) s.above entries pushed last high unknown displaced stand_all (among_parts s.below s.held s.above (kept ∙ s.whole) front back) s.between.mapped
          (e ∙ ap (λ (ns : List ℕ). ns ++ length allocated ∷ []) s.between.listed ∙ sym (map-append (λ (b : Block). b.line) s.held (new ∷ []))) (lower s.below s.held front) s.upper missed (sym same ∙ ended 0 no_count)

      -- elsewhere: it begins a new run
      pub after_displacing : (left : List (ℕ × ℕ)) (count limit : ℕ) (alone : List ℕ) → left ≡ entries_of (unmet x first) → count ≡ count_by (meets x) first →
          AllByRecursion (λ b. (b.start < last) ⊎ (limit ≤ b.start)) (unmet x first) → alone ≡ length allocated ∷ [] → IsRunAfter (lines ++ x ∷ []) longer left alone last limit unknown (displaced + count)
      after_displacing left count limit alone e k bound r =
          let c : IsCut x.addr last (unmet x first) = cut x.addr last (unmet x first) (filter_disjoint (λ b. not (meets x b)) first first_disjoint) (unmet_apart x last is_last first) in
          let w : unmet x first ≡ (c.front ++ []) ++ c.back = c.whole ∙ ap (λ (l : List Block). l ++ c.back) (sym (append-nil c.front)) in
          let front : AllByRecursion (λ d. span_end d ≤ x.addr) (c.front ++ []) = subst (AllByRecursion (λ d. span_end d ≤ x.addr)) (sym (append-nil c.front)) c.ends in
          run_of (lines ++ x ∷ []) longer (among new (unmet x first)) c.front (new ∷ []) c.back left alone last limit unknown (displaced + count) stand_all (among_parts c.front [] c.back w front c.begins) (e ∙ ap entries_of c.whole) r (lower c.front [] front) (upper c bound)
          missed (ended count k)
        where
          upper : (c : IsCut x.addr last (unmet x first)) → AllByRecursion (λ b. (b.start < last) ⊎ (limit ≤ b.start)) (unmet x first) → AllByRecursion (λ b. limit ≤ b.start) c.back
          upper c all = all_two (λ b. (b.start < last) ⊎ (limit ≤ b.start)) (λ b. last < b.start) (λ b. limit ≤ b.start) beyond c.back
              (all_back (λ b. (b.start < last) ⊎ (limit ≤ b.start)) c.front c.back (subst (AllByRecursion (λ b. (b.start < last) ⊎ (limit ≤ b.start))) c.whole all)) c.begins
            where
              beyond : (b : Block) → (b.start < last) ⊎ (limit ≤ b.start) → last < b.start → limit ≤ b.start
              beyond b (inl l) m = absurd (omega (arith, l, m))
              beyond b (inr l) m = l

  -- a give-back
  module _ (g : is_give_back x ≡ true) where
    ended_same : displaced ≡ (replay_of (lines ++ x ∷ [])).displaced
    ended_same = so_far.ended ∙ sym (displaced_given lines x g)

    stand_given : AreNumbersOf allocated (elsewhere x.addr first) (live_of (lines ++ x ∷ []))
    stand_given = subst (AreNumbersOf allocated (elsewhere x.addr first)) (sym (blocks_given lines x g)) (stand_filter allocated (λ b. not (x.addr == b.start)) (elsewhere_place x.addr) first (live_of lines) stand_first)

    any_given : list_any (λ b. b.start == x.addr) first ≡ list_any (λ b. b.start == x.addr) (live_of lines)
    any_given = stand_any allocated (λ b. b.start == x.addr) (begins_place x.addr) first (live_of lines) stand_first

    -- of the run's last block
    pub after_popping : (shorter : List ℕ) (number : ℕ) (found : Block) → run ≡ shorter ++ number ∷ [] → IsAllocationAt allocated number found → found.start ≡ x.addr → (lower : ℕ) → lower + 1 ≡ x.addr →
        IsRunAfter (lines ++ x ∷ []) allocated entries shorter lower high unknown displaced
    after_popping shorter number found e is_block starts lower minus =
        let s : IsSplit allocated entries run low high first = parts in
        let l : IsLastHeld s.held shorter number = last_held s.held shorter number (sym e ∙ s.between.listed) in
        let joined : (s.below ++ s.held) ++ s.above ≡ (s.below ++ l.others) ++ l.block ∷ s.above =
        ap (λ (h : List Block). (s.below ++ h) ++ s.above) l.whole ∙ ap (λ (h : List Block). h ++ s.above) (sym (append_assoc s.below l.others (l.block ∷ []))) ∙ append_assoc (s.below ++ l.others) (l.block ∷ []) s.above in
        let w : first ≡ (s.below ++ l.others) ++ l.block ∷ s.above = s.whole ∙ joined in
        let order : AreDisjoint ((s.below ++ l.others) ++ l.block ∷ s.above) = subst AreDisjoint w first_disjoint in
        let is_numbered : IsNumbered allocated l.block = (all_back (IsNumbered allocated) (s.below ++ l.others) (l.block ∷ s.above) (subst (AllByRecursion (IsNumbered allocated)) w (all_numbered allocated first (live_of lines) stand_first))).0 in
        let begins : l.block.start ≡ x.addr = sym (is_block l.block is_numbered l.is_number).start ∙ starts in
        let listed : list_any (λ b. b.start == x.addr) first ≡ true = ap (list_any (λ b. b.start == x.addr)) w
        ∙ subst (λ (k : ℕ). list_any (λ b. b.start == k) ((s.below ++ l.others) ++ l.block ∷ s.above) ≡ true) begins (begins_listed (s.below ++ l.others) l.block s.above) in
        run_of (lines ++ x ∷ []) allocated (elsewhere x.addr first) s.below l.others s.above entries shorter lower high unknown displaced stand_given
        (ap (elsewhere x.addr) w ∙ subst (λ (k : ℕ). elsewhere k ((s.below ++ l.others) ++ l.block ∷ s.above) ≡ (s.below ++ l.others) ++ s.above) begins (elsewhere_out (s.below ++ l.others) l.block s.above order))
        s.between.mapped l.listed
        (all_weaker (λ c. span_end c ≤ l.block.start) (λ c. span_end c ≤ lower + 1) (λ c m. omega (arith, m, begins, minus)) (s.below ++ l.others) (ends_before l.block s.above (s.below ++ l.others) order)) s.upper
        (omega (arith, so_far.missed, unknown_given lines x g, ap {B = ℕ} (λ (t : Bool). one_if (not t)) (sym any_given ∙ listed))) ended_same

    -- of a block of the map, or of none
    pub after_removing : AllByRecursion (λ b. b.start ≢ x.addr) parts.held → (fewer : List (ℕ × ℕ)) (old : Option ℕ) (count : ℕ) → fewer ≡ remove_entry (is_at (nat_cmp x.addr)) entries →
        old ≡ lookup (is_at (nat_cmp x.addr)) entries → count ≡ one_if (not (is_some old)) → IsRunAfter (lines ++ x ∷ []) allocated fewer run low high (unknown + count) displaced
    after_removing apart fewer old count e o k =
        let s : IsSplit allocated entries run low high first = parts in
        let order : AreDisjoint (s.below ++ s.above) = disjoint_apart s.below s.held s.above s.between.disjoint in
        let out : elsewhere x.addr first ≡ (elsewhere x.addr s.below ++ s.held) ++ elsewhere x.addr s.above =
        ap (elsewhere x.addr) s.whole ∙ filter-append (λ b. not (x.addr == b.start)) (s.below ++ s.held) s.above
        ∙ ap (λ (l : List Block). l ++ elsewhere x.addr s.above) (filter-append (λ b. not (x.addr == b.start)) s.below s.held ∙ ap (λ (l : List Block). elsewhere x.addr s.below ++ l) (elsewhere_all x.addr s.held apart)) in
        let found : is_some old ≡ list_any (λ b. b.start == x.addr) first =
        ap is_some o ∙ ap (λ (l : List (ℕ × ℕ)). is_some (lookup (is_at (nat_cmp x.addr)) l)) s.between.mapped ∙ looked_up x.addr (s.below ++ s.above)
        ∙ sym (begins_apart x.addr s.below s.held s.above apart) ∙ ap (list_any (λ b. b.start == x.addr)) (sym s.whole) in
        run_of (lines ++ x ∷ []) allocated (elsewhere x.addr first) (elsewhere x.addr s.below) s.held (elsewhere x.addr s.above) fewer run low high (unknown + count) displaced stand_given out
        (e ∙ ap (remove_entry (is_at (nat_cmp x.addr))) s.between.mapped ∙ removed x.addr (s.below ++ s.above) order ∙ ap entries_of (filter-append (λ b. not (x.addr == b.start)) s.below s.above))
        s.between.listed
        (all_both (λ b. span_end b ≤ low + 1) (elsewhere x.addr s.below) s.held (all_filter (λ b. span_end b ≤ low + 1) (λ b. not (x.addr == b.start)) s.below (all_front (λ b. span_end b ≤ low + 1) s.below s.held s.lower))
        (all_back (λ b. span_end b ≤ low + 1) s.below s.held s.lower))
        (all_filter (λ b. high ≤ b.start) (λ b. not (x.addr == b.start)) s.above s.upper)
        (omega (arith, so_far.missed, unknown_given lines x g, k, ap {B = ℕ} (λ (t : Bool). one_if (not t)) (found ∙ any_given))) ended_same

  -- any other line
  pub after_other : is_allocation x ≡ false → is_give_back x ≡ false → IsRunAfter (lines ++ x ∷ []) allocated entries run low high unknown displaced
  after_other a g =
      let s : IsSplit allocated entries run low high first = parts in
      run_of (lines ++ x ∷ []) allocated first s.below s.held s.above entries run low high unknown displaced (subst (AreNumbersOf allocated first) (sym (blocks_other lines x a g)) stand_first) s.whole s.between.mapped s.between.listed s.lower s.upper
      (so_far.missed ∙ sym (unknown_other lines x a g)) (so_far.ended ∙ sym (displaced_other lines x a g))

-- a give-back, with all blocks in the map
module _ (lines : List Line) (x : Line) (allocated : List Block) (entries : List (ℕ × ℕ)) (run : List ℕ) (low high unknown displaced : ℕ) (so_far : IsRunAfter lines allocated entries run low high unknown displaced)
    (g : is_give_back x ≡ true) (placed fewer : List (ℕ × ℕ)) (none : List ℕ) (old : Option ℕ) (p : ArePlacedOf allocated entries run placed) (n : none ≡ []) (e : fewer ≡ remove_entry (is_at (nat_cmp x.addr)) placed)
    (o : old ≡ lookup (is_at (nat_cmp x.addr)) placed) where
  after_all : IsRunAfter lines allocated placed none low high unknown displaced
  after_all = after_placing lines allocated entries run low high unknown displaced so_far placed none p n

  none_held : (held : List Block) → none ≡ map (λ b. b.line) held → AllByRecursion (λ b. b.start ≢ x.addr) held
  none_held [] l = tt
  none_held (b ∷ bs) l = absurd (not_empty b.line (map (λ b. b.line) bs) (sym l ∙ n))
    where
      not_empty : (k : ℕ) (ks : List ℕ) → k ∷ ks ≡ [] → ⊥
      not_empty k ks h = cc

  pub after_giving : is_some old ≡ true → IsRunAfter (lines ++ x ∷ []) allocated fewer none low high unknown displaced
  after_giving found =
      let same : unknown + 0 ≡ unknown = omega arith in
      subst (λ (k : ℕ). IsRunAfter (lines ++ x ∷ []) allocated fewer none low high k displaced) same
      (after_removing lines x allocated placed none low high unknown displaced after_all g (none_held after_all.blocks.held after_all.blocks.between.listed) fewer old 0 e o (ap {B = ℕ} (λ (t : Bool). one_if (not t)) (sym found)))

  pub after_missing : is_some old ≡ false → IsRunAfter (lines ++ x ∷ []) allocated fewer none low high (unknown + 1) displaced
  after_missing found =
      after_removing lines x allocated placed none low high unknown displaced after_all g (none_held after_all.blocks.held after_all.blocks.between.listed) fewer old 1 e o (ap {B = ℕ} (λ (t : Bool). one_if (not t)) (sym found))
