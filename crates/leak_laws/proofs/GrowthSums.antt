-- What rows of growth add up to: each changed text has a row, and the blocks of the others are the same in both logs.
use Rattle.std.proofs.Common.{◌≡◌, ℕ, ◌+◌, ◌<◌, ◌≤◌, Bool, true, false, not, ◌||◌, List, [], ◌∷◌, ◌++◌, length, map, filter, sum_by, bytes_eq, refl, sym, ap, subst, ◌∙◌, arith, IsTrue}
use Rattle.std.specs.Prelude.{nat_lt}
use Rattle.std.specs.List.{AllByRecursion}
use Rattle.std.specs.List.Sorted.{IsStrictlySortedBy}
use Rattle.std.specs.Cmp.Lexicographic.{slice_cmp}
use Rattle.std.specs.Ordering.{nat_cmp, ordering_then}
use Rattle.std.specs.declared.cmp.Ordering.{Ordering}
use Rattle.std.specs.declared.cmp.Ordering.TheVariants.{Less, Equal, Greater}
use Rattle.std.proofs.lemmas.Bool.{eqb-true, false_from_ne_true, ltb-true, ltb-false}
use Rattle.std.proofs.lemmas.Cmp.{tied_itself}
use Rattle.std.proofs.lemmas.List.Filters.{sum_by-filter_both}
use Rattle.std.proofs.lemmas.Map.Lookups.{exact_bytes}
use Rattle.std.proofs.lemmas.Slice.Eq.{bytes_eq-Decides}
use Rattle.leak_lemmas.proofs.Bools.{flipped}
use Rattle.leak_lemmas.proofs.Orders.{second_tied}
use Rattle.leak_mtrace.specs.declared.line.Line.{Line}
use Rattle.leak_mtrace.specs.Log.{IsLog, is_continued_by}
use Rattle.leak_mtrace.proofs.SameLogLemmas.{logs_continue}
use Rattle.leak_blocks.specs.declared.block.Block.{Block}
use Rattle.leak_blocks.specs.Live.{live_of}
use Rattle.leak_blocks.proofs.DisjointLemmas.{live_disjoint}
use Rattle.leak_blocks.proofs.LiveLemmas.{were_live}
use Rattle.leak_report.specs.Totals.{text_at}
use Rattle.leak_lemmas.proofs.Members.{Has, Has-filter, Has-map, each_filtered, each_has, each_implied, each_itself, each_mapped}
use Rattle.leak_report.specs.Numbered.{texts_of}
use Rattle.leak_growth.specs.Report.{growth_with, growths_of}
use Rattle.leak_growth.specs.Rows.{Growth, has_changed, new_of, rank, ranked, with_text}
use Rattle.leak_growth.proofs.OrderLemmas.{rank_total}
use Rattle.leak_growth.proofs.RankLemmas.{each_ranked, ranked_has, sorted_ranked}
use Rattle.leak_laws.specs.Growth.{AddUp}
use Rattle.leak_laws.proofs.Ascending.{AreAmong, Ascend, ascend, ascend_filtered, as_long, same_blocks, unfiltered}
use Rattle.leak_laws.proofs.SameTexts.{texts_are_same}
use Rattle.leak_laws.proofs.TextSums.{AreApart, length_sum, sum_map, sum_same_of, sum_texts}
use Rattle.leak_laws.proofs.ListParts.{all_pass, both_back, both_front, has_in, is_in, none_has}

both_hold : (a b : Bool) → (not a || not b) ≡ false → (a ≡ true) × (b ≡ true)
both_hold true true e = (refl, refl)
both_hold true false e = absurd (cc)
both_hold false b e = absurd (cc)

module _ (log1 log2 : List ℕ) (earlier later : List Block) (after : ℕ) where
  abbrev row : List ℕ → Growth
  row t = growth_with log1 earlier log2 later after t

  abbrev changed : List ℕ → Bool
  changed t = has_changed (row t).earlier (row t).later (row t).new

  abbrev texts : List (List ℕ)
  texts = texts_of log1 earlier ++ texts_of log2 later

  abbrev candidates : List Growth
  candidates = filter (λ g. has_changed g.earlier g.later g.new) (map row texts)

  abbrev rows : List Growth
  rows = growths_of log1 earlier log2 later after

  -- the row is that of its text, which changed
  abbrev IsRow : Growth → Type 0
  IsRow g = (g ≡ row g.text) × (changed g.text ≡ true)

  own : (ts : List (List ℕ)) → AllByRecursion (λ t. row t ≡ row t) ts
  own [] = tt
  own (t ∷ ts) = (refl, own ts)

  each_candidate : AllByRecursion IsRow candidates
  each_candidate =
      each_implied (λ g. (g ≡ row g.text) × (has_changed g.earlier g.later g.new ≡ true)) IsRow
      (λ g h. (h.0, sym (ap (λ (r : Growth). has_changed r.earlier r.later r.new) h.0) ∙ h.1)) candidates
      (each_filtered (λ g. has_changed g.earlier g.later g.new) (λ g. g ≡ row g.text) (map row texts) (each_mapped row (λ g. g ≡ row g.text) texts (own texts)))

  each_row : AllByRecursion IsRow rows
  unfolding growths_of
  each_row = each_ranked rank IsRow candidates each_candidate

  others : (g : Growth) (gs : List Growth) → IsRow g → AllByRecursion IsRow gs → AllByRecursion (λ r. rank g r ≡ Less) gs → AllByRecursion (λ r. bytes_eq g.text r.text ≡ false) gs
  others g [] is all up = tt
  others g (r ∷ gs) is all up = (false_from_ne_true (bytes_eq g.text r.text) differ, others g gs is all.1 up.1)
    where
      differ : bytes_eq g.text r.text ≡ true → ⊥
      differ alike =
          let e : g.text ≡ r.text = (bytes_eq-Decides g.text r.text).0 alike in
          let same : g ≡ r = is.0 ∙ ap row e ∙ sym all.0.0 in
          let tied : rank g r ≡ Equal = subst (λ (z : Growth). rank g z ≡ Equal) same (tied_itself rank_total g) in
          let less : rank g r ≡ Less = up.0 in
          cc

  apart_in : (gs : List Growth) → AllByRecursion IsRow gs → IsStrictlySortedBy rank gs → AreApart (map (λ g. g.text) gs)
  unfolding IsStrictlySortedBy
  apart_in [] all up = tt
  apart_in (g ∷ gs) all up = (each_mapped (λ r. r.text) (λ u. bytes_eq g.text u ≡ false) gs (others g gs all.0 all.1 up.0), apart_in gs all.1 up.1)

  sorted : IsStrictlySortedBy rank rows
  unfolding growths_of
  sorted = sorted_ranked rank rank_total candidates

  apart : AreApart (map (λ g. g.text) rows)
  apart = apart_in rows each_row sorted

  has_row : (t : List ℕ) → Has texts t → changed t ≡ true → Has (map (λ g. g.text) rows) t
  unfolding growths_of
  has_row t has is =
      let there : Has candidates (row t) = Has-filter (λ g. has_changed g.earlier g.later g.new) (map row texts) (row t) (Has-map row texts t has) is in
      let tied = ranked_has rank rank_total candidates (row t) there in
      let same : t ≡ tied.0.text = exact_bytes t tied.0.text (second_tied _ (slice_cmp nat_cmp t tied.0.text) tied.2) in
      subst (Has (map (λ g. g.text) rows)) (sym same) (Has-map (λ g. g.text) (ranked rank candidates) tied.0 tied.1)

  -- a number of the rows is that of the blocks whose text changed
  by_rows : (log : List ℕ) (w : Block → ℕ) (blocks : List Block) (part : Growth → ℕ) → ((t : List ℕ) → part (row t) ≡ sum_by w (with_text log t blocks))
      → AllByRecursion (λ b. Has texts (text_at log b.caller)) blocks → sum_by part rows ≡ sum_by w (filter (λ b. changed (text_at log b.caller)) blocks)
  by_rows log w blocks part is all =
      sum_same_of IsRow part (λ g. sum_by w (with_text log g.text blocks)) (λ g own. ap part own.0 ∙ is g.text) rows each_row
      ∙ sym (sum_map (λ (g : Growth). g.text) (λ t. sum_by w (with_text log t blocks)) rows)
      ∙ sum_texts (λ b. text_at log b.caller) w changed (map (λ g. g.text) rows) blocks apart
      (each_mapped (λ g. g.text) (λ t. changed t ≡ true) rows (each_implied IsRow (λ g. changed g.text ≡ true) (λ g own. own.1) rows each_row))
      (each_implied (λ b. Has texts (text_at log b.caller)) (λ b. changed (text_at log b.caller) ≡ true → Has (map (λ g. g.text) rows) (text_at log b.caller)) (λ b has is. has_row (text_at log b.caller) has is) blocks all)

  in_earlier : AllByRecursion (λ b. Has texts (text_at log1 b.caller)) earlier
  in_earlier = each_implied (Has earlier) (λ b. Has texts (text_at log1 b.caller)) (λ b has. both_front (texts_of log1 earlier) (texts_of log2 later) (text_at log1 b.caller) (Has-map (λ c. text_at log1 c.caller) earlier b has)) earlier (each_itself earlier)

  in_later : (part : List Block) → ((b : Block) → Has part b → Has later b) → AllByRecursion (λ b. Has texts (text_at log2 b.caller)) part
  in_later part among = each_implied (Has part) (λ b. Has texts (text_at log2 b.caller)) (λ b has. both_back (texts_of log1 earlier) (texts_of log2 later) (text_at log2 b.caller) (Has-map (λ c. text_at log2 c.caller) later b (among b has))) part (each_itself part)

  -- ---- texts without a change

  module _ (up1 : Ascend earlier) (up2 : Ascend later) (old : (b : Block) → Has later b → b.line ≤ after → Has earlier b) (same : AllByRecursion (λ b. text_at log1 b.caller ≡ text_at log2 b.caller) earlier) where
    same_text : (b : Block) → Has earlier b → text_at log1 b.caller ≡ text_at log2 b.caller
    same_text b has = each_has (λ c. text_at log1 c.caller ≡ text_at log2 c.caller) earlier b same has

    is_old : (b : Block) → Has later b → changed (text_at log2 b.caller) ≡ false → b.line ≤ after
    is_old b has no_change = go (nat_lt after b.line) refl
      where
        none_new : length (with_text log2 (text_at log2 b.caller) (new_of after later)) ≡ 0
        none_new = eqb-true _ 0 (both_hold _ _ no_change).0

        go : (t : Bool) → nat_lt after b.line ≡ t → b.line ≤ after
        go false e = ltb-false after b.line e
        go true e =
            let new : Has (new_of after later) b = Has-filter (λ c. nat_lt after c.line) later b has e in
            absurd (none_has _ b none_new (Has-filter (λ c. bytes_eq (text_at log2 c.caller) (text_at log2 b.caller)) (new_of after later) b new ((bytes_eq-Decides (text_at log2 b.caller) (text_at log2 b.caller)).1 refl)))

    still : (t : List ℕ) → changed t ≡ false → with_text log2 t later ≡ with_text log1 t earlier
    still t no_change =
        as_long (with_text log2 t later) (with_text log1 t earlier) (ascend_filtered (λ b. bytes_eq (text_at log2 b.caller) t) later up2) (ascend_filtered (λ b. bytes_eq (text_at log1 b.caller) t) earlier up1)
        among (eqb-true _ _ (both_hold _ _ no_change).1)
      where
        among : AreAmong (with_text log2 t later) (with_text log1 t earlier)
        among b has =
            let r = unfiltered (λ c. bytes_eq (text_at log2 c.caller) t) later b has in
            let is : text_at log2 b.caller ≡ t = (bytes_eq-Decides (text_at log2 b.caller) t).0 r.1 in
            let there : Has earlier b = old b r.0 (is_old b r.0 (ap changed is ∙ no_change)) in
            Has-filter (λ c. bytes_eq (text_at log1 c.caller) t) earlier b there ((bytes_eq-Decides (text_at log1 b.caller) t).1 (same_text b there ∙ is))

    unchanged : filter (λ b. not (changed (text_at log2 b.caller))) later ≡ filter (λ b. not (changed (text_at log1 b.caller))) earlier
    unchanged =
        same_blocks _ _ (ascend_filtered (λ b. not (changed (text_at log2 b.caller))) later up2) (ascend_filtered (λ b. not (changed (text_at log1 b.caller))) earlier up1) to from
      where
        to : AreAmong (filter (λ b. not (changed (text_at log2 b.caller))) later) (filter (λ b. not (changed (text_at log1 b.caller))) earlier)
        to b has =
            let r = unfiltered (λ c. not (changed (text_at log2 c.caller))) later b has in
            let there : Has earlier b = old b r.0 (is_old b r.0 (flipped (changed (text_at log2 b.caller)) r.1)) in
            Has-filter (λ c. not (changed (text_at log1 c.caller))) earlier b there (ap (λ (t : List ℕ). not (changed t)) (same_text b there) ∙ r.1)

        from : AreAmong (filter (λ b. not (changed (text_at log1 b.caller))) earlier) (filter (λ b. not (changed (text_at log2 b.caller))) later)
        from b has =
            let r = unfiltered (λ c. not (changed (text_at log1 c.caller))) earlier b has in
            let t : List ℕ = text_at log1 b.caller in
            let there : Has (with_text log1 (text_at log1 b.caller) earlier) b =
            Has-filter (λ c. bytes_eq (text_at log1 c.caller) (text_at log1 b.caller)) earlier b r.0 ((bytes_eq-Decides (text_at log1 b.caller) (text_at log1 b.caller)).1 refl) in
            let here : Has (with_text log2 (text_at log1 b.caller) later) b = subst (λ (bs : List Block). Has bs b) (sym (still (text_at log1 b.caller) (flipped (changed (text_at log1 b.caller)) r.1))) there in
            let s = unfiltered (λ c. bytes_eq (text_at log2 c.caller) (text_at log1 b.caller)) later b here in
            let is : text_at log2 b.caller ≡ text_at log1 b.caller = (bytes_eq-Decides (text_at log2 b.caller) (text_at log1 b.caller)).0 s.1 in
            Has-filter (λ c. not (changed (text_at log2 c.caller))) later b s.0 (ap (λ (u : List ℕ). not (changed u)) is ∙ r.1)

    all_new : filter (λ b. changed (text_at log2 b.caller)) (new_of after later) ≡ new_of after later
    all_new =
        all_pass (λ b. changed (text_at log2 b.caller)) (new_of after later)
        (each_implied (Has (new_of after later)) (λ b. changed (text_at log2 b.caller) ≡ true) (λ b has. go b (unfiltered (λ c. nat_lt after c.line) later b has) (changed (text_at log2 b.caller)) refl) (new_of after later) (each_itself (new_of after later)))
      where
        go : (b : Block) → Has later b × (nat_lt after b.line ≡ true) → (t : Bool) → changed (text_at log2 b.caller) ≡ t → t ≡ true
        go b new true is = refl
        go b new false is = let low : b.line ≤ after = is_old b new.0 is in let high : after < b.line = ltb-true after b.line new.1 in absurd (omega arith)

    balance : (w : Block → ℕ) (now then : Growth → ℕ) → ((t : List ℕ) → now (row t) ≡ sum_by w (with_text log2 t later)) → ((t : List ℕ) → then (row t) ≡ sum_by w (with_text log1 t earlier))
        → sum_by now rows + sum_by w earlier ≡ sum_by then rows + sum_by w later
    balance w now then is was =
        let left = by_rows log2 w later now is (in_later later (λ b has. has)) in
        let right = by_rows log1 w earlier then was in_earlier in
        let others2 = sum_by-filter_both (λ b. changed (text_at log2 b.caller)) (λ b. not (changed (text_at log2 b.caller))) (λ b. refl) w later in
        let others1 = sum_by-filter_both (λ b. changed (text_at log1 b.caller)) (λ b. not (changed (text_at log1 b.caller))) (λ b. refl) w earlier in
        let rest = ap (sum_by w) unchanged in
        omega (arith, left, right, others1, others2, rest)

    fresh : (w : Block → ℕ) (part : Growth → ℕ) → ((t : List ℕ) → part (row t) ≡ sum_by w (with_text log2 t (new_of after later))) → sum_by part rows ≡ sum_by w (new_of after later)
    fresh w part is = by_rows log2 w (new_of after later) part is (in_later (new_of after later) (λ b has. (unfiltered (λ c. nat_lt after c.line) later b has).0)) ∙ ap (sum_by w) all_new

    pub add_up : AddUp earlier later after rows
    add_up = record {
      blocks = (let e = balance (λ b. 1) (λ g. g.later.blocks) (λ g. g.earlier.blocks) (λ t. length_sum (with_text log2 t later)) (λ t. length_sum (with_text log1 t earlier)) in omega (arith, e, length_sum earlier, length_sum later));
      bytes = balance (λ b. b.size) (λ g. g.later.bytes) (λ g. g.earlier.bytes) (λ t. refl) (λ t. refl);
      new_blocks = fresh (λ b. 1) (λ g. g.new.blocks) (λ t. length_sum (with_text log2 t (new_of after later))) ∙ sym (length_sum (new_of after later));
      new_bytes = fresh (λ b. b.size) (λ g. g.new.bytes) (λ t. refl);
      ordered = sorted;
      changed = each_implied IsRow (λ g. has_changed g.earlier g.later g.new ≡ true) (λ g own. ap (λ (r : Growth). has_changed r.earlier r.later r.new) own.0 ∙ own.1) rows each_row;
    }

pub growths_add_up : (log1 log2 : List ℕ) (before now : List Line) → IsTrue (is_continued_by log1 log2) → IsLog log1 before → IsLog log2 now
    → AddUp (live_of before) (live_of now) (length before) (growths_of log1 (live_of before) log2 (live_of now) (length before))
growths_add_up log1 log2 before now continued is_before is_now =
    let more = logs_continue log1 log2 before now continued is_before is_now in
    add_up log1 log2 (live_of before) (live_of now) (length before) (ascend (live_of before) (live_disjoint before)) (ascend (live_of now) (live_disjoint now))
    (λ b has low. has_in (live_of before) b (were_live before more.0 b (is_in (live_of (before ++ more.0)) b (subst (λ (l : List Line). Has (live_of l) b) more.1 has)) low))
    (texts_are_same log1 log2 before is_before continued)
