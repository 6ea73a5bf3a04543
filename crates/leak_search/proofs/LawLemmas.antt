-- What words that are left out of the roots would have led to.
use Rattle.std.proofs.Common.{◌≡◌, ℕ, suc, ◌+◌, ◌≤◌, ◌<◌, Bool, true, false, not, cond, ◌==◌, ◌&&◌, ◌||◌, List, [], ◌∷◌, ◌++◌, length, filter, filter_map, flat_map, Option, Some, None, slice_get, inl, inr, refl, sym, ap, ◌∙◌, arith}
use Rattle.std.specs.Prelude.{if◌then◌else◌}
use Rattle.std.specs.List.{cons_option}
use Rattle.std.specs.Option.{option_map_or}
use Rattle.std.proofs.lemmas.Grind.{flat_map-append}
use Rattle.std.proofs.lemmas.List.Elements.{filter-append}
use Rattle.leak_elf.specs.declared.segment.Segment.{Segment}
use Rattle.leak_elf.specs.Segments.{segments_of}
use Rattle.leak_elf.specs.Words.{word_of}
use Rattle.leak_mtrace.specs.declared.line.Line.{Line}
use Rattle.leak_notes.specs.Threads.{registers_of}
use Rattle.leak_blocks.specs.declared.block.Block.{Block}
use Rattle.leak_blocks.specs.declared.small.Span.{Span}
use Rattle.leak_blocks.specs.Live.{live_of}
use Rattle.leak_blocks.specs.Small.{small_spans_of}
use Rattle.leak_index.specs.Leads.{Distances}
use Rattle.leak_index.specs.Hits.{Index, hits_of}
use Rattle.leak_roots.specs.declared.skip.Skip.{Skip}
use Rattle.leak_roots.specs.LeftOut.{LeftOut}
use Rattle.leak_roots.specs.Roots.{has_roots, is_inside, kept_places, outside_places, outside_places_in, root_places}
use Rattle.leak_stacks.specs.Dead.{dead_spans_of}
use Rattle.leak_search.specs.LeftOut.{left_out}
use Rattle.leak_roots.proofs.LeftOut.{no_spans_inside}
use Rattle.leak_chunks.specs.FreeLinks.{is_free_link_past}
use Rattle.leak_chunks.specs.Slack.{slack_spans_of}
use Rattle.leak_scan.specs.RootWords.{held_by, held_from, targets_without_links}
use Rattle.leak_scan.specs.Targets.{targets_of}
use Rattle.leak_marks.specs.Lists.{Has, Within, times}
use Rattle.leak_marks.specs.Reach.{Reach}
use Rattle.leak_marks.proofs.ListLemmas.{has_back, has_front, of_append, times-append}
use Rattle.leak_marks.proofs.ReachLemmas.{reach_within}
use Rattle.leak_pool.specs.Marking.{graph_of, led_in_memory}
use Rattle.leak_later.specs.Kept.{kept_of, has_marked_line, numbers_from}
use Rattle.leak_search.specs.Laws.{LeavesOutNoMore}
use Rattle.leak_search.specs.Search.{first_of, graph_of_one, index_of}
use Rattle.leak_search.specs.SearchTwo.{IsMarkedEarlier, graph_of_later, kept_blocks, new_blocks}

-- ---- fewer words lead to fewer blocks

-- what is made of the places that pass a test is made of those that pass another, which more of them pass
fewer : (f : ℕ → List ℕ) (p q : ℕ → Bool) (places : List ℕ) (x : ℕ) → ((a : ℕ) → p a ≡ true → q a ≡ true) → times x (flat_map f (filter p places)) ≤ times x (flat_map f (filter q places))
fewer f p q [] x h = omega arith
fewer f p q (a ∷ places) x h = go (p a) (q a) (h a) (fewer f p q places x h)
  where
    go : (s t : Bool) → (s ≡ true → t ≡ true) → times x (flat_map f (filter p places)) ≤ times x (flat_map f (filter q places))
        → times x (flat_map f (cond s (a ∷ filter p places) (filter p places))) ≤ times x (flat_map f (cond t (a ∷ filter q places) (filter q places)))
    go true true i le = omega (arith, times-append x (f a) (flat_map f (filter p places)), times-append x (f a) (flat_map f (filter q places)), le)
    go true false i le = absurd (let e = i refl in cc)
    go false true i le = omega (arith, times-append x (f a) (flat_map f (filter q places)), le)
    go false false i le = le

-- the same of the places of segments
fewer_segments : (f : ℕ → List ℕ) (p : ℕ → Bool) (o : Segment → List ℕ) (s t : Segment → Bool) (segments : List Segment) (x : ℕ) → ((g : Segment) → s g ≡ true → t g ≡ true)
    → times x (flat_map f (filter p (flat_map o (filter s segments)))) ≤ times x (flat_map f (filter p (flat_map o (filter t segments))))
fewer_segments f p o s t [] x h = omega arith
fewer_segments f p o s t (g ∷ segments) x h = go (s g) (t g) (h g) (fewer_segments f p o s t segments x h)
  where
    one : (more : List ℕ) → times x (flat_map f (filter p (o g ++ more))) ≡ times x (flat_map f (filter p (o g))) + times x (flat_map f (filter p more))
    one more = ap (λ (places : List ℕ). times x (flat_map f places)) (filter-append p (o g) more) ∙ ap (times x) (flat_map-append f (filter p (o g)) (filter p more)) ∙ times-append x (flat_map f (filter p (o g))) (flat_map f (filter p more))

    go : (u v : Bool) → (u ≡ true → v ≡ true) → times x (flat_map f (filter p (flat_map o (filter s segments)))) ≤ times x (flat_map f (filter p (flat_map o (filter t segments))))
        → times x (flat_map f (filter p (flat_map o (cond u (g ∷ filter s segments) (filter s segments))))) ≤ times x (flat_map f (filter p (flat_map o (cond v (g ∷ filter t segments) (filter t segments)))))
    go true true i le = omega (arith, one (flat_map o (filter s segments)), one (flat_map o (filter t segments)), le)
    go true false i le = absurd (let e = i refl in cc)
    go false true i le = omega (arith, one (flat_map o (filter t segments)), le)
    go false false i le = le

-- ---- without links, words lead to fewer blocks

times_filter : (p : ℕ → Bool) (xs : List ℕ) (x : ℕ) → times x (filter p xs) ≤ times x xs
times_filter p [] x = omega arith
times_filter p (y ∷ ys) x =
    elim (p y) as (λ t. times x (cond t (y ∷ filter p ys) (filter p ys)) ≤ times x (y ∷ ys)) [
      | true ↦ (let le = times_filter p ys x in omega (arith, le))
      | false ↦ (let le = times_filter p ys x in omega (arith, le))
    ]

-- what the word at an address leads to, with links to free chunks or without
led_at : Bool → (ℕ → Option ℕ) → Index → ℕ → List ℕ
led_at false w index a = option_map_or (hits_of index) (w a) []
led_at true w index a = held_from w index a

led_is : (links : Bool) (w : ℕ → Option ℕ) (index : Index) (places : List ℕ) → led_in_memory links w index places ≡ flat_map (led_at links w index) places
unfolding led_at targets_of targets_without_links
led_is true w index places = refl
led_is false w index [] = refl
led_is false w index (a ∷ places) = go (w a) (led_is false w index places)
  where
    go : (o : Option ℕ) → flat_map (hits_of index) (filter_map w places) ≡ flat_map (led_at false w index) places
        → flat_map (hits_of index) (cons_option o (filter_map w places)) ≡ option_map_or (hits_of index) o [] ++ flat_map (led_at false w index) places
    go None e = e
    go (Some v) e = ap (λ (xs : List ℕ). hits_of index v ++ xs) e

led_less : (less more : Bool) (w : ℕ → Option ℕ) (index : Index) (a x : ℕ) → (less ≡ true → more ≡ true) → times x (led_at more w index a) ≤ times x (led_at less w index a)
unfolding led_at
led_less true true w index a x h = omega arith
led_less true false w index a x h = absurd (let e = h refl in cc)
led_less false false w index a x h = omega arith
led_less false true w index a x h = go (w a)
  where
    go : (o : Option ℕ) → times x (option_map_or (held_by w index a) o []) ≤ times x (option_map_or (hits_of index) o [])
    go None = omega arith
    go (Some v) = times_filter (λ n. not (is_free_link_past w index.blocks a v n)) (hits_of index v) x

each_less : (f g : ℕ → List ℕ) (places : List ℕ) (x : ℕ) → ((a : ℕ) → times x (f a) ≤ times x (g a)) → times x (flat_map f places) ≤ times x (flat_map g places)
each_less f g [] x h = omega arith
each_less f g (a ∷ places) x h = omega (arith, times-append x (f a) (flat_map f places), times-append x (g a) (flat_map g places), h a, each_less f g places x h)

-- ---- if less is left out

-- a place that is outside the spans if more is left out is outside them if less is
inside_less : (less more : Bool) (small : List Span) (a : ℕ) → (less ≡ true → more ≡ true) → not (is_inside (if more then small else []) a) ≡ true → not (is_inside (if less then small else []) a) ≡ true
inside_less true true small a h is = is
inside_less true false small a h is = absurd (let e = h refl in cc)
inside_less false more small a h is = ap not (no_spans_inside [] a refl)

-- a segment that has root words if more is left out has some if less is
roots_less : (less more : Bool) (s : Segment) → (less ≡ true → more ≡ true) → has_roots more s ≡ true → has_roots less s ≡ true
unfolding has_roots
roots_less true true s h is = is
roots_less true false s h is = absurd (let e = h refl in cc)
roots_less false more s h is = always s.writable
  where
    always : (b : Bool) → (b || true) ≡ true
    always true = refl
    always false = refl

-- what passes one test and then another passes both
filter_twice : (p q : ℕ → Bool) (places : List ℕ) → filter p (filter q places) ≡ filter (λ a. q a && p a) places
filter_twice p q [] = refl
filter_twice p q (a ∷ places) =
    elim (q a) as (λ t. filter p (cond t (a ∷ filter q places) (filter q places)) ≡ cond (t && p a) (a ∷ filter (λ b. q b && p b) places) (filter (λ b. q b && p b) places)) [
      | true ↦ ap (λ (others : List ℕ). cond (p a) (a ∷ others) others) (filter_twice p q places)
      | false ↦ filter_twice p q places
    ]

and_less : (s t u v : Bool) → (s ≡ true → t ≡ true) → (u ≡ true → v ≡ true) → (s && u) ≡ true → (t && v) ≡ true
and_less true t true v i j h = rw (i refl, j refl) refl
and_less true t false v i j h = absurd cc
and_less false t u v i j h = absurd cc

memory_less : (core : List ℕ) (index : Index) (less more : Skip) (lines : List Line) (x : ℕ) → LeavesOutNoMore less more
    → times x (led_in_memory more.links (word_of core) index (root_places (left_out more core (live_of lines) lines) core (live_of lines)))
    ≤ times x (led_in_memory less.links (word_of core) index (root_places (left_out less core (live_of lines) lines) core (live_of lines)))
unfolding root_places kept_places outside_places
memory_less core index less more lines x h =
    let w = word_of core in
    let segments = segments_of core in
    let o = outside_places_in core (live_of lines) in
    let most = left_out more core (live_of lines) lines in
    let least = left_out less core (live_of lines) lines in
    let kept = λ (left : LeftOut) (a : ℕ). not (is_inside left.freed a) in
    let spare = λ (left : LeftOut) (a : ℕ). not (is_inside left.slack a) in
    let used = λ (left : LeftOut) (a : ℕ). not (is_inside left.dead a) in
    let both = λ (left : LeftOut) (a : ℕ). kept left a && spare left a in
    let every = λ (left : LeftOut) (a : ℕ). both left a && used left a in
    let places = flat_map o (filter (has_roots more.unwritable) segments) in
    let others = flat_map o (filter (has_roots less.unwritable) segments) in
    let left = led_is more.links w index (filter (used most) (filter (spare most) (filter (kept most) places)))
    ∙ ap (flat_map (led_at more.links w index)) (ap (filter (used most)) (filter_twice (spare most) (kept most) places) ∙ filter_twice (used most) (both most) places) in
    let right = led_is less.links w index (filter (used least) (filter (spare least) (filter (kept least) others)))
    ∙ ap (flat_map (led_at less.links w index)) (ap (filter (used least)) (filter_twice (spare least) (kept least) others) ∙ filter_twice (used least) (both least) others) in
    let one = each_less (led_at more.links w index) (led_at less.links w index) (filter (every most) places) x (λ a. led_less less.links more.links w index a x h.links) in
    let two = fewer (led_at less.links w index) (every most) (every least) places x (λ a. and_less (both most a) (both least a) (used most a) (used least a)
    (and_less (kept most a) (kept least a) (spare most a) (spare least a)
    (inside_less less.freed more.freed (small_spans_of lines) a h.freed) (inside_less less.slack more.slack (slack_spans_of w (live_of lines)) a h.slack))
    (inside_less less.dead more.dead (dead_spans_of core) a h.dead)) in
    let three = fewer_segments (led_at less.links w index) (every least) o (has_roots more.unwritable) (has_roots less.unwritable) segments x (λ s. roots_less less.unwritable more.unwritable s h.unwritable) in
    rw (left, right) (omega (arith, one, two, three))

pub first_within : (core : List ℕ) (reading : Distances) (less more : Skip) (lines : List Line) → LeavesOutNoMore less more
    → Within (first_of core (index_of reading lines) more lines) (first_of core (index_of reading lines) less lines)
first_within core reading less more lines h x has =
    let index = index_of reading lines in
    let w = word_of core in
    let registers = targets_of index (registers_of core) in
    let few = memory_less core index less more lines x h in
    let left = times-append x registers (led_in_memory more.links w index (root_places (left_out more core (live_of lines) lines) core (live_of lines))) in
    let right = times-append x registers (led_in_memory less.links w index (root_places (left_out less core (live_of lines) lines) core (live_of lines))) in
    omega (arith, few, left, right, has)

pub marked_with_less : (core : List ℕ) (reading : Distances) (less more : Skip) (lines : List Line) (i : ℕ) → LeavesOutNoMore less more
    → Reach (graph_of_one core reading more lines) i → Reach (graph_of_one core reading less lines) i
unfolding graph_of
marked_with_less core reading less more lines i h reached =
    reach_within (graph_of_one core reading more lines) (graph_of_one core reading less lines) (first_within core reading less more lines h) (λ b. (λ h. h, λ h. h)) refl i reached

-- ---- fewer blocks are kept

pub fewer_numbers : (p q : Block → Bool) (n : ℕ) (blocks : List Block) (x : ℕ) → ((b : Block) → p b ≡ true → q b ≡ true) → times x (numbers_from n p blocks) ≤ times x (numbers_from n q blocks)
fewer_numbers p q n [] x h = omega arith
fewer_numbers p q n (b ∷ blocks) x h = go (p b) (q b) (h b) (fewer_numbers p q (n + 1) blocks x h)
  where
    go : (s t : Bool) → (s ≡ true → t ≡ true) → times x (numbers_from (n + 1) p blocks) ≤ times x (numbers_from (n + 1) q blocks)
        → times x (if s then n ∷ numbers_from (n + 1) p blocks else numbers_from (n + 1) p blocks) ≤ times x (if t then n ∷ numbers_from (n + 1) q blocks else numbers_from (n + 1) q blocks)
    go true true i le = omega arith
    go true false i le = absurd (let e = i refl in cc)
    go false true i le = omega arith
    go false false i le = le

pub marked_line : (part whole : List Bool) (blocks : List Block) (line : ℕ) → length part ≡ length blocks → length whole ≡ length blocks
    → ((i : ℕ) → i < length blocks → slice_get part i ≡ Some true → slice_get whole i ≡ Some true) → has_marked_line part blocks line ≡ true → has_marked_line whole blocks line ≡ true
marked_line [] whole blocks line m n each h = absurd cc
marked_line (s ∷ part) whole [] line m n each h = absurd cc
marked_line (s ∷ part) [] (b ∷ blocks) line m n each h = absurd (omega (arith, n))
marked_line (s ∷ part) (t ∷ whole) (b ∷ blocks) line m n each h =
    go s t (b.line == line) (λ e. let f = each 0 (omega arith) (ap (λ (v : Bool). Some v) e) in cc) (marked_line part whole blocks line (omega (arith, m)) (omega (arith, n)) (λ i l e. each (suc i) (omega arith) e)) h
  where
    go : (s t same : Bool) → (s ≡ true → t ≡ true) → (has_marked_line part blocks line ≡ true → has_marked_line whole blocks line ≡ true)
        → (if s && same then true else has_marked_line part blocks line) ≡ true → (if t && same then true else has_marked_line whole blocks line) ≡ true
    go true true true i later h = refl
    go true false true i later h = absurd (let e = i refl in cc)
    go false true true i later h = refl
    go false false true i later h = later h
    go true true false i later h = later h
    go true false false i later h = later h
    go false true false i later h = later h
    go false false false i later h = later h

pub begins : (few many fresh roots all : List ℕ) (x : ℕ) → times x few ≤ times x many → (Has roots x → Has all x) → Has (few ++ fresh ++ roots) x → Has (many ++ fresh ++ all) x
begins few many fresh roots all x le more h =
    elim (of_append (few ++ fresh) roots x h) [
      | inr t ↦ has_back (many ++ fresh) all x (more t)
      | inl r ↦ has_front (many ++ fresh) all x
          (elim (of_append few fresh x r) [
            | inl k ↦ has_front many fresh x (omega (arith, k, le))
            | inr f ↦ has_back many fresh x f
          ])
    ]

kept_fewer : (core : List ℕ) (reading : Distances) (less more : Skip) (before now : List Line) (part whole : List Bool) (x : ℕ) → LeavesOutNoMore less more
    → IsMarkedEarlier core reading more before part → IsMarkedEarlier core reading less before whole → times x (kept_blocks before part now) ≤ times x (kept_blocks before whole now)
unfolding kept_of
kept_fewer core reading less more before now part whole x h few all =
    fewer_numbers (λ b. has_marked_line part (live_of before) b.line) (λ b. has_marked_line whole (live_of before) b.line) 0 (live_of now) x
    (λ b is. marked_line part whole (live_of before) b.line few.len all.len (λ j inside is. (all.each j inside).1 (marked_with_less core reading less more before j h ((few.each j inside).0 is))) is)

same_targets : (core : List ℕ) (reading : Distances) (skip other : Skip) (few many fresh : List ℕ) (now : List Line)
    → (graph_of_later core reading skip few fresh now).targets ≡ (graph_of_later core reading other many fresh now).targets
unfolding graph_of
same_targets core reading skip other few many fresh now = refl

pub marked_in_two_with_less : (core1 core2 : List ℕ) (reading : Distances) (less more : Skip) (before now : List Line) (part whole : List Bool) (i : ℕ) → LeavesOutNoMore less more
    → IsMarkedEarlier core1 reading more before part → IsMarkedEarlier core1 reading less before whole
    → Reach (graph_of_later core2 reading more (kept_blocks before part now) (new_blocks before now) now) i
    → Reach (graph_of_later core2 reading less (kept_blocks before whole now) (new_blocks before now) now) i
marked_in_two_with_less core1 core2 reading less more before now part whole i h few all reached =
    reach_within (graph_of_later core2 reading more (kept_blocks before part now) (new_blocks before now) now)
    (graph_of_later core2 reading less (kept_blocks before whole now) (new_blocks before now) now)
    (λ x begun. begins (kept_blocks before part now) (kept_blocks before whole now) (new_blocks before now) (first_of core2 (index_of reading now) more now)
    (first_of core2 (index_of reading now) less now) x (kept_fewer core1 reading less more before now part whole x h few all) (first_within core2 reading less more now h x) begun)
    (λ b. (λ h. h, λ h. h)) (same_targets core2 reading more less (kept_blocks before part now) (kept_blocks before whole now) (new_blocks before now) now) i reached
