-- What a search of two cores comes to if the marked blocks are computed.
use Rattle.std.proofs.Common.{◌≡◌, ℕ, zero, suc, ◌+◌, ◌-◌, ◌*◌, ◌%◌, ◌^◌, ◌<◌, ◌≤◌, inl, inr, ⊎_elim, Bool, true, false, not, ◌&&◌, ◌||◌, ◌==◌, List, [], ◌∷◌, length, Option, Some, None, refl, sym, ap, subst, ◌∙◌, append-nil, arith, eq-eqb, if◌then◌else◌}
use Rattle.std.specs.Prelude.{nat_le, nat_lt, option_map, find}
use Rattle.std.specs.Int.{w64}
use Rattle.std.specs.List.{AllByRecursion, concat, list_all, list_any, range_with_len}
use Rattle.std.specs.Ordering.{nat_cmp}
use Rattle.std.proofs.lemmas.Bool.{cases_lt, eqb-true, lt-leb, ltb-true}
use Rattle.std.proofs.lemmas.Cmp.{nat_cmp_total}
use Rattle.std.proofs.lemmas.Map.Keys.{sorted_from_strictly_increasing}
use Rattle.leak_lemmas.proofs.Bools.{not_true, and_right, and_left}
use Rattle.leak_elf.specs.Fields.{number_at}
use Rattle.leak_elf.specs.Segments.{segments_of}
use Rattle.leak_elf.specs.Words.{holds_word, word_in, word_of}
use Rattle.leak_elf.specs.declared.segment.Segment.{Segment}
use Rattle.leak_mtrace.specs.declared.line.Line.{Line}
use Rattle.leak_mtrace.specs.Log.{IsLog, is_continued_by}
use Rattle.leak_mtrace.proofs.SameLogLemmas.{logs_are_one}
use Rattle.leak_blocks.specs.Live.{live_of}
use Rattle.leak_scan.specs.Heads.{heads_of}
use Rattle.leak_marks.specs.Lists.{Has, has, times}
use Rattle.leak_marks.specs.Partition.{Partitions}
use Rattle.leak_marks.specs.Reach.{Graph, Reach}
use Rattle.leak_marks.proofs.ListLemmas.{none_has, here, there, at_head, of_has, to_has}
use Rattle.leak_pool.specs.Marking.{IsSet}
use Rattle.leak_later.specs.Differing.{AreDiffering, differs, is_changed}
use Rattle.leak_lemmas.proofs.Members.{Has as IsElement, same_elements}
use Rattle.leak_report.specs.Report.{text_of}
use Rattle.leak_report.specs.Totals.{leaked_in}
use Rattle.leak_search.specs.declared.found.Found.{Found}
use Rattle.leak_search.specs.Inputs.{IsCore}
use Rattle.leak_search.specs.Signs.{fits_told}
use Rattle.leak_search.specs.Search.{claims_of, graph_of_one, index_of}
use Rattle.leak_search.specs.SearchTwo.{FindsTwo, graph_of_later, head_of_two, kept_blocks, new_blocks, numbers_of_two}
use Rattle.leak_search.proofs.TwoLemmas.{reached_later}
use Rattle.leak_roots.specs.Skipped.{usual_skip}
use Rattle.leak_examples.specs.Searches.{interior}
use Rattle.leak_examples.specs.TwoSearches.{FindsLater, Pair}
use Rattle.leak_examples.proofs.GraphTests.{each_passes, is_reached, reach_is, same_tests, tests_are, tests_of}

-- ---- pages that differ

none_any : (test : ℕ → Bool) (n from : ℕ) → ((a : ℕ) → from ≤ a → a < from + n → test a ≡ false) → list_any test (range_with_len from n) ≡ false
none_any test zero from h = refl
none_any test (suc n) from h = rw (h from (omega arith) (omega arith)) (none_any test n (from + 1) (λ a low high. h a (omega arith) (omega (arith, high))))

some_any : (test : ℕ → Bool) (n from a : ℕ) → from ≤ a → a < from + n → test a ≡ true → list_any test (range_with_len from n) ≡ true
some_any test zero from a low high t = absurd (omega arith)
some_any test (suc n) from a low high t = ⊎_elim
    (λ later. go (test from) (some_any test n (from + 1) a (omega arith) (omega arith) t))
    (λ here. let e : from ≡ a = omega arith in rw (e, t) refl)
    (cases_lt from a)
  where
    go : (b : Bool) → list_any test (range_with_len (from + 1) n) ≡ true → (b || list_any test (range_with_len (from + 1) n)) ≡ true
    go true e = refl
    go false e = e

unchanged : (w : Option ℕ) → is_changed w w ≡ false
unchanged None = refl
unchanged (Some n) = rw (eq-eqb n n refl) refl

no_word : (w : Option ℕ) → is_changed w None ≡ false
no_word None = refl
no_word (Some n) = refl

none_differs : (f : ℕ → Option ℕ) (page : ℕ) → differs f f page ≡ false
unfolding differs
none_differs f page = none_any (λ a. is_changed (f a) (f a)) 4096 (4096 * page) (λ a low high. unchanged (f a))

-- no page of one core differs from itself
pub none_differ : (core : List ℕ) → AreDiffering (word_of core) (word_of core) []
none_differ core = record { ascending = λ k h. absurd (omega arith); each = λ page. ((λ h. absurd (none_has page h)), (λ t. absurd (let e : true ≡ false = sym t ∙ none_differs (word_of core) page in cc))) }

none_either : (t : Bool) (o : Option ℕ) → o ≡ None → (if t then o else None) ≡ None
none_either true o e = e
none_either false o e = refl

-- outside the one segment of a core there is no word
no_word_past : (core : List ℕ) (s : Segment) (a : ℕ) → segments_of core ≡ s ∷ [] → holds_word a s ≡ false → word_of core a ≡ None
unfolding word_in word_of
no_word_past core s a one past = none_either (a % 8 == 0) (option_map (λ t. number_at w64 core (t.offset + (a - t.vaddr))) (find (holds_word a) (segments_of core))) (rw (one, past) refl)

before_segment : (s : Segment) (a : ℕ) → a < s.vaddr → holds_word a s ≡ false
before_segment s a h = rw (lt-leb s.vaddr a h) refl

past_segment : (s : Segment) (a : ℕ) → s.vaddr + s.filesz < a + 8 → holds_word a s ≡ false
past_segment s a h = go (nat_le s.vaddr a) (lt-leb (a + 8) (s.vaddr + s.filesz) h)
  where
    go : (t : Bool) → nat_le (a + 8) (s.vaddr + s.filesz) ≡ false → (t && nat_le (a + 8) (s.vaddr + s.filesz)) ≡ false
    go true e = e
    go false e = refl

-- the one segment of the later core is on one page, where a word has changed: that page alone differs
pub one_differs : (core1 core2 : List ℕ) (s : Segment) (page address : ℕ) → segments_of core2 ≡ s ∷ [] → 4096 * page ≤ s.vaddr → s.vaddr + s.filesz ≤ 4096 * page + 4096
    → 4096 * page ≤ address → address < 4096 * page + 4096 → is_changed (word_of core1 address) (word_of core2 address) ≡ true → AreDiffering (word_of core1) (word_of core2) (page ∷ [])
unfolding differs
one_differs core1 core2 s page address one low high from to changed = record {
  ascending = λ k h. absurd (omega arith);
  each = λ p. (
    (λ h. ⊎_elim
        (λ e. subst (λ (q : ℕ). differs (word_of core1) (word_of core2) q ≡ true) e (some_any (λ a. is_changed (word_of core1 a) (word_of core2 a)) 4096 (4096 * page) address from to changed))
        (λ r. absurd (none_has p r)) (at_head page [] p h)),
    (λ t. ⊎_elim
        (λ less. absurd (let e : true ≡ false = sym t ∙ none_any (λ a. is_changed (word_of core1 a) (word_of core2 a)) 4096 (4096 * p) (λ a l u.
        gone a (before_segment s a (omega (arith, u, less, low)))) in cc))
        (λ more. ⊎_elim
        (λ greater. absurd (let e : true ≡ false = sym t ∙ none_any (λ a. is_changed (word_of core1 a) (word_of core2 a)) 4096 (4096 * p) (λ a l u.
        gone a (past_segment s a (omega (arith, l, greater, high)))) in cc))
        (λ other. subst (λ (q : ℕ). Has (page ∷ []) q) (let e : page ≡ p = omega arith in e) (here page []))
        (cases_lt page p))
        (cases_lt p page)),
  );
}
  where
    gone : (a : ℕ) → holds_word a s ≡ false → is_changed (word_of core1 a) (word_of core2 a) ≡ false
    gone a past = ap (is_changed (word_of core1 a)) (no_word_past core2 s a one past) ∙ no_word (word_of core1 a)

element : (xs : List ℕ) (x : ℕ) → Has xs x → IsElement xs x
element [] x h = absurd (none_has x h)
element (y ∷ ys) x h = ⊎_elim (λ e. inl e) (λ r. inr (element ys x r)) (at_head y ys x h)

elements : (xs ys : List ℕ) → ((x : ℕ) → Has xs x → Has ys x) → AllByRecursion (IsElement ys) xs
elements [] ys h = tt
elements (x ∷ xs) ys h = (element ys x (h x (here x xs)), elements xs ys (λ z k. h z (there x xs z k)))

-- the pages that differ are one list
same_pages : (f g : ℕ → Option ℕ) (p q : List ℕ) → AreDiffering f g p → AreDiffering f g q → p ≡ q
same_pages f g p q a b = same_elements nat_cmp nat_cmp_total p q (sorted_from_strictly_increasing p a.ascending) (sorted_from_strictly_increasing q b.ascending)
    (elements p q (λ x h. (b.each x).1 ((a.each x).0 h))) (elements q p (λ x h. (a.each x).1 ((b.each x).0 h)))

-- ---- what is found

-- the tests of the blocks that were marked, what is kept of them, and the graph of the later core
abbrev pub tests_before : List Line → List ℕ → List Bool
tests_before before earlier = tests_of earlier (length (live_of before))

abbrev pub kept_with : List Line → List ℕ → List Line → List ℕ
kept_with before earlier now = kept_blocks before (tests_before before earlier) now

abbrev pub graph_with : Pair → List Line → List ℕ → List Line → Graph
graph_with p before earlier now = graph_of_later p.core2 interior usual_skip (kept_with before earlier now) (new_blocks before now) now

abbrev pub report_with : Pair → List Line → List Line → List ℕ → List ℕ → List Bool → List ℕ
report_with p before now pages kept set =
    text_of (head_of_two p.core2 p.log2 usual_skip now (numbers_of_two p.core2 pages (live_of now) kept (new_blocks before now))) (live_of now) set
    (heads_of (word_of p.core2) (index_of interior now) set) (fits_told false p.core2 now) p.log2

-- what is known of two inputs: which blocks were marked, and are
pub record IsPair (p : Pair) (before now : List Line) (earlier pages marked claimed : List ℕ) : Type 0 where
  pub core1 : IsCore p.core1
  pub core2 : IsCore p.core2
  pub log1 : IsLog p.log1 before
  pub log2 : IsLog p.log2 now
  pub continued : is_continued_by p.log1 p.log2 ≡ true
  pub few_before : nat_lt (length (live_of before)) (2 ^ 32) ≡ true
  pub few_now : nat_lt (length (live_of now)) (2 ^ 32) ≡ true
  pub was : is_reached (graph_of_one p.core1 interior usual_skip before) earlier ≡ true
  pub differing : AreDiffering (word_of p.core1) (word_of p.core2) pages
  pub is : is_reached (graph_with p before earlier now) marked ≡ true
  pub once : list_all (λ b. times b claimed == 1) claimed ≡ true
  pub others : list_all (λ b. has marked b && (not (has (kept_with before earlier now) b) && not (has (new_blocks before now) b))) claimed ≡ true
  pub all_others : list_all (λ b. has (kept_with before earlier now) b || (has (new_blocks before now) b || has claimed b)) marked ≡ true

or_three : (a b c : Bool) → (a || (b || c)) ≡ true → (a ≡ true → ⊥) → (b ≡ true → ⊥) → c ≡ true
or_three true b c e h k = absurd (h refl)
or_three false true c e h k = absurd (k refl)
or_three false false c e h k = e

pub finds_later : (p : Pair) (before now : List Line) (earlier pages marked claimed : List ℕ) (leaked : ℕ) (report : List ℕ) → IsPair p before now earlier pages marked claimed
    → report_with p before now pages (kept_with before earlier now) (tests_of marked (length (live_of now))) ≡ report → length (leaked_in (tests_of marked (length (live_of now))) (live_of now)) ≡ leaked
    → FindsLater p claimed leaked report
finds_later p before now earlier pages marked claimed leaked report h told count = record {
  report_is = λ workers found f. f.finds.report ∙ reported f ∙ told;
  leaked_is = λ workers found f. f.finds.leaked ∙ counted f ∙ count;
  allowed = λ found report_is leaked_is claims_are. record {
    first = record { core_is = h.core1; lines = before; log_is = h.log1 };
    second = record { core_is = h.core2; lines = now; log_is = h.log2 };
    continued = h.continued;
    few_before = ltb-true (length (live_of before)) (2 ^ 32) h.few_before;
    few_now = ltb-true (length (live_of now)) (2 ^ 32) h.few_now;
    earlier = tests_before before earlier;
    marked = were;
    pages = pages;
    differing = h.differing;
    finds = record {
      set = tests_of marked (length (live_of now));
      marked = are;
      reached = reached_later p.core2 interior usual_skip now kept fresh (tests_of marked (length (live_of now))) are;
      report = report_is ∙ sym told;
      leaked = leaked_is ∙ sym count;
      lists = ap (λ (l : List (List ℕ)). length l) claims_are;
      claims = parts (claims_of found) claims_are;
    };
  };
}
  where
    kept : List ℕ
    kept = kept_with before earlier now

    fresh : List ℕ
    fresh = new_blocks before now

    graph : Graph
    graph = graph_with p before earlier now

    were : IsSet (tests_before before earlier) (length (live_of before)) (Reach (graph_of_one p.core1 interior usual_skip before))
    were = tests_are (graph_of_one p.core1 interior usual_skip before) earlier (length (live_of before)) h.was

    are : IsSet (tests_of marked (length (live_of now))) (length (live_of now)) (Reach graph)
    are = tests_are graph marked (length (live_of now)) h.is

    whole : (claims : List (List ℕ)) → claims ≡ claimed ∷ [] → concat claims ≡ claimed
    whole claims is = ap (λ (l : List (List ℕ)). concat l) is ∙ append-nil claimed

    parts : (claims : List (List ℕ)) → claims ≡ claimed ∷ [] → Partitions claims (λ i. Reach graph i × ¬ Has kept i × ¬ Has fresh i)
    parts claims is = record {
      once = λ b r.
          let m : has marked b ≡ true = (reach_is graph marked b h.is).0 r.0 in
          let t = each_passes (λ x. has kept x || (has fresh x || has claimed x)) marked b h.all_others (of_has marked b m) in
          let c : has claimed b ≡ true = or_three (has kept b) (has fresh b) (has claimed b) t (λ e. r.1 (of_has kept b e)) (λ e. r.2 (of_has fresh b e)) in
          ap (λ (l : List ℕ). times b l) (whole claims is) ∙ eqb-true (times b claimed) 1 (each_passes (λ x. times x claimed == 1) claimed b h.once (of_has claimed b c));
      only = λ b c.
          let t = each_passes (λ x. has marked x && (not (has kept x) && not (has fresh x))) claimed b h.others (subst (λ (l : List ℕ). Has l b) (whole claims is) c) in (
            (reach_is graph marked b h.is).1 (and_left (has marked b) _ t),
            (λ k. not_true (has kept b) (and_left (not (has kept b)) _ (and_right (has marked b) _ t)) (to_has kept b k)),
            (λ k. not_true (has fresh b) (and_right (not (has kept b)) _ (and_right (has marked b) _ t)) (to_has fresh b k)),
          );
    }

    first_lines : {workers : ℕ} {found : Found} (f : FindsTwo p.core1 p.log1 p.core2 p.log2 interior usual_skip false workers found) → before ≡ f.first.lines
    first_lines f = logs_are_one p.log1 before f.first.lines h.log1 f.first.log_is

    second_lines : {workers : ℕ} {found : Found} (f : FindsTwo p.core1 p.log1 p.core2 p.log2 interior usual_skip false workers found) → now ≡ f.second.lines
    second_lines f = logs_are_one p.log2 now f.second.lines h.log2 f.second.log_is

    same_earlier : (ls : List Line) (set : List Bool) → before ≡ ls → IsSet set (length (live_of ls)) (Reach (graph_of_one p.core1 interior usual_skip ls)) → set ≡ tests_before before earlier
    same_earlier ls set e is = same_tests (Reach (graph_of_one p.core1 interior usual_skip before)) set (tests_before before earlier) (length (live_of before))
        (subst (λ (l : List Line). IsSet set (length (live_of l)) (Reach (graph_of_one p.core1 interior usual_skip l))) (sym e) is) were

    -- what the definition speaks of, by its lines, and the tests of blocks that were marked
    later : List Line → List Line → List Bool → Graph
    later b n set = graph_of_later p.core2 interior usual_skip (kept_blocks b set n) (new_blocks b n) n

    same_set : (b n : List Line) (early set : List Bool) → before ≡ b → now ≡ n → early ≡ tests_before before earlier → IsSet set (length (live_of n)) (Reach (later b n early)) → set ≡ tests_of marked (length (live_of now))
    same_set b n early set e g s is = same_tests (Reach graph) set (tests_of marked (length (live_of now))) (length (live_of now))
        (subst (λ (l : List Line). IsSet set (length (live_of l)) (Reach (later before l (tests_before before earlier)))) (sym g)
        (subst (λ (l : List Line). IsSet set (length (live_of n)) (Reach (later l n (tests_before before earlier)))) (sym e)
        (subst (λ (t : List Bool). IsSet set (length (live_of n)) (Reach (later b n t))) s is))) are

    set_of : {workers : ℕ} {found : Found} (f : FindsTwo p.core1 p.log1 p.core2 p.log2 interior usual_skip false workers found) → f.finds.set ≡ tests_of marked (length (live_of now))
    set_of f = same_set f.first.lines f.second.lines f.earlier f.finds.set (first_lines f) (second_lines f) (same_earlier f.first.lines f.earlier (first_lines f) f.marked) f.finds.marked

    counted : {workers : ℕ} {found : Found} (f : FindsTwo p.core1 p.log1 p.core2 p.log2 interior usual_skip false workers found)
        → length (leaked_in f.finds.set (live_of f.second.lines)) ≡ length (leaked_in (tests_of marked (length (live_of now))) (live_of now))
    counted f = ap (λ (t : List Bool). length (leaked_in t (live_of f.second.lines))) (set_of f) ∙ ap (λ (l : List Line). length (leaked_in (tests_of marked (length (live_of now))) (live_of l))) (sym (second_lines f))

    reported : {workers : ℕ} {found : Found} (f : FindsTwo p.core1 p.log1 p.core2 p.log2 interior usual_skip false workers found)
        → report_with p f.first.lines f.second.lines f.pages (kept_blocks f.first.lines f.earlier f.second.lines) f.finds.set ≡ report_with p before now pages kept (tests_of marked (length (live_of now)))
    reported f =
        ap (λ (t : List Bool). report_with p f.first.lines f.second.lines f.pages (kept_blocks f.first.lines f.earlier f.second.lines) t) (set_of f)
        ∙ ap (λ (g : List ℕ). report_with p f.first.lines f.second.lines g (kept_blocks f.first.lines f.earlier f.second.lines) (tests_of marked (length (live_of now)))) (same_pages (word_of p.core1) (word_of p.core2) f.pages pages f.differing h.differing)
        ∙ ap (λ (t : List Bool). report_with p f.first.lines f.second.lines pages (kept_blocks f.first.lines t f.second.lines) (tests_of marked (length (live_of now)))) (same_earlier f.first.lines f.earlier (first_lines f) f.marked)
        ∙ ap (λ (l : List Line). report_with p l f.second.lines pages (kept_blocks l (tests_before before earlier) f.second.lines) (tests_of marked (length (live_of now)))) (sym (first_lines f))
        ∙ ap (λ (l : List Line). report_with p before l pages (kept_blocks before (tests_before before earlier) l) (tests_of marked (length (live_of now)))) (sym (second_lines f))
