-- Marking over a core's pieces, parts and blocks is marking of its graph.
use Rattle.std.proofs.Common.{◌≡◌, ◌⊎◌, ℕ, ◌<◌, List, [], ◌∷◌, ◌++◌, length, map, Option, Result, Ok, Err, sym, ap, ◌∙◌, subst, inr, ⊎_elim, arith}
use Rattle.std.specs.Prelude.{IfOk}
use Rattle.std.specs.List.{concat, flat_map, AllByRecursion}
use Rattle.std.proofs.lemmas.List.{append-nil}
use Rattle.std.proofs.lemmas.List.Folds.{concat-append}
use Rattle.leak_index.specs.Hits.{Index}
use Rattle.leak_roots.specs.declared.piece.Piece.{Piece}
use Rattle.leak_roots.specs.Places.{Places}
use Rattle.leak_roots.specs.Pieces.{AreCut}
use Rattle.leak_scan.specs.Targets.{targets_of}
use Rattle.leak_scan.proofs.Ahead.{targets_none}
use Rattle.leak_marks.specs.Lists.{Has}
use Rattle.leak_marks.specs.Reach.{Graph, Reach}
use Rattle.leak_marks.specs.Partition.{Partitions}
use Rattle.leak_pool.specs.declared.start.Part.{Part}
use Rattle.leak_pool.specs.declared.start.Start.{Start}
use Rattle.leak_pool.specs.declared.marked.Marked.{Marked}
use Rattle.leak_pool.specs.Marking.{MarksFromRoots, MarksFrom, IsSet, graph_of, graph_from, led_by_roots, lists_of, part_words}
use Rattle.leak_pool.specs.Rounds.{IsMarked, graph_over}
use Rattle.leak_pool.specs.Scopes.{root_targets, all_targets, piece_targets, part_targets, AreParts}
use Rattle.leak_pool.proofs.ScopeLemmas.{long_all}
use Rattle.leak_pool.proofs.WordLemmas.{targets-flat_map, led_by_pieces}

pub parts_inside : (blocks : ℕ) (marked : List ℕ) (rescan : List (ℕ × Part)) → ((b : ℕ) → Has marked b → b < blocks) → AllByRecursion (λ part. Has marked part.0) rescan → AreParts blocks rescan
parts_inside blocks marked [] inside all = tt
parts_inside blocks marked (x ∷ xs) inside all = (inside x.0 all.0, parts_inside blocks marked xs inside all.1)

first_is : (word_at : ℕ → Option ℕ) (index : Index) (places : Places) (pieces : List Piece) (pages : List ℕ) (rescan : List (ℕ × Part)) (n : ℕ) → AreCut places n pieces
    → concat (root_targets word_at index places pieces pages rescan) ≡ led_by_roots word_at index places ++ targets_of index (flat_map (part_words word_at pages index.blocks) rescan)
first_is word_at index places pieces pages rescan n cut =
    concat-append (map (piece_targets word_at index places) pieces) (map (part_targets word_at index pages) rescan)
    ∙ ap (λ (l : List ℕ). l ++ concat (map (part_targets word_at index pages) rescan)) (led_by_pieces word_at index places n pieces cut)
    ∙ ap (λ (l : List ℕ). led_by_roots word_at index places ++ l) (sym (targets-flat_map index (part_words word_at pages index.blocks) rescan))

-- no words after them
led_alone : (index : Index) (led : List ℕ) → led ++ targets_of index [] ≡ led
led_alone index led = ap (λ (l : List ℕ). led ++ l) (targets_none index) ∙ append-nil led

pub graph_is : (word_at : ℕ → Option ℕ) (index : Index) (places : Places) (pieces : List Piece) (pages : List ℕ) (s : Start) (n : ℕ) → AreCut places n pieces
    → graph_over (root_targets word_at index places pieces pages s.rescan.items) (all_targets word_at index) s.marked.items ≡ graph_from word_at index places pages s
unfolding graph_of
graph_is word_at index places pieces pages s n cut =
    ap (λ (l : List ℕ). graph_with l) (first_is word_at index places pieces pages s.rescan.items n cut)
  where
    graph_with : List ℕ → Graph
    graph_with l = record { first = l; targets = all_targets word_at index; given = s.marked.items }

pub marks_from : (word_at : ℕ → Option ℕ) (index : Index) (places : Places) (pieces : List Piece) (pages : List ℕ) (s : Start) (workers n : ℕ) (m : Marked) → AreCut places n pieces
    → IsMarked (graph_over (root_targets word_at index places pieces pages s.rescan.items) (all_targets word_at index) s.marked.items) (length (all_targets word_at index)) workers m.set.items (lists_of m) m.rounds
    → MarksFrom word_at index places pages s workers m
marks_from word_at index places pieces pages s workers n m cut marked = record {
  set = subst (λ (k : ℕ). IsSet m.set.items k (λ b. Has s.marked.items b ⊎ Reach G b)) long (subst (λ (h : Graph). IsSet m.set.items (length (all_targets word_at index)) (λ b. Has s.marked.items b ⊎ Reach h b)) same marked.set);
  lists = marked.lists;
  claims = subst (λ (h : Graph). Partitions (lists_of m) (Reach h)) same marked.partition;
  rounds = let f = marked.few in omega (arith, long);
  none = λ z. marked.none (long ∙ z);
}
  where
    G : Graph
    G = graph_from word_at index places pages s

    long : length (all_targets word_at index) ≡ length index.blocks
    long = long_all word_at index

    same : graph_over (root_targets word_at index places pieces pages s.rescan.items) (all_targets word_at index) s.marked.items ≡ graph_from word_at index places pages s
    same = graph_is word_at index places pieces pages s n cut

-- from a start that marks nothing
pub marks_from_none : (word_at : ℕ → Option ℕ) (index : Index) (places : Places) (pages : List ℕ) (s : Start) (workers : ℕ) (m : Marked) → s.marked.items ≡ [] → s.rescan.items ≡ [] → MarksFrom word_at index places pages s workers m → MarksFromRoots word_at index places workers m
marks_from_none word_at index places pages s workers m unmarked unread from = record {
  set = record {
    len = from.set.len;
    each = λ k h. let e = from.set.each k h in (
      λ t. ⊎_elim (λ given. absurd (let z : 0 < 0 = subst (λ (l : List ℕ). Has l k) unmarked given in omega arith)) (λ r. subst (λ (g : Graph). Reach g k) same r) (e.0 t),
      λ r. e.1 (inr (subst (λ (g : Graph). Reach g k) (sym same) r)),
    );
  };
  lists = from.lists;
  claims = subst (λ (g : Graph). Partitions (lists_of m) (Reach g)) same from.claims;
  rounds = from.rounds;
  none = from.none;
}
  where
    same : graph_from word_at index places pages s ≡ graph_of word_at index (led_by_roots word_at index places) []
    same = ap (λ (l : List (ℕ × Part)). graph_of word_at index (led_by_roots word_at index places ++ targets_of index (flat_map (part_words word_at pages index.blocks) l)) s.marked.items) unread
        ∙ ap (λ (l : List ℕ). graph_of word_at index l s.marked.items) (led_alone index (led_by_roots word_at index places))
        ∙ ap (λ (l : List ℕ). graph_of word_at index (led_by_roots word_at index places) l) unmarked

pub graph_of_pieces : (word_at : ℕ → Option ℕ) (index : Index) (places : Places) (pieces : List Piece) (pages : List ℕ) (n : ℕ) → AreCut places n pieces
    → graph_over (root_targets word_at index places pieces pages []) (all_targets word_at index) [] ≡ graph_of word_at index (led_by_roots word_at index places) []
unfolding graph_of
graph_of_pieces word_at index places pieces pages n cut = ap (λ (l : List ℕ). with_first l) (first_is word_at index places pieces pages [] n cut ∙ led_alone index (led_by_roots word_at index places))
  where
    with_first : List ℕ → Graph
    with_first l = record { first = l; targets = all_targets word_at index; given = [] }

-- from no start, over pieces of the roots alone
pub marks_of_pieces : (word_at : ℕ → Option ℕ) (index : Index) (places : Places) (pieces : List Piece) (pages : List ℕ) (workers n : ℕ) (m : Marked) → AreCut places n pieces
    → IsMarked (graph_over (root_targets word_at index places pieces pages []) (all_targets word_at index) []) (length (all_targets word_at index)) workers m.set.items (lists_of m) m.rounds
    → MarksFromRoots word_at index places workers m
unfolding graph_of
marks_of_pieces word_at index places pieces pages workers n m cut marked = record {
  set = record {
    len = marked.set.len ∙ long;
    each = λ k h. let e = marked.set.each k (omega (arith, long, h)) in (
      λ t. ⊎_elim (λ given. absurd (let z : 0 < 0 = given in omega arith)) (λ r. subst (λ (g : Graph). Reach g k) same r) (e.0 t),
      λ r. e.1 (inr (subst (λ (g : Graph). Reach g k) (sym same) r)),
    );
  };
  lists = marked.lists;
  claims = subst (λ (g : Graph). Partitions (lists_of m) (Reach g)) same marked.partition;
  rounds = let f = marked.few in omega (arith, long, f);
  none = λ z. marked.none (long ∙ z);
}
  where
    long : length (all_targets word_at index) ≡ length index.blocks
    long = long_all word_at index

    same : graph_over (root_targets word_at index places pieces pages []) (all_targets word_at index) [] ≡ graph_of word_at index (led_by_roots word_at index places) []
    same = graph_of_pieces word_at index places pieces pages n cut

pub if_ok : {X E : Type 0} (P Q : X → Type 0) (r : Result X E) → ((x : X) → P x → Q x) → IfOk r P → IfOk r Q
if_ok P Q (Ok x) f h = f x h
if_ok P Q (Err e) f h = tt
