-- What a listing stands for, and marking and heads over it.
use Rattle.std.proofs.Common.{◌≡◌, ◌⊎◌, ℕ, zero, suc, ◌+◌, ◌-◌, ◌/◌, ◌%◌, ◌^◌, ◌<◌, ◌≤◌, List, [], ◌∷◌, ◌++◌, length, map, get_or, Bool, Option, Some, Ok, Vec, Global, refl, sym, ap, ◌∙◌, subst, inr, ⊎_elim, arith}
use Rattle.std.specs.Prelude.{◌↔◌, slice_get, IsErrOf}
use Rattle.std.specs.List.{concat, range_with_len}
use Rattle.std.specs.Option.{option_map_or}
use Rattle.std.proofs.lemmas.List.{get_or-map, length-map}
use Rattle.std.proofs.lemmas.Option.{slice_get-get_or}
use Rattle.leak_index.specs.Hits.{Index}
use Rattle.leak_roots.specs.Places.{Places}
use Rattle.leak_marks.specs.Lists.{Has}
use Rattle.leak_marks.specs.Reach.{Graph, Reach, IsChain, targets_of}
use Rattle.leak_marks.specs.Partition.{Partitions}
use Rattle.leak_pool.specs.Edges.{AreEdges}
use Rattle.leak_pool.specs.Items.{targets_of_block}
use Rattle.leak_pool.specs.Lists.{AreBlocks, each_alone, list_in, list_in_row, lists_in}
use Rattle.leak_pool.specs.Listing.{IsListingOf, targets_in}
use Rattle.leak_pool.specs.ListsLaw.{long_lists}
use Rattle.leak_pool.specs.Marking.{IsSet, MarksFromRoots, graph_of, led_by_roots, lists_of}
use Rattle.leak_pool.specs.Rounds.{IsMarked, graph_over}
use Rattle.leak_pool.specs.ScopeLaw.{blocks_inside}
use Rattle.leak_pool.specs.Scopes.{all_targets}
use Rattle.leak_pool.specs.declared.error.PoolError.{PoolError}
use Rattle.leak_pool.specs.declared.error.PoolError.TheVariants.{TooMany}
use Rattle.leak_pool.specs.declared.listing.Listing.{Listing}
use Rattle.leak_pool.specs.declared.marked.Marked.{Marked}
use Rattle.leak_pool.specs.declared.rows.Rows.{Rows}
use Rattle.leak_pool.proofs.ScopeLemmas.{long_all}

-- ---- lists

-- lists that agree with a function are those that it maps to
mapped : (lists : List (List ℕ)) (f : ℕ → List ℕ) (k : ℕ) → ((b : ℕ) → b < length lists → get_or lists b [] ≡ f (k + b)) → lists ≡ map f (range_with_len k (length lists))
mapped [] f k h = refl
mapped (x ∷ xs) f k h =
    ap (λ (y : List ℕ). y ∷ xs) (h 0 (omega arith) ∙ ap f (omega arith))
    ∙ ap (λ (ys : List (List ℕ)). f k ∷ ys) (mapped xs f (k + 1) (λ b l. h (suc b) (omega (arith, l)) ∙ ap f (omega arith)))

-- what rows list is what was to be listed
pub lists_are : (targets : List (List ℕ)) (n size : ℕ) (rows : List Rows) → n ≡ length targets → AreEdges targets size rows → lists_in n size rows ≡ targets
lists_are targets n size rows long are =
    ap (λ (k : ℕ). lists_in k size rows) long ∙ sym (mapped targets (list_in size rows) 0 (λ b below. sym (at b below)))
  where
    some : (rs : List Rows) → 0 < length rs → Rows
    some [] h = absurd (omega (arith, h))
    some (r ∷ rs) h = r

    at : (b : ℕ) → b < length targets → list_in size rows (0 + b) ≡ targets_of_block targets b
    at b below =
        let enough = are.enough b below in
        let row : Rows = some rows (omega (arith, enough)) in
        ap (list_in size rows) (let e : 0 + b ≡ b = omega arith in e)
        ∙ ap (λ (r : Option Rows). option_map_or (list_in_row (b % size)) r []) (slice_get-get_or rows (b / size) row enough)
        ∙ (are.each b row below).same

pub edges_listed : (targets : List (List ℕ)) (n size : ℕ) (rows : List Rows) → n ≡ length targets → AreEdges targets size rows → AreEdges (lists_in n size rows) size rows
edges_listed targets n size rows long are = subst (λ (ls : List (List ℕ)). AreEdges ls size rows) (sym (lists_are targets n size rows long are)) are

-- blocks lead to blocks
pub blocks_listed : (word_at : ℕ → Option ℕ) (index : Index) (n size : ℕ) (rows : List Rows) (first : List ℕ) → n ≡ length index.blocks
    → AreEdges (all_targets word_at index) size rows → ((b : ℕ) → Has first b → b < n) → AreBlocks n first (lists_in n size rows)
blocks_listed word_at index n size rows first long are inside = record {
  of_roots = inside;
  of_blocks = λ source b h.
      let all = long_all word_at index in
      let below = blocks_inside word_at index source b (subst (λ (ls : List (List ℕ)). Has (targets_of_block ls source) b) (lists_are (all_targets word_at index) n size rows (long ∙ sym all) are) h) in
      omega (arith, below, all, long);
}

-- blocks that can be numbered
pub not_many : (n m : ℕ) → n ≡ m → (2 ^ 32 - 1 < m → ⊥) → n < 2 ^ 32
not_many n m same few = omega (arith, same, few)

pub not_refused : (xs : Vec ℕ Global) → IsErrOf {T = Vec ℕ Global} {E = PoolError} (Ok xs) TooMany → ⊥
not_refused xs e = cc

-- ---- graphs

-- parts of one block each
alone_again : (first : List ℕ) → concat (each_alone first) ≡ first
alone_again [] = refl
alone_again (b ∷ first) = ap (λ (l : List ℕ). b ∷ l) (alone_again first)

-- a chain of one graph is one of another that begins with the same blocks
chain_as : (g h : Graph) → g.targets ≡ h.targets → g.given ≡ h.given → ((b : ℕ) → Has g.first b → Has h.first b) → (chain : List ℕ) → IsChain g chain → IsChain h chain
chain_as g h targets given first [] none = none
chain_as g h targets given first (b ∷ []) chain = (subst (λ (l : List ℕ). ¬ Has l b) given chain.0, first b chain.1)
chain_as g h targets given first (b ∷ source ∷ before) chain =
    (subst (λ (l : List ℕ). ¬ Has l b) given chain.0, subst (λ (ls : List (List ℕ)). Has (get_or ls source []) b) targets chain.1, chain_as g h targets given first (source ∷ before) chain.2)

reach_as : (g h : Graph) → g.targets ≡ h.targets → g.given ≡ h.given → ((b : ℕ) → Has g.first b → Has h.first b) → (b : ℕ) → Reach g b → Reach h b
reach_as g h targets given first b reach = (reach.0, chain_as g h targets given first (b ∷ reach.0) reach.1)

-- ---- marking

module _ (word_at : ℕ → Option ℕ) (index : Index) (places : Places) (l : Listing) (is : IsListingOf word_at index places l) where
  abbrev listed : Graph
  listed = graph_over (each_alone l.first.items) (targets_in l) []

  abbrev whole : Graph
  whole = graph_of word_at index (led_by_roots word_at index places) []

  there : (b : ℕ) → Reach listed b → Reach whole b
  unfolding graph_of
  there b reach = reach_as listed whole is.targets refl (λ x h. (is.first x).0 (subst (λ (xs : List ℕ). Has xs x) (alone_again l.first.items) h)) b reach

  back : (b : ℕ) → Reach whole b → Reach listed b
  unfolding graph_of
  back b reach = reach_as whole listed (sym is.targets) refl (λ x h. subst (λ (xs : List ℕ). Has xs x) (sym (alone_again l.first.items)) ((is.first x).1 h)) b reach

  long : length (targets_in l) ≡ length index.blocks
  long = ap (λ (ls : List (List ℕ)). length ls) is.targets ∙ long_all word_at index

  pub marks_listed : (workers : ℕ) (m : Marked) → IsMarked listed (length (targets_in l)) workers m.set.items (lists_of m) m.rounds → MarksFromRoots word_at index places workers m
  marks_listed workers m marked = record {
    set = record {
      len = marked.set.len ∙ long;
      each = λ k h. let e = marked.set.each k (omega (arith, long, h)) in (
        λ t. ⊎_elim (λ given. absurd (let z : 0 < 0 = given in omega arith)) (λ r. there k r) (e.0 t),
        λ r. e.1 (inr (back k r)),
      );
    };
    lists = marked.lists;
    claims = record { once = λ b r. marked.partition.once b (back b r); only = λ b h. there b (marked.partition.only b h) };
    rounds = let f = marked.few in omega (arith, long, f);
    none = λ z. marked.none (long ∙ z);
  }

pub long_alone : (first : List ℕ) → length (each_alone first) ≡ length first
long_alone first = length-map first (λ b. b ∷ [])

-- the part at a place
pub one_alone : (first : List ℕ) (k : ℕ) → k < length (each_alone first) → get_or first k 0 ∷ [] ≡ get_or (each_alone first) k []
one_alone first k h = sym (get_or-map (λ b. b ∷ []) first k 0 [] (let l = long_alone first in omega (arith, l, h)))
