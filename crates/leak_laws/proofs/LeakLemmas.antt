-- What is marked in no more is leaked in no less.
use Rattle.std.proofs.Common.{◌≡◌, ℕ, suc, ◌<◌, ◌≤◌, inl, inr, Bool, true, false, List, [], ◌∷◌, length, Some, slice_get, refl, sym, ap, subst, ◌∙◌, arith}
use Rattle.leak_mtrace.specs.declared.line.Line.{Line}
use Rattle.leak_mtrace.proofs.SameLogLemmas.{logs_are_one}
use Rattle.leak_blocks.specs.declared.block.Block.{Block}
use Rattle.leak_blocks.specs.Live.{live_of}
use Rattle.leak_index.specs.Leads.{Distances}
use Rattle.leak_roots.specs.declared.skip.Skip.{Skip}
use Rattle.leak_marks.specs.Reach.{Reach}
use Rattle.leak_pool.specs.Marking.{IsSet}
use Rattle.leak_report.specs.Totals.{leaked_in}
use Rattle.leak_search.specs.declared.found.Found.{Found}
use Rattle.leak_search.specs.Laws.{LeavesOutNoMore}
use Rattle.leak_search.specs.Search.{FindsOne, graph_of_one}
use Rattle.leak_search.specs.SearchTwo.{FindsTwo, IsMarkedEarlier, graph_of_later, kept_blocks, new_blocks}
use Rattle.leak_laws.specs.Leaks.{IsPartOf, LeadsToNoMore, LeakNoMore, leaked_by_one, leaked_by_two}
use Rattle.leak_laws.proofs.Reading.{reached_in_two_less, reached_less}

part_behind : {X : Type 0} (xs : List X) (y : X) (ys : List X) → IsPartOf xs ys → IsPartOf xs (y ∷ ys)
part_behind [] y ys part = tt
part_behind (x ∷ xs) y ys part = inr part

part_short : {X : Type 0} (xs ys : List X) → IsPartOf xs ys → length xs ≤ length ys
part_short [] ys part = omega arith
part_short (x ∷ xs) [] part = absurd part
part_short (x ∷ xs) (y ∷ ys) (inl p) = omega (arith, part_short xs ys p.1)
part_short (x ∷ xs) (y ∷ ys) (inr p) = omega (arith, part_short (x ∷ xs) ys p)

-- a set and one that has no more, for each block
pub leaked_part : (all some : List Bool) (blocks : List Block) → length all ≡ length blocks → length some ≡ length blocks
    → ((i : ℕ) → i < length blocks → slice_get some i ≡ Some true → slice_get all i ≡ Some true) → IsPartOf (leaked_in all blocks) (leaked_in some blocks)
leaked_part [] some blocks m n more = tt
leaked_part (s ∷ all) some [] m n more = absurd (omega (arith, m))
leaked_part (s ∷ all) [] (b ∷ blocks) m n more = absurd (omega (arith, n))
leaked_part (s ∷ all) (t ∷ some) (b ∷ blocks) m n more =
    go s t (λ e. let f = more 0 (omega arith) (ap (λ (v : Bool). Some v) e) in cc) (leaked_part all some blocks (omega (arith, m)) (omega (arith, n)) (λ i l e. more (suc i) (omega arith) e))
  where
    go : (u v : Bool) → (v ≡ true → u ≡ true) → IsPartOf (leaked_in all blocks) (leaked_in some blocks) → IsPartOf (leaked_in (u ∷ all) (b ∷ blocks)) (leaked_in (v ∷ some) (b ∷ blocks))
    go true true h rest = rest
    go true false h rest = part_behind (leaked_in all blocks) b (leaked_in some blocks) rest
    go false true h rest = absurd (let e = h refl in cc)
    go false false h rest = inl (refl, rest)

-- tests of two sets over the live blocks of one log, of which the second set is within the first
sets_part : (lines others : List Line) (all some : ℕ → Type 0) (xs ys : List Bool) → lines ≡ others → IsSet xs (length (live_of lines)) all → IsSet ys (length (live_of others)) some
    → ((i : ℕ) → i < length (live_of lines) → some i → all i) → IsPartOf (leaked_in xs (live_of lines)) (leaked_in ys (live_of others))
sets_part lines others all some xs ys e p q more =
    let n : length (live_of others) ≡ length (live_of lines) = ap (λ (l : List Line). length (live_of l)) (sym e) in
    subst (λ (l : List Line). IsPartOf (leaked_in xs (live_of lines)) (leaked_in ys (live_of l))) e
    (leaked_part xs ys (live_of lines) p.len (q.len ∙ n)
    (λ i low is. (p.each i low).1 (more i low ((q.each i (omega (arith, n))).0 is))))

no_more : (fewer all : List Block) (a b : Found) → IsPartOf fewer all → a.leaked ≡ length fewer → b.leaked ≡ length all → LeakNoMore fewer all a b
no_more fewer all a b part few many = record { blocks = part; number = (let le = part_short fewer all part in omega (arith, le, few, many)) }

pub leaked_in_one_stay : (core log : List ℕ) (few many : Distances) (less more : Skip) (check other : Bool) (workers others : ℕ) (a b : Found)
    → LeadsToNoMore few many → LeavesOutNoMore less more
    → (f : FindsOne core log many less check workers a) (g : FindsOne core log few more other others b)
    → LeakNoMore (leaked_by_one f) (leaked_by_one g) a b
leaked_in_one_stay core log few many less more check other workers others a b reads skips f g =
    let e : f.lines ≡ g.lines = logs_are_one log f.lines g.lines f.is_log g.is_log in
    no_more (leaked_by_one f) (leaked_by_one g) a b
    (sets_part f.lines g.lines (Reach (graph_of_one core many less f.lines)) (Reach (graph_of_one core few more g.lines)) f.set g.set e f.marked g.marked
    (λ i low reached. reached_less few many reads f.lines core less more i skips (subst (λ (l : List Line). Reach (graph_of_one core few more l) i) (sym e) reached)))
    f.leaked g.leaked

pub leaked_in_two_stay : (core1 log1 core2 log2 : List ℕ) (few many : Distances) (less more : Skip) (check other : Bool) (workers others : ℕ) (a b : Found)
    → LeadsToNoMore few many → LeavesOutNoMore less more
    → (f : FindsTwo core1 log1 core2 log2 many less check workers a) (g : FindsTwo core1 log1 core2 log2 few more other others b)
    → LeakNoMore (leaked_by_two f) (leaked_by_two g) a b
leaked_in_two_stay core1 log1 core2 log2 few many less more check other workers others a b reads skips f g =
    let before : f.first.lines ≡ g.first.lines = logs_are_one log1 f.first.lines g.first.lines f.first.log_is g.first.log_is in
    let now : f.second.lines ≡ g.second.lines = logs_are_one log2 f.second.lines g.second.lines f.second.log_is g.second.log_is in
    let marked : IsMarkedEarlier core1 few more f.first.lines g.earlier = subst (λ (l : List Line). IsMarkedEarlier core1 few more l g.earlier) (sym before) g.marked in
    no_more (leaked_by_two f) (leaked_by_two g) a b
    (sets_part f.second.lines g.second.lines
    (Reach (graph_of_later core2 many less (kept_blocks f.first.lines f.earlier f.second.lines) (new_blocks f.first.lines f.second.lines) f.second.lines))
    (Reach (graph_of_later core2 few more (kept_blocks g.first.lines g.earlier g.second.lines) (new_blocks g.first.lines g.second.lines) g.second.lines))
    f.finds.set g.finds.set now f.finds.marked g.finds.marked
    (λ i low reached. reached_in_two_less few many reads core1 core2 less more f.first.lines f.second.lines g.earlier f.earlier i skips marked f.marked
    (subst (λ (l : List Line). Reach (graph_of_later core2 few more (kept_blocks f.first.lines g.earlier l) (new_blocks f.first.lines l) l) i) (sym now)
    (subst (λ (l : List Line). Reach (graph_of_later core2 few more (kept_blocks l g.earlier g.second.lines) (new_blocks l g.second.lines) g.second.lines) i) (sym before) reached))))
    f.finds.leaked g.finds.leaked

pub leaked_of_two_are_of_one : (core1 log1 core2 log2 : List ℕ) (reading : Distances) (skip : Skip) (check other : Bool) (workers others : ℕ) (a b : Found)
    → (f : FindsTwo core1 log1 core2 log2 reading skip check workers a) (g : FindsOne core2 log2 reading skip other others b)
    → LeakNoMore (leaked_by_two f) (leaked_by_one g) a b
leaked_of_two_are_of_one core1 log1 core2 log2 reading skip check other workers others a b f g =
    let e : f.second.lines ≡ g.lines = logs_are_one log2 f.second.lines g.lines f.second.log_is g.is_log in
    let later = graph_of_later core2 reading skip (kept_blocks f.first.lines f.earlier f.second.lines) (new_blocks f.first.lines f.second.lines) f.second.lines in
    no_more (leaked_by_two f) (leaked_by_one g) a b
    (sets_part f.second.lines g.lines (Reach later) (Reach (graph_of_one core2 reading skip g.lines)) f.finds.set g.set e f.finds.marked g.marked
    (λ i low reached. (f.finds.marked.each i low).0 (f.finds.reached i low (subst (λ (l : List Line). Reach (graph_of_one core2 reading skip l) i) (sym e) reached))))
    f.finds.leaked g.leaked
