-- What ranges lead to without those that lead to no block.
use Rattle.std.proofs.Common.{◌≡◌, ℕ, ◌≤◌, Bool, true, false, cond, List, [], ◌∷◌, ◌++◌, length, filter, nat_lt, Option, None, Some, is_some, refl, sym, ap, subst, ◌∙◌, arith}
use Rattle.std.specs.Iterator.{YieldsFirst}
use Rattle.std.specs.List.{AllByRecursion}
use Rattle.std.proofs.lemmas.Bool.{lt-ltb, ltb-false}
use Rattle.leak_elf.specs.Words.{word_of}
use Rattle.leak_notes.specs.Threads.{Registers}
use Rattle.leak_blocks.specs.declared.block.Block.{Block}
use Rattle.leak_blocks.specs.declared.small.Span.{Span}
use Rattle.leak_index.specs.Hits.{Index}
use Rattle.leak_roots.specs.Places.{Places, AreRanges, addresses_in, memory_places}
use Rattle.leak_scan.specs.Targets.{targets_of}
use Rattle.leak_roots.specs.Found.{AreRootsFoundWhere}
use Rattle.leak_pool.specs.Leading.{leading, leads}
use Rattle.leak_pool.specs.LeadingFound.{AreLeadingFound}
use Rattle.leak_marks.specs.Partition.{Partitions}
use Rattle.leak_marks.specs.Reach.{Reach}
use Rattle.leak_pool.specs.Marking.{IsSet, MarksFromRoots, graph_of, led_by_roots, led_in_memory, lists_of}
use Rattle.leak_pool.specs.declared.marked.Marked.{Marked}
use Rattle.leak_pool.proofs.WordLemmas.{memory-append}

-- ---- some of the ranges

all_left : (P : ℕ × ℕ → Type 0) (test : ℕ × ℕ → Bool) (ranges : List (ℕ × ℕ)) → AllByRecursion P ranges → AllByRecursion P (filter test ranges)
all_left P test [] h = tt
all_left P test (r ∷ rs) h = go (test r) (all_left P test rs h.1)
  where
    go : (t : Bool) → AllByRecursion P (filter test rs) → AllByRecursion P (cond t (r ∷ filter test rs) (filter test rs))
    go true rest = (h.0, rest)
    go false rest = rest

pub ranges_left : (test : ℕ × ℕ → Bool) (ranges : List (ℕ × ℕ)) → AreRanges ranges → AreRanges (filter test ranges)
ranges_left test [] h = tt
ranges_left test (r ∷ rs) h = go (test r) (ranges_left test rs h.2)
  where
    go : (t : Bool) → AreRanges (filter test rs) → AreRanges (cond t (r ∷ filter test rs) (filter test rs))
    go true rest = (h.0, all_left (λ s. r.1 ≤ s.0) test rs h.1, rest)
    go false rest = rest

-- ---- what they lead to

-- whether there is a first one says whether there is one
pub some_first : (list rest : List ℕ) (first : Option ℕ) → YieldsFirst (λ xs. xs) list first rest → is_some first ≡ nat_lt 0 (length list)
some_first list rest None h = rw h.0 refl
some_first list rest (Some x) h = rw h (sym (lt-ltb 0 (length (x ∷ rest)) (omega arith)))

none : (list : List ℕ) → nat_lt 0 (length list) ≡ false → list ≡ []
none [] h = refl
none (x ∷ xs) h = let z : length (x ∷ xs) ≤ 0 = ltb-false 0 (length (x ∷ xs)) h in absurd (omega (arith, z))

module _ (skips_links : Bool) (word_at : ℕ → Option ℕ) (index : Index) where
  abbrev led : List (ℕ × ℕ) → List ℕ
  led ranges = led_in_memory skips_links word_at index (memory_places ranges)

  led_same : (ranges : List (ℕ × ℕ)) → led (filter (leads skips_links word_at index) ranges) ≡ led ranges
  led_same [] = refl
  led_same (r ∷ rs) = go (led_same rs) (leads skips_links word_at index r) refl
    where
      one : List ℕ
      one = led_in_memory skips_links word_at index (addresses_in r)

      split : (rest : List (ℕ × ℕ)) → led (r ∷ rest) ≡ one ++ led rest
      split rest = memory-append skips_links word_at index (addresses_in r) (memory_places rest)

      go : led (filter (leads skips_links word_at index) rs) ≡ led rs → (t : Bool) → leads skips_links word_at index r ≡ t → led (cond t (r ∷ filter (leads skips_links word_at index) rs) (filter (leads skips_links word_at index) rs)) ≡ led (r ∷ rs)
      go rest true e = split (filter (leads skips_links word_at index) rs) ∙ ap (λ (l : List ℕ). one ++ l) rest ∙ sym (split rs)
      go rest false e = rest ∙ sym (split rs ∙ ap (λ (l : List ℕ). l ++ led rs) (none one e))

pub led_by_leading : (word_at : ℕ → Option ℕ) (index : Index) (places : Places) → led_by_roots word_at index (leading word_at index places) ≡ led_by_roots word_at index places
unfolding leading
led_by_leading word_at index places = ap (λ (l : List ℕ). targets_of index places.registers ++ l) (led_same places.skips_links word_at index places.memory)

-- all ranges that a search finds, and those of them that lead to a block
pub leading_found : (index : Index) (unwritable : Bool) (small : List Span) (file : List ℕ) (threads : Registers) (blocks : List Block) (p : Places)
    → AreRootsFoundWhere (leads false (word_of file) index) unwritable small file threads blocks p → AreLeadingFound index unwritable small file threads blocks p
unfolding leading
leading_found index unwritable small file threads blocks p where' =
    let all' : Places = record p { memory = where'.all } in
    let kept : p ≡ record p { memory = filter (leads false (word_of file) index) where'.all } = ap (λ (l : List (ℕ × ℕ)). record p { memory = l }) where'.kept in
    let value' : p ≡ leading (word_of file) index all' =
    kept ∙ ap (λ (s : Bool). record p { memory = filter (leads s (word_of file) index) where'.all }) (sym where'.found.links) in
    record {
      all = all';
      found = where'.found;
      value = value';
      led = ap (λ (q : Places). led_by_roots (word_of file) index q) value' ∙ led_by_leading (word_of file) index all';
    }

-- ---- what is marked

-- from root words that lead to the same blocks the same is marked
pub marks_by_led : (word_at : ℕ → Option ℕ) (index : Index) (places others : Places) (workers : ℕ) (m : Marked) → led_by_roots word_at index places ≡ led_by_roots word_at index others
    → MarksFromRoots word_at index places workers m → MarksFromRoots word_at index others workers m
marks_by_led word_at index places others workers m same marks = record {
  set = subst (λ (first : List ℕ). IsSet m.set.items (length index.blocks) (Reach (graph_of word_at index first []))) same marks.set;
  lists = marks.lists;
  claims = subst (λ (first : List ℕ). Partitions (lists_of m) (Reach (graph_of word_at index first []))) same marks.claims;
  rounds = marks.rounds;
  none = marks.none;
}
