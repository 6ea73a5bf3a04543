-- Marking by one thread, claim by claim and block by block.
use Rattle.std.proofs.Common.{◌≡◌, ℕ, zero, suc, ◌+◌, ◌<◌, ◌≤◌, Bool, true, false, true≢false, List, [], ◌∷◌, ◌++◌, length, get_or, set, take, drop, replicate, refl, sym, ap, ◌∙◌, subst, inl, inr, ⊎_elim, arith, append_assoc, length-append, length-set}
use Rattle.std.proofs.lemmas.List.{append-nil, get_or-set_same, get_or-set_other, get_or_append_left}
use mathlib.Core.Logic.{dite}
use native.Mathlib.Decide.{dec_lt, ℕ_discrete}
use Rattle.std.specs.List.{concat}
use Rattle.leak_marks.specs.Lists.{times, Has}
use Rattle.leak_marks.specs.Reach.{Graph, Reach, IsChain, targets_of}
use Rattle.leak_marks.specs.Partition.{Partitions}
use Rattle.leak_marks.proofs.ListLemmas.{here, at_head, has_front, has_back, of_append, has_last, of_push, distinct_push}
use Rattle.std.specs.Prelude.{Option, Some}
use Rattle.std.proofs.lemmas.List.{take_more, take_all, take-append-le}
use Rattle.std.proofs.lemmas.Option.{slice_get-get_or, get_or_from_slice_get}
use Rattle.std.proofs.lemmas.Grind.{flat_map-append}
use Rattle.leak_blocks.specs.declared.block.Block.{Block}
use Rattle.leak_index.specs.Hits.{Index}
use Rattle.leak_roots.specs.Places.{Places, AreRanges, IsRange, addresses_in, memory_places}
use Rattle.leak_scan.specs.Targets.{block_words, targets_of as targets_in}
use Rattle.leak_pool.specs.Alone.{AreMarks, AreTaken, IsFollowed}
use Rattle.leak_pool.specs.Marking.{MarksFromRoots, IsSet, graph_of, led_in_memory, led_from, led_by_roots, lists_of}
use Rattle.leak_pool.specs.declared.marked.Marked.{Marked}
use Rattle.leak_pool.proofs.CountLemmas.{has_at, at_has, few_distinct}
use Rattle.leak_pool.proofs.WordLemmas.{memory-nil, memory-append}
use Rattle.leak_pool.proofs.GraphLemmas.{graph-first, graph-given, graph-block}
use Rattle.leak_pool.proofs.ScanLemmas.{none_has}

-- ---- marks

pub marks_none : (n : ℕ) (list : List ℕ) → list ≡ [] → AreMarks (replicate n false) list
marks_none n list none = record {
  marked = λ b h. none_has b (subst (λ (l : List ℕ). Has l b) none h);
  only = λ b m. absurd (true≢false (sym m ∙ unset b));
  inside = λ b h. none_has b (subst (λ (l : List ℕ). Has l b) none h);
  once = λ b. let z : times b list ≡ 0 = ap (λ (l : List ℕ). times b l) none in omega arith;
}
  where
    off : (n b : ℕ) → get_or (replicate n false) b false ≡ false
    off zero b = refl
    off (suc n) zero = refl
    off (suc n) (suc b) = off n b

    unset : (b : ℕ) → get_or (replicate n false) b false ≡ false
    unset b = off n b

-- a block more, whose mark was not set
pub marks_more : (marks : List Bool) (list more : List ℕ) (b : ℕ) → b < length marks → get_or marks b false ≡ false → more ≡ list ++ b ∷ [] → AreMarks marks list → AreMarks (set marks b true) more
marks_more marks list more b inside unset is m = record {
  marked = λ x h. ⊎_elim (λ old. dite (ℕ_discrete b x) (λ e. of_block x e) (λ ne. get_or-set_other marks b x true false (λ e. ne (sym e)) ∙ m.marked x old)) (λ new. of_block x (sym new)) (of_push list b x (subst (λ (l : List ℕ). Has l x) is h));
  only = λ x t. subst (λ (l : List ℕ). Has l x) (sym is) (dite (ℕ_discrete b x) (λ e. subst (λ (y : ℕ). Has (list ++ b ∷ []) y) e (has_last list b)) (λ ne. has_front list (b ∷ []) x (m.only x (sym (get_or-set_other marks b x true false (λ e. ne (sym e))) ∙ t))));
  inside = λ x h. let l = length-set marks b true in ⊎_elim (λ old. let i = m.inside x old in let r : x < length (set marks b true) = omega arith in r) (λ new. let r : x < length (set marks b true) = omega arith in r) (of_push list b x (subst (λ (l : List ℕ). Has l x) is h));
  once = λ x. subst (λ (l : List ℕ). times x l ≤ 1) (sym is) (distinct_push list b (λ h. true≢false (sym (m.marked b h) ∙ unset)) m.once x);
}
  where
    of_block : (x : ℕ) → b ≡ x → get_or (set marks b true) x false ≡ true
    of_block x e = subst (λ (y : ℕ). get_or (set marks b true) y false ≡ true) e (get_or-set_same marks b true false inside)

-- ---- claims

pub taken_none : (list : List ℕ) → AreTaken [] list list
taken_none list = record {
  grown = ([], sym (append-nil list));
  covers = λ b h. none_has b h;
  gains = λ b h. inl h;
}

pub taken_both : (t u a b c : List ℕ) → AreTaken t a b → AreTaken u b c → AreTaken (t ++ u) a c
taken_both t u a b c p q = record {
  grown = (p.grown.0 ++ q.grown.0, q.grown.1 ∙ ap (λ (l : List ℕ). l ++ q.grown.0) p.grown.1 ∙ append_assoc a p.grown.0 q.grown.0);
  covers = λ x h. ⊎_elim (λ one. keeps x (p.covers x one)) (λ two. q.covers x two) (of_append t u x h);
  gains = λ x h. ⊎_elim (λ old. ⊎_elim (λ first. inl first) (λ one. inr (has_front t u x one)) (p.gains x old)) (λ two. inr (has_back t u x two)) (q.gains x h);
}
  where
    keeps : (x : ℕ) → Has b x → Has c x
    keeps x h = subst (λ (l : List ℕ). Has l x) (sym q.grown.1) (has_front b q.grown.0 x h)

pub taken_long : (t a b : List ℕ) → AreTaken t a b → length a ≤ length b
taken_long t a b p = let e = ap (λ (l : List ℕ). length l) p.grown.1 in let l = length-append a p.grown.0 in omega arith

-- one target more: it was listed already, or is the last now
pub taken_old : (t a b : List ℕ) (x : ℕ) → AreTaken t a b → Has b x → AreTaken (t ++ x ∷ []) a b
taken_old t a b x p old = taken_both t (x ∷ []) a b b p (record {
  grown = ([], sym (append-nil b));
  covers = λ y h. ⊎_elim (λ e. subst (λ (z : ℕ). Has b z) e old) (λ n. none_has y n) (at_head x [] y h);
  gains = λ y h. inl h;
})

pub taken_new : (t a b c : List ℕ) (x : ℕ) → AreTaken t a b → c ≡ b ++ x ∷ [] → AreTaken (t ++ x ∷ []) a c
taken_new t a b c x p is = taken_both t (x ∷ []) a b c p (record {
  grown = (x ∷ [], is);
  covers = λ y h. subst (λ (l : List ℕ). Has l y) (sym is) (has_back b (x ∷ []) y h);
  gains = λ y h. of_append b (x ∷ []) y (subst (λ (l : List ℕ). Has l y) is h);
})

-- ---- blocks

-- what the root words lead to is claimed
pub followed_none : (g : Graph) (list : List ℕ) → ((b : ℕ) → ¬ Has g.given b) → AreTaken g.first [] list → IsFollowed g list 0
followed_none g list free p = record {
  reached = λ b h. ⊎_elim (λ n. none_has b n) (λ f. ([], (free b, f))) (p.gains b h);
  first = p.covers;
  followed = λ k b h. absurd (omega arith);
}

-- one block more is scanned
pub followed_more : (g : Graph) (list after : List ℕ) (k : ℕ) → ((b : ℕ) → ¬ Has g.given b) → k < length list → IsFollowed g list k → AreTaken (targets_of g (get_or list k 0)) list after → IsFollowed g after (k + 1)
followed_more g list after k free inside f p = record {
  reached = λ b h. ⊎_elim (λ old. f.reached b old) (λ new. let r : Reach g (get_or list k 0) = f.reached (get_or list k 0) (at_has list k inside) in (get_or list k 0 ∷ r.0, (free b, new, r.1))) (p.gains b h);
  first = λ b h. keeps b (f.first b h);
  followed = λ i b low here t. let same : get_or after i 0 ≡ get_or list i 0 = ap (λ (l : List ℕ). get_or l i 0) p.grown.1 ∙ get_or_append_left list p.grown.0 0 i (omega arith) in
      let t' : Has (targets_of g (get_or list i 0)) b = subst (λ (y : ℕ). Has (targets_of g y) b) same t in
      dite (dec_lt i k) (λ lt. keeps b (f.followed i b lt (omega arith) t'))
      (λ ge. let e : i ≡ k = omega arith in p.covers b (subst (λ (n : ℕ). Has (targets_of g (get_or list n 0)) b) e t'));
}
  where
    keeps : (x : ℕ) → Has list x → Has after x
    keeps x h = subst (λ (l : List ℕ). Has l x) (sym p.grown.1) (has_front list p.grown.0 x h)

-- ---- the end

-- all blocks of the list are scanned: it has what is reached
pub listed_of : (g : Graph) (list : List ℕ) (n : ℕ) → length list ≤ n → IsFollowed g list n → (b : ℕ) (before : List ℕ) → IsChain g (b ∷ before) → Has list b
listed_of g list n all f b [] chain = f.first b chain.1
listed_of g list n all f b (s ∷ before) chain =
    let p = has_at list s (listed_of g list n all f s before chain.2) in let low : p.0 < length list = p.1 in
    f.followed p.0 b (omega arith) low (subst (λ (y : ℕ). Has (targets_of g y) b) (sym p.2) chain.1)

pub list_partitions : (g : Graph) (marks : List Bool) (list : List ℕ) (lists : List (List ℕ)) (n : ℕ) → lists ≡ list ∷ [] → length list ≤ n → AreMarks marks list → IsFollowed g list n → Partitions lists (Reach g)
list_partitions g marks list lists n is all m f = record {
  once = λ b r. let h : 0 < times b list = listed_of g list n all f b r.0 r.1 in let o : times b list ≤ 1 = m.once b in let e = flat b in omega arith;
  only = λ b h. f.reached b (let e = flat b in let h' : 0 < times b (concat lists) = h in let r : 0 < times b list = omega arith in r);
}
  where
    flat : (b : ℕ) → times b (concat lists) ≡ times b list
    flat b = ap (λ (l : List (List ℕ)). times b (concat l)) is ∙ ap (λ (l : List ℕ). times b l) (append-nil list)

-- ---- roots

pub range_at : (ranges : List (ℕ × ℕ)) (k : ℕ) (d : ℕ × ℕ) → k < length ranges → AreRanges ranges → IsRange (get_or ranges k d)
range_at [] k d h a = absurd (omega arith)
range_at (r ∷ rs) zero d h a = a.0
range_at (r ∷ rs) (suc k) d h a = range_at rs k d (omega arith) a.2

-- a range more is scanned
pub range_taken : (word_at : ℕ → Option ℕ) (index : Index) (skips_links : Bool) (registers : List ℕ) (ranges : List (ℕ × ℕ)) (k : ℕ) (d : ℕ × ℕ) (a b c : List ℕ) → k < length ranges
    → AreTaken (led_from skips_links word_at index registers (memory_places (take k ranges))) a b → AreTaken (led_in_memory skips_links word_at index (addresses_in (get_or ranges k d))) b c
    → AreTaken (led_from skips_links word_at index registers (memory_places (take (k + 1) ranges))) a c
range_taken word_at index skips_links registers ranges k d a b c h p q =
    subst (λ (l : List ℕ). AreTaken l a c) same (taken_both (led_from skips_links word_at index registers (memory_places (take k ranges))) (led_in_memory skips_links word_at index (addresses_in r)) a b c p q)
  where
    r : ℕ × ℕ
    r = get_or ranges k d

    all : memory_places (take (k + 1) ranges) ≡ memory_places (take k ranges) ++ addresses_in (get_or ranges k d)
    all = ap (λ l. memory_places l) (take_more ranges k d h) ∙ flat_map-append addresses_in (take k ranges) (get_or ranges k d ∷ []) ∙ ap (λ (l : List ℕ). memory_places (take k ranges) ++ l) (append-nil (addresses_in (get_or ranges k d)))

    same : led_from skips_links word_at index registers (memory_places (take k ranges)) ++ led_in_memory skips_links word_at index (addresses_in (get_or ranges k d))
        ≡ led_from skips_links word_at index registers (memory_places (take (k + 1) ranges))
    same = append_assoc (targets_in index registers) (led_in_memory skips_links word_at index (memory_places (take k ranges))) (led_in_memory skips_links word_at index (addresses_in (get_or ranges k d)))
        ∙ ap (λ (l : List ℕ). targets_in index registers ++ l) (sym (memory-append skips_links word_at index (memory_places (take k ranges)) (addresses_in (get_or ranges k d)))
        ∙ ap (λ (l : List ℕ). led_in_memory skips_links word_at index l) (sym all))

-- no range yet
pub registers_taken : (word_at : ℕ → Option ℕ) (index : Index) (skips_links : Bool) (registers : List ℕ) (a b : List ℕ) → AreTaken (targets_in index registers) a b → AreTaken (led_from skips_links word_at index registers (memory_places [])) a b
registers_taken word_at index skips_links registers a b p =
    subst (λ (l : List ℕ). AreTaken l a b) (sym (ap (λ (l : List ℕ). targets_in index registers ++ l) (memory-nil skips_links word_at index) ∙ append-nil (targets_in index registers))) p

-- all ranges
pub roots_taken : (word_at : ℕ → Option ℕ) (index : Index) (p : Places) (n : ℕ) (a b : List ℕ) → length p.memory ≤ n → AreTaken (led_from p.skips_links word_at index p.registers (memory_places (take n p.memory))) a b → AreTaken (led_by_roots word_at index p) a b
roots_taken word_at index p n a b h t = subst (λ (l : List (ℕ × ℕ)). AreTaken (led_from p.skips_links word_at index p.registers (memory_places l)) a b) (take_all n p.memory h) t

-- ---- marking of a log's blocks

pub free : (word_at : ℕ → Option ℕ) (index : Index) (first : List ℕ) (b : ℕ) → ¬ Has (graph_of word_at index first []).given b
free word_at index first b h = none_has b (subst (λ (l : List ℕ). Has l b) (graph-given word_at index first []) h)

pub marks_few : (marks : List Bool) (list : List ℕ) → AreMarks marks list → length list ≤ length marks
marks_few marks list m = few_distinct (length marks) list m.once m.inside

pub block_taken : (word_at : ℕ → Option ℕ) (index : Index) (first : List ℕ) (blocks : List Block) (d : Block) (list after : List ℕ) (k b : ℕ) → index.blocks ≡ blocks → b ≡ get_or list k 0 → b < length blocks
    → AreTaken (targets_in index (block_words word_at (get_or blocks b d))) list after → AreTaken (targets_of (graph_of word_at index first []) (get_or list k 0)) list after
block_taken word_at index first blocks d list after k b are is low taken =
    subst (λ (x : ℕ). AreTaken (targets_of (graph_of word_at index first []) x) list after) is
    (subst (λ (l : List ℕ). AreTaken l list after) (sym (graph-block word_at index first [] b d (let e = ap (λ (l : List Block). length l) are in omega arith)))
    (subst (λ (l : List Block). AreTaken (targets_in index (block_words word_at (get_or l b d))) list after) (sym are) taken))

pub block_followed : (word_at : ℕ → Option ℕ) (index : Index) (first : List ℕ) (blocks : List Block) (d : Block) (list after : List ℕ) (k b : ℕ) → index.blocks ≡ blocks → k < length list → b ≡ get_or list k 0 → b < length blocks
    → AreTaken (targets_in index (block_words word_at (get_or blocks b d))) list after → IsFollowed (graph_of word_at index first []) list k → IsFollowed (graph_of word_at index first []) after (k + 1)
block_followed word_at index first blocks d list after k b are inside is low taken f =
    followed_more (graph_of word_at index first []) list after k (free word_at index first) inside f (block_taken word_at index first blocks d list after k b are is low taken)

pub roots_followed : (word_at : ℕ → Option ℕ) (index : Index) (first : List ℕ) (none list : List ℕ) → none ≡ [] → AreTaken first none list → IsFollowed (graph_of word_at index first []) list 0
roots_followed word_at index first none list empty t = followed_none (graph_of word_at index first []) list (free word_at index first)
    (subst (λ (l : List ℕ). AreTaken l [] list) (sym (graph-first word_at index first [])) (subst (λ (l : List ℕ). AreTaken first l list) empty t))

pub alone_marks : (word_at : ℕ → Option ℕ) (index : Index) (places : Places) (marks : List Bool) (list : List ℕ) (m : Marked) → AreMarks marks list → IsFollowed (graph_of word_at index (led_by_roots word_at index places) []) list (length list)
    → length marks ≡ length index.blocks → m.set.items ≡ marks → lists_of m ≡ list ∷ [] → m.rounds ≤ length index.blocks + 1 → (length index.blocks ≡ 0 → m.rounds ≡ 0) → MarksFromRoots word_at index places 1 m
alone_marks word_at index places marks list m are f long set_is lists_are few none = record {
  set = subst (λ (l : List Bool). IsSet l (length index.blocks) (Reach G)) (sym set_is) (record {
    len = long;
    each = λ k h. (
      λ t. f.reached k (are.only k (get_or_from_slice_get marks k true false t)),
      λ r. slice_get-get_or marks k false (omega arith) ∙ ap (λ (b : Bool). Some b) (are.marked k (listed_of G list (length list) (omega arith) f k r.0 r.1)),
    );
  });
  lists = ap (λ (l : List (List ℕ)). length l) lists_are;
  claims = list_partitions G marks list (lists_of m) (length list) lists_are (omega arith) are f;
  rounds = few;
  none = none;
}
  where
    G : Graph
    G = graph_of word_at index (led_by_roots word_at index places) []

-- what a slice of all elements wrote back
pub written_back : (n : ℕ) (new old : List Bool) → length new ≡ n → take n (new ++ drop (length new) old) ≡ new
written_back n new old e = take-append-le n new (drop (length new) old) (omega arith) ∙ take_all n new (omega arith)

-- ---- an iterator over targets

pub next_is_target : (yielded rest later all targets : List ℕ) (b : ℕ) → rest ≡ b ∷ later → yielded ++ rest ≡ all → all ≡ targets → Has targets b
next_is_target yielded rest later all targets b is left same = subst (λ (l : List ℕ). Has l b) (left ∙ same) (has_back yielded rest b (subst (λ (l : List ℕ). Has l b) (sym is) (here b later)))

pub next_left : (yielded rest later all : List ℕ) (b : ℕ) → rest ≡ b ∷ later → yielded ++ rest ≡ all → yielded ++ b ∷ [] ++ later ≡ all
next_left yielded rest later all b is left = append_assoc yielded (b ∷ []) later ∙ ap (λ (l : List ℕ). yielded ++ l) (sym is) ∙ left
