-- What root words and blocks lead to, found one after another, and the links back.
use Rattle.std.proofs.Common.{◌≡◌, ℕ, ◌+◌, ◌<◌, ◌≤◌, List, [], ◌∷◌, ◌++◌, length, get_or, Option, Some, slice_get, refl, sym, ap, ◌∙◌, subst, inl, inr, ◌⊎◌, ⊎_elim, arith, length-append, append_assoc}
use Rattle.std.specs.List.{AllByRecursion}
use Rattle.std.proofs.lemmas.List.{append-nil}
use Rattle.std.proofs.lemmas.Option.{slice_get_within}
use Rattle.leak_marks.specs.Lists.{Has}
use Rattle.leak_marks.proofs.ListLemmas.{none_has, here, at_head, has_front, has_back, of_append}
use Rattle.leak_index.specs.Hits.{Index}
use Rattle.leak_roots.specs.Places.{Places}
use Rattle.leak_blocks.specs.declared.block.Block.{Block}
use Rattle.leak_scan.specs.Targets.{targets_of, block_words, block_targets}
use Rattle.leak_pool.specs.Marking.{led_by_roots}
use Rattle.leak_pool.specs.Alone.{AreTaken}
use Rattle.leak_pool.proofs.GraphLemmas.{graph-first}
use Rattle.leak_why.proofs.WordLemmas.{block_target}
use Rattle.leak_marks.specs.Reach.{targets_of as targets_in}
use Rattle.leak_why.specs.declared.chain.Link.{Link}
use Rattle.leak_why.specs.declared.chain.RootWord.{RootWord}
use Rattle.leak_why.specs.Chains.{IsLink, IsRoot, IsChain, search_graph}
use Rattle.leak_why.specs.declared.reached_block.ReachedBlock.{ReachedBlock}
use Rattle.leak_why.specs.declared.reached_block.Origin.{Origin}
use Rattle.leak_why.specs.declared.reached_block.FirstLead.{FirstLead}
use Rattle.leak_why.specs.declared.reached_block.FirstLead.TheVariants.{Root, Earlier}
use Rattle.leak_why.specs.ReachedBlocks.{AreFound, IsOrigin, IsLedBy, AreLedByRoots, AreLedByBlocks, AreRooted, AreFollowed, AreLinks, blocks_of, led_of_origin}
use Rattle.leak_why.proofs.EntryLemmas.{get_grown, get_back, all_at, of_block, blocks-append, not_both}
use Rattle.leak_why.proofs.ReachedBlockLemmas.{spreads_more, spreads_first}

-- ---- what a source leads to

all_append : (P : ReachedBlock → Type 0) (xs ys : List ReachedBlock) → AllByRecursion P xs → AllByRecursion P ys → AllByRecursion P (xs ++ ys)
all_append P [] ys a b = b
all_append P (x ∷ xs) ys a b = (a.0, all_append P xs ys a.1 b)

all_weaker : (P Q : ReachedBlock → Type 0) (xs : List ReachedBlock) → ((x : ReachedBlock) → P x → Q x) → AllByRecursion P xs → AllByRecursion Q xs
all_weaker P Q [] f a = tt
all_weaker P Q (x ∷ xs) f a = (f x a.0, all_weaker P Q xs f a.1)

pub found_none : (s : FirstLead) (es : List ReachedBlock) → AreFound s [] es es
found_none s es = record {
  more = [];
  grown = sym (append-nil es);
  gains = tt;
  covers = λ b h. absurd (none_has b h);
}

-- a block that was found already
pub found_old : (e : ReachedBlock) (es : List ReachedBlock) → Has (blocks_of es) e.block → AreFound e.source (e.block ∷ []) es es
found_old e es old = record {
  more = [];
  grown = sym (append-nil es);
  gains = tt;
  covers = λ b h. ⊎_elim (λ is. subst (λ (x : ℕ). Has (blocks_of es) x) is old) (λ n. absurd (none_has b n)) (at_head e.block [] b h);
}

-- and one that was not
pub found_new : (e : ReachedBlock) (es after : List ReachedBlock) → after ≡ es ++ e ∷ [] → AreFound e.source (e.block ∷ []) es after
found_new e es after is = record {
  more = e ∷ [];
  grown = is;
  gains = ((refl, here e.block []), tt);
  covers = λ b h. subst (λ (l : List ℕ). Has l b) (sym (ap blocks_of is ∙ blocks-append es (e ∷ []))) (has_back (blocks_of es) (e.block ∷ []) b h);
}

pub found_both : (s : FirstLead) (t u : List ℕ) (a b c : List ReachedBlock) → AreFound s t a b → AreFound s u b c → AreFound s (t ++ u) a c
found_both s t u a b c p q = record {
  more = p.more ++ q.more;
  grown = q.grown ∙ ap (λ (l : List ReachedBlock). l ++ q.more) p.grown ∙ append_assoc a p.more q.more;
  gains = all_append _ p.more q.more
      (all_weaker _ _ p.more (λ x h. (h.0, has_front t u x.block h.1)) p.gains)
      (all_weaker _ _ q.more (λ x h. (h.0, has_back t u x.block h.1)) q.gains);
  covers = λ x h. ⊎_elim (λ one. keeps x (p.covers x one)) (λ two. q.covers x two) (of_append t u x h);
}
  where
    keeps : (x : ℕ) → Has (blocks_of b) x → Has (blocks_of c) x
    keeps x h = subst (λ (l : List ℕ). Has l x) (sym (ap blocks_of q.grown ∙ blocks-append b q.more)) (has_front (blocks_of b) (blocks_of q.more) x h)

-- as claims of blocks
pub found_taken : (s : FirstLead) (t : List ℕ) (a b : List ReachedBlock) → AreFound s t a b → AreTaken t (blocks_of a) (blocks_of b)
found_taken s t a b p = record {
  grown = (blocks_of p.more, ap blocks_of p.grown ∙ blocks-append a p.more);
  covers = p.covers;
  gains = λ x h. ⊎_elim (λ old. inl old) (λ new. inr (of_more x new)) (of_append (blocks_of a) (blocks_of p.more) x (subst (λ (l : List ℕ). Has l x) (ap blocks_of p.grown ∙ blocks-append a p.more) h));
}
  where
    of_more : (x : ℕ) → Has (blocks_of p.more) x → Has t x
    of_more x h =
        let q : (i : ℕ) × (e : ReachedBlock) × (slice_get p.more i ≡ Some e) × (e.block ≡ x) = of_block p.more x h in
        subst (λ (y : ℕ). Has t y) q.3 (all_at (λ e. (e.source ≡ s) × Has t e.block) p.more q.0 q.1 p.gains q.2).1

-- ---- what root words lead to

-- entries of root words
pub record AreOfRoots (word_at : ℕ → Option ℕ) (index : Index) (p : Places) (es : List ReachedBlock) : Type 0 where
  pub roots : (i : ℕ) (e : ReachedBlock) → slice_get es i ≡ Some e → (o : Origin) × (e.source ≡ Root o)
  pub led : AreLedByRoots word_at index p es

pub of_roots_none : (word_at : ℕ → Option ℕ) (index : Index) (p : Places) (es : List ReachedBlock) → es ≡ [] → AreOfRoots word_at index p es
of_roots_none word_at index p es none = record {
  roots = λ i e h. absurd (impossible i e h);
  led = λ i e o h s. absurd (impossible i e h);
}
  where
    impossible : (i : ℕ) (e : ReachedBlock) → slice_get es i ≡ Some e → ⊥
    impossible i e h = let l = slice_get_within [] i e (subst (λ (xs : List ReachedBlock). slice_get xs i ≡ Some e) none h) in omega arith

pub of_roots_more : (word_at : ℕ → Option ℕ) (index : Index) (p : Places) (o : Origin) (targets : List ℕ) (es after : List ReachedBlock) → IsOrigin p o → targets ≡ led_of_origin word_at index p o
    → AreFound (Root o) targets es after → AreOfRoots word_at index p es → AreOfRoots word_at index p after
of_roots_more word_at index p o targets es after is same f r = subst (λ (l : List ReachedBlock). AreOfRoots word_at index p l) (sym f.grown) (record {
  roots = λ i e h. ⊎_elim (λ old. r.roots i e old)
      (λ new. let q : (k : ℕ) × (i ≡ length es + k) × (slice_get f.more k ≡ Some e) = new in (o, (here_is q.0 e q.2).0))
      (get_back es f.more i e h);
  led = λ i e n h s. ⊎_elim (λ old. r.led i e n old s)
      (λ new. let q : (k : ℕ) × (i ≡ length es + k) × (slice_get f.more k ≡ Some e) = new in
      let e_is : o ≡ n = root_same o n (sym (here_is q.0 e q.2).0 ∙ s) in
      subst (λ (x : Origin). IsOrigin p x × Has (led_of_origin word_at index p x) e.block) e_is (is, subst (λ (l : List ℕ). Has l e.block) same (here_is q.0 e q.2).1))
      (get_back es f.more i e h);
})
  where
    here_is : (k : ℕ) (e : ReachedBlock) → slice_get f.more k ≡ Some e → (e.source ≡ Root o) × Has targets e.block
    here_is k e h = all_at (λ x. (x.source ≡ Root o) × Has targets x.block) f.more k e f.gains h

    root_same : (a b : Origin) → Root a ≡ Root b → a ≡ b
    root_same a b e = cc

-- ---- what blocks lead to

pub followed_first : (word_at : ℕ → Option ℕ) (index : Index) (p : Places) (es : List ReachedBlock) → AreRooted word_at index p es → AreFollowed word_at index p es 0
followed_first word_at index p es r = record {
  by_roots = r.led;
  by_blocks = λ i j e h s. let o : (o : Origin) × (e.source ≡ Root o) = r.roots i e h in absurd (not_both e.source o.0 j o.1 s);
  spread = spreads_first (search_graph word_at index p) es r.roots (λ b h. r.covers b (subst (λ (l : List ℕ). Has l b) (graph-first word_at index (led_by_roots word_at index p) []) h));
}

pub followed_more : (word_at : ℕ → Option ℕ) (index : Index) (p : Places) (es after : List ReachedBlock) (n : ℕ) (e : ReachedBlock) → slice_get es n ≡ Some e → e.block < length index.blocks
    → AreFound (Earlier n) (targets_in (search_graph word_at index p) e.block) es after → AreFollowed word_at index p es n → AreFollowed word_at index p after (n + 1)
followed_more word_at index p es after n e is low f was = record {
  by_roots = subst (λ (l : List ReachedBlock). AreLedByRoots word_at index p l) (sym f.grown) (λ i x o h s. ⊎_elim
      (λ old. was.by_roots i x o old s)
      (λ new. let q : (k : ℕ) × (i ≡ length es + k) × (slice_get f.more k ≡ Some x) = new in absurd (not_both x.source o n s (here_is q.0 x q.2).0))
      (get_back es f.more i x h));
  by_blocks = subst (λ (l : List ReachedBlock). AreLedByBlocks word_at index l) (sym f.grown) (λ i j x h s. ⊎_elim
      (λ old. let r : (j < i) × IsLedBy word_at index es j x = was.by_blocks i j x old s in (r.0, led_grown j x r.1))
      (λ new. let q : (k : ℕ) × (i ≡ length es + k) × (slice_get f.more k ≡ Some x) = new in
      let j_is : n ≡ j = number_same n j (sym (here_is q.0 x q.2).0 ∙ s) in
      let first : n < length es = slice_get_within es n e is in
      let place : i ≡ length es + q.0 = q.1 in (
        omega arith,
        subst (λ (m : ℕ). IsLedBy word_at index (es ++ f.more) m x) j_is
            (e, get_grown es f.more n e is, low, λ d. subst (λ (l : List ℕ). Has l x.block) (block_target word_at index p e.block d low) (here_is q.0 x q.2).1),
      ))
      (get_back es f.more i x h));
  spread = spreads_more (search_graph word_at index p) es after n e was.spread is f;
}
  where
    here_is : (k : ℕ) (x : ReachedBlock) → slice_get f.more k ≡ Some x → (x.source ≡ Earlier n) × Has (targets_in (search_graph word_at index p) e.block) x.block
    here_is k x h = all_at (λ y. (y.source ≡ Earlier n) × Has (targets_in (search_graph word_at index p) e.block) y.block) f.more k x f.gains h

    led_grown : (j : ℕ) (x : ReachedBlock) → IsLedBy word_at index es j x → IsLedBy word_at index (es ++ f.more) j x
    led_grown j x l = (l.0, get_grown es f.more j l.0 l.1, l.2, l.3)

    number_same : (a b : ℕ) → Earlier a ≡ Earlier b → a ≡ b
    number_same a b e = cc

-- ---- links back

-- a link more
pub links_more : (word_at : ℕ → Option ℕ) (index : Index) (block : ℕ) (links : List Link) (first : ℕ) (link : Link) → AreLinks word_at index block links first → IsLink word_at index link first → AreLinks word_at index block (links ++ link ∷ []) link.holder
links_more word_at index block [] first link here next = (subst (λ (b : ℕ). IsLink word_at index link b) here next, refl)
links_more word_at index block (l ∷ ls) first link here next = (here.0, links_more word_at index l.holder ls first link here.1 next)

pub chain_of_links : (word_at : ℕ → Option ℕ) (index : Index) (p : Places) (root : RootWord) (block : ℕ) (links : List Link) (first : ℕ) → AreLinks word_at index block links first → IsRoot word_at index p root first → IsChain word_at index p root links block
chain_of_links word_at index p root block [] first here r = subst (λ (b : ℕ). IsRoot word_at index p root b) here r
chain_of_links word_at index p root block (l ∷ ls) first here r = (here.0, chain_of_links word_at index p root l.holder ls first here.1 r)

pub found_long : (s : FirstLead) (t : List ℕ) (a b : List ReachedBlock) → AreFound s t a b → length a ≤ length b
found_long s t a b f = let e = ap (λ (l : List ReachedBlock). length l) f.grown in let l = length-append a f.more in omega arith

-- the targets of a block, as the graph has them
pub targets_same : (word_at : ℕ → Option ℕ) (index : Index) (p : Places) (blocks : List Block) (b : ℕ) (d : Block) (targets : List ℕ) → index.blocks ≡ blocks → b < length index.blocks
    → targets ≡ targets_of index (block_words word_at (get_or blocks b d)) → targets ≡ targets_in (search_graph word_at index p) b
unfolding block_targets
targets_same word_at index p blocks b d targets are low is =
    is ∙ ap (λ (l : List Block). targets_of index (block_words word_at (get_or l b d))) (sym are) ∙ sym (block_target word_at index p b d low)
