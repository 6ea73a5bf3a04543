-- The pages in which blocks start are listed, block by block.
use Rattle.std.proofs.Common.{◌≡◌, ◌∙◌, ℕ, zero, suc, ◌+◌, ◌<◌, ◌≤◌, refl, ap, subst, List, [], ◌∷◌, ◌++◌, length, slice_index_or, length-append, arith}
use Rattle.std.proofs.Math.Seq.{get_or-append_seam}
use Rattle.std.specs.List.{Contains}
use Rattle.std.specs.List.Sorted.{IsStrictlyIncreasing}
use Rattle.std.proofs.lemmas.List.{get_or_append_left}
use Rattle.std.proofs.lemmas.List.Elements.{Contains-append_left, Contains-push}
use Rattle.leak_blocks.specs.declared.block.Block.{Block}
use Rattle.leak_blocks.specs.Span.{AreDisjoint}
use Rattle.leak_index.specs.Directory.{IsFirstIn, page_of}
use Rattle.leak_index.proofs.Near.{ascending, either}

-- the pages of the first n blocks are listed, which all lie below `next`
pub record AreListedTo (blocks : List Block) (n next : ℕ) (pages firsts : List ℕ) : Type 0 where
  pub ascending : IsStrictlyIncreasing pages
  pub paired : length firsts ≡ length pages
  pub first : (e : ℕ) → e < length pages → IsFirstIn blocks (slice_index_or pages e 0) (slice_index_or firsts e 0)
  pub complete : (k : ℕ) (d : Block) → k < n → k < length blocks → Contains pages (page_of (slice_index_or blocks k d))
  pub below : (e : ℕ) → e < length pages → slice_index_or pages e 0 < next
  pub under : (k : ℕ) (d : Block) → k < n → k < length blocks → page_of (slice_index_or blocks k d) < next
  pub latest : (page : ℕ) → next ≡ page + 1 → Contains pages page
  pub rest : (k : ℕ) (d : Block) → n ≤ k → k < length blocks → next ≤ page_of (slice_index_or blocks k d) + 1

-- ---- one more block

pub any_default : (bs : List Block) (k : ℕ) (d e : Block) → k < length bs → slice_index_or bs k d ≡ slice_index_or bs k e
any_default [] k d e h = absurd (omega (arith, h))
any_default (b ∷ bs) zero d e h = refl
any_default (b ∷ bs) (suc k) d e h = any_default bs k d e (omega (arith, h))

-- of an element among the first n + 1: it is among the first n, or it is the last
up_to : (blocks : List Block) (n k : ℕ) (d e : Block) (P : ℕ → Type 0) → k < n + 1 → k < length blocks → (k < n → P (page_of (slice_index_or blocks k d))) → P (page_of (slice_index_or blocks n e)) → P (page_of (slice_index_or blocks k d))
up_to blocks n k d e P h l front here = either k n (P (page_of (slice_index_or blocks k d))) front (λ m.
    let at : n ≡ k = omega arith in
    subst (λ (j : ℕ). P (page_of (slice_index_or blocks j d))) at (subst (λ (b : Block). P (page_of b)) (any_default blocks n e d (omega arith)) here))

-- its page is listed
pub listed_same : (blocks : List Block) (n next : ℕ) (pages firsts : List ℕ) (e : Block) → AreDisjoint blocks → n < length blocks → page_of (slice_index_or blocks n e) < next → AreListedTo blocks n next pages firsts →
    AreListedTo blocks (n + 1) next pages firsts
listed_same blocks n next pages firsts e apart h known listed = record {
  ascending = listed.ascending;
  paired = listed.paired;
  first = listed.first;
  complete = λ k d l m. up_to blocks n k d e (Contains pages) l m (λ f. listed.complete k d f m) (listed.latest (page_of (slice_index_or blocks n e)) (omega (arith, listed.rest n e (omega arith) h)));
  below = listed.below;
  under = λ k d l m. up_to blocks n k d e (λ p. p < next) l m (λ f. listed.under k d f m) known;
  latest = listed.latest;
  rest = λ k d l m. listed.rest k d (omega arith) m;
}

pub at_front : (xs : List ℕ) (y k : ℕ) → k < length xs → slice_index_or (xs ++ y ∷ []) k 0 ≡ slice_index_or xs k 0
at_front xs y k h = get_or_append_left xs (y ∷ []) 0 k h

pub at_end : (xs : List ℕ) (y k : ℕ) → k ≡ length xs → slice_index_or (xs ++ y ∷ []) k 0 ≡ y
at_end xs y k e = ap (λ (j : ℕ). slice_index_or (xs ++ y ∷ []) j 0) e ∙ get_or-append_seam xs y [] 0

pub one_more : (xs : List ℕ) (y : ℕ) → length (xs ++ y ∷ []) ≡ length xs + 1
one_more xs y = length-append xs (y ∷ [])

-- its page is listed now
pub listed_more : (blocks : List Block) (n next : ℕ) (pages firsts : List ℕ) (e : Block) → AreDisjoint blocks → n < length blocks → next ≤ page_of (slice_index_or blocks n e) → AreListedTo blocks n next pages firsts →
    AreListedTo blocks (n + 1) (page_of (slice_index_or blocks n e) + 1) (pages ++ page_of (slice_index_or blocks n e) ∷ []) (firsts ++ n ∷ [])
listed_more blocks n next pages firsts e apart h new listed = record {
  ascending = λ k l. either (k + 1) (length pages) (slice_index_or (pages ++ page ∷ []) k 0 < slice_index_or (pages ++ page ∷ []) (k + 1) 0)
      (λ f. omega (arith, at_front pages page k (omega arith), at_front pages page (k + 1) f, listed.ascending k f))
      (λ f. omega (arith, at_front pages page k (omega (arith, one_more pages page)), at_end pages page (k + 1) (omega (arith, one_more pages page)), listed.below k (omega (arith, one_more pages page))));
  paired = omega (arith, one_more pages page, one_more firsts n, listed.paired);
  first = λ i l. either i (length pages) (IsFirstIn blocks (slice_index_or (pages ++ page ∷ []) i 0) (slice_index_or (firsts ++ n ∷ []) i 0))
      (λ f. rw (at_front pages page i f, at_front firsts n i (omega (arith, listed.paired))) (listed.first i f))
      (λ f. rw (at_end pages page i (omega (arith, one_more pages page)), at_end firsts n i (omega (arith, one_more pages page, listed.paired))) first_here);
  complete = λ k d l m. up_to blocks n k d e (Contains (pages ++ page ∷ [])) l m (λ f. Contains-append_left pages (page ∷ []) _ (listed.complete k d f m)) (Contains-push pages page);
  below = λ i l. either i (length pages) (slice_index_or (pages ++ page ∷ []) i 0 < page + 1)
      (λ f. omega (arith, at_front pages page i f, listed.below i f))
      (λ f. omega (arith, at_end pages page i (omega (arith, one_more pages page))));
  under = λ k d l m. up_to blocks n k d e (λ p. p < page + 1) l m (λ f. omega (arith, listed.under k d f m)) (omega arith);
  latest = λ p is. let same : page ≡ p = omega arith in subst (λ (q : ℕ). Contains (pages ++ page ∷ []) q) same (Contains-push pages page);
  rest = λ k d l m. omega (arith, up k d l m);
}
  where
    page : ℕ
    page = page_of (slice_index_or blocks n e)

    first_here : IsFirstIn blocks page n
    first_here = record {
      inside = h;
      here = λ d. ap page_of (any_default blocks n d e h);
      earlier = λ k d l. omega (arith, listed.under k d l (omega arith));
    }

    up : (k : ℕ) (d : Block) → n + 1 ≤ k → k < length blocks → page ≤ page_of (slice_index_or blocks k d)
    up k d l m =
        let low : (slice_index_or blocks n d).start ≤ (slice_index_or blocks k d).start = ascending blocks apart n k d (omega arith) m in
        let same : page ≡ page_of (slice_index_or blocks n d) = ap page_of (any_default blocks n e d h) in
        omega arith
