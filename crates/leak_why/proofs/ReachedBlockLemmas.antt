-- Breadth first: the blocks of chains are found, and no further away than the chains are long.
use Rattle.std.proofs.Common.{◌≡◌, ℕ, suc, ◌+◌, ◌<◌, ◌≤◌, List, [], ◌∷◌, ◌++◌, length, Option, Some, slice_get, sym, ap, ◌∙◌, subst, ◌⊎◌, ⊎_elim, arith, length-append}
use Rattle.std.specs.List.{AllByRecursion}
use Rattle.std.proofs.lemmas.Option.{slice_get_within}
use mathlib.Core.Logic.{dite}
use native.Mathlib.Decide.{dec_lt}
use Rattle.leak_marks.specs.Lists.{Has}
use Rattle.leak_marks.proofs.ListLemmas.{here}
use Rattle.leak_index.specs.Hits.{Index}
use Rattle.leak_roots.specs.Places.{Places}
use Rattle.leak_marks.specs.Reach.{Graph, IsChain as IsBlockChain, targets_of as targets_in}
use Rattle.leak_why.specs.Chains.{search_graph}
use Rattle.leak_why.specs.declared.reached_block.ReachedBlock.{ReachedBlock}
use Rattle.leak_why.specs.declared.reached_block.Origin.{Origin}
use Rattle.leak_why.specs.declared.reached_block.FirstLead.TheVariants.{Root, Earlier}
use Rattle.leak_why.specs.ReachedBlocks.{AreFound, IsAt, IsNear, IsScanned, IsSpread, Spreads, AreWhole, blocks_of}
use Rattle.leak_why.proofs.EntryLemmas.{get_grown, get_back, entry_at, same_entry, all_at, of_block, same_number, at_grown, at_same, near_grown, scanned_grown}

-- ---- breadth first

-- a round ends: what it found makes the next
round : (g : Graph) (es : List ReachedBlock) (n k turn : ℕ) → IsSpread g es n k turn → n ≡ turn → IsSpread g es n (suc k) (length es)
round g es n k turn s e = record {
  from = let t = s.to in omega arith;
  to = omega arith;
  early = λ i h. dite (dec_lt i turn)
      (λ lt. let p : (d : ℕ) × (d ≤ k) × IsAt es d i = s.early i lt in (p.0, (let q : p.0 ≤ k = p.1 in omega arith), p.2))
      (λ ge. (suc k, omega arith, s.later i (omega arith) h));
  now = λ i low high. s.later i (omega arith) high;
  later = λ i low high. absurd (omega arith);
  first = s.first;
  scanned = s.scanned;
}

-- one entry more is scanned
step : (g : Graph) (es more : List ReachedBlock) (n k turn : ℕ) (e : ReachedBlock) → IsSpread g es n k turn → n < turn → slice_get es n ≡ Some e
    → AllByRecursion (λ x. (x.source ≡ Earlier n) × Has (targets_in g e.block) x.block) more → ((b : ℕ) → Has (targets_in g e.block) b → Has (blocks_of (es ++ more)) b)
    → IsSpread g (es ++ more) (n + 1) k turn
step g es more n k turn e s low is gains covers = record {
  from = omega arith;
  to = let l = length-append es more in let t = s.to in omega arith;
  early = λ i h. let p : (d : ℕ) × (d ≤ k) × IsAt es d i = s.early i h in (p.0, p.1, at_grown es more p.0 i p.2);
  now = λ i from to. at_grown es more k i (s.now i (omega arith) to);
  later = behind;
  first = λ b h. near_grown es more 0 b (s.first b h);
  scanned = λ i h. dite (dec_lt i n)
      (λ lt. scanned_grown g es more i (s.scanned i lt))
      (λ ge. subst (λ (j : ℕ). IsScanned g (es ++ more) j) (let q : n ≡ i = omega arith in q) this);
}
  where
    here_at : IsAt es k n
    here_at = s.now n (omega arith) low

    behind : (i : ℕ) → turn ≤ i → i < length (es ++ more) → IsAt (es ++ more) (suc k) i
    behind i from to =
        let x : (a : ReachedBlock) × (slice_get (es ++ more) i ≡ Some a) = entry_at (es ++ more) i to in
        ⊎_elim
        (λ old. at_grown es more (suc k) i (s.later i from (slice_get_within es i x.0 old)))
        (λ new. let p : (j : ℕ) × (i ≡ length es + j) × (slice_get more j ≡ Some x.0) = new in
        (x.0, n, x.1, (all_at (λ y. (y.source ≡ Earlier n) × Has (targets_in g e.block) y.block) more p.0 x.0 gains p.2).0, at_grown es more k n here_at))
        (get_back es more i x.0 x.1)

    near_here : (b : ℕ) → Has (targets_in g e.block) b → IsNear (es ++ more) (suc k) b
    near_here b h =
        let p : (i : ℕ) × (x : ReachedBlock) × (slice_get (es ++ more) i ≡ Some x) × (x.block ≡ b) = of_block (es ++ more) b (covers b h) in
        let q : (d : ℕ) × (d ≤ suc k) × IsAt (es ++ more) d p.0 = dite (dec_lt p.0 turn)
        (λ lt. let r : (d : ℕ) × (d ≤ k) × IsAt es d p.0 = s.early p.0 lt in (r.0, (let few : r.0 ≤ k = r.1 in omega arith), at_grown es more r.0 p.0 r.2))
        (λ ge. (suc k, omega arith, behind p.0 (omega arith) (slice_get_within (es ++ more) p.0 p.1 p.2))) in record {
          number = p.0;
          entry = p.1;
          is_entry = p.2;
          is_block = p.3;
          steps = q.0;
          few = q.1;
          at = q.2;
        }

    this : IsScanned g (es ++ more) n
    this = record {
      entry = e;
      is_entry = get_grown es more n e is;
      steps = k;
      at = at_grown es more k n here_at;
      near = near_here;
    }

pub spreads_more : (g : Graph) (es after : List ReachedBlock) (n : ℕ) (e : ReachedBlock) → Spreads g es n → slice_get es n ≡ Some e → AreFound (Earlier n) (targets_in g e.block) es after → Spreads g after (n + 1)
spreads_more g es after n e s is f = subst (λ (l : List ReachedBlock). Spreads g l (n + 1)) (sym f.grown) (go s)
  where
    covers : (b : ℕ) → Has (targets_in g e.block) b → Has (blocks_of (es ++ f.more)) b
    covers b h = subst (λ (l : List ReachedBlock). Has (blocks_of l) b) f.grown (f.covers b h)

    go : Spreads g es n → Spreads g (es ++ f.more) (n + 1)
    go t = dite (dec_lt n t.1)
        (λ lt. (t.0, t.1, step g es f.more n t.0 t.1 e t.2 lt is f.gains covers))
        (λ ge. (suc t.0, length es, step g es f.more n (suc t.0) (length es) e (round g es n t.0 t.1 t.2 (let l = t.2.from in omega arith)) (slice_get_within es n e is) is f.gains covers))

-- at the start all entries are of root words
pub spreads_first : (g : Graph) (es : List ReachedBlock) → ((i : ℕ) (e : ReachedBlock) → slice_get es i ≡ Some e → (o : Origin) × (e.source ≡ Root o)) → ((b : ℕ) → Has g.first b → Has (blocks_of es) b) → Spreads g es 0
spreads_first g es roots covers = (
  0,
  length es,
  record {
    from = omega arith;
    to = omega arith;
    early = λ i h. (0, omega arith, at i h);
    now = λ i low high. at i high;
    later = λ i low high. absurd (omega arith);
    first = λ b h. let p : (i : ℕ) × (x : ReachedBlock) × (slice_get es i ≡ Some x) × (x.block ≡ b) = of_block es b (covers b h) in record {
      number = p.0;
      entry = p.1;
      is_entry = p.2;
      is_block = p.3;
      steps = 0;
      few = omega arith;
      at = at p.0 (slice_get_within es p.0 p.1 p.2);
    };
    scanned = λ i h. absurd (omega arith);
  },
)
  where
    at : (i : ℕ) → i < length es → IsAt es 0 i
    at i h = let x : (a : ReachedBlock) × (slice_get es i ≡ Some a) = entry_at es i h in let r : (o : Origin) × (x.0.source ≡ Root o) = roots i x.0 x.1 in (x.0, r.0, x.1, r.1)

-- what is led to by the block of a near entry is no more than a step further away
near_next : (g : Graph) (es : List ReachedBlock) (n m x b : ℕ) → Spreads g es n → length es ≤ n → IsNear es m x → Has (targets_in g x) b → IsNear es (suc m) b
near_next g es n m x b s all from leads = record {
  number = last.number;
  entry = last.entry;
  is_entry = last.is_entry;
  is_block = last.is_block;
  steps = last.steps;
  few = let f = last.few in let m = from.few in omega (arith, same);
  at = last.at;
}
  where
    scanned : IsScanned g es from.number
    scanned = s.2.scanned from.number (let l = slice_get_within es from.number from.entry from.is_entry in omega arith)

    same : scanned.steps ≡ from.steps
    same = at_same es scanned.steps from.steps from.number scanned.at from.at

    is : scanned.entry.block ≡ x
    is = ap (λ (e : ReachedBlock). e.block) (same_entry es from.number scanned.entry from.entry scanned.is_entry from.is_entry) ∙ from.is_block

    last : IsNear es (suc scanned.steps) b
    last = scanned.near b (subst (λ (y : ℕ). Has (targets_in g y) b) (sym is) leads)

-- the block of a chain is no further away than the chain is long
pub chain_near : (g : Graph) (es : List ReachedBlock) (n : ℕ) → Spreads g es n → length es ≤ n → (b : ℕ) (before : List ℕ) → IsBlockChain g (b ∷ before) → IsNear es (length before) b
chain_near g es n s all b [] c = s.2.first b c.1
chain_near g es n s all b (x ∷ before) c = near_next g es n (length before) x b s all (chain_near g es n s all x before c.2) c.1

-- ---- all that chains reach

-- no chain ends at a block that was not found
pub none_chain : (word_at : ℕ → Option ℕ) (index : Index) (p : Places) (es : List ReachedBlock) (b : ℕ) → AreWhole word_at index p es → ((i : ℕ) (e : ReachedBlock) → slice_get es i ≡ Some e → e.block ≡ b → ⊥)
    → (before : List ℕ) → IsBlockChain (search_graph word_at index p) (b ∷ before) → ⊥
none_chain word_at index p es b w none before c =
    let n = chain_near (search_graph word_at index p) es (length es) w.followed.spread (omega arith) b before c in
    none n.number n.entry n.is_entry n.is_block

-- a chain is no shorter than the way back from the block's entry
pub no_shorter : (word_at : ℕ → Option ℕ) (index : Index) (p : Places) (es : List ReachedBlock) (b last steps : ℕ) (e : ReachedBlock) → AreWhole word_at index p es → slice_get es last ≡ Some e → e.block ≡ b → IsAt es steps last
    → (before : List ℕ) → IsBlockChain (search_graph word_at index p) (b ∷ before) → steps ≤ length before
no_shorter word_at index p es b last steps e w is here at before c =
    let n = chain_near (search_graph word_at index p) es (length es) w.followed.spread (omega arith) b before c in
    let same : n.number ≡ last = same_number es n.number last n.entry e w.once n.is_entry is (n.is_block ∙ sym here) in
    let as_far : n.steps ≡ steps = at_same es n.steps steps last (subst (λ (i : ℕ). IsAt es n.steps i) same n.at) at in
    let few = n.few in omega arith
