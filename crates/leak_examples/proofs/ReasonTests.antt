-- What holds a block of a core whose marked blocks are computed.
use Rattle.std.proofs.Common.{◌≡◌, ◌↔◌, ℕ, zero, suc, ◌+◌, ◌<◌, inl, inr, Bool, true, false, ◌&&◌, ◌||◌, ◌==◌, List, [], ◌∷◌, Option, Some, None, refl, sym, ap, subst, ◌∙◌, arith, eq-eqb}
use Rattle.std.specs.Prelude.{is_some, nat_le, nat_lt, IsSome, slice_index_or}
use Rattle.std.proofs.lemmas.Bool.{le-leb, lt-ltb}
use Rattle.leak_elf.specs.Words.{word_of}
use Rattle.leak_notes.specs.Sets.{sets_of}
use Rattle.leak_notes.specs.Threads.{entries}
use Rattle.leak_mtrace.specs.declared.line.Line.{Line}
use Rattle.leak_mtrace.specs.Log.{IsLog}
use Rattle.leak_mtrace.proofs.SameLogLemmas.{logs_are_one}
use Rattle.leak_blocks.specs.declared.block.Block.{Block}
use Rattle.leak_blocks.specs.Live.{live_of}
use Rattle.leak_roots.specs.Places.{Places}
use Rattle.leak_roots.specs.LeftOut.{usual_left_out}
use Rattle.leak_roots.specs.Roots.{AreRootsOf}
use Rattle.leak_marks.specs.Lists.{has}
use Rattle.leak_marks.specs.Reach.{Reach}
use Rattle.leak_why.specs.Asked.{AreNotAsked, IsAsked, IsOf}
use Rattle.leak_why.specs.Chains.{IsWhy}
use Rattle.leak_why.specs.Text.{text_of}
use Rattle.leak_why.specs.declared.chain.Chain.{Chain}
use Rattle.leak_why.specs.declared.chain.Link.{Link}
use Rattle.leak_why.specs.declared.chain.RootWord.{RootWord}
use Rattle.leak_search.specs.Inputs.{IsCore}
use Rattle.leak_search.specs.Why.{TellsWhy}
use Rattle.leak_search.specs.Search.{graph_of_one, index_of}
use Rattle.leak_search.specs.declared.why.Why.{Why}
use Rattle.leak_examples.specs.Reasons.{TellsHeld, TellsLost}
use Rattle.leak_roots.specs.Skipped.{usual_skip}
use Rattle.leak_examples.specs.Searches.{interior}
use Rattle.leak_examples.proofs.GraphTests.{is_reached, reach_is}

-- the address is of the block, as a test
abbrev pub is_of : Block → ℕ → Bool
is_of b address = (nat_le b.start address && nat_lt address (b.start + b.size)) || (b.start == address)

or_true : (t : Bool) → (t || true) ≡ true
or_true true = refl
or_true false = refl

of_block : (b : Block) (address : ℕ) → IsOf b address → is_of b address ≡ true
of_block b address (inl h) = rw (le-leb b.start address h.0, lt-ltb address (b.start + b.size) h.1) refl
of_block b address (inr e) = rw (eq-eqb b.start address e) (or_true (nat_le b.start address && nat_lt address (b.start + b.size)))

-- what is known of a question about one of two blocks
pub record IsQuestion (core log : List ℕ) (address : ℕ) (lines : List Line) (b c : Block) (block : ℕ) (marked : List ℕ) : Type 0 where
  pub accepted : IsCore core
  pub is_log : IsLog log lines
  pub blocks : live_of lines ≡ b ∷ c ∷ []
  pub one : (i : ℕ) → IsAsked (b ∷ c ∷ []) address i → i ≡ block
  pub asked : IsAsked (live_of lines) address block
  pub reached : is_reached (graph_of_one core interior usual_skip lines) marked ≡ true

pub first_asked : (b c : Block) (address : ℕ) → is_of c address ≡ false → (i : ℕ) → IsAsked (b ∷ c ∷ []) address i → i ≡ 0
first_asked b c address other zero a = refl
first_asked b c address other (suc zero) a = absurd (let x : true ≡ false = sym (of_block c address (a.is c)) ∙ other in cc)
first_asked b c address other (suc (suc i)) a = absurd (let h : suc (suc i) < 2 = a.inside in omega arith)

pub second_asked : (b c : Block) (address : ℕ) → is_of b address ≡ false → (i : ℕ) → IsAsked (b ∷ c ∷ []) address i → i ≡ 1
second_asked b c address other zero a = absurd (let x : true ≡ false = sym (of_block b address (a.is b)) ∙ other in cc)
second_asked b c address other (suc zero) a = refl
second_asked b c address other (suc (suc i)) a = absurd (let h : suc (suc i) < 2 = a.inside in omega arith)

-- the address is of neither
pub none_asked : (b c : Block) (address n : ℕ) → is_of b address ≡ false → is_of c address ≡ false → AreNotAsked (b ∷ c ∷ []) address n
none_asked b c address n first second = λ k d below inside is. go k d inside is
  where
    go : (k : ℕ) (d : Block) → k < 2 → IsOf (slice_index_or (b ∷ c ∷ []) k d) address → ⊥
    go zero d h is = let x : true ≡ false = sym (of_block b address is) ∙ first in cc
    go (suc zero) d h is = let x : true ≡ false = sym (of_block c address is) ∙ second in cc
    go (suc (suc k)) d h is = absurd (omega arith)

same_block : (core log : List ℕ) (address : ℕ) (lines : List Line) (b c : Block) (block : ℕ) (marked : List ℕ) (q : IsQuestion core log address lines b c block marked) (ls : List Line) (i : ℕ)
    → IsLog log ls → IsAsked (live_of ls) address i → i ≡ block
same_block core log address lines b c block marked q ls i is asked =
    q.one i (subst (λ (bs : List Block). IsAsked bs address i) (ap live_of (logs_are_one log ls lines is q.is_log) ∙ q.blocks) asked)

-- the answer tells whether the block is marked
held_is : (core log : List ℕ) (address : ℕ) (lines : List Line) (b c : Block) (block : ℕ) (marked : List ℕ) (q : IsQuestion core log address lines b c block marked) (found : Why) (f : TellsWhy core log interior usual_skip address found)
    → IsSome f.chain ↔ (has marked block ≡ true)
held_is core log address lines b c block marked q found f =
    let e : f.lines ≡ lines = logs_are_one log f.lines lines f.is_log q.is_log in
    let i : f.block ≡ block = same_block core log address lines b c block marked q f.lines f.block f.is_log f.asked in
    let r = reach_is (graph_of_one core interior usual_skip lines) marked block q.reached in (
      (λ s. r.0 (subst (λ (n : ℕ). Reach (graph_of_one core interior usual_skip lines) n) i (subst (λ (ls : List Line). Reach (graph_of_one core interior usual_skip ls) f.block) e (f.reached.0 s)))),
      (λ h. f.reached.1 (subst (λ (ls : List Line). Reach (graph_of_one core interior usual_skip ls) f.block) (sym e) (subst (λ (n : ℕ). Reach (graph_of_one core interior usual_skip lines) n) (sym i) (r.1 h)))),
    )

some_is : (o : Option Chain) → IsSome o → is_some o ≡ true
some_is None s = s
some_is (Some chain) s = refl

none_is : (o : Option Chain) → (IsSome o → ⊥) → o ≡ None
none_is None h = refl
none_is (Some chain) h = absurd (h refl)

pub tells_held : (core log : List ℕ) (address : ℕ) (lines : List Line) (b c : Block) (block : ℕ) (marked : List ℕ) (places : Places) (root : RootWord) (links : List Link) (text : List ℕ) → IsQuestion core log address lines b c block marked
    → has marked block ≡ true → AreRootsOf usual_left_out core (live_of lines) places → places.skips_links ≡ false
    → ((chain : Chain) → chain.root ≡ root → chain.links.items ≡ links → IsWhy (word_of core) (index_of interior lines) places block (Some chain))
    → ((chain : Chain) → chain.root ≡ root → chain.links.items ≡ links → text_of log (live_of lines) (sets_of (entries core)) block (Some chain) ≡ text)
    → TellsHeld core log address root links text
tells_held core log address lines b c block marked places root links text q h roots no_links why told = record {
  held = λ found f. f.held ∙ some_is f.chain ((held_is core log address lines b c block marked q found f).1 h);
  allowed = λ chain found same_root same_links text_is held. record {
    accepted = q.accepted;
    lines = lines;
    is_log = q.is_log;
    block = block;
    asked = q.asked;
    places = places;
    are_places = roots;
    links = no_links;
    chain = Some chain;
    why = why chain same_root same_links;
    reached = ((λ s. (reach_is (graph_of_one core interior usual_skip lines) marked block q.reached).1 h), (λ r. refl));
    text = text_is ∙ sym (told chain same_root same_links);
    held = held;
  };
}

pub tells_lost : (core log : List ℕ) (address : ℕ) (lines : List Line) (b c : Block) (block : ℕ) (marked : List ℕ) (places : Places) (text : List ℕ) → IsQuestion core log address lines b c block marked
    → has marked block ≡ false → AreRootsOf usual_left_out core (live_of lines) places → places.skips_links ≡ false
    → IsWhy (word_of core) (index_of interior lines) places block None
    → text_of log (live_of lines) (sets_of (entries core)) block None ≡ text → TellsLost core log address text
tells_lost core log address lines b c block marked places text q h roots no_links why told = record {
  held = λ found f. f.held ∙ ap is_some (none found f);
  text_is = λ found f. f.text ∙ ap (λ (o : Option Chain). text_of log (live_of f.lines) (sets_of (entries core)) f.block o) (none found f)
      ∙ ap (λ (ls : List Line). text_of log (live_of ls) (sets_of (entries core)) f.block None) (logs_are_one log f.lines lines f.is_log q.is_log)
      ∙ ap (λ (i : ℕ). text_of log (live_of lines) (sets_of (entries core)) i None) (same_block core log address lines b c block marked q f.lines f.block f.is_log f.asked) ∙ told;
  allowed = λ found text_is held. record {
    accepted = q.accepted;
    lines = lines;
    is_log = q.is_log;
    block = block;
    asked = q.asked;
    places = places;
    are_places = roots;
    links = no_links;
    chain = None;
    why = why;
    reached = ((λ s. absurd (let x : false ≡ true = s in cc)), (λ r. absurd (not_marked ((reach_is (graph_of_one core interior usual_skip lines) marked block q.reached).0 r))));
    text = text_is ∙ sym told;
    held = held;
  };
}
  where
    not_marked : has marked block ≡ true → ⊥
    not_marked e = let x : true ≡ false = sym e ∙ h in cc

    none : (found : Why) (f : TellsWhy core log interior usual_skip address found) → f.chain ≡ None
    none found f = none_is f.chain (λ s. not_marked ((held_is core log address lines b c block marked q found f).0 s))
