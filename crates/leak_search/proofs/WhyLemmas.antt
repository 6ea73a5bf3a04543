-- From what was read and found to why a block is held.
use Rattle.std.proofs.Common.{◌≡◌, ◌↔◌, ℕ, List, length, Option, IsSome, ap, subst, refl, ◌∙◌}
use Rattle.std.specs.Prelude.{is_some}
use Rattle.leak_elf.specs.Words.{word_of}
use Rattle.leak_notes.specs.Threads.{entries}
use Rattle.leak_notes.specs.Sets.{sets_of}
use Rattle.leak_blocks.specs.declared.block.Block.{Block}
use Rattle.leak_blocks.specs.Live.{live_of}
use Rattle.leak_index.specs.Leads.{Distances}
use Rattle.leak_index.specs.Hits.{Index}
use Rattle.leak_roots.specs.Places.{Places}
use Rattle.leak_roots.specs.Roots.{AreRootsOf}
use Rattle.leak_search.specs.LeftOut.{left_out}
use Rattle.leak_roots.specs.declared.skip.Skip.{Skip}
use Rattle.leak_marks.specs.Reach.{Graph, Reach}
use Rattle.leak_why.specs.declared.chain.Chain.{Chain}
use Rattle.leak_why.specs.Asked.{IsAsked, AreNotAsked}
use Rattle.leak_why.specs.Chains.{IsWhy, search_graph}
use Rattle.leak_why.specs.Text.{text_of}
use Rattle.leak_search.specs.declared.why.Why.{Why}
use Rattle.leak_search.specs.declared.why.WhyError.TheVariants.{NoBlock}
use Rattle.leak_search.specs.declared.inputs.Input.{Input}
use Rattle.leak_search.specs.Inputs.{AreRootsFor, IsRead}
use Rattle.leak_search.specs.Why.{TellsWhy, IsWhyFault}
use Rattle.leak_search.proofs.InputLemmas.{input_blocks}
use Rattle.leak_search.proofs.SearchLemmas.{index_is, marked_graph}

pub tells_why : (core log : List ℕ) (reading : Distances) (skip : Skip) (address : ℕ) (input : Input) (index : Index) (places : Places) (block : ℕ) (chain : Option Chain) (found : Why)
    → (read : IsRead core log input) → index ≡ record { blocks = input.live.blocks; reading = reading } → input.skip ≡ skip → AreRootsFor read.0 input places
    → IsAsked input.live.blocks address block → IsWhy (word_of input.image) index places block chain
    → (IsSome chain ↔ Reach (search_graph (word_of input.image) index places) block)
    → found.text.items ≡ text_of log input.live.blocks (sets_of (entries input.image)) block chain → found.held ≡ is_some chain
    → TellsWhy core log reading skip address found
tells_why core log reading skip address input index places block chain found read is skips roots asked why reached text held =
    let e = input_blocks core log read.0 input read.1 in
    let file = read.1.image in
    let of_core = subst (λ (f : List ℕ). AreRootsOf (left_out skip f input.live.blocks read.0) f input.live.blocks places) file
    (subst (λ (s : Skip). AreRootsOf (left_out s input.image input.live.blocks read.0) input.image input.live.blocks places) skips roots.roots) in
    let links : places.skips_links ≡ skip.links = roots.links ∙ ap (λ (s : Skip). s.links) skips in
    let g = marked_graph core reading skip read.0 input.live.blocks index places e is of_core links in
    record {
      accepted = read.1.accepted;
      lines = read.0;
      is_log = read.1.is_log;
      block = block;
      asked = subst (λ (bs : List Block). IsAsked bs address block) e asked;
      places = places;
      are_places = subst (λ (bs : List Block). AreRootsOf (left_out skip core bs read.0) core bs places) e of_core;
      links = links;
      chain = chain;
      why =
          subst (λ (i : Index). IsWhy (word_of core) i places block chain) (index_is reading read.0 input.live.blocks index e is)
          (subst (λ (f : List ℕ). IsWhy (word_of f) index places block chain) file why);
      reached =
          subst (λ (h : Graph). IsSome chain ↔ Reach h block) g
          (subst (λ (f : List ℕ). IsSome chain ↔ Reach (search_graph (word_of f) index places) block) file reached);
      text =
          subst (λ (f : List ℕ). found.text.items ≡ text_of log (live_of read.0) (sets_of (entries f)) block chain) file
          (subst (λ (bs : List Block). found.text.items ≡ text_of log bs (sets_of (entries input.image)) block chain) e text);
      held = held;
    }

pub no_block : (core log : List ℕ) (address : ℕ) (input : Input) → IsRead core log input → AreNotAsked input.live.blocks address (length input.live.blocks) → IsWhyFault core log address (NoBlock address)
no_block core log address input read none =
    (refl, read.1.accepted, (read.0, read.1.is_log, subst (λ (bs : List Block). AreNotAsked bs address (length bs)) (input_blocks core log read.0 input read.1) none))
