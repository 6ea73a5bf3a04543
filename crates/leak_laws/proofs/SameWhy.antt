-- Two answers to why a block is held are as long: each chain is no longer than the other.
use Rattle.std.proofs.Common.{◌≡◌, ℕ, Bool, false, List, [], ◌∷◌, length, Option, None, Some, slice_get, refl, sym, ap, subst, ◌∙◌, arith}
use Rattle.std.specs.Prelude.{◌↔◌, option_map}
use Rattle.std.specs.Option.{IsSome, is_some}
use Rattle.leak_elf.specs.Words.{word_of}
use Rattle.leak_notes.specs.Threads.{entries}
use Rattle.leak_notes.specs.Sets.{sets_of}
use Rattle.leak_mtrace.specs.declared.line.Line.{Line}
use Rattle.leak_mtrace.proofs.SameLogLemmas.{logs_are_one}
use Rattle.leak_blocks.specs.Live.{live_of}
use Rattle.leak_blocks.proofs.DisjointLemmas.{live_disjoint}
use Rattle.leak_index.specs.Hits.{Index}
use Rattle.leak_index.specs.Leads.{Distances}
use Rattle.leak_roots.specs.declared.skip.Skip.{Skip}
use Rattle.leak_roots.specs.Places.{Places, memory_places}
use Rattle.leak_roots.specs.Roots.{root_places}
use Rattle.leak_search.specs.LeftOut.{left_out}
use Rattle.leak_marks.specs.Lists.{Has}
use Rattle.leak_marks.specs.Reach.{Reach}
use Rattle.leak_why.specs.declared.chain.Chain.{Chain}
use Rattle.leak_why.specs.declared.chain.Link.{Link}
use Rattle.leak_why.specs.declared.chain.RootPlace.{RootPlace}
use Rattle.leak_why.specs.declared.chain.RootPlace.TheVariants.{Register, Address}
use Rattle.leak_why.specs.declared.chain.RootWord.{RootWord}
use Rattle.leak_why.specs.Asked.{IsAsked}
use Rattle.leak_why.specs.Chains.{IsChain, IsWhy, StandsAt, led_at}
use Rattle.leak_why.specs.Leading.{led_by}
use Rattle.leak_why.specs.Text.{text_of}
use Rattle.leak_search.specs.declared.why.Why.{Why}
use Rattle.leak_search.specs.Why.{TellsWhy}
use Rattle.leak_search.specs.Search.{graph_of_one, index_of}
use Rattle.leak_laws.specs.Held.{AreAsLong}
use Rattle.leak_laws.proofs.SameRows.{bool_same}
use Rattle.leak_laws.proofs.SameHeld.{asked_is_one}

-- the same root words are at both places
pub record AreSamePlaces (p q : Places) : Type 0 where
  pub registers : p.registers ≡ q.registers
  pub memory : memory_places p.memory ≡ memory_places q.memory
  pub links : p.skips_links ≡ q.skips_links

module _ (word_at : ℕ → Option ℕ) (index : Index) (p q : Places) (same : AreSamePlaces p q) where
  stands_too : (word : ℕ) (place : RootPlace) → StandsAt word_at p word place → StandsAt word_at q word place
  stands_too word (Register i) is = subst (λ (rs : List ℕ). slice_get rs i ≡ Some word) same.registers is
  stands_too word (Address a) is = (subst (λ (ps : List ℕ). Has ps a) same.memory is.0, is.1)

  leads_too : (word block : ℕ) (place : RootPlace) → Has (led_at word_at index p word place) block → Has (led_at word_at index q word place) block
  leads_too word block (Register i) has = has
  leads_too word block (Address a) has = subst (λ (links : Bool). Has (led_by links word_at index a word) block) same.links has

  chain_too : (root : RootWord) (links : List Link) (block : ℕ) → IsChain word_at index p root links block → IsChain word_at index q root links block
  chain_too root [] block is = record { stands = stands_too root.word root.place is.stands; leads = leads_too root.word block root.place is.leads }
  chain_too root (link ∷ links) block is = (is.0, chain_too root links link.holder is.1)

same_back : (p q : Places) → AreSamePlaces p q → AreSamePlaces q p
same_back p q same = record { registers = sym same.registers; memory = sym same.memory; links = sym same.links }

abbrev length_of : Option Chain → Option ℕ
length_of chain = option_map (λ c. length c.links.items) chain

as_short : (word_at : ℕ → Option ℕ) (index : Index) (p q : Places) (block : ℕ) (c d : Option Chain) → AreSamePlaces p q → is_some c ≡ is_some d
    → IsWhy word_at index p block c → IsWhy word_at index q block d → length_of c ≡ length_of d
as_short word_at index p q block None None same e f g = refl
as_short word_at index p q block None (Some d) same e f g = absurd (cc)
as_short word_at index p q block (Some c) None same e f g = absurd (cc)
as_short word_at index p q block (Some c) (Some d) same e f g =
    let le = f.shortest d.root d.links.items (chain_too word_at index q p (same_back p q same) d.root d.links.items block g.is_chain) in
    let ge = g.shortest c.root c.links.items (chain_too word_at index p q same c.root c.links.items block f.is_chain) in
    let n : length c.links.items ≡ length d.links.items = omega (arith, le, ge) in
    ap (λ (k : ℕ). Some k) n

none_is : (o : Option Chain) → is_some o ≡ false → o ≡ None
none_is None e = refl
none_is (Some c) e = absurd (cc)

pub as_long : (core log : List ℕ) (reading : Distances) (skip : Skip) (address : ℕ) (a b : Why)
    → (f : TellsWhy core log reading skip address a) (g : TellsWhy core log reading skip address b) → AreAsLong core log reading skip address a b f g
as_long core log reading skip address a b f g =
    let l : f.lines ≡ g.lines = logs_are_one log f.lines g.lines f.is_log g.is_log in
    let asked : IsAsked (live_of f.lines) address g.block = subst (λ (ls : List Line). IsAsked (live_of ls) address g.block) (sym l) g.asked in
    let k : f.block ≡ g.block = asked_is_one (live_of f.lines) address f.block g.block (live_disjoint f.lines) f.asked asked in
    let reached1 : IsSome g.chain ↔ Reach (graph_of_one core reading skip f.lines) g.block = subst (λ (ls : List Line). IsSome g.chain ↔ Reach (graph_of_one core reading skip ls) g.block) (sym l) g.reached in
    let reached2 : IsSome g.chain ↔ Reach (graph_of_one core reading skip f.lines) f.block = subst (λ (i : ℕ). IsSome g.chain ↔ Reach (graph_of_one core reading skip f.lines) i) (sym k) reached1 in
    let some : is_some f.chain ≡ is_some g.chain = bool_same (is_some f.chain) (is_some g.chain) f.reached reached2 in
    let memory : memory_places f.places.memory ≡ memory_places g.places.memory =
    f.are_places.memory ∙ ap (λ (ls : List Line). root_places (left_out skip core (live_of ls) ls) core (live_of ls)) l ∙ sym g.are_places.memory in
    let same : AreSamePlaces f.places g.places = record { registers = f.are_places.registers ∙ sym g.are_places.registers; memory = memory; links = f.links ∙ sym g.links } in
    let why1 = subst (λ (ls : List Line). IsWhy (word_of core) (index_of reading ls) g.places g.block g.chain) (sym l) g.why in
    let why2 = subst (λ (i : ℕ). IsWhy (word_of core) (index_of reading f.lines) g.places i g.chain) (sym k) why1 in
    record {
      block = k;
      held = f.held ∙ some ∙ sym g.held;
      links = as_short (word_of core) (index_of reading f.lines) f.places g.places f.block f.chain g.chain same some f.why why2;
      leaked = λ no_chain.
          let none : f.chain ≡ None = none_is f.chain (sym f.held ∙ no_chain) in
          let none_too : g.chain ≡ None = none_is g.chain (sym some ∙ sym f.held ∙ no_chain) in
          f.text ∙ ap (λ (ls : List Line). text_of log (live_of ls) (sets_of (entries core)) f.block f.chain) l
          ∙ ap (λ (i : ℕ). text_of log (live_of g.lines) (sets_of (entries core)) i f.chain) k
          ∙ ap (λ (c : Option Chain). text_of log (live_of g.lines) (sets_of (entries core)) g.block c) (none ∙ sym none_too) ∙ sym g.text;
    }
