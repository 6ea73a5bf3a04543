-- Tests of chains of words by computing, and what they show.
use Rattle.std.proofs.Common.{◌≡◌, ℕ, ◌+◌, ◌≤◌, Bool, true, false, ◌&&◌, List, [], ◌∷◌, ◌++◌, length, map, Option, Some, None, slice_get, refl, sym, ap, subst, ◌∙◌, arith}
use Rattle.std.specs.Prelude.{◌==◌, nat_le, codes}
use Rattle.std.specs.Option.{option_map_or}
use Rattle.std.proofs.lemmas.Bool.{leb-true, eqb-true}
use Rattle.std.proofs.lemmas.List.{length-map}
use Rattle.leak_lemmas.proofs.Bools.{and_right, and_left}
use Rattle.leak_blocks.specs.declared.block.Block.{Block}
use Rattle.leak_index.specs.Hits.{Index, hits_of}
use Rattle.leak_notes.specs.declared.sets.RegisterSet.{RegisterSet}
use Rattle.leak_roots.specs.Places.{Places, memory_places}
use Rattle.leak_marks.specs.Lists.{has}
use Rattle.leak_marks.proofs.ListLemmas.{of_has, to_has}
use Rattle.leak_why.specs.declared.chain.Chain.{Chain}
use Rattle.leak_why.specs.declared.chain.Link.{Link}
use Rattle.leak_why.specs.declared.chain.RootPlace.{RootPlace}
use Rattle.leak_why.specs.declared.chain.RootPlace.TheVariants.{Register, Address}
use Rattle.leak_why.specs.declared.chain.RootWord.{RootWord}
use Rattle.leak_why.specs.Chains.{IsChain, IsLink, IsWhy, StandsAt, led_at, search_graph}
use Rattle.leak_why.specs.Text.{links_text, numbered_line, root_line, text_of}
use Rattle.leak_why.proofs.WordLemmas.{chain_blocks}
use Rattle.leak_examples.proofs.GraphTests.{are_levels, chain_inside, chain_long, is_closed, level}

-- the number is there
abbrev pub is_word : Option ℕ → ℕ → Bool
is_word there word = option_map_or (λ w. w == word) there false

word_is : (there : Option ℕ) (word : ℕ) → is_word there word ≡ true → there ≡ Some word
word_is None word t = absurd (let e : false ≡ true = t in cc)
word_is (Some w) word t = ap Some (eqb-true w word t)

abbrev pub stands : (ℕ → Option ℕ) → Places → ℕ → RootPlace → Bool
stands word_at p word (Register i) = is_word (slice_get p.registers i) word
stands word_at p word (Address a) = has (memory_places p.memory) a && is_word (word_at a) word

stands_at : (word_at : ℕ → Option ℕ) (p : Places) (word : ℕ) (place : RootPlace) → stands word_at p word place ≡ true → StandsAt word_at p word place
stands_at word_at p word (Register i) t = word_is (slice_get p.registers i) word t
stands_at word_at p word (Address a) t =
    (of_has (memory_places p.memory) a (and_left (has (memory_places p.memory) a) (is_word (word_at a) word) t), word_is (word_at a) word (and_right (has (memory_places p.memory) a) (is_word (word_at a) word) t))

abbrev pub is_root : (ℕ → Option ℕ) → Index → Places → RootWord → ℕ → Bool
is_root word_at index p root block = stands word_at p root.word root.place && has (led_at word_at index p root.word root.place) block

abbrev pub lies_in : ℕ → Block → Bool
lies_in address b = nat_le b.start address && nat_le (address + 8) (b.start + b.size)

abbrev pub lies_in_holder : Option Block → ℕ → Bool
lies_in_holder holder address = option_map_or (lies_in address) holder false

abbrev pub is_link : (ℕ → Option ℕ) → Index → Link → ℕ → Bool
is_link word_at index link block =
    lies_in_holder (slice_get index.blocks link.holder) link.address && (is_word (word_at link.address) link.word && has (hits_of index link.word) block)

link_is : (word_at : ℕ → Option ℕ) (index : Index) (link : Link) (block : ℕ) → is_link word_at index link block ≡ true → IsLink word_at index link block
link_is word_at index link block t = go (slice_get index.blocks link.holder) refl (and_left (lies_in_holder (slice_get index.blocks link.holder) link.address) _ t)
    (and_right (lies_in_holder (slice_get index.blocks link.holder) link.address) _ t)
  where
    go : (o : Option Block) → slice_get index.blocks link.holder ≡ o → lies_in_holder o link.address ≡ true → (is_word (word_at link.address) link.word && has (hits_of index link.word) block) ≡ true → IsLink word_at index link block
    go None e lies words = absurd (let f : false ≡ true = lies in cc)
    go (Some b) e lies words = record {
      holder = b;
      is_holder = e;
      lies = record { from_start = leb-true b.start link.address (and_left (nat_le b.start link.address) _ lies); to_end = leb-true (link.address + 8) (b.start + b.size) (and_right (nat_le b.start link.address) _ lies) };
      word = word_is (word_at link.address) link.word (and_left (is_word (word_at link.address) link.word) _ words);
      leads = of_has (hits_of index link.word) block (and_right (is_word (word_at link.address) link.word) _ words);
    }

abbrev pub is_chain : (ℕ → Option ℕ) → Index → Places → RootWord → List Link → ℕ → Bool
is_chain word_at index p root [] block = is_root word_at index p root block
is_chain word_at index p root (link ∷ links) block = is_link word_at index link block && is_chain word_at index p root links link.holder

chain_is : (word_at : ℕ → Option ℕ) (index : Index) (p : Places) (root : RootWord) (links : List Link) (block : ℕ) → is_chain word_at index p root links block ≡ true → IsChain word_at index p root links block
chain_is word_at index p root [] block t = record {
  stands = stands_at word_at p root.word root.place (and_left (stands word_at p root.word root.place) _ t);
  leads = of_has (led_at word_at index p root.word root.place) block (and_right (stands word_at p root.word root.place) _ t);
}
chain_is word_at index p root (link ∷ links) block t =
    (link_is word_at index link block (and_left (is_link word_at index link block) _ t), chain_is word_at index p root links link.holder (and_right (is_link word_at index link block) _ t))

-- a chain that is no longer than the level of its block is a shortest one
abbrev pub is_answer : (ℕ → Option ℕ) → Index → Places → ℕ → RootWord → List Link → List ℕ → Bool
is_answer word_at index p block root links levels =
    is_chain word_at index p root links block && (are_levels (search_graph word_at index p) levels && nat_le (length links) (level levels block))

pub answers : (word_at : ℕ → Option ℕ) (index : Index) (p : Places) (block : ℕ) (root : RootWord) (links : List Link) (levels : List ℕ) → is_answer word_at index p block root links levels ≡ true
    → (chain : Chain) → chain.root ≡ root → chain.links.items ≡ links → IsWhy word_at index p block (Some chain)
answers word_at index p block root links levels t chain same_root same_links = record {
  is_chain =
      subst (λ (ls : List Link). IsChain word_at index p chain.root ls block) (sym same_links)
      (subst (λ (r : RootWord). IsChain word_at index p r links block) (sym same_root)
      (chain_is word_at index p root links block (and_left (is_chain word_at index p root links block) _ t)));
  shortest = λ r ls c.
      let rest = and_right (is_chain word_at index p root links block) _ t in
      let long : level levels block ≤ length (map (λ l. l.holder) ls) =
      chain_long (search_graph word_at index p) levels block (map (λ l. l.holder) ls) (and_left (are_levels (search_graph word_at index p) levels) _ rest) (chain_blocks word_at index p r ls block c) in
      let few : length links ≤ level levels block = leb-true (length links) (level levels block) (and_right (are_levels (search_graph word_at index p) levels) _ rest) in
      let many : length (map (λ l. l.holder) ls) ≡ length ls = length-map ls (λ l. l.holder) in
      let same : length chain.links.items ≡ length links = ap (λ l. length l) same_links in
      omega arith;
}

-- a block outside a set that chains don't leave is leaked

pub leaked : (word_at : ℕ → Option ℕ) (index : Index) (p : Places) (block : ℕ) (set : List ℕ) → is_closed (search_graph word_at index p) set ≡ true → has set block ≡ false → IsWhy word_at index p block None
leaked word_at index p block set t outside = λ root links c.
    let inside = to_has set block (chain_inside (search_graph word_at index p) set block (map (λ l. l.holder) links) t (chain_blocks word_at index p root links block c)) in
    cc

-- the text of an answer is that of its root word and its links
pub told : (log : List ℕ) (blocks : List Block) (sets : List RegisterSet) (block : ℕ) (root : RootWord) (links : List Link) (text : List ℕ)
    → numbered_line (codes "asked") log blocks block ++ (root_line sets root ++ (links_text log blocks links ++ numbered_line (codes "block") log blocks block)) ≡ text
    → (chain : Chain) → chain.root ≡ root → chain.links.items ≡ links → text_of log blocks sets block (Some chain) ≡ text
unfolding text_of
told log blocks sets block root links text is chain same_root same_links =
    ap (λ (r : RootWord). numbered_line (codes "asked") log blocks block ++ (root_line sets r ++ (links_text log blocks chain.links.items ++ numbered_line (codes "block") log blocks block))) same_root
    ∙ ap (λ (ls : List Link). numbered_line (codes "asked") log blocks block ++ (root_line sets root ++ (links_text log blocks ls ++ numbered_line (codes "block") log blocks block))) same_links ∙ is
