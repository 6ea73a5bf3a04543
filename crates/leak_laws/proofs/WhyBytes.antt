-- The bytes of an answer to why a block is held are those of its lines.
use Rattle.std.proofs.Common.{◌≡◌, ℕ, ◌<◌, List, [], ◌∷◌, ◌++◌, length, flat_map, Option, None, Some, refl, sym, ap, ◌∙◌, append_assoc, append-nil}
use Rattle.std.specs.Prelude.{codes}
use Rattle.std.specs.List.{AllByRecursion}
use Rattle.std.proofs.lemmas.Grind.{flat_map-append}
use Rattle.leak_notes.specs.declared.sets.RegisterSet.{RegisterSet}
use Rattle.leak_blocks.specs.declared.block.Block.{Block}
use Rattle.leak_why.specs.declared.chain.Chain.{Chain}
use Rattle.leak_why.specs.declared.chain.Link.{Link}
use Rattle.leak_why.specs.Text.{answer_text, links_text, root_line, text_of, word_line}
use Rattle.leak_laws.specs.ToldAnswers.{entry_text}
use Rattle.leak_laws.specs.ToldWhy.{AreOfBlocks, ToldStep, chain_tells, chain_text, entry_at, first_by, step_text, steps_by, why_tells, why_told}
use Rattle.leak_laws.proofs.AnswerReading.{entry_is_told}

three : (a b c d : List ℕ) → a ++ (b ++ c) ++ d ≡ a ++ b ++ (c ++ d)
three a b c d = simp append_assoc

module _ (log : List ℕ) (blocks : List Block) where
  abbrev line : ℕ → List ℕ
  line i = entry_text (codes "block") (entry_at log blocks i)

  links_are_told : (links : List Link) (block : ℕ) → AllByRecursion (λ link. link.holder < length blocks) links
      → links_text log blocks links ++ line block ≡ line (first_by links block) ++ flat_map step_text (steps_by log blocks links block)
  links_are_told [] block all = sym (append-nil (line block))
  links_are_told (link ∷ links) block all =
      let last : ToldStep = record { address = link.address; word = link.word; entry = entry_at log blocks block } in
      let rest : List ToldStep = steps_by log blocks links link.holder in
      ap (λ (b : List ℕ). links_text log blocks links ++ (b ++ word_line link) ++ line block) (entry_is_told (codes "block") log blocks link.holder all.0)
      ∙ three (links_text log blocks links) (line link.holder) (word_line link) (line block)
      ∙ ap (λ (f : List ℕ). f ++ (word_line link ++ line block)) (links_are_told links link.holder all.1)
      ∙ append_assoc (line (first_by links link.holder)) (flat_map step_text (steps_by log blocks links link.holder)) (word_line link ++ line block)
      ∙ ap (λ (t : List ℕ). line (first_by links link.holder) ++ t)
      (ap (λ (t : List ℕ). flat_map step_text (steps_by log blocks links link.holder) ++ t) (sym (append-nil (word_line link ++ line block)))
      ∙ sym (flat_map-append step_text (steps_by log blocks links link.holder) (record { address = link.address; word = link.word; entry = entry_at log blocks block } ∷ [])))

chain_is_told : (log : List ℕ) (blocks : List Block) (sets : List RegisterSet) (block : ℕ) (chain : Option Chain) → block < length blocks → AreOfBlocks blocks chain
    → answer_text log blocks sets block chain ≡ chain_text (chain_tells log blocks sets block chain)
chain_is_told log blocks sets block None low of = refl
chain_is_told log blocks sets block (Some chain) low of =
    ap (λ (t : List ℕ). root_line sets chain.root ++ t)
    (ap (λ (b : List ℕ). links_text log blocks chain.links.items ++ b) (entry_is_told (codes "block") log blocks block low) ∙ links_are_told log blocks chain.links.items block of)

pub why_is_told : (log : List ℕ) (blocks : List Block) (sets : List RegisterSet) (block : ℕ) (chain : Option Chain) → block < length blocks → AreOfBlocks blocks chain
    → text_of log blocks sets block chain ≡ why_told (why_tells log blocks sets block chain)
unfolding text_of
why_is_told log blocks sets block chain low of =
    ap (λ (front : List ℕ). front ++ answer_text log blocks sets block chain) (entry_is_told (codes "asked") log blocks block low)
    ∙ ap (λ (rest : List ℕ). entry_text (codes "asked") (entry_at log blocks block) ++ rest) (chain_is_told log blocks sets block chain low of)
