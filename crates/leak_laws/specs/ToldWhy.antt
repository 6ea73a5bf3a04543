-- What an answer to why a block is held tells, as its lines say it.
use Rattle.std.specs.Prelude.{◌≡◌, ◌<◌, ℕ, List, [], ◌∷◌, ◌++◌, length, flat_map, codes, Option, None, Some, IfSome, slice_index_or}
use Rattle.std.specs.List.{AllByRecursion}
use Rattle.leak_notes.specs.declared.sets.RegisterSet.{RegisterSet}
use Rattle.leak_blocks.specs.declared.block.Block.{Block}
use Rattle.leak_report.specs.Lines.{hexadecimal}
use Rattle.leak_why.specs.declared.chain.Chain.{Chain}
use Rattle.leak_why.specs.declared.chain.Link.{Link}
use Rattle.leak_why.specs.Text.{holds, place_text, text_of}
use Rattle.leak_laws.specs.Readable.{IsNumber, Lacks}
use Rattle.leak_laws.specs.ToldAnswers.{IsEntryRead, ToldEntry, entry_text, told_entry}

-- a word of the block before, and the block that it leads to
pub record ToldStep : Type 0 where
  pub address : ℕ
  pub word : ℕ
  pub entry : ToldEntry

-- the text of the root's place, its word, the block that it leads to, and what leads on from there
pub record ToldChain : Type 0 where
  pub place : List ℕ
  pub word : ℕ
  pub first : ToldEntry
  pub steps : List ToldStep

-- the block that was asked for, and what holds it, if anything does
pub record ToldWhy : Type 0 where
  pub asked : ToldEntry
  pub chain : Option ToldChain

abbrev pub step_text : ToldStep → List ℕ
step_text s = codes "word " ++ (hexadecimal s.address ++ holds s.word) ++ entry_text (codes "block") s.entry

abbrev pub chain_text : Option ToldChain → List ℕ
chain_text None = codes "leaked\n"
chain_text (Some c) = codes "root " ++ (c.place ++ holds c.word) ++ (entry_text (codes "block") c.first ++ flat_map step_text c.steps)

abbrev pub why_told : ToldWhy → List ℕ
why_told t = entry_text (codes "asked") t.asked ++ chain_text t.chain

-- the block with the number
abbrev pub entry_at : List ℕ → List Block → ℕ → ToldEntry
entry_at log blocks i = told_entry log (slice_index_or blocks i (record { start = 0; size = 0; line = 0; caller = (0, 0) }))

-- the block that the root leads to, if these links lead on to the one with the number
abbrev pub first_by : List Link → ℕ → ℕ
first_by [] block = block
first_by (link ∷ links) block = first_by links link.holder

abbrev pub steps_by : List ℕ → List Block → List Link → ℕ → List ToldStep
steps_by log blocks [] block = []
steps_by log blocks (link ∷ links) block = steps_by log blocks links link.holder ++ record { address = link.address; word = link.word; entry = entry_at log blocks block } ∷ []

abbrev pub chain_tells : List ℕ → List Block → List RegisterSet → ℕ → Option Chain → Option ToldChain
chain_tells log blocks sets block None = None
chain_tells log blocks sets block (Some chain) = Some (record {
  place = place_text sets chain.root.place;
  word = chain.root.word;
  first = entry_at log blocks (first_by chain.links.items block);
  steps = steps_by log blocks chain.links.items block;
})

abbrev pub why_tells : List ℕ → List Block → List RegisterSet → ℕ → Option Chain → ToldWhy
why_tells log blocks sets block chain = record { asked = entry_at log blocks block; chain = chain_tells log blocks sets block chain }

pub record IsStepRead (s : ToldStep) : Type 0 where
  pub address : IsNumber s.address
  pub word : IsNumber s.word
  pub entry : IsEntryRead s.entry

pub record IsChainRead (c : ToldChain) : Type 0 where
  pub place : Lacks 10 c.place
  pub word : IsNumber c.word
  pub first : IsEntryRead c.first
  pub steps : AllByRecursion IsStepRead c.steps

pub record IsWhyRead (t : ToldWhy) : Type 0 where
  pub asked : IsEntryRead t.asked
  pub chain : IfSome t.chain IsChainRead

-- the links' words are of blocks that there are
abbrev pub AreOfBlocks : List Block → Option Chain → Type 0
AreOfBlocks blocks chain = IfSome chain (λ c. AllByRecursion (λ link. link.holder < length blocks) c.links.items)

abbrev pub WhyIsTold : Type 0
WhyIsTold = (log : List ℕ) (blocks : List Block) (sets : List RegisterSet) (block : ℕ) (chain : Option Chain) → block < length blocks → AreOfBlocks blocks chain
    → text_of log blocks sets block chain ≡ why_told (why_tells log blocks sets block chain)

abbrev pub WhyReadsBack : Type 0
WhyReadsBack = (a b : ToldWhy) → IsWhyRead a → IsWhyRead b → why_told a ≡ why_told b → a ≡ b
