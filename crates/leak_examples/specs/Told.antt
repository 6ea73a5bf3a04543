-- How worked chains are told: the text of an answer, the names of registers, and the block that an address asks for.
use Rattle.std.specs.Prelude.{◌≡◌, ℕ, ◌==◌, List, [], ◌∷◌, codes, count_by, length, Some, None}
use Rattle.leak_blocks.specs.declared.block.Block.{Block}
use Rattle.leak_notes.specs.declared.sets.RegisterSet.{RegisterSet}
use Rattle.leak_notes.specs.declared.sets.RegisterSet.TheVariants.{Status, Vector, State}
use Rattle.leak_why.specs.declared.chain.Chain.{Chain}
use Rattle.leak_why.specs.declared.chain.Link.{Link}
use Rattle.leak_why.specs.declared.chain.RootWord.{RootWord}
use Rattle.leak_why.specs.Asked.{AreNotAsked, IsAsked}
use Rattle.leak_why.specs.Text.{register_text, text_of}
use Rattle.leak_examples.specs.Chains.{at, block, in_register, link, two_blocks}
use Rattle.leak_examples.specs.Distances.{row_links, row_of}

-- the answer for the block, of a chain with the root word and the links, has the text
abbrev pub IsToldAs : List ℕ → List Block → List RegisterSet → ℕ → RootWord → List Link → List ℕ → Type 0
IsToldAs log blocks sets block root links text =
    (chain : Chain) → chain.root ≡ root → chain.links.items ≡ links → text_of log blocks sets block (Some chain) ≡ text

-- a log of one line, and its block
abbrev pub one_log : List ℕ
one_log = codes "@ ./a.out:[0x401136] + 0x10100 0x20\n"

abbrev pub called_block : List Block
called_block = record { start = 0x10100; size = 0x20; line = 1; caller = (2, 20) } ∷ []

pub record AreWorkedTexts : Type 0 where
  pub by_memory : IsToldAs one_log called_block (Status ∷ []) 0 (at 0x10008 0x10100) []
      (codes "asked 0x10100 32 1 ./a.out:[0x401136]\nroot 0x10008 holds 0x10100\nblock 0x10100 32 1 ./a.out:[0x401136]\n")
  pub by_a_register : IsToldAs one_log called_block (Status ∷ []) 0 (in_register 5 0x10100) []
      (codes "asked 0x10100 32 1 ./a.out:[0x401136]\nroot rbx of thread 1 holds 0x10100\nblock 0x10100 32 1 ./a.out:[0x401136]\n")
  pub by_a_block : IsToldAs [] two_blocks (Status ∷ []) 1 (at 0x10008 0x10100) (link 0 0x10118 0x10200 ∷ [])
      (codes "asked 0x10200 16 2 ?\nroot 0x10008 holds 0x10100\nblock 0x10100 32 1 ?\nword 0x10118 holds 0x10200\nblock 0x10200 16 2 ?\n")
  pub leaked : text_of [] two_blocks (Status ∷ []) 1 None ≡ codes "asked 0x10200 16 2 ?\nleaked\n"

-- the text of a chain of a hundred blocks has a line for the question, for the root word, for each block, and for each word between
pub record IsToldWhole : Type 0 where
  pub lines : (chain : Chain) → chain.root ≡ at 0x10008 0x10200 → chain.links.items ≡ row_links 100
      → count_by (λ c. c == 10) (text_of [] (row_of 100).index.blocks (Status ∷ []) 99 (Some chain)) ≡ 201

-- a thread with a vector entry and a state entry of 2,696 bytes, one with a status alone, and one with a vector entry
abbrev pub three_threads : List RegisterSet
three_threads = Status ∷ Vector ∷ State 265 ∷ Status ∷ Status ∷ Vector ∷ []

pub record AreRegisterNames : Type 0 where
  pub first : register_text 0 three_threads 0 ≡ codes "r15 of thread 1"
  pub rbp : register_text 0 three_threads 4 ≡ codes "rbp of thread 1"
  pub rbx : register_text 0 three_threads 5 ≡ codes "rbx of thread 1"
  pub rax : register_text 0 three_threads 10 ≡ codes "rax of thread 1"
  pub orig_rax : register_text 0 three_threads 15 ≡ codes "orig_rax of thread 1"
  pub rip : register_text 0 three_threads 16 ≡ codes "rip of thread 1"
  pub rsp : register_text 0 three_threads 19 ≡ codes "rsp of thread 1"
  pub last : register_text 0 three_threads 26 ≡ codes "gs of thread 1"
  pub first_x87 : register_text 0 three_threads 27 ≡ codes "st0 low of thread 1"
  pub high_x87 : register_text 0 three_threads 28 ≡ codes "st0 high of thread 1"
  pub last_x87 : register_text 0 three_threads 42 ≡ codes "st7 high of thread 1"
  pub first_xmm : register_text 0 three_threads 43 ≡ codes "xmm0 low of thread 1"
  pub high_xmm : register_text 0 three_threads 44 ≡ codes "xmm0 high of thread 1"
  pub last_xmm : register_text 0 three_threads 74 ≡ codes "xmm15 high of thread 1"
  pub first_state : register_text 0 three_threads 75 ≡ codes "state 576 of thread 1"
  pub second_state : register_text 0 three_threads 76 ≡ codes "state 584 of thread 1"
  pub last_state : register_text 0 three_threads 339 ≡ codes "state 2688 of thread 1"
  pub second_thread : register_text 0 three_threads 340 ≡ codes "r15 of thread 2"
  pub third_thread : register_text 0 three_threads 372 ≡ codes "rbx of thread 3"
  pub vector_of_third : register_text 0 three_threads 441 ≡ codes "xmm15 high of thread 3"
  pub before_statuses : register_text 0 (Vector ∷ Status ∷ []) 0 ≡ codes "st0 low of thread 0"
  pub of_no_entry : register_text 0 three_threads 442 ≡ codes "? of thread 3"

-- two blocks that touch, and one of no byte
abbrev pub asked_blocks : List Block
asked_blocks = block 0x10100 0x20 1 ∷ block 0x10120 0x10 2 ∷ block 0x10200 0 3 ∷ []

-- none of the blocks has the address
abbrev pub NoneHas : ℕ → Type 0
NoneHas address = AreNotAsked asked_blocks address (length asked_blocks)

pub record AreAskedBlocks : Type 0 where
  pub start : IsAsked asked_blocks 0x10100 0
  pub inside : IsAsked asked_blocks 0x10110 0
  pub last_byte : IsAsked asked_blocks 0x1011f 0
  pub end_of_one : IsAsked asked_blocks 0x10120 1
  pub empty : IsAsked asked_blocks 0x10200 2
  pub before : NoneHas 0x100ff
  pub past_the_end : NoneHas 0x10130
  pub past_the_empty : NoneHas 0x10201
