-- Worked questions what holds a block, from the bytes of a core and a log.
use Rattle.std.specs.Prelude.{◌≡◌, ℕ, true, false, List, [], ◌∷◌, codes}
use Rattle.std.specs.Int.{w64, to_le_bytes}
use Rattle.leak_elf.specs.Sample.{patched}
use Rattle.leak_why.specs.declared.chain.Chain.{Chain}
use Rattle.leak_why.specs.declared.chain.Link.{Link}
use Rattle.leak_why.specs.declared.chain.RootWord.{RootWord}
use Rattle.leak_search.specs.Why.{IsWhyFault, TellsWhy}
use Rattle.leak_search.specs.declared.why.Why.{Why}
use Rattle.leak_search.specs.declared.why.WhyError.TheVariants.{NoBlock}
use Rattle.leak_examples.specs.Chains.{at, in_register, link}
use Rattle.leak_roots.specs.Skipped.{usual_skip}
use Rattle.leak_examples.specs.Searches.{interior, two_core, two_log}

-- the definition says that the block is held, and allows this chain and its text
pub record TellsHeld (core log : List ℕ) (address : ℕ) (root : RootWord) (links : List Link) (text : List ℕ) : Type 0 where
  pub held : (found : Why) → TellsWhy core log interior usual_skip address found → found.held ≡ true
  pub allowed : (chain : Chain) (found : Why) → chain.root ≡ root → chain.links.items ≡ links → found.text.items ≡ text → found.held ≡ true
      → TellsWhy core log interior usual_skip address found

-- the definition says that the block leaked, and allows this text alone
pub record TellsLost (core log : List ℕ) (address : ℕ) (text : List ℕ) : Type 0 where
  pub held : (found : Why) → TellsWhy core log interior usual_skip address found → found.held ≡ false
  pub text_is : (found : Why) → TellsWhy core log interior usual_skip address found → found.text.items ≡ text
  pub allowed : (found : Why) → found.text.items ≡ text → found.held ≡ false
      → TellsWhy core log interior usual_skip address found

-- the core with these words at 0x10008 and at 0x10010, and a word in rbx
abbrev pub rbx_core : ℕ → ℕ → ℕ → List ℕ
rbx_core rbx root word = patched (two_core root word) 348 (to_le_bytes w64 rbx)

pub record AreWorkedReasons : Type 0 where
  pub by_memory : TellsHeld (two_core 0x10010 0x10020) two_log 0x10010 (at 0x10008 0x10010) []
      (codes "asked 0x10010 8 1 a:[0x1]\nroot 0x10008 holds 0x10010\nblock 0x10010 8 1 a:[0x1]\n")
  pub by_a_block : TellsHeld (two_core 0x10010 0x10020) two_log 0x10027 (at 0x10008 0x10010) (link 0 0x10010 0x10020 ∷ [])
      (codes "asked 0x10020 8 2 ?\nroot 0x10008 holds 0x10010\nblock 0x10010 8 1 a:[0x1]\nword 0x10010 holds 0x10020\nblock 0x10020 8 2 ?\n")
  pub by_a_register : TellsHeld (rbx_core 0x10010 0 0) two_log 0x10011 (in_register 5 0x10010) []
      (codes "asked 0x10010 8 1 a:[0x1]\nroot rbx of thread 1 holds 0x10010\nblock 0x10010 8 1 a:[0x1]\n")
  pub lost : TellsLost (two_core 0 0x10020) two_log 0x10010 (codes "asked 0x10010 8 1 a:[0x1]\nleaked\n")
  pub lost_held : TellsLost (two_core 0 0x10020) two_log 0x10020 (codes "asked 0x10020 8 2 ?\nleaked\n")
  pub no_block : IsWhyFault (two_core 0 0x10020) two_log 0x10028 (NoBlock 0x10028)
