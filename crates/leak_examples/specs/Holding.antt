-- Worked answers who holds the memory, from the bytes of a core and a log.
use Rattle.std.specs.Prelude.{◌≡◌, ℕ, true, false, List, codes, Option, Some, None}
use Rattle.leak_holders.specs.declared.question.Question.{Question}
use Rattle.leak_holders.specs.declared.question.Side.TheVariants.{In, Of}
use Rattle.leak_holder_search.specs.declared.search.Holding.{Holding}
use Rattle.leak_holder_search.specs.Held.{FindsHeld}
use Rattle.leak_holder_search.specs.Holders.{FindsHolders}
use Rattle.leak_examples.specs.Reasons.{rbx_core}
use Rattle.leak_roots.specs.Skipped.{usual_skip}
use Rattle.leak_examples.specs.Searches.{interior, two_core}

-- the definition allows the report
abbrev pub AreHoldersOf : List ℕ → List ℕ → Option (List ℕ) → List ℕ → Type 0
AreHoldersOf core log since report =
    (found : Holding) → found.report.items ≡ report → FindsHolders core log since interior usual_skip found

-- the definition allows the answer
abbrev pub IsHeldAs : List ℕ → List ℕ → Question → List ℕ → Type 0
IsHeldAs core log question report =
    (found : Holding) → found.report.items ≡ report → FindsHeld core log None interior usual_skip question found

-- a block of the caller a at 0x10010 and one of b at 0x10020, of 8 bytes each
abbrev pub earlier_log : List ℕ
earlier_log = codes "@ a:[0x1] + 0x10010 0x8\n"

abbrev pub caller_log : List ℕ
caller_log = codes "@ a:[0x1] + 0x10010 0x8\n@ b:[0x2] + 0x10020 0x8\n"

-- a root word leads to the first, and the first to the second; then a register leads to the second too
abbrev pub chained : List ℕ
chained = two_core 0x10010 0x10020

abbrev pub shared : List ℕ
shared = rbx_core 0x10020 0x10010 0x10020

pub record AreWorkedHolders : Type 0 where
  pub chain : AreHoldersOf chained caller_log None
      (codes "blocks 2 bytes 16\nundumped 0\nunknown 0 displaced 0 torn 0\nmarked 2 bytes 16\nleaked 0 bytes 0\nholder 2 16 1 8 0 0x10010 a:[0x1]\nholder 1 8 1 8 1 0x10020 b:[0x2]\n")
  pub held_twice : AreHoldersOf shared caller_log None
      (codes "blocks 2 bytes 16\nundumped 0\nunknown 0 displaced 0 torn 0\nmarked 2 bytes 16\nleaked 0 bytes 0\nholder 1 8 1 8 0 0x10010 a:[0x1]\nholder 1 8 1 8 0 0x10020 b:[0x2]\n")
  pub lost : AreHoldersOf (two_core 0 0x10020) caller_log None
      (codes "blocks 2 bytes 16\nundumped 0\nunknown 0 displaced 0 torn 0\nmarked 0 bytes 0\nleaked 2 bytes 16\n")
  pub since : AreHoldersOf chained caller_log (Some earlier_log)
      (codes "blocks 2 bytes 16\nundumped 0\nunknown 0 displaced 0 torn 0\nnew 1 bytes 8\nmarked 2 bytes 16\nleaked 0 bytes 0\nholder 1 8 0 0 0 0x10010 a:[0x1]\nholder 1 8 1 8 1 0x10020 b:[0x2]\n")
  pub held : IsHeldAs chained caller_log (record { address = 0x10010; side = In; alone = false })
      (codes "asked 0x10010 8 1 a:[0x1]\nheld 2 bytes 16\nin 1 8 a:[0x1]\nin 1 8 b:[0x2]\n")
  pub holding : IsHeldAs chained caller_log (record { address = 0x10020; side = Of; alone = false })
      (codes "asked 0x10020 8 2 b:[0x2]\nheld 1 bytes 8\nby 1 8 a:[0x1]\n")
  pub held_alone : IsHeldAs shared caller_log (record { address = 0x10010; side = In; alone = true })
      (codes "asked 0x10010 8 1 a:[0x1]\nheld 1 bytes 8\nin 1 8 a:[0x1]\n")
  pub held_lost : IsHeldAs (two_core 0 0x10020) caller_log (record { address = 0x10010; side = In; alone = false })
      (codes "asked 0x10010 8 1 a:[0x1]\nleaked\n")
