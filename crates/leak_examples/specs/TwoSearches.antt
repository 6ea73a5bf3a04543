-- Worked searches of two cores of one process, from the bytes of both and of their logs.
use Rattle.std.specs.Prelude.{◌≡◌, ℕ, false, List, [], ◌∷◌, codes}
use Rattle.leak_search.specs.declared.found.Found.{Found}
use Rattle.leak_search.specs.Search.{claims_of}
use Rattle.leak_search.specs.SearchTwo.{FindsTwo}
use Rattle.leak_examples.specs.Holding.{caller_log, earlier_log}
use Rattle.leak_roots.specs.Skipped.{usual_skip}
use Rattle.leak_examples.specs.Searches.{interior, two_core}

-- two cores with their logs
pub record Pair : Type 0 where
  pub core1 : List ℕ
  pub log1 : List ℕ
  pub core2 : List ℕ
  pub log2 : List ℕ

-- The definition allows just this report, with this many leaked blocks; and it allows it if one worker claims these blocks.
pub record FindsLater (p : Pair) (claimed : List ℕ) (leaked : ℕ) (report : List ℕ) : Type 0 where
  pub report_is : (workers : ℕ) (found : Found)
      → FindsTwo p.core1 p.log1 p.core2 p.log2 interior usual_skip false workers found → found.report.items ≡ report
  pub leaked_is : (workers : ℕ) (found : Found)
      → FindsTwo p.core1 p.log1 p.core2 p.log2 interior usual_skip false workers found → found.leaked ≡ leaked
  pub allowed : (found : Found) → found.report.items ≡ report → found.leaked ≡ leaked → claims_of found ≡ claimed ∷ []
      → FindsTwo p.core1 p.log1 p.core2 p.log2 interior usual_skip false 1 found

-- a root word led to the first block, and doesn't any more; the second block is allocated meanwhile
abbrev pub kept_and_new : Pair
kept_and_new = record { core1 = two_core 0x10010 0x10020; log1 = earlier_log; core2 = two_core 0 0x10020; log2 = caller_log }

-- nothing led to the first block
abbrev pub new_alone : Pair
new_alone = record { core1 = two_core 0 0x10020; log1 = earlier_log; core2 = two_core 0 0x10020; log2 = caller_log }

-- both blocks are there before, and the first, which is kept, has come to lead to the second
abbrev pub found_again : Pair
found_again = record { core1 = two_core 0x10010 0; log1 = caller_log; core2 = two_core 0 0x10020; log2 = caller_log }

pub record AreWorkedPairs : Type 0 where
  pub kept : FindsLater kept_and_new [] 0
      (codes "blocks 2 bytes 16\nundumped 0\nunknown 0 displaced 0 torn 0\nnew 1 bytes 8\nreread 1\nmarked 2 bytes 16\nleaked 0 bytes 0\nheads 0\n")
  pub lost : FindsLater new_alone [] 1
      (codes "blocks 2 bytes 16\nundumped 0\nunknown 0 displaced 0 torn 0\nnew 1 bytes 8\nreread 0\nmarked 1 bytes 8\nleaked 1 bytes 8\nheads 1\ncaller 1 8 1 a:[0x1]\nleak 0x10010 8 1 head a:[0x1]\n")
  pub claimed : FindsLater found_again (1 ∷ []) 0
      (codes "blocks 2 bytes 16\nundumped 0\nunknown 0 displaced 0 torn 0\nnew 0 bytes 0\nreread 1\nmarked 2 bytes 16\nleaked 0 bytes 0\nheads 0\n")
