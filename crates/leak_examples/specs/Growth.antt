-- What grew between worked logs, from their bytes.
use Rattle.std.specs.Prelude.{◌≡◌, ℕ, List, [], ◌∷◌, ◌++◌, codes}
use Rattle.leak_report.specs.declared.signs.Signs.{Signs}
use Rattle.leak_search.specs.declared.error.FindError.TheVariants.{NotPrefix}
use Rattle.leak_growth.specs.declared.growth.Grown.{Grown}
use Rattle.leak_growth.specs.Growth.{FindsGrowth, IsFaultOfGrowth}

abbrev pub signs : ℕ → ℕ → Signs
signs live unknown = record { live = live; torn = 0; unknown = unknown; displaced = 0; misfits = 0 }

-- the definition allows this report alone, and allows it with these signs
pub record HaveGrown (log1 log2 : List ℕ) (before now : Signs) (report : List ℕ) : Type 0 where
  pub report_is : (grown : Grown) → FindsGrowth log1 log2 grown → grown.report.items ≡ report
  pub signs_are : (grown : Grown) → FindsGrowth log1 log2 grown → grown.signs.items ≡ before ∷ now ∷ []
  pub allowed : (grown : Grown) → grown.report.items ≡ report → grown.signs.items ≡ before ∷ now ∷ [] → FindsGrowth log1 log2 grown

-- one block of 32 bytes
abbrev pub first_log : List ℕ
first_log = codes "@ a:[0x1] + 0x10100 0x20\n"

-- blocks of two callers
abbrev pub both_logs : List ℕ
both_logs = codes "@ b:[0x2] + 0x10100 0x20\n@ a:[0x1] + 0x10200 0x20\n"

pub record AreWorkedGrowths : Type 0 where
  pub more : HaveGrown first_log (first_log ++ codes "@ a:[0x1] + 0x10200 0x10\n") (signs 1 0) (signs 2 0)
      (codes "then 1 bytes 32\nnow 2 bytes 48\nnew 1 bytes 16\nunknown 0 displaced 0 torn 0\ngrew 16 1 32 2 48 1 16 a:[0x1]\n")
  pub same : HaveGrown first_log first_log (signs 1 0) (signs 1 0) (codes "then 1 bytes 32\nnow 1 bytes 32\nnew 0 bytes 0\nunknown 0 displaced 0 torn 0\n")
  pub less : HaveGrown first_log (first_log ++ codes "- 0x10100\n") (signs 1 0) (signs 0 0)
      (codes "then 1 bytes 32\nnow 0 bytes 0\nnew 0 bytes 0\nunknown 0 displaced 0 torn 0\ngrew -32 1 32 0 0 0 0 a:[0x1]\n")
  pub replaced : HaveGrown first_log (first_log ++ codes "- 0x10100\n@ a:[0x1] + 0x10100 0x20\n") (signs 1 0) (signs 1 0)
      (codes "then 1 bytes 32\nnow 1 bytes 32\nnew 1 bytes 32\nunknown 0 displaced 0 torn 0\ngrew 0 1 32 1 32 1 32 a:[0x1]\n")
  pub ranked : HaveGrown both_logs (both_logs ++ codes "- 0x10100\n- 0x10200\n@ c:[0x3] + 0x10300 0\n") (signs 2 0) (signs 1 0)
      (codes "then 2 bytes 64\nnow 1 bytes 0\nnew 1 bytes 0\nunknown 0 displaced 0 torn 0\ngrew 0 0 0 1 0 1 0 c:[0x3]\ngrew -32 1 32 0 0 0 0 a:[0x1]\ngrew -32 1 32 0 0 0 0 b:[0x2]\n")
  pub no_prefix : IsFaultOfGrowth (codes "+ 0x10100 0x20\n- 0x10100\n") (codes "+ 0x10100 0x20\n") NotPrefix
