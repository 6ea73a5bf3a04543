-- What grew between some logs, worked out by hand. The lines of a log are given beside its bytes.
use Rattle.std.specs.Prelude.{◌≡◌, ℕ, ◌++◌, List, [], ◌∷◌, codes, IsTrue}
use Rattle.leak_mtrace.specs.declared.line.Kind.TheVariants.{Alloc, Free}
use Rattle.leak_mtrace.specs.declared.line.Line.{Line}
use Rattle.leak_mtrace.specs.Log.{IsLog, is_continued_by}
use Rattle.leak_search.specs.declared.error.FindError.TheVariants.{NotPrefix}
use Rattle.leak_growth.specs.Growth.{IsFaultOfGrowth}
use Rattle.leak_growth.specs.Report.{growth_text}

-- a log and its lines
pub record Logged : Type 0 where
  pub bytes : List ℕ
  pub lines : List Line

abbrev pub allocated : ℕ → ℕ → ℕ × ℕ → Line
allocated addr size caller = record { kind = Alloc; addr = addr; size = size; caller = caller }

abbrev pub freed : ℕ → Line
freed addr = record { kind = Free; addr = addr; size = 0; caller = (0, 0) }

-- the logs have these lines, the first's complete ones begin the second, and this is the report
pub record GrowsTo (log1 log2 : Logged) (text : List ℕ) : Type 0 where
  pub before : IsLog log1.bytes log1.lines
  pub now : IsLog log2.bytes log2.lines
  pub continued : IsTrue (is_continued_by log1.bytes log2.bytes)
  pub report : growth_text log1.bytes log1.lines log2.bytes log2.lines ≡ text

abbrev pub nothing : Logged
nothing = record { bytes = []; lines = [] }

abbrev pub one : Logged
one = record { bytes = codes "@ a:[0x1] + 0x10100 0x20\n"; lines = allocated 0x10100 32 (2, 9) ∷ [] }

abbrev pub cut : Logged
cut = record { bytes = codes "@ a:[0x1] + 0x10100 0x20\n@ a:[0x1] +"; lines = allocated 0x10100 32 (2, 9) ∷ [] }

abbrev pub two : Logged
two = record {
  bytes = codes "@ a:[0x1] + 0x10100 0x20\n@ a:[0x1] + 0x10200 0x10\n";
  lines = allocated 0x10100 32 (2, 9) ∷ allocated 0x10200 16 (27, 34) ∷ [];
}

abbrev pub gone : Logged
gone = record { bytes = codes "@ a:[0x1] + 0x10100 0x20\n- 0x10100\n"; lines = allocated 0x10100 32 (2, 9) ∷ freed 0x10100 ∷ [] }

abbrev pub again : Logged
again = record {
  bytes = codes "@ a:[0x1] + 0x10100 0x20\n- 0x10100\n@ a:[0x1] + 0x10100 0x20\n";
  lines = allocated 0x10100 32 (2, 9) ∷ freed 0x10100 ∷ allocated 0x10100 32 (37, 44) ∷ [];
}

-- a give-back of no block, an allocation over a block, and a torn line
abbrev pub odd : Logged
odd = record {
  bytes = codes "@ a:[0x1] + 0x10100 0x20\n- 0x10300\n@ a:[0x1] + 0x10100 0x20\nx";
  lines = allocated 0x10100 32 (2, 9) ∷ freed 0x10300 ∷ allocated 0x10100 32 (37, 44) ∷ [];
}

abbrev pub others : Logged
others = record {
  bytes = codes "@ b:[0x2] + 0x10100 0x20\n@ a:[0x1] + 0x10200 0x20\n";
  lines = allocated 0x10100 32 (2, 9) ∷ allocated 0x10200 32 (27, 34) ∷ [];
}

abbrev pub empty_one : Logged
empty_one = record {
  bytes = codes "@ b:[0x2] + 0x10100 0x20\n@ a:[0x1] + 0x10200 0x20\n- 0x10100\n- 0x10200\n@ c:[0x3] + 0x10300 0\n";
  lines = allocated 0x10100 32 (2, 9) ∷ allocated 0x10200 32 (27, 34) ∷ freed 0x10100 ∷ freed 0x10200 ∷ allocated 0x10300 0 (72, 79) ∷ [];
}

abbrev pub no_caller : Logged
no_caller = record { bytes = codes "+ 0x10100 0x20\n"; lines = allocated 0x10100 32 (0, 0) ∷ [] }

abbrev pub no_callers : Logged
no_callers = record { bytes = codes "+ 0x10100 0x20\n+ 0x10200 0x8\n"; lines = allocated 0x10100 32 (0, 0) ∷ allocated 0x10200 8 (0, 0) ∷ [] }

abbrev pub given_back : Logged
given_back = record { bytes = codes "+ 0x10100 0x20\n- 0x10100\n"; lines = allocated 0x10100 32 (0, 0) ∷ freed 0x10100 ∷ [] }

abbrev pub no_signs : List ℕ
no_signs = codes "unknown 0 displaced 0 torn 0\n"

pub record AreWorkedGrowths : Type 0 where
  pub one_more : GrowsTo one two (codes "then 1 bytes 32\nnow 2 bytes 48\nnew 1 bytes 16\n" ++ no_signs ++ codes "grew 16 1 32 2 48 1 16 a:[0x1]\n")
  pub same_log : GrowsTo one one (codes "then 1 bytes 32\nnow 1 bytes 32\nnew 0 bytes 0\n" ++ no_signs)
  pub block_gone : GrowsTo one gone (codes "then 1 bytes 32\nnow 0 bytes 0\nnew 0 bytes 0\n" ++ no_signs ++ codes "grew -32 1 32 0 0 0 0 a:[0x1]\n")
  pub same_place : GrowsTo one again (codes "then 1 bytes 32\nnow 1 bytes 32\nnew 1 bytes 32\n" ++ no_signs ++ codes "grew 0 1 32 1 32 1 32 a:[0x1]\n")
  pub two_gone : GrowsTo others empty_one (codes "then 2 bytes 64\nnow 1 bytes 0\nnew 1 bytes 0\n" ++ no_signs
      ++ codes "grew 0 0 0 1 0 1 0 c:[0x3]\ngrew -32 1 32 0 0 0 0 a:[0x1]\ngrew -32 1 32 0 0 0 0 b:[0x2]\n")
  pub all_new : GrowsTo nothing one (codes "then 0 bytes 0\nnow 1 bytes 32\nnew 1 bytes 32\n" ++ no_signs ++ codes "grew 32 0 0 1 32 1 32 a:[0x1]\n")
  pub no_blocks : GrowsTo nothing nothing (codes "then 0 bytes 0\nnow 0 bytes 0\nnew 0 bytes 0\n" ++ no_signs)
  pub without_caller : GrowsTo no_caller no_callers (codes "then 1 bytes 32\nnow 2 bytes 40\nnew 1 bytes 8\n" ++ no_signs ++ codes "grew 8 1 32 2 40 1 8 ?\n")
  pub cut_line : GrowsTo cut two (codes "then 1 bytes 32\nnow 2 bytes 48\nnew 1 bytes 16\n" ++ no_signs ++ codes "grew 16 1 32 2 48 1 16 a:[0x1]\n")
  pub odd_log : GrowsTo one odd (codes "then 1 bytes 32\nnow 1 bytes 32\nnew 1 bytes 32\nunknown 1 displaced 1 torn 1\ngrew 0 1 32 1 32 1 32 a:[0x1]\n")
  pub other_process : IsFaultOfGrowth given_back.bytes no_caller.bytes NotPrefix
