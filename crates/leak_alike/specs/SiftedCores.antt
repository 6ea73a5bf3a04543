-- Cores of which only the words that a sieve keeps are left, with 0 in place of the others. Own rule: a search of such a
-- core finds what it finds of the whole core, unless it reads of stacks.
use Rattle.std.specs.Prelude.{◌≡◌, ◌↔◌, ◌<◌, ℕ, Bool, false, List, [], ◌∷◌, ◌++◌, length, slice_index, None, option_map}
use Rattle.leak_elf.specs.Head.{IsHead}
use Rattle.leak_elf.specs.HeadLength.{has_dumped}
use Rattle.leak_elf.specs.Refusals.{fault_of}
use Rattle.leak_elf.specs.Segments.{segments_of}
use Rattle.leak_elf.specs.Words.{word_of}
use Rattle.leak_mtrace.specs.Log.{IsLog}
use Rattle.leak_mtrace.specs.declared.line.Line.{Line}
use Rattle.leak_blocks.specs.Live.{live_of}
use Rattle.leak_index.specs.Leads.{Distances}
use Rattle.leak_sift.specs.Behind.{bytes_behind}
use Rattle.leak_sift.specs.Kept.{Rule, kept_of}
use Rattle.leak_sift.specs.Places.{AreOrderly}
use Rattle.leak_sift.specs.Sifted.{sifted}
use Rattle.leak_roots.specs.declared.skip.Skip.{Skip}
use Rattle.leak_report.specs.declared.signs.Signs.{Signs}
use Rattle.leak_search.specs.Inputs.{IsFaultOfOne}
use Rattle.leak_search.specs.Search.{FindsOne, index_of}
use Rattle.leak_search.specs.Signs.{AreSigns}
use Rattle.leak_search.specs.declared.error.FindError.{FindError}
use Rattle.leak_search.specs.declared.found.Found.{Found}
use Rattle.leak_alike.specs.Alike.{AreAlikeBy, AreAlikeCores}

-- each number of the list is a byte
abbrev pub AreBytes : List ℕ → Type 0
AreBytes bytes = (k : ℕ) → slice_index bytes k < 256

-- A core, by its head and the bytes behind it, whose words can be sifted one after another: all of them are behind the
-- head, and they ascend in the file as in memory.
pub record CanBeSifted (held rest : List ℕ) : Type 0 where
  pub head : IsHead held
  pub undumped : has_dumped held ≡ false
  pub orderly : AreOrderly (segments_of held)
  pub bytes : AreBytes rest

-- by what the words of a core are kept, if its log has these lines: by the live blocks, and by whether links are left out
abbrev pub rule_of : List Line → Skip → Rule
rule_of lines skip = record { blocks = live_of lines; links = skip.links }

-- the core with what is kept of the words behind its head
abbrev pub sifted_core : Rule → List ℕ → List ℕ → List ℕ
sifted_core rule held rest = held ++ bytes_behind (sifted rule (segments_of held) (length held) rest) (length rest)

-- each word of an accepted core is sifted to what is kept of it at its address
abbrev pub SiftedWordsAreKept : Type 0
SiftedWordsAreKept =
    (rule : Rule) (held rest : List ℕ) (a : ℕ) → CanBeSifted held rest → fault_of (held ++ rest) ≡ None
    → word_of (sifted_core rule held rest) a ≡ option_map (λ word. kept_of rule.blocks rule.links a word) (word_of (held ++ rest) a)

-- unless dead stack is left out, core and sifted core are alike
abbrev pub SiftedAreAlike : Type 0
SiftedAreAlike =
    (held rest log : List ℕ) (lines : List Line) (reading : Distances) (skip : Skip) → CanBeSifted held rest → fault_of (held ++ rest) ≡ None
    → skip.dead ≡ false → IsLog log lines → AreAlikeCores (index_of reading lines) skip (held ++ rest) (sifted_core (rule_of lines skip) held rest)

-- and so they are by the log
abbrev pub SiftedAreAlikeByLog : Type 0
SiftedAreAlikeByLog =
    (held rest log : List ℕ) (lines : List Line) (reading : Distances) (skip : Skip) → CanBeSifted held rest → fault_of (held ++ rest) ≡ None
    → skip.dead ≡ false → IsLog log lines → AreAlikeBy log reading skip (held ++ rest) (sifted_core (rule_of lines skip) held rest)

-- So what a search of the core finds is what it finds of the sifted core;
abbrev pub SearchesOfSiftedAreOne : Type 0
SearchesOfSiftedAreOne =
    (held rest log : List ℕ) (lines : List Line) (reading : Distances) (skip : Skip) (check : Bool) (workers : ℕ) (found : Found)
    → CanBeSifted held rest → skip.dead ≡ false → IsLog log lines
    → (FindsOne (held ++ rest) log reading skip check workers found ↔ FindsOne (sifted_core (rule_of lines skip) held rest) log reading skip check workers found)

-- the signs of an accepted core are the same;
abbrev pub SignsOfSiftedAreOne : Type 0
SignsOfSiftedAreOne =
    (held rest log : List ℕ) (lines : List Line) (skip : Skip) (other_heap : Bool) (signs : List Signs)
    → CanBeSifted held rest → fault_of (held ++ rest) ≡ None → skip.dead ≡ false → IsLog log lines
    → (AreSigns other_heap ((held ++ rest) ∷ log ∷ []) signs ↔ AreSigns other_heap (sifted_core (rule_of lines skip) held rest ∷ log ∷ []) signs)

-- and as the one is refused, so is the other, whatever is kept
abbrev pub RefusedOfSiftedAreOne : Type 0
RefusedOfSiftedAreOne =
    (rule : Rule) (held rest log : List ℕ) (e : FindError) → IsHead held
    → (IsFaultOfOne (held ++ rest) log e ↔ IsFaultOfOne (sifted_core rule held rest) log e)
