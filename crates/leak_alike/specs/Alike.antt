-- Cores that a search can't tell apart. Own rule: a word that leads to no live block may be any other such word, unless
-- a rule reads it as something else than a pointer: as malloc's size or link, or to find how much of a stack is in use.
use Rattle.std.specs.Prelude.{◌≡◌, ◌↔◌, ◌⊎◌, ⊤, ℕ, ◌+◌, ◌-◌, ◌<◌, ◌≤◌, Bool, List, [], ◌∷◌, IsFalse, IsTrue, Option, Some, None}
use Rattle.std.specs.List.{Contains}
use Rattle.leak_elf.specs.Refusals.{fault_of}
use Rattle.leak_elf.specs.Segments.{segments_of}
use Rattle.leak_elf.specs.Words.{word_of}
use Rattle.leak_notes.specs.Stacks.{random_of, threads_in}
use Rattle.leak_notes.specs.Threads.{note_fault_of, registers_of}
use Rattle.leak_notes.specs.declared.stacks.StackRegisters.{StackRegisters}
use Rattle.leak_mtrace.specs.Log.{IsLog}
use Rattle.leak_mtrace.specs.declared.line.Line.{Line}
use Rattle.leak_blocks.specs.declared.block.Block.{Block}
use Rattle.leak_index.specs.Hits.{Index, hits_of}
use Rattle.leak_index.specs.Leads.{Distances}
use Rattle.leak_chunks.specs.Fit.{chunk_size, is_heap_chunk_for, is_mapped}
use Rattle.leak_chunks.specs.FreeLinks.{has_least_chunk, has_start, next_header}
use Rattle.leak_stacks.specs.Stacks.{first_in, stack_of}
use Rattle.leak_stacks.specs.declared.stack.Stack.{Stack}
use Rattle.leak_roots.specs.declared.skip.Skip.{Skip}
use Rattle.leak_report.specs.declared.signs.Signs.{Signs}
use Rattle.leak_search.specs.Search.{FindsOne, index_of}
use Rattle.leak_search.specs.Signs.{AreSigns}
use Rattle.leak_search.specs.declared.found.Found.{Found}

-- the word leads to no block
abbrev pub LeadsNowhere : Index → ℕ → Type 0
LeadsNowhere index word = hits_of index word ≡ []

-- what two cores have at one address: no word, or words that are equal or each lead to no block
abbrev pub AreAlikeWords : Index → Option ℕ → Option ℕ → Type 0
AreAlikeWords index None None = ⊤
AreAlikeWords index None (Some other) = ⊥
AreAlikeWords index (Some word) None = ⊥
AreAlikeWords index (Some word) (Some other) = (word ≡ other) ⊎ (LeadsNowhere index word × LeadsNowhere index other)

-- The word at the address is read as something else than a pointer, of a core with these live blocks:
pub data IsAsked (core : List ℕ) (blocks : List Block) (skip : Skip) : ℕ → Type 0 where
  -- as the size word of a live block's chunk; and of the chunk after it, if its own is a heap's and fits the block;
  size_word : (b : Block) → Contains blocks b → IsAsked core blocks skip (b.start - 8)
  next_size_word : (b : Block) (word : ℕ) → Contains blocks b → word_of core (b.start - 8) ≡ Some word
      → IsFalse (is_mapped word) → IsTrue (is_heap_chunk_for b.size (chunk_size word))
      → IsAsked core blocks skip (b.start + chunk_size word - 8)
  -- if links are left out, as the size word and the links of the chunk after it, if its own is the least for its size,
  -- and no live block has the one after it;
  header_word : (b : Block) (distance : ℕ) → IsTrue skip.links → Contains blocks b
      → IsTrue (has_least_chunk (word_of core) b) → IsFalse (has_start blocks (next_header b + 16))
      → Contains (8 ∷ 16 ∷ 24 ∷ []) distance → IsAsked core blocks skip (next_header b + distance)
  -- if dead stack is left out, as a word of a thread's own record, which tells of its stack, or of a signal frame,
  -- which begins in the stack from the stack pointer on.
  record_word : (t : StackRegisters) (a : ℕ) → IsTrue skip.dead → Contains (threads_in core) t
      → t.fs_base ≤ a → a < t.fs_base + 4104 → IsAsked core blocks skip a
  frame_word : (t : StackRegisters) (k : Stack) (a : ℕ) → IsTrue skip.dead → Contains (threads_in core) t
      → stack_of (word_of core) (first_in core) t ≡ Some k
      → t.sp ≤ a → a < k.begin + k.size + 144 → IsAsked core blocks skip a

-- two cores say the same but for words that lead to no block and that no rule asks for
pub record AreAlikeCores (index : Index) (skip : Skip) (core other : List ℕ) : Type 0 where
  pub faults : fault_of core ≡ fault_of other
  pub note_faults : note_fault_of core ≡ note_fault_of other
  pub segments : segments_of core ≡ segments_of other
  pub registers : registers_of core ≡ registers_of other
  pub threads : threads_in core ≡ threads_in other
  pub random : random_of core ≡ random_of other
  pub words : (a : ℕ) → AreAlikeWords index (word_of core a) (word_of other a)
  pub asked : (a : ℕ) → IsAsked core index.blocks skip a → word_of core a ≡ word_of other a

-- the same with the live blocks of a log
abbrev pub AreAlikeBy : List ℕ → Distances → Skip → List ℕ → List ℕ → Type 0
AreAlikeBy log reading skip core other = (lines : List Line) → IsLog log lines → AreAlikeCores (index_of reading lines) skip core other

-- What a search of the one finds is what it finds of the other: the report, how many blocks leak, and the claims.
abbrev pub SearchesOfAlikeAreOne : Type 0
SearchesOfAlikeAreOne =
    (core other log : List ℕ) (reading : Distances) (skip : Skip) (check : Bool) (workers : ℕ) (found : Found) → AreAlikeBy log reading skip core other
    → (FindsOne core log reading skip check workers found ↔ FindsOne other log reading skip check workers found)

-- and their signs are the same
abbrev pub SignsOfAlikeAreOne : Type 0
SignsOfAlikeAreOne =
    (core other log : List ℕ) (reading : Distances) (skip : Skip) (other_heap : Bool) (signs : List Signs) → AreAlikeBy log reading skip core other
    → (AreSigns other_heap (core ∷ log ∷ []) signs ↔ AreSigns other_heap (other ∷ log ∷ []) signs)
