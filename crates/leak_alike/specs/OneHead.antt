-- Files that begin with one head and are as long: all that is read of them but words is the same.
use Rattle.std.specs.Prelude.{◌≡◌, ◌↔◌, ℕ, List, ◌++◌, length}
use Rattle.leak_elf.specs.Head.{IsHead}
use Rattle.leak_elf.specs.Refusals.{fault_of}
use Rattle.leak_elf.specs.Segments.{segments_of}
use Rattle.leak_notes.specs.Stacks.{random_of, threads_in}
use Rattle.leak_notes.specs.Threads.{note_fault_of, registers_of, threads_of}
use Rattle.leak_search.specs.Inputs.{IsFaultOfOne}
use Rattle.leak_search.specs.declared.error.FindError.{FindError}

-- two files agree in all that is read of them but words
pub record AgreeButWords (core other : List ℕ) : Type 0 where
  pub faults : fault_of core ≡ fault_of other
  pub note_faults : note_fault_of core ≡ note_fault_of other
  pub segments : segments_of core ≡ segments_of other
  pub registers : registers_of core ≡ registers_of other
  pub threads : threads_in core ≡ threads_in other
  pub random : random_of core ≡ random_of other

-- so do two that begin with one head, and have as many bytes behind it
abbrev pub FilesOfOneHeadAgree : Type 0
FilesOfOneHeadAgree = (held rest other : List ℕ) → IsHead held → length rest ≡ length other → AgreeButWords (held ++ rest) (held ++ other)

-- their threads are those of the head
abbrev pub ThreadsOfOneHeadAreOne : Type 0
ThreadsOfOneHeadAreOne = (held rest other : List ℕ) → IsHead held → length rest ≡ length other → threads_of (held ++ rest) ≡ threads_of (held ++ other)

-- and as the one is refused by a search, so is the other, whatever the log
abbrev pub RefusedOfOneHeadAreOne : Type 0
RefusedOfOneHeadAreOne =
    (held rest other log : List ℕ) (e : FindError) → IsHead held → length rest ≡ length other
    → (IsFaultOfOne (held ++ rest) log e ↔ IsFaultOfOne (held ++ other) log e)
