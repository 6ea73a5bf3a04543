-- How paths are opened: each once, in order, up to the first that is refused. Own rule.
use Rattle.std.specs.Prelude.{◌≡◌, ◌⊎◌, ℕ, List, [], ◌∷◌, ◌++◌, length, MatchOption, Some, slice_get, Result, Ok, Err, string_bytes}
use Rattle.std.specs.IoError.{error_kind}
use Rattle.std.specs.declared.io.Error.{Error}
use Rattle.leak_program.specs.declared.open_fault.OpenFault.{OpenFault}
use Rattle.leak_program.specs.declared.open_fault.OpenFault.TheVariants.{Refused, NoMemory}
use Rattle.leak_program.specs.declared.open_fault.Reason.{Reason}
use Rattle.leak_program.specs.Reasons.{reason_of}

-- what an opening does: the opener before it, the path, the answer, and the opener after it
abbrev pub Opens : Type 0 → Type 0 → Type 1
Opens O F = O → List ℕ → Result F Error → O → Type 0

-- each of the paths was opened once, in order, and these are their files
abbrev pub AreOpened : {O F : Type 0} → Opens O F → List (List ℕ) → O → List F → O → Type 0
AreOpened opens [] first [] last = last ≡ first
AreOpened opens [] first (file ∷ files) last = ⊥
AreOpened opens (path ∷ paths) first [] last = ⊥
AreOpened {O} opens (path ∷ paths) first (file ∷ files) last =
    (next : O) × opens first path (Ok file) next × AreOpened opens paths next files last

-- the paths before this one were opened, each once and in order, and this one was refused for the reason; none after it was tried
pub record IsRefusedAt {O F : Type 0} (opens : Opens O F) (paths : List (List ℕ)) (first last : O) (path : List ℕ) (reason : Reason) : Type 0 where
  pub earlier : List (List ℕ)
  pub later : List (List ℕ)
  pub split : paths ≡ earlier ++ path ∷ later
  pub files : List F
  pub before : O
  pub opened : AreOpened opens earlier first files before
  pub error : Error
  pub refused : opens before path (Err error) last
  pub reason_is : reason ≡ reason_of (error_kind error)

-- the paths of a first part were opened, each once and in order, and these are their files
pub record IsOpenedInPart {O F : Type 0} (opens : Opens O F) (paths : List (List ℕ)) (first last : O) : Type 0 where
  pub earlier : List (List ℕ)
  pub later : List (List ℕ)
  pub split : paths ≡ earlier ++ later
  pub files : List F
  pub opened : AreOpened opens earlier first files last

-- what was opened before an allocation failed: a first part of the paths, or all up to one that was refused
abbrev pub IsCutShort : {O F : Type 0} → Opens O F → List (List ℕ) → O → O → Type 0
IsCutShort opens paths first last =
    IsOpenedInPart opens paths first last ⊎ ((path : List ℕ) × (reason : Reason) × IsRefusedAt opens paths first last path reason)

-- why some paths are not opened: the first that is refused, or an allocation failed
abbrev pub IsOpenFault : {O F : Type 0} → Opens O F → List (List ℕ) → O → O → OpenFault → Type 0
IsOpenFault opens paths first last (Refused path reason) = IsRefusedAt opens paths first last (string_bytes path) reason
IsOpenFault opens paths first last NoMemory = IsCutShort opens paths first last

-- the size is one that the file with the number, from 0, is said to have, and 0 if there is none
abbrev pub IsSizeAt : {F : Type 0} → (F → ℕ → Type 0) → List F → ℕ → ℕ → Type 0
IsSizeAt tells files number size = MatchOption (slice_get files number) (size ≡ 0) (λ file. tells file size)

-- such are the sizes of the first four, in order
abbrev pub AreSizes : {F : Type 0} → (F → ℕ → Type 0) → List F → List ℕ → Type 0
AreSizes tells files sizes =
    (length sizes ≡ 4) × ((number size : ℕ) → slice_get sizes number ≡ Some size → IsSizeAt tells files number size)
