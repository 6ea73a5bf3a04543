-- The complete lines that glibc's mtrace writes. Own rule for the place of a call: only its end is looked for, since
-- names of files may hold any byte.
use Rattle.std.specs.Prelude.{◌≡◌, ◌≢◌, ℕ, ◌+◌, ◌⊎◌, List, [], ◌∷◌, ◌++◌, length, codes, IsTrue, not, ◌||◌, ◌==◌, Some, slice_get}
use Rattle.std.specs.List.{list_any, ends_with}
use Rattle.leak_mtrace.specs.declared.line.Kind.{Kind}
use Rattle.leak_mtrace.specs.declared.line.Kind.TheVariants.{Alloc, Free, MoveOut, MoveIn, Failed, Remark}
use Rattle.leak_mtrace.specs.declared.line.Line.{Line}
use Rattle.leak_mtrace.specs.Number.{IsAddress, IsSize, IsPair}

-- a sign and a space, an address, a space and a size
abbrev pub IsSized : List ℕ → List ℕ → ℕ → ℕ → Type 0
IsSized sign text addr size = (a : List ℕ) × (s : List ℕ) × (text ≡ sign ++ a ++ codes " " ++ s)
    × IsAddress a addr × IsSize s size

-- a sign and a space, and an address alone
abbrev pub IsBare : List ℕ → List ℕ → ℕ → ℕ → Type 0
IsBare sign text addr size = (a : List ℕ) × (text ≡ sign ++ a) × IsAddress a addr × (size ≡ 0)

-- a call, without the place that it was made from
abbrev pub IsCall : Kind → List ℕ → ℕ → ℕ → Type 0
IsCall Alloc = IsSized (codes "+ ")
IsCall Free = IsBare (codes "- ")
IsCall MoveOut = IsBare (codes "< ")
IsCall MoveIn = IsSized (codes "> ")
IsCall Failed = IsSized (codes "! ")
IsCall Remark = λ text addr size. ⊥

-- the place of a call: it isn't empty, and ends at its last ']' if it has one
abbrev pub IsPlace : List ℕ → Type 0
IsPlace place = (place ≢ []) × IsTrue (not (list_any (λ b. b == 93) place) || ends_with ◌==◌ place (codes "]"))

-- an empty line, or one that begins with '='
abbrev pub IsRemark : List ℕ → Line → Type 0
IsRemark text x = ((text ≡ []) ⊎ (slice_get text 0 ≡ Some 61))
    × (x ≡ record { kind = Remark; addr = 0; size = 0; caller = (0, 0) })

-- a call with no place
abbrev pub IsPlain : List ℕ → Line → Type 0
IsPlain text x = IsCall x.kind text x.addr x.size × (x.caller ≡ (0, 0))

-- a call after its place, without the '@' and the space before the place
abbrev pub IsAfterPlace : List ℕ → Line → Type 0
IsAfterPlace text x = (place : List ℕ) × (rest : List ℕ) × (text ≡ place ++ 32 ∷ rest) × IsPlace place
    × IsCall x.kind rest x.addr x.size × (x.caller ≡ (2, 2 + length place))

-- a call after its place
abbrev pub IsPlaced : List ℕ → Line → Type 0
IsPlaced text x = (place : List ℕ) × (rest : List ℕ) × (text ≡ codes "@ " ++ place ++ codes " " ++ rest)
    × IsPlace place × IsCall x.kind rest x.addr x.size × (x.caller ≡ (2, 2 + length place))

-- what a line says
unfoldable pub IsLine : List ℕ → Line → Type 0
IsLine text x = IsRemark text x ⊎ (IsPlain text x ⊎ IsPlaced text x)

-- ---- a call, cut after its sign

-- what follows a call's sign and space
abbrev pub IsBody : Kind → List ℕ → ℕ → ℕ → Type 0
IsBody Alloc = IsPair
IsBody Free = λ text addr size. IsAddress text addr × (size ≡ 0)
IsBody MoveOut = λ text addr size. IsAddress text addr × (size ≡ 0)
IsBody MoveIn = IsPair
IsBody Failed = IsPair
IsBody Remark = λ text addr size. ⊥

-- the sign of a call; a remark has none
abbrev pub sign_of : Kind → ℕ
sign_of Alloc = 43
sign_of Free = 45
sign_of MoveOut = 60
sign_of MoveIn = 62
sign_of Failed = 33
sign_of Remark = 0
