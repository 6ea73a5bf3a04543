-- What a reader's answer says of a relation.
use Rattle.std.specs.Prelude.{Option, Some, None}

-- the answer is related; if there is no answer, nothing is
abbrev pub Decides : {X : Type 0} → (X → Type 0) → Option X → Type 0
Decides {X} P None = (x : X) → P x → ⊥
Decides P (Some x) = P x
