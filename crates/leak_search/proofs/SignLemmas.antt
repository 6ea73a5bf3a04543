-- The signs of inputs that were read.
use Rattle.std.proofs.Common.{◌≡◌, ℕ, Bool, List, [], ◌∷◌, refl, sym, subst}
use Rattle.leak_blocks.proofs.StepLemmas.{replayed as blocks_are}
use Rattle.leak_report.specs.declared.signs.Signs.{Signs}
use Rattle.leak_search.specs.declared.inputs.Input.{Input}
use Rattle.leak_search.specs.Inputs.{IsRead}
use Rattle.leak_search.specs.Signs.{AreSigns, signs_of, signs_with}

signs_are : (heap : Bool) (core log : List ℕ) (input : Input) → (read : IsRead core log input) → signs_with heap input ≡ signs_of heap core log read.0
signs_are heap core log input read = rw (read.1.image, read.1.live, read.1.torn, blocks_are read.0) refl

pub are_of_one : (heap : Bool) (core log : List ℕ) (input : Input) (signs : List Signs) → IsRead core log input → signs ≡ signs_with heap input ∷ []
    → AreSigns heap (core ∷ log ∷ []) signs
are_of_one heap core log input signs read is =
    subst (λ (ss : List Signs). AreSigns heap (core ∷ log ∷ []) ss) (sym is) ((read.0, read.1.is_log, signs_are heap core log input read), refl)

pub are_of_two : (heap : Bool) (core1 log1 core2 log2 : List ℕ) (first second : Input) (signs : List Signs) → IsRead core1 log1 first → IsRead core2 log2 second
    → signs ≡ signs_with heap first ∷ signs_with heap second ∷ [] → AreSigns heap (core1 ∷ log1 ∷ core2 ∷ log2 ∷ []) signs
are_of_two heap core1 log1 core2 log2 first second signs one two is =
    subst (λ (ss : List Signs). AreSigns heap (core1 ∷ log1 ∷ core2 ∷ log2 ∷ []) ss) (sym is)
    ((one.0, one.1.is_log, signs_are heap core1 log1 first one), ((two.0, two.1.is_log, signs_are heap core2 log2 second two), refl))
