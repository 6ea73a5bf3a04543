-- If the paths and the numbers were read, nothing that a subcommand takes is lacking.
use Rattle.std.proofs.Common.{◌≡◌, ◌≤◌, ◌<◌, ℕ, Bool, true, false, List, [], ◌∷◌, None, Some, ap, subst, sym, refl, ◌∙◌, arith, inl, inr, codes, slice_index_or}
use Rattle.std.proofs.lemmas.List.Elements.{All-cons, All-nil}
use Rattle.std.specs.List.{All}
use Rattle.std.specs.Prelude.{IsSome, String, string_bytes}
use Rattle.clap.specs.Words.{Row, Text, first_of}
use Rattle.leak_pool.specs.Plan.{IsBetween, Numbers}
use Rattle.leak_request.specs.CommandLine.{address_id, name_of, path_ids}
use Rattle.leak_request.specs.Questions.{IsQuestionFault}
use Rattle.leak_request.specs.Requests.{AreAt, AreNumbersAt, HoldersLacks, IsHoldersRefusal, IsListTaken, Lacks, WhyLacks}
use Rattle.leak_request.specs.declared.fault.UsageFault.{UsageFault}
use Rattle.leak_request.specs.declared.fault.UsageFault.TheVariants as fault

-- texts that are the values of the ids show that each id has a value
pub all_there : {A : Type 0} (rows : List Row) (ids : List Text) (texts : List (String A)) → AreAt rows ids texts → All (λ id. IsSome (first_of id rows)) ids
all_there rows [] texts at = All-nil (λ id. IsSome (first_of id rows))
all_there rows (id ∷ ids) [] at = cc
all_there rows (id ∷ ids) (text ∷ texts) at =
    let here : Some (string_bytes text) ≡ first_of id rows = cc in
    let more : AreAt rows ids texts = cc in
    All-cons (λ id. IsSome (first_of id rows)) id ids (subst IsSome here refl) (all_there rows ids texts more)

first_letter : (a b : List ℕ) → a ≡ b → slice_index_or a 0 0 ≡ slice_index_or b 0 0
first_letter a b same = ap (λ (name : List ℕ). slice_index_or name 0 0) same

unlike : (n m : ℕ) → n ≡ m → n < m → ⊥
unlike n m same less = absurd (omega arith)

-- the first letters of the subcommands differ
name_is_one : (two other : Bool) → name_of two ≡ name_of other → other ≡ two
name_is_one true true same = refl
name_is_one false false same = refl
name_is_one true false same = absurd (unlike 111 116 (sym (first_letter (codes "two") (codes "one") same)) (omega arith))
name_is_one false true same = absurd (unlike 111 116 (first_letter (codes "one") (codes "two") same) (omega arith))

pub none_lacks : {A : Type 0} (name : Text) (rows : List Row) (two : Bool) (paths : List (String A)) (n : Numbers) → name ≡ name_of two → AreAt rows (path_ids two) paths
    → IsBetween 1 64 n.workers → IsBetween 1 65536 n.piece → n.stack ≤ 65536 → AreNumbersAt rows n.workers n.piece n.stack → Lacks name rows → ⊥
none_lacks name rows two paths n named there workers piece stack at (inl none) = none two named
none_lacks name rows two paths n named there workers piece stack at (inr (inl lacks)) =
    let same : lacks.0 ≡ two = name_is_one two lacks.0 (sym named ∙ lacks.1) in
    lacks.2 (subst (λ b. All (λ id. IsSome (first_of id rows)) (path_ids b)) (sym same) (all_there rows (path_ids two) paths there))
none_lacks name rows two paths n named there workers piece stack at (inr (inr lacks)) = lacks n workers piece stack at

-- nor is anything lacking to ask for a block, if its address was read too
pub none_lacks_why : {A : Type 0} (rows : List Row) (paths : List (String A)) (word : List ℕ) → AreAt rows (path_ids false) paths
    → Some word ≡ first_of address_id rows → WhyLacks rows → ⊥
none_lacks_why rows paths word there some (inl lacks) = lacks (all_there rows (path_ids false) paths there)
none_lacks_why rows paths word there some (inr none) = let no : Some word ≡ None = some ∙ none in cc

-- nor to ask who holds the memory
pub none_lacks_holders : {A : Type 0} (rows : List Row) (paths : List (String A)) (n : Numbers) → AreAt rows (path_ids false) paths
    → IsBetween 1 64 n.workers → IsBetween 1 65536 n.piece → n.stack ≤ 65536 → AreNumbersAt rows n.workers n.piece n.stack → HoldersLacks rows → ⊥
none_lacks_holders rows paths n there workers piece stack at (inl lacks) = lacks (all_there rows (path_ids false) paths there)
none_lacks_holders rows paths n there workers piece stack at (inr lacks) = lacks n workers piece stack at

-- a question is refused if all is there and the list is taken
pub question_refused : (rows : List Row) (f : UsageFault) → (HoldersLacks rows → ⊥) → IsListTaken rows → IsQuestionFault rows f → IsHoldersRefusal rows f
question_refused rows (fault.Words text) whole taken refused = absurd refused
question_refused rows (fault.Displace f) whole taken refused = absurd refused
question_refused rows fault.Check whole taken refused = (whole, taken, refused)
question_refused rows fault.Sides whole taken refused = (whole, taken, refused)
question_refused rows fault.Block whole taken refused = (whole, taken, refused)
question_refused rows (fault.Address a) whole taken refused = (whole, taken, refused)
question_refused rows fault.NoMemory whole taken refused = absurd refused
