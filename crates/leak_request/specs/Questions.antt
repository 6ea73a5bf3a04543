-- What is asked about some blocks, by the rows that clap found. Own rule.
use Rattle.std.specs.Prelude.{◌≡◌, ◌↔◌, Bool, List, Option, Some, None, codes, IsSome, IsSomeAnd, IsTrue}
use Rattle.clap.specs.Words.{Row, Text, first_of}
use Rattle.leak_holders.specs.declared.question.Question.{Question}
use Rattle.leak_holders.specs.declared.question.Side.{Side}
use Rattle.leak_holders.specs.declared.question.Side.TheVariants as side
use Rattle.leak_request.specs.Address.{IsAddress, IsBadAddress}
use Rattle.leak_request.specs.FoundRows.{IsGiven}
use Rattle.leak_request.specs.declared.fault.AddressArgument.{AddressArgument}
use Rattle.leak_request.specs.declared.fault.AddressArgument.TheVariants as argument
use Rattle.leak_request.specs.declared.fault.UsageFault.{UsageFault}
use Rattle.leak_request.specs.declared.fault.UsageFault.TheVariants as fault

-- the option that asks for the side
abbrev pub side_id : Side → Text
side_id side.In = codes "in"
side_id side.Of = codes "of"

-- and the one that asks for the other
abbrev pub other_id : Side → Text
other_id side.In = codes "of"
other_id side.Of = codes "in"

-- the side alone is asked for, with the address, and the flag says whether one block is meant
pub record Asks (rows : List Row) (q : Question) : Type 0 where
  pub address : IsSomeAnd (first_of (side_id q.side) rows) (λ text. IsAddress text q.address)
  pub other : first_of (other_id q.side) rows ≡ None
  pub alone : IsTrue q.alone ↔ IsGiven rows (codes "block")

-- neither side is asked for
pub record AsksNoSide (rows : List Row) : Type 0 where
  pub held : first_of (side_id side.In) rows ≡ None
  pub holding : first_of (side_id side.Of) rows ≡ None

-- both sides are asked for
pub record AsksBothSides (rows : List Row) : Type 0 where
  pub held : IsSome (first_of (side_id side.In) rows)
  pub holding : IsSome (first_of (side_id side.Of) rows)

-- one side alone is asked for, with a text that is no address
pub record AsksBadAddress (rows : List Row) (s : Side) : Type 0 where
  pub address : IsSomeAnd (first_of (side_id s) rows) IsBadAddress
  pub other : first_of (other_id s) rows ≡ None

-- the question, or none if no side is asked for and no one block is meant
abbrev pub IsQuestionAt : List Row → Option Question → Type 0
IsQuestionAt rows None = AsksNoSide rows × (IsGiven rows (codes "block") → ⊥)
IsQuestionAt rows (Some q) = Asks rows q

-- the question by the text of its address
pub record IsAskedBy (text : Text) (s : Side) (one : Bool) (q : Question) : Type 0 where
  pub address : IsAddress text q.address
  pub side : q.side ≡ s
  pub alone : q.alone ≡ one

-- where the address of the side stands
abbrev pub argument_of : Side → AddressArgument
argument_of side.In = argument.In
argument_of side.Of = argument.Of

-- the text is no address, and that is the refusal, with the side's option
abbrev pub IsBadFor : Text → Side → UsageFault → Type 0
IsBadFor text s f = (f ≡ fault.Address (argument_of s)) × IsBadAddress text

-- Why there is neither a question nor none. No two of these hold of the same rows.
abbrev pub IsQuestionFault : List Row → UsageFault → Type 0
IsQuestionFault rows fault.Sides = AsksBothSides rows
IsQuestionFault rows fault.Block = AsksNoSide rows × IsGiven rows (codes "block")
IsQuestionFault rows (fault.Address a) = (s : Side) × (a ≡ argument_of s) × AsksBadAddress rows s
IsQuestionFault rows (fault.Words text) = ⊥
IsQuestionFault rows (fault.Displace f) = ⊥
IsQuestionFault rows fault.Check = ⊥
IsQuestionFault rows fault.NoMemory = ⊥
