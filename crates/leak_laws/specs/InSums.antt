-- What the lines of the blocks that chosen blocks hold add up to.
use Rattle.std.specs.Prelude.{◌≡◌, ℕ, List, sum_by, Option, IfSome}
use Rattle.leak_index.specs.Leads.{Distances}
use Rattle.leak_roots.specs.declared.skip.Skip.{Skip}
use Rattle.leak_holders.specs.declared.question.Question.{Question}
use Rattle.leak_holders.specs.declared.question.Side.TheVariants.{In}
use Rattle.leak_holder_search.specs.declared.search.Holding.{Holding}
use Rattle.leak_holder_search.specs.Held.{FindsHeld}
use Rattle.leak_laws.specs.HeldOneLine.{told_by_answer}
use Rattle.leak_laws.specs.ToldAnswers.{ToldRows}

-- the lines' blocks and bytes have the sums of the held blocks
pub record AddUpTo (r : ToldRows) : Type 0 where
  pub blocks : sum_by (λ p. p.blocks) r.parts ≡ r.sum.blocks
  pub bytes : sum_by (λ p. p.bytes) r.parts ≡ r.sum.bytes

abbrev pub InLinesAddUp : Type 0
InLinesAddUp = (core log : List ℕ) (since : Option (List ℕ)) (reading : Distances) (skip : Skip) (question : Question) (found : Holding)
    → (f : FindsHeld core log since reading skip question found) → question.side ≡ In → IfSome (told_by_answer f).rows AddUpTo
