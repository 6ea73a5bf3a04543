-- Each row is computed.
use Rattle.std.proofs.Common.{◌≡◌, refl, [], ◌∷◌, codes, None}
use Rattle.std.specs.Fmt.{digits}
use Rattle.leak_notes.specs.declared.sets.RegisterSet.TheVariants.{Status}
use Rattle.leak_why.specs.Text.{text_of}
use Rattle.leak_examples.specs.Chains.{two_blocks}
use Rattle.leak_examples.proofs.ChainTests.{told}
use Rattle.leak_examples.proofs.why.worked_answers.Goals as goal

leaked_text : text_of [] two_blocks (Status ∷ []) 1 None ≡ codes "asked 0x10200 16 2 ?\nleaked\n"
unfolding digits text_of
leaked_text = refl

pub returns : goal.returns
unfolding digits
returns c = record { by_memory = told _ _ _ _ _ _ _ refl; by_a_register = told _ _ _ _ _ _ _ refl; by_a_block = told _ _ _ _ _ _ _ refl; leaked = leaked_text }
