-- From the lemmas of FindLemmas.
use Rattle.std.proofs.Common.{ℕ, List, arith}
use denote.Ref.{Bor}
use Rattle.std.proofs.lemmas.List.{length-map}
use Rattle.leak_holder_search.proofs.FindLemmas.{numbers_are}
use Rattle.leak_holder_search.proofs.analysis.count_texts.Goals as goal

pub overflow_cast-result : goal.overflow_cast-result
overflow_cast-result c =
    omega (arith, c.len.ensures, length-map c.args.analysis.now.texts.texts.items (λ (t : Bor (List ℕ)). t.now), (numbers_are c.args.analysis.now c.requires).few)

pub returns : goal.returns
returns c = omega (arith, c.len.ensures, length-map c.args.analysis.now.texts.texts.items (λ (t : Bor (List ℕ)). t.now))
