-- What is collected of an iterator is what it has left.
use Rattle.std.proofs.Common.{ℕ, Ok, refl, rules}
use Rattle.std.proofs.lemmas.Iterator.{items_from_collect}
use Rattle.std.proofs.lemmas.Iterator.Adapters.{YieldsList-from_vec}
use Rattle.std.specs.Vec.Iter.{into_iter_items}
use Rattle.leak_program.proofs.starting.words_of.Goals as goal

pub returns-in_ok-collect-in-Ok-clause-ok : goal.returns-in_ok-collect-in-Ok-clause-ok
returns-in_ok-collect-in-Ok-clause-ok c =
    let args = c.in-Ok.args in
    rw c.in-Ok.is (items_from_collect {E = ℕ} (Ok c.in_ok-collect-in-Ok.field-0) c.in_ok-collect-in-Ok.ensures.ran (YieldsList-from_vec (into_iter_items args) refl (search rules)))
