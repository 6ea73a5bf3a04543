-- From the lemmas of ByteLemmas.
use Rattle.leak_lemmas.proofs.Bytes.{are_bytes}
use Rattle.leak_later.proofs.ByteLemmas.{words_same, word_differs}
use Rattle.leak_later.proofs.comparing.runs_differ.Goals as goal

pub returns-clause-differ : goal.returns-clause-differ
returns-clause-differ c = word_differs c.args.before.now c.args.now.now c.ne.result (are_bytes c.args.before.now c.type_inv.before) (are_bytes c.args.now.now c.type_inv.now) c.requires.before c.requires.now c.ne.ensures

pub returns-clause-same : goal.returns-clause-same
returns-clause-same c = words_same c.args.before.now c.args.now.now c.ne.result (are_bytes c.args.before.now c.type_inv.before) (are_bytes c.args.now.now c.type_inv.now) c.requires.before c.requires.now c.ne.ensures
