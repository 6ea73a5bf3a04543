-- From the lemmas of InputLemmas.
use Rattle.leak_search.specs.LeftOut.{left_out}
use Rattle.leak_search.proofs.InputLemmas.{roots_found, threads_read}
use Rattle.leak_search.proofs.inputs.find_roots.Goals as goal

pub returns : goal.returns
returns c = λ lines read.
    let left = left_out c.args.input.now.skip c.args.input.now.image c.args.input.now.live.blocks lines in
    roots_found lines c.args.input.now c.in_ok-kept.kept _
    (c.in_ok-kept.ensures left
    (c.in_ok-roots-2.ensures left (c.in_ok-roots.ensures.of_core left.freed read.read.heap_spans (threads_read _ _ _ (lines, read.read)))))
    c.skip_links.ensures
