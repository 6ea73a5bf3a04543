-- From the lemmas of HeapLemmas.
use Rattle.std.proofs.Common.{true}
use Rattle.leak_examples.proofs.HeapLemmas.{all_fit}
use Rattle.leak_examples.proofs.heap.blocks_fit_if_in_use.Goals as goal

pub returns : goal.returns
returns c = λ word_at address top chunks heap. all_fit word_at address top true chunks heap.aligned heap.top_aligned heap.top_fits heap.each heap.bytes
