-- From the lemmas of HeapLemmas.
use Rattle.std.proofs.Common.{true}
use Rattle.leak_examples.proofs.HeapLemmas.{no_misfit}
use Rattle.leak_examples.proofs.heap.live_heaps_fit.Goals as goal

pub returns : goal.returns
returns c = λ word_at address top chunks heap. no_misfit word_at address top true chunks heap.aligned heap.top_aligned heap.top_fits heap.each heap.bytes
