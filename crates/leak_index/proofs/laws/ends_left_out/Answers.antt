-- The laws, from the lemmas on the list.
use Rattle.leak_index.specs.Hits.{hits_of}
use Rattle.leak_index.proofs.EndsLemmas.{fewer_hits, one_at_most}
use Rattle.leak_index.proofs.laws.ends_left_out.Goals as goal

pub returns : goal.returns
unfolding hits_of
returns c = record {
  one = λ listed blocks word apart. one_at_most 0 listed blocks word apart;
  fewer = λ listed blocks word block h. fewer_hits 0 listed blocks word block h;
}
