-- Each row is computed.
use Rattle.std.proofs.Common.{refl}
use Rattle.leak_index.specs.Hits.{hits_of}
use Rattle.leak_index.proofs.laws.worked_words.Goals as goal

pub returns : goal.returns
unfolding hits_of
returns c = record {
  words = record {
    before = refl;
    start = refl;
    inside = refl;
    both = refl;
    third = refl;
    third_inside = refl;
    third_end = refl;
    between = refl;
    last_end = refl;
    far = refl;
    by_before = refl;
    by_first = refl;
    by_inside = refl;
    by_start = refl;
    by_third_start = refl;
    by_third = refl;
    by_end = refl;
    by_between = refl;
    by_last_end = refl;
    by_far = refl;
  };
  inner = record {
    before = refl;
    start = refl;
    inside = refl;
    both = refl;
    third = refl;
    third_inside = refl;
    third_end = refl;
    between = refl;
    last_end = refl;
    far = refl;
    by_before = refl;
    by_first = refl;
    by_inside = refl;
    by_start = refl;
    by_third_start = refl;
    by_third = refl;
    by_end = refl;
    by_between = refl;
    by_last_end = refl;
    by_far = refl;
  };
  ends = record {
    end = (refl, refl);
    last = (refl, refl);
    neighbors = (refl, refl);
    empty = (refl, refl);
    past_empty = (refl, refl);
    listed = (refl, refl);
    listed_last = (refl, refl);
    unlisted = (refl, refl);
  };
}
