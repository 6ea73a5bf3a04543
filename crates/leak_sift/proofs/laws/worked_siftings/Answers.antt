-- Each row is computed; segments are orderly one by one.
use Rattle.std.proofs.Common.{◌≡◌, [], ◌∷◌, List, refl, lit<, lit≤, arith}
use Rattle.leak_elf.specs.declared.segment.Segment.{Segment}
use Rattle.leak_elf.specs.Fields.{number_at}
use Rattle.leak_sift.specs.Places.{AreOrderly, place_of}
use Rattle.leak_sift.specs.Sifted.{by_words}
use Rattle.leak_sift.specs.SiftedRows.{segment, two_segments}
use Rattle.leak_sift.proofs.OrderLemmas.{all_orderly, orderly_more, orderly_none, orderly_same}
use Rattle.leak_sift.proofs.laws.worked_siftings.Goals as goal

pub returns-clause-offsets : goal.returns-clause-offsets
unfolding place_of
returns-clause-offsets c = record { before = refl; first = refl; last = refl; between = refl; second = refl; past = refl }

pub returns-clause-words : goal.returns-clause-words
unfolding place_of by_words number_at
returns-clause-words c = record {
  none = refl;
  pointer = refl;
  elsewhere = refl;
  size = refl;
  across = refl;
  seven_bytes = refl;
  seven_more = refl;
}

pub returns-clause-states : goal.returns-clause-states
unfolding place_of by_words number_at
returns-clause-states c = record {
  nine = record { words = refl; waiting = refl };
  none_waits = λ had. let no : [] ≡ 0x18 ∷ [] = had.waiting in cc;
  word_is_missing = λ had. let no : [] ≡ 0x10018 ∷ [] = had.words in cc;
}

-- each segment that has bytes in the file begins past the end of the last
two : AreOrderly two_segments
two = all_orderly two_segments 2 0x1028 0x10 (orderly_more two_segments 1 0x1000 0x18 (orderly_more two_segments 0 0 0 (orderly_none two_segments) (lit< tt) (lit≤ tt)) (lit< tt) (lit≤ tt)) (lit≤ tt)

abbrev touching : List Segment
touching = segment 0x10000 0x1000 0x18 ∷ segment 0x20000 0x1018 0x10 ∷ []

touch : AreOrderly touching
touch = all_orderly touching 2 0x1018 0x10 (orderly_more touching 1 0x1000 0x18 (orderly_more touching 0 0 0 (orderly_none touching) (lit< tt) (lit≤ tt)) (lit< tt) (lit≤ tt)) (lit≤ tt)

abbrev three : List Segment
three = segment 0x10000 0x1000 0x18 ∷ segment 0x20000 0 0 ∷ segment 0x30000 0x1018 0x10 ∷ []

empty : AreOrderly three
empty = all_orderly three 3 0x1018 0x10
    (orderly_more three 2 0x1000 0x18 (orderly_same three 1 0x1000 0x18 (orderly_more three 0 0 0 (orderly_none three) (lit< tt) (lit≤ tt)) refl) (lit< tt) (lit≤ tt)) (lit≤ tt)

pub returns-clause-orders : goal.returns-clause-orders
returns-clause-orders c = record {
  two = two;
  exchanged = λ all. let no = all.apart 0 1 (omega arith) (omega arith) (omega arith) (omega arith) in omega (arith, no);
  shared = λ all. let no = all.apart 0 1 (omega arith) (omega arith) (omega arith) (omega arith) in omega (arith, no);
  touching = touch;
  empty = empty;
}
