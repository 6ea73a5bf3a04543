-- A core that was read whole is held whole.
use Rattle.std.proofs.Common.{inl, refl}
use Rattle.leak_passing.proofs.keeping.keep_core.Goals as goal

pub returns-in-Whole-clause-ok : goal.returns-in-Whole-clause-ok
returns-in-Whole-clause-ok g c = λ first is. record {
  core = c.in-Whole.bytes.items;
  whole = rw c.in-Whole.is at is;
  kept = inl (record { whole = refl; words_are = c.new.ensures; len_is = refl });
}

pub sift_by_log-requires : goal.sift_by_log-requires
sift_by_log-requires g c = (c.type_bounds.sync-T, (c.requires.0, rw c.in-Head.is at c.requires.1))

pub returns-in-Head-clause-ok : goal.returns-in-Head-clause-ok
returns-in-Head-clause-ok g c = rw c.in-Head.is c.sift_by_log.ensures.ok

pub returns-in-Head-clause-refused : goal.returns-in-Head-clause-refused
returns-in-Head-clause-refused g c = rw c.in-Head.is c.sift_by_log.ensures.refused
