-- From what the calls promise.
use Rattle.leak_why.proofs.spreading.spread.Goals as goal

pub returns : goal.returns
returns g c = record {
  followed = c.in_ok-find_others.ensures.done c.args.roots.now c.in_ok-find_first.ensures.done;
  once = c.find_others.ensures.marks.once;
}
