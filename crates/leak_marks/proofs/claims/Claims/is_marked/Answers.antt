-- From the lemmas of ClaimLemmas.
use Rattle.std.proofs.Common.{ℕ, List, map, Vec, Global}
use Rattle.leak_marks.proofs.ClaimLemmas.{mark_says}
use Rattle.leak_marks.proofs.claims.Claims.is_marked.Goals as goal

abbrev items : Vec ℕ Global → List ℕ
items v = v.items

pub returns : goal.returns
returns c = mark_says c.args.self.now c.self.inside.marked.items (map items c.self.inside.lists.items) c.args.block c.index.result.now c.self.view_is c.requires c.index.ensures c.self.invariant.1
