-- One more row, in which no block starts.
use Rattle.leak_index.proofs.Ranking.{empty, padded, pushed_last, pushed_length, pushed_other}
use Rattle.leak_index.proofs.ranks.Ranks.pad.Goals as goal

pub returns-clause-made : goal.returns-clause-made
returns-clause-made c =
    let rows = c.args.self.now.rows.items in
    rw c.in_ok-push.ensures.items
    (padded c.args.blocks.now c.args.first c.args.self.now.next c.args.self.now.numbers.items c.args.self.now.places.items rows _ (pushed_length rows (empty c.args.first)) (pushed_other rows (empty c.args.first)) (pushed_last rows (empty c.args.first)) c.requires.some c.requires.made)
