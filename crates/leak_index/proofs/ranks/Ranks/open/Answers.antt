-- A run begins, with a row in which no block starts.
use Rattle.std.proofs.Common.{◌≡◌, refl, ◌∙◌, length}
use Rattle.leak_index.proofs.Ranking.{empty, opened, pushed_last, pushed_length, pushed_other}
use Rattle.leak_index.proofs.ranks.Ranks.open.Goals as goal

pub returns : goal.returns
returns c =
    let numbers = c.args.self.now.numbers.items in
    let places = c.args.self.now.places.items in
    let rows = c.args.self.now.rows.items in
    let count : c.len.result ≡ length rows = c.len.ensures ∙ c.args.self.now.rows.ok.0 in
    rw (c.in_ok-push.ensures.items, c.in_ok-push-2.ensures.items, c.in_ok-push-3.ensures.items, count)
    (opened c.args.blocks.now c.args.first c.args.self.now.next c.args.row numbers places rows _ (pushed_length rows (empty c.args.first)) (pushed_other rows (empty c.args.first)) (pushed_last rows (empty c.args.first)) c.requires.rest c.requires.made, refl)
