-- The row counts up to the granule of the address, and a bit that is set there is a start.
use Rattle.leak_index.proofs.Ranked.{row_count, row_start}
use Rattle.leak_index.proofs.ranks.Row.place.Goals as goal

pub overflow_sub-result : goal.overflow_sub-result
overflow_sub-result c =
    (row_start c.args.blocks.now c.args.address c.ones_below.result c.args.self.now c.requires.aligned c.requires.row c.if-self.true c.if-address-eq0.true c.if-self-granule-eq1.true c.ones_below.ensures).0

pub returns-then-self-granule-eq1 : goal.returns-then-self-granule-eq1
returns-then-self-granule-eq1 c =
    (row_start c.args.blocks.now c.args.address c.ones_below.result c.args.self.now c.requires.aligned c.requires.row c.if-self.true c.if-address-eq0.true c.if-self-granule-eq1.true c.ones_below.ensures).1

pub returns : goal.returns
returns c = row_count c.args.blocks.now c.args.address c.ones_below.result c.args.self.now c.requires.aligned c.requires.row c.ones_below.ensures
