-- The bit of the block's granule is set in the last row.
use Rattle.std.proofs.Common.{◌≡◌, ◌∙◌, length, arith}
use Rattle.leak_index.proofs.Ranking.{bit_set, empty, last_read, last_row}
use Rattle.leak_index.proofs.ranks.Ranks.add.Goals as goal

pub overflow_sub-last : goal.overflow_sub-last
overflow_sub-last c =
    let rows = c.reach.new.self.rows.items in
    let count : c.len-last.result ≡ length rows = c.len-last.ensures ∙ c.reach.new.self.rows.ok.0 in
    let made = c.in_ok-reach.ensures in
    omega (arith, count, (last_row c.args.blocks.now c.args.number c.reach.new.self.next c.reach.new.self.numbers.items c.reach.new.self.places.items rows (empty 0) (omega (arith, made.1)) made.0).0)

pub index_mut-row-requires : goal.index_mut-row-requires
index_mut-row-requires c =
    let rows = c.reach.new.self.rows.items in
    let count : c.len-last.result ≡ length rows = c.len-last.ensures ∙ c.reach.new.self.rows.ok.0 in
    let made = c.in_ok-reach.ensures in
    omega (arith, count, c.len-last.ensures, (last_row c.args.blocks.now c.args.number c.reach.new.self.next c.reach.new.self.numbers.items c.reach.new.self.places.items rows (empty 0) (omega (arith, made.1)) made.0).0)

pub with-requires-clause-row : goal.with-requires-clause-row
with-requires-clause-row c =
    let rows = c.reach.new.self.rows.items in
    let count : c.len-last.result ≡ length rows = c.len-last.ensures ∙ c.reach.new.self.rows.ok.0 in
    let made = c.in_ok-reach.ensures in
    last_read c.args.blocks.now c.args.number c.reach.new.self.next c.reach.new.self.numbers.items c.reach.new.self.places.items rows c.len-last.result c.index_mut-row.result.now made.1 count c.index_mut-row.ensures.value made.0

pub returns : goal.returns
returns c =
    let rows = c.reach.new.self.rows.items in
    let count : c.len-last.result ≡ length rows = c.len-last.ensures ∙ c.reach.new.self.rows.ok.0 in
    let made = c.in_ok-reach.ensures in
    (bit_set c.args.blocks.now c.args.number c.reach.new.self.next c.reach.new.self.numbers.items c.reach.new.self.places.items rows c.len-last.result c.with.result made.1 count c.with.ensures made.0, made.1)
