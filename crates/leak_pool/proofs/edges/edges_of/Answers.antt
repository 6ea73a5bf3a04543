use Rattle.std.proofs.Common.{◌≡◌, ◌≤◌, length, rules}
use Rattle.std.specs.Int.{div_ceil}
use Rattle.std.specs.List.{All}
use Rattle.leak_pool.specs.Edges.{row_size, share_of}
use Rattle.leak_pool.proofs.RowLemmas.{room_kept}
use Rattle.leak_pool.proofs.edges.edges_of.Goals as goal

pub returns-clause-room : goal.returns-clause-room
returns-clause-room g c =
    let blocks = length c.args.scope.now.blocks.now in
    let size : c.row_size-size.result ≡ row_size blocks c.args.workers = search (c.row_size-size.ensures, rules) in
    let count : length c.in-Some.rows.items ≡ div_ceil blocks (row_size blocks c.args.workers) = rw (← size) (search (c.in_ok-rows.ensures.count, rules)) in
    let each : All (λ row. length row.targets.items ≤ share_of c.args.room c.args.workers) c.in-Some.rows.items = rw (← c.share_of-share.ensures) (search (c.in_ok-rows.ensures.room, rules)) in
    room_kept blocks c.args.workers c.args.room c.in-Some.rows.items c.requires count each
