-- What runs come to by the bytes of their streams, if the streams tell them.
use Rattle.std.proofs.Common.{ℕ, List, Option}
use Rattle.leak_streams.proofs.Consumed.{tells as tells_left}
use Rattle.leak_streams.proofs.Appended.{tells as tells_held}
use Rattle.leak_find.specs.Streams.{by_bytes_held, by_bytes_left, by_reads, by_writes}
use Rattle.leak_find.specs.Laws.{RunsTell}
use Rattle.leak_find.proofs.ViewLemmas.{sees_left, shows_held}
use Rattle.leak_find.proofs.RunViews.{refused, runs}

pub runs_tell : {R W V : Type 0} (left : R → Option (List ℕ)) (held : W → Option (List ℕ)) (heard : V → Option (List ℕ))
    → RunsTell (by_reads (tells_left left)) left (by_writes (tells_held held)) held (by_writes (tells_held heard)) heard
runs_tell left held heard = record {
  runs = λ task before after w z v u status. runs left (by_reads (tells_left left)) by_bytes_left (sees_left left)
      held (by_writes (tells_held held)) by_bytes_held (shows_held held) heard (by_writes (tells_held heard)) by_bytes_held (shows_held heard)
      task before after w z v u status;
  refused = λ task before after w z e. refused left (by_reads (tells_left left)) by_bytes_left (sees_left left)
      held (by_writes (tells_held held)) by_bytes_held (shows_held held) task before after w z e;
}
