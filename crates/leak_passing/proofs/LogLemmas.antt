-- The empty log.
use Rattle.std.proofs.Common.{◌≡◌, ◌∙◌, List, [], ◌∷◌, refl, ap}
use Rattle.leak_mtrace.specs.declared.line.Line.{Line}
use Rattle.leak_mtrace.specs.Log.{IsLog}
use Rattle.leak_blocks.specs.declared.replaying.Replayed.{Replayed}
use Rattle.leak_blocks.specs.Live.{Replay, live_of, replay_of}
use Rattle.leak_blocks.specs.Outcome.{IsReplayOf}

-- it has no lines,
no_lines : (lines : List Line) → IsLog [] lines → lines ≡ []
unfolding IsLog
no_lines [] is = refl
no_lines (x ∷ xs) is = absurd is

-- and so no live block
pub no_blocks : (replayed : Replayed) → IsReplayOf [] replayed → replayed.live.blocks ≡ []
unfolding live_of replay_of
no_blocks replayed is =
    ap (λ (it : Replay). it.blocks) is.1.live ∙ ap (λ (lines : List Line). (replay_of lines).blocks) (no_lines is.0 is.1.is_log)
