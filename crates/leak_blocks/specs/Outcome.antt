-- What the bytes of a log come to.
use Rattle.std.specs.Prelude.{◌≡◌, ℕ, List}
use Rattle.leak_mtrace.specs.declared.line.Line.{Line}
use Rattle.leak_mtrace.specs.Log.{IsLog, CallersAreIn, torn_of, whole_len_of}
use Rattle.leak_blocks.specs.declared.replaying.Replayed.{Replayed}
use Rattle.leak_blocks.specs.declared.small.Span.{Span}
use Rattle.leak_blocks.specs.Live.{replay_of}
use Rattle.leak_blocks.specs.Small.{small_spans_of, CoverSameOutside}

-- the bytes have these lines, and come to their live blocks and to what follows the last line feed
pub record ComesTo (bytes : List ℕ) (lines : List Line) (replayed : Replayed) : Type 0 where
  pub is_log : IsLog bytes lines
  pub callers : CallersAreIn bytes lines
  pub live : replayed.live ≡ replay_of lines
  pub torn : replayed.torn ≡ torn_of bytes
  pub whole_len : replayed.whole_len ≡ whole_len_of bytes

abbrev pub IsReplayOf : List ℕ → Replayed → Type 0
IsReplayOf bytes replayed = (lines : List Line) × ComesTo bytes lines replayed

-- with the addresses of the lines' small allocations, as far as they are outside the live blocks
abbrev pub IsSpannedReplayOf : List ℕ → Replayed × List Span → Type 0
IsSpannedReplayOf bytes read =
    (lines : List Line) × ComesTo bytes lines read.0 × CoverSameOutside read.0.live.blocks read.1 (small_spans_of lines)
