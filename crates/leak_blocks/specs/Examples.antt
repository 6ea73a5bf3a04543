-- Worked logs.
use Rattle.std.specs.Prelude.{◌≡◌, ℕ, List, [], ◌∷◌}
use Rattle.leak_mtrace.specs.declared.line.Kind.{Kind}
use Rattle.leak_mtrace.specs.declared.line.Kind.TheVariants.{Alloc, Free, MoveOut, MoveIn, Failed}
use Rattle.leak_mtrace.specs.declared.line.Line.{Line}
use Rattle.leak_blocks.specs.declared.block.Block.{Block}
use Rattle.leak_blocks.specs.Live.{Replay, replay_of}

abbrev pub line : Kind → ℕ → ℕ → Line
line kind addr size = record { kind = kind; addr = addr; size = size; caller = (0, 0) }

abbrev pub block : ℕ → ℕ → ℕ → Block
block start size number = record { start = start; size = size; line = number; caller = (0, 0) }

abbrev pub replay : List Block → ℕ → ℕ → Replay
replay blocks unknown displaced = record { blocks = blocks; unknown = unknown; displaced = displaced }

pub record AreWorkedLogs : Type 0 where
  pub side_by_side : replay_of (line Alloc 0x100 0x10 ∷ line Alloc 0x110 0x10 ∷ []) ≡ replay (block 0x100 16 1 ∷ block 0x110 16 2 ∷ []) 0 0
  pub empty_twice : replay_of (line Alloc 0x100 0 ∷ line Alloc 0x100 0 ∷ []) ≡ replay (block 0x100 0 2 ∷ []) 0 1
  pub over_both : replay_of (line Alloc 0x100 0x10 ∷ line Alloc 0x120 0x10 ∷ line Alloc 0x108 0x20 ∷ []) ≡ replay (block 0x108 32 3 ∷ []) 0 2
  pub freed_twice : replay_of (line Alloc 0x100 0x10 ∷ line Free 0x100 0 ∷ line Free 0x100 0 ∷ []) ≡ replay [] 1 0
  pub moved : replay_of (line Alloc 0x100 0x10 ∷ line MoveOut 0x100 0 ∷ line MoveIn 0x200 0x20 ∷ []) ≡ replay (block 0x200 32 3 ∷ []) 0 0
  pub failed : replay_of (line Alloc 0x100 0x10 ∷ line Failed 0x100 0x20 ∷ []) ≡ replay (block 0x100 16 1 ∷ []) 0 0
  pub displaced : replay_of (line Alloc 0x100 0x10 ∷ line Alloc 0x108 0x10 ∷ line Free 0x100 0 ∷ []) ≡ replay (block 0x108 16 2 ∷ []) 1 1
  pub by_address : replay_of (line Alloc 0x10100 0x20 ∷ line Alloc 0x10110 0x20 ∷ line Free 0x10300 0 ∷ line Free 0x10118 0 ∷ []) ≡ replay (block 0x10110 32 2 ∷ []) 2 1
