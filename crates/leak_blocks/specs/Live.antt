-- The live blocks of a log (own rules). Each line is looked at with the lines before it and those after it.
use Rattle.std.specs.Prelude.{ℕ, ◌+◌, max, Bool, true, false, not, ◌&&◌, ◌||◌, List, [], ◌∷◌, ◌++◌, length, ◌==◌, nat_lt, if◌then◌else◌, Option, Some, None, filter_map, find, count_by}
use Rattle.std.specs.List.{list_any}
use Rattle.std.specs.Option.{option_map_or}
use Rattle.leak_mtrace.specs.declared.line.Kind.{Kind}
use Rattle.leak_mtrace.specs.declared.line.Kind.TheVariants.{Alloc, Free, MoveOut, MoveIn, Failed, Remark}
use Rattle.leak_mtrace.specs.declared.line.Line.{Line}
use Rattle.leak_blocks.specs.declared.block.Block.{Block}

abbrev pub allocates : Kind → Bool
allocates Alloc = true
allocates MoveIn = true
allocates Free = false
allocates MoveOut = false
allocates Failed = false
allocates Remark = false

abbrev pub gives_back : Kind → Bool
gives_back Free = true
gives_back MoveOut = true
gives_back Alloc = false
gives_back MoveIn = false
gives_back Failed = false
gives_back Remark = false

-- lines with address 0 change nothing
abbrev pub is_allocation : Line → Bool
is_allocation x = allocates x.kind && not (x.addr == 0)

abbrev pub is_give_back : Line → Bool
is_give_back x = gives_back x.kind && not (x.addr == 0)

-- the spans [addr, addr + max(size, 1)) have an address in common
abbrev pub overlap : Line → Line → Bool
overlap j k = nat_lt j.addr (k.addr + max k.size 1) && nat_lt k.addr (j.addr + max j.size 1)

-- the later line j ends the allocation k
abbrev pub ends : Line → Line → Bool
ends k j = (is_give_back j && (j.addr == k.addr)) || (is_allocation j && overlap j k)

-- a line of the log, with the lines before it and those after it
pub record Moment : Type 0 where
  pub before : List Line
  pub line : Line
  pub after : List Line

abbrev pub moments_after : List Line → List Line → List Moment
moments_after before [] = []
moments_after before (x ∷ after) = record { before = before; line = x; after = after } ∷ moments_after (before ++ x ∷ []) after

abbrev pub moments : List Line → List Moment
moments lines = moments_after [] lines

-- the block of an allocation with this line number
abbrev pub block_of : ℕ → Line → Block
block_of number x = record { start = x.addr; size = x.size; line = number; caller = x.caller }

-- the block of an allocation that no later line ends
abbrev pub live_block : Moment → Option Block
live_block m = if is_allocation m.line && not (list_any (ends m.line) m.after) then Some (block_of (length m.before + 1) m.line) else None

-- by ascending start
abbrev pub among : Block → List Block → List Block
among b [] = b ∷ []
among b (c ∷ cs) = if nat_lt b.start c.start then b ∷ c ∷ cs else c ∷ among b cs

abbrev pub ascending : List Block → List Block
ascending [] = []
ascending (b ∷ bs) = among b (ascending bs)

unfoldable pub live_of : List Line → List Block
live_of lines = ascending (filter_map live_block (moments lines))

-- an allocation whose first ending line is an allocation
abbrev pub is_displaced : Moment → Bool
is_displaced m = is_allocation m.line && option_map_or is_allocation (find (ends m.line) m.after) false

-- a give-back whose address is that of no block live just before it
abbrev pub is_unknown : Moment → Bool
is_unknown m = is_give_back m.line && not (list_any (λ b. b.start == m.line.addr) (live_of m.before))

-- the live blocks of a log, the give-backs that met none, and the allocations that an allocation ended
pub record Replay : Type 0 where
  pub blocks : List Block
  pub unknown : ℕ
  pub displaced : ℕ

unfoldable pub replay_of : List Line → Replay
replay_of lines = record {
  blocks = live_of lines;
  unknown = count_by is_unknown (moments lines);
  displaced = count_by is_displaced (moments lines);
}
