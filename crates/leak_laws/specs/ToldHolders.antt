-- What the report of who holds the memory tells, as its lines say it.
use Rattle.std.specs.Prelude.{◌≡◌, ℕ, Bool, List, [], ◌++◌, map, flat_map, codes, Option, None, Some, IfSome, option_map}
use Rattle.std.specs.List.{AllByRecursion}
use Rattle.leak_blocks.specs.declared.block.Block.{Block}
use Rattle.leak_report.specs.declared.head.Head.{Head}
use Rattle.leak_report.specs.Lines.{dead_lines, freed_lines, log_line, undumped_line}
use Rattle.leak_report.specs.Totals.{leaked_in, marked_in}
use Rattle.leak_report.specs.Numbered.{text_with}
use Rattle.leak_holders.specs.declared.holder.Holder.{Holder}
use Rattle.leak_holder_search.specs.Text.{holder_line, holders_text, start_of}
use Rattle.leak_laws.specs.Reports.{sum_of}
use Rattle.leak_laws.specs.Told.{Sum, sum_line}
use Rattle.leak_laws.specs.Readable.{IsNumber, IsSumRead, Lacks}

pub record ToldHolder : Type 0 where
  pub blocks : ℕ
  pub bytes : ℕ
  pub own : ℕ
  pub own_bytes : ℕ
  pub within : ℕ
  pub start : ℕ
  pub text : List ℕ

pub record ToldHolders : Type 0 where
  pub all : Sum
  pub undumped : ℕ
  pub unknown : ℕ
  pub displaced : ℕ
  pub torn : ℕ
  pub freed : Option ℕ
  pub dead : Option ℕ
  pub fresh : Option Sum
  pub marked : Sum
  pub leaked : Sum
  pub rows : List ToldHolder

abbrev pub holder_text : ToldHolder → List ℕ
holder_text h = holder_line (record { text = 0; blocks = h.blocks; bytes = h.bytes; own = h.own; own_bytes = h.own_bytes; within = h.within; block = 0 }) h.start h.text

-- the lines of the first numbers
abbrev pub head_told : ToldHolders → Head
head_told t = record { undumped = t.undumped; unknown = t.unknown; displaced = t.displaced; torn = t.torn; freed = t.freed; dead = t.dead; two = None }

abbrev pub fresh_lines : Option Sum → List ℕ
fresh_lines None = []
fresh_lines (Some s) = sum_line (codes "new") s

abbrev pub holders_told : ToldHolders → List ℕ
holders_told t =
    sum_line (codes "blocks") t.all ++ undumped_line (head_told t) ++ log_line (head_told t) ++ freed_lines t.freed ++ dead_lines t.dead
    ++ fresh_lines t.fresh
    ++ sum_line (codes "marked") t.marked ++ sum_line (codes "leaked") t.leaked ++ flat_map holder_text t.rows

abbrev pub told_holder : List Block → List (List ℕ) → Holder → ToldHolder
told_holder blocks texts row = record {
  blocks = row.blocks;
  bytes = row.bytes;
  own = row.own;
  own_bytes = row.own_bytes;
  within = row.within;
  start = start_of blocks row.block;
  text = text_with texts row.text;
}

abbrev pub holders_tell : Head → List Block → Option (List Bool) → List Bool → List (List ℕ) → List Holder → ToldHolders
holders_tell head blocks news set texts rows = record {
  all = sum_of blocks;
  undumped = head.undumped;
  unknown = head.unknown;
  displaced = head.displaced;
  torn = head.torn;
  freed = head.freed;
  dead = head.dead;
  fresh = option_map (λ counted. sum_of (marked_in counted blocks)) news;
  marked = sum_of (marked_in set blocks);
  leaked = sum_of (leaked_in set blocks);
  rows = map (told_holder blocks texts) rows;
}

pub record IsHolderRead (h : ToldHolder) : Type 0 where
  pub blocks : IsNumber h.blocks
  pub bytes : IsNumber h.bytes
  pub own : IsNumber h.own
  pub own_bytes : IsNumber h.own_bytes
  pub within : IsNumber h.within
  pub start : IsNumber h.start
  pub text : Lacks 10 h.text

pub record AreHoldersRead (t : ToldHolders) : Type 0 where
  pub all : IsSumRead t.all
  pub undumped : IsNumber t.undumped
  pub unknown : IsNumber t.unknown
  pub displaced : IsNumber t.displaced
  pub torn : IsNumber t.torn
  pub freed : IfSome t.freed IsNumber
  pub dead : IfSome t.dead IsNumber
  pub fresh : IfSome t.fresh IsSumRead
  pub marked : IsSumRead t.marked
  pub leaked : IsSumRead t.leaked
  pub rows : AllByRecursion IsHolderRead t.rows

abbrev pub HoldersAreTold : Type 0
HoldersAreTold = (head : Head) (blocks : List Block) (news : Option (List Bool)) (set : List Bool) (texts : List (List ℕ)) (rows : List Holder)
    → holders_text head blocks news set texts rows ≡ holders_told (holders_tell head blocks news set texts rows)

abbrev pub HoldersReadBack : Type 0
HoldersReadBack = (a b : ToldHolders) → AreHoldersRead a → AreHoldersRead b → holders_told a ≡ holders_told b → a ≡ b
