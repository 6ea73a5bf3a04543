-- What an answer about chosen blocks tells, as its lines say it.
use Rattle.std.specs.Prelude.{◌≡◌, ◌<◌, ℕ, Bool, List, ◌++◌, length, map, flat_map, codes, Option, None, Some, IfSome, slice_index_or, if◌then◌else◌}
use Rattle.std.specs.List.{AllByRecursion, list_any}
use Rattle.leak_blocks.specs.declared.block.Block.{Block}
use Rattle.leak_report.specs.Lines.{newline}
use Rattle.leak_report.specs.Totals.{marked_in, text_at}
use Rattle.leak_report.specs.Numbered.{text_with}
use Rattle.leak_holders.specs.declared.caller_share.CallerShare.{CallerShare}
use Rattle.leak_holders.specs.declared.question.Side.{Side}
use Rattle.leak_why.specs.Text.{block_front}
use Rattle.leak_holder_search.specs.Held.{held_text, part_front}
use Rattle.leak_laws.specs.Reports.{sum_of}
use Rattle.leak_laws.specs.Told.{Sum, sum_line}
use Rattle.leak_laws.specs.Readable.{IsNumber, IsSumRead, Lacks}

-- a block
pub record ToldEntry : Type 0 where
  pub start : ℕ
  pub size : ℕ
  pub line : ℕ
  pub text : List ℕ

-- the blocks of a text
pub record ToldPart : Type 0 where
  pub blocks : ℕ
  pub bytes : ℕ
  pub text : List ℕ

-- what is held, or who holds it
pub record ToldRows : Type 0 where
  pub sum : Sum
  pub parts : List ToldPart

-- the block that was asked for; the rows are missing if no chosen block is reached
pub record ToldAnswer : Type 0 where
  pub asked : ToldEntry
  pub rows : Option ToldRows

abbrev pub entry_text : List ℕ → ToldEntry → List ℕ
entry_text name e = block_front name (record { start = e.start; size = e.size; line = e.line; caller = (0, 0) }) ++ (e.text ++ newline)

abbrev pub part_text : Side → ToldPart → List ℕ
part_text side p = part_front side (record { text = 0; blocks = p.blocks; bytes = p.bytes }) ++ p.text ++ newline

abbrev pub rows_text : Side → Option ToldRows → List ℕ
rows_text side None = codes "leaked\n"
rows_text side (Some rows) = sum_line (codes "held") rows.sum ++ flat_map (part_text side) rows.parts

abbrev pub answer_told : Side → ToldAnswer → List ℕ
answer_told side t = entry_text (codes "asked") t.asked ++ rows_text side t.rows

abbrev pub told_entry : List ℕ → Block → ToldEntry
told_entry log b = record { start = b.start; size = b.size; line = b.line; text = text_at log b.caller }

abbrev pub told_part : List (List ℕ) → CallerShare → ToldPart
told_part texts p = record { blocks = p.blocks; bytes = p.bytes; text = text_with texts p.text }

abbrev pub told_rows : List Block → List Bool → List Bool → List (List ℕ) → List CallerShare → Option ToldRows
told_rows blocks own told texts parts =
    if list_any (λ x. x) own then Some (record { sum = sum_of (marked_in told blocks); parts = map (told_part texts) parts }) else None

abbrev pub answer_tells : List ℕ → List Block → ℕ → List Bool → List Bool → List (List ℕ) → List CallerShare → ToldAnswer
answer_tells log blocks block own told texts parts = record {
  asked = told_entry log (slice_index_or blocks block (record { start = 0; size = 0; line = 0; caller = (0, 0) }));
  rows = told_rows blocks own told texts parts;
}

pub record IsEntryRead (e : ToldEntry) : Type 0 where
  pub start : IsNumber e.start
  pub size : IsNumber e.size
  pub line : IsNumber e.line
  pub text : Lacks 10 e.text

pub record IsPartRead (p : ToldPart) : Type 0 where
  pub blocks : IsNumber p.blocks
  pub bytes : IsNumber p.bytes
  pub text : Lacks 10 p.text

pub record AreRowsRead (r : ToldRows) : Type 0 where
  pub sum : IsSumRead r.sum
  pub parts : AllByRecursion IsPartRead r.parts

pub record IsAnswerRead (t : ToldAnswer) : Type 0 where
  pub asked : IsEntryRead t.asked
  pub rows : IfSome t.rows AreRowsRead

abbrev pub AnswersAreTold : Type 0
AnswersAreTold = (log : List ℕ) (blocks : List Block) (block : ℕ) (side : Side) (own told : List Bool) (texts : List (List ℕ)) (parts : List CallerShare) → block < length blocks
    → held_text log blocks block side own told texts parts ≡ answer_told side (answer_tells log blocks block own told texts parts)

abbrev pub AnswersReadBack : Type 0
AnswersReadBack = (side : Side) (a b : ToldAnswer) → IsAnswerRead a → IsAnswerRead b → answer_told side a ≡ answer_told side b → a ≡ b
