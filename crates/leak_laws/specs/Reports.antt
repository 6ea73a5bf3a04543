-- What the reports of searches tell, and how their lines belong together.
use Rattle.std.specs.Prelude.{◌≡◌, ℕ, Bool, true, false, List, [], length, map, Option, None, Some}
use Rattle.leak_elf.specs.Words.{word_of}
use Rattle.leak_blocks.specs.declared.block.Block.{Block}
use Rattle.leak_blocks.specs.Live.{live_of}
use Rattle.leak_index.specs.Leads.{Distances}
use Rattle.leak_roots.specs.declared.skip.Skip.{Skip}
use Rattle.leak_scan.specs.Heads.{heads_of}
use Rattle.leak_report.specs.declared.head.Head.{Head}
use Rattle.leak_report.specs.declared.totals.CallerRow.{CallerRow}
use Rattle.leak_report.specs.Misfits.{misfits_in}
use Rattle.leak_report.specs.Report.{text_of}
use Rattle.leak_report.specs.declared.leaked.Leak.{Leak}
use Rattle.leak_report.specs.Totals.{bytes_of, heads_in, leaked_in, leaks_in, marked_in, rows_of, text_at}
use Rattle.leak_search.specs.declared.found.Found.{Found}
use Rattle.leak_search.specs.Signs.{fits_told}
use Rattle.leak_search.specs.Search.{FindsOne, head_of_one, index_of}
use Rattle.leak_search.specs.SearchTwo.{FindsTwo, head_of_two, kept_blocks, new_blocks, numbers_of_two}
use Rattle.leak_laws.specs.Together.{BelongTogether}
use Rattle.leak_laws.specs.Told.{Sum, Told, ToldCaller, ToldLeak, ToldMisfit, told_text}

abbrev pub sum_of : List Block → Sum
sum_of blocks = record { blocks = length blocks; bytes = bytes_of blocks }

abbrev pub told_caller : List ℕ → CallerRow → ToldCaller
told_caller log row = record { blocks = row.blocks; bytes = row.bytes; heads = row.heads; text = text_at log row.caller }

abbrev pub told_leak : List ℕ → Leak → ToldLeak
told_leak log l = record { start = l.block.start; size = l.block.size; line = l.block.line; head = l.head; text = text_at log l.block.caller }

abbrev pub told_misfit : List ℕ → Block → ToldMisfit
told_misfit log b = record { start = b.start; size = b.size; line = b.line; text = text_at log b.caller }

-- the misfits, if they are told
abbrev pub misfits_told : Option (List Bool) → List Block → Option ℕ
misfits_told None blocks = None
misfits_told (Some fits) blocks = Some (length (misfits_in fits blocks))

abbrev pub misfit_rows_told : List ℕ → Option (List Bool) → List Block → List ToldMisfit
misfit_rows_told log None blocks = []
misfit_rows_told log (Some fits) blocks = map (told_misfit log) (misfits_in fits blocks)

abbrev pub told_of : Head → List Block → List Bool → List Bool → Option (List Bool) → List ℕ → Told
told_of head blocks set heads fits log = record {
  all = sum_of blocks;
  head = head;
  marked = sum_of (marked_in set blocks);
  leaked = sum_of (leaked_in set blocks);
  heads = heads_in (leaks_in set heads blocks);
  misfits = misfits_told fits blocks;
  callers = map (told_caller log) (rows_of log (leaks_in set heads blocks));
  leaks = map (told_leak log) (leaks_in set heads blocks);
  misfit_rows = misfit_rows_told log fits blocks;
}

-- the bytes of a report are those of its lines
abbrev pub ReportsAreTold : Type 0
ReportsAreTold = (head : Head) (blocks : List Block) (set heads : List Bool) (fits : Option (List Bool)) (log : List ℕ)
    → text_of head blocks set heads fits log ≡ told_text (told_of head blocks set heads fits log)

-- ---- of searches

abbrev pub told_by_one : {core log : List ℕ} {reading : Distances} {skip : Skip} {check : Bool} {workers : ℕ} {found : Found}
    → FindsOne core log reading skip check workers found → Told
told_by_one {core} {log} {reading} {skip} {check} f =
    told_of (head_of_one core log skip f.lines) (live_of f.lines) f.set (heads_of (word_of core) (index_of reading f.lines) f.set) (fits_told check core f.lines) log

abbrev pub told_by_two : {core1 log1 core2 log2 : List ℕ} {reading : Distances} {skip : Skip} {check : Bool} {workers : ℕ} {found : Found}
    → FindsTwo core1 log1 core2 log2 reading skip check workers found → Told
told_by_two {core1} {log1} {core2} {log2} {reading} {skip} {check} f =
    told_of
    (head_of_two core2 log2 skip f.second.lines (numbers_of_two core2 f.pages (live_of f.second.lines) (kept_blocks f.first.lines f.earlier f.second.lines) (new_blocks f.first.lines f.second.lines)))
    (live_of f.second.lines) f.finds.set (heads_of (word_of core2) (index_of reading f.second.lines) f.finds.set) (fits_told check core2 f.second.lines) log2

-- The report has these lines, which belong together, and the number that the exit status goes by is that of its leaked blocks.
pub record IsReport (found : Found) (t : Told) : Type 0 where
  pub bytes : found.report.items ≡ told_text t
  pub together : BelongTogether t
  pub leaked : found.leaked ≡ t.leaked.blocks

abbrev pub ReportsOfOneBelongTogether : Type 0
ReportsOfOneBelongTogether =
    (core log : List ℕ) (reading : Distances) (skip : Skip) (check : Bool) (workers : ℕ) (found : Found)
    → (f : FindsOne core log reading skip check workers found) → IsReport found (told_by_one f)

abbrev pub ReportsOfTwoBelongTogether : Type 0
ReportsOfTwoBelongTogether =
    (core1 log1 core2 log2 : List ℕ) (reading : Distances) (skip : Skip) (check : Bool) (workers : ℕ) (found : Found)
    → (f : FindsTwo core1 log1 core2 log2 reading skip check workers found) → IsReport found (told_by_two f)

-- a report without the lines of misfits
abbrev pub without_misfits : Told → Told
without_misfits t = record t { misfits = None; misfit_rows = [] }

-- without them the report with misfits is that without
abbrev pub CheckAddsMisfits : Type 0
CheckAddsMisfits =
    (core log : List ℕ) (reading : Distances) (skip : Skip) (workers others : ℕ) (a b : Found)
    → (f : FindsOne core log reading skip true workers a) → FindsOne core log reading skip false others b
    → b.report.items ≡ told_text (without_misfits (told_by_one f))

abbrev pub CheckAddsMisfitsOfTwo : Type 0
CheckAddsMisfitsOfTwo =
    (core1 log1 core2 log2 : List ℕ) (reading : Distances) (skip : Skip) (workers others : ℕ) (a b : Found)
    → (f : FindsTwo core1 log1 core2 log2 reading skip true workers a) → FindsTwo core1 log1 core2 log2 reading skip false others b
    → b.report.items ≡ told_text (without_misfits (told_by_two f))
