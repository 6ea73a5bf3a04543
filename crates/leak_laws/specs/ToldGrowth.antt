-- What the report of what grew tells, as its lines say it.
use Rattle.std.specs.Prelude.{◌≡◌, ℕ, List, ◌++◌, flat_map, codes}
use Rattle.std.specs.List.{AllByRecursion}
use Rattle.leak_blocks.specs.Live.{Replay}
use Rattle.leak_growth.specs.declared.summing.Sizes.{Sizes}
use Rattle.leak_growth.specs.Lines.{counts_line, growth_line}
use Rattle.leak_growth.specs.Report.{growths_of, report_of}
use Rattle.leak_growth.specs.Rows.{Growth, new_of}
use Rattle.leak_laws.specs.Reports.{sum_of}
use Rattle.leak_laws.specs.Told.{Sum, sum_line}
use Rattle.leak_laws.specs.Readable.{IsNumber, IsSumRead, Lacks}

pub record ToldGrowth : Type 0 where
  pub before : Sum
  pub now : Sum
  pub fresh : Sum
  pub unknown : ℕ
  pub displaced : ℕ
  pub torn : ℕ
  pub rows : List Growth

abbrev pub growth_told : ToldGrowth → List ℕ
growth_told t =
    sum_line (codes "then") t.before ++ sum_line (codes "now") t.now ++ sum_line (codes "new") t.fresh ++ counts_line t.unknown t.displaced t.torn ++ flat_map growth_line t.rows

abbrev pub growth_tells : List ℕ → Replay → List ℕ → Replay → ℕ → ℕ → ToldGrowth
growth_tells log1 earlier log2 later torn after = record {
  before = sum_of earlier.blocks;
  now = sum_of later.blocks;
  fresh = sum_of (new_of after later.blocks);
  unknown = later.unknown;
  displaced = later.displaced;
  torn = torn;
  rows = growths_of log1 earlier.blocks log2 later.blocks after;
}

pub record AreSizesRead (s : Sizes) : Type 0 where
  pub blocks : IsNumber s.blocks
  pub bytes : IsNumber s.bytes

pub record IsGrowthRead (g : Growth) : Type 0 where
  pub earlier : AreSizesRead g.earlier
  pub later : AreSizesRead g.later
  pub new : AreSizesRead g.new
  pub text : Lacks 10 g.text

pub record IsGrowthToldRead (t : ToldGrowth) : Type 0 where
  pub before : IsSumRead t.before
  pub now : IsSumRead t.now
  pub fresh : IsSumRead t.fresh
  pub unknown : IsNumber t.unknown
  pub displaced : IsNumber t.displaced
  pub torn : IsNumber t.torn
  pub rows : AllByRecursion IsGrowthRead t.rows

-- a report of what grew has the bytes of its lines, and two with the same bytes tell the same
abbrev pub GrowthIsTold : Type 0
GrowthIsTold = (log1 : List ℕ) (earlier : Replay) (log2 : List ℕ) (later : Replay) (torn after : ℕ)
    → report_of log1 earlier log2 later torn after ≡ growth_told (growth_tells log1 earlier log2 later torn after)

abbrev pub GrowthReadsBack : Type 0
GrowthReadsBack = (a b : ToldGrowth) → IsGrowthToldRead a → IsGrowthToldRead b → growth_told a ≡ growth_told b → a ≡ b
