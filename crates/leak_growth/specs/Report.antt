-- What grew between two logs of one process (own rule).
use Rattle.std.specs.Prelude.{ℕ, List, ◌++◌, map, filter, flat_map, codes}
use Rattle.leak_mtrace.specs.declared.line.Line.{Line}
use Rattle.leak_mtrace.specs.Log.{torn_of}
use Rattle.std.specs.Prelude.{length}
use Rattle.leak_blocks.specs.declared.block.Block.{Block}
use Rattle.leak_blocks.specs.Live.{Replay, replay_of}
use Rattle.leak_report.specs.Lines.{blocks_line}
use Rattle.leak_report.specs.Numbered.{texts_of}
use Rattle.leak_growth.specs.Rows.{Growth, new_of, with_text, sizes_of, rank, has_changed, ranked}
use Rattle.leak_growth.specs.Lines.{counts_line, growth_line}

-- what became of the blocks with the text, of those live in log 1 and in log 2, if log 1 has this many lines
abbrev pub growth_with : List ℕ → List Block → List ℕ → List Block → ℕ → List ℕ → Growth
growth_with log1 earlier log2 later after text = record {
  text = text;
  earlier = sizes_of (with_text log1 text earlier);
  later = sizes_of (with_text log2 text later);
  new = sizes_of (with_text log2 text (new_of after later));
}

-- of each text of a block that is live in either log, without those whose blocks are the same
unfoldable pub growths_of : List ℕ → List Block → List ℕ → List Block → ℕ → List Growth
growths_of log1 earlier log2 later after =
    ranked rank (filter (λ g. has_changed g.earlier g.later g.new)
    (map (growth_with log1 earlier log2 later after) (texts_of log1 earlier ++ texts_of log2 later)))

-- the lines before the rows
abbrev pub sums_of_logs : Replay → Replay → ℕ → ℕ → List ℕ
sums_of_logs earlier later torn after =
    blocks_line (codes "then") earlier.blocks ++ blocks_line (codes "now") later.blocks ++ blocks_line (codes "new") (new_of after later.blocks)
    ++ counts_line later.unknown later.displaced torn

-- the report of what two logs come to, if log 1 has this many lines
unfoldable pub report_of : List ℕ → Replay → List ℕ → Replay → ℕ → ℕ → List ℕ
report_of log1 earlier log2 later torn after =
    sums_of_logs earlier later torn after ++ flat_map growth_line (growths_of log1 earlier.blocks log2 later.blocks after)

-- the report of two logs that have these lines
abbrev pub growth_text : List ℕ → List Line → List ℕ → List Line → List ℕ
growth_text log1 before log2 now = report_of log1 (replay_of before) log2 (replay_of now) (torn_of log2) (length before)
