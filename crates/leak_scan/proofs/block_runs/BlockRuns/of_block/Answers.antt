-- The words of the kept run, and those of a new one.
use Rattle.std.proofs.Common.{◌∙◌, ◌*◌, ◌/◌, ap, refl, arith}
use Rattle.leak_scan.specs.Positions.{words_in}
use Rattle.leak_scan.proofs.Blocks.{block_taken}
use Rattle.leak_scan.proofs.block_runs.BlockRuns.of_block.Goals as goal

pub returns-then-near-whole-clause-bytes : goal.returns-then-near-whole-clause-bytes
returns-then-near-whole-clause-bytes g c =
    let words = c.args.self.now.words.now in let block = c.args.block.now in
    ap words_in c.split_at.ensures.front
    ∙ block_taken (g.W.Words.word_at words) block (8 * (block.size / 8)) c.run_on-near.result.now (g.met.W.Words.aligned words) (c.run_on-near.ensures (g.W.Words.word_at words) c.args.self.now.kept) refl (omega arith)

pub returns-clause-bytes : goal.returns-clause-bytes
returns-clause-bytes g c =
    let words = c.args.self.now.words.now in let block = c.args.block.now in
    ap words_in c.split_at-2.ensures.front
    ∙ block_taken (g.W.Words.word_at words) block (8 * (block.size / 8)) c.run-run.result.now (g.met.W.Words.aligned words) c.run-run.ensures refl (omega arith)
