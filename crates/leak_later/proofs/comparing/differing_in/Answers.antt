-- From the lemmas of PieceLemmas.
use Rattle.std.proofs.Common.{◌<◌, ◌≤◌, arith}
use Rattle.leak_elf.specs.Words.{word_of}
use Rattle.leak_later.specs.Differing.{differs}
use Rattle.leak_later.proofs.PieceLemmas.{filter_join}
use Rattle.leak_later.proofs.comparing.differing_in.Goals as goal

pub loop-page-preserved : goal.loop-page-preserved
loop-page-preserved g c =
    let told = c.in_ok-page.ensures in
    let further : c.loop-page.page < c.in_ok-page.page = told.0 in
    let within : c.in_ok-page.page ≤ c.args.to = told.1 in
    let low : c.args.from ≤ c.loop-page.page = c.loop-page.invariant.low in
    record {
      low = omega arith;
      high = omega arith;
      pages = filter_join (differs (word_of c.args.first.now) (word_of c.args.second.now)) c.args.from c.loop-page.page c.in_ok-page.page c.loop-page.pages.items _ low (omega arith) c.loop-page.invariant.pages told.2;
    }
