-- Each block that is left is led to.
use Rattle.std.proofs.Common.{◌≡◌, true}
use Rattle.leak_elf.specs.Words.{words_between, places}
use Rattle.leak_scan.proofs.RootRanges.{all_within}
use Rattle.leak_scan.proofs.laws.ranges_lead_less.Goals as goal

pub returns : goal.returns
unfolding words_between
returns c = λ word_at index from to test all. all_within (λ b. test b ≡ true) word_at index (places from to) all
