-- From the lemmas of ListedLemmas.
use Rattle.std.proofs.Common.{◌∙◌, ap}
use Rattle.leak_elf.specs.Words.{word_of}
use Rattle.leak_scan.specs.Heads.{heads_of}
use Rattle.leak_search.specs.Listed.{index_in}
use Rattle.leak_search.specs.declared.found.Searched.{Searched}
use Rattle.leak_search.proofs.InputLemmas.{as_input}
use Rattle.leak_search.proofs.ListedLemmas.{marks_listed}
use Rattle.leak_search.proofs.listing.search_listed.Goals as goal

pub returns-clause-marks : goal.returns-clause-marks
returns-clause-marks g c = λ input reading listed log lines read.
    let it = listed lines (as_input _ log lines _ read) in
    let heads = c.in_ok-heads.ensures _ _ it.listing.targets ∙ ap (heads_of (word_of input.image) (index_in input reading)) c.as_slice.ensures.value in
    marks_listed log lines reading _ input c.args.listed c.in_ok-marked.marked _ read it (c.in_ok-marked.ensures.marks _ _ _ it.listing)
    (ap (λ (s : Searched). s.head) c.searched_by.ensures) (ap (λ (s : Searched). s.set) c.searched_by.ensures)
    (ap (λ (s : Searched). s.heads.items) c.searched_by.ensures ∙ heads) (ap (λ (s : Searched). s.claims) c.searched_by.ensures)
