-- From the lemmas of ReplayingLemmas.
use Rattle.std.proofs.Common.{◌∙◌, ◌-◌, List, ℕ, length, take, drop, refl, ap, ap₂, subst}
use Rattle.std.proofs.lemmas.Result.{err_from_is_err_and}
use Rattle.leak_blocks.specs.declared.block.Block.{Block}
use Rattle.leak_blocks.specs.Windows.{GoesOn, IsLaterFault}
use Rattle.leak_replaying.specs.Numbering.{NumbersMore}
use Rattle.leak_replaying.proofs.ReplayingLemmas.{are_in_front, few_so_far, later_is_first, len_is, passes_on, rest_of_blocks}
use Rattle.leak_replaying.proofs.log_so_far.LogSoFar.go_over.Goals as goal

pub go_on-requires-clause-few : goal.go_on-requires-clause-few
go_on-requires-clause-few g c κs within =
    few_so_far c.args.self.now c.requires.so_far.0 c.requires.so_far.1 c.args.ongoing.now.allocated.items c.requires.so_far.2

pub returns-in_err-at-clause-refused : goal.returns-in_err-at-clause-refused
returns-in_err-at-clause-refused g c =
    let p = err_from_is_err_and c.from_residual.result c.from_residual.ensures.1 in
    rw (p.1, p.2) (λ short passed lines has.
    later_is_first c.args.self.now c.in_err-at.field-0.0 (subst (λ (w : List ℕ). IsLaterFault c.args.self.now.at.lines w c.in_err-at.field-0.0) c.as_slice.ensures.value (c.in_err-at.ensures.refused short)) passed lines _ has)

pub number_front-requires-clause-behind : goal.number_front-requires-clause-behind
number_front-requires-clause-behind g c =
    let goes = subst (λ (w : List ℕ). GoesOn w c.args.self.now.at c.in_ok-at.at c.in_ok-at.more c.args.ongoing.now c.go_on.new.ongoing) c.as_slice.ensures.value c.in_ok-at.ensures.ok in
    are_in_front c.args.self.now c.args.ongoing.now c.go_on.new.ongoing c.in_ok-at.at c.in_ok-at.more goes c.allocated-before.result.now c.allocated.result.now c.allocated-before.ensures c.allocated.ensures

pub returns-clause-ok : goal.returns-clause-ok
returns-clause-ok g c = λ passed lines has replayed.
    let goes = subst (λ (w : List ℕ). GoesOn w c.args.self.now.at c.in_ok-at.at c.in_ok-at.more c.args.ongoing.now c.go_on.new.ongoing) c.as_slice.ensures.value c.in_ok-at.ensures.ok in
    let was = c.args.self.now in
    let now = c.number_front.new.self in
    let len = len_is was c.args.ongoing.now c.go_on.new.ongoing c.in_ok-at.at c.in_ok-at.more goes in
    let rest = rest_of_blocks was c.args.ongoing.now c.go_on.new.ongoing c.in_ok-at.at c.in_ok-at.more goes c.allocated-before.result.now c.allocated.result.now c.allocated-before.ensures c.allocated.ensures in
    let numbered =
    subst (λ (n : ℕ). NumbersMore was.at.bytes (take n was.window.items) (drop (length c.args.ongoing.now.allocated.items) c.go_on.new.ongoing.allocated.items) was.texts was.numbers.items now.texts now.numbers.items) len
    (subst (λ (bs : List Block). NumbersMore was.at.bytes (take (c.in_ok-at.at.bytes - was.at.bytes) was.window.items) bs was.texts was.numbers.items now.texts now.numbers.items) rest
    c.in_ok-number_front.ensures.numbered) in
    passes_on was c.args.ongoing.now c.go_on.new.ongoing c.in_ok-at.at c.in_ok-at.more goes _
    (c.drop_front.ensures ∙ ap₂ (λ (n : ℕ) (w : List ℕ). drop n w) len (ap (λ v. v.items) c.number_front.ensures.window))
    refl c.number_front.ensures.spans numbered passed lines has replayed
