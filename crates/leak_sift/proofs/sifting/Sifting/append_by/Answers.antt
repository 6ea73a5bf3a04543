-- The words up to the end of a group, then those of the others.
use Rattle.std.proofs.Common.{List, ℕ, subst}
use Rattle.std.proofs.lemmas.Result.{on_err_weaker, on_ok_weaker}
use Rattle.leak_sift.specs.Sifted.{Takes, TakesSome}
use Rattle.leak_sift.proofs.TakenLemmas.{some_of_more, takes_both}
use Rattle.leak_sift.proofs.ThreadLemmas.{both_bytes}
use Rattle.leak_sift.proofs.sifting.Sifting.append_by.Goals as goal

pub returns-clause-ok : goal.returns-clause-ok
returns-clause-ok g c =
    let front = c.split_at.result.0.now in let back = c.split_at.result.1.now in
    on_ok_weaker c.append_groups.result
    (λ (rest : Takes c.append-2.new.self back c.append_groups.new.self). subst (λ (l : List ℕ). Takes c.args.self.now l c.append_groups.new.self)
    (both_bytes c.args.bytes.now front back _ c.split_at.ensures.front c.split_at.ensures.back)
    (takes_both c.args.self.now c.append-2.new.self c.append_groups.new.self front back c.in_ok-append.ensures.ok rest))
    c.append_groups.ensures.ok

pub returns-clause-err : goal.returns-clause-err
returns-clause-err g c =
    let front = c.split_at.result.0.now in let back = c.split_at.result.1.now in
    on_err_weaker c.append_groups.result
    (λ (rest : TakesSome c.append-2.new.self back c.append_groups.new.self). subst (λ (l : List ℕ). TakesSome c.args.self.now l c.append_groups.new.self)
    (both_bytes c.args.bytes.now front back _ c.split_at.ensures.front c.split_at.ensures.back)
    (some_of_more c.args.self.now c.append-2.new.self c.append_groups.new.self front back c.in_ok-append.ensures.ok rest))
    c.append_groups.ensures.err
