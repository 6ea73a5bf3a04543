-- Bytes that complete a word, then complete words, then bytes that wait.
use Rattle.std.proofs.Common.{◌≡◌, ◌++◌, ◌∙◌, List, ℕ, take, ap, subst, sym, arith}
use Rattle.leak_sift.specs.Sifted.{Sifted, Takes, TakesSome}
use Rattle.leak_sift.proofs.RunLemmas.{on_err}
use Rattle.leak_sift.proofs.TakenLemmas.{some_of_front, some_of_more, takes_both, takes_none}
use Rattle.leak_sift.proofs.ThreadLemmas.{both_bytes}
use Rattle.leak_sift.proofs.sifting.Sifting.take.Goals.{then-missing-gt0+in_ok-complete, else-missing-gt0}
use Rattle.leak_sift.proofs.sifting.Sifting.take.Goals as goal

-- no bytes are taken
none_taken : (s : Sifted) (bytes front : List ℕ) (n : ℕ) → front ≡ take n bytes → n ≡ 0 → Takes s front s
none_taken s bytes front n e none = subst (λ (l : List ℕ). Takes s l s) (sym (e ∙ ap (λ (k : ℕ). take k bytes) none)) (takes_none s)

pub returns-in_err-append_by-clause-err : goal.returns-in_err-append_by-clause-err
returns-in_err-append_by-clause-err g c =
    let bytes = c.args.bytes.now in
    let first : Takes c.args.self.now c.split_at.result.0.now c.if-missing-gt0.self =
    elim c.if-missing-gt0.branch [
      | then-missing-gt0+in_ok-complete w ↦ rw w.self-is w.in_ok-complete.ensures.ok
      | else-missing-gt0 w ↦ rw w.self-is (none_taken c.args.self.now bytes c.split_at.result.0.now c.missing-missing.result c.split_at.ensures.front (omega arith))
    ] in
    let rest = some_of_front c.if-missing-gt0.self c.append_by.new.self c.split_at-2.result.0.now c.split_at-2.result.1.now c.in_err-append_by.ensures.err in
    let all = some_of_more c.args.self.now c.if-missing-gt0.self c.append_by.new.self c.split_at.result.0.now (c.split_at-2.result.0.now ++ c.split_at-2.result.1.now) first rest in
    on_err c.from_residual-in_err-append_by.result _
    (subst (λ (l : List ℕ). TakesSome c.args.self.now l c.append_by.new.self)
    (ap (λ (l : List ℕ). c.split_at.result.0.now ++ l) (both_bytes c.split_at.result.1.now c.split_at-2.result.0.now c.split_at-2.result.1.now _ c.split_at-2.ensures.front c.split_at-2.ensures.back)
    ∙ both_bytes bytes c.split_at.result.0.now c.split_at.result.1.now _ c.split_at.ensures.front c.split_at.ensures.back) all)

pub returns-clause-ok : goal.returns-clause-ok
returns-clause-ok g c =
    let bytes = c.args.bytes.now in
    let first : Takes c.args.self.now c.split_at.result.0.now c.if-missing-gt0.self =
    elim c.if-missing-gt0.branch [
      | then-missing-gt0+in_ok-complete w ↦ rw w.self-is w.in_ok-complete.ensures.ok
      | else-missing-gt0 w ↦ rw w.self-is (none_taken c.args.self.now bytes c.split_at.result.0.now c.missing-missing.result c.split_at.ensures.front (omega arith))
    ] in
    let rest = takes_both c.if-missing-gt0.self c.append_by.new.self c.wait-2.new.self c.split_at-2.result.0.now c.split_at-2.result.1.now c.in_ok-append_by.ensures.ok c.wait-2.ensures in
    let all = takes_both c.args.self.now c.if-missing-gt0.self c.wait-2.new.self c.split_at.result.0.now (c.split_at-2.result.0.now ++ c.split_at-2.result.1.now) first rest in
    subst (λ (l : List ℕ). Takes c.args.self.now l c.wait-2.new.self)
    (ap (λ (l : List ℕ). c.split_at.result.0.now ++ l) (both_bytes c.split_at.result.1.now c.split_at-2.result.0.now c.split_at-2.result.1.now _ c.split_at-2.ensures.front c.split_at-2.ensures.back)
    ∙ both_bytes bytes c.split_at.result.0.now c.split_at.result.1.now _ c.split_at.ensures.front c.split_at.ensures.back) all
