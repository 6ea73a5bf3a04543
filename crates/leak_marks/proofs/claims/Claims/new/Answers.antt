-- From the lemmas of ClaimLemmas.
use Rattle.std.proofs.Common.{◌≡◌, ◌∙◌, ap, sym, subst, arith, ℕ, List, Bool, false, length, replicate, get_or, map, count_by, Vec, Global, vec_len, vec_capacity}
use Rattle.std.proofs.lemmas.List.{length-replicate}
use Rattle.leak_marks.proofs.ClaimLemmas.{Says, says_none}
use Rattle.leak_marks.proofs.claims.Claims.new.Goals as goal

abbrev items : Vec ℕ Global → List ℕ
items v = v.items

pub invariant_of-result : goal.invariant_of-result
invariant_of-result c =
    let marks : c.in_ok-marked.marked.items ≡ replicate c.args.blocks false = c.in_ok-marked.ensures.items_if_clones_equal (λ y e. e) in
    let long : length c.in_ok-marked.marked.items ≡ c.args.blocks = ap length marks ∙ length-replicate c.args.blocks false in
    let i = c.loop-worker.invariant in (
      (λ k d lt. let v = get_or c.loop-worker.lists.items k d in let g = i.1 k d lt in
          let none : vec_len v ≡ 0 = v.ok.0 ∙ ap length g.0 in let room : vec_capacity v ≡ c.args.blocks = g.1 in
          let n : ℕ = count_by (λ m. m) c.in_ok-marked.marked.items in (omega arith, omega arith)),
      subst (λ (ms : List Bool). Says ms (map items c.loop-worker.lists.items)) (sym marks) (subst (λ (ls : List (List ℕ)). Says (replicate c.args.blocks false) ls) (sym i.0) (says_none c.args.blocks c.loop-worker._worker)),
    )
