-- From the lemmas of AbsorbLemmas.
use Rattle.std.proofs.Common.{◌≡◌, ℕ, List, Vec, Global, get_or, ap, sym, ◌∙◌, length-set, arith}
use Rattle.leak_pool.proofs.AbsorbLemmas.{claims_more}
use Rattle.leak_pool.proofs.rounds.absorb.Goals as goal

abbrev items : Vec ℕ Global → List ℕ
items v = v.items

pub loop-k-preserved : goal.loop-k-preserved
loop-k-preserved c =
    let gained : List (Vec ℕ Global) = c.loop-k.gained.items in
    let more : Vec ℕ Global = c.replace-more.result in
    let was : more ≡ c.index_mut.result.now = c.replace-more.ensures.value in
    let read : more ≡ get_or gained c.loop-k.k more = was ∙ c.index_mut.ensures.value ∙ ap (λ (v : Vec ℕ Global). get_or gained c.loop-k.k v) (sym was) in (
      length-set c.loop-k.claims.items c.loop-k.k c.append_blocks-in-loop-k.new.list ∙ c.loop-k.invariant.0,
      length-set gained c.loop-k.k c.replace-more.new.dest ∙ c.loop-k.invariant.1,
      claims_more items c.loop-k.claims.items gained c.loop-k.k c.index_mut-list.result.now c.append_blocks-in-loop-k.new.list more c.replace-more.new.dest _ (omega (arith, c.loop-k.invariant.0, c.requires)) (omega (arith, c.loop-k.invariant.1))
          c.index_mut-list.ensures.value read c.in_ok-append_blocks-2.ensures c.loop-k.invariant.2,
    )
