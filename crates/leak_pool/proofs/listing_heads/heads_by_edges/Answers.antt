-- From the lemmas of Held of leak_scan.
use Rattle.std.proofs.Common.{◌≡◌, ◌∙◌, ℕ, Bool, List, not, map, length, drop, ap, sym, arith}
use Rattle.std.proofs.lemmas.List.{length-map}
use Rattle.leak_scan.specs.Dropped.{after_blocks}
use Rattle.leak_scan.proofs.Held.{heads_left, written}
use Rattle.leak_pool.proofs.ScopeLemmas.{long_all}
use Rattle.leak_pool.proofs.listing_heads.heads_by_edges.Goals as goal

pub returns : goal.returns
returns g c word_at index same =
    let unmarked : c.as_mut_slice.result.now ≡ map not c.args.set.now = c.as_mut_slice.ensures.value ∙ c.in_ok-heads.ensures in
    let long = ap (λ (bs : List Bool). length bs) unmarked ∙ length-map c.args.set.now not in
    let all = ap (λ (ls : List (List ℕ)). length ls) same ∙ long_all word_at index in
    written c.drop_held.new.heads (drop (length c.drop_held.new.heads) c.in_ok-heads.heads.items) c.in_ok-heads.heads.len (omega (arith, c.as_mut_slice.ensures.len, c.drop_held.auto.heads))
    ∙ heads_left word_at index c.args.set.now c.drop_held.new.heads (c.requires.one_each ∙ all) (omega (arith, c.drop_held.auto.heads, long))
    (λ b. c.drop_held.ensures word_at index same b ∙ ap (λ (es : List Bool). after_blocks word_at index c.args.set.now es 0 index.blocks b) unmarked)
