-- From the lemmas of BoolLemmas and AloneLemmas.
use Rattle.std.proofs.Common.{ℕ, List, [], arith, ◌≡◌, ◌≤◌, ◌+◌, ◌∙◌, ap, sym, subst, ⊎_elim, true≢false, length, map, Vec, Global}
use Rattle.leak_marks.specs.Lists.{Has}
use Rattle.leak_marks.proofs.BoolLemmas.{equal_itself, same_number}
use Rattle.leak_blocks.specs.declared.block.Block.{Block}
use Rattle.leak_pool.specs.Depth.{AreByDepth}
use Rattle.leak_pool.specs.Marking.{graph_of, led_by_roots}
use Rattle.leak_pool.proofs.AloneLemmas.{alone_marks, roots_followed, written_back}
use Rattle.leak_pool.proofs.ScanLemmas.{none_has}
use Rattle.leak_pool.proofs.alone.mark_alone.Goals as goal
use Rattle.leak_pool.proofs.alone.mark_alone.Goals.{then-is_empty, else-is_empty}

abbrev items : Vec ℕ Global → List ℕ
items v = v.items

pub returns-clause-marks : goal.returns-clause-marks
returns-clause-marks g c =
    let word_at = g.W.Words.word_at c.args.words.now in
    let index = g.L.Lookup.index c.args.lookup.now in
    let first : List ℕ = led_by_roots word_at index c.args.roots.now in
    let blocks : List Block = index.blocks in
    let count : length c.blocks-blocks.result.now ≡ length blocks = ap (λ (l : List Block). length l) (c.blocks-blocks.ensures.value ∙ sym c.requires) in
    let long : length c.take_blocks.new.set ≡ length blocks = omega (arith, c.take_blocks.auto.set, c.take_roots.auto.set, c.as_mut_slice-marks.ensures.len, c.in_ok-set.ensures.len, count) in
    let back : length c.take_blocks.new.set ≡ c.in_ok-set.set.len = omega (arith, c.take_blocks.auto.set, c.take_roots.auto.set, c.as_mut_slice-marks.ensures.len) in
    let rounds : c.in_ok-rounds.rounds ≤ length c.blocks-blocks.result.now + 1 = c.in_ok-rounds.ensures.rounds in
    alone_marks word_at index c.args.roots.now c.take_blocks.new.set c.take_blocks.new.list.items _ c.take_blocks.ensures.marks
    (c.in_ok-rounds.ensures.done first (roots_followed word_at index first c.new-list.result.items c.take_roots.new.list.items c.new-list.ensures.items c.in_ok-take_roots.ensures.done))
    long
    (written_back c.in_ok-set.set.len c.take_blocks.new.set _ back)
    (ap (λ (l : List (Vec ℕ Global)). map items l) c.in_ok-claims.ensures.items)
    (elim c.if-is_empty.branch [ then-is_empty w ↦ omega (arith, w.rounds-is) | else-is_empty w ↦ omega (arith, w.rounds-is, rounds, count) ])
    (λ z. elim c.if-is_empty.branch [ then-is_empty w ↦ w.rounds-is | else-is_empty w ↦ absurd (true≢false (sym (equal_itself (length c.blocks-blocks.result.now) 0 (count ∙ z)) ∙ sym c.is_empty.ensures ∙ w.if-is_empty.false)) ])

pub returns-clause-depth : goal.returns-clause-depth
returns-clause-depth g c some =
    let word_at = g.W.Words.word_at c.args.words.now in
    let index = g.L.Lookup.index c.args.lookup.now in
    let first : List ℕ = led_by_roots word_at index c.args.roots.now in
    let none : c.new-list.result.items ≡ [] = c.new-list.ensures.items in
    let taken = c.in_ok-take_roots.ensures.done in
    elim c.if-is_empty.branch [
      | then-is_empty w ↦ absurd (let z : length c.blocks-blocks.result.now ≡ 0 = same_number (length c.blocks-blocks.result.now) 0 (sym c.is_empty.ensures ∙ w.if-is_empty.true) in
          let e = ap (λ (l : List Block). length l) c.blocks-blocks.ensures.value in omega arith)
      | else-is_empty w ↦ subst (λ (n : ℕ). AreByDepth (graph_of word_at index first []) n) (sym w.rounds-is)
          (c.in_ok-rounds.ensures.depth first (roots_followed word_at index first c.new-list.result.items c.take_roots.new.list.items none taken)
          (λ b h. ⊎_elim (λ old. none_has b (subst (λ (l : List ℕ). Has l b) none old)) (λ new. new) (taken.gains b h)))
    ]
