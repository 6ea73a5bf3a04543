-- From the lemmas of CountLemmas and AloneLemmas.
use Rattle.std.proofs.Common.{ℕ, List, subst, arith, ◌≡◌, ◌∙◌, ◌<◌, ap, sym, length, get_or, []}
use Rattle.leak_marks.specs.Lists.{Has, Within}
use Rattle.leak_pool.specs.Alone.{AreTaken, IsFollowed}
use Rattle.leak_pool.specs.Marking.{graph_of}
use Rattle.leak_pool.proofs.CountLemmas.{at_has, read_at}
use Rattle.leak_pool.specs.ScopeLaw.{target_below}
use Rattle.leak_pool.proofs.AloneLemmas.{marks_few, block_followed, block_taken, taken_long, free}
use Rattle.leak_pool.proofs.AloneRoundLemmas.{in_rounds_none, in_rounds_then, in_rounds_else, rounds_alone}
use Rattle.leak_pool.proofs.GraphLemmas.{graph-first}
use Rattle.leak_pool.proofs.alone.take_blocks.Goals as goal
use Rattle.leak_pool.proofs.alone.take_blocks.Goals.{then-scanned-end, else-scanned-end}

pub bounds-blocks-index : goal.bounds-blocks-index
bounds-blocks-index g c =
    let in_list : c.follow.scanned < length c.follow.list.items = (let t = c.follow-test.true in omega arith) in
    let i = c.follow.invariant.marks.inside (get_or c.follow.list.items c.follow.scanned 0) (at_has c.follow.list.items c.follow.scanned in_list) in
    let e = read_at c.follow.list.items c.follow.scanned c.index.result.now in_list c.index.ensures in omega (arith, i, e, c.requires.long, c.follow.auto.set)

pub take_all-requires-clause-inside : goal.take_all-requires-clause-inside
take_all-requires-clause-inside g c b h =
    let t = target_below (g.L.Lookup.index c.args.lookup.now) _ b (subst (λ (l : List ℕ). Has l b) c.of_block.ensures h) in let e = ap length c.requires.blocks in omega (arith, t, e, c.requires.long, c.follow.auto.set)

pub follow-smaller : goal.follow-smaller
follow-smaller g c = let f = marks_few c.follow.set c.follow.list.items c.follow.invariant.marks in let t = c.follow-test.true in omega (arith, f, c.requires.long, c.follow.auto.set)

pub returns-clause-rounds : goal.returns-clause-rounds
returns-clause-rounds g c = let f = marks_few c.follow.set c.follow.list.items c.follow.invariant.marks in let w = c.follow.invariant.within in let r = c.follow.invariant.rounds in omega (arith, f, c.requires.long, c.follow.auto.set)

pub returns-clause-done : goal.returns-clause-done
returns-clause-done g c roots f =
    let w = c.follow.invariant.within in let t = c.follow-test.false in let e : c.follow.scanned ≡ length c.follow.list.items = omega arith in
    subst (λ (n : ℕ). IsFollowed (graph_of (g.W.Words.word_at c.args.words.now) (g.L.Lookup.index c.args.lookup.now) roots []) c.follow.list.items n) e (c.follow.invariant.followed roots f)

pub follow-preserved : goal.follow-preserved
follow-preserved g c =
    let in_list : c.follow.scanned < length c.follow.list.items = (let t = c.follow-test.true in omega arith) in
    let i = c.follow.invariant.marks.inside (get_or c.follow.list.items c.follow.scanned 0) (at_has c.follow.list.items c.follow.scanned in_list) in
    let e = read_at c.follow.list.items c.follow.scanned c.index.result.now in_list c.index.ensures in
    let low : c.index.result.now < length c.args.blocks.now = omega (arith, i, e, c.requires.long, c.follow.auto.set) in
    let r = c.follow.invariant.rounds in
    let grown = taken_long _ _ _ c.in_ok-take_all.ensures.done in
    record {
      marks = c.take_all.ensures.marks;
      within = omega (arith, grown, in_list);
      rounds = elim c.if-scanned-end.branch [ then-scanned-end w ↦ omega (arith, w.rounds-is, r) | else-scanned-end w ↦ omega (arith, w.rounds-is, r) ];
      followed = λ roots f. block_followed (g.W.Words.word_at c.args.words.now) (g.L.Lookup.index c.args.lookup.now) roots c.args.blocks.now _ c.follow.list.items c.take_all.new.list.items c.follow.scanned c.index.result.now
          c.requires.blocks in_list e low (subst (λ (l : List ℕ). AreTaken l c.follow.list.items c.take_all.new.list.items) c.of_block.ensures c.in_ok-take_all.ensures.done) (c.follow.invariant.followed roots f);
      levels = λ roots f w. let word_at = g.W.Words.word_at c.args.words.now in let index = g.L.Lookup.index c.args.lookup.now in
          let levels = c.follow.invariant.levels roots f w in let followed = c.follow.invariant.followed roots f in
          let taken = block_taken word_at index roots c.args.blocks.now _ c.follow.list.items c.take_all.new.list.items c.follow.scanned c.index.result.now
          c.requires.blocks e low (subst (λ (l : List ℕ). AreTaken l c.follow.list.items c.take_all.new.list.items) c.of_block.ensures c.in_ok-take_all.ensures.done) in
          elim c.if-scanned-end.branch [
            | then-scanned-end w ↦ in_rounds_then (graph_of word_at index roots []) c.follow.list.items c.take_all.new.list.items c.follow.scanned c.follow.end c.follow.rounds c.if-scanned-end.end c.if-scanned-end.rounds (free word_at index roots)
                (let long : c.if-scanned-end.end ≡ length c.follow.list.items = (let n = w.end-is ∙ w.len-end.ensures in omega arith) in long) w.rounds-is (let t = w.if-scanned-end.true in omega arith) in_list followed c.follow.invariant.marks.once taken levels
            | else-scanned-end w ↦ in_rounds_else (graph_of word_at index roots []) c.follow.list.items c.take_all.new.list.items c.follow.scanned c.follow.end c.follow.rounds c.if-scanned-end.end c.if-scanned-end.rounds (free word_at index roots)
                w.end-is w.rounds-is (let t = w.if-scanned-end.false in let s = levels.scanned_are in omega arith) taken levels
          ];
    }

pub follow-init : goal.follow-init
follow-init g c = record {
  marks = c.requires.marks;
  within = omega arith;
  rounds = omega arith;
  followed = λ roots f. f;
  levels = λ roots f w. in_rounds_none (graph_of (g.W.Words.word_at c.args.words.now) (g.L.Lookup.index c.args.lookup.now) roots []) c.args.list.now.items
      (free (g.W.Words.word_at c.args.words.now) (g.L.Lookup.index c.args.lookup.now) roots)
      (subst (λ (l : List ℕ). Within c.args.list.now.items l) (sym (graph-first (g.W.Words.word_at c.args.words.now) (g.L.Lookup.index c.args.lookup.now) roots [])) w);
}

pub returns-clause-depth : goal.returns-clause-depth
returns-clause-depth g c roots f w =
    rounds_alone (graph_of (g.W.Words.word_at c.args.words.now) (g.L.Lookup.index c.args.lookup.now) roots []) c.follow.list.items c.follow.scanned c.follow.end c.follow.rounds
    (let t = c.follow-test.false in omega arith) (c.follow.invariant.followed roots f) (c.follow.invariant.levels roots f w)
