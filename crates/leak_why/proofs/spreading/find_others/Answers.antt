-- From the lemmas of AloneLemmas and EntryLemmas.
use Rattle.std.proofs.Common.{◌≡◌, ◌<◌, ℕ, List, length, ap, subst, refl, arith, rules}
use Rattle.std.proofs.lemmas.List.{length-map}
use Rattle.std.proofs.lemmas.Option.{slice_get_read}
use Rattle.leak_blocks.specs.declared.block.Block.{Block}
use Rattle.leak_marks.specs.Lists.{Has}
use Rattle.leak_pool.specs.ScopeLaw.{target_below}
use Rattle.leak_pool.proofs.AloneLemmas.{marks_few}
use Rattle.leak_why.specs.declared.reached_block.ReachedBlock.{ReachedBlock}
use Rattle.leak_why.specs.declared.reached_block.FirstLead.TheVariants.{Earlier}
use Rattle.leak_why.specs.ReachedBlocks.{AreFound, AreFollowed, blocks_of}
use Rattle.leak_why.proofs.EntryLemmas.{has_block}
use Rattle.leak_why.proofs.FoundLemmas.{followed_first, followed_more, found_long, targets_same}
use Rattle.leak_why.proofs.spreading.find_others.Goals as goal

pub follow-init : goal.follow-init
follow-init g c = record {
  marks = c.requires.marks;
  within = omega arith;
  followed = λ p r. followed_first (g.W.Words.word_at c.args.words.now) (g.L.Lookup.index c.args.lookup.now) p c.args.entries.now.items r;
}

pub bounds-blocks-index : goal.bounds-blocks-index
bounds-blocks-index g c =
    let in_list : c.follow.scanned < length c.follow.entries.items = (let t = c.follow-test.true in omega arith) in
    let is = slice_get_read c.follow.entries.items (length c.follow.entries.items) c.follow.scanned c.index.result.now refl in_list c.index.ensures in
    let i = c.follow.invariant.marks.inside c.index.result.now.block (has_block c.follow.entries.items c.follow.scanned c.index.result.now is) in
    omega (arith, i, c.requires.long, c.follow.auto.seen)

pub offset_bounds-blocks-index : goal.offset_bounds-blocks-index
offset_bounds-blocks-index g c =
    let in_list : c.follow.scanned < length c.follow.entries.items = (let t = c.follow-test.true in omega arith) in
    let is = slice_get_read c.follow.entries.items (length c.follow.entries.items) c.follow.scanned c.index.result.now refl in_list c.index.ensures in
    let i = c.follow.invariant.marks.inside c.index.result.now.block (has_block c.follow.entries.items c.follow.scanned c.index.result.now is) in
    let low : c.index.result.now.block < length c.args.blocks.now = omega (arith, i, c.requires.long, c.follow.auto.seen) in search rules

pub find_all-requires-clause-inside : goal.find_all-requires-clause-inside
find_all-requires-clause-inside g c b h =
    let t = target_below (g.L.Lookup.index c.args.lookup.now) _ b (subst (λ (l : List ℕ). Has l b) c.of_block-targets.ensures h) in let e = ap length c.requires.blocks in omega (arith, t, e, c.requires.long, c.follow.auto.seen)

pub follow-smaller : goal.follow-smaller
follow-smaller g c =
    let f = marks_few c.follow.seen (blocks_of c.follow.entries.items) c.follow.invariant.marks in
    let l = length-map c.follow.entries.items (λ (e : ReachedBlock). e.block) in
    let t = c.follow-test.true in omega (arith, f, l, c.requires.long, c.follow.auto.seen)

pub follow-preserved : goal.follow-preserved
follow-preserved g c =
    let word_at = g.W.Words.word_at c.args.words.now in
    let index = g.L.Lookup.index c.args.lookup.now in
    let before : List ReachedBlock = c.follow.entries.items in
    let after : List ReachedBlock = c.find_all.new.entries.items in
    let in_list : c.follow.scanned < length before = (let t = c.follow-test.true in omega arith) in
    let is = slice_get_read before (length before) c.follow.scanned c.index.result.now refl in_list c.index.ensures in
    let i = c.follow.invariant.marks.inside c.index.result.now.block (has_block before c.follow.scanned c.index.result.now is) in
    let low : c.index.result.now.block < length index.blocks = (let e = ap (λ (l : List Block). length l) c.requires.blocks in omega (arith, i, c.requires.long, c.follow.auto.seen)) in
    let grown = found_long (Earlier c.follow.scanned) c.of_block-targets.result before after c.in_ok-find_all.ensures.done in
    record {
      marks = c.find_all.ensures.marks;
      within = omega (arith, grown, in_list);
      followed = λ p r. followed_more word_at index p before after c.follow.scanned c.index.result.now is low
          (subst (λ (l : List ℕ). AreFound (Earlier c.follow.scanned) l before after) (targets_same word_at index p c.args.blocks.now c.index.result.now.block _ c.of_block-targets.result c.requires.blocks low c.of_block-targets.ensures) c.in_ok-find_all.ensures.done)
          (c.follow.invariant.followed p r);
    }

pub returns-clause-done : goal.returns-clause-done
returns-clause-done g c = λ p r.
    let w = c.follow.invariant.within in let t = c.follow-test.false in let e : c.follow.scanned ≡ length c.follow.entries.items = omega arith in
    subst (λ (n : ℕ). AreFollowed (g.W.Words.word_at c.args.words.now) (g.L.Lookup.index c.args.lookup.now) p c.follow.entries.items n) e (c.follow.invariant.followed p r)
