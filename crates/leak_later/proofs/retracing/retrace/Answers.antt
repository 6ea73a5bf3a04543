-- From the lemmas of StartLemmas.
use Rattle.std.proofs.Common.{◌∙◌, ap, sym, subst, ℕ, List, length}
use Rattle.leak_blocks.specs.declared.block.Block.{Block}
use Rattle.leak_pool.specs.Marking.{lists_of}
use Rattle.leak_later.specs.Kept.{IsCarry}
use Rattle.leak_later.specs.Differing.{reread_of}
use Rattle.leak_later.proofs.StartLemmas.{is_start_of, is_start_with, set_of_two, claims_of_two}
use Rattle.leak_later.proofs.retracing.retrace.Goals as goal

pub mark_from-requires-clause-start : goal.mark_from-requires-clause-start
mark_from-requires-clause-start g c κs within =
    is_start_of (length c.args.live.now.blocks) c.args.carry.now c.in_ok-start.start c.requires.carried c.in_ok-start.ensures.marked c.in_ok-start.ensures.rescan

pub returns-clause-traced : goal.returns-clause-traced
returns-clause-traced g c =
    let f = g.W.Words.word_at c.args.second.now in
    let index = g.L.Lookup.index c.args.lookup.now in
    let marks = c.in_ok-marked.ensures.marks in
    let carried : IsCarry (length index.blocks) c.args.carry.now = subst (λ (bs : List Block). IsCarry (length bs) c.args.carry.now) (sym c.requires.blocks) c.requires.carried in
    record {
      from = (c.in_ok-start.start, is_start_with c.args.carry.now c.in_ok-start.start c.in_ok-start.ensures.marked c.in_ok-start.ensures.rescan, marks);
      set = λ others. set_of_two f index c.args.roots.now c.args.pages.now c.args.carry.now c.in_ok-start.start c.in_ok-start.ensures.marked c.in_ok-start.ensures.rescan c.retraces.ensures carried others c.in_ok-marked.marked.set.items marks.set;
      claims = λ others. claims_of_two f index c.args.roots.now c.args.pages.now c.args.carry.now c.in_ok-start.start c.in_ok-start.ensures.marked c.in_ok-start.ensures.rescan c.retraces.ensures carried others (lists_of c.in_ok-marked.marked) marks.claims;
      reread = c.count_words-reread.ensures
          ∙ ap (λ (bs : List Block). reread_of f c.args.pages.now bs c.deref.result.now) (c.blocks-3.ensures.value ∙ sym c.requires.blocks)
          ∙ ap (λ (xs : List ℕ). reread_of f c.args.pages.now index.blocks xs) c.deref.ensures.value;
    }
