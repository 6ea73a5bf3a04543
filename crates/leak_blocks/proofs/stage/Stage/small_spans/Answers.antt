-- The blocks of all allocations have the places of the log's, and the marked ones are live.
use Rattle.std.proofs.Common.{◌<◌, ◌∙◌, ap, sym, subst, ℕ, Bool, List, All, length}
use Rattle.std.proofs.lemmas.Result.{IfOk-weaker}
use Rattle.leak_blocks.specs.declared.block.Block.{Block}
use Rattle.leak_blocks.specs.declared.small.Span.{Span}
use Rattle.leak_blocks.specs.Live.{replay_of}
use Rattle.leak_blocks.specs.Small.{is_covered, small_block_spans, AreMarksOf, IsOutsideMarked}
use Rattle.leak_blocks.specs.Span.{AreAddressed}
use Rattle.leak_blocks.proofs.PlaceLemmas.{places_addressed, same_small}
use Rattle.leak_blocks.proofs.SmallLemmas.{numbers_inside, outside_marked}
use Rattle.leak_blocks.proofs.stage.Stage.small_spans.Goals as goal

pub marks_of-requires : goal.marks_of-requires
marks_of-requires c =
    subst (λ (n : ℕ). All (λ k. k < n) c.deref.result.now) (sym (c.len-count.ensures ∙ c.args.self.now.allocated.ok.0))
    (subst (All (λ k. k < length c.args.self.now.allocated.items)) (sym c.deref.ensures.value) (numbers_inside c.args.self.now.allocated.items c.args.self.now.numbers.items _ c.requires.2.blocks))

pub block_spans-requires-clause-addressed : goal.block_spans-requires-clause-addressed
block_spans-requires-clause-addressed c =
    subst AreAddressed (sym c.deref-2.ensures.value) (places_addressed c.requires.0 c.args.self.now.allocated.items c.requires.1 c.requires.3)

pub returns : goal.returns
returns c = IfOk-weaker c.joined.result _ _
    (λ spans same. λ lines after places a out.
    let allocated = c.args.self.now.allocated.items in
    let numbers = c.args.self.now.numbers.items in
    let marks : AreMarksOf (length allocated) numbers c.in_ok-live.live.items =
    subst (λ (n : ℕ). AreMarksOf n numbers c.in_ok-live.live.items) (c.len-count.ensures ∙ c.args.self.now.allocated.ok.0)
    (subst (λ (ns : List ℕ). AreMarksOf c.len-count.result ns c.in_ok-live.live.items) c.deref.ensures.value c.in_ok-live.ensures) in
    let unmarked : IsOutsideMarked allocated c.in_ok-live.live.items a =
    outside_marked allocated numbers (replay_of lines).blocks c.in_ok-live.live.items after.blocks marks a out in
    same a
    ∙ c.in_ok-block_spans.ensures.same a
    (subst (λ (l : List Block). IsOutsideMarked l c.deref-3.result.now a) (sym c.deref-2.ensures.value)
    (subst (λ (m : List Bool). IsOutsideMarked allocated m a) (sym c.deref-3.ensures.value) unmarked))
    ∙ ap (λ (l : List Span). is_covered l a) (ap small_block_spans c.deref-2.ensures.value ∙ same_small lines allocated places))
    c.joined.ensures
