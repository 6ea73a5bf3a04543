-- The blocks are the live ones of the lines.
use Rattle.std.proofs.Common.{◌≡◌, ◌∙◌, sym, subst, ℕ, List}
use Rattle.leak_blocks.specs.Span.{AreAddressed, AreDisjoint}
use Rattle.leak_blocks.specs.Live.{live_of}
use Rattle.leak_blocks.specs.Numbers.{AreBlocksOf}
use Rattle.leak_blocks.proofs.DisjointLemmas.{live_disjoint}
use Rattle.leak_blocks.proofs.LineLemmas.{live_addressed}
use Rattle.leak_blocks.proofs.StepLemmas.{all_built, replay_is}
use Rattle.leak_blocks.proofs.stage.Stage.live.Goals as goal

pub new-requires-clause-addressed : goal.new-requires-clause-addressed
new-requires-clause-addressed c =
    let built : c.in_ok-blocks.blocks.items ≡ live_of c.requires.0 = all_built c.requires.0 c.args.self.allocated.items c.args.self.numbers.items c.args.self.unknown c.args.self.displaced c.requires.2 c.in_ok-blocks.blocks.items
    (subst (λ (ns : List ℕ). AreBlocksOf c.args.self.allocated.items ns c.in_ok-blocks.blocks.items) c.as_slice.ensures.value c.in_ok-blocks.ensures) in
    subst AreAddressed (sym built) (live_addressed c.requires.0 c.requires.1)

pub new-requires-clause-disjoint : goal.new-requires-clause-disjoint
new-requires-clause-disjoint c =
    let built : c.in_ok-blocks.blocks.items ≡ live_of c.requires.0 = all_built c.requires.0 c.args.self.allocated.items c.args.self.numbers.items c.args.self.unknown c.args.self.displaced c.requires.2 c.in_ok-blocks.blocks.items
    (subst (λ (ns : List ℕ). AreBlocksOf c.args.self.allocated.items ns c.in_ok-blocks.blocks.items) c.as_slice.ensures.value c.in_ok-blocks.ensures) in
    subst AreDisjoint (sym built) (live_disjoint c.requires.0)

pub returns : goal.returns
returns c = λ lines after.
    let built : c.in_ok-blocks.blocks.items ≡ live_of lines = all_built lines c.args.self.allocated.items c.args.self.numbers.items c.args.self.unknown c.args.self.displaced after c.in_ok-blocks.blocks.items
    (subst (λ (ns : List ℕ). AreBlocksOf c.args.self.allocated.items ns c.in_ok-blocks.blocks.items) c.as_slice.ensures.value c.in_ok-blocks.ensures) in
    c.new.ensures ∙ replay_is lines c.args.self.allocated.items c.args.self.numbers.items c.args.self.unknown c.args.self.displaced after c.in_ok-blocks.blocks.items built
