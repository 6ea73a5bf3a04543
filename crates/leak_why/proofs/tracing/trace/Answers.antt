-- From the lemmas of EntryLemmas.
use Rattle.std.proofs.Common.{◌≡◌, ◌<◌, ◌+◌, ℕ, suc, List, [], ◌∷◌, ◌++◌, length, get_or, ap, sym, ◌∙◌, subst, refl, arith, rules, length-append}
use Rattle.std.proofs.lemmas.Option.{slice_get-get_or, slice_get_within, get_or_from_slice_get}
use Rattle.leak_blocks.specs.declared.block.Block.{Block}
use Rattle.leak_marks.specs.Lists.{Has}
use Rattle.leak_scan.specs.Targets.{block_targets}
use Rattle.leak_why.specs.declared.chain.Link.{Link}
use Rattle.leak_why.specs.declared.reached_block.ReachedBlock.{ReachedBlock}
use Rattle.leak_why.specs.ReachedBlocks.{AreLinks, IsAt}
use Rattle.leak_why.proofs.EntryLemmas.{nothing, same_entry}
use Rattle.leak_why.proofs.FoundLemmas.{links_more}
use Rattle.leak_why.proofs.tracing.trace.Goals as goal

pub offset_bounds-entries-number : goal.offset_bounds-entries-number
offset_bounds-entries-number g c =
    let led = c.requires.led c.back.at c.in-Earlier.number (get_or c.args.entries.now c.back.at nothing) (slice_get-get_or c.args.entries.now c.back.at nothing c.back.invariant.inside) c.in-Earlier.is in
    let inside : c.in-Earlier.number < length c.args.entries.now = slice_get_within c.args.entries.now c.in-Earlier.number led.1.0 led.1.1 in search rules

pub bounds-entries-number : goal.bounds-entries-number
bounds-entries-number g c =
    let led = c.requires.led c.back.at c.in-Earlier.number (get_or c.args.entries.now c.back.at nothing) (slice_get-get_or c.args.entries.now c.back.at nothing c.back.invariant.inside) c.in-Earlier.is in
    slice_get_within c.args.entries.now c.in-Earlier.number led.1.0 led.1.1

pub back-smaller : goal.back-smaller
back-smaller g c =
    (c.requires.led c.back.at c.in-Earlier.number (get_or c.args.entries.now c.back.at nothing) (slice_get-get_or c.args.entries.now c.back.at nothing c.back.invariant.inside) c.in-Earlier.is).0

pub link_to-requires-clause-holder : goal.link_to-requires-clause-holder
link_to-requires-clause-holder g c =
    let led = c.requires.led c.back.at c.in-Earlier.number (get_or c.args.entries.now c.back.at nothing) (slice_get-get_or c.args.entries.now c.back.at nothing c.back.invariant.inside) c.in-Earlier.is in
    let same : get_or c.args.entries.now c.in-Earlier.number nothing ≡ led.1.0 = get_or_from_slice_get c.args.entries.now c.in-Earlier.number led.1.0 nothing led.1.1 in
    subst (λ (b : ℕ). b < length c.args.blocks.now) (sym (ap (λ (e : ReachedBlock). e.block) same)) (subst (λ (l : List Block). led.1.0.block < length l) c.requires.blocks led.1.2)

pub link_to-requires-clause-leads : goal.link_to-requires-clause-leads
link_to-requires-clause-leads g c = λ d.
    let word_at = g.W.Words.word_at c.args.words.now in
    let index = g.L.Lookup.index c.args.lookup.now in
    let at : ReachedBlock = get_or c.args.entries.now c.back.at nothing in
    let led = c.requires.led c.back.at c.in-Earlier.number at (slice_get-get_or c.args.entries.now c.back.at nothing c.back.invariant.inside) c.in-Earlier.is in
    let same : get_or c.args.entries.now c.in-Earlier.number nothing ≡ led.1.0 = get_or_from_slice_get c.args.entries.now c.in-Earlier.number led.1.0 nothing led.1.1 in
    subst (λ (b : ℕ). Has (block_targets word_at index (get_or c.args.blocks.now b d)) at.block) (sym (ap (λ (e : ReachedBlock). e.block) same))
    (subst (λ (l : List Block). Has (block_targets word_at index (get_or l led.1.0.block d)) at.block) c.requires.blocks (led.1.3 d))

pub back-init : goal.back-init
back-init g c = record {
  inside = c.requires.last;
  led = λ e x h k. subst (λ (l : List Link). AreLinks (g.W.Words.word_at c.args.words.now) (g.L.Lookup.index c.args.lookup.now) e.block l x.block) (sym c.requires.none) (ap (λ (y : ReachedBlock). y.block) (same_entry c.args.entries.now c.args.last x e k h));
  steps = λ d a. subst (λ (n : ℕ). IsAt c.args.entries.now n c.args.last) (let z = ap (λ (l : List Link). length l) c.requires.none in let e : d ≡ length c.args.links.now.items + d = omega arith in e) a;
}

pub back-preserved : goal.back-preserved
back-preserved g c =
    let word_at = g.W.Words.word_at c.args.words.now in
    let index = g.L.Lookup.index c.args.lookup.now in
    let at : ReachedBlock = get_or c.args.entries.now c.back.at nothing in
    let is = slice_get-get_or c.args.entries.now c.back.at nothing c.back.invariant.inside in
    let led = c.requires.led c.back.at c.in-Earlier.number at is c.in-Earlier.is in
    let same : get_or c.args.entries.now c.in-Earlier.number nothing ≡ led.1.0 = get_or_from_slice_get c.args.entries.now c.in-Earlier.number led.1.0 nothing led.1.1 in
    record {
      inside = slice_get_within c.args.entries.now c.in-Earlier.number led.1.0 led.1.1;
      led = λ e x h k.
          let holder_is : c.link_to.result.holder ≡ x.block = c.link_to.ensures.holder ∙ ap (λ (y : ReachedBlock). y.block) (same ∙ same_entry c.args.entries.now c.in-Earlier.number led.1.0 x led.1.1 k) in
          subst (λ (l : List Link). AreLinks word_at index e.block l x.block) (sym c.in_ok-push-in-Earlier.ensures.items)
          (subst (λ (b : ℕ). AreLinks word_at index e.block (c.back.links.items ++ c.link_to.result ∷ []) b) holder_is
          (links_more word_at index e.block c.back.links.items at.block c.link_to.result (c.back.invariant.led e at h is) c.link_to.ensures.link));
      steps = λ d a.
          let long = ap (λ (l : List Link). length l) c.in_ok-push-in-Earlier.ensures.items in
          let more = length-append c.back.links.items (c.link_to.result ∷ []) in
          subst (λ (n : ℕ). IsAt c.args.entries.now n c.args.last) (let e : length c.back.links.items + suc d ≡ length c.push.new.self.items + d = omega arith in e)
          (c.back.invariant.steps (suc d) (at, c.in-Earlier.number, is, c.in-Earlier.is, a));
    }

pub returns-in-Root : goal.returns-in-Root
returns-in-Root g c =
    let at : ReachedBlock = get_or c.args.entries.now c.back.at nothing in
    let is = slice_get-get_or c.args.entries.now c.back.at nothing c.back.invariant.inside in
    record {
      number = c.back.at;
      entry = at;
      is_entry = is;
      source = c.in-Root.is;
      is_first = refl;
      led = λ e h. c.back.invariant.led e at h is;
      at = subst (λ (n : ℕ). IsAt c.args.entries.now n c.args.last) (let e : length c.back.links.items + 0 ≡ length c.back.links.items = omega arith in e)
          (c.back.invariant.steps 0 (at, c.in-Root.origin, is, c.in-Root.is));
    }
