-- From the lemmas of WordLemmas and EntryLemmas.
use Rattle.std.proofs.Common.{◌≡◌, ◌∙◌, ℕ, List, Some, length, map, slice_get, sym, ap, subst, refl, true≢false, arith}
use Rattle.std.proofs.lemmas.List.{length-map}
use Rattle.std.proofs.lemmas.Option.{slice_get_within}
use Rattle.leak_marks.specs.Lists.{Has}
use Rattle.leak_why.specs.declared.chain.Link.{Link}
use Rattle.leak_why.specs.declared.reached_block.ReachedBlock.{ReachedBlock}
use Rattle.leak_why.specs.ReachedBlocks.{AreLinks, AreLedByBlocks, IsAt, led_of_origin}
use Rattle.leak_why.proofs.WordLemmas.{chain_blocks}
use Rattle.leak_why.proofs.ReachedBlockLemmas.{none_chain, no_shorter}
use Rattle.leak_why.proofs.FoundLemmas.{chain_of_links}
use Rattle.leak_why.proofs.why_block.why.Goals as goal

pub returns-in_default-clause-why : goal.returns-in_default-clause-why
returns-in_default-clause-why g c = λ root links chain.
    let word_at = g.W.Words.word_at c.args.words.now in
    let index = g.L.Lookup.index c.args.lookup.now in
    none_chain word_at index c.args.roots.now c.in_ok-entries.entries.items c.args.block c.in_ok-entries.ensures
    (λ i e h. c.in_default.ensures.none i e (ap (λ (l : List ReachedBlock). slice_get l i) c.as_slice.ensures.value ∙ h))
    (map (λ l. l.holder) links) (chain_blocks word_at index c.args.roots.now root links c.args.block chain)

pub returns-in_default-clause-reach : goal.returns-in_default-clause-reach
returns-in_default-clause-reach g c = (
  λ e. absurd (true≢false (sym e)),
  λ r. absurd (none_chain (g.W.Words.word_at c.args.words.now) (g.L.Lookup.index c.args.lookup.now) c.args.roots.now c.in_ok-entries.entries.items c.args.block c.in_ok-entries.ensures
      (λ i e h. c.in_default.ensures.none i e (ap (λ (l : List ReachedBlock). slice_get l i) c.as_slice.ensures.value ∙ h)) r.0 r.1),
)

pub trace-requires-clause-last : goal.trace-requires-clause-last
trace-requires-clause-last g c =
    let found = c.in-Some.ensures.some in
    slice_get_within c.deref.result.now c.in-Some.last found.0 (ap (λ (l : List ReachedBlock). slice_get l c.in-Some.last) (c.deref.ensures.value ∙ sym c.as_slice.ensures.value) ∙ found.1)

pub trace-requires-clause-led : goal.trace-requires-clause-led
trace-requires-clause-led g c =
    subst (λ (l : List ReachedBlock). AreLedByBlocks (g.W.Words.word_at c.args.words.now) (g.L.Lookup.index c.args.lookup.now) l) (sym c.deref.ensures.value) c.in_ok-entries.ensures.followed.by_blocks

pub root_of-root-requires-clause-origin : goal.root_of-root-requires-clause-origin
root_of-root-requires-clause-origin g c =
    let t = c.in_ok-origin.ensures in
    (c.in_ok-entries.ensures.followed.by_roots t.number t.entry c.in_ok-origin.origin (ap (λ (l : List ReachedBlock). slice_get l t.number) (sym c.deref.ensures.value) ∙ t.is_entry) t.source).0

pub root_of-root-requires-clause-leads : goal.root_of-root-requires-clause-leads
root_of-root-requires-clause-leads g c =
    let t = c.in_ok-origin.ensures in
    subst (λ (b : ℕ). Has (led_of_origin (g.W.Words.word_at c.args.words.now) (g.L.Lookup.index c.args.lookup.now) c.args.roots.now c.in_ok-origin.origin) b) t.is_first
    (c.in_ok-entries.ensures.followed.by_roots t.number t.entry c.in_ok-origin.origin (ap (λ (l : List ReachedBlock). slice_get l t.number) (sym c.deref.ensures.value) ∙ t.is_entry) t.source).1

pub returns-clause-why : goal.returns-clause-why
returns-clause-why g c =
    let word_at = g.W.Words.word_at c.args.words.now in
    let index = g.L.Lookup.index c.args.lookup.now in
    let es : List ReachedBlock = c.in_ok-entries.entries.items in
    let t = c.in_ok-origin.ensures in
    let found = c.in-Some.ensures.some in
    let is : slice_get es c.in-Some.last ≡ Some found.0 = ap (λ (l : List ReachedBlock). slice_get l c.in-Some.last) (sym c.as_slice.ensures.value) ∙ found.1 in
    let there : slice_get c.deref.result.now c.in-Some.last ≡ Some found.0 = ap (λ (l : List ReachedBlock). slice_get l c.in-Some.last) c.deref.ensures.value ∙ is in
    record {
      is_chain = chain_of_links word_at index c.args.roots.now c.root_of-root.result c.args.block c.trace.new.links.items c.in_ok-origin.first
          (subst (λ (b : ℕ). AreLinks word_at index b c.trace.new.links.items c.in_ok-origin.first) found.2 (t.led found.0 there)) c.root_of-root.ensures;
      shortest = λ root links chain.
          let l = length-map links (λ (x : Link). x.holder) in
          let r = no_shorter word_at index c.args.roots.now es c.args.block c.in-Some.last (length c.trace.new.links.items) found.0 c.in_ok-entries.ensures is found.2
          (subst (λ (xs : List ReachedBlock). IsAt xs (length c.trace.new.links.items) c.in-Some.last) c.deref.ensures.value t.at)
          (map (λ x. x.holder) links) (chain_blocks word_at index c.args.roots.now root links c.args.block chain) in omega arith;
    }

pub returns-clause-reach : goal.returns-clause-reach
returns-clause-reach g c =
    let word_at = g.W.Words.word_at c.args.words.now in
    let index = g.L.Lookup.index c.args.lookup.now in
    let t = c.in_ok-origin.ensures in
    let found = c.in-Some.ensures.some in
    let there : slice_get c.deref.result.now c.in-Some.last ≡ Some found.0 = ap (λ (l : List ReachedBlock). slice_get l c.in-Some.last) (c.deref.ensures.value ∙ sym c.as_slice.ensures.value) ∙ found.1 in
    let chain = chain_of_links word_at index c.args.roots.now c.root_of-root.result c.args.block c.trace.new.links.items c.in_ok-origin.first
    (subst (λ (b : ℕ). AreLinks word_at index b c.trace.new.links.items c.in_ok-origin.first) found.2 (t.led found.0 there)) c.root_of-root.ensures in
    (λ e. (map (λ x. x.holder) c.trace.new.links.items, chain_blocks word_at index c.args.roots.now c.root_of-root.result c.trace.new.links.items c.args.block chain), λ r. refl)
