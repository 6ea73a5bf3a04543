-- From the lemmas of WordLemmas.
use Rattle.std.proofs.Common.{◌<◌, ℕ, List, IsSome, length, slice_get, ap, sym, ◌∙◌, subst, refl, get_or, arith}
use Rattle.std.proofs.lemmas.Option.{slice_get-get_or}
use Rattle.leak_roots.specs.Places.{addresses_in, memory_places}
use Rattle.leak_pool.specs.Marking.{led_in_memory}
use Rattle.leak_scan.specs.Targets.{targets_of}
use Rattle.leak_marks.specs.Lists.{Has}
use Rattle.leak_why.specs.declared.reached_block.Origin.{Origin}
use Rattle.leak_why.specs.declared.reached_block.Origin.TheVariants.{Range}
use Rattle.leak_why.specs.ReachedBlocks.{IsOrigin, led_of_origin}
use Rattle.leak_why.proofs.WordLemmas.{none_listed, none_place, place_in}
use Rattle.leak_why.proofs.tracing.root_of.Goals as goal

pub unreachable-requires : goal.unreachable-requires
unreachable-requires g c =
    let word_at = g.W.Words.word_at c.args.words.now in
    let index = g.L.Lookup.index c.args.lookup.now in
    none_listed index c.registers-registers.result.now c.args.block c.in_default.ensures.none
    (subst (λ (l : List ℕ). Has (targets_of index l) c.args.block) (sym c.registers-registers.ensures)
    (subst (λ (o : Origin). Has (led_of_origin word_at index c.args.roots.now o) c.args.block) c.in-Registers.is c.requires.leads))

pub unreachable-requires-in_default-first_root_word : goal.unreachable-requires-in_default-first_root_word
unreachable-requires-in_default-first_root_word g c =
    let word_at = g.W.Words.word_at c.args.words.now in
    let index = g.L.Lookup.index c.args.lookup.now in
    none_place c.args.roots.now.skips_links word_at index (get_or c.memory.result.now c.in-Range.i (0, 0)) c.args.block c.in_default-first_root_word.ensures.none
    (subst (λ (l : List (ℕ × ℕ)). Has (led_in_memory c.args.roots.now.skips_links word_at index (addresses_in (get_or l c.in-Range.i (0, 0)))) c.args.block) (sym c.memory.ensures.value)
    (subst (λ (o : Origin). Has (led_of_origin word_at index c.args.roots.now o) c.args.block) c.in-Range.is c.requires.leads))

pub returns-in-Some : goal.returns-in-Some
returns-in-Some g c = record {
  stands = ap (λ (l : List ℕ). slice_get l c.in-Some.i) (sym c.registers-registers.ensures) ∙ slice_get-get_or c.registers-registers.result.now c.in-Some.i 0 c.in-Some.ensures.some.0;
  leads = c.in-Some.ensures.some.1;
}

pub returns-in-Some-first_root_word : goal.returns-in-Some-first_root_word
returns-in-Some-first_root_word g c =
    let found = c.in-Some-first_root_word.ensures.some in
    let inside : c.in-Range.i < length c.args.roots.now.memory = subst (λ (o : Origin). IsOrigin c.args.roots.now o) c.in-Range.is c.requires.origin in
    let low : c.in-Range.i < length c.memory.result.now = (let e = ap (λ (l : List (ℕ × ℕ)). length l) c.memory.ensures.value in omega arith) in
    let aligned = g.met.W.Words.aligned c.args.words.now c.in-Some-first_root_word.address (subst (λ o. IsSome o) (sym found.word_is) refl) in record {
      stands = (subst (λ (l : List (ℕ × ℕ)). Has (memory_places l) c.in-Some-first_root_word.address) c.memory.ensures.value (place_in c.memory.result.now c.in-Range.i (0, 0) c.in-Some-first_root_word.address low c.memory.ensures.ranges aligned found.from_start found.to_end), found.word_is);
      leads = found.leads;
    }
