-- From the lemmas of PieceLemmas.
use Rattle.std.proofs.Common.{◌≡◌, ◌∙◌, ap, sym, flat_map, true≢false}
use Rattle.leak_elf.specs.Words.{word_of}
use Rattle.leak_later.specs.Differing.{differs}
use Rattle.leak_later.proofs.PieceLemmas.{passing, cover_bounds, passing_found, are_differing}
use Rattle.leak_later.proofs.comparing.differing.Goals as goal

pub collect-requires-clause-ready : goal.collect-requires-clause-ready
collect-requires-clause-ready g c κs within =
    rw (c.map.ensures.base, c.with_min_len.ensures.base, c.par_iter.ensures)
    (λ k d h x e. (rw e (cover_bounds (word_of c.args.second.now) 0 c.in_ok-pieces.pieces.items c.in_ok-pieces.ensures k d h), λ y p. tt))

pub unreachable-requires : goal.unreachable-requires
unreachable-requires g c =
    let chain = rw (c.map.ensures.base, c.map.ensures.f, c.with_min_len.ensures.base, c.par_iter.ensures) at c.in_ok-collect.ensures in
    let p = differs (word_of c.args.first.now) (word_of c.args.second.now) in
    let pieces = c.in_ok-pieces.pieces.items in
    let numbers : c.in_ok-numbers.numbers.items ≡ passing p pieces =
    c.in_ok-numbers.ensures ∙ ap (λ ls. flat_map (λ v. v.items) ls) c.deref.ensures.value
    ∙ passing_found p pieces chain.1.0 chain.0 c.in_ok-collect.field-0 _ c.in_ok-found.found chain.1.1 chain.1.2 chain.2 c.in_ok-found.was in
    absurd (true≢false (sym (c.in-None.ensures.some.1 (rw numbers (are_differing (word_of c.args.first.now) (word_of c.args.second.now) pieces c.in_ok-pieces.ensures).ascending))))

pub returns : goal.returns
returns g c =
    let chain = rw (c.map.ensures.base, c.map.ensures.f, c.with_min_len.ensures.base, c.par_iter.ensures) at c.in_ok-collect.ensures in
    let p = differs (word_of c.args.first.now) (word_of c.args.second.now) in
    let pieces = c.in_ok-pieces.pieces.items in
    let numbers : c.in_ok-numbers.numbers.items ≡ passing p pieces =
    c.in_ok-numbers.ensures ∙ ap (λ ls. flat_map (λ v. v.items) ls) c.deref.ensures.value
    ∙ passing_found p pieces chain.1.0 chain.0 c.in_ok-collect.field-0 _ c.in_ok-found.found chain.1.1 chain.1.2 chain.2 c.in_ok-found.was in
    rw (c.in-Some.ensures.value ∙ numbers) (are_differing (word_of c.args.first.now) (word_of c.args.second.now) pieces c.in_ok-pieces.ensures)
