-- From the lemmas of Accepted and Heads.
use Rattle.std.proofs.Common.{◌≡◌, ◌∙◌, ◌+◌, ◌<◌, ◌^◌, ◌++◌, ◌%◌, ◌⊎◌, sym, ap, subst, refl, List, [], length, map, filter, None, length-append, ℕ, arith}
use Rattle.std.specs.Prelude.{replicate}
use Rattle.std.proofs.lemmas.List.{length-replicate}
use Rattle.std.proofs.lemmas.Result.{err_from_is_err_and}
use Rattle.leak_elf.specs.declared.header.Header.{Header}
use Rattle.leak_elf.specs.declared.segment.Segment.{Segment}
use Rattle.leak_elf.specs.Head.{AreAligned}
use Rattle.leak_elf.specs.Headers.{headers, is_note}
use Rattle.leak_elf.specs.Refusals.{faults_from}
use Rattle.leak_elf.specs.Segments.{segments_of, note_parts_of, kept_of, part_of, AreSegments, AreParts}
use Rattle.leak_elf.specs.Words.{AreHolders}
use Rattle.leak_elf.proofs.Accepted.{accepted, parts_accepted}
use Rattle.leak_elf.proofs.Faults.{by_length}
use Rattle.leak_elf.proofs.Heads.{accepts, refuses_file, refuses_header, same_segments, same_parts, parts_held, words_held}
use Rattle.leak_elf.proofs.image.Image.passed.Goals as goal

-- the faults of the headers are those in any file as long as what is held and the rest
of_file : (held rest : List ℕ) (n : ℕ) → n ≡ length rest → faults_from (held ++ rest) [] 0 (headers held) ≡ faults_from (replicate (length held + n) 0) [] 0 (headers held)
of_file held rest n is = by_length (held ++ rest) (replicate (length held + n) 0) [] 0 (headers held) (length-append held rest ∙ omega (arith, is, length-replicate {A = ℕ} (length held + n) 0))

pub returns-in_err-count-clause-refused : goal.returns-in_err-count-clause-refused
returns-in_err-count-clause-refused g c =
    let p = err_from_is_err_and c.from_residual.result c.from_residual.ensures.1 in
    rw (p.1, p.2) (λ n. refuses_file c.args.held.now (g.R.Rest.bytes c.args.rest) c.in_err-count.field-0.0 c.requires c.in_err-count.ensures.refused)

pub returns-in_err-segments-clause-refused : goal.returns-in_err-segments-clause-refused
returns-in_err-segments-clause-refused g c =
    let held = c.args.held.now in
    let rest = g.R.Rest.bytes c.args.rest in
    let x = c.in_err-segments.field-0.0 in
    let hs : c.as_slice.result.now ≡ headers held = c.as_slice.ensures.value ∙ c.in_ok-headers.ensures.ok in
    let p = err_from_is_err_and c.from_residual-in_err-segments.result c.from_residual-in_err-segments.ensures.1 in
    rw (p.1, p.2) (λ n. refuses_header held rest x c.requires c.in_ok-count.ensures.ok (of_file held rest c.len.result c.len.ensures.value ∙ rw (← hs) (c.in_err-segments.ensures.refused n)))

pub returns-clause-ok : goal.returns-clause-ok
returns-clause-ok g c =
    let held = c.args.held.now in
    let rest = g.R.Rest.bytes c.args.rest in
    let hs : c.as_slice.result.now ≡ headers held = c.as_slice.ensures.value ∙ c.in_ok-headers.ensures.ok in
    let faults : faults_from (held ++ rest) [] 0 (headers held) ≡ None = of_file held rest c.len.result c.len.ensures.value ∙ rw (← hs) c.in_ok-segments.ensures.ok in
    (refl, accepts held rest c.requires c.in_ok-count.ensures.ok faults)

pub invariant_of-result : goal.invariant_of-result
unfolding segments_of note_parts_of
invariant_of-result g c =
    let held = c.args.held.now in
    let rest = g.R.Rest.bytes c.args.rest in
    let file = held ++ rest in
    let segments = c.in_ok-segments.segments.items in
    let parts = c.in_ok-parts.parts.items in
    let hs : c.as_slice.result.now ≡ headers held = c.as_slice.ensures.value ∙ c.in_ok-headers.ensures.ok in
    let hs4 : c.as_slice-4.result.now ≡ headers held = c.as_slice-4.ensures.value ∙ c.in_ok-headers.ensures.ok in
    let len : length held + c.len.result ≡ length (held ++ rest) = rw (c.len.ensures.value, length-append held rest) refl in
    let faults : faults_from (held ++ rest) [] 0 (headers held) ≡ None = of_file held rest c.len.result c.len.ensures.value ∙ rw (← hs) c.in_ok-segments.ensures.ok in
    let kept : segments ≡ segments_of held = c.in_ok-segments.ensures.items ∙ ap kept_of hs in
    let notes : parts ≡ note_parts_of held = c.in_ok-parts.ensures ∙ ap (λ (xs : List Header). map part_of (filter is_note xs)) hs4 in
    let of_file : AreSegments file segments = subst (AreSegments file) (sym kept) (accepted file (headers held) faults) in
    let words : (rest ≡ []) ⊎ ((length held % 8 ≡ 0) × AreAligned segments) = subst (λ (xs : List Segment). (rest ≡ []) ⊎ ((length held % 8 ≡ 0) × AreAligned xs)) (sym kept) (words_held held rest c.requires) in
    let lie : AreParts held parts = subst (AreParts held) (sym notes) (parts_held held rest c.requires (parts_accepted file (headers held) faults)) in
    let holders : AreHolders segments c.in_ok-holders.holders.items = subst (λ (xs : List Segment). AreHolders xs c.in_ok-holders.holders.items) c.as_slice-2.ensures.value c.in_ok-holders.ensures in
    let size : length file < 2 ^ 64 = let b = c.len.ensures.bound in omega (arith, len) in
    (accepts held rest c.requires c.in_ok-count.ensures.ok faults, kept ∙ sym (same_segments held rest c.requires), notes ∙ sym (same_parts held rest c.requires), record { of_file = of_file; size = size; words = words }, lie, holders)

pub find_holders-requires : goal.find_holders-requires
find_holders-requires g c =
    let held = c.args.held.now in
    let rest = g.R.Rest.bytes c.args.rest in
    let hs : c.as_slice.result.now ≡ headers held = c.as_slice.ensures.value ∙ c.in_ok-headers.ensures.ok in
    let faults : faults_from (held ++ rest) [] 0 (headers held) ≡ None = of_file held rest c.len.result c.len.ensures.value ∙ rw (← hs) c.in_ok-segments.ensures.ok in
    let kept = c.as_slice-2.ensures.value ∙ c.in_ok-segments.ensures.items ∙ ap kept_of hs in
    (subst (AreSegments (held ++ rest)) (sym kept) (accepted (held ++ rest) (headers held) faults)).kept
