-- From the lemmas of Accepted and Heads.
use Rattle.std.proofs.Common.{◌≡◌, ◌∙◌, ◌+◌, ◌++◌, inr, sym, ap, subst, List, [], length, None, Ok, Err, IfOk, Vec, Global, ℕ, length-append}
use Rattle.std.specs.Prelude.{OnOk, Result, replicate}
use Rattle.std.proofs.lemmas.Result.{err_from_is_err_and, IfErr-weaker, IfOk-weaker}
use Rattle.std.proofs.lemmas.List.{length-replicate}
use Rattle.leak_elf.specs.declared.error.ElfError.{ElfError}
use Rattle.leak_elf.specs.declared.header.Header.{Header}
use Rattle.leak_elf.specs.declared.segment.Segment.{Segment}
use Rattle.leak_elf.specs.Headers.{headers}
use Rattle.leak_elf.specs.Refusals.{faults_from}
use Rattle.leak_elf.specs.Segments.{segments_of, kept_of, AreKeptSegments}
use Rattle.leak_elf.proofs.Accepted.{accepted}
use Rattle.leak_elf.proofs.Faults.{by_length}
use Rattle.leak_elf.proofs.Heads.{accepts, refuses_file, refuses_header, same_segments}
use Rattle.leak_elf.proofs.first.segments_in.Goals as goal

-- the faults of the headers are those in any file of that length
of_file : (head rest : List ℕ) (len : ℕ) → length head + length rest ≡ len → faults_from (head ++ rest) [] 0 (headers head) ≡ faults_from (replicate len 0) [] 0 (headers head)
of_file head rest len is = by_length (head ++ rest) (replicate len 0) [] 0 (headers head) (length-append head rest ∙ is ∙ sym (length-replicate len 0))

pub returns-in_err-count-clause-refused : goal.returns-in_err-count-clause-refused
returns-in_err-count-clause-refused g c =
    let p = err_from_is_err_and c.from_residual.result c.from_residual.ensures.1 in
    rw (p.1, p.2) (λ n. refuses_file c.args.head.now g.rest c.in_err-count.field-0.0 (inr c.requires.0) c.in_err-count.ensures.refused)

on_ok : {T E : Type 0} (r : Result T E) (P Q : Type 0) → (P → Q) → OnOk r P → OnOk r Q
on_ok (Ok x) P Q f p = f p
on_ok (Err e) P Q f p = tt

both : (r : Result (Vec Segment Global) ElfError) (file : List ℕ) (hs : List Header) → IfOk r (λ v. v.items ≡ kept_of hs) → OnOk r (faults_from file [] 0 hs ≡ None) → IfOk r (λ v. AreKeptSegments v.items)
both (Ok v) file hs items fine = subst AreKeptSegments (sym items) (accepted file hs fine).kept
both (Err e) file hs items fine = tt

pub returns-clause-of_head : goal.returns-clause-of_head
unfolding segments_of
returns-clause-of_head g c =
    let hs : c.as_slice.result.now ≡ headers c.args.head.now = c.as_slice.ensures.value ∙ c.in_ok-headers.ensures.ok in
    IfOk-weaker c.check_headers.result _ _ (λ v e. e ∙ ap kept_of hs) c.check_headers.ensures.items

pub returns-clause-segments : goal.returns-clause-segments
unfolding segments_of
returns-clause-segments g c =
    let head = c.args.head.now in
    let hs : c.as_slice.result.now ≡ headers head = c.as_slice.ensures.value ∙ c.in_ok-headers.ensures.ok in
    IfOk-weaker c.check_headers.result _ _ (λ v e. e ∙ ap kept_of hs ∙ sym (same_segments head g.rest (inr c.requires.0))) c.check_headers.ensures.items

pub returns-clause-apart : goal.returns-clause-apart
returns-clause-apart g c = both c.check_headers.result (replicate c.args.len 0) _ c.check_headers.ensures.items c.check_headers.ensures.ok

pub returns-clause-ok : goal.returns-clause-ok
returns-clause-ok g c =
    let head = c.args.head.now in
    let hs : c.as_slice.result.now ≡ headers head = c.as_slice.ensures.value ∙ c.in_ok-headers.ensures.ok in
    on_ok c.check_headers.result _ _ (λ fine. accepts head g.rest (inr c.requires.0) c.in_ok-count.ensures.ok (of_file head g.rest c.args.len c.requires.1 ∙ rw (← hs) fine)) c.check_headers.ensures.ok

pub returns-clause-refused : goal.returns-clause-refused
returns-clause-refused g c =
    let head = c.args.head.now in
    let hs : c.as_slice.result.now ≡ headers head = c.as_slice.ensures.value ∙ c.in_ok-headers.ensures.ok in
    IfErr-weaker c.check_headers.result _ _ (λ e is n. refuses_header head g.rest e (inr c.requires.0) c.in_ok-count.ensures.ok (of_file head g.rest c.args.len c.requires.1 ∙ rw (← hs) (is n))) c.check_headers.ensures.refused
