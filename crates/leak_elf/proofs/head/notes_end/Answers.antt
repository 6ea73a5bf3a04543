-- One more header.
use Rattle.std.proofs.Common.{◌≡◌, ℕ, ◌+◌, ◌*◌, ◌∙◌, sym, ap, refl, subst, arith, [], ◌∷◌, ◌++◌, max, List, map}
use Rattle.std.specs.List.{range_with_len}
use Rattle.std.proofs.lemmas.List.FromFn.{map-range_with_len_more}
use Rattle.leak_elf.specs.declared.header.Header.{Header}
use Rattle.leak_elf.specs.Fields.{e_phoff}
use Rattle.leak_elf.specs.Headers.{header_at, header_count, headers}
use Rattle.leak_elf.specs.HeadLength.{note_end, IsNotesEnd}
use Rattle.leak_elf.proofs.HeadLengths.{notes_end_more}
use Rattle.leak_elf.proofs.head.notes_end.Goals as goal

pub loop-i-preserved : goal.loop-i-preserved
loop-i-preserved c =
    let bytes = c.args.bytes.now in
    let f : ℕ → Header = λ i. header_at bytes (e_phoff bytes + 56 * i) in
    let header : c.read_header.result ≡ f c.loop-i.i = rw (c.read_header.ensures, c.u64_at-start.ensures) refl in
    let more = map-range_with_len_more f 0 c.loop-i.i c.loop-i.i (omega arith) in
    let end : max c.loop-i.end (note_end (f c.loop-i.i)) ≡ c.max-end.result = ap (λ (h : Header). max c.loop-i.end (note_end h)) (sym header) ∙ ap (max c.loop-i.end) (sym c.note_end.ensures.value) ∙ sym c.max-end.ensures in
    let step = notes_end_more (map f (range_with_len 0 c.loop-i.i)) (f c.loop-i.i) c.args.from c.loop-i.end c.loop-i.invariant.so_far in
    let so_far : IsNotesEnd (map f (range_with_len 0 c.loop-i.i) ++ f c.loop-i.i ∷ []) c.args.from c.max-end.result = subst (IsNotesEnd (map f (range_with_len 0 c.loop-i.i) ++ f c.loop-i.i ∷ []) c.args.from) end step in
    record { so_far = subst (λ (hs : List Header). IsNotesEnd hs c.args.from c.max-end.result) (sym more) so_far; bound = omega (arith, c.max-end.ensures, c.note_end.ensures.bound, c.loop-i.invariant.bound) }

pub returns-clause-value : goal.returns-clause-value
unfolding headers
returns-clause-value c =
    let bytes = c.args.bytes.now in
    let f : ℕ → Header = λ i. header_at bytes (e_phoff bytes + 56 * i) in
    let all : c.loop-i.i ≡ header_count bytes = omega (arith, c.loop-i-test.false, c.loop-i.auto.i-end, c.requires.count) in
    subst (λ (n : ℕ). IsNotesEnd (map f (range_with_len 0 n)) c.args.from c.loop-i.end) all c.loop-i.invariant.so_far
