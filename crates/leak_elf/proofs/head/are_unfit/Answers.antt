-- One more header.
use Rattle.std.proofs.Common.{◌≡◌, ℕ, ◌+◌, ◌*◌, ◌<◌, ◌∷◌, [], ◌∙◌, sym, ap, refl, arith, true, false, map, get_or}
use Rattle.std.specs.List.{list_any, range_with_len}
use Rattle.std.proofs.lemmas.List.FromFn.{map-range_with_len_more, length-map-range_with_len, get_or-map-range_with_len}
use Rattle.std.proofs.lemmas.List.Folds.{list_any-append, list_any_at}
use Rattle.leak_elf.specs.declared.header.Header.{Header}
use Rattle.leak_elf.specs.Fields.{e_phoff}
use Rattle.leak_elf.specs.Headers.{header_at, header_count, headers}
use Rattle.leak_elf.specs.HeadLength.{is_unfit}
use Rattle.leak_elf.proofs.head.are_unfit.Goals as goal

pub returns-then-is_unfit : goal.returns-then-is_unfit
unfolding headers
returns-then-is_unfit c =
    let bytes = c.args.bytes.now in
    let n = header_count bytes in
    let f : ℕ → Header = λ i. header_at bytes (e_phoff bytes + 56 * i) in
    let count = c.requires.count in
    let i : c.loop-i.i < n = omega (arith, c.loop-i-test.true) in
    let none = c.read_header.result in
    let header : c.read_header.result ≡ f c.loop-i.i = rw (c.read_header.ensures, c.u64_at-start.ensures) refl in
    let got : get_or (map f (range_with_len 0 n)) c.loop-i.i none ≡ f c.loop-i.i = get_or-map-range_with_len f 0 n c.loop-i.i c.loop-i.i none i (omega arith) in
    let unfit : is_unfit c.args.head (get_or (map f (range_with_len 0 n)) c.loop-i.i none) ≡ true = ap (is_unfit c.args.head) (got ∙ sym header) ∙ sym c.is_unfit.ensures ∙ c.if-is_unfit.true in
    sym (list_any_at (is_unfit c.args.head) (map f (range_with_len 0 n)) c.loop-i.i none (omega (arith, length-map-range_with_len f 0 n)) unfit)

pub loop-i-preserved : goal.loop-i-preserved
loop-i-preserved c =
    let bytes = c.args.bytes.now in
    let f : ℕ → Header = λ i. header_at bytes (e_phoff bytes + 56 * i) in
    let header : c.read_header.result ≡ f c.loop-i.i = rw (c.read_header.ensures, c.u64_at-start.ensures) refl in
    let more = map-range_with_len_more f 0 c.loop-i.i c.loop-i.i (omega arith) in
    let fit : is_unfit c.args.head (f c.loop-i.i) ≡ false = ap (is_unfit c.args.head) (sym header) ∙ sym c.is_unfit.ensures ∙ c.if-is_unfit.false in
    ap (list_any (is_unfit c.args.head)) more ∙ list_any-append (is_unfit c.args.head) (map f (range_with_len 0 c.loop-i.i)) (f c.loop-i.i ∷ []) ∙ rw (c.loop-i.invariant, fit) refl

pub returns : goal.returns
unfolding headers
returns c =
    let bytes = c.args.bytes.now in
    let f : ℕ → Header = λ i. header_at bytes (e_phoff bytes + 56 * i) in
    let all : c.loop-i.i ≡ header_count bytes = omega (arith, c.loop-i-test.false, c.loop-i.auto.i-end, c.requires.count) in
    sym (ap (λ (n : ℕ). list_any (is_unfit c.args.head) (map f (range_with_len 0 n))) (sym all) ∙ c.loop-i.invariant)
