-- From the lemmas of Held and Split.
use Rattle.std.proofs.Common.{ℕ, arith, get_or, ◌++◌, ◌+◌, ◌-◌, sym, ap, ◌∙◌, eq-eqb, false, Some, refl}
use Rattle.std.specs.Int.{w64}
use Rattle.leak_elf.specs.declared.segment.Segment.{Segment}
use Rattle.leak_elf.proofs.Heads.{number_front}
use Rattle.leak_elf.proofs.Held.{not_held, word_none, word_odd, word_some, no_word_at}
use Rattle.leak_elf.proofs.Split.{BeginsAt, front_ends, word_behind}
use Rattle.leak_elf.proofs.search.find_word.Goals as goal

abbrev empty : Segment
empty = record { vaddr = 0; memsz = 0; offset = 0; filesz = 0; writable = false }

pub returns-then-count-eq0-clause-value : goal.returns-then-count-eq0-clause-value
returns-then-count-eq0-clause-value g c =
    let file = c.args.held.now ++ g.R.Rest.bytes c.args.rest.now in
    sym (word_none file c.args.segments.now c.args.addr empty (λ k l. not_held c.args.addr (get_or c.args.segments.now k empty) (λ p q. let r = c.count_up_to-count.ensures.beyond k empty (omega arith) l in omega arith)))

pub returns-then-saturating_sub-lt8-clause-value : goal.returns-then-saturating_sub-lt8-clause-value
returns-then-saturating_sub-lt8-clause-value g c =
    let file = c.args.held.now ++ g.R.Rest.bytes c.args.rest.now in
    let n = c.count_up_to-count.ensures in
    sym (no_word_at file c.args.segments.now c.args.addr c.count_up_to-count.result empty c.requires.of_file.kept n.within n.bound n.beyond (omega arith))

pub returns-then-addr-ne0-clause-value : goal.returns-then-addr-ne0-clause-value
returns-then-addr-ne0-clause-value g c =
    let file = c.args.held.now ++ g.R.Rest.bytes c.args.rest.now in
    sym (word_odd file c.args.segments.now c.args.addr c.if-addr-ne0.true)

pub returns-then-at-held-clause-value : goal.returns-then-at-held-clause-value
returns-then-at-held-clause-value g c =
    let held = c.args.held.now in
    let rest = g.R.Rest.bytes c.args.rest.now in
    let segs = c.args.segments.now in
    let i = c.count_up_to-count.result - 1 in
    let s = get_or segs i empty in
    let at = s.offset + (c.args.addr - s.vaddr) in
    let low = c.count_up_to-count.ensures.within i empty (omega arith) in
    let begins : BeginsAt s c.args.addr at = (low, omega arith, refl) in
    c.word.ensures ∙ word_behind held rest segs i empty c.args.addr at c.requires c.if-addr-ne0.false (omega arith) begins (omega arith)
    ∙ sym (word_some (held ++ rest) segs c.args.addr i empty c.requires.of_file.kept (eq-eqb _ _ c.if-addr-ne0.false) (omega arith) low (omega arith))

pub u64_at-requires : goal.u64_at-requires
u64_at-requires g c =
    let held = c.args.held.now in
    let rest = g.R.Rest.bytes c.args.rest.now in
    let segs = c.args.segments.now in
    let i = c.count_up_to-count.result - 1 in
    let s = get_or segs i empty in
    let at = s.offset + (c.args.addr - s.vaddr) in
    let low = c.count_up_to-count.ensures.within i empty (omega arith) in
    let begins : BeginsAt s c.args.addr at = (low, omega arith, refl) in
    front_ends held rest segs i empty c.args.addr at c.requires c.if-addr-ne0.false (omega arith) begins (omega arith)

pub returns-clause-value : goal.returns-clause-value
returns-clause-value g c =
    let held = c.args.held.now in
    let rest = g.R.Rest.bytes c.args.rest.now in
    let segs = c.args.segments.now in
    let i = c.count_up_to-count.result - 1 in
    let s = get_or segs i empty in
    let at = s.offset + (c.args.addr - s.vaddr) in
    let low = c.count_up_to-count.ensures.within i empty (omega arith) in
    let begins : BeginsAt s c.args.addr at = (low, omega arith, refl) in
    let ends = front_ends held rest segs i empty c.args.addr at c.requires c.if-addr-ne0.false (omega arith) begins (omega arith) in
    ap (λ (x : ℕ). Some x) (c.u64_at.ensures ∙ sym (number_front w64 held rest at ends))
    ∙ sym (word_some (held ++ rest) segs c.args.addr i empty c.requires.of_file.kept (eq-eqb _ _ c.if-addr-ne0.false) (omega arith) low (omega arith))
