-- A word of a file whose first bytes are held lies in them or behind them.
use Rattle.std.proofs.Common.{◌≡◌, ℕ, ◌+◌, ◌-◌, ◌%◌, ◌<◌, ◌≤◌, inl, inr, List, ◌++◌, length, get_or, Some, sym, ap, arith, length-append, eq-eqb}
use Rattle.std.specs.Int.{w64}
use Rattle.std.proofs.lemmas.Bool.{le-leb}
use Rattle.leak_elf.specs.declared.segment.Segment.{Segment}
use Rattle.leak_elf.specs.Fields.{number_at}
use Rattle.leak_elf.specs.Head.{aligned_number_at, AreSplit}
use Rattle.leak_elf.proofs.Heads.{number_behind}

-- the word at the address begins at the offset
abbrev pub BeginsAt : Segment → ℕ → ℕ → Type 0
BeginsAt s addr at = (s.vaddr ≤ addr) × (addr + 8 ≤ s.vaddr + s.filesz) × (at ≡ s.offset + (addr - s.vaddr))

pub word_ends : (held rest : List ℕ) (segs : List Segment) (i : ℕ) (d : Segment) (addr at : ℕ) → AreSplit held rest segs → i < length segs → BeginsAt (get_or segs i d) addr at → at + 8 ≤ length held + length rest
word_ends held rest segs i d addr at split l b =
    let e = split.of_file.dumped i d l (omega (arith, b)) in
    omega (arith, b, e, length-append held rest)

at_multiple : (n offset vaddr addr at : ℕ) → n % 8 ≡ 0 → addr % 8 ≡ 0 → offset % 8 ≡ vaddr % 8 → vaddr ≤ addr → at ≡ offset + (addr - vaddr) → at % 8 ≡ 0
at_multiple n offset vaddr addr at m a e l p = omega arith

-- in them
pub front_ends : (held rest : List ℕ) (segs : List Segment) (i : ℕ) (d : Segment) (addr at : ℕ) → AreSplit held rest segs → addr % 8 ≡ 0 → i < length segs → BeginsAt (get_or segs i d) addr at → at < length held → at + 8 ≤ length held
front_ends held rest segs i d addr at split m l b in_front =
    let ends = word_ends held rest segs i d addr at split l b in
    elim split.words [
      | inl e ↦ let none : length rest ≡ 0 = ap length e in omega arith
      | inr w ↦
          let same = w.1 i d l (omega (arith, b)) in
          let multiple = at_multiple (length held) (get_or segs i d).offset (get_or segs i d).vaddr addr at w.0 m same b.0 b.2 in
          let n = w.0 in omega arith
    ]

-- behind them
pub multiple_behind : (held rest : List ℕ) (segs : List Segment) (i : ℕ) (d : Segment) (addr at : ℕ) → AreSplit held rest segs → addr % 8 ≡ 0 → i < length segs → BeginsAt (get_or segs i d) addr at → length held ≤ at → (at - length held) % 8 ≡ 0
multiple_behind held rest segs i d addr at split m l b behind =
    let ends = word_ends held rest segs i d addr at split l b in
    elim split.words [
      | inl e ↦ let none : length rest ≡ 0 = ap length e in absurd (omega arith)
      | inr w ↦
          let same = w.1 i d l (omega (arith, b)) in
          let multiple = at_multiple (length held) (get_or segs i d).offset (get_or segs i d).vaddr addr at w.0 m same b.0 b.2 in
          let n = w.0 in omega arith
    ]

pub word_behind : (held rest : List ℕ) (segs : List Segment) (i : ℕ) (d : Segment) (addr at : ℕ) → AreSplit held rest segs → addr % 8 ≡ 0 → i < length segs → BeginsAt (get_or segs i d) addr at → length held ≤ at
    → aligned_number_at rest (at - length held) ≡ Some (number_at w64 (held ++ rest) at)
unfolding aligned_number_at
word_behind held rest segs i d addr at split m l b behind =
    let ends = word_ends held rest segs i d addr at split l b in
    elim split.words [
      | inl e ↦ let none : length rest ≡ 0 = ap length e in absurd (omega arith)
      | inr w ↦
          let same = w.1 i d l (omega (arith, b)) in
          let multiple = at_multiple (length held) (get_or segs i d).offset (get_or segs i d).vaddr addr at w.0 m same b.0 b.2 in
          let n = w.0 in
          let even : (at - length held) % 8 ≡ 0 = omega arith in
          let fits : at - length held + 8 ≤ length rest = omega arith in
          rw (eq-eqb _ _ even, le-leb _ _ fits) (ap (λ (x : ℕ). Some x) (sym (number_behind held rest at behind)))
    ]
