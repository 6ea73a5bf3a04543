-- The first fault is the first of all faults.
use Rattle.std.proofs.Common.{◌≡◌, ℕ, ◌+◌, Bool, true, false, cond, List, [], ◌∷◌, ◌++◌, length, take, Option, Some, refl, sym, ap, ◌∙◌, append_assoc, length-append, arith}
use Rattle.std.proofs.Math.Seq.{take-append_seam}
use Rattle.std.specs.List.{flat_map, enumerate_from}
use Rattle.std.specs.Option.{option_or}
use Rattle.leak_elf.specs.declared.error.ElfError.{ElfError}
use Rattle.leak_elf.specs.declared.header.Header.{Header}
use Rattle.leak_elf.specs.Headers.{headers}
use Rattle.leak_elf.specs.Refusals.{first_fault, file_faults, file_fault, header_faults, header_fault, faults_from, fault_of}
use Rattle.leak_elf.specs.Plain.{plain_fault_of}

first_or : {E : Type 0} (b : Bool) (e : E) (x y : Option E) → cond b (Some e) (option_or x y) ≡ option_or (cond b (Some e) x) y
first_or true e x y = refl
first_or false e x y = refl

pub first_fault-append : {E : Type 0} (xs ys : List (Bool × E)) → first_fault (xs ++ ys) ≡ option_or (first_fault xs) (first_fault ys)
first_fault-append [] ys = refl
first_fault-append (c ∷ cs) ys = ap (cond c.0 (Some c.1)) (first_fault-append cs ys) ∙ first_or c.0 c.1 (first_fault cs) (first_fault ys)

abbrev faults : List ℕ → List Header → ℕ × Header → List (Bool × ElfError)
faults file all h = header_faults file (take h.0 all) h.0 h.1

seam : (all before hs : List Header) (i : ℕ) → all ≡ before ++ hs → length before ≡ i → take i all ≡ before
seam all before hs i e l = rw (e, ← l) (take-append_seam before hs)

from_plain : (file : List ℕ) (all before hs : List Header) (i : ℕ) → all ≡ before ++ hs → length before ≡ i → faults_from file before i hs ≡ first_fault (flat_map (faults file all) (enumerate_from i hs))
unfolding header_fault
from_plain file all before [] i e l = refl
from_plain file all before (h ∷ hs) i e l =
    let rest = from_plain file all (before ++ h ∷ []) hs (i + 1) (e ∙ sym (append_assoc before (h ∷ []) hs)) (length-append before (h ∷ []) ∙ omega (arith, l)) in
    ap (option_or (header_fault file before i h)) rest
    ∙ ap (λ (xs : List Header). option_or (first_fault (header_faults file xs i h)) (first_fault (flat_map (faults file all) (enumerate_from (i + 1) hs)))) (sym (seam all before (h ∷ hs) i e l))
    ∙ sym (first_fault-append (faults file all (i, h)) (flat_map (faults file all) (enumerate_from (i + 1) hs)))

pub fault_plain : (file : List ℕ) → fault_of file ≡ plain_fault_of file
unfolding fault_of plain_fault_of file_fault
fault_plain file =
    ap (option_or (first_fault (file_faults file))) (from_plain file (headers file) [] (headers file) 0 refl refl)
    ∙ sym (first_fault-append (file_faults file) (flat_map (faults file (headers file)) (enumerate_from 0 (headers file))))
