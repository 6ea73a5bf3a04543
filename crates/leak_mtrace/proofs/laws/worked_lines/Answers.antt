-- Each line by its case.
use Rattle.std.proofs.Common.{◌≡◌, ℕ, inl, inr, refl, codes, List, [], ◌∷◌, arith}
use Rattle.leak_mtrace.specs.Line.{IsLine}
use Rattle.leak_mtrace.proofs.laws.worked_lines.Goals as goal

no_cons : {x : ℕ} {xs : List ℕ} → x ∷ xs ≡ [] → ⊥
no_cons e = cc

pub returns : goal.returns
unfolding IsLine
returns c = record {
  nothing = inl (inl refl, refl);
  start = inl (inr refl, refl);
  plain = inr (inl ((codes "0x10100", codes "0x20", refl, inr (codes "10100", refl, omega arith, omega arith, refl, refl), inr (codes "20", refl, omega arith, omega arith, refl, refl)), refl));
  caller = inr (inr (codes "./a b]c:(main+0x1c)[0x113c]", codes "+ 0x10100 0x20", refl, (λ e. absurd (no_cons e), refl), (codes "0x10100", codes "0x20", refl, inr (codes "10100", refl, omega arith, omega arith, refl, refl), inr (codes "20", refl, omega arith, omega arith, refl, refl)), refl));
  freed = inr (inr (codes "[0x401136]", codes "- 0x10100", refl, (λ e. absurd (no_cons e), refl), (codes "0x10100", refl, inr (codes "10100", refl, omega arith, omega arith, refl, refl), refl), refl));
  moved_in = inr (inl ((codes "0x10200", codes "0", refl, inr (codes "10200", refl, omega arith, omega arith, refl, refl), inl (refl, refl)), refl));
  nil = inr (inl ((codes "(nil)", codes "0x10", refl, inl (refl, refl), inr (codes "10", refl, omega arith, omega arith, refl, refl)), refl));
  no_bracket = inr (inr (codes "./a.out", codes "+ 0x10100 0x20", refl, (λ e. absurd (no_cons e), refl), (codes "0x10100", codes "0x20", refl, inr (codes "10100", refl, omega arith, omega arith, refl, refl), inr (codes "20", refl, omega arith, omega arith, refl, refl)), refl));
  moved_out = inr (inl ((codes "0x10100", refl, inr (codes "10100", refl, omega arith, omega arith, refl, refl), refl), refl));
  failed = inr (inl ((codes "0x10100", codes "0xffffffffffffffff", refl, inr (codes "10100", refl, omega arith, omega arith, refl, refl), inr (codes "ffffffffffffffff", refl, omega arith, omega arith, refl, refl)), refl));
  freed_nil = inr (inl ((codes "(nil)", refl, inl (refl, refl), refl), refl));
  zeros = inr (inl ((codes "0x0", codes "0x0", refl, inr (codes "0", refl, omega arith, omega arith, refl, refl), inr (codes "0", refl, omega arith, omega arith, refl, refl)), refl));
  space = inr (inr (codes " ", codes "+ 0x1 0x1", refl, (λ e. absurd (no_cons e), refl), (codes "0x1", codes "0x1", refl, inr (codes "1", refl, omega arith, omega arith, refl, refl), inr (codes "1", refl, omega arith, omega arith, refl, refl)), refl));
}
