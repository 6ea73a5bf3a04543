-- From lemmas of std.
use Rattle.std.proofs.Common.{◌≡◌, ℕ, ◌+◌, ◌++◌, ◌<◌, List, length, drop, get_or, flat_map, string_bytes, sym, ap, ◌∙◌, append_assoc, add-one, drop-cons}
use Rattle.std.proofs.lemmas.List.{append-nil, drop_all}
use Rattle.std.specs.List.{enumerate_from}
use Rattle.leak_report.specs.declared.signs.Signs.{Signs}
use Rattle.leak_report.specs.Warnings.{input_warnings, warnings_of}
use Rattle.leak_report.proofs.warning.warnings.Goals as goal

-- the warnings from one input on are its own and those of the later ones
next_input : (signs : List Signs) (i : ℕ) (none : Signs) → i < length signs
    → flat_map (λ s. input_warnings (s.0 + 1) s.1) (enumerate_from i (drop i signs))
    ≡ input_warnings (i + 1) (get_or signs i none) ++ flat_map (λ s. input_warnings (s.0 + 1) s.1) (enumerate_from (i + 1) (drop (i + 1) signs))
next_input signs i none l =
    ap (λ ss. flat_map (λ s. input_warnings (s.0 + 1) s.1) (enumerate_from i ss)) (drop-cons signs i none l)
    ∙ ap (λ n. input_warnings (i + 1) (get_or signs i none) ++ flat_map (λ s. input_warnings (s.0 + 1) s.1) (enumerate_from (i + 1) (drop n signs))) (sym (add-one i))

pub loop-i-init : goal.loop-i-init
unfolding warnings_of
loop-i-init c = ap (λ o. o ++ flat_map (λ s. input_warnings (s.0 + 1) s.1) (enumerate_from 0 c.args.signs.now)) c.new-out.ensures.bytes

pub loop-i-preserved : goal.loop-i-preserved
loop-i-preserved c =
    let none : Signs = record { live = 0; torn = 0; unknown = 0; displaced = 0; misfits = 0 } in
    ap (λ o. o ++ flat_map (λ s. input_warnings (s.0 + 1) s.1) (enumerate_from (c.loop-i.i + 1) (drop (c.loop-i.i + 1) c.args.signs.now))) c.in_ok-push_input.ensures
    ∙ append_assoc (string_bytes c.loop-i.out) (input_warnings (c.loop-i.i + 1) (get_or c.args.signs.now c.loop-i.i none)) (flat_map (λ s. input_warnings (s.0 + 1) s.1) (enumerate_from (c.loop-i.i + 1) (drop (c.loop-i.i + 1) c.args.signs.now)))
    ∙ ap (λ o. string_bytes c.loop-i.out ++ o) (sym (next_input c.args.signs.now c.loop-i.i none c.loop-i-test.true))
    ∙ c.loop-i.invariant

pub returns : goal.returns
returns c =
    sym (append-nil (string_bytes c.loop-i.out))
    ∙ ap (λ ss. string_bytes c.loop-i.out ++ flat_map (λ s. input_warnings (s.0 + 1) s.1) (enumerate_from c.loop-i.i ss)) (sym (drop_all c.loop-i.i c.args.signs.now c.loop-i-test.false))
    ∙ c.loop-i.invariant
