-- With the warnings of the inputs that are still to come, the text is complete.
use Rattle.std.proofs.Common.{◌≡◌, ◌+◌, ◌++◌, drop, flat_map, string_bytes}
use Rattle.std.specs.List.{enumerate_from}
use Rattle.leak_report.specs.Warnings.{input_warnings, warnings_of}
use Rattle.leak_report.proofs.warning.warnings.Given as goal

abbrev pub invariant-loop-i : goal.invariant-loop-i
invariant-loop-i l =
    string_bytes l.out ++ flat_map (λ s. input_warnings (s.0 + 1) s.1) (enumerate_from l.i (drop l.i l.signs)) ≡ warnings_of l.signs
