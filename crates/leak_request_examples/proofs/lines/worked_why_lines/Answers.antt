-- Each row is computed.
use Rattle.std.proofs.Common.{None, Some, refl, codes, [], ◌∷◌}
use Rattle.std.specs.Fmt.{digits}
use Rattle.clap.specs.Faults.{defaults_fault, flags_fault, walk_fault}
use Rattle.clap.specs.Walk.{bundle_met, walked}
use Rattle.leak_request.specs.declared.fault.DisplaceFault.TheVariants.{Number}
use Rattle.leak_request_examples.specs.Requests.{one_input}
use Rattle.leak_request_examples.proofs.RefusalTests.{refused_by_clap}
use Rattle.leak_request_examples.proofs.QuestionTests.{refuses_address, refuses_why_list, sees_why}
use Rattle.leak_request_examples.proofs.lines.worked_why_lines.Goals as goal

pub returns : goal.returns
unfolding digits defaults_fault flags_fault walk_fault bundle_met walked
returns c = record {
  address = sees_why _ _ _ _ _ None (codes "10100") (None ∷ None ∷ None ∷ []) refl refl refl refl refl refl;
  both_cases = sees_why _ _ _ _ _ None (codes "aBcDeF0123456789") (None ∷ None ∷ None ∷ []) refl refl refl refl refl refl;
  one_digit = sees_why _ _ _ _ _ None (codes "0") (None ∷ None ∷ None ∷ []) refl refl refl refl refl refl;
  all = sees_why _ _ _ _ _ (Some (codes "8,16")) (codes "10100") (None ∷ None ∷ None ∷ []) refl refl (refl, refl) refl refl refl;
  decimal_address = refuses_address _ one_input (codes "10100") (Some (codes "false")) (Some (codes "false")) (Some (codes "false")) (Some (codes "false")) (Some (codes "false")) (Some (codes "false")) (None ∷ None ∷ None ∷ []) refl refl refl;
  no_digit = refuses_address _ one_input (codes "0x") (Some (codes "false")) (Some (codes "false")) (Some (codes "false")) (Some (codes "false")) (Some (codes "false")) (Some (codes "false")) (None ∷ None ∷ None ∷ []) refl refl refl;
  seventeen_digits = refuses_address _ one_input (codes "0x00000000000010100") (Some (codes "false")) (Some (codes "false")) (Some (codes "false")) (Some (codes "false")) (Some (codes "false")) (Some (codes "false")) (None ∷ None ∷ None ∷ []) refl refl refl;
  another_letter = refuses_address _ one_input (codes "0x1g") (Some (codes "false")) (Some (codes "false")) (Some (codes "false")) (Some (codes "false")) (Some (codes "false")) (Some (codes "false")) (None ∷ None ∷ None ∷ []) refl refl refl;
  upper_prefix = refuses_address _ one_input (codes "0X10100") (Some (codes "false")) (Some (codes "false")) (Some (codes "false")) (Some (codes "false")) (Some (codes "false")) (Some (codes "false")) (None ∷ None ∷ None ∷ []) refl refl refl;
  list_first = refuses_why_list _ one_input (codes "8,,16") (codes "10100") (Number 1) (Some (codes "false")) (Some (codes "false")) (Some (codes "false")) (Some (codes "false")) (Some (codes "false")) (Some (codes "false")) (None ∷ None ∷ None ∷ []) refl refl refl;
  no_address = refused_by_clap _ refl;
  no_workers = refused_by_clap _ refl;
  strict = sees_why _ _ _ _ _ None (codes "10100") (None ∷ None ∷ None ∷ []) refl refl refl refl refl refl;
  other_heap = sees_why _ _ _ _ _ None (codes "10100") (None ∷ None ∷ None ∷ []) refl refl refl refl refl refl;
  no_check = refused_by_clap _ refl;
}
