-- Each row is computed.
use Rattle.std.proofs.Common.{true, false, None, Some, refl, codes, [], ◌∷◌, arith}
use Rattle.std.specs.Fmt.{digits}
use Rattle.clap.specs.Faults.{defaults_fault, flags_fault, walk_fault}
use Rattle.clap.specs.Walk.{bundle_met, walked}
use Rattle.leak_holders.specs.declared.question.Side.TheVariants.{In, Of}
use Rattle.leak_request.specs.declared.fault.DisplaceFault.TheVariants.{Number}
use Rattle.leak_request.specs.declared.fault.AddressArgument.TheVariants as argument
use Rattle.leak_request.specs.declared.fault.UsageFault.TheVariants.{Address, Block, Sides}
use Rattle.leak_request_examples.specs.Requests.{by_default, one_input}
use Rattle.leak_request_examples.proofs.RefusalTests.{refused_by_clap}
use Rattle.leak_request_examples.proofs.HoldersTests.{asks_question, no_question, sees_holders}
use Rattle.leak_request_examples.proofs.RefusedQuestionTests.{refuses_block, refuses_held, refuses_holders_list, refuses_question, refuses_sides}
use Rattle.leak_request_examples.proofs.lines.worked_holders_lines.Goals as goal

pub returns : goal.returns
unfolding digits defaults_fault flags_fault walk_fault bundle_met walked
returns c = record {
  plain = sees_holders _ _ _ _ _ _ _ None None None false (codes "4") (codes "512") (codes "1024") refl refl refl (record { workers_text = refl; piece_text = refl; stack_text = refl; workers_between = record { from = omega arith; to = omega arith }; piece_between = record { from = omega arith; to = omega arith }; stack_small = omega arith }) refl (λ rows a b f. no_question rows a b f);
  since = sees_holders _ _ _ _ _ _ _ None None None false (codes "4") (codes "512") (codes "1024") refl refl refl (record { workers_text = refl; piece_text = refl; stack_text = refl; workers_between = record { from = omega arith; to = omega arith }; piece_between = record { from = omega arith; to = omega arith }; stack_small = omega arith }) refl (λ rows a b f. no_question rows a b f);
  held = sees_holders _ _ _ _ _ _ _ None (Some (codes "0x10200")) None false (codes "4") (codes "512") (codes "1024") refl refl refl (record { workers_text = refl; piece_text = refl; stack_text = refl; workers_between = record { from = omega arith; to = omega arith }; piece_between = record { from = omega arith; to = omega arith }; stack_small = omega arith }) refl (λ rows a b f. asks_question rows In (codes "10200") _ _ a b refl refl f);
  held_by_one = sees_holders _ _ _ _ _ _ _ None (Some (codes "0x10200")) None true (codes "4") (codes "512") (codes "1024") refl refl refl (record { workers_text = refl; piece_text = refl; stack_text = refl; workers_between = record { from = omega arith; to = omega arith }; piece_between = record { from = omega arith; to = omega arith }; stack_small = omega arith }) refl (λ rows a b f. asks_question rows In (codes "10200") _ _ a b refl refl f);
  holding = sees_holders _ _ _ _ _ _ _ None None (Some (codes "0x10510")) false (codes "4") (codes "512") (codes "1024") refl refl refl (record { workers_text = refl; piece_text = refl; stack_text = refl; workers_between = record { from = omega arith; to = omega arith }; piece_between = record { from = omega arith; to = omega arith }; stack_small = omega arith }) refl (λ rows a b f. asks_question rows Of (codes "10510") _ _ b a refl refl f);
  all = sees_holders _ _ _ _ _ _ _ (Some (codes "8")) None (Some (codes "0x10510")) true (codes "8") (codes "2") (codes "3") refl refl (refl, refl) (record { workers_text = refl; piece_text = refl; stack_text = refl; workers_between = record { from = omega arith; to = omega arith }; piece_between = record { from = omega arith; to = omega arith }; stack_small = omega arith }) refl (λ rows a b f. asks_question rows Of (codes "10510") _ _ b a refl refl f);
  both_sides = refuses_question _ one_input by_default Sides (Some (codes "0x10200")) (Some (codes "0x10510")) false (Some (codes "false")) (Some (codes "false")) (Some (codes "false")) (Some (codes "false")) (Some (codes "false")) (Some (codes "false")) (Some (codes "false")) (Some (codes "false")) None (codes "4") (codes "512") (codes "1024") refl refl (record { workers_text = refl; piece_text = refl; stack_text = refl; workers_between = record { from = omega arith; to = omega arith }; piece_between = record { from = omega arith; to = omega arith }; stack_small = omega arith }) tt (λ rows a b f. refuses_sides rows _ _ false a b f);
  block_alone = refuses_question _ one_input by_default Block None None true (Some (codes "false")) (Some (codes "false")) (Some (codes "false")) (Some (codes "false")) (Some (codes "false")) (Some (codes "false")) (Some (codes "false")) (Some (codes "false")) None (codes "4") (codes "512") (codes "1024") refl refl (record { workers_text = refl; piece_text = refl; stack_text = refl; workers_between = record { from = omega arith; to = omega arith }; piece_between = record { from = omega arith; to = omega arith }; stack_small = omega arith }) tt (λ rows a b f. refuses_block rows a b f);
  bad_address = refuses_question _ one_input by_default (Address argument.In) (Some (codes "10200")) None false (Some (codes "false")) (Some (codes "false")) (Some (codes "false")) (Some (codes "false")) (Some (codes "false")) (Some (codes "false")) (Some (codes "false")) (Some (codes "false")) None (codes "4") (codes "512") (codes "1024") refl refl (record { workers_text = refl; piece_text = refl; stack_text = refl; workers_between = record { from = omega arith; to = omega arith }; piece_between = record { from = omega arith; to = omega arith }; stack_small = omega arith }) tt (λ rows a b f. refuses_held rows _ false refl a b f);
  list_first = refuses_holders_list _ one_input by_default (codes "x") (Number 0) (codes "4") (codes "512") (codes "1024") (Some (codes "false") ∷ Some (codes "false") ∷ Some (codes "false") ∷ Some (codes "false") ∷ Some (codes "false") ∷ Some (codes "false") ∷ Some (codes "false") ∷ Some (codes "false") ∷ None ∷ None ∷ None ∷ Some (codes "true") ∷ []) refl refl (record { workers_text = refl; piece_text = refl; stack_text = refl; workers_between = record { from = omega arith; to = omega arith }; piece_between = record { from = omega arith; to = omega arith }; stack_small = omega arith }) refl;
  no_check = refused_by_clap _ refl;
}
