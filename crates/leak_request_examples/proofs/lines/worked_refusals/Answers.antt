-- Each row is computed.
use Rattle.std.proofs.Common.{false, Some, refl, codes, [], ◌∷◌, arith}
use Rattle.std.specs.Fmt.{digits}
use Rattle.clap.specs.Faults.{defaults_fault, flags_fault, walk_fault}
use Rattle.clap.specs.Walk.{bundle_met, walked}
use Rattle.leak_index.specs.declared.error.ReadingError.TheVariants.{TooLarge, TooMany}
use Rattle.leak_request.specs.declared.fault.DisplaceFault.TheVariants.{Number, Reading}
use Rattle.leak_request_examples.specs.Requests.{by_default, one_input}
use Rattle.leak_request_examples.proofs.RefusalTests.{refused_by_clap, refuses_check, refuses_list}
use Rattle.leak_request_examples.proofs.lines.worked_refusals.Goals as goal

pub returns : goal.returns
unfolding digits defaults_fault flags_fault walk_fault bundle_met walked
returns c = record {
  empty_item = refuses_list _ false one_input by_default (codes "8,,16") (Number 1) (codes "4") (codes "512") (codes "1024") (Some (codes "false") ∷ Some (codes "false") ∷ Some (codes "false") ∷ Some (codes "false") ∷ Some (codes "false") ∷ Some (codes "false") ∷ Some (codes "false") ∷ Some (codes "false") ∷ Some (codes "false") ∷ []) refl refl (record { workers_text = refl; piece_text = refl; stack_text = refl; workers_between = record { from = omega arith; to = omega arith }; piece_between = record { from = omega arith; to = omega arith }; stack_small = omega arith }) refl;
  no_item = refuses_list _ false one_input by_default (codes "") (Number 0) (codes "4") (codes "512") (codes "1024") (Some (codes "false") ∷ Some (codes "false") ∷ Some (codes "false") ∷ Some (codes "false") ∷ Some (codes "false") ∷ Some (codes "false") ∷ Some (codes "false") ∷ Some (codes "false") ∷ Some (codes "false") ∷ []) refl refl (record { workers_text = refl; piece_text = refl; stack_text = refl; workers_between = record { from = omega arith; to = omega arith }; piece_between = record { from = omega arith; to = omega arith }; stack_small = omega arith }) refl;
  hexadecimal_item = refuses_list _ false one_input by_default (codes "0x8") (Number 0) (codes "4") (codes "512") (codes "1024") (Some (codes "false") ∷ Some (codes "false") ∷ Some (codes "false") ∷ Some (codes "false") ∷ Some (codes "false") ∷ Some (codes "false") ∷ Some (codes "false") ∷ Some (codes "false") ∷ Some (codes "false") ∷ []) refl refl (record { workers_text = refl; piece_text = refl; stack_text = refl; workers_between = record { from = omega arith; to = omega arith }; piece_between = record { from = omega arith; to = omega arith }; stack_small = omega arith }) refl;
  large_item = refuses_list _ false one_input by_default (codes "65536") (Reading (TooLarge 0)) (codes "4") (codes "512") (codes "1024") (Some (codes "false") ∷ Some (codes "false") ∷ Some (codes "false") ∷ Some (codes "false") ∷ Some (codes "false") ∷ Some (codes "false") ∷ Some (codes "false") ∷ Some (codes "false") ∷ Some (codes "false") ∷ []) refl refl (record { workers_text = refl; piece_text = refl; stack_text = refl; workers_between = record { from = omega arith; to = omega arith }; piece_between = record { from = omega arith; to = omega arith }; stack_small = omega arith }) refl;
  large_second = refuses_list _ false one_input by_default (codes "65535,65536") (Reading (TooLarge 1)) (codes "4") (codes "512") (codes "1024") (Some (codes "false") ∷ Some (codes "false") ∷ Some (codes "false") ∷ Some (codes "false") ∷ Some (codes "false") ∷ Some (codes "false") ∷ Some (codes "false") ∷ Some (codes "false") ∷ Some (codes "false") ∷ []) refl refl (record { workers_text = refl; piece_text = refl; stack_text = refl; workers_between = record { from = omega arith; to = omega arith }; piece_between = record { from = omega arith; to = omega arith }; stack_small = omega arith }) refl;
  seventeen_items = refuses_list _ false one_input by_default (codes "1,2,3,4,5,6,7,8,9,10,11,12,13,14,15,16,17") (Reading TooMany) (codes "4") (codes "512") (codes "1024") (Some (codes "false") ∷ Some (codes "false") ∷ Some (codes "false") ∷ Some (codes "false") ∷ Some (codes "false") ∷ Some (codes "false") ∷ Some (codes "false") ∷ Some (codes "false") ∷ Some (codes "false") ∷ []) refl refl (record { workers_text = refl; piece_text = refl; stack_text = refl; workers_between = record { from = omega arith; to = omega arith }; piece_between = record { from = omega arith; to = omega arith }; stack_small = omega arith }) refl;
  too_large_for_a_word = refuses_list _ false one_input by_default (codes "8,18446744073709551616") (Number 1) (codes "4") (codes "512") (codes "1024") (Some (codes "false") ∷ Some (codes "false") ∷ Some (codes "false") ∷ Some (codes "false") ∷ Some (codes "false") ∷ Some (codes "false") ∷ Some (codes "false") ∷ Some (codes "false") ∷ Some (codes "false") ∷ []) refl refl (record { workers_text = refl; piece_text = refl; stack_text = refl; workers_between = record { from = omega arith; to = omega arith }; piece_between = record { from = omega arith; to = omega arith }; stack_small = omega arith }) refl;
  check_of_other_heap = refuses_check _ false one_input by_default (Some (codes "false")) (Some (codes "false")) (Some (codes "false")) (Some (codes "false")) (Some (codes "false")) (Some (codes "false")) (Some (codes "false")) (codes "4") (codes "512") (codes "1024") refl refl (record { workers_text = refl; piece_text = refl; stack_text = refl; workers_between = record { from = omega arith; to = omega arith }; piece_between = record { from = omega arith; to = omega arith }; stack_small = omega arith });
  list_before_check = refuses_list _ false one_input by_default (codes "x") (Number 0) (codes "4") (codes "512") (codes "1024") (Some (codes "false") ∷ Some (codes "false") ∷ Some (codes "false") ∷ Some (codes "false") ∷ Some (codes "false") ∷ Some (codes "false") ∷ Some (codes "true") ∷ Some (codes "true") ∷ Some (codes "false") ∷ []) refl refl (record { workers_text = refl; piece_text = refl; stack_text = refl; workers_between = record { from = omega arith; to = omega arith }; piece_between = record { from = omega arith; to = omega arith }; stack_small = omega arith }) refl;
  no_log = refused_by_clap _ refl;
  path_too_many = refused_by_clap _ refl;
  no_subcommand = refused_by_clap _ refl;
  other_subcommand = refused_by_clap _ refl;
  no_worker = refused_by_clap _ refl;
  many_workers = refused_by_clap _ refl;
  hexadecimal_workers = refused_by_clap _ refl;
  no_piece = refused_by_clap _ refl;
  large_piece = refused_by_clap _ refl;
  large_stack = refused_by_clap _ refl;
  option_twice = refused_by_clap _ refl;
  unknown_option = refused_by_clap _ refl;
  three_paths_of_two = refused_by_clap _ refl;
}
