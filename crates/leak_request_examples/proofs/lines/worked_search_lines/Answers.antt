-- Each row is computed.
use Rattle.std.proofs.Common.{None, Some, refl, codes, arith}
use Rattle.std.specs.Fmt.{digits}
use Rattle.clap.specs.Faults.{defaults_fault, flags_fault, walk_fault}
use Rattle.clap.specs.Walk.{bundle_met, walked}
use Rattle.leak_request_examples.proofs.SearchTests.{sees_search}
use Rattle.leak_request_examples.proofs.lines.worked_search_lines.Goals as goal

pub returns : goal.returns
unfolding digits defaults_fault flags_fault walk_fault bundle_met walked
returns c = record {
  one = sees_search _ _ _ _ _ _ None (codes "4") (codes "512") (codes "1024") refl refl refl (record { workers_text = refl; piece_text = refl; stack_text = refl; workers_between = record { from = omega arith; to = omega arith }; piece_between = record { from = omega arith; to = omega arith }; stack_small = omega arith }) refl;
  two = sees_search _ _ _ _ _ _ None (codes "4") (codes "512") (codes "1024") refl refl refl (record { workers_text = refl; piece_text = refl; stack_text = refl; workers_between = record { from = omega arith; to = omega arith }; piece_between = record { from = omega arith; to = omega arith }; stack_small = omega arith }) refl;
  numbers = sees_search _ _ _ _ _ _ None (codes "4") (codes "1") (codes "0") refl refl refl (record { workers_text = refl; piece_text = refl; stack_text = refl; workers_between = record { from = omega arith; to = omega arith }; piece_between = record { from = omega arith; to = omega arith }; stack_small = omega arith }) refl;
  largest = sees_search _ _ _ _ _ _ None (codes "64") (codes "65536") (codes "65536") refl refl refl (record { workers_text = refl; piece_text = refl; stack_text = refl; workers_between = record { from = omega arith; to = omega arith }; piece_between = record { from = omega arith; to = omega arith }; stack_small = omega arith }) refl;
  displaced = sees_search _ _ _ _ _ _ (Some (codes "8,16")) (codes "2") (codes "512") (codes "1024") refl refl (refl, refl) (record { workers_text = refl; piece_text = refl; stack_text = refl; workers_between = record { from = omega arith; to = omega arith }; piece_between = record { from = omega arith; to = omega arith }; stack_small = omega arith }) refl;
  options_before_paths = sees_search _ _ _ _ _ _ (Some (codes "0")) (codes "1") (codes "512") (codes "1024") refl refl (refl, refl) (record { workers_text = refl; piece_text = refl; stack_text = refl; workers_between = record { from = omega arith; to = omega arith }; piece_between = record { from = omega arith; to = omega arith }; stack_small = omega arith }) refl;
  ends = sees_search _ _ _ _ _ _ None (codes "4") (codes "512") (codes "1024") refl refl refl (record { workers_text = refl; piece_text = refl; stack_text = refl; workers_between = record { from = omega arith; to = omega arith }; piece_between = record { from = omega arith; to = omega arith }; stack_small = omega arith }) refl;
  freed = sees_search _ _ _ _ _ _ None (codes "4") (codes "512") (codes "1024") refl refl refl (record { workers_text = refl; piece_text = refl; stack_text = refl; workers_between = record { from = omega arith; to = omega arith }; piece_between = record { from = omega arith; to = omega arith }; stack_small = omega arith }) refl;
  links = sees_search _ _ _ _ _ _ None (codes "4") (codes "512") (codes "1024") refl refl refl (record { workers_text = refl; piece_text = refl; stack_text = refl; workers_between = record { from = omega arith; to = omega arith }; piece_between = record { from = omega arith; to = omega arith }; stack_small = omega arith }) refl;
  slack = sees_search _ _ _ _ _ _ None (codes "4") (codes "512") (codes "1024") refl refl refl (record { workers_text = refl; piece_text = refl; stack_text = refl; workers_between = record { from = omega arith; to = omega arith }; piece_between = record { from = omega arith; to = omega arith }; stack_small = omega arith }) refl;
  dead = sees_search _ _ _ _ _ _ None (codes "4") (codes "512") (codes "1024") refl refl refl (record { workers_text = refl; piece_text = refl; stack_text = refl; workers_between = record { from = omega arith; to = omega arith }; piece_between = record { from = omega arith; to = omega arith }; stack_small = omega arith }) refl;
  all_memory = sees_search _ _ _ _ _ _ None (codes "4") (codes "512") (codes "1024") refl refl refl (record { workers_text = refl; piece_text = refl; stack_text = refl; workers_between = record { from = omega arith; to = omega arith }; piece_between = record { from = omega arith; to = omega arith }; stack_small = omega arith }) refl;
  check = sees_search _ _ _ _ _ _ None (codes "4") (codes "512") (codes "1024") refl refl refl (record { workers_text = refl; piece_text = refl; stack_text = refl; workers_between = record { from = omega arith; to = omega arith }; piece_between = record { from = omega arith; to = omega arith }; stack_small = omega arith }) refl;
  other_heap = sees_search _ _ _ _ _ _ None (codes "4") (codes "512") (codes "1024") refl refl refl (record { workers_text = refl; piece_text = refl; stack_text = refl; workers_between = record { from = omega arith; to = omega arith }; piece_between = record { from = omega arith; to = omega arith }; stack_small = omega arith }) refl;
  strict = sees_search _ _ _ _ _ _ None (codes "4") (codes "512") (codes "1024") refl refl refl (record { workers_text = refl; piece_text = refl; stack_text = refl; workers_between = record { from = omega arith; to = omega arith }; piece_between = record { from = omega arith; to = omega arith }; stack_small = omega arith }) refl;
  all = sees_search _ _ _ _ _ _ (Some (codes "24")) (codes "4") (codes "512") (codes "1024") refl refl (refl, refl) (record { workers_text = refl; piece_text = refl; stack_text = refl; workers_between = record { from = omega arith; to = omega arith }; piece_between = record { from = omega arith; to = omega arith }; stack_small = omega arith }) refl;
}
