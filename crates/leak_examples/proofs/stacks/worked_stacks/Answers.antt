-- Each row is computed.
use Rattle.std.proofs.Common.{refl}
use Rattle.leak_stacks.specs.Stacks.{made_from, own_stack, stack_of}
use Rattle.leak_stacks.specs.Lows.{low_of}
use Rattle.leak_stacks.specs.Dead.{words_within}
use Rattle.leak_examples.proofs.stacks.worked_stacks.Goals as goal

pub returns : goal.returns
unfolding made_from own_stack stack_of low_of words_within
returns c = record {
  below_rsp = refl;
  below_red_zone = refl;
  half_above_rsp = refl;
  half_below_rsp = refl;
  odd_begin = refl;
  no_record = refl;
  two_records = refl;
  fs_base_below_rsp = refl;
  ends_at_fs_base = refl;
  ends_above_fs_base = refl;
  ends_far_above_fs_base = refl;
  begins_above_rsp = refl;
  past_the_last_address = refl;
  first_stack = refl;
  random_elsewhere = refl;
  random_below_rsp = refl;
  record_before_first = refl;
  two_threads = refl;
  no_room = refl;
  signal_frame = refl;
  disarming_frame = refl;
  padded_flags = refl;
  other_flags = refl;
  frame_above_rsp = refl;
}
