-- Each row is computed.
use Rattle.std.proofs.Common.{refl}
use Rattle.std.specs.Fmt.{digits}
use Rattle.leak_examples.proofs.why.register_names.Goals as goal

pub returns : goal.returns
unfolding digits
returns c = record {
  first = refl;
  rbp = refl;
  rbx = refl;
  rax = refl;
  orig_rax = refl;
  rip = refl;
  rsp = refl;
  last = refl;
  first_x87 = refl;
  high_x87 = refl;
  last_x87 = refl;
  first_xmm = refl;
  high_xmm = refl;
  last_xmm = refl;
  first_state = refl;
  second_state = refl;
  last_state = refl;
  second_thread = refl;
  third_thread = refl;
  vector_of_third = refl;
  before_statuses = refl;
  of_no_entry = refl;
}
