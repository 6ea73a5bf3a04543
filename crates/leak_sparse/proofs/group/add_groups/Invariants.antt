-- The groups so far are appended.
use Rattle.std.proofs.Common.{◌≡◌, ◌+◌, ◌++◌, map, take, vec_len, vec_capacity}
use Rattle.leak_sparse.specs.Groups.{moved}
use Rattle.leak_sparse.proofs.group.add_groups.Given as goal

abbrev pub invariant-loop-group : goal.invariant-loop-group
invariant-loop-group l = record {
  items : l.groups.items ≡ l.fn.groups.items ++ map (moved l.before) (take l.group-index l.more);
  count : vec_len l.groups ≡ vec_len l.fn.groups + l.group-index;
  room : vec_capacity l.groups ≡ vec_capacity l.fn.groups;
}
