-- Each path so far was opened.
use Rattle.std.proofs.Common.{◌≡◌, length, map, string_bytes, take}
use Rattle.leak_program.specs.Opening.{AreOpened}
use Rattle.leak_program.proofs.opening.open_all.Given as goal

abbrev pub invariant-loop-path : goal.invariant-loop-path
invariant-loop-path g l = record {
  opened : AreOpened g.O.Opener.opens (map string_bytes (take l.path-index l.paths)) l.fn.opener l.files.items l.opener;
  count : length l.files.items ≡ l.path-index;
}
