-- Each row is computed.
use Rattle.std.proofs.Common.{None, refl, [], ◌∷◌}
use Rattle.std.specs.Fmt.{digits}
use Rattle.clap.specs.Faults.{defaults_fault, flags_fault, walk_fault}
use Rattle.clap.specs.Walk.{bundle_met, walked}
use Rattle.leak_request_examples.proofs.RefusalTests.{refused_by_clap}
use Rattle.leak_request_examples.proofs.GrowTests.{sees_grow}
use Rattle.leak_request_examples.proofs.lines.worked_grow_lines.Goals as goal

pub returns : goal.returns
unfolding digits defaults_fault flags_fault walk_fault bundle_met walked
returns c = record {
  plain = sees_grow _ _ _ (None ∷ None ∷ None ∷ []) refl refl;
  strict = sees_grow _ _ _ (None ∷ None ∷ None ∷ []) refl refl;
  one_log = refused_by_clap _ refl;
  no_workers = refused_by_clap _ refl;
}
