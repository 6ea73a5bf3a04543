-- Each row is computed.
use Rattle.std.proofs.Common.{inl, inr, refl}
use Rattle.clap.specs.Faults.{defaults_fault, flags_fault, walk_fault}
use Rattle.clap.specs.Walk.{bundle_met, walked}
use Rattle.leak_request_examples.proofs.RefusalTests.{shows}
use Rattle.leak_request_examples.proofs.lines.worked_texts.Goals as goal

pub returns : goal.returns
unfolding defaults_fault flags_fault walk_fault bundle_met walked
returns c = record {
  help = shows _ _ (inl refl) refl;
  version = shows _ _ (inr refl) refl;
  help_of_one = shows _ _ (inl refl) refl;
}
