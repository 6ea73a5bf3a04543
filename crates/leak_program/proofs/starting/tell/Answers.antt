-- From what the calls promise.
use Rattle.std.proofs.Common.{◌≡◌, ◌∙◌, inl, inr, refl, rules, subst}
use Rattle.leak_find.specs.Streams.{IsTried, by_writes}
use Rattle.leak_program.specs.declared.failure.Failure.TheVariants.{NoMemory}
use Rattle.leak_program.proofs.starting.tell.Goals as goal

pub returns-in-Ok : goal.returns-in-Ok
returns-in-Ok g c = record {
  told = c.args.failure.now;
  told_is = inl refl;
  said = let same : c.deref.result.now ≡ c.in-Ok.text.items = search rules in
      subst (λ text. IsTried (by_writes g.V.WriteCalls.calls) text c.args.warner.now c.say.new.warner) (same ∙ c.in-Ok.ensures) c.say.ensures;
}

pub returns-in-Err : goal.returns-in-Err
returns-in-Err g c = record {
  told = NoMemory;
  told_is = inr refl;
  said = c.say-in-Err.ensures;
}
