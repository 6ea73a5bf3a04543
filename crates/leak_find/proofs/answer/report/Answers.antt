-- The answer is what was found.
use Rattle.std.proofs.Common.{ap, subst, sym, Bool}
use Rattle.leak_find.specs.Answers.{Finds}
use Rattle.leak_find.specs.Inputs.{bytes_of}
use Rattle.leak_find.specs.declared.answer.Answer.{Answer}
use Rattle.leak_find.proofs.answer.report.Goals as goal

pub returns-in-Ok-clause-ok : goal.returns-in-Ok-clause-ok
returns-in-Ok-clause-ok g c = record {
  found = c.in-Ok.found;
  finds = subst (λ (b : Bool). Finds b c.args.options.now (bytes_of c.args.inputs.now) c.in-Ok.found) (sym c.requires.two) c.in-Ok.ensures.ok;
  text = ap (λ (a : Answer). a.text.items) c.answer_of.ensures;
  leaked = ap (λ (a : Answer). a.leaked) c.answer_of.ensures;
  signs = rw (c.answer_of.ensures) c.in-Ok.ensures.signs;
}
