-- From the lemmas of InputLemmas.
use Rattle.std.proofs.Common.{◌≡◌, ◌++◌, ◌∷◌, [], ◌∙◌, ◌<◌, ap, length, rules, subst, sym}
use Rattle.std.proofs.lemmas.List.{length-map, map-append}
use Rattle.std.proofs.lemmas.Result.{err_from_is_err_and}
use Rattle.leak_find.specs.Inputs.{AreRead, bytes_of}
use Rattle.leak_find.specs.Streams.{by_reads}
use Rattle.leak_find.specs.Tasks.{limit_at}
use Rattle.leak_find.proofs.InputLemmas.{one_next, refused_next}
use Rattle.leak_find.proofs.reading.read_inputs.Goals as goal

pub returns-in_err-input-clause-refused : goal.returns-in_err-input-clause-refused
returns-in_err-input-clause-refused g c =
    let p = err_from_is_err_and c.from_residual.result c.from_residual.ensures.1 in
    let there : c.loop-number.number < length c.args.readers.now = search rules in
    rw (p.1, p.2) (refused_next (by_reads g.R.ReadCalls.calls) (limit_at c.args.task.now) c.args.readers.now c.loop-number.readers c.read_reader.new.readers (bytes_of c.loop-number.inputs.items)
    c.loop-number.number c.limit_at-limit.result _ c.loop-number.invariant.read (length-map c.loop-number.inputs.items _ ∙ c.loop-number.invariant.count) (search rules) there c.in_err-input.ensures.refused)

pub loop-number-preserved : goal.loop-number-preserved
loop-number-preserved g c =
    let source = by_reads g.R.ReadCalls.calls in
    let pushed : bytes_of c.push.new.self.items ≡ bytes_of c.loop-number.inputs.items ++ c.in_ok-input.input.items ∷ [] =
    ap bytes_of c.push.ensures.items ∙ map-append (λ input. input.items) c.loop-number.inputs.items (c.in_ok-input.input ∷ []) in
    record {
      read = subst (AreRead source (limit_at c.args.task.now) c.args.readers.now c.read_reader.new.readers) (sym pushed)
          (one_next source (limit_at c.args.task.now) c.args.readers.now c.loop-number.readers c.read_reader.new.readers (bytes_of c.loop-number.inputs.items)
          c.loop-number.number c.limit_at-limit.result c.in_ok-input.input.items c.loop-number.invariant.read (length-map c.loop-number.inputs.items _ ∙ c.loop-number.invariant.count) (search rules)
          c.in_ok-input.ensures.ok);
      count = search rules;
      readers = search rules;
    }
