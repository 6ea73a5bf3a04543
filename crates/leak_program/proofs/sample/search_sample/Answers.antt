-- From the lemmas of SampleLemmas.
use Rattle.std.proofs.Common.{rules, refl, false, true, Some, List, [], ◌∷◌, map, Option, ℕ}
use Rattle.std.specs.Borrow.{Bor}
use Rattle.leak_request.specs.declared.options.Options.{Options}
use Rattle.leak_find.specs.declared.task.Task.TheVariants.{Search}
use Rattle.leak_find.specs.Streams.{by_writes}
use Rattle.leak_program.specs.Sample.{sample_inputs}
use Rattle.leak_program.proofs.SampleLemmas.{fails_over_inputs, over_inputs}
use Rattle.leak_program.proofs.sample.search_sample.Goals as goal

pub returns-in-Ok-clause-ok : goal.returns-in-Ok-clause-ok
returns-in-Ok-clause-ok g c = record {
  options = record { two = false; reading = c.interior.result; skip = c.usual.result; plan = c.unwrap.result; other_heap = true; check = false; strict = false; core_limit = 68719476736; log_limit = 4294967296 };
  of_sample = record { one = refl; interior = c.interior.ensures; usual = c.usual.ensures; no_heap = refl; unchecked = refl; lenient = refl };
  after = _;
  runs = over_inputs (λ (reader : Bor (List ℕ)). Some reader.now) c.in-Ok.ensures.ok (search rules);
}

pub returns-clause-refused : goal.returns-clause-refused
returns-clause-refused g c =
    let options : Options = record { two = false; reading = c.interior.result; skip = c.usual.result; plan = c.unwrap.result; other_heap = true; check = false; strict = false; core_limit = 68719476736; log_limit = 4294967296 } in
    let left : Bor (List ℕ) → Option (List ℕ) = λ reader. Some reader.now in
    record {
      options = options;
      of_sample = record { one = refl; interior = c.interior.ensures; usual = c.usual.ensures; no_heap = refl; unchecked = refl; lenient = refl };
      after = map left c.run_sized.new.readers;
      fails = fails_over_inputs left (by_writes g.W.WriteCalls.calls) (Search options) (c.as_slice-2.result ∷ c.as_bytes.result ∷ []) c.run_sized.new.readers sample_inputs
          c.args.writer.now c.run_sized.new.writer c.in-Err.fault c.in-Err.ensures.refused (search rules);
    }
