-- A text that was written, completely or up to a fault.
use Rattle.std.proofs.Common.{ℕ, List, inl, inr}
use Rattle.std.specs.Prelude.{Result, Ok, Err, OnOk, IfErr}
use Rattle.leak_streams.specs.declared.fault.WriteFault.{WriteFault}
use Rattle.leak_find.specs.Streams.{IsTried, Sink}

pub tried : {W : Type 0} (sink : Sink W) (text : List ℕ) (before after : W) (answer : Result (Unit {0}) WriteFault)
    → OnOk answer (sink.whole text before after) → IfErr answer (sink.cut_off text before after) → IsTried sink text before after
tried sink text before after (Ok _) whole cut = inl whole
tried sink text before after (Err f) whole cut = inr (f, cut)
