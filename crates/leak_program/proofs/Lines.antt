-- Each message is one line, except clap's.
use Rattle.std.proofs.Common.{ℕ, List, [], ◌∷◌, ◌++◌, codes, false, refl, sym, append_assoc, string_bytes}
use Rattle.std.specs.Fmt.{digits}
use Rattle.leak_request.specs.Escaped.{AreShown, escaped}
use Rattle.leak_request.proofs.ShownLemmas.{both, escaped_shown, hexadecimal_shown}
use Rattle.leak_find.specs.declared.fault.RunFault.{RunFault}
use Rattle.leak_find.specs.declared.fault.RunFault.TheVariants as run
use Rattle.leak_program.specs.InputTexts.{read_text, reason_text}
use Rattle.leak_program.specs.WordTexts.{usage_text}
use Rattle.leak_program.proofs.TextLemmas.{displace_shown, find_shown, numbered, read_shown, reason_shown, write_shown}
use Rattle.leak_streams.specs.declared.fault.ReadFault.{ReadFault}
use Rattle.leak_request.specs.declared.fault.AddressArgument.TheVariants as argument
use Rattle.leak_request.specs.declared.fault.UsageFault.{UsageFault}
use Rattle.leak_request.specs.declared.fault.UsageFault.TheVariants as usage
use Rattle.leak_program.specs.declared.failure.Failure.{Failure}
use Rattle.leak_program.specs.declared.failure.Failure.TheVariants.{BadArgument, Usage, Open, Read, Run, NoMemory}
use Rattle.leak_program.specs.Messages.{IsClapText, IsOfClap, IsOneLine, failure_text, line_of, message_of, reader_text, run_text, usage_message}

reader_shown : (number : ℕ) (f : ReadFault) → AreShown (reader_text number f)
reader_shown number f = numbered (codes "reader ") (codes ": " ++ read_text f) number refl (both (codes ": ") (read_text f) refl (read_shown f))

run_shown : (f : RunFault) → AreShown (run_text f)
run_shown (run.Read number f) = reader_shown number f
run_shown (run.Find e) = find_shown e
run_shown (run.NoBlock address) = both (codes "no live block holds 0x") (digits 16 false address) refl (hexadecimal_shown address)
run_shown (run.Write f) = write_shown f

line : (text : List ℕ) → AreShown text → IsOneLine (line_of text)
line text shown = record {
  line = codes "leak_find: " ++ text;
  ends = sym (append_assoc (codes "leak_find: ") text (10 ∷ []));
  shown = both (codes "leak_find: ") text refl shown;
}

usage_line : (f : UsageFault) → (IsClapText f → ⊥) → IsOneLine (usage_message f)
usage_line (usage.Words text) own = absurd (own tt)
usage_line (usage.Displace f) own = line (usage_text (usage.Displace f)) (displace_shown f)
usage_line usage.Check own = line (usage_text usage.Check) refl
usage_line usage.Sides own = line (usage_text usage.Sides) refl
usage_line usage.Block own = line (usage_text usage.Block) refl
usage_line (usage.Address argument.Operand) own = line (usage_text (usage.Address argument.Operand)) refl
usage_line (usage.Address argument.In) own = line (usage_text (usage.Address argument.In)) refl
usage_line (usage.Address argument.Of) own = line (usage_text (usage.Address argument.Of)) refl
usage_line usage.NoMemory own = line (usage_text usage.NoMemory) refl

pub lines : (failure : Failure) → (IsOfClap failure → ⊥) → IsOneLine (message_of failure)
lines BadArgument own = line (failure_text BadArgument) refl
lines (Usage f) own = usage_line f own
lines (Open path reason) own =
    line (failure_text (Open path reason))
    (both (codes "cannot open " ++ escaped (string_bytes path)) (reason_text reason)
    (both (codes "cannot open ") (escaped (string_bytes path)) refl (escaped_shown (string_bytes path))) (reason_shown reason))
lines (Read number path f) own =
    line (failure_text (Read number path f))
    (both (reader_text number f ++ codes ": ") (escaped (string_bytes path))
    (both (reader_text number f) (codes ": ") (reader_shown number f) refl) (escaped_shown (string_bytes path)))
lines (Run f) own = line (failure_text (Run f)) (run_shown f)
lines NoMemory own = line (failure_text NoMemory) refl
