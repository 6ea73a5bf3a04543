-- What the program says of a failure on standard error: one line, or clap's own text. Own rule.
use Rattle.std.specs.Prelude.{◌≡◌, ℕ, List, [], ◌∷◌, ◌++◌, codes, decimal, false, string_bytes}
use Rattle.std.specs.Fmt.{digits}
use Rattle.leak_request.specs.Escaped.{AreShown, escaped}
use Rattle.leak_find.specs.declared.fault.RunFault.{RunFault}
use Rattle.leak_find.specs.declared.fault.RunFault.TheVariants as run
use Rattle.leak_program.specs.InputTexts.{find_text, read_text, reason_text, write_text}
use Rattle.leak_program.specs.WordTexts.{usage_text}
use Rattle.leak_streams.specs.declared.fault.ReadFault.{ReadFault}
use Rattle.leak_program.specs.declared.open_fault.Reason.{Reason}
use Rattle.leak_request.specs.declared.fault.UsageFault.{UsageFault}
use Rattle.leak_request.specs.declared.fault.UsageFault.TheVariants as usage
use Rattle.leak_program.specs.declared.failure.Failure.{Failure}
use Rattle.leak_program.specs.declared.failure.Failure.TheVariants.{BadArgument, Usage, Open, Read, Run, NoMemory}

-- a reader with its number, and what stopped it
abbrev pub reader_text : ℕ → ReadFault → List ℕ
reader_text number f = codes "reader " ++ (decimal number ++ (codes ": " ++ read_text f))

abbrev pub run_text : RunFault → List ℕ
run_text (run.Read number f) = reader_text number f
run_text (run.Find e) = find_text e
run_text (run.NoBlock address) = codes "no live block holds 0x" ++ digits 16 false address
run_text (run.Write f) = write_text f

-- a file that can't be opened, with its path escaped, and why
abbrev pub unopened_text : List ℕ → Reason → List ℕ
unopened_text path reason = (codes "cannot open " ++ escaped path) ++ reason_text reason

-- a reader that was not read to its end, with the path of its file
abbrev pub unread_text : ℕ → List ℕ → ReadFault → List ℕ
unread_text number path f = (reader_text number f ++ codes ": ") ++ escaped path

abbrev pub failure_text : Failure → List ℕ
failure_text BadArgument = codes "a word is not UTF-8"
failure_text (Usage f) = usage_text f
failure_text (Open path reason) = unopened_text (string_bytes path) reason
failure_text (Read number path f) = unread_text number (string_bytes path) f
failure_text (Run f) = run_text f
failure_text NoMemory = codes "out of memory"

abbrev pub line_of : List ℕ → List ℕ
line_of text = codes "leak_find: " ++ (text ++ 10 ∷ [])

-- clap's text is alone
abbrev pub usage_message : UsageFault → List ℕ
usage_message (usage.Words text) = string_bytes text
usage_message (usage.Displace f) = line_of (usage_text (usage.Displace f))
usage_message usage.Check = line_of (usage_text usage.Check)
usage_message usage.Sides = line_of (usage_text usage.Sides)
usage_message usage.Block = line_of (usage_text usage.Block)
usage_message (usage.Address a) = line_of (usage_text (usage.Address a))
usage_message usage.NoMemory = line_of (usage_text usage.NoMemory)

abbrev pub message_of : Failure → List ℕ
message_of BadArgument = line_of (failure_text BadArgument)
message_of (Usage f) = usage_message f
message_of (Open path reason) = line_of (failure_text (Open path reason))
message_of (Read number path f) = line_of (failure_text (Read number path f))
message_of (Run f) = line_of (failure_text (Run f))
message_of NoMemory = line_of (failure_text NoMemory)

-- the text is clap's
abbrev pub IsClapText : UsageFault → Type 0
IsClapText (usage.Words text) = Unit {0}
IsClapText (usage.Displace f) = ⊥
IsClapText usage.Check = ⊥
IsClapText usage.Sides = ⊥
IsClapText usage.Block = ⊥
IsClapText (usage.Address a) = ⊥
IsClapText usage.NoMemory = ⊥

abbrev pub IsOfClap : Failure → Type 0
IsOfClap BadArgument = ⊥
IsOfClap (Usage f) = IsClapText f
IsOfClap (Open path reason) = ⊥
IsOfClap (Read number path f) = ⊥
IsOfClap (Run f) = ⊥
IsOfClap NoMemory = ⊥

-- the message is one line: it has one line end, its last byte, and no other control character
pub record IsOneLine (message : List ℕ) : Type 0 where
  pub line : List ℕ
  pub ends : message ≡ line ++ 10 ∷ []
  pub shown : AreShown line

-- each message is one line, except clap's
abbrev pub MessagesAreLines : Type 0
MessagesAreLines = (failure : Failure) → (IsOfClap failure → ⊥) → IsOneLine (message_of failure)
