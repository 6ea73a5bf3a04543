-- No text that the program prints about a refusal forges a line.
use Rattle.leak_search.specs.declared.error.FindError.{FindError}
use Rattle.leak_program.specs.declared.open_fault.Reason.{Reason}
use Rattle.leak_streams.specs.declared.fault.ReadFault.{ReadFault}
use Rattle.leak_streams.specs.declared.fault.WriteFault.{WriteFault}
use Rattle.leak_request.specs.declared.fault.DisplaceFault.{DisplaceFault}
use Rattle.leak_request.specs.Escaped.{AreShown}
use Rattle.leak_program.specs.InputTexts.{find_text, read_text, reason_text, write_text}
use Rattle.leak_program.specs.WordTexts.{displace_text}

pub record TextsAreShown : Type 0 where
  pub inputs : (e : FindError) → AreShown (find_text e)
  pub readers : (f : ReadFault) → AreShown (read_text f)
  pub writers : (f : WriteFault) → AreShown (write_text f)
  pub files : (r : Reason) → AreShown (reason_text r)
  pub lists : (f : DisplaceFault) → AreShown (displace_text f)
