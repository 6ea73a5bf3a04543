-- The texts of what refuses a command line. Own rule. Numbers are decimal.
use Rattle.std.specs.Prelude.{List, ℕ, ◌++◌, codes, decimal, string_bytes}
use Rattle.leak_index.specs.declared.error.ReadingError.{ReadingError}
use Rattle.leak_index.specs.declared.error.ReadingError.TheVariants as reading
use Rattle.leak_request.specs.declared.fault.AddressArgument.{AddressArgument}
use Rattle.leak_request.specs.declared.fault.AddressArgument.TheVariants as argument
use Rattle.leak_request.specs.declared.fault.DisplaceFault.{DisplaceFault}
use Rattle.leak_request.specs.declared.fault.DisplaceFault.TheVariants as list
use Rattle.leak_request.specs.declared.fault.UsageFault.{UsageFault}
use Rattle.leak_request.specs.declared.fault.UsageFault.TheVariants as usage

abbrev pub reading_text : ReadingError → List ℕ
reading_text reading.TooMany = codes "more than 16 values"
reading_text (reading.TooLarge item) = codes "item " ++ (decimal item ++ codes " is over 65535")

abbrev pub displace_text : DisplaceFault → List ℕ
displace_text (list.Number item) = codes "--displace: item " ++ (decimal item ++ codes " is not a number")
displace_text (list.Reading e) = codes "--displace: " ++ reading_text e

abbrev pub argument_text : AddressArgument → List ℕ
argument_text argument.Operand = codes "ADDRESS"
argument_text argument.In = codes "--in"
argument_text argument.Of = codes "--of"

abbrev pub address_text : AddressArgument → List ℕ
address_text a = argument_text a ++ codes ": not 0x and 1 to 16 hexadecimal digits"

-- the text of clap is its own
abbrev pub usage_text : UsageFault → List ℕ
usage_text (usage.Words text) = string_bytes text
usage_text (usage.Displace f) = displace_text f
usage_text usage.Check = codes "--check: not with --other-heap"
usage_text usage.Sides = codes "--in: not with --of"
usage_text usage.Block = codes "--block: only with --in or --of"
usage_text (usage.Address a) = address_text a
usage_text usage.NoMemory = codes "out of memory"
