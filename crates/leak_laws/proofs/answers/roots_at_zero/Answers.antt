-- Each value is computed.
use Rattle.std.proofs.Common.{refl}
use Rattle.std.specs.Fmt.{digits}
use Rattle.leak_elf.specs.Fields.{number_at}
use Rattle.leak_elf.specs.Headers.{headers, header_at}
use Rattle.leak_elf.specs.Refusals.{file_fault, header_fault, fault_of}
use Rattle.leak_elf.specs.Segments.{segments_of}
use Rattle.leak_elf.specs.Words.{word_in, word_of}
use Rattle.leak_elf.specs.Sample.{zeros, file_header, program_header, note_entry, front, sample, sample_with}
use Rattle.leak_laws.proofs.answers.roots_at_zero.Goals as goal

pub returns : goal.returns
unfolding digits number_at headers header_at file_fault header_fault fault_of word_of segments_of word_in zeros file_header program_header note_entry front sample sample_with
returns c = record { accepted = refl; word = refl; place = refl }
