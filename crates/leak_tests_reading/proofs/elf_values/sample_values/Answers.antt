-- Each row is computed.
use Rattle.std.proofs.Common.{refl}
use Rattle.leak_elf.specs.Fields.{number_at}
use Rattle.leak_elf.specs.Headers.{headers, header_at}
use Rattle.leak_elf.specs.Refusals.{file_fault, header_fault, fault_of}
use Rattle.leak_elf.specs.Segments.{segments_of, note_parts_of, undumped_of}
use Rattle.leak_elf.specs.Words.{word_in, word_of}
use Rattle.leak_elf.specs.Sample.{zeros, file_header, program_header, note_entry, front, sample, sample_with, sample_of_three}
use Rattle.leak_tests_reading.proofs.elf_values.sample_values.Goals as goal

pub returns : goal.returns
unfolding number_at headers header_at file_fault header_fault fault_of word_of segments_of note_parts_of undumped_of word_in zeros file_header program_header note_entry front sample sample_with sample_of_three
returns c = record {
  accepted = refl;
  short = refl;
  magic = refl;
  class = refl;
  order_of_bytes = refl;
  version = refl;
  kind = refl;
  machine = refl;
  entry_size = refl;
  no_section = refl;
  section = refl;
  section_segments = refl;
  section_parts = refl;
  cut_section = refl;
  last_section = refl;
  last_section_segments = refl;
  last_section_parts = refl;
  section_past_all = refl;
  section_cut_table = refl;
  section_of_all = refl;
  plain_section = refl;
  plain_section_segments = refl;
  plain_section_parts = refl;
  cut_table = refl;
  cut = refl;
  cut_notes = refl;
  sizes = refl;
  wrap = refl;
  high = refl;
  overlap = refl;
  behind = refl;
  behind_undumped = refl;
  nothing = refl;
  nothing_dropped = refl;
  two_faults = refl;
  other_type = refl;
  no_segment = refl;
  no_header = refl;
  no_part = refl;
  last = refl;
  past = refl;
  before = refl;
  unaligned = refl;
  set = refl;
  dumped = refl;
  not_dumped = refl;
  undumped = refl;
  later_word = refl;
}
