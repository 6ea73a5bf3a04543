-- Each answer is computed.
use Rattle.std.proofs.Common.{refl}
use Rattle.leak_elf.specs.Headers.{headers, header_at}
use Rattle.leak_elf.specs.Fields.{number_at}
use Rattle.leak_elf.specs.Sample.{sample, front, file_header, zeros, program_header, note_entry}
use Rattle.leak_elf.specs.Segments.{note_parts_of}
use Rattle.leak_notes.specs.Entry.{entries_from}
use Rattle.leak_notes.specs.Threads.{note_fault_of, registers_of, threads_of}
use Rattle.leak_notes.specs.Stacks.{threads_in, random_in, random_of}
use Rattle.leak_notes.proofs.rows.worked_notes.Goals as goal

pub returns : goal.returns
unfolding sample front file_header zeros program_header note_entry number_at header_at headers note_parts_of entries_from note_fault_of registers_of threads_of threads_in random_in random_of
returns c = record {
  accepted = refl;
  cut = refl;
  cut_second = refl;
  skipped_second = refl;
  size = refl;
  other_kind = refl;
  other_name = refl;
  empty = refl;
  no_part = refl;
  zero = refl;
  rbx = refl;
  vectors_accepted = refl;
  vectors = refl;
  first_low = refl;
  first_high = refl;
  last_high = refl;
  before_the_first = refl;
  behind_the_last = refl;
  vector_size = refl;
  vectors_alone = refl;
  status_as_vectors = refl;
  state = refl;
  state_without_words = refl;
  short_state_accepted = refl;
  state_header = refl;
  state_first = refl;
  state_last = refl;
  state_last_of_many = refl;
  state_partial = refl;
  state_of_another_name = refl;
  stacks = refl;
  random = refl;
  first_random = refl;
  random_of_another_type = refl;
  short_pair = refl;
  no_vector = refl;
  second_vector = refl;
}
