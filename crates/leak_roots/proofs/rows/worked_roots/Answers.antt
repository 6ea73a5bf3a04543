-- Each answer is computed.
use Rattle.std.proofs.Common.{refl}
use Rattle.leak_elf.specs.Fields.{number_at}
use Rattle.leak_elf.specs.Headers.{headers, header_at}
use Rattle.leak_elf.specs.Sample.{sample, front, file_header, zeros, program_header, note_entry}
use Rattle.leak_elf.specs.Segments.{segments_of, note_parts_of}
use Rattle.leak_elf.specs.Words.{word_of, word_in}
use Rattle.leak_notes.specs.Entry.{entries_from}
use Rattle.leak_notes.specs.Threads.{registers_of}
use Rattle.leak_blocks.specs.Small.{is_covered}
use Rattle.leak_roots.specs.Roots.{has_roots, outside_places, kept_places, dead_places, root_places, root_words}
use Rattle.leak_roots.specs.Rows.{with_flags, counts}
use Rattle.leak_roots.proofs.rows.worked_roots.Goals as goal

pub returns : goal.returns
unfolding sample front file_header zeros program_header note_entry number_at header_at headers segments_of note_parts_of word_of word_in entries_from registers_of is_covered has_roots outside_places kept_places dead_places root_places root_words with_flags counts
returns c = record { without_blocks = refl; with_a_block = refl; with_a_block_and_slack = refl; freed_and_in_slack = refl; with_dead_stack = refl; dead_outside_blocks_and_slack = refl; with_vector_registers = refl; writable = refl; writable_with_all = refl; read_only = refl; read_only_with_all = refl; no_rights = refl; no_rights_with_all = refl; within_a_span = refl; half_within_a_span = refl; within_two_spans = refl; one_byte_between_spans = refl }
