-- Each row is computed.
use Rattle.std.proofs.Common.{refl}
use Rattle.leak_elf.specs.Fields.{number_at}
use Rattle.leak_elf.specs.Headers.{headers, header_at}
use Rattle.leak_elf.specs.Sample.{zeros, file_header, program_header, note_entry}
use Rattle.leak_elf.specs.Segments.{segments_of}
use Rattle.leak_elf.specs.Words.{word_in, word_of}
use Rattle.leak_chunks.specs.Fit.{fits_core}
use Rattle.leak_examples.specs.WorkedHeap.{heap_core}
use Rattle.leak_examples.proofs.heap.worked_heap.Goals as goal

pub returns : goal.returns
unfolding number_at headers header_at zeros file_header program_header note_entry segments_of word_in word_of fits_core heap_core
returns c = record { sizes = refl; fit = refl; live = refl; given_back = refl; one_byte_more = refl; sixteen_fewer = refl }
