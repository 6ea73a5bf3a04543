-- The head and the words are computed.
use Rattle.std.proofs.Common.{◌≡◌, ℕ, zero, suc, ◌%◌, true, false, List, [], ◌∷◌, ◌++◌, length, refl, sym, subst, ◌∙◌, arith}
use Rattle.std.specs.Int.{w64, to_le_bytes}
use Rattle.leak_elf.specs.Fields.{e_phoff, number_at}
use Rattle.leak_elf.specs.Head.{AreAligned, HasTable, IsHead}
use Rattle.leak_elf.specs.HeadLength.{has_dumped}
use Rattle.leak_elf.specs.Headers.{header_at, header_count, headers, is_extended}
use Rattle.leak_elf.specs.Refusals.{extent_fault, fault_of, file_fault, header_fault}
use Rattle.leak_elf.specs.Sample.{file_header, front, note_entry, program_header, zeros}
use Rattle.leak_elf.specs.Segments.{AreParts, note_parts_of, segments_of}
use Rattle.leak_elf.specs.declared.segment.NotePart.{NotePart}
use Rattle.leak_elf.specs.declared.segment.Segment.{Segment}
use Rattle.leak_sift.specs.Places.{AreOrderly, place_of}
use Rattle.leak_sift.specs.Sifted.{by_words}
use Rattle.leak_alike.specs.SiftedCores.{AreBytes, CanBeSifted}
use Rattle.leak_alike.specs.SiftedRows.{head, two_words}
use Rattle.leak_alike.proofs.sifted.worked_sifted.Goals as goal

abbrev memory : Segment
memory = record { vaddr = 0x10000; memsz = 4096; offset = 4096; filesz = 16; writable = true }

abbrev notes : NotePart
notes = record { offset = 176; filesz = 356 }

record IsComputed : Type 0 where
  long : length head ≡ 4096
  extended : is_extended head ≡ false
  table : e_phoff head ≡ 64
  count : header_count head ≡ 2
  segments : segments_of head ≡ memory ∷ []
  parts : note_parts_of head ≡ notes ∷ []
  undumped : has_dumped head ≡ false
  dumped : has_dumped (head ++ two_words 7 0x21) ≡ true

computed : IsComputed
unfolding head number_at headers header_at segments_of note_parts_of zeros file_header program_header note_entry front
computed = record { long = refl; extended = refl; table = refl; count = refl; segments = refl; parts = refl; undumped = refl; dumped = refl }

table : HasTable head
table = record {
  file_header = omega (arith, computed.long);
  section_header = λ e. absurd (let no : false ≡ true = sym computed.extended ∙ e in cc);
  program_headers = omega (arith, computed.long, computed.table, computed.count);
}

parts_lie : AreParts head (notes ∷ [])
parts_lie zero d inside some = omega (arith, computed.long)
parts_lie (suc k) d inside some = absurd (omega arith)

words_fit : AreAligned (memory ∷ [])
words_fit zero d inside some = refl
words_fit (suc k) d inside some = absurd (omega arith)

is_head : IsHead head
is_head = record {
  table = table;
  multiple = subst (λ (n : ℕ). n % 8 ≡ 0) (sym computed.long) refl;
  notes = subst (AreParts head) (sym computed.parts) parts_lie;
  words = subst (λ (segments : List Segment). AreAligned segments) (sym computed.segments) words_fit;
}

-- each byte of a number is one
bytes_of_word : (n : ℕ) (rest : List ℕ) → AreBytes rest → AreBytes (to_le_bytes w64 n ++ rest)
bytes_of_word n rest are zero = omega arith
bytes_of_word n rest are (suc zero) = omega arith
bytes_of_word n rest are (suc (suc zero)) = omega arith
bytes_of_word n rest are (suc (suc (suc zero))) = omega arith
bytes_of_word n rest are (suc (suc (suc (suc zero)))) = omega arith
bytes_of_word n rest are (suc (suc (suc (suc (suc zero))))) = omega arith
bytes_of_word n rest are (suc (suc (suc (suc (suc (suc zero)))))) = omega arith
bytes_of_word n rest are (suc (suc (suc (suc (suc (suc (suc zero))))))) = omega arith
bytes_of_word n rest are (suc (suc (suc (suc (suc (suc (suc (suc k)))))))) = are k

are_bytes : AreBytes (two_words 7 0x21)
are_bytes = bytes_of_word 7 (to_le_bytes w64 0x21) (bytes_of_word 0x21 [] (λ k. omega arith))

can : CanBeSifted head (two_words 7 0x21)
can = record {
  head = is_head;
  undumped = computed.undumped;
  orderly = subst AreOrderly (sym computed.segments) (record { apart = λ j k h inside some more. absurd (omega arith) });
  bytes = are_bytes;
}

pub returns : goal.returns
unfolding head number_at headers header_at extent_fault file_fault header_fault fault_of segments_of place_of by_words zeros file_header program_header note_entry front
returns c = record {
  can = can;
  accepted = refl;
  word_in_head = λ other. let no : true ≡ false = sym computed.dumped ∙ other.undumped in cc;
  below = refl;
  start = refl;
  end = refl;
  above = refl;
}
