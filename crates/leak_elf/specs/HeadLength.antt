-- How long the head of a file is, by the file's first bytes (System V gABI, elf(5)).
use Rattle.std.specs.Prelude.{◌≡◌, ◌≤◌, ◌<◌, true, false, ℕ, ◌+◌, ◌%◌, ◌^◌, Bool, not, ◌&&◌, ◌||◌, nat_lt, ◌==◌, if◌then◌else◌, List, [], ◌∷◌, ◌++◌, length}
use Rattle.std.specs.List.{list_any}
use Rattle.leak_elf.specs.declared.head.Head.{Head}
use Rattle.leak_elf.specs.declared.head.Head.TheVariants.{Needs, Length, Absent}
use Rattle.leak_elf.specs.declared.header.Header.{Header}
use Rattle.leak_elf.specs.Fields.{e_shoff}
use Rattle.leak_elf.specs.Headers.{is_extended, is_note, has_addresses}
use Rattle.leak_elf.specs.Head.{IsHead}
use Rattle.leak_elf.specs.Segments.{segments_of}

-- a dumped byte of a segment lies in the first bytes of the file
abbrev pub has_dumped : List ℕ → Bool
has_dumped held = list_any (λ s. nat_lt 0 s.filesz && nat_lt s.offset (length held)) (segments_of held)

-- both are first bytes of one file
pub record AreBeginnings (held bytes : List ℕ) : Type 0 where
  pub rest : List ℕ
  pub more : List ℕ
  pub same : held ++ rest ≡ bytes ++ more

-- each head of a file that begins with the bytes has at least so many
abbrev pub IsLeast : List ℕ → ℕ → Type 0
IsLeast bytes n = (held : List ℕ) → AreBeginnings held bytes → IsHead held → n ≤ length held

-- and these are more than the bytes
abbrev pub IsAtLeast : List ℕ → ℕ → Type 0
IsAtLeast bytes n = (length bytes < n) × IsLeast bytes n

-- so many first bytes of each file that begins with the bytes are a head, and no dumped byte is among them
abbrev pub IsLength : List ℕ → ℕ → Type 0
IsLength bytes n = (held : List ℕ) → AreBeginnings held bytes → length held ≡ n → IsHead held × (has_dumped held ≡ false)

-- what the first bytes say of each file that begins so
abbrev pub Tells : List ℕ → Head → Type 0
Tells bytes (Needs n) = IsAtLeast bytes n
Tells bytes (Length n) = IsLength bytes n × IsLeast bytes n
Tells bytes Absent = (held : List ℕ) → AreBeginnings held bytes → length held < 2 ^ 64 → IsHead held → has_dumped held ≡ true

-- where section header 0 ends if it has the number of program headers, else where the file header ends
abbrev pub section_end : List ℕ → ℕ
section_end file = if is_extended file then e_shoff file + 64 else 64

-- where a part of notes ends, or 0 if it has no bytes
abbrev pub note_end : Header → ℕ
note_end h = if is_note h && nat_lt 0 h.filesz then h.offset + h.filesz else 0

-- no part of notes ends behind the offset
abbrev pub EndBy : List Header → ℕ → Type 0
EndBy [] n = Unit {0}
EndBy (h ∷ hs) n = (note_end h ≤ n) × EndBy hs n

-- the least offset from `from` on behind which no part of notes ends
pub record IsNotesEnd (hs : List Header) (from end : ℕ) : Type 0 where
  pub from_on : from ≤ end
  pub each : EndBy hs end
  pub least : (n : ℕ) → from ≤ n → EndBy hs n → end ≤ n

-- words of the header's segment begin before the offset, or are not at multiples of 8 of the file
abbrev pub is_unfit : ℕ → Header → Bool
is_unfit n h = has_addresses h && (nat_lt 0 h.filesz && (nat_lt h.offset n || not (h.offset % 8 == h.vaddr % 8)))
