-- The text of why a block is held (own rule). Numbers are decimal, an address or a word is 0x and lower-case hexadecimal
-- digits.
use Rattle.std.specs.Prelude.{ℕ, ◌+◌, ◌-◌, ◌*◌, ◌/◌, ◌%◌, List, [], ◌∷◌, ◌++◌, codes, decimal, nat_lt, ◌==◌, if◌then◌else◌, Option, Some, None, slice_get, slice_index_or}
use Rattle.std.specs.Option.{option_map_or}
use Rattle.leak_blocks.specs.declared.block.Block.{Block}
use Rattle.leak_notes.specs.declared.sets.RegisterSet.{RegisterSet}
use Rattle.leak_notes.specs.declared.sets.RegisterSet.TheVariants.{Status, Vector, State}
use Rattle.leak_report.specs.Lines.{newline, hexadecimal}
use Rattle.leak_report.specs.Totals.{text_at}
use Rattle.leak_why.specs.declared.chain.RootPlace.{RootPlace}
use Rattle.leak_why.specs.declared.chain.RootPlace.TheVariants.{Register, Address}
use Rattle.leak_why.specs.declared.chain.RootWord.{RootWord}
use Rattle.leak_why.specs.declared.chain.Link.{Link}
use Rattle.leak_why.specs.declared.chain.Chain.{Chain}

-- the registers of a thread status, in the order of Linux's struct user_regs_struct
abbrev pub status_names : List (List ℕ)
status_names =
    codes "r15" ∷ codes "r14" ∷ codes "r13" ∷ codes "r12" ∷ codes "rbp" ∷ codes "rbx" ∷ codes "r11" ∷ codes "r10" ∷ codes "r9"
    ∷ codes "r8" ∷ codes "rax" ∷ codes "rcx" ∷ codes "rdx" ∷ codes "rsi" ∷ codes "rdi" ∷ codes "orig_rax" ∷ codes "rip" ∷ codes "cs"
    ∷ codes "eflags" ∷ codes "rsp" ∷ codes "ss" ∷ codes "fs_base" ∷ codes "gs_base" ∷ codes "ds" ∷ codes "es" ∷ codes "fs" ∷ codes "gs" ∷ []

abbrev pub status_name : ℕ → List ℕ
status_name i = slice_index_or status_names i (codes "?")

-- of each register of a vector entry the lower half first
abbrev pub half_name : ℕ → List ℕ
half_name i = if i % 2 == 0 then codes "low" else codes "high"

-- the eight x87 or MMX registers come before xmm0 to xmm15
abbrev pub vector_kind : ℕ → List ℕ
vector_kind i = if nat_lt i 16 then codes "st" else codes "xmm"

-- the number among the registers of its kind
abbrev pub vector_number : ℕ → ℕ
vector_number i = if nat_lt i 16 then i / 2 else (i - 16) / 2

abbrev pub vector_name : ℕ → List ℕ
vector_name i = vector_kind i ++ (decimal (vector_number i) ++ (codes " " ++ half_name i))

-- a word of a state entry by its offset in the descriptor: the first is at 576
abbrev pub state_name : ℕ → List ℕ
state_name i = codes "state " ++ decimal (576 + 8 * i)

abbrev pub of_thread : ℕ → List ℕ
of_thread thread = codes " of thread " ++ decimal thread

-- The register word with the number, if this many threads come before these sets. Threads count from 1 in the order of
-- their statuses, and a word of a vector entry or a state entry is of the thread whose status came last.
abbrev pub register_text : ℕ → List RegisterSet → ℕ → List ℕ
register_text threads [] i = codes "?" ++ of_thread threads
register_text threads (Status ∷ sets) i =
    if nat_lt i 27 then status_name i ++ of_thread (threads + 1) else register_text (threads + 1) sets (i - 27)
register_text threads (Vector ∷ sets) i =
    if nat_lt i 48 then vector_name i ++ of_thread threads else register_text threads sets (i - 48)
register_text threads (State words ∷ sets) i =
    if nat_lt i words then state_name i ++ of_thread threads else register_text threads sets (i - words)

-- a block's line, up to the text of its caller
abbrev pub block_front : List ℕ → Block → List ℕ
block_front name b = name ++ (codes " " ++ (hexadecimal b.start ++ (codes " " ++ (decimal b.size ++ (codes " " ++ (decimal b.line ++ codes " "))))))

abbrev pub block_line : List ℕ → List ℕ → Block → List ℕ
block_line name log b = block_front name b ++ (text_at log b.caller ++ newline)

-- that of the block with the number
abbrev pub numbered_line : List ℕ → List ℕ → List Block → ℕ → List ℕ
numbered_line name log blocks i = option_map_or (block_line name log) (slice_get blocks i) []

abbrev pub holds : ℕ → List ℕ
holds word = codes " holds " ++ (hexadecimal word ++ newline)

abbrev pub place_text : List RegisterSet → RootPlace → List ℕ
place_text sets (Register i) = register_text 0 sets i
place_text sets (Address a) = hexadecimal a

abbrev pub root_line : List RegisterSet → RootWord → List ℕ
root_line sets root = codes "root " ++ (place_text sets root.place ++ holds root.word)

abbrev pub word_line : Link → List ℕ
word_line link = codes "word " ++ (hexadecimal link.address ++ holds link.word)

-- the holder of each link and its word, from the root on: the last link first
abbrev pub links_text : List ℕ → List Block → List Link → List ℕ
links_text log blocks [] = []
links_text log blocks (link ∷ links) =
    links_text log blocks links ++ (numbered_line (codes "block") log blocks link.holder ++ word_line link)

-- what holds the block with the number
abbrev pub answer_text : List ℕ → List Block → List RegisterSet → ℕ → Option Chain → List ℕ
answer_text log blocks sets block None = codes "leaked" ++ newline
answer_text log blocks sets block (Some chain) =
    root_line sets chain.root ++ (links_text log blocks chain.links.items ++ numbered_line (codes "block") log blocks block)

unfoldable pub text_of : List ℕ → List Block → List RegisterSet → ℕ → Option Chain → List ℕ
text_of log blocks sets block chain = numbered_line (codes "asked") log blocks block ++ answer_text log blocks sets block chain
