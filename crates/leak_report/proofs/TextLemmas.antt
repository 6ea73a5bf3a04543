-- The lines of the report, put together.
use Rattle.std.proofs.Common.{◌≡◌, ℕ, ◌+◌, ◌-◌, ◌<◌, Bool, false, true, List, [], ◌∷◌, ◌++◌, length, take, get_or, flat_map, sym, ap, ap₂, ◌∙◌, append_assoc, arith, add-one}
use Rattle.std.specs.Prelude.{codes}
use Rattle.std.proofs.lemmas.List.{append-nil}
use Rattle.std.proofs.lemmas.List.Concat.{flat_map-append}
use Rattle.leak_blocks.specs.declared.block.Block.{Block}
use Rattle.leak_report.specs.declared.head.Head.{Head}
use Rattle.leak_report.specs.Totals.{Leak, bytes_of, marked_in, leaked_in, leaks_in, heads_in}
use Rattle.leak_report.specs.Lines.{sizes_line, blocks_line, undumped_line, log_line, freed_lines, dead_lines, two_lines, heads_line}
use Rattle.leak_report.specs.Report.{sums_of}
use Rattle.leak_report.proofs.Leaks.{leaks_push, leaks_stay, length-both, bytes_of-both}

-- marked blocks are those that are not leaked
sums_are : (head : Head) (blocks : List Block) (set heads : List Bool) (number bytes count : ℕ) → length set ≡ length blocks
    → number ≡ length (leaked_in set blocks) → bytes ≡ bytes_of (leaked_in set blocks) → count ≡ heads_in (leaks_in set heads blocks)
    → sizes_line (codes "blocks") (length blocks) (bytes_of blocks) ++ undumped_line head ++ log_line head ++ freed_lines head.freed ++ dead_lines head.dead ++ two_lines head.two
    ++ sizes_line (codes "marked") (length blocks - number) (bytes_of blocks - bytes) ++ sizes_line (codes "leaked") number bytes ++ heads_line count
    ≡ sums_of head blocks set heads
sums_are head blocks set heads number bytes count each n b c =
    let marked : length blocks - number ≡ length (marked_in set blocks) = omega (arith, length-both set blocks each, n) in
    let marked_bytes : bytes_of blocks - bytes ≡ bytes_of (marked_in set blocks) = omega (arith, bytes_of-both set blocks each, b) in
    ap (λ k. sizes_line (codes "blocks") (length blocks) (bytes_of blocks) ++ undumped_line head ++ log_line head ++ freed_lines head.freed ++ dead_lines head.dead ++ two_lines head.two
    ++ sizes_line (codes "marked") k (bytes_of blocks - bytes) ++ sizes_line (codes "leaked") number bytes ++ heads_line count) marked
    ∙ ap (λ k. sizes_line (codes "blocks") (length blocks) (bytes_of blocks) ++ undumped_line head ++ log_line head ++ freed_lines head.freed ++ dead_lines head.dead ++ two_lines head.two
    ++ sizes_line (codes "marked") (length (marked_in set blocks)) k ++ sizes_line (codes "leaked") number bytes ++ heads_line count) marked_bytes
    ∙ ap (λ k. sizes_line (codes "blocks") (length blocks) (bytes_of blocks) ++ undumped_line head ++ log_line head ++ freed_lines head.freed ++ dead_lines head.dead ++ two_lines head.two
    ++ blocks_line (codes "marked") (marked_in set blocks) ++ sizes_line (codes "leaked") k bytes ++ heads_line count) n
    ∙ ap (λ k. sizes_line (codes "blocks") (length blocks) (bytes_of blocks) ++ undumped_line head ++ log_line head ++ freed_lines head.freed ++ dead_lines head.dead ++ two_lines head.two
    ++ blocks_line (codes "marked") (marked_in set blocks) ++ sizes_line (codes "leaked") (length (leaked_in set blocks)) k ++ heads_line count) b
    ∙ ap (λ k. sizes_line (codes "blocks") (length blocks) (bytes_of blocks) ++ undumped_line head ++ log_line head ++ freed_lines head.freed ++ dead_lines head.dead ++ two_lines head.two
    ++ blocks_line (codes "marked") (marked_in set blocks) ++ blocks_line (codes "leaked") (leaked_in set blocks) ++ heads_line k) c

-- so with the number of all blocks, and the sum of their sizes
pub sums_by_number : (head : Head) (blocks : List Block) (set heads : List Bool) (all sum number bytes count : ℕ) → all ≡ length blocks → sum ≡ bytes_of blocks → length set ≡ length blocks
    → number ≡ length (leaked_in set blocks) → bytes ≡ bytes_of (leaked_in set blocks) → count ≡ heads_in (leaks_in set heads blocks)
    → sizes_line (codes "blocks") all sum ++ undumped_line head ++ log_line head ++ freed_lines head.freed ++ dead_lines head.dead ++ two_lines head.two
    ++ sizes_line (codes "marked") (all - number) (sum - bytes) ++ sizes_line (codes "leaked") number bytes ++ heads_line count
    ≡ sums_of head blocks set heads
sums_by_number head blocks set heads all sum number bytes count a s each n b c =
    ap₂ (λ (k m : ℕ). sizes_line (codes "blocks") k m ++ undumped_line head ++ log_line head ++ freed_lines head.freed ++ dead_lines head.dead ++ two_lines head.two
    ++ sizes_line (codes "marked") (k - number) (m - bytes) ++ sizes_line (codes "leaked") number bytes ++ heads_line count) a s
    ∙ sums_are head blocks set heads number bytes count each n b c

-- the line of one more leaked block
pub leaked_line : (line : Leak → List ℕ) (set heads : List Bool) (blocks : List Block) (i : ℕ) (d e : Bool) (b : Block) (first : List ℕ)
    → i < length set → i < length heads → i < length blocks → get_or set i d ≡ false
    → (first ++ flat_map line (leaks_in (take i set) (take i heads) (take i blocks))) ++ line (record { block = get_or blocks i b; head = get_or heads i e })
    ≡ first ++ flat_map line (leaks_in (take (i + 1) set) (take (i + 1) heads) (take (i + 1) blocks))
leaked_line line set heads blocks i d e b first p o q is =
    let before : List Leak = leaks_in (take i set) (take i heads) (take i blocks) in
    let leak : Leak = record { block = get_or blocks i b; head = get_or heads i e } in
    append_assoc first (flat_map line before) (line leak)
    ∙ ap (λ t. first ++ (flat_map line before ++ t)) (sym (append-nil (line leak)))
    ∙ ap (λ t. first ++ t) (sym (flat_map-append line before (leak ∷ [])))
    ∙ ap (λ ls. first ++ flat_map line ls) (sym (leaks_push set heads blocks i d e b p o q is) ∙ ap (λ n. leaks_in (take n set) (take n heads) (take n blocks)) (sym (add-one i)))

pub no_line : (line : Leak → List ℕ) (set heads : List Bool) (blocks : List Block) (i : ℕ) (d : Bool) (first : List ℕ)
    → i < length set → i < length heads → i < length blocks → get_or set i d ≡ true
    → first ++ flat_map line (leaks_in (take i set) (take i heads) (take i blocks)) ≡ first ++ flat_map line (leaks_in (take (i + 1) set) (take (i + 1) heads) (take (i + 1) blocks))
no_line line set heads blocks i d first p o q is =
    ap (λ ls. first ++ flat_map line ls) (sym (leaks_stay set heads blocks i d p o q is) ∙ ap (λ n. leaks_in (take n set) (take n heads) (take n blocks)) (sym (add-one i)))
