-- The report, put together.
use Rattle.std.proofs.Common.{◌≡◌, ℕ, zero, suc, ◌-◌, ◌<◌, Bool, List, [], ◌∷◌, Option, ◌++◌, length, get_or, refl, ap, ◌∙◌, arith}
use Rattle.std.specs.Prelude.{codes}
use Rattle.std.specs.List.{AllByRecursion}
use Rattle.leak_blocks.specs.declared.block.Block.{Block}
use Rattle.leak_report.specs.declared.head.Head.{Head}
use Rattle.leak_report.specs.Totals.{bytes_of, marked_in, leaked_in}
use Rattle.leak_report.specs.Lines.{sizes_line, undumped_line, log_line, freed_lines, dead_lines}
use Rattle.leak_report.proofs.Leaks.{length-both, bytes_of-both}
use Rattle.leak_holder_search.specs.Text.{new_lines, sums_of}

-- the other blocks are leaked
pub sums_are : (head : Head) (blocks : List Block) (news : Option (List Bool)) (set : List Bool) (marked marked_bytes : ℕ) → length set ≡ length blocks
    → marked ≡ length (marked_in set blocks) → marked_bytes ≡ bytes_of (marked_in set blocks)
    → sizes_line (codes "blocks") (length blocks) (bytes_of blocks) ++ undumped_line head ++ log_line head ++ freed_lines head.freed ++ dead_lines head.dead ++ new_lines news blocks
    ++ sizes_line (codes "marked") marked marked_bytes ++ sizes_line (codes "leaked") (length blocks - marked) (bytes_of blocks - marked_bytes)
    ≡ sums_of head blocks news set
sums_are head blocks news set marked marked_bytes each n b =
    let number : length blocks - marked ≡ length (leaked_in set blocks) = omega (arith, length-both set blocks each, n) in
    let bytes : bytes_of blocks - marked_bytes ≡ bytes_of (leaked_in set blocks) = omega (arith, bytes_of-both set blocks each, b) in
    rw (number, bytes, n, b) refl

-- the same of blocks and numbers that are those of the live ones
pub told : (head : Head) (blocks : List Block) (news : Option (List Bool)) (set : List Bool) (shown : List Block) (bytes marked marked_bytes : ℕ) (text : List ℕ) → length set ≡ length blocks
    → shown ≡ blocks → bytes ≡ bytes_of blocks → marked ≡ length (marked_in set shown) → marked_bytes ≡ bytes_of (marked_in set shown)
    → text ≡ sizes_line (codes "blocks") (length blocks) bytes ++ undumped_line head ++ log_line head ++ freed_lines head.freed ++ dead_lines head.dead ++ new_lines news blocks
    ++ sizes_line (codes "marked") marked marked_bytes ++ sizes_line (codes "leaked") (length blocks - marked) (bytes - marked_bytes)
    → text ≡ sums_of head blocks news set
told head blocks news set shown bytes marked marked_bytes text each same all n b is =
    is
    ∙ ap (λ k. sizes_line (codes "blocks") (length blocks) k ++ undumped_line head ++ log_line head ++ freed_lines head.freed ++ dead_lines head.dead ++ new_lines news blocks
    ++ sizes_line (codes "marked") marked marked_bytes ++ sizes_line (codes "leaked") (length blocks - marked) (k - marked_bytes)) all
    ∙ sums_are head blocks news set marked marked_bytes each (n ∙ ap (λ bs. length (marked_in set bs)) same) (b ∙ ap (λ bs. bytes_of (marked_in set bs)) same)

-- a row of the rows
row_at : {A : Type 0} (P : A → Type 0) (rows : List A) (k : ℕ) (d : A) → AllByRecursion P rows → k < length rows → P (get_or rows k d)
row_at P [] k d all h = absurd (omega arith)
row_at P (r ∷ rows) zero d all h = all.0
row_at P (r ∷ rows) (suc k) d all h = row_at P rows k d all.1 (omega arith)
