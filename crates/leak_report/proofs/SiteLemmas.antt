-- Blocks with their callers among texts that were kept.
use Rattle.std.proofs.Common.{◌≡◌, ℕ, zero, suc, ◌<◌, List, [], ◌∷◌, length, get_or, refl, arith}
use Rattle.std.proofs.lemmas.List.Sums.{sum_by-cons}
use Rattle.leak_blocks.specs.declared.block.Block.{Block}
use Rattle.leak_report.specs.declared.caller_texts.CallerTexts.{CallerTexts}
use Rattle.leak_report.specs.declared.caller_texts.CallerTexts.TheVariants.{OfLog, Few, Many}
use Rattle.leak_report.specs.Sites.{HaveSites, sited, with_caller, with_callers}
use Rattle.leak_report.specs.Totals.{bytes_of}

-- the block at a place
pub caller_at : (ranges : List (ℕ × ℕ)) (numbers : List ℕ) (blocks : List Block) (i : ℕ) (b d : Block) → length numbers ≡ length blocks → i < length blocks
    → with_caller (get_or blocks i b) (get_or ranges (get_or numbers i 0) (0, 0)) ≡ get_or (with_callers ranges numbers blocks) i d
caller_at ranges numbers [] i b d same h = absurd (omega (arith, h))
caller_at ranges [] (x ∷ blocks) i b d same h = absurd (omega (arith, same))
caller_at ranges (n ∷ numbers) (x ∷ blocks) zero b d same h = refl
caller_at ranges (n ∷ numbers) (x ∷ blocks) (suc i) b d same h = caller_at ranges numbers blocks i b d (omega (arith, same)) (omega (arith, h))

length_placed : (ranges : List (ℕ × ℕ)) (numbers : List ℕ) (blocks : List Block) → length numbers ≡ length blocks → length (with_callers ranges numbers blocks) ≡ length blocks
length_placed ranges [] [] same = refl
length_placed ranges [] (b ∷ blocks) same = absurd (omega (arith, same))
length_placed ranges (n ∷ numbers) [] same = absurd (omega (arith, same))
length_placed ranges (n ∷ numbers) (b ∷ blocks) same = omega (arith, length_placed ranges numbers blocks (omega (arith, same)))

bytes_placed : (ranges : List (ℕ × ℕ)) (numbers : List ℕ) (blocks : List Block) → length numbers ≡ length blocks → bytes_of (with_callers ranges numbers blocks) ≡ bytes_of blocks
bytes_placed ranges [] [] same = refl
bytes_placed ranges [] (b ∷ blocks) same = absurd (omega (arith, same))
bytes_placed ranges (n ∷ numbers) [] same = absurd (omega (arith, same))
bytes_placed ranges (n ∷ numbers) (b ∷ blocks) same =
    omega (
      arith,
      bytes_placed ranges numbers blocks (omega (arith, same)),
      sum_by-cons (λ (b : Block). b.size) b blocks,
      sum_by-cons (λ (b : Block). b.size) (with_caller b (get_or ranges n (0, 0))) (with_callers ranges numbers blocks),
    )

-- as many blocks, of as many bytes
pub length_sited : (callers : CallerTexts) (blocks : List Block) → HaveSites callers (length blocks) → length (sited callers blocks) ≡ length blocks
length_sited (OfLog log) blocks have = refl
length_sited (Few places numbers) blocks have = length_placed places.ranges.now numbers.now blocks have.0
length_sited (Many places numbers) blocks have = length_placed places.ranges.now numbers.now blocks have.0

pub bytes_sited : (callers : CallerTexts) (blocks : List Block) → HaveSites callers (length blocks) → bytes_of (sited callers blocks) ≡ bytes_of blocks
bytes_sited (OfLog log) blocks have = refl
bytes_sited (Few places numbers) blocks have = bytes_placed places.ranges.now numbers.now blocks have.0
bytes_sited (Many places numbers) blocks have = bytes_placed places.ranges.now numbers.now blocks have.0
