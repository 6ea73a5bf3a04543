-- The sizes of some blocks together.
use Rattle.std.proofs.Common.{◌≡◌, ℕ, zero, suc, ◌+◌, ◌-◌, ◌<◌, ◌≤◌, refl, subst, ap, ◌∙◌, List, [], ◌∷◌, length, take, get_or, Option, Some, slice_get, sum_by, arith}
use Rattle.std.specs.Option.{option_map_or}
use Rattle.std.specs.List.Sorted.{IsStrictlyIncreasing}
use Rattle.std.proofs.lemmas.List.Sums.{sum_by_more, sum_by-take-le, sum_by-le-sum_by}
use Rattle.leak_blocks.specs.declared.block.Block.{Block}
use Rattle.leak_marks.specs.Lists.{Has}
use Rattle.leak_later.proofs.SizeLemmas.{rises, sizes_of, size_at}
use Rattle.leak_search.specs.SearchTwo.{size_of}

pub size_none : (blocks : List Block) → 0 ≡ size_of blocks []
unfolding size_of
size_none blocks = refl

at_block : (bs : List Block) (n : ℕ) (d : Block) → n < length bs → slice_get bs n ≡ Some (get_or bs n d)
at_block [] n d h = absurd (omega arith)
at_block (b ∷ bs) zero d h = refl
at_block (b ∷ bs) (suc n) d h = at_block bs n d (omega arith)

pub size_more : (blocks : List Block) (xs : List ℕ) (k d : ℕ) (e : Block) → k < length xs → get_or xs k d < length blocks →
    size_of blocks (take (k + 1) xs) ≡ size_of blocks (take k xs) + (get_or blocks (get_or xs k d) e).size
unfolding size_of
size_more blocks xs k d e h l =
    sum_by_more (size_at blocks) xs k d h
    ∙ ap (λ (o : Option Block). sum_by (size_at blocks) (take k xs) + option_map_or (λ b. b.size) o 0) (at_block blocks (get_or xs k d) e l)

pub size_front : (blocks : List Block) (xs : List ℕ) (k : ℕ) → size_of blocks (take k xs) ≤ size_of blocks xs
unfolding size_of
size_front blocks xs k = sum_by-take-le (size_at blocks) xs k

pub size_few : (blocks : List Block) (xs : List ℕ) → IsStrictlyIncreasing xs → ((x : ℕ) → Has xs x → x < length blocks) → size_of blocks xs ≤ sum_by (λ b. b.size) blocks
unfolding size_of
size_few blocks xs up all =
    let a = sum_by-le-sum_by (size_at blocks) (λ i. size_at blocks (i - 0)) xs (λ i. subst (λ (k : ℕ). size_at blocks i ≤ size_at blocks k) (let e : i ≡ i - 0 = omega arith in e) (let r : size_at blocks i ≤ size_at blocks i = omega arith in r)) in
    let b = sizes_of 0 blocks xs (rises 0 xs up (λ d h. omega arith)) (λ x h. let u = all x h in omega arith) in
    omega arith
