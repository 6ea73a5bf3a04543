-- The words of some blocks are fewer than the bytes of all.
use Rattle.std.proofs.Common.{◌≡◌, ℕ, zero, suc, ◌+◌, ◌-◌, ◌<◌, ◌≤◌, refl, sym, subst, ap, ◌∙◌, List, [], ◌∷◌, length, take, get_or, Option, Some, None, slice_get, slice_index, sum_by, arith}
use mathlib.Core.Logic.{dite}
use native.Mathlib.Decide.{ℕ_discrete}
use Rattle.std.specs.Option.{option_map_or}
use Rattle.std.specs.List.Sorted.{IsStrictlyIncreasing}
use Rattle.std.proofs.lemmas.List.Sums.{sum_by-cons, sum_by_more, sum_by-take-le, sum_by-le-sum_by}
use Rattle.leak_blocks.specs.declared.block.Block.{Block}
use Rattle.leak_scan.specs.Targets.{block_words_on}
use Rattle.leak_marks.specs.Lists.{Has}
use Rattle.leak_marks.proofs.ListLemmas.{here, there}
use Rattle.leak_later.specs.Differing.{reread_of}
use Rattle.leak_later.proofs.NumberLemmas.{Rises, rises_lower}
use Rattle.leak_later.proofs.CountLemmas.{few_words, on_pages, words_of_block}

-- ---- ascending numbers

pub rises : (low : ℕ) (xs : List ℕ) → IsStrictlyIncreasing xs → ((d : ℕ) → 0 < length xs → low ≤ get_or xs 0 d) → Rises low xs
rises low [] up h = tt
rises low (x ∷ []) up h = (h 0 (omega arith), tt)
rises low (x ∷ y ∷ xs) up h = (h 0 (omega arith), rises (x + 1) (y ∷ xs) (λ k l. subst (λ (n : ℕ). slice_index (y ∷ xs) k < slice_index (x ∷ y ∷ xs) n) (let e : suc k + 1 ≡ suc (k + 1) = omega arith in e) (up (suc k) (omega arith))) (λ d l. let m : x < y = up 0 (omega arith) in omega arith))

-- ---- sizes

abbrev pub size_at : List Block → ℕ → ℕ
size_at blocks k = option_map_or (λ b. b.size) (slice_get blocks k) 0

-- numbers above the first, in the list after it
shifted : (b : Block) (blocks : List Block) (n m : ℕ) (xs : List ℕ) → n + 1 ≤ m → Rises m xs → sum_by (λ i. size_at (b ∷ blocks) (i - n)) xs ≡ sum_by (λ i. size_at blocks (i - (n + 1))) xs
shifted b blocks n m [] h r = refl
shifted b blocks n m (x ∷ xs) h r =
    let low = r.0 in
    sum_by-cons (λ i. size_at (b ∷ blocks) (i - n)) x xs
    ∙ ap (λ (k : ℕ). size_at (b ∷ blocks) k + sum_by (λ i. size_at (b ∷ blocks) (i - n)) xs) (let e : x - n ≡ suc (x - (n + 1)) = omega arith in e)
    ∙ ap {B = ℕ} (λ (k : ℕ). size_at blocks (x - (n + 1)) + k) (shifted b blocks n (x + 1) xs (omega arith) r.1)
    ∙ sym (sum_by-cons (λ i. size_at blocks (i - (n + 1))) x xs)

pub sizes_of : (n : ℕ) (blocks : List Block) (xs : List ℕ) → Rises n xs → ((x : ℕ) → Has xs x → x < n + length blocks) → sum_by (λ i. size_at blocks (i - n)) xs ≤ sum_by (λ b. b.size) blocks
sizes_of n [] [] r all = omega arith
sizes_of n [] (x ∷ xs) r all = absurd (let l = r.0 in let u = all x (here x xs) in omega arith)
sizes_of n (b ∷ blocks) [] r all = omega arith
sizes_of n (b ∷ blocks) (x ∷ xs) r all = dite (ℕ_discrete x n)
    (λ same.
    let rest = sizes_of (n + 1) blocks xs (rises_lower (n + 1) (x + 1) xs (omega arith) r.1) (λ y h. let u = all y (there x xs y h) in omega arith) in
    let move = shifted b blocks n (x + 1) xs (omega arith) r.1 in
    let first : size_at (b ∷ blocks) (x - n) ≡ b.size = ap (size_at (b ∷ blocks)) (let e : x - n ≡ 0 = omega arith in e) in
    omega (arith, sum_by-cons (λ i. size_at (b ∷ blocks) (i - n)) x xs, sum_by-cons (λ c. c.size) b blocks, rest, move, first))
    (λ other.
    let above : Rises (n + 1) (x ∷ xs) = (let l = r.0 in omega arith, r.1) in
    let rest = sizes_of (n + 1) blocks (x ∷ xs) above (λ y h. let u = all y h in omega arith) in
    let move = shifted b blocks n (n + 1) (x ∷ xs) (omega arith) above in
    omega (arith, sum_by-cons (λ c. c.size) b blocks, rest, move))

-- ---- words

module _ (f : ℕ → Option ℕ) (pages : List ℕ) (blocks : List Block) where
  abbrev words_at : ℕ → ℕ
  words_at i = option_map_or (λ b. length (block_words_on f pages b)) (slice_get blocks i) 0

  few_on : (b : Block) → length (block_words_on f pages b) ≤ b.size
  few_on b =
      let e = ap length (words_of_block f pages b (b.start + (b.size - 7)) refl) in
      let l = few_words (on_pages f pages) b.start (b.start + (b.size - 7) - b.start) in
      omega arith

  few_at : (i : ℕ) → words_at i ≤ size_at blocks i
  few_at i = go (slice_get blocks i)
    where
      go : (o : Option Block) → option_map_or (λ b. length (block_words_on f pages b)) o 0 ≤ option_map_or (λ b. b.size) o 0
      go None = omega arith
      go (Some b) = few_on b

  pub reread_few : (xs : List ℕ) → IsStrictlyIncreasing xs → ((x : ℕ) → Has xs x → x < length blocks) → reread_of f pages blocks xs ≤ sum_by (λ b. b.size) blocks
  unfolding reread_of
  reread_few xs up all =
      let a = sum_by-le-sum_by words_at (λ i. size_at blocks (i - 0)) xs (λ i. subst (λ (k : ℕ). words_at i ≤ size_at blocks k) (let e : i ≡ i - 0 = omega arith in e) (few_at i)) in
      let b = sizes_of 0 blocks xs (rises 0 xs up (λ d h. omega arith)) (λ x h. let u = all x h in omega arith) in
      omega arith

  pub reread_none : 0 ≡ reread_of f pages blocks []
  unfolding reread_of
  reread_none = refl

  at_block : (bs : List Block) (n : ℕ) (d : Block) → n < length bs → slice_get bs n ≡ Some (get_or bs n d)
  at_block [] n d h = absurd (omega arith)
  at_block (b ∷ bs) zero d h = refl
  at_block (b ∷ bs) (suc n) d h = at_block bs n d (omega arith)

  pub reread_more : (xs : List ℕ) (k d : ℕ) (e : Block) → k < length xs → get_or xs k d < length blocks →
      reread_of f pages blocks (take (k + 1) xs) ≡ reread_of f pages blocks (take k xs) + length (block_words_on f pages (get_or blocks (get_or xs k d) e))
  unfolding reread_of
  reread_more xs k d e h l =
      sum_by_more words_at xs k d h
      ∙ ap (λ (o : Option Block). sum_by words_at (take k xs) + option_map_or (λ b. length (block_words_on f pages b)) o 0) (at_block blocks (get_or xs k d) e l)

  pub reread_front : (xs : List ℕ) (k : ℕ) → reread_of f pages blocks (take k xs) ≤ reread_of f pages blocks xs
  unfolding reread_of
  reread_front xs k = sum_by-take-le words_at xs k
