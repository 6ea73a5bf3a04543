-- The words of a block in a run, and what is listed of them.
use Rattle.std.proofs.Common.{◌≡◌, ℕ, ◌+◌, ◌-◌, ◌*◌, ◌/◌, ◌<◌, ◌≤◌, refl, ap, sym, ◌∙◌, subst, List, [], ◌∷◌, ◌++◌, length, take, drop, Option, Some, append_assoc, arith}
use Rattle.std.proofs.lemmas.List.{append-nil, length-append, length-drop, length-take, take-take}
use Rattle.std.specs.Int.{w64}
use Rattle.std.specs.List.{AllByRecursion}
use Rattle.leak_elf.specs.Fields.{number_at}
use Rattle.leak_elf.specs.Words.{IsRun, words_between}
use Rattle.leak_blocks.specs.declared.block.Block.{Block}
use Rattle.leak_index.specs.Hits.{Index, hits_of}
use Rattle.leak_scan.specs.Positions.{words_in, words_from}
use Rattle.leak_scan.specs.Targets.{targets_of, block_words}
use Rattle.leak_scan.proofs.Ranges.{IsAligned, same_range}
use Rattle.leak_scan.proofs.Runs.{number_drop, run_taken}
use Rattle.leak_scan.proofs.Ahead.{targets_more, targets_none}

-- the words of a block are those of its complete groups of 8 bytes
pub block_taken : (f : ℕ → Option ℕ) (b : Block) (whole : ℕ) (run : List ℕ) → IsAligned f → IsRun f b.start run → whole ≡ 8 * (b.size / 8) → whole ≤ length run → words_in (take whole run) ≡ block_words f b
unfolding words_between words_from
block_taken f b whole run aligned is size fits =
    let n : ℕ = b.size / 8 in
    let taken = run_taken f n b.start (b.size - 7) run aligned is (omega arith) (omega arith) (omega arith) in
    ap (λ (k : ℕ). words_in (take k run)) size ∙ sym taken ∙ same_range f b.start b.start (b.size - 7) (b.start + b.size - 7 - b.start) refl (omega arith)

-- a run from a later word on
pub run_dropped : (f : ℕ → Option ℕ) (from at n : ℕ) (run : List ℕ) → IsRun f from run → at ≡ from + 8 * n → IsRun f at (drop (8 * n) run)
run_dropped f from at n run is e k h =
    let l = length-drop (8 * n) run in
    let place : from + 8 * (n + k) ≡ at + 8 * k = omega arith in
    let eighths : 8 * (n + k) ≡ 8 * n + 8 * k = omega arith in
    subst (λ (a : ℕ). f a ≡ Some (number_at w64 (drop (8 * n) run) (8 * k))) place
    (is (n + k) (omega arith) ∙ ap (λ (j : ℕ). Some (number_at w64 run j)) eighths ∙ ap (λ (x : ℕ). Some x) (sym (number_drop run (8 * n) (8 * k))))

-- one word more is listed
pub word_listed : (index : Index) (before now hits words later all : List ℕ) (word : ℕ) → words ≡ word ∷ later → hits ≡ hits_of index word → now ≡ before ++ hits
    → before ++ targets_of index words ≡ all → now ++ targets_of index later ≡ all
word_listed index before now hits words later all word more led is whole =
    ap (λ (l : List ℕ). l ++ targets_of index later) is ∙ append_assoc before hits (targets_of index later)
    ∙ ap (λ (l : List ℕ). before ++ (l ++ targets_of index later)) led
    ∙ ap (λ (l : List ℕ). before ++ l) (sym (targets_more index word later) ∙ ap (targets_of index) (sym more)) ∙ whole

-- what begins a list that begins another begins that too
pub kept_on : (xs ys zs : List ℕ) → take (length xs) ys ≡ xs → take (length ys) zs ≡ ys → take (length xs) zs ≡ xs
kept_on xs ys zs first next =
    let l = length-take (length xs) ys in
    let e = ap (λ (l : List ℕ). length l) first in
    sym (take-take (length xs) (length ys) zs (omega (arith, l, e))) ∙ ap (λ (l : List ℕ). take (length xs) l) next ∙ first

-- nothing is left
pub all_listed : (index : Index) (now words all : List ℕ) → words ≡ [] → now ++ targets_of index words ≡ all → now ≡ all
all_listed index now words all none whole = sym (append-nil now) ∙ ap (λ (l : List ℕ). now ++ l) (sym (ap (targets_of index) none ∙ targets_none index)) ∙ whole

-- if the next hits don't fit, not all do
pub all_over : (index : Index) (before start hits words later led : List ℕ) (word room : ℕ) → words ≡ word ∷ later → hits ≡ hits_of index word
    → before ++ targets_of index words ≡ start ++ led → room < length before + length hits → room < length start + length led
all_over index before start hits words later led word room more is whole over =
    let len : List ℕ → ℕ = λ (l : List ℕ). length l in
    let rest : List ℕ = targets_of index later in
    let now : List ℕ = targets_of index words in
    let split : now ≡ hits ++ rest = ap (targets_of index) more ∙ targets_more index word later ∙ ap (λ (l : List ℕ). l ++ rest) (sym is) in
    let a : length now ≡ length hits + length rest = ap len split ∙ length-append hits rest in
    let b : length before + length now ≡ length start + length led = sym (length-append before now) ∙ ap len whole ∙ length-append start led in
    omega arith

-- what is below one bound is below a greater one
pub all_small : (n m : ℕ) (xs : List ℕ) → n ≤ m → AllByRecursion (λ b. b < n) xs → AllByRecursion (λ b. b < m) xs
all_small n m [] h all = all
all_small n m (x ∷ xs) h all = (let a : x < n = all.0 in omega arith, all_small n m xs h all.1)
