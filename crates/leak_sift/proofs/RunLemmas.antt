-- Words are appended one by one, and those of 0 before each of them together.
use Rattle.std.proofs.Common.{◌≡◌, ℕ, ◌+◌, ◌-◌, ◌<◌, ◌≤◌, List, [], ◌∷◌, ◌++◌, length, take, replicate, get_or, Ok, Err, sym, ap, ◌∙◌, arith}
use Rattle.std.specs.Prelude.{Result, OnErr}
use Rattle.std.proofs.lemmas.List.{append_assoc, get_or-append_right, get_or-replicate, get_or-take, get_or_append_left, length-append, length-replicate, length-take-le, same_lists, take_all, take_more}
use Rattle.leak_index.proofs.Near.{either}
use Rattle.leak_lemmas.proofs.Lists.{any_default}
use Rattle.leak_sift.specs.Sifted.{AreZero}

-- what holds at an error, if it holds anyway
pub on_err : {T E : Type 0} (r : Result T E) (P : Type 0) → P → OnErr r P
on_err (Ok x) P p = tt
on_err (Err e) P p = p

-- words that are 0 are so many of 0
module _ (words : List ℕ) (from to : ℕ) (order : from ≤ to) (within : to ≤ length words) (zero : AreZero words from to) where
  lengths : length (take to words) ≡ length (take from words ++ replicate (to - from) 0)
  lengths = omega (arith, length-take-le to words within, length-append (take from words) (replicate (to - from) 0), length-take-le from words (omega arith), length-replicate {A = ℕ} (to - from) 0)

  each : (k d : ℕ) → k < to → get_or (take to words) k d ≡ get_or (take from words ++ replicate (to - from) 0) k d
  each k d h = get_or-take to words k d h ∙ either k from (get_or words k d ≡ get_or (take from words ++ replicate (to - from) 0) k d)
      (λ before. sym (get_or_append_left (take from words) (replicate (to - from) 0) d k (omega (arith, length-take-le from words (omega arith))) ∙ get_or-take from words k d before))
      (λ after. any_default words k d 0 (omega arith) ∙ zero.each k after h
      ∙ sym (get_or-append_right (take from words) (replicate (to - from) 0) from k d (length-take-le from words (omega arith)) after ∙ get_or-replicate (to - from) (k - from) 0 d (omega arith)))

  pub take_zeros : take to words ≡ take from words ++ replicate (to - from) 0
  take_zeros = same_lists (take to words) (take from words ++ replicate (to - from) 0) lengths (λ k d l. each k d (omega (arith, length-take-le to words within)))

-- the words so far are the first of more words after those before
module _ (before more words : List ℕ) (done : ℕ) (so_far : words ≡ before ++ take done more) where
  -- with those of 0 behind them
  pub padded_to : (number : ℕ) → done ≤ number → number ≤ length more → AreZero more done number → (padded : List ℕ) → padded ≡ words ++ replicate (number - done) 0
      → padded ≡ before ++ take number more
  padded_to number order within zero padded e =
      e ∙ ap (λ (l : List ℕ). l ++ replicate (number - done) 0) so_far ∙ append_assoc before (take done more) (replicate (number - done) 0)
      ∙ ap (λ (l : List ℕ). before ++ l) (sym (take_zeros more done number order within zero))

  -- with one more
  pub one_more : (word : ℕ) → done < length more → word ≡ get_or more done 0 → (after : List ℕ) → after ≡ words ++ word ∷ [] → after ≡ before ++ take (done + 1) more
  one_more word inside is after e =
      e ∙ ap (λ (l : List ℕ). l ++ word ∷ []) so_far ∙ append_assoc before (take done more) (word ∷ [])
      ∙ ap (λ (w : ℕ). before ++ (take done more ++ w ∷ [])) is ∙ ap (λ (l : List ℕ). before ++ l) (sym (take_more more done 0 inside))

  pub all_appended : length more ≤ done → words ≡ before ++ more
  all_appended all = so_far ∙ ap (λ (l : List ℕ). before ++ l) (take_all done more all)
