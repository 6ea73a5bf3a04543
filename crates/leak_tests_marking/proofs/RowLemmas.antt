-- What is in a list of lists that are lent.
use Rattle.std.proofs.Common.{◌<◌, ℕ, Bor, List, [], get_or, length, map, subst, arith, ◌+◌}
use mathlib.Core.Logic.{dite}
use native.Mathlib.Decide.{dec_lt, ℕ_discrete}
use Rattle.std.proofs.lemmas.List.{get_or-map, get_or_past, length-map}
use Rattle.leak_marks.specs.Lists.{Has}
use Rattle.leak_marks.proofs.ListLemmas.{none_has}

abbrev pub now_of : Bor (List ℕ) → List ℕ
now_of x = x.now

module _ (ls : List (Bor (List ℕ))) (n : ℕ) where
  abbrev pub RowsBelow : ℕ → Type 0
  RowsBelow i = (p b : ℕ) → p < i → Has (get_or (map now_of ls) p []) b → b < n

  pub row_more : (i : ℕ) (d : Bor (List ℕ)) → i < length ls → RowsBelow i → ((b : ℕ) → Has (get_or ls i d).now b → b < n) → (p b : ℕ) → p < i + 1 → Has (get_or (map now_of ls) p []) b → b < n
  row_more i d inside before row p b low h = dite (ℕ_discrete p i)
      (λ e. row b (subst (λ (l : List ℕ). Has l b) (get_or-map now_of ls i d [] inside) (subst (λ (q : ℕ). Has (get_or (map now_of ls) q []) b) e h)))
      (λ ne. before p b (omega arith) h)

  pub row_any : RowsBelow (length ls) → (p b : ℕ) → Has (get_or (map now_of ls) p []) b → b < n
  row_any all p b h = dite (dec_lt p (length ls))
      (λ low. all p b low h)
      (λ high. absurd (none_has b (subst (λ (l : List ℕ). Has l b) (get_or_past (map now_of ls) p [] (let e = length-map ls now_of in omega arith)) h)))
