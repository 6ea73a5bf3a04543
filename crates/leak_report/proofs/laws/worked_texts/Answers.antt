-- Each text is computed.
use Rattle.std.proofs.Common.{ℕ, ◌<◌, List, [], ◌∷◌, refl, lit<}
use Rattle.std.specs.Prelude.{codes}
use Rattle.std.specs.List.{Contains}
use Rattle.std.specs.List.Sorted.{IsStrictlySortedBy}
use Rattle.std.proofs.lemmas.List.Elements.{All-nil, All-cons}
use Rattle.leak_report.proofs.laws.worked_texts.Goals as goal

pub returns : goal.returns
unfolding IsStrictlySortedBy
returns c =
    let one : List (List ℕ) = codes "?" ∷ [] in
    let five : List (List ℕ) = codes "c:[0x3]" ∷ codes "a:[0x1]" ∷ codes "?" ∷ codes "a" ∷ codes "c:[0x3]" ∷ [] in
    record {
      nothing = record { ascending = tt; each = All-nil (Contains []); below = All-nil (λ n. n < 0); same = refl };
      none = record {
        ascending = (tt, tt);
        each = All-cons (Contains one) (codes "?") [] (0, lit< tt, refl) (All-nil (Contains one));
        below = All-cons (λ n. n < 1) 0 [] (lit< tt) (All-nil (λ n. n < 1));
        same = refl;
      };
      five = record {
        ascending = ((refl, (refl, (refl, tt))), ((refl, (refl, tt)), ((refl, tt), (tt, tt))));
        each = All-cons (Contains five) (codes "?") (codes "a" ∷ codes "a:[0x1]" ∷ codes "c:[0x3]" ∷ []) (2, lit< tt, refl)
            (All-cons (Contains five) (codes "a") (codes "a:[0x1]" ∷ codes "c:[0x3]" ∷ []) (3, lit< tt, refl)
            (All-cons (Contains five) (codes "a:[0x1]") (codes "c:[0x3]" ∷ []) (1, lit< tt, refl)
            (All-cons (Contains five) (codes "c:[0x3]") [] (0, lit< tt, refl) (All-nil (Contains five)))));
        below = All-cons (λ n. n < 4) 3 (2 ∷ 0 ∷ 1 ∷ 3 ∷ []) (lit< tt) (All-cons (λ n. n < 4) 2 (0 ∷ 1 ∷ 3 ∷ []) (lit< tt)
            (All-cons (λ n. n < 4) 0 (1 ∷ 3 ∷ []) (lit< tt) (All-cons (λ n. n < 4) 1 (3 ∷ []) (lit< tt)
            (All-cons (λ n. n < 4) 3 [] (lit< tt) (All-nil (λ n. n < 4))))));
        same = refl;
      };
    }
