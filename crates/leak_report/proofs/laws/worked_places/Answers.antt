-- Each text is computed.
use Rattle.std.proofs.Common.{ℕ, ◌<◌, List, [], ◌∷◌, refl, lit<, lit≤}
use Rattle.std.specs.Prelude.{codes}
use Rattle.std.proofs.lemmas.List.Elements.{All-nil, All-cons}
use Rattle.leak_report.specs.Totals.{IsIn}
use Rattle.leak_report.proofs.laws.worked_places.Goals as goal

pub returns : goal.returns
returns c =
    let kept : List ℕ = codes "?aa:[0x1]c:[0x3]" in
    record {
      nothing = record { one_each = refl; within = All-nil (λ n. n < 0); inside = All-nil (IsIn []); same = refl };
      none = record {
        one_each = refl;
        within = All-cons (λ n. n < 1) 0 [] (lit< tt) (All-nil (λ n. n < 1));
        inside = All-cons (IsIn (codes "?")) (0, 1) [] (record { order = lit≤ tt; within = lit≤ tt }) (All-nil (IsIn (codes "?")));
        same = refl;
      };
      five = record {
        one_each = refl;
        within = All-cons (λ n. n < 4) 3 (2 ∷ 0 ∷ 1 ∷ 3 ∷ []) (lit< tt) (All-cons (λ n. n < 4) 2 (0 ∷ 1 ∷ 3 ∷ []) (lit< tt)
            (All-cons (λ n. n < 4) 0 (1 ∷ 3 ∷ []) (lit< tt) (All-cons (λ n. n < 4) 1 (3 ∷ []) (lit< tt)
            (All-cons (λ n. n < 4) 3 [] (lit< tt) (All-nil (λ n. n < 4))))));
        inside = All-cons (IsIn kept) (0, 1) ((1, 2) ∷ (2, 9) ∷ (9, 16) ∷ []) (record { order = lit≤ tt; within = lit≤ tt })
            (All-cons (IsIn kept) (1, 2) ((2, 9) ∷ (9, 16) ∷ []) (record { order = lit≤ tt; within = lit≤ tt })
            (All-cons (IsIn kept) (2, 9) ((9, 16) ∷ []) (record { order = lit≤ tt; within = lit≤ tt })
            (All-cons (IsIn kept) (9, 16) [] (record { order = lit≤ tt; within = lit≤ tt }) (All-nil (IsIn kept)))));
        same = refl;
      };
    }
