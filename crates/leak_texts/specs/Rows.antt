-- Worked rows of the definitions.
use Rattle.std.specs.Prelude.{◌≡◌, ℕ, List, [], ◌∷◌}
use Rattle.leak_texts.specs.Texts.{IsNew, IsNumbered, IsWithin, StandAt, text_with}

-- three texts
abbrev pub a : List ℕ
a = 97 ∷ []

abbrev pub ab : List ℕ
ab = 97 ∷ 98 ∷ []

abbrev pub b : List ℕ
b = 98 ∷ []

-- numbers of texts that were met, and of those that are new
pub record AreWorkedNumbers : Type 0 where
  pub second : text_with (a ∷ ab ∷ []) 1 ≡ ab
  pub no_text : text_with (a ∷ ab ∷ []) 2 ≡ []
  pub new : IsNew (a ∷ ab ∷ []) b
  pub not_new : ¬ IsNew (a ∷ ab ∷ []) ab
  pub first : IsNumbered [] a (a ∷ []) 0
  pub next : IsNumbered (a ∷ []) ab (a ∷ ab ∷ []) 1
  pub again : IsNumbered (a ∷ ab ∷ []) ab (a ∷ ab ∷ []) 1
  pub not_twice : ¬ IsNumbered (a ∷ ab ∷ []) a (a ∷ ab ∷ a ∷ []) 2
  pub not_lost : ¬ IsNumbered (a ∷ []) ab (ab ∷ []) 0
  pub not_other : ¬ IsNumbered (a ∷ ab ∷ []) b (a ∷ ab ∷ []) 1

-- texts one after another
pub record AreWorkedPlaces : Type 0 where
  pub none : StandAt [] [] []
  pub behind : StandAt (97 ∷ 97 ∷ 98 ∷ []) ((0, 1) ∷ (1, 3) ∷ []) (a ∷ ab ∷ [])
  pub within : StandAt (97 ∷ 98 ∷ []) ((0, 2) ∷ (1, 2) ∷ []) (ab ∷ b ∷ [])
  pub not_short : ¬ StandAt (97 ∷ 98 ∷ []) ((0, 1) ∷ []) (ab ∷ [])
  pub not_outside : ¬ IsWithin (97 ∷ []) (0, 2)
