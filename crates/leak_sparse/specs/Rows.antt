-- Worked rows of the definitions.
use Rattle.std.specs.Prelude.{◌≡◌, ℕ, ◌^◌, List, [], ◌∷◌, map}
use Rattle.leak_sparse.specs.declared.group.Group.{Group}
use Rattle.leak_sparse.specs.Groups.{covered, empty, kept_in, moved, word_at, words_of}
use Rattle.leak_sparse.specs.Words.{AreZerosTo, HasRoom, IsNextKept, NoneKeptFrom, between, kept_from, kept_of}

-- a group by its bits
abbrev pub group : ℕ → ℕ → Group
group bits before = record { bits = bits; before = before }

-- 7 and 9 in the first group, 5 as the first word of the second, and 6 as the last of the third
abbrev pub three : List Group
three = group 5 0 ∷ group 1 2 ∷ group (2 ^ 63) 3 ∷ []

abbrev pub four_words : List ℕ
four_words = 7 ∷ 9 ∷ 5 ∷ 6 ∷ []

-- two words that aren't 0, and one
abbrev pub gaps : List ℕ
gaps = 0 ∷ 7 ∷ 0 ∷ 9 ∷ []

abbrev pub tail : List ℕ
tail = 0 ∷ 7 ∷ 0 ∷ []

-- words of groups: bit 0 is the first place, and a word comes after those of the groups before and of lower bits
pub record AreWorkedGroups : Type 0 where
  pub no_word : words_of [] [] 0 ≡ []
  pub zeros : words_of (empty 0 ∷ []) [] 3 ≡ 0 ∷ 0 ∷ 0 ∷ []
  pub two : words_of (group 5 0 ∷ []) (7 ∷ 9 ∷ []) 4 ≡ 7 ∷ 0 ∷ 9 ∷ 0 ∷ []
  pub spare : words_of (group 5 0 ∷ empty 2 ∷ []) (7 ∷ 9 ∷ []) 4 ≡ 7 ∷ 0 ∷ 9 ∷ 0 ∷ []
  pub first : word_at three four_words 0 ≡ 7
  pub between : word_at three four_words 1 ≡ 0
  pub third : word_at three four_words 2 ≡ 9
  pub last_of_first : word_at three four_words 63 ≡ 0
  pub second_group : word_at three four_words 64 ≡ 5
  pub last : word_at three four_words 191 ≡ 6
  pub past : word_at three four_words 192 ≡ 0
  pub all : kept_in (group 5 0 ∷ group 1 2 ∷ []) ≡ 3
  pub one_more : covered (group 5 0 ∷ []) 65 2 ≡ group 5 0 ∷ empty 2 ∷ []
  pub enough : covered (group 5 0 ∷ []) 64 2 ≡ group 5 0 ∷ []
  pub fewer : covered (group 5 0 ∷ empty 2 ∷ []) 4 2 ≡ group 5 0 ∷ empty 2 ∷ []
  pub after_more : moved 3 (group 5 2) ≡ group 5 5

-- words that aren't 0, words between bounds, and room for zeros
pub record AreWorkedLists : Type 0 where
  pub none : kept_of (0 ∷ 0 ∷ []) ≡ 0
  pub some : kept_of gaps ≡ 2
  pub all_from : kept_from gaps 0 4 ≡ 7 ∷ 9 ∷ []
  pub last_from : kept_from gaps 2 2 ≡ 9 ∷ []
  pub first_from : kept_from gaps 0 3 ≡ 7 ∷ []
  pub none_from : kept_from gaps 2 1 ≡ []
  pub too_low : between 5 9 4 ≡ 0
  pub lowest : between 5 9 5 ≡ 5
  pub inner : between 5 9 7 ≡ 7
  pub highest : between 5 9 9 ≡ 9
  pub too_high : between 5 9 10 ≡ 0
  pub zero : between 5 9 0 ≡ 0
  pub zero_inside : between 0 9 0 ≡ 0
  pub no_bounds : between 9 5 7 ≡ 0
  pub of_list : map (between 7 8) gaps ≡ 0 ∷ 7 ∷ 0 ∷ 0 ∷ []
  pub itself : IsNextKept gaps 1 1
  pub later : IsNextKept gaps 2 3
  pub not_second : ¬ IsNextKept gaps 0 3
  pub left : NoneKeptFrom tail 2
  pub outside : NoneKeptFrom tail 3
  pub to_word : AreZerosTo gaps 2 3
  pub to_end : AreZerosTo tail 2 3
  pub not_past : ¬ AreZerosTo gaps 0 3
  pub no_more : HasRoom [] 0
  pub no_group : ¬ HasRoom [] 1
  pub rest : HasRoom (7 ∷ []) 63
  pub full : ¬ HasRoom (7 ∷ []) 64
