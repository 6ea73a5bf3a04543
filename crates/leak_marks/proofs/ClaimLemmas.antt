-- What an attempt does to the lists and to the marks.
use Rattle.std.proofs.Common.{◌≡◌, ◌↔◌, ℕ, zero, suc, ◌+◌, ◌<◌, ◌≤◌, List, [], ◌∷◌, ◌++◌, Bool, true, false, ◌==◌, ◌||◌, if◌then◌else◌, length, get_or, set, map, replicate, count_by, cond, IsTrue, true≢false, refl, sym, ap, ◌∙◌, subst, arith, eq-eqb, ne_eqb, length-set}
use mathlib.Core.Logic.{dite}
use native.Mathlib.Decide.{ℕ_discrete}
use lib.Seq.{map-set}
use Rattle.std.specs.Prelude.{All}
use Rattle.std.specs.List.{concat}
use Rattle.std.proofs.lemmas.List.{get_or-set_same, get_or-set_other, get_or_default}
use Rattle.std.proofs.lemmas.List.Elements.{All-set}
use Rattle.std.proofs.lemmas.List.Sums.{sum_by-set, count_by-le-length}
use Rattle.std.proofs.Math.Bool.{or-false}
use Rattle.std.proofs.lemmas.Bool.{or_right}
use Rattle.leak_marks.specs.Lists.{has}
use Rattle.leak_marks.specs.Claims.{ClaimState, IsClaimed, attempted}
use Rattle.leak_marks.proofs.ListLemmas.{to_has, of_has}
use Rattle.leak_marks.proofs.RunLemmas.{is_claimed, has_pushed, nothing_claimed}

abbrev pub state : ℕ → List (List ℕ) → ClaimState
state blocks lists = record { blocks = blocks; lists = lists }

-- the block is appended to the worker's list
abbrev pub appended : List (List ℕ) → ℕ → ℕ → List (List ℕ)
appended lists worker block = set lists worker (get_or lists worker [] ++ block ∷ [])

-- one more mark is set
pub set_count_more : (ms : List Bool) (b : ℕ) → b < length ms → get_or ms b false ≡ false → count_by (λ m. m) (set ms b true) ≡ count_by (λ m. m) ms + 1
set_count_more ms b h e =
    let r = sum_by-set (λ (m : Bool). cond m 1 0) ms b true false h in
    let z : ◌≡◌ {A = ℕ} (cond (get_or ms b false) 1 0) 0 = ap (λ (m : Bool). cond m 1 0) e in omega arith

-- with a mark that is clear, fewer are set than there are
pub set_count_room : (ms : List Bool) (b : ℕ) → b < length ms → get_or ms b false ≡ false → count_by (λ m. m) ms < length ms
set_count_room ms b h e =
    let more = set_count_more ms b h e in let most = count_by-le-length (λ (m : Bool). m) (set ms b true) in let long = length-set ms b true in omega arith

-- the marks say what is claimed
abbrev pub Says : List Bool → List (List ℕ) → Type 0
Says ms ls = (b : ℕ) → b < length ms → get_or ms b false ≡ is_claimed ls b

pub says_more : (ms : List Bool) (ls : List (List ℕ)) (w b : ℕ) → w < length ls → b < length ms → Says ms ls → Says (set ms b true) (appended ls w b)
says_more ms ls w b within inside says x h = dite (ℕ_discrete x b)
    (λ is. subst (λ (y : ℕ). get_or (set ms b true) y false ≡ is_claimed (appended ls w b) y) (sym is)
    (get_or-set_same ms b true false inside ∙ sym (has_pushed ls w b b within ∙ or_right (is_claimed ls b) (b == b) (eq-eqb b b refl))))
    (λ ne. get_or-set_other ms b x true false ne ∙ says x (subst (λ (n : ℕ). x < n) (length-set ms b true) h)
    ∙ sym (has_pushed ls w b x within ∙ ap (λ (z : Bool). is_claimed ls x || z) (ne_eqb b x (λ e. ne (sym e))) ∙ or-false (is_claimed ls x)))

-- empty lists and no mark
none_set : (n b : ℕ) → get_or (replicate n false) b false ≡ false
none_set zero b = refl
none_set (suc n) zero = refl
none_set (suc n) (suc b) = none_set n b

pub says_none : (n k : ℕ) → Says (replicate n false) (replicate k [])
says_none n k b h = none_set n b ∙ sym (nothing_claimed k b)

-- the mark that was read says whether the block is claimed
pub mark_says : (s : ClaimState) (ms : List Bool) (ls : List (List ℕ)) (b : ℕ) (m : Bool) → state (length ms) ls ≡ s → b < s.blocks → m ≡ get_or ms b m → Says ms ls → IsTrue m ↔ IsClaimed s.lists b
mark_says s ms ls b m is inside read says =
    let there : b < length ms = subst (λ (x : ClaimState). b < x.blocks) (sym is) inside in
    let same : m ≡ has (concat ls) b = read ∙ get_or_default ms b m false there ∙ says b there in
    subst (λ (x : ClaimState). IsTrue m ↔ IsClaimed x.lists b) is ((λ t. of_has (concat ls) b (sym same ∙ t)), (λ h. same ∙ to_has (concat ls) b h))

-- if it is clear the block is not claimed, and the attempt wins
pub won_where_clear : (b : ℕ) (m : Bool) (lists : List (List ℕ)) → m ≡ false → (IsTrue m ↔ IsClaimed lists b) → IsTrue true ↔ ¬ IsClaimed lists b
won_where_clear b m lists clear says = ((λ _ h. true≢false (sym (says.1 h) ∙ clear)), (λ _. refl))

pub lost_where_set : (b : ℕ) (m : Bool) (lists : List (List ℕ)) → m ≡ true → (IsTrue m ↔ IsClaimed lists b) → IsTrue false ↔ ¬ IsClaimed lists b
lost_where_set b m lists set says = ((λ f. absurd (true≢false (sym f))), (λ out. absurd (out (says.0 set))))

-- lists of any kind, with their length and their room
module _ {A : Type 0} (items : A → List ℕ) (len room : A → ℕ) where
  abbrev pub Fit : List Bool → A → Type 0
  Fit ms v = (len v ≤ count_by (λ m. m) ms) × (length ms ≤ room v)

  -- if the block is not marked there is room for it
  pub room_there : (ms : List Bool) (vs : List A) (w b : ℕ) (v : A) → v ≡ get_or vs w v → w < length vs → b < length ms → get_or ms b false ≡ false → All (Fit ms) vs → len v < room v
  room_there ms vs w b v is within inside clear all =
      let r = set_count_room ms b inside clear in
      let f : Fit ms v = subst (Fit ms) (sym is) (all w v within) in
      let p : len v ≤ count_by (λ m. m) ms = f.0 in let q : length ms ≤ room v = f.1 in let r' : count_by (λ m. m) ms < length ms = r in omega arith

  pub roomy_more : (ms : List Bool) (vs : List A) (w b : ℕ) (v v' : A) → v ≡ get_or vs w v → w < length vs → b < length ms → get_or ms b false ≡ false → len v' ≡ len v + 1 → room v' ≡ room v
      → All (Fit ms) vs → All (Fit (set ms b true)) (set vs w v')
  roomy_more ms vs w b v v' is within inside clear longer same all =
      let more : count_by (λ m. m) (set ms b true) ≡ count_by (λ m. m) ms + 1 = set_count_more ms b inside clear in
      let long : length (set ms b true) ≡ length ms = length-set ms b true in
      let f : Fit ms v = subst (Fit ms) (sym is) (all w v within) in
      let p : len v ≤ count_by (λ m. m) ms = f.0 in let q : length ms ≤ room v = f.1 in
      All-set (Fit (set ms b true)) vs w v' (omega arith, omega arith)
      (λ k d lt. let g = all k d lt in let p' : len (get_or vs k d) ≤ count_by (λ m. m) ms = g.0 in let q' : length ms ≤ room (get_or vs k d) = g.1 in (omega arith, omega arith))

  at_map : (vs : List A) (w : ℕ) (v : A) → w < length vs → v ≡ get_or vs w v → items v ≡ get_or (map items vs) w []
  at_map [] w v h e = absurd (omega arith)
  at_map (x ∷ xs) zero v h e = ap items e
  at_map (x ∷ xs) (suc w) v h e = at_map xs w v (omega arith) e

  pub lists_more : (vs : List A) (w b : ℕ) (v v' : A) → v ≡ get_or vs w v → w < length vs → items v' ≡ items v ++ b ∷ [] → map items (set vs w v') ≡ appended (map items vs) w b
  lists_more vs w b v v' is within pushed = map-set items vs w v' ∙ ap (λ (l : List ℕ). set (map items vs) w l) (pushed ∙ ap (λ (l : List ℕ). l ++ b ∷ []) (at_map vs w v within is))

-- the lists after an attempt that won
pub attempted_is : (s : ClaimState) (blocks : ℕ) (lists now : List (List ℕ)) (w b : ℕ) → state blocks lists ≡ s → is_claimed lists b ≡ false → now ≡ appended lists w b
    → now ≡ attempted s.lists w b
attempted_is s blocks lists now w b is clear more = subst (λ (x : ClaimState). now ≡ attempted x.lists w b) is
    (subst (λ (z : Bool). now ≡ (if z then lists else appended lists w b)) (sym clear) more)
