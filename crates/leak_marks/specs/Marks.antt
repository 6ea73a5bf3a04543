-- The rule of the table of marks, and what its steps tell.
use Rattle.std.specs.Prelude.{◌≡◌, ℕ, ◌+◌, ◌-◌, ◌/◌, ◌%◌, ◌^◌, ◌<◌, ◌≤◌, List, [], ◌∷◌, ◌++◌, length}
use Rattle.std.specs.Int.{bit_at}
use mathlib.Core.Option.{some}
use lib.ListN.{get_elem?}
use Rattle.atomic_table.specs.Table.{State, Me, Step}
use Rattle.leak_marks.specs.declared.view.View.{View}
use Rattle.leak_marks.specs.Lists.{times, Has, IsDistinct, Within, mark_of, word_count}

abbrev pub view : List ℕ → List ℕ → ℕ → View
view claims seen share = record { claims = claims; seen = seen; share = share }

-- the first seat's view
abbrev pub whole : View
whole = view [] [] 4294967296

-- the view of a seat that was joined to another
abbrev pub spent : View
spent = view [] [] 0

-- the sum over all views
abbrev pub total : (View → ℕ) → List View → ℕ
total f [] = 0
total f (v ∷ vs) = f v + total f vs

-- What a view says is true of the words: its claims are seen, what is seen is set, and without a share it has neither
pub record Fits (words : List ℕ) (v : View) : Type 0 where
  pub among : Within v.claims v.seen
  pub set : (b : ℕ) → Has v.seen b → mark_of words b ≡ 1
  pub idle : v.share ≡ 0 → (v.claims ≡ []) × (v.seen ≡ [])

-- The marks are the claims: each marked block is claimed once in all views together, and each other block by none
pub record Kept (blocks : ℕ) (s : State (Unit {0}) View) : Type 0 where
  pub wide : length s.words ≡ word_count blocks
  pub once : (b : ℕ) → total (λ v. times b v.claims) s.views ≡ mark_of s.words b
  pub clear : (b : ℕ) → blocks ≤ b → mark_of s.words b ≡ 0
  pub fits : (j : ℕ) (v : View) → get_elem? s.views j ≡ some v → Fits s.words v
  pub shares : total (λ v. v.share) s.views ≡ 4294967296

-- a seat's view, and the slots that it holds
abbrev pub Sat : Type 0
Sat = Me (Unit {0}) View

-- A live seat beside its share as a number: it holds no slot, has seen what it claimed, and claimed no block twice
pub record IsSeated (share : ℕ) (m : Sat) : Type 0 where
  pub number : share ≡ m.0.share
  pub live : 0 < share
  pub most : share ≤ 4294967296
  pub slots : m.1 ≡ []
  pub among : Within m.0.claims m.0.seen
  pub distinct : IsDistinct m.0.claims

-- the view after a claim that won, and after one that lost or a look that found the mark
abbrev pub won : View → ℕ → View
won v b = view (v.claims ++ b ∷ []) (v.seen ++ b ∷ []) v.share

abbrev pub noted : View → ℕ → View
noted v b = view v.claims (v.seen ++ b ∷ []) v.share

-- a claim of the block b: it won if the mark was clear, and then b was not seen before
abbrev pub claimed : Step (Unit {0}) → Sat → ℕ → Sat → Type 0
claimed st m n m' = (b : ℕ) → b / 64 ≡ st.word → 2 ^ (b % 64) ≡ st.first
    → (m'.1 ≡ m.1)
    × (bit_at n (b % 64) ≡ 0 → (m'.0 ≡ won m.0 b) × ¬ Has m.0.seen b)
    × (bit_at n (b % 64) ≡ 1 → m'.0 ≡ noted m.0 b)

-- a look at the block b: it is seen if the mark was set; otherwise it was not seen before and nothing changed
abbrev pub looked : ℕ → Step (Unit {0}) → Sat → ℕ → Sat → Type 0
looked b st m n m' = b / 64 ≡ st.word
    → (m'.1 ≡ m.1)
    × (bit_at n (b % 64) ≡ 0 → (m'.0 ≡ m.0) × ¬ Has m.0.seen b)
    × (bit_at n (b % 64) ≡ 1 → m'.0 ≡ noted m.0 b)

-- a look that changes nothing: the seat's claims are in its list once each, and its share is no more than the whole
abbrev pub checked : Step (Unit {0}) → Sat → ℕ → Sat → Type 0
checked st m n m' = (m' ≡ m) × IsDistinct m.0.claims × (m.0.share ≤ 4294967296)

-- cut in two: the new seat has a share of 1, has claimed nothing and has seen what the giver has seen
abbrev pub left_of : View → View
left_of v = view v.claims v.seen (v.share - 1)

abbrev pub right_of : View → View
right_of v = view [] v.seen 1

abbrev pub joined : View → View → View
joined v w = view (v.claims ++ w.claims) (v.seen ++ w.seen) (v.share + w.share)
