-- Rows are read one after another: each begins with a byte that what follows the rows does not begin with.
use Rattle.std.proofs.Common.{◌≡◌, ℕ, ◌≤◌, List, [], ◌∷◌, ◌++◌, flat_map, get_or, Option, None, Some, refl, sym, ap, ◌∙◌, arith, append_assoc}
use Rattle.std.specs.Prelude.{codes, decimal, IfSome}
use Rattle.std.specs.Char.{digit_value}
use Rattle.std.specs.List.{AllByRecursion}
use Rattle.std.proofs.lemmas.List.{append_cancel_left}
use Rattle.leak_report.specs.Lines.{dead_lines, freed_lines}
use Rattle.leak_laws.specs.Told.{Sum, sum_line}
use Rattle.leak_laws.specs.Readable.{IsNumber, IsSumRead}
use Rattle.leak_laws.proofs.Splits.{AreSame, split_number}

pub space_ends : 10 ≤ digit_value 32
space_ends = omega arith

pub feed_ends : 10 ≤ digit_value 10
feed_ends = omega arith

pub space_ends_address : 16 ≤ digit_value 32
space_ends_address = omega arith

-- the list does not begin with the byte
abbrev pub NotFirst : ℕ → List ℕ → Type 0
NotFirst c xs = (rest : List ℕ) → xs ≡ c ∷ rest → ⊥

-- each row begins with the byte, and is told from what follows
pub record IsRowText {X : Type 0} (line : X → List ℕ) (first : ℕ) (ok : X → Type 0) : Type 0 where
  pub begins : (x : X) → (rest : List ℕ) × (line x ≡ first ∷ rest)
  pub reads : (x y : X) (r s : List ℕ) → ok x → ok y → line x ++ r ≡ line y ++ s → AreSame x y r s

pub others_first : {X : Type 0} (line : X → List ℕ) (first : ℕ) (ok : X → Type 0) → IsRowText line first ok → (c : ℕ) → (first ≡ c → ⊥) → (xs : List X) (r : List ℕ) → NotFirst c r → NotFirst c (flat_map line xs ++ r)
others_first line first ok is c differ [] r not_first rest e = not_first rest e
others_first line first ok is c differ (x ∷ xs) r not_first rest e =
    let b = is.begins x in
    let begun : (first ∷ b.0) ++ flat_map line xs ++ r ≡ c ∷ rest = ap (λ (t : List ℕ). t ++ flat_map line xs ++ r) (sym b.1) ∙ e in
    differ (ap (λ (t : List ℕ). get_or t 0 0) begun)

pub rows_read : {X : Type 0} (line : X → List ℕ) (first : ℕ) (ok : X → Type 0) → IsRowText line first ok → (xs ys : List X) (r s : List ℕ) → AllByRecursion ok xs → AllByRecursion ok ys
    → NotFirst first r → NotFirst first s → flat_map line xs ++ r ≡ flat_map line ys ++ s → AreSame xs ys r s
rows_read line first ok is [] [] r s p q left right e = record { part = refl; rest = e }
rows_read line first ok is [] (y ∷ ys) r s p q left right e =
    let b = is.begins y in
    absurd (left (b.0 ++ flat_map line ys ++ s) (e ∙ ap (λ (t : List ℕ). t ++ flat_map line ys ++ s) b.1))
rows_read line first ok is (x ∷ xs) [] r s p q left right e =
    let b = is.begins x in
    absurd (right (b.0 ++ flat_map line xs ++ r) (sym e ∙ ap (λ (t : List ℕ). t ++ flat_map line xs ++ r) b.1))
rows_read line first ok is (x ∷ xs) (y ∷ ys) r s p q left right e =
    let apart : line x ++ (flat_map line xs ++ r) ≡ line y ++ (flat_map line ys ++ s) = sym (append_assoc (line x) (flat_map line xs) r) ∙ e ∙ append_assoc (line y) (flat_map line ys) s in
    let one = is.reads x y (flat_map line xs ++ r) (flat_map line ys ++ s) p.0 q.0 apart in
    let more = rows_read line first ok is xs ys r s p.1 q.1 left right one.rest in
    let here : x ≡ y = one.part in
    let there : xs ≡ ys = more.part in
    record { part = (let f : x ∷ xs ≡ y ∷ ys = cc in f); rest = more.rest }

-- ---- sums

flat_sum : (name : List ℕ) (x : Sum) (r : List ℕ) → sum_line name x ++ r ≡ name ++ (32 ∷ (decimal x.blocks ++ (32 ∷ (codes "bytes " ++ (decimal x.bytes ++ (10 ∷ r))))))
flat_sum name x r = simp append_assoc

pub sum_read : (name : List ℕ) (x y : Sum) (r s : List ℕ) → IsSumRead x → IsSumRead y → sum_line name x ++ r ≡ sum_line name y ++ s → AreSame x y r s
sum_read name x y r s p q e =
    let e0 = append_cancel_left name _ _ (sym (flat_sum name x r) ∙ e ∙ flat_sum name y s) in
    let blocks = split_number 32 x.blocks y.blocks _ _ space_ends p.blocks q.blocks (append_cancel_left (codes " ") _ _ e0) in
    let bytes = split_number 10 x.bytes y.bytes _ _ feed_ends p.bytes q.bytes (append_cancel_left (codes "bytes ") _ _ blocks.rest) in
    record {
      part = ap (λ (n : ℕ). record { blocks = n; bytes = x.bytes }) blocks.part ∙ ap (λ (n : ℕ). record { blocks = y.blocks; bytes = n }) bytes.part;
      rest = bytes.rest;
    }

-- a line with one number
pub number_read : (name : List ℕ) (m n : ℕ) (r s : List ℕ) → IsNumber m → IsNumber n → (name ++ (decimal m ++ (10 ∷ []))) ++ r ≡ (name ++ (decimal n ++ (10 ∷ []))) ++ s → AreSame m n r s
number_read name m n r s p q e =
    split_number 10 m n r s feed_ends p q (append_cancel_left name (decimal m ++ (10 ∷ r)) (decimal n ++ (10 ∷ s)) (sym (flat name m r) ∙ e ∙ flat name n s))
  where
    flat : (name : List ℕ) (m : ℕ) (r : List ℕ) → (name ++ (decimal m ++ (10 ∷ []))) ++ r ≡ name ++ (decimal m ++ (10 ∷ r))
    flat name m r = simp append_assoc

-- what is odd about a log: the same numbers
pub record AreSameCounts (u v : ℕ) (d e : ℕ) (t w : ℕ) (r s : List ℕ) : Type 0 where
  pub unknown : u ≡ v
  pub displaced : d ≡ e
  pub torn : t ≡ w
  pub rest : r ≡ s

abbrev pub counts : ℕ → ℕ → ℕ → List ℕ
counts unknown displaced torn = codes "unknown " ++ (decimal unknown ++ (codes " displaced " ++ (decimal displaced ++ (codes " torn " ++ (decimal torn ++ (10 ∷ []))))))

flat_counts : (u d t : ℕ) (r : List ℕ) → counts u d t ++ r ≡ codes "unknown " ++ (decimal u ++ (32 ∷ (codes "displaced " ++ (decimal d ++ (32 ∷ (codes "torn " ++ (decimal t ++ (10 ∷ r))))))))
flat_counts u d t r = simp append_assoc

pub counts_read : (u v d e t w : ℕ) (r s : List ℕ) → IsNumber u → IsNumber v → IsNumber d → IsNumber e → IsNumber t → IsNumber w → counts u d t ++ r ≡ counts v e w ++ s → AreSameCounts u v d e t w r s
counts_read u v d e t w r s pu pv pd pe pt pw same =
    let e0 = append_cancel_left (codes "unknown ") _ _ (sym (flat_counts u d t r) ∙ same ∙ flat_counts v e w s) in
    let unknown = split_number 32 u v _ _ space_ends pu pv e0 in
    let displaced = split_number 32 d e _ _ space_ends pd pe (append_cancel_left (codes "displaced ") _ _ unknown.rest) in
    let torn = split_number 10 t w r s feed_ends pt pw (append_cancel_left (codes "torn ") _ _ displaced.rest) in
    record { unknown = unknown.part; displaced = displaced.part; torn = torn.part; rest = torn.rest }

-- the number of freed words, if it is told
pub freed_read : (x y : Option ℕ) (r s : List ℕ) → IfSome x IsNumber → IfSome y IsNumber → NotFirst 102 r → NotFirst 102 s → freed_lines x ++ r ≡ freed_lines y ++ s → AreSame x y r s
freed_read None None r s p q left right e = record { part = refl; rest = e }
freed_read None (Some n) r s p q left right e = absurd (left _ e)
freed_read (Some m) None r s p q left right e = absurd (right _ (sym e))
freed_read (Some m) (Some n) r s p q left right e = let one = number_read (codes "freed ") m n r s p q e in record { part = ap (λ (k : ℕ). Some k) one.part; rest = one.rest }

-- the number of words of dead stack, if it is told
pub dead_read : (x y : Option ℕ) (r s : List ℕ) → IfSome x IsNumber → IfSome y IsNumber → NotFirst 100 r → NotFirst 100 s → dead_lines x ++ r ≡ dead_lines y ++ s → AreSame x y r s
dead_read None None r s p q left right e = record { part = refl; rest = e }
dead_read None (Some n) r s p q left right e = absurd (left _ e)
dead_read (Some m) None r s p q left right e = absurd (right _ (sym e))
dead_read (Some m) (Some n) r s p q left right e = let one = number_read (codes "dead ") m n r s p q e in record { part = ap (λ (k : ℕ). Some k) one.part; rest = one.rest }

-- the line of dead stack does not begin as that of freed words
pub dead_first : (x : Option ℕ) (r : List ℕ) → NotFirst 102 r → NotFirst 102 (dead_lines x ++ r)
dead_first None r other rest e = other rest e
dead_first (Some n) r other rest e = let k : 100 ≡ 102 = ap (λ (u : List ℕ). get_or u 0 0) e in omega (arith, k)
