-- Answers to why a block is held are read from the first line to the last.
use Rattle.std.proofs.Common.{◌≡◌, ℕ, ◌≤◌, ◌==◌, false, List, [], ◌∷◌, ◌++◌, get_or, Option, None, Some, refl, sym, ap, subst, ◌∙◌, arith, append_assoc}
use Rattle.std.specs.Prelude.{codes, IfSome}
use Rattle.std.specs.Char.{digit_value}
use Rattle.std.specs.Fmt.{digits}
use Rattle.std.proofs.lemmas.Bool.{eq-eqb}
use Rattle.std.proofs.lemmas.Fmt.{digits_is_IsNumeral}
use Rattle.std.proofs.lemmas.List.{append_cancel_left, append_cancel_right}
use Rattle.leak_report.specs.Lines.{hexadecimal}
use Rattle.leak_why.specs.Text.{holds}
use Rattle.leak_laws.specs.Readable.{IsNumber, Lacks}
use Rattle.leak_laws.specs.ToldAnswers.{ToldEntry, entry_text}
use Rattle.leak_laws.specs.ToldWhy.{IsChainRead, IsStepRead, IsWhyRead, ToldChain, ToldStep, ToldWhy, chain_text, step_text, why_told}
use Rattle.leak_laws.proofs.AnswerReading.{entry_read}
use Rattle.leak_laws.proofs.GrowthReading.{last_rows}
use Rattle.leak_laws.proofs.RowReading.{IsRowText, space_ends_address}
use Rattle.leak_laws.proofs.Splits.{AreSame, lacks_digits, split_address, split_at, is_itself}

-- ---- a text up to its last space

holds_byte : (c : ℕ) (xs ys : List ℕ) → Lacks c (xs ++ c ∷ ys) → ⊥
holds_byte c [] ys all = is_itself c all.0
holds_byte c (x ∷ xs) ys all = holds_byte c xs ys all.1

record AreLast (xs ys h k : List ℕ) : Type 0 where
  front : xs ≡ ys
  last : h ≡ k

split_last : (c : ℕ) (xs ys h k : List ℕ) → Lacks c h → Lacks c k → xs ++ c ∷ h ≡ ys ++ c ∷ k → AreLast xs ys h k
split_last c [] [] h k p q e = record { front = refl; last = (let f : h ≡ k = cc in f) }
split_last c [] (y ∷ ys) h k p q e = let f : h ≡ ys ++ c ∷ k = cc in absurd (holds_byte c ys k (subst (Lacks c) f p))
split_last c (x ∷ xs) [] h k p q e = let f : k ≡ xs ++ c ∷ h = (let g : xs ++ c ∷ h ≡ k = cc in sym g) in absurd (holds_byte c xs h (subst (Lacks c) f q))
split_last c (x ∷ xs) (y ∷ ys) h k p q e =
    let first : x ≡ y = cc in
    let later : xs ++ c ∷ h ≡ ys ++ c ∷ k = cc in
    let more = split_last c xs ys h k p q later in
    let rest : xs ≡ ys = more.front in
    record { front = (let f : x ∷ xs ≡ y ∷ ys = cc in f); last = more.last }

address_lacks : (c n : ℕ) → 16 ≤ digit_value c → IsNumber n → Lacks c (digits 16 false n)
address_lacks c n none h = lacks_digits 16 c (digits 16 false n) none (digits_is_IsNumeral 16 false (omega arith) (omega arith) n (omega arith)).0.1

lacks_both : (c : ℕ) (xs ys : List ℕ) → Lacks c xs → Lacks c ys → Lacks c (xs ++ ys)
lacks_both c [] ys p q = q
lacks_both c (x ∷ xs) ys p q = (p.0, lacks_both c xs ys p.1 q)

-- ---- lines

-- the place of the root, and its word
flat_root : (place : List ℕ) (word : ℕ) (r : List ℕ) → codes "root " ++ (place ++ holds word) ++ r ≡ codes "root " ++ ((place ++ (codes " holds 0x" ++ digits 16 false word)) ++ (10 ∷ r))
flat_root place word r = simp append_assoc

root_lacks : (place : List ℕ) (word : ℕ) → Lacks 10 place → IsNumber word → Lacks 10 (place ++ (codes " holds 0x" ++ digits 16 false word))
root_lacks place word p h =
    lacks_both 10 place (codes " holds 0x" ++ digits 16 false word) p (refl, (refl, (refl, (refl, (refl, (refl, (refl, (refl, (refl, address_lacks 10 word (omega arith) h)))))))))

-- the place and the word of both
record AreSameRoots (a b : List ℕ) (v w : ℕ) (r s : List ℕ) : Type 0 where
  place : a ≡ b
  word : v ≡ w
  rest : r ≡ s

root_read : (a b : List ℕ) (v w : ℕ) (r s : List ℕ) → Lacks 10 a → Lacks 10 b → IsNumber v → IsNumber w → codes "root " ++ (a ++ holds v) ++ r ≡ codes "root " ++ (b ++ holds w) ++ s → AreSameRoots a b v w r s
root_read a b v w r s la lb nv nw e =
    let e0 = append_cancel_left (codes "root ") _ _ (sym (flat_root a v r) ∙ e ∙ flat_root b w s) in
    let line = split_at 10 (a ++ (codes " holds 0x" ++ digits 16 false v)) (b ++ (codes " holds 0x" ++ digits 16 false w)) r s (root_lacks a v la nv) (root_lacks b w lb nw) e0 in
    let both : (a ++ codes " holds") ++ 32 ∷ (codes "0x" ++ digits 16 false v) ≡ (b ++ codes " holds") ++ 32 ∷ (codes "0x" ++ digits 16 false w) =
    append_assoc a (codes " holds") (32 ∷ (codes "0x" ++ digits 16 false v)) ∙ line.part ∙ sym (append_assoc b (codes " holds") (32 ∷ (codes "0x" ++ digits 16 false w))) in
    let cut = split_last 32 (a ++ codes " holds") (b ++ codes " holds") (codes "0x" ++ digits 16 false v) (codes "0x" ++ digits 16 false w)
    (refl, (refl, address_lacks 32 v (omega arith) nv)) (refl, (refl, address_lacks 32 w (omega arith) nw)) both in
    let word = split_address 32 v w [] [] space_ends_address nv nw (ap (λ (t : List ℕ). t ++ 32 ∷ []) cut.last) in
    record { place = append_cancel_right a b (codes " holds") cut.front; word = word.part; rest = line.rest }

flat_step : (s : ToldStep) (r : List ℕ) → step_text s ++ r ≡ codes "word " ++ (hexadecimal s.address ++ (32 ∷ (codes "holds " ++ (hexadecimal s.word ++ (10 ∷ (entry_text (codes "block") s.entry ++ r))))))
flat_step s r = go (hexadecimal s.address) (hexadecimal s.word) (entry_text (codes "block") s.entry)
  where
    go : (address word entry : List ℕ) → codes "word " ++ (address ++ (codes " holds " ++ (word ++ (10 ∷ [])))) ++ entry ++ r ≡ codes "word " ++ (address ++ (32 ∷ (codes "holds " ++ (word ++ (10 ∷ (entry ++ r))))))
    go address word entry = simp append_assoc

step_read : (x y : ToldStep) (r s : List ℕ) → IsStepRead x → IsStepRead y → step_text x ++ r ≡ step_text y ++ s → AreSame x y r s
step_read x y r s p q e =
    let e0 = append_cancel_left (codes "word ") _ _ (sym (flat_step x r) ∙ e ∙ flat_step y s) in
    let address = split_address 32 x.address y.address _ _ space_ends_address p.address q.address e0 in
    let word = split_address 10 x.word y.word _ _ (omega arith) p.word q.word (append_cancel_left (codes "holds ") _ _ address.rest) in
    let entry = entry_read (codes "block") x.entry y.entry r s p.entry q.entry word.rest in
    record {
      part = ap (λ (n : ℕ). record { address = n; word = x.word; entry = x.entry }) address.part
          ∙ ap (λ (n : ℕ). record { address = y.address; word = n; entry = x.entry }) word.part
          ∙ ap (λ (t : ToldEntry). record { address = y.address; word = y.word; entry = t }) entry.part;
      rest = entry.rest;
    }

step_rows : IsRowText step_text 119 IsStepRead
step_rows = record { begins = λ s. (_, refl); reads = step_read }

same_chain : (x y : ToldChain) → x.place ≡ y.place → x.word ≡ y.word → x.first ≡ y.first → x.steps ≡ y.steps → x ≡ y
same_chain x y a b c d =
    ap (λ (t : List ℕ). record { place = t; word = x.word; first = x.first; steps = x.steps }) a
    ∙ ap (λ (n : ℕ). record { place = y.place; word = n; first = x.first; steps = x.steps }) b
    ∙ ap (λ (t : ToldEntry). record { place = y.place; word = y.word; first = t; steps = x.steps }) c
    ∙ ap (λ (ss : List ToldStep). record { place = y.place; word = y.word; first = y.first; steps = ss }) d

chain_read : (x y : Option ToldChain) → IfSome x IsChainRead → IfSome y IsChainRead → chain_text x ≡ chain_text y → x ≡ y
chain_read None None p q e = refl
chain_read None (Some y) p q e = let n : 108 ≡ 114 = ap (λ (u : List ℕ). get_or u 0 0) e in absurd (omega (arith, n))
chain_read (Some x) None p q e = let n : 114 ≡ 108 = ap (λ (u : List ℕ). get_or u 0 0) e in absurd (omega (arith, n))
chain_read (Some x) (Some y) p q e =
    let root = root_read x.place y.place x.word y.word _ _ p.place q.place p.word q.word e in
    let first = entry_read (codes "block") x.first y.first _ _ p.first q.first root.rest in
    let steps = last_rows step_text 119 IsStepRead step_rows (λ z. omega (arith, z)) x.steps y.steps p.steps q.steps first.rest in
    ap (λ (c : ToldChain). Some c) (same_chain x y root.place root.word first.part steps)

pub why_reads_back : (a b : ToldWhy) → IsWhyRead a → IsWhyRead b → why_told a ≡ why_told b → a ≡ b
why_reads_back a b p q e =
    let asked = entry_read (codes "asked") a.asked b.asked _ _ p.asked q.asked e in
    ap (λ (x : ToldEntry). record { asked = x; chain = a.chain }) asked.part ∙ ap (λ (c : Option ToldChain). record { asked = b.asked; chain = c }) (chain_read a.chain b.chain p.chain q.chain asked.rest)
