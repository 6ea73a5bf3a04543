-- The report of what grew is read from the first line to the last.
use Rattle.std.proofs.Common.{◌≡◌, ℕ, ◌-◌, Bool, true, false, List, [], ◌∷◌, ◌++◌, flat_map, get_or, refl, sym, ap, ◌∙◌, arith, append_assoc, append-nil}
use Rattle.std.specs.Prelude.{codes, decimal, if◌then◌else◌, nat_lt}
use Rattle.std.specs.List.{AllByRecursion}
use Rattle.std.proofs.lemmas.Fmt.{digits_is_IsNumeral}
use Rattle.std.proofs.lemmas.List.{append_cancel_left}
use Rattle.leak_blocks.specs.Live.{Replay}
use Rattle.leak_growth.specs.declared.summing.Sizes.{Sizes}
use Rattle.leak_growth.specs.Lines.{counts_line, growth_line, growth_of}
use Rattle.leak_growth.specs.Report.{report_of}
use Rattle.leak_growth.specs.Rows.{Growth}
use Rattle.leak_laws.specs.Told.{Sum, sum_line}
use Rattle.leak_laws.specs.Readable.{IsNumber, Lacks}
use Rattle.leak_laws.specs.ToldGrowth.{IsGrowthRead, IsGrowthToldRead, ToldGrowth, growth_tells, growth_told}
use Rattle.leak_laws.proofs.RowReading.{IsRowText, NotFirst, counts_read, rows_read, space_ends, sum_read}
use Rattle.leak_laws.proofs.Splits.{AreSame, lacks_digits, split_at, split_number}

pub growth_is_told : (log1 : List ℕ) (earlier : Replay) (log2 : List ℕ) (later : Replay) (torn after : ℕ) → report_of log1 earlier log2 later torn after ≡ growth_told (growth_tells log1 earlier log2 later torn after)
unfolding report_of
growth_is_told log1 earlier log2 later torn after = refl

-- a growth has no space in it
decimal_lacks : (n : ℕ) → IsNumber n → Lacks 32 (decimal n)
decimal_lacks n h = lacks_digits 10 32 (decimal n) space_ends (digits_is_IsNumeral 10 false (omega arith) (omega arith) n (omega arith)).0.1

growth_lacks : (e l : ℕ) → IsNumber e → IsNumber l → Lacks 32 (growth_of e l)
growth_lacks e l p q = go (nat_lt l e)
  where
    go : (b : Bool) → Lacks 32 (if b then codes "-" ++ decimal (e - l) else decimal (l - e))
    go true = (refl, decimal_lacks (e - l) (omega arith))
    go false = decimal_lacks (l - e) (omega arith)

flat_growth : (g : Growth) (r : List ℕ) → growth_line g ++ r
    ≡ codes "grew " ++ (growth_of g.earlier.bytes g.later.bytes ++ (32 ∷ (decimal g.earlier.blocks ++ (32 ∷ (decimal g.earlier.bytes ++ (32 ∷ (decimal g.later.blocks ++ (32 ∷ (decimal g.later.bytes ++ (32 ∷ (decimal g.new.blocks
    ++ (32 ∷ (decimal g.new.bytes ++ (32 ∷ (g.text ++ (10 ∷ r))))))))))))))))
flat_growth g r = go (growth_of g.earlier.bytes g.later.bytes)
  where
    go : (growth : List ℕ) → (codes "grew " ++ growth ++ (codes " " ++ (decimal g.earlier.blocks ++ (codes " " ++ (decimal g.earlier.bytes ++ (codes " " ++ (decimal g.later.blocks
        ++ (codes " " ++ (decimal g.later.bytes ++ (codes " " ++ (decimal g.new.blocks ++ (codes " " ++ (decimal g.new.bytes ++ codes " "))))))))))))) ++ g.text ++ (10 ∷ []) ++ r
        ≡ codes "grew " ++ (growth ++ (32 ∷ (decimal g.earlier.blocks ++ (32 ∷ (decimal g.earlier.bytes ++ (32 ∷ (decimal g.later.blocks ++ (32 ∷ (decimal g.later.bytes ++ (32 ∷ (decimal g.new.blocks
        ++ (32 ∷ (decimal g.new.bytes ++ (32 ∷ (g.text ++ (10 ∷ r))))))))))))))))
    go growth = simp append_assoc

sizes : ℕ → ℕ → Sizes
sizes blocks bytes = record { blocks = blocks; bytes = bytes }

same_growth : (x y : Growth) → x.earlier.blocks ≡ y.earlier.blocks → x.earlier.bytes ≡ y.earlier.bytes → x.later.blocks ≡ y.later.blocks → x.later.bytes ≡ y.later.bytes → x.new.blocks ≡ y.new.blocks → x.new.bytes ≡ y.new.bytes
    → x.text ≡ y.text → x ≡ y
unfolding sizes
same_growth x y a b c d e f t =
    let one : x.earlier ≡ y.earlier = ap (λ (n : ℕ). sizes n x.earlier.bytes) a ∙ ap (λ (n : ℕ). sizes y.earlier.blocks n) b in
    let two : x.later ≡ y.later = ap (λ (n : ℕ). sizes n x.later.bytes) c ∙ ap (λ (n : ℕ). sizes y.later.blocks n) d in
    let three : x.new ≡ y.new = ap (λ (n : ℕ). sizes n x.new.bytes) e ∙ ap (λ (n : ℕ). sizes y.new.blocks n) f in
    ap (λ (s : Sizes). record { text = x.text; earlier = s; later = x.later; new = x.new }) one
    ∙ ap (λ (s : Sizes). record { text = x.text; earlier = y.earlier; later = s; new = x.new }) two
    ∙ ap (λ (s : Sizes). record { text = x.text; earlier = y.earlier; later = y.later; new = s }) three
    ∙ ap (λ (s : List ℕ). record { text = s; earlier = y.earlier; later = y.later; new = y.new }) t

growth_read : (x y : Growth) (r s : List ℕ) → IsGrowthRead x → IsGrowthRead y → growth_line x ++ r ≡ growth_line y ++ s → AreSame x y r s
growth_read x y r s p q e =
    let e0 = append_cancel_left (codes "grew ") _ _ (sym (flat_growth x r) ∙ e ∙ flat_growth y s) in
    let growth = split_at 32 (growth_of x.earlier.bytes x.later.bytes) (growth_of y.earlier.bytes y.later.bytes) _ _ (growth_lacks x.earlier.bytes x.later.bytes p.earlier.bytes p.later.bytes) (growth_lacks y.earlier.bytes y.later.bytes q.earlier.bytes q.later.bytes) e0 in
    let a = split_number 32 x.earlier.blocks y.earlier.blocks _ _ space_ends p.earlier.blocks q.earlier.blocks growth.rest in
    let b = split_number 32 x.earlier.bytes y.earlier.bytes _ _ space_ends p.earlier.bytes q.earlier.bytes a.rest in
    let c = split_number 32 x.later.blocks y.later.blocks _ _ space_ends p.later.blocks q.later.blocks b.rest in
    let d = split_number 32 x.later.bytes y.later.bytes _ _ space_ends p.later.bytes q.later.bytes c.rest in
    let f = split_number 32 x.new.blocks y.new.blocks _ _ space_ends p.new.blocks q.new.blocks d.rest in
    let g = split_number 32 x.new.bytes y.new.bytes _ _ space_ends p.new.bytes q.new.bytes f.rest in
    let text = split_at 10 x.text y.text r s p.text q.text g.rest in
    record { part = same_growth x y a.part b.part c.part d.part f.part g.part text.part; rest = text.rest }

growth_rows : IsRowText growth_line 103 IsGrowthRead
growth_rows = record { begins = λ g. (_, refl); reads = growth_read }

no_more : (c : ℕ) → (0 ≡ c → ⊥) → NotFirst c []
no_more c differ rest e = differ (ap (λ (t : List ℕ). get_or t 0 0) e)

pub last_rows : {X : Type 0} (line : X → List ℕ) (first : ℕ) (ok : X → Type 0) → IsRowText line first ok → (0 ≡ first → ⊥) → (xs ys : List X) → AllByRecursion ok xs → AllByRecursion ok ys → flat_map line xs ≡ flat_map line ys → xs ≡ ys
last_rows line first ok is some xs ys p q e =
    (rows_read line first ok is xs ys [] [] p q (no_more first some) (no_more first some) (append-nil (flat_map line xs) ∙ e ∙ sym (append-nil (flat_map line ys)))).part

five : (a b c d e : List ℕ) → a ++ b ++ c ++ d ++ e ≡ a ++ (b ++ (c ++ (d ++ e)))
five a b c d e = simp append_assoc

same_growths : (a b : ToldGrowth) → a.before ≡ b.before → a.now ≡ b.now → a.fresh ≡ b.fresh → a.unknown ≡ b.unknown → a.displaced ≡ b.displaced → a.torn ≡ b.torn → a.rows ≡ b.rows → a ≡ b
same_growths a b c d e f g h i =
    ap (λ (x : Sum). record { before = x; now = a.now; fresh = a.fresh; unknown = a.unknown; displaced = a.displaced; torn = a.torn; rows = a.rows }) c
    ∙ ap (λ (x : Sum). record { before = b.before; now = x; fresh = a.fresh; unknown = a.unknown; displaced = a.displaced; torn = a.torn; rows = a.rows }) d
    ∙ ap (λ (x : Sum). record { before = b.before; now = b.now; fresh = x; unknown = a.unknown; displaced = a.displaced; torn = a.torn; rows = a.rows }) e
    ∙ ap (λ (x : ℕ). record { before = b.before; now = b.now; fresh = b.fresh; unknown = x; displaced = a.displaced; torn = a.torn; rows = a.rows }) f
    ∙ ap (λ (x : ℕ). record { before = b.before; now = b.now; fresh = b.fresh; unknown = b.unknown; displaced = x; torn = a.torn; rows = a.rows }) g
    ∙ ap (λ (x : ℕ). record { before = b.before; now = b.now; fresh = b.fresh; unknown = b.unknown; displaced = b.displaced; torn = x; rows = a.rows }) h
    ∙ ap (λ (x : List Growth). record { before = b.before; now = b.now; fresh = b.fresh; unknown = b.unknown; displaced = b.displaced; torn = b.torn; rows = x }) i

growth_grouped : (t : ToldGrowth) → growth_told t ≡ sum_line (codes "then") t.before ++ (sum_line (codes "now") t.now ++ (sum_line (codes "new") t.fresh ++ (counts_line t.unknown t.displaced t.torn ++ flat_map growth_line t.rows)))
growth_grouped t = five (sum_line (codes "then") t.before) (sum_line (codes "now") t.now) (sum_line (codes "new") t.fresh) (counts_line t.unknown t.displaced t.torn) (flat_map growth_line t.rows)

pub growth_reads_back : (a b : ToldGrowth) → IsGrowthToldRead a → IsGrowthToldRead b → growth_told a ≡ growth_told b → a ≡ b
growth_reads_back a b p q e =
    let before = sum_read (codes "then") a.before b.before _ _ p.before q.before (sym (growth_grouped a) ∙ e ∙ growth_grouped b) in
    let now = sum_read (codes "now") a.now b.now _ _ p.now q.now before.rest in
    let fresh = sum_read (codes "new") a.fresh b.fresh _ _ p.fresh q.fresh now.rest in
    let odd = counts_read a.unknown b.unknown a.displaced b.displaced a.torn b.torn _ _ p.unknown q.unknown p.displaced q.displaced p.torn q.torn fresh.rest in
    let rows = last_rows growth_line 103 IsGrowthRead growth_rows (λ z. omega (arith, z)) a.rows b.rows p.rows q.rows odd.rest in
    same_growths a b before.part now.part fresh.part odd.unknown odd.displaced odd.torn rows
