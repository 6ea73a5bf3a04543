-- The report on who holds the memory is read from the first line to the last.
use Rattle.std.proofs.Common.{◌≡◌, ℕ, Bool, List, ◌∷◌, ◌++◌, flat_map, get_or, Option, None, Some, refl, sym, ap, ◌∙◌, arith, append_assoc}
use Rattle.std.specs.Prelude.{codes, decimal, IfSome, option_map}
use Rattle.std.proofs.lemmas.List.{append_cancel_left}
use Rattle.leak_blocks.specs.declared.block.Block.{Block}
use Rattle.leak_report.specs.declared.head.Head.{Head}
use Rattle.leak_report.specs.Lines.{dead_lines, freed_lines, hexadecimal, log_line, undumped_line}
use Rattle.leak_report.specs.Totals.{leaked_in, marked_in}
use Rattle.leak_holders.specs.declared.holder.Holder.{Holder}
use Rattle.leak_holder_search.specs.Text.{holders_text, new_lines}
use Rattle.leak_laws.specs.Reports.{sum_of}
use Rattle.leak_laws.specs.Told.{Sum, sum_line}
use Rattle.leak_laws.specs.Readable.{IsSumRead}
use Rattle.leak_laws.specs.ToldHolders.{AreHoldersRead, IsHolderRead, ToldHolder, ToldHolders, fresh_lines, head_told, holder_text, holders_tell, holders_told, told_holder}
use Rattle.leak_laws.proofs.ReportBytes.{flat_mapped}
use Rattle.leak_laws.proofs.RowReading.{IsRowText, NotFirst, counts_read, dead_first, dead_read, freed_read, number_read, space_ends, space_ends_address, sum_read}
use Rattle.leak_laws.proofs.Splits.{AreSame, split_address, split_at, split_number}
use Rattle.leak_laws.proofs.GrowthReading.{last_rows}

news_told : (news : Option (List Bool)) (blocks : List Block) → new_lines news blocks ≡ fresh_lines (option_map (λ counted. sum_of (marked_in counted blocks)) news)
news_told None blocks = refl
news_told (Some counted) blocks = refl

pub holders_are_told : (head : Head) (blocks : List Block) (news : Option (List Bool)) (set : List Bool) (texts : List (List ℕ)) (rows : List Holder) → holders_text head blocks news set texts rows ≡ holders_told (holders_tell head blocks news set texts rows)
unfolding holders_text
holders_are_told head blocks news set texts rows =
    let front : List ℕ = sum_line (codes "blocks") (sum_of blocks) ++ undumped_line head ++ log_line head ++ freed_lines head.freed ++ dead_lines head.dead in
    let t : ToldHolders = holders_tell head blocks news set texts rows in
    ap (λ (ns : List ℕ). sum_line (codes "blocks") (sum_of blocks) ++ undumped_line head ++ log_line head ++ freed_lines head.freed ++ dead_lines head.dead ++ ns
    ++ sum_line (codes "marked") (sum_of (marked_in set blocks)) ++ sum_line (codes "leaked") (sum_of (leaked_in set blocks)) ++ flat_map (λ row. holder_text (told_holder blocks texts row)) rows) (news_told news blocks)
    ∙ ap (λ (rs : List ℕ). sum_line (codes "blocks") (sum_of blocks) ++ undumped_line head ++ log_line head ++ freed_lines head.freed ++ dead_lines head.dead ++ fresh_lines (option_map (λ counted. sum_of (marked_in counted blocks)) news)
    ++ sum_line (codes "marked") (sum_of (marked_in set blocks)) ++ sum_line (codes "leaked") (sum_of (leaked_in set blocks)) ++ rs) (sym (flat_mapped holder_text (told_holder blocks texts) rows))

flat_holder : (h : ToldHolder) (r : List ℕ) → holder_text h ++ r
    ≡ codes "holder " ++ (decimal h.blocks ++ (32 ∷ (decimal h.bytes ++ (32 ∷ (decimal h.own ++ (32 ∷ (decimal h.own_bytes ++ (32 ∷ (decimal h.within ++ (32 ∷ (hexadecimal h.start ++ (32 ∷ (h.text ++ (10 ∷ r))))))))))))))
flat_holder h r = simp append_assoc

same_holder : (x y : ToldHolder) → x.blocks ≡ y.blocks → x.bytes ≡ y.bytes → x.own ≡ y.own → x.own_bytes ≡ y.own_bytes → x.within ≡ y.within → x.start ≡ y.start → x.text ≡ y.text → x ≡ y
same_holder x y a b c d e f t =
    ap (λ (n : ℕ). record { blocks = n; bytes = x.bytes; own = x.own; own_bytes = x.own_bytes; within = x.within; start = x.start; text = x.text }) a
    ∙ ap (λ (n : ℕ). record { blocks = y.blocks; bytes = n; own = x.own; own_bytes = x.own_bytes; within = x.within; start = x.start; text = x.text }) b
    ∙ ap (λ (n : ℕ). record { blocks = y.blocks; bytes = y.bytes; own = n; own_bytes = x.own_bytes; within = x.within; start = x.start; text = x.text }) c
    ∙ ap (λ (n : ℕ). record { blocks = y.blocks; bytes = y.bytes; own = y.own; own_bytes = n; within = x.within; start = x.start; text = x.text }) d
    ∙ ap (λ (n : ℕ). record { blocks = y.blocks; bytes = y.bytes; own = y.own; own_bytes = y.own_bytes; within = n; start = x.start; text = x.text }) e
    ∙ ap (λ (n : ℕ). record { blocks = y.blocks; bytes = y.bytes; own = y.own; own_bytes = y.own_bytes; within = y.within; start = n; text = x.text }) f
    ∙ ap (λ (u : List ℕ). record { blocks = y.blocks; bytes = y.bytes; own = y.own; own_bytes = y.own_bytes; within = y.within; start = y.start; text = u }) t

holder_read : (x y : ToldHolder) (r s : List ℕ) → IsHolderRead x → IsHolderRead y → holder_text x ++ r ≡ holder_text y ++ s → AreSame x y r s
holder_read x y r s p q e =
    let e0 = append_cancel_left (codes "holder ") _ _ (sym (flat_holder x r) ∙ e ∙ flat_holder y s) in
    let a = split_number 32 x.blocks y.blocks _ _ space_ends p.blocks q.blocks e0 in
    let b = split_number 32 x.bytes y.bytes _ _ space_ends p.bytes q.bytes a.rest in
    let c = split_number 32 x.own y.own _ _ space_ends p.own q.own b.rest in
    let d = split_number 32 x.own_bytes y.own_bytes _ _ space_ends p.own_bytes q.own_bytes c.rest in
    let f = split_number 32 x.within y.within _ _ space_ends p.within q.within d.rest in
    let g = split_address 32 x.start y.start _ _ space_ends_address p.start q.start f.rest in
    let text = split_at 10 x.text y.text r s p.text q.text g.rest in
    record { part = same_holder x y a.part b.part c.part d.part f.part g.part text.part; rest = text.rest }

holder_rows : IsRowText holder_text 104 IsHolderRead
holder_rows = record { begins = λ h. (_, refl); reads = holder_read }

fresh_read : (x y : Option Sum) (r s : List ℕ) → IfSome x IsSumRead → IfSome y IsSumRead → NotFirst 110 r → NotFirst 110 s → fresh_lines x ++ r ≡ fresh_lines y ++ s → AreSame x y r s
fresh_read None None r s p q left right e = record { part = refl; rest = e }
fresh_read None (Some n) r s p q left right e = absurd (left _ e)
fresh_read (Some m) None r s p q left right e = absurd (right _ (sym e))
fresh_read (Some m) (Some n) r s p q left right e = let one = sum_read (codes "new") m n r s p q e in record { part = ap (λ (k : Sum). Some k) one.part; rest = one.rest }

nine : (a b c d e f g h i : List ℕ) → a ++ b ++ c ++ d ++ e ++ f ++ g ++ h ++ i ≡ a ++ (b ++ (c ++ (d ++ (e ++ (f ++ (g ++ (h ++ i)))))))
nine a b c d e f g h i = simp append_assoc

abbrev held_end : ToldHolders → List ℕ
held_end t = sum_line (codes "marked") t.marked ++ (sum_line (codes "leaked") t.leaked ++ flat_map holder_text t.rows)

holders_grouped : (t : ToldHolders) → holders_told t ≡ sum_line (codes "blocks") t.all ++ (undumped_line (head_told t) ++ (log_line (head_told t) ++ (freed_lines t.freed ++ (dead_lines t.dead ++ (fresh_lines t.fresh ++ held_end t)))))
holders_grouped t = nine (sum_line (codes "blocks") t.all) (undumped_line (head_told t)) (log_line (head_told t)) (freed_lines t.freed) (dead_lines t.dead) (fresh_lines t.fresh) (sum_line (codes "marked") t.marked) (sum_line (codes "leaked") t.leaked) (flat_map holder_text t.rows)

held_first : (t : ToldHolders) → NotFirst 110 (held_end t)
held_first t rest e = let n : 109 ≡ 110 = ap (λ (u : List ℕ). get_or u 0 0) e in omega (arith, n)

fresh_first : (fresh : Option Sum) (t : ToldHolders) → NotFirst 102 (fresh_lines fresh ++ held_end t)
fresh_first None t rest e = let n : 109 ≡ 102 = ap (λ (u : List ℕ). get_or u 0 0) e in omega (arith, n)
fresh_first (Some s) t rest e = let n : 110 ≡ 102 = ap (λ (u : List ℕ). get_or u 0 0) e in omega (arith, n)

fresh_after_dead : (fresh : Option Sum) (t : ToldHolders) → NotFirst 100 (fresh_lines fresh ++ held_end t)
fresh_after_dead None t rest e = let n : 109 ≡ 100 = ap (λ (u : List ℕ). get_or u 0 0) e in omega (arith, n)
fresh_after_dead (Some s) t rest e = let n : 110 ≡ 100 = ap (λ (u : List ℕ). get_or u 0 0) e in omega (arith, n)

same_holders : (a b : ToldHolders) → a.all ≡ b.all → a.undumped ≡ b.undumped → a.unknown ≡ b.unknown → a.displaced ≡ b.displaced → a.torn ≡ b.torn → a.freed ≡ b.freed → a.dead ≡ b.dead → a.fresh ≡ b.fresh → a.marked ≡ b.marked → a.leaked ≡ b.leaked
    → a.rows ≡ b.rows → a ≡ b
same_holders a b c d e f g h m i j k l =
    ap (λ (x : Sum). record { all = x; undumped = a.undumped; unknown = a.unknown; displaced = a.displaced; torn = a.torn; freed = a.freed; dead = a.dead; fresh = a.fresh; marked = a.marked; leaked = a.leaked; rows = a.rows }) c
    ∙ ap (λ (x : ℕ). record { all = b.all; undumped = x; unknown = a.unknown; displaced = a.displaced; torn = a.torn; freed = a.freed; dead = a.dead; fresh = a.fresh; marked = a.marked; leaked = a.leaked; rows = a.rows }) d
    ∙ ap (λ (x : ℕ). record { all = b.all; undumped = b.undumped; unknown = x; displaced = a.displaced; torn = a.torn; freed = a.freed; dead = a.dead; fresh = a.fresh; marked = a.marked; leaked = a.leaked; rows = a.rows }) e
    ∙ ap (λ (x : ℕ). record { all = b.all; undumped = b.undumped; unknown = b.unknown; displaced = x; torn = a.torn; freed = a.freed; dead = a.dead; fresh = a.fresh; marked = a.marked; leaked = a.leaked; rows = a.rows }) f
    ∙ ap (λ (x : ℕ). record { all = b.all; undumped = b.undumped; unknown = b.unknown; displaced = b.displaced; torn = x; freed = a.freed; dead = a.dead; fresh = a.fresh; marked = a.marked; leaked = a.leaked; rows = a.rows }) g
    ∙ ap (λ (x : Option ℕ). record { all = b.all; undumped = b.undumped; unknown = b.unknown; displaced = b.displaced; torn = b.torn; freed = x; dead = a.dead; fresh = a.fresh; marked = a.marked; leaked = a.leaked; rows = a.rows }) h
    ∙ ap (λ (x : Option ℕ). record { all = b.all; undumped = b.undumped; unknown = b.unknown; displaced = b.displaced; torn = b.torn; freed = b.freed; dead = x; fresh = a.fresh; marked = a.marked; leaked = a.leaked; rows = a.rows }) m
    ∙ ap (λ (x : Option Sum). record { all = b.all; undumped = b.undumped; unknown = b.unknown; displaced = b.displaced; torn = b.torn; freed = b.freed; dead = b.dead; fresh = x; marked = a.marked; leaked = a.leaked; rows = a.rows }) i
    ∙ ap (λ (x : Sum). record { all = b.all; undumped = b.undumped; unknown = b.unknown; displaced = b.displaced; torn = b.torn; freed = b.freed; dead = b.dead; fresh = b.fresh; marked = x; leaked = a.leaked; rows = a.rows }) j
    ∙ ap (λ (x : Sum). record { all = b.all; undumped = b.undumped; unknown = b.unknown; displaced = b.displaced; torn = b.torn; freed = b.freed; dead = b.dead; fresh = b.fresh; marked = b.marked; leaked = x; rows = a.rows }) k
    ∙ ap (λ (x : List ToldHolder). record { all = b.all; undumped = b.undumped; unknown = b.unknown; displaced = b.displaced; torn = b.torn; freed = b.freed; dead = b.dead; fresh = b.fresh; marked = b.marked; leaked = b.leaked; rows = x }) l

pub holders_read_back : (a b : ToldHolders) → AreHoldersRead a → AreHoldersRead b → holders_told a ≡ holders_told b → a ≡ b
holders_read_back a b p q e =
    let all = sum_read (codes "blocks") a.all b.all _ _ p.all q.all (sym (holders_grouped a) ∙ e ∙ holders_grouped b) in
    let undumped = number_read (codes "undumped ") a.undumped b.undumped _ _ p.undumped q.undumped all.rest in
    let odd = counts_read a.unknown b.unknown a.displaced b.displaced a.torn b.torn _ _ p.unknown q.unknown p.displaced q.displaced p.torn q.torn undumped.rest in
    let freed = freed_read a.freed b.freed _ _ p.freed q.freed (dead_first a.dead _ (fresh_first a.fresh a)) (dead_first b.dead _ (fresh_first b.fresh b)) odd.rest in
    let dead = dead_read a.dead b.dead _ _ p.dead q.dead (fresh_after_dead a.fresh a) (fresh_after_dead b.fresh b) freed.rest in
    let fresh = fresh_read a.fresh b.fresh _ _ p.fresh q.fresh (held_first a) (held_first b) dead.rest in
    let marked = sum_read (codes "marked") a.marked b.marked _ _ p.marked q.marked fresh.rest in
    let leaked = sum_read (codes "leaked") a.leaked b.leaked _ _ p.leaked q.leaked marked.rest in
    let rows = last_rows holder_text 104 IsHolderRead holder_rows (λ z. omega (arith, z)) a.rows b.rows p.rows q.rows leaked.rest in
    same_holders a b all.part undumped.part odd.unknown odd.displaced odd.torn freed.part dead.part fresh.part marked.part leaked.part rows
