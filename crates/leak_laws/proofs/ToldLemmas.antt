-- A report is read from its first line to its last.
use Rattle.std.proofs.Common.{◌≡◌, ℕ, List, [], ◌∷◌, ◌++◌, flat_map, get_or, Option, None, Some, refl, sym, ap, ◌∙◌, arith, append_assoc, append-nil}
use Rattle.std.specs.Prelude.{codes, decimal, IfSome}
use Rattle.leak_report.specs.declared.head.Head.{Head}
use Rattle.leak_report.specs.declared.head.Two.{Two}
use Rattle.leak_report.specs.Lines.{dead_lines, freed_lines, heads_line, log_line, two_lines, undumped_line}
use Rattle.leak_laws.specs.Told.{Sum, Told, ToldCaller, ToldLeak, ToldMisfit, caller_text, leak_text, misfit_text, number_lines, sum_line, told_text}
use Rattle.leak_laws.specs.Readable.{AreTwoRead, IsNumber, IsRead}
use Rattle.leak_laws.proofs.RowReading.{NotFirst, counts_read, dead_first, dead_read, freed_read, number_read, others_first, rows_read, sum_read}
use Rattle.leak_laws.proofs.ReportRows.{caller_rows, leak_examples, misfit_rows}
use Rattle.leak_laws.proofs.Splits.{AreSame}

-- ---- lines that may be missing

flat_two : (t : Two) (r : List ℕ) → two_lines (Some t) ++ r ≡ sum_line (codes "new") (record { blocks = t.fresh; bytes = t.fresh_bytes }) ++ ((codes "reread " ++ (decimal t.reread ++ (10 ∷ []))) ++ r)
flat_two t r = append_assoc (sum_line (codes "new") (record { blocks = t.fresh; bytes = t.fresh_bytes })) (codes "reread " ++ (decimal t.reread ++ (10 ∷ []))) r

two_read : (x y : Option Two) (r s : List ℕ) → IfSome x AreTwoRead → IfSome y AreTwoRead → NotFirst 110 r → NotFirst 110 s → two_lines x ++ r ≡ two_lines y ++ s → AreSame x y r s
two_read None None r s p q left right e = record { part = refl; rest = e }
two_read None (Some n) r s p q left right e = absurd (left _ e)
two_read (Some m) None r s p q left right e = absurd (right _ (sym e))
two_read (Some m) (Some n) r s p q left right e =
    let sums =
    sum_read (codes "new") (record { blocks = m.fresh; bytes = m.fresh_bytes }) (record { blocks = n.fresh; bytes = n.fresh_bytes }) _ _ (record { blocks = p.fresh; bytes = p.fresh_bytes }) (record { blocks = q.fresh; bytes = q.fresh_bytes })
    (sym (flat_two m r) ∙ e ∙ flat_two n s) in
    let reread = number_read (codes "reread ") m.reread n.reread r s p.reread q.reread sums.rest in
    record {
      part = ap (λ (u : Sum). Some (record { fresh = u.blocks; fresh_bytes = u.bytes; reread = m.reread })) sums.part
          ∙ ap (λ (k : ℕ). Some (record { fresh = n.fresh; fresh_bytes = n.fresh_bytes; reread = k })) reread.part;
      rest = reread.rest;
    }

-- the list does not begin with the line of a number of misfits
abbrev NoNumber : List ℕ → Type 0
NoNumber xs = (rest : List ℕ) → xs ≡ codes "misfits " ++ rest → ⊥

misfits_read : (x y : Option ℕ) (r s : List ℕ) → IfSome x IsNumber → IfSome y IsNumber → NoNumber r → NoNumber s → number_lines x ++ r ≡ number_lines y ++ s → AreSame x y r s
misfits_read None None r s p q left right e = record { part = refl; rest = e }
misfits_read None (Some n) r s p q left right e = absurd (left _ (e ∙ append_assoc (codes "misfits ") (decimal n ++ (10 ∷ [])) s))
misfits_read (Some m) None r s p q left right e = absurd (right _ (sym e ∙ append_assoc (codes "misfits ") (decimal m ++ (10 ∷ [])) r))
misfits_read (Some m) (Some n) r s p q left right e = let one = number_read (codes "misfits ") m n r s p q e in record { part = ap (λ (k : ℕ). Some k) one.part; rest = one.rest }

no_number : (callers : List ToldCaller) (leaks : List ToldLeak) (misfits : List ToldMisfit) → NoNumber (flat_map caller_text callers ++ (flat_map leak_text leaks ++ flat_map misfit_text misfits))
no_number (c ∷ callers) leaks misfits rest e = let n : 99 ≡ 109 = ap (λ (t : List ℕ). get_or t 0 0) e in omega (arith, n)
no_number [] (l ∷ leaks) misfits rest e = let n : 108 ≡ 109 = ap (λ (t : List ℕ). get_or t 0 0) e in omega (arith, n)
no_number [] [] (m ∷ misfits) rest e = let n : 32 ≡ 115 = ap (λ (t : List ℕ). get_or t 6 0) e in omega (arith, n)
no_number [] [] [] rest e = let n : 0 ≡ 109 = ap (λ (t : List ℕ). get_or t 0 0) e in omega (arith, n)

-- ---- the first lines

same_head : (x y : Head) → x.undumped ≡ y.undumped → x.unknown ≡ y.unknown → x.displaced ≡ y.displaced → x.torn ≡ y.torn → x.freed ≡ y.freed → x.dead ≡ y.dead → x.two ≡ y.two → x ≡ y
same_head x y a b c d e g f =
    ap (λ (n : ℕ). record { undumped = n; unknown = x.unknown; displaced = x.displaced; torn = x.torn; freed = x.freed; dead = x.dead; two = x.two }) a
    ∙ ap (λ (n : ℕ). record { undumped = y.undumped; unknown = n; displaced = x.displaced; torn = x.torn; freed = x.freed; dead = x.dead; two = x.two }) b
    ∙ ap (λ (n : ℕ). record { undumped = y.undumped; unknown = y.unknown; displaced = n; torn = x.torn; freed = x.freed; dead = x.dead; two = x.two }) c
    ∙ ap (λ (n : ℕ). record { undumped = y.undumped; unknown = y.unknown; displaced = y.displaced; torn = n; freed = x.freed; dead = x.dead; two = x.two }) d
    ∙ ap (λ (o : Option ℕ). record { undumped = y.undumped; unknown = y.unknown; displaced = y.displaced; torn = y.torn; freed = o; dead = x.dead; two = x.two }) e
    ∙ ap (λ (o : Option ℕ). record { undumped = y.undumped; unknown = y.unknown; displaced = y.displaced; torn = y.torn; freed = y.freed; dead = o; two = x.two }) g
    ∙ ap (λ (o : Option Two). record { undumped = y.undumped; unknown = y.unknown; displaced = y.displaced; torn = y.torn; freed = y.freed; dead = y.dead; two = o }) f

-- ---- all

regroup : (a b c d e f g h i j k l m : List ℕ) → a ++ b ++ c ++ d ++ e ++ f ++ g ++ h ++ i ++ j ++ k ++ l ++ m ≡ a ++ (b ++ (c ++ (d ++ (e ++ (f ++ (g ++ (h ++ (i ++ (j ++ (k ++ (l ++ m)))))))))))
regroup a b c d e f g h i j k l m = simp append_assoc

abbrev rows_part : Told → List ℕ
rows_part t = flat_map caller_text t.callers ++ (flat_map leak_text t.leaks ++ flat_map misfit_text t.misfit_rows)

abbrev end_part : Told → List ℕ
end_part t = sum_line (codes "marked") t.marked ++ (sum_line (codes "leaked") t.leaked ++ (heads_line t.heads ++ (number_lines t.misfits ++ rows_part t)))

grouped : (t : Told) → told_text t ≡ sum_line (codes "blocks") t.all ++ (undumped_line t.head ++ (log_line t.head ++ (freed_lines t.head.freed ++ (dead_lines t.head.dead ++ (two_lines t.head.two ++ end_part t)))))
grouped t =
    regroup (sum_line (codes "blocks") t.all) (undumped_line t.head) (log_line t.head) (freed_lines t.head.freed) (dead_lines t.head.dead) (two_lines t.head.two) (sum_line (codes "marked") t.marked) (sum_line (codes "leaked") t.leaked) (heads_line t.heads)
    (number_lines t.misfits) (flat_map caller_text t.callers) (flat_map leak_text t.leaks) (flat_map misfit_text t.misfit_rows)

-- what follows lines that may be missing
end_first : (t : Told) → NotFirst 110 (end_part t)
end_first t rest e = let n : 109 ≡ 110 = ap (λ (u : List ℕ). get_or u 0 0) e in omega (arith, n)

two_first : (two : Option Two) (t : Told) → NotFirst 102 (two_lines two ++ end_part t)
two_first None t rest e = let n : 109 ≡ 102 = ap (λ (u : List ℕ). get_or u 0 0) e in omega (arith, n)
two_first (Some two) t rest e = let n : 110 ≡ 102 = ap (λ (u : List ℕ). get_or u 0 0) e in omega (arith, n)

two_after_dead : (two : Option Two) (t : Told) → NotFirst 100 (two_lines two ++ end_part t)
two_after_dead None t rest e = let n : 109 ≡ 100 = ap (λ (u : List ℕ). get_or u 0 0) e in omega (arith, n)
two_after_dead (Some two) t rest e = let n : 110 ≡ 100 = ap (λ (u : List ℕ). get_or u 0 0) e in omega (arith, n)

misfits_first : (c : ℕ) → (109 ≡ c → ⊥) → (ms : List ToldMisfit) → NotFirst c (flat_map misfit_text ms)
misfits_first c differ [] rest e = let n : 0 ≡ c = ap (λ (u : List ℕ). get_or u 0 0) e in cc
misfits_first c differ (m ∷ ms) rest e = differ (ap (λ (u : List ℕ). get_or u 0 0) e)

leaks_first : (ls : List ToldLeak) (ms : List ToldMisfit) → NotFirst 99 (flat_map leak_text ls ++ flat_map misfit_text ms)
leaks_first ls ms = others_first leak_text 108 _ leak_examples 99 (λ e. omega (arith, e)) ls (flat_map misfit_text ms) (misfits_first 99 (λ e. omega (arith, e)) ms)

same_told : (a b : Told) → a.all ≡ b.all → a.head ≡ b.head → a.marked ≡ b.marked → a.leaked ≡ b.leaked → a.heads ≡ b.heads → a.misfits ≡ b.misfits → a.callers ≡ b.callers → a.leaks ≡ b.leaks → a.misfit_rows ≡ b.misfit_rows → a ≡ b
same_told a b c d e f g h i j k =
    ap (λ (x : Sum). record { all = x; head = a.head; marked = a.marked; leaked = a.leaked; heads = a.heads; misfits = a.misfits; callers = a.callers; leaks = a.leaks; misfit_rows = a.misfit_rows }) c
    ∙ ap (λ (x : Head). record { all = b.all; head = x; marked = a.marked; leaked = a.leaked; heads = a.heads; misfits = a.misfits; callers = a.callers; leaks = a.leaks; misfit_rows = a.misfit_rows }) d
    ∙ ap (λ (x : Sum). record { all = b.all; head = b.head; marked = x; leaked = a.leaked; heads = a.heads; misfits = a.misfits; callers = a.callers; leaks = a.leaks; misfit_rows = a.misfit_rows }) e
    ∙ ap (λ (x : Sum). record { all = b.all; head = b.head; marked = b.marked; leaked = x; heads = a.heads; misfits = a.misfits; callers = a.callers; leaks = a.leaks; misfit_rows = a.misfit_rows }) f
    ∙ ap (λ (x : ℕ). record { all = b.all; head = b.head; marked = b.marked; leaked = b.leaked; heads = x; misfits = a.misfits; callers = a.callers; leaks = a.leaks; misfit_rows = a.misfit_rows }) g
    ∙ ap (λ (x : Option ℕ). record { all = b.all; head = b.head; marked = b.marked; leaked = b.leaked; heads = b.heads; misfits = x; callers = a.callers; leaks = a.leaks; misfit_rows = a.misfit_rows }) h
    ∙ ap (λ (x : List ToldCaller). record { all = b.all; head = b.head; marked = b.marked; leaked = b.leaked; heads = b.heads; misfits = b.misfits; callers = x; leaks = a.leaks; misfit_rows = a.misfit_rows }) i
    ∙ ap (λ (x : List ToldLeak). record { all = b.all; head = b.head; marked = b.marked; leaked = b.leaked; heads = b.heads; misfits = b.misfits; callers = b.callers; leaks = x; misfit_rows = a.misfit_rows }) j
    ∙ ap (λ (x : List ToldMisfit). record { all = b.all; head = b.head; marked = b.marked; leaked = b.leaked; heads = b.heads; misfits = b.misfits; callers = b.callers; leaks = b.leaks; misfit_rows = x }) k

pub read_back : (a b : Told) → IsRead a → IsRead b → told_text a ≡ told_text b → a ≡ b
read_back a b p q e =
    let all = sum_read (codes "blocks") a.all b.all _ _ p.all q.all (sym (grouped a) ∙ e ∙ grouped b) in
    let undumped = number_read (codes "undumped ") a.head.undumped b.head.undumped _ _ p.head.undumped q.head.undumped all.rest in
    let counts =
    counts_read a.head.unknown b.head.unknown a.head.displaced b.head.displaced a.head.torn b.head.torn _ _ p.head.unknown q.head.unknown p.head.displaced q.head.displaced p.head.torn q.head.torn undumped.rest in
    let freed = freed_read a.head.freed b.head.freed _ _ p.head.freed q.head.freed (dead_first a.head.dead _ (two_first a.head.two a)) (dead_first b.head.dead _ (two_first b.head.two b)) counts.rest in
    let dead = dead_read a.head.dead b.head.dead _ _ p.head.dead q.head.dead (two_after_dead a.head.two a) (two_after_dead b.head.two b) freed.rest in
    let two = two_read a.head.two b.head.two _ _ p.head.two q.head.two (end_first a) (end_first b) dead.rest in
    let marked = sum_read (codes "marked") a.marked b.marked _ _ p.marked q.marked two.rest in
    let leaked = sum_read (codes "leaked") a.leaked b.leaked _ _ p.leaked q.leaked marked.rest in
    let heads = number_read (codes "heads ") a.heads b.heads _ _ p.heads q.heads leaked.rest in
    let misfits = misfits_read a.misfits b.misfits _ _ p.misfits q.misfits (no_number a.callers a.leaks a.misfit_rows) (no_number b.callers b.leaks b.misfit_rows) heads.rest in
    let callers = rows_read caller_text 99 _ caller_rows a.callers b.callers _ _ p.callers q.callers (leaks_first a.leaks a.misfit_rows) (leaks_first b.leaks b.misfit_rows) misfits.rest in
    let leaks = rows_read leak_text 108 _ leak_examples a.leaks b.leaks _ _ p.leaks q.leaks (misfits_first 108 (λ e. omega (arith, e)) a.misfit_rows) (misfits_first 108 (λ e. omega (arith, e)) b.misfit_rows) callers.rest in
    let last : flat_map misfit_text a.misfit_rows ++ [] ≡ flat_map misfit_text b.misfit_rows ++ [] = append-nil (flat_map misfit_text a.misfit_rows) ∙ leaks.rest ∙ sym (append-nil (flat_map misfit_text b.misfit_rows)) in
    let rows = rows_read misfit_text 109 _ misfit_rows a.misfit_rows b.misfit_rows [] [] p.misfit_rows q.misfit_rows (λ r f. let n : 0 ≡ 109 = ap (λ (u : List ℕ). get_or u 0 0) f in omega (arith, n)) (λ r f. let n : 0 ≡ 109 = ap (λ (u : List ℕ). get_or u 0 0) f in omega (arith, n)) last in
    let head : a.head ≡ b.head = same_head a.head b.head undumped.part counts.unknown counts.displaced counts.torn freed.part dead.part two.part in
    same_told a b all.part head marked.part leaked.part heads.part misfits.part callers.part leaks.part rows.part
