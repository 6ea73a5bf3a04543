-- The text of a caller is a part of a line of the log, and a line has no line feed.
use Rattle.std.proofs.Common.{◌≡◌, ℕ, zero, suc, ◌+◌, ◌-◌, inl, inr, Bool, true, false, not, ◌==◌, List, [], ◌∷◌, ◌++◌, length, map, filter, Option, None, Some, slice_get, refl, sym, ap, subst}
use Rattle.std.specs.Prelude.{codes, if◌then◌else◌, nat_lt}
use Rattle.std.specs.List.{AllByRecursion, AllZip}
use Rattle.leak_report.proofs.Orders.{each_leak as leaked_each}
use Rattle.leak_mtrace.specs.declared.line.Line.{Line}
use Rattle.leak_mtrace.specs.Log.{HasItsPlace, IsLog, in_range, whole_lines, with_places}
use Rattle.leak_mtrace.proofs.CallerLemmas.{callers_hold_places}
use Rattle.leak_mtrace.proofs.CutLemmas.{Cut, HasNoFeed, cut_of, lines_of_cut}
use Rattle.leak_blocks.specs.declared.block.Block.{Block}
use Rattle.leak_blocks.specs.Laws.{IsOfLine}
use Rattle.leak_blocks.specs.Live.{live_of}
use Rattle.leak_blocks.proofs.LineLemmas.{live_of_lines}
use Rattle.leak_report.specs.declared.head.Head.{Head}
use Rattle.leak_report.specs.Misfits.{misfits_in}
use Rattle.leak_report.specs.declared.leaked.Leak.{Leak}
use Rattle.leak_report.specs.Totals.{first_of_each, has_same_text, leaks_in, row_of, rows_of, text_at}
use Rattle.leak_lemmas.proofs.Members.{each_filtered, each_from_All, each_implied, each_mapped, each_at}
use Rattle.leak_report.proofs.Ranks.{each_ranked}
use Rattle.leak_laws.specs.OneLine.{AreOfOneLine}
use Rattle.leak_laws.specs.Reports.{misfit_rows_told, told_caller, told_leak, told_misfit, told_of}
use Rattle.leak_laws.specs.Readable.{Lacks}

lacks_front : (c : ℕ) (xs ys : List ℕ) → Lacks c (xs ++ ys) → Lacks c xs
lacks_front c [] ys all = tt
lacks_front c (x ∷ xs) ys all = (all.0, lacks_front c xs ys all.1)

lacks_back : (c : ℕ) (xs ys : List ℕ) → Lacks c (xs ++ ys) → Lacks c ys
lacks_back c [] ys all = all
lacks_back c (x ∷ xs) ys all = lacks_back c xs ys all.1

-- the place of a line lacks what the line lacks
place_lacks : (text place rest : List ℕ) → text ≡ codes "@ " ++ place ++ codes " " ++ rest → Lacks 10 text → Lacks 10 place
place_lacks text place rest e lacks =
    let all : Lacks 10 (codes "@ " ++ place ++ codes " " ++ rest) = subst (Lacks 10) e lacks in
    lacks_back 10 (codes "@ ") place (lacks_front 10 (codes "@ " ++ place) (codes " ") (lacks_front 10 (codes "@ " ++ place ++ codes " ") rest all))

caller_lacks : (log : List ℕ) (t : ℕ × List ℕ) (x : Line) → HasItsPlace log t x → Lacks 10 t.1 → Lacks 10 (text_at log x.caller)
caller_lacks log t x (inl none) lacks = subst (λ (c : ℕ × ℕ). Lacks 10 (text_at log c)) (sym none.0) (refl, tt)
caller_lacks log t x (inr some) lacks = go (nat_lt x.caller.0 x.caller.1)
  where
    inside : Lacks 10 (in_range log x.caller)
    inside = subst (Lacks 10) (sym some.2) (place_lacks t.1 some.1.0 some.1.1 some.1.2 lacks)

    go : (b : Bool) → Lacks 10 (if b then in_range log x.caller else 63 ∷ [])
    go true = inside
    go false = (refl, tt)

each_zipped : {A B : Type 0} (R : A → B → Type 0) (P : A → Type 0) (Q : B → Type 0) → ((t : A) (x : B) → R t x → P t → Q x) → (ts : List A) (xs : List B) → AllZip R ts xs → AllByRecursion P ts → AllByRecursion Q xs
each_zipped R P Q step [] [] zip all = tt
each_zipped R P Q step [] (x ∷ xs) zip all = absurd zip
each_zipped R P Q step (t ∷ ts) [] zip all = absurd zip
each_zipped R P Q step (t ∷ ts) (x ∷ xs) zip all = (step t x zip.0 all.0, each_zipped R P Q step ts xs zip.1 all.1)

placed_lack : (at : ℕ) (texts : List (List ℕ)) → AllByRecursion (Lacks 10) texts → AllByRecursion (λ t. Lacks 10 t.1) (with_places at texts)
placed_lack at [] all = tt
placed_lack at (text ∷ texts) all = (all.0, placed_lack (at + length text + 1) texts all.1)

callers_lack : (log : List ℕ) (lines : List Line) → IsLog log lines → AllByRecursion (λ x. Lacks 10 (text_at log x.caller)) lines
callers_lack log lines is =
    let c : Cut log = cut_of log in
    let plain : AllByRecursion (Lacks 10) (whole_lines log) =
    subst (AllByRecursion (Lacks 10)) (sym (lines_of_cut log c)) (each_implied HasNoFeed (Lacks 10) (λ t all. each_from_All (λ b. (b == 10) ≡ false) t all) c.texts c.plain) in
    each_zipped (HasItsPlace log) (λ t. Lacks 10 t.1) (λ x. Lacks 10 (text_at log x.caller)) (caller_lacks log) (with_places 0 (whole_lines log)) lines (callers_hold_places log lines is) (placed_lack 0 (whole_lines log) plain)

pub blocks_lack : (log : List ℕ) (lines : List Line) → IsLog log lines → AllByRecursion (λ b. Lacks 10 (text_at log b.caller)) (live_of lines)
blocks_lack log lines is =
    each_implied (IsOfLine lines) (λ b. Lacks 10 (text_at log b.caller))
    (λ b of. subst (λ (c : ℕ × ℕ). Lacks 10 (text_at log c)) (sym (ap (λ (x : Block). x.caller) of.same)) (each_at (λ x. Lacks 10 (text_at log x.caller)) lines (b.line - 1) of.line (callers_lack log lines is) of.at))
    (live_of lines) (live_of_lines lines)

-- ---- the rows of a report

misfits_each : (P : Block → Type 0) (fits : List Bool) (blocks : List Block) → AllByRecursion P blocks → AllByRecursion P (misfits_in fits blocks)
misfits_each P [] blocks all = tt
misfits_each P (f ∷ fits) [] all = tt
misfits_each P (true ∷ fits) (b ∷ blocks) all = misfits_each P fits blocks all.1
misfits_each P (false ∷ fits) (b ∷ blocks) all = (all.0, misfits_each P fits blocks all.1)

firsts_each : (log : List ℕ) (P : Leak → Type 0) (leaks : List Leak) → AllByRecursion P leaks → AllByRecursion P (first_of_each log leaks)
firsts_each log P [] all = tt
firsts_each log P (l ∷ leaks) all = (
  all.0,
  each_implied (λ k. P k × (not (has_same_text log l k) ≡ true)) P (λ k h. h.0) (filter (λ k. not (has_same_text log l k)) (first_of_each log leaks))
      (each_filtered (λ k. not (has_same_text log l k)) P (first_of_each log leaks) (firsts_each log P leaks all.1)),
)

rows_lack : (log : List ℕ) (leaks : List Leak) → AllByRecursion (λ l. Lacks 10 (text_at log l.block.caller)) leaks → AllByRecursion (λ r. Lacks 10 (text_at log r.caller)) (rows_of log leaks)
unfolding rows_of
rows_lack log leaks all =
    each_ranked (λ r. Lacks 10 (text_at log r.caller)) log (map (row_of log leaks) (first_of_each log leaks))
    (each_mapped (row_of log leaks) (λ r. Lacks 10 (text_at log r.caller)) (first_of_each log leaks) (firsts_each log (λ l. Lacks 10 (text_at log l.block.caller)) leaks all))

misfit_rows_lack : (log : List ℕ) (fits : Option (List Bool)) (blocks : List Block) → AllByRecursion (λ b. Lacks 10 (text_at log b.caller)) blocks → AllByRecursion (λ m. Lacks 10 m.text) (misfit_rows_told log fits blocks)
misfit_rows_lack log None blocks all = tt
misfit_rows_lack log (Some fits) blocks all = each_mapped (told_misfit log) (λ m. Lacks 10 m.text) (misfits_in fits blocks) (misfits_each (λ b. Lacks 10 (text_at log b.caller)) fits blocks all)

pub of_one_line : (head : Head) (blocks : List Block) (set heads : List Bool) (fits : Option (List Bool)) (log : List ℕ) → AllByRecursion (λ b. Lacks 10 (text_at log b.caller)) blocks → AreOfOneLine (told_of head blocks set heads fits log)
of_one_line head blocks set heads fits log all =
    let leaks = leaked_each (λ b. Lacks 10 (text_at log b.caller)) set heads blocks all in
    record {
      callers = each_mapped (told_caller log) (λ c. Lacks 10 c.text) (rows_of log (leaks_in set heads blocks)) (rows_lack log (leaks_in set heads blocks) leaks);
      leaks = each_mapped (told_leak log) (λ l. Lacks 10 l.text) (leaks_in set heads blocks) leaks;
      misfits = misfit_rows_lack log fits blocks all;
    }
