-- Answers about what is held: each part of an answer is that of the other.
use Rattle.std.proofs.Common.{◌≡◌, ℕ, zero, suc, ◌+◌, ◌<◌, ◌≤◌, ◌⊎◌, ⊎_elim, Bool, List, [], ◌∷◌, length, get_or, Option, sym, ap, subst, ◌∙◌, arith}
use Rattle.std.specs.Prelude.{slice_index}
use Rattle.std.proofs.lemmas.Bool.{cases_order}
use Rattle.std.proofs.lemmas.List.{length-map}
use Rattle.leak_mtrace.specs.declared.line.Line.{Line}
use Rattle.leak_mtrace.proofs.SameLogLemmas.{logs_are_one}
use Rattle.leak_blocks.specs.declared.block.Block.{Block}
use Rattle.leak_blocks.specs.Live.{live_of}
use Rattle.leak_blocks.specs.Span.{AreDisjoint, span_end}
use Rattle.leak_blocks.proofs.DisjointLemmas.{live_disjoint}
use Rattle.leak_index.specs.Leads.{Distances}
use Rattle.leak_roots.specs.declared.skip.Skip.{Skip}
use Rattle.leak_marks.specs.Reach.{Reach}
use Rattle.leak_pool.specs.Marking.{IsSet, graph_of}
use Rattle.leak_lemmas.proofs.Members.{All-from_each}
use Rattle.leak_report.specs.Numbered.{AreTexts, texts_of}
use Rattle.leak_holders.specs.declared.holder.Holder.{Holder}
use Rattle.leak_holders.specs.declared.caller_share.CallerShare.{CallerShare}
use Rattle.leak_holders.specs.declared.question.Question.{Question}
use Rattle.leak_why.specs.Asked.{IsAsked, IsOf}
use Rattle.leak_search.specs.Search.{graph_of_one, head_of_one}
use Rattle.leak_holder_search.specs.declared.search.Holding.{Holding}
use Rattle.leak_holder_search.specs.Held.{AreHeld, FindsHeld, both, chosen_with, held_text}
use Rattle.leak_holder_search.specs.Holders.{FindsHolders}
use Rattle.leak_holder_search.specs.Rows.{AreKnown, AreRows}
use Rattle.leak_holder_search.specs.Since.{counted_of, news_of}
use Rattle.leak_holder_search.specs.Text.{holders_text}
use Rattle.leak_laws.proofs.SameLemmas.{sets_are_one}
use Rattle.leak_laws.proofs.SameRows.{held_are_one, rows_are_one}
use Rattle.leak_laws.proofs.SameTextNumbers.{numbers_are_one, texts_are_one}

-- there is an entry for each block
pub one_each : (core : List ℕ) (reading : Distances) (skip : Skip) (lines : List Line) → length (live_of lines) ≡ length (graph_of_one core reading skip lines).targets
unfolding graph_of
one_each core reading skip lines = sym (length-map (live_of lines) _)

-- ---- who holds the memory

pub one_holders : (core log : List ℕ) (since : Option (List ℕ)) (reading : Distances) (skip : Skip) (a b : Holding)
    → FindsHolders core log since reading skip a → FindsHolders core log since reading skip b → a.report.items ≡ b.report.items
one_holders core log since reading skip a b f g =
    let l : f.lines ≡ g.lines = logs_are_one log f.lines g.lines f.is_log g.is_log in
    let graph = graph_of_one core reading skip f.lines in
    let marked : IsSet g.set (length (live_of f.lines)) (Reach (graph_of_one core reading skip f.lines)) =
    subst (λ (ls : List Line). IsSet g.set (length (live_of ls)) (Reach (graph_of_one core reading skip ls))) (sym l) g.marked in
    let s : f.set ≡ g.set = sets_are_one (length (live_of f.lines)) (Reach (graph_of_one core reading skip f.lines)) f.set g.set f.marked marked in
    let numbered : AreTexts log (live_of f.lines) g.texts g.numbers = subst (λ (ls : List Line). AreTexts log (live_of ls) g.texts g.numbers) (sym l) g.numbered in
    let t : f.texts ≡ g.texts = texts_are_one (texts_of log (live_of f.lines)) f.texts g.texts f.numbers g.numbers f.numbered numbered in
    let numbered_by : AreTexts log (live_of f.lines) f.texts g.numbers = subst (λ (ts : List (List ℕ)). AreTexts log (live_of f.lines) ts g.numbers) (sym t) numbered in
    let n : f.numbers ≡ g.numbers = numbers_are_one (texts_of log (live_of f.lines)) f.texts f.numbers g.numbers f.numbered numbered_by in
    let one = subst (λ (ls : List Line). AreRows (graph_of_one core reading skip ls) (live_of ls) g.numbers g.set (counted_of since (live_of ls)) (length g.texts) g.rows) (sym l) g.are in
    let two = subst (λ (ns : List ℕ). AreRows (graph_of_one core reading skip f.lines) (live_of f.lines) ns g.set (counted_of since (live_of f.lines)) (length g.texts) g.rows) (sym n) one in
    let three = subst (λ (set : List Bool). AreRows (graph_of_one core reading skip f.lines) (live_of f.lines) f.numbers set (counted_of since (live_of f.lines)) (length g.texts) g.rows) (sym s) two in
    let four = subst (λ (ts : List (List ℕ)). AreRows (graph_of_one core reading skip f.lines) (live_of f.lines) f.numbers f.set (counted_of since (live_of f.lines)) (length ts) g.rows) (sym t) three in
    let r : f.rows ≡ g.rows =
    rows_are_one (graph_of_one core reading skip f.lines) (live_of f.lines) f.numbers f.set (counted_of since (live_of f.lines)) (length f.texts) f.rows g.rows (one_each core reading skip f.lines) f.are four in
    f.report
    ∙ ap (λ (ls : List Line). holders_text (head_of_one core log skip ls) (live_of ls) (news_of since (live_of ls)) f.set f.texts f.rows) l
    ∙ ap (λ (set : List Bool). holders_text (head_of_one core log skip g.lines) (live_of g.lines) (news_of since (live_of g.lines)) set f.texts f.rows) s
    ∙ ap (λ (ts : List (List ℕ)). holders_text (head_of_one core log skip g.lines) (live_of g.lines) (news_of since (live_of g.lines)) g.set ts f.rows) t
    ∙ ap (λ (rows : List Holder). holders_text (head_of_one core log skip g.lines) (live_of g.lines) (news_of since (live_of g.lines)) g.set g.texts rows) r
    ∙ sym g.report

-- ---- the block that is asked for

pub apart_at : (bs : List Block) (i j : ℕ) (d : Block) → AreDisjoint bs → i < j → j < length bs → span_end (get_or bs i d) ≤ (get_or bs j d).start
apart_at [] i j d apart lt low = absurd (omega arith)
apart_at (b ∷ bs) i zero d apart lt low = absurd (omega arith)
apart_at (b ∷ bs) zero (suc j) d apart lt low = All-from_each (λ c. span_end b ≤ c.start) bs apart.0 j d (omega arith)
apart_at (b ∷ bs) (suc i) (suc j) d apart lt low = apart_at bs i j d apart.1 (omega arith) (omega arith)

begins_by : (b : Block) (address : ℕ) → IsOf b address → b.start ≤ address
begins_by b address is = ⊎_elim (λ (h : (b.start ≤ address) × (address < b.start + b.size)). h.0) (λ (e : b.start ≡ address). omega (arith, e)) is

ends_after : (b : Block) (address : ℕ) → IsOf b address → address < span_end b
ends_after b address is = ⊎_elim (λ (h : (b.start ≤ address) × (address < b.start + b.size)). omega (arith, h.1)) (λ (e : b.start ≡ address). omega (arith, e)) is

pub asked_is_one : (bs : List Block) (address i j : ℕ) → AreDisjoint bs → IsAsked bs address i → IsAsked bs address j → i ≡ j
asked_is_one bs address i j apart p q = ⊎_elim (λ (e : i ≡ j). e) (λ (o : (i < j) ⊎ (j < i)). ⊎_elim below above o) (cases_order i j)
  where
    d : Block
    d = record { start = 0; size = 0; line = 0; caller = (0, 0) }

    below : i < j → i ≡ j
    below lt = absurd (omega (arith, apart_at bs i j d apart lt q.inside, ends_after (get_or bs i d) address (p.is d), begins_by (get_or bs j d) address (q.is d)))

    above : j < i → i ≡ j
    above lt = absurd (omega (arith, apart_at bs j i d apart lt p.inside, ends_after (get_or bs j d) address (q.is d), begins_by (get_or bs i d) address (p.is d)))

-- ---- what chosen blocks hold, or who holds them

pub one_answer : (core log : List ℕ) (since : Option (List ℕ)) (reading : Distances) (skip : Skip) (question : Question) (a b : Holding)
    → FindsHeld core log since reading skip question a → FindsHeld core log since reading skip question b → a.report.items ≡ b.report.items
one_answer core log since reading skip question a b f g =
    let l : f.lines ≡ g.lines = logs_are_one log f.lines g.lines f.is_log g.is_log in
    let graph = graph_of_one core reading skip f.lines in
    let marked : IsSet g.set (length (live_of f.lines)) (Reach (graph_of_one core reading skip f.lines)) =
    subst (λ (ls : List Line). IsSet g.set (length (live_of ls)) (Reach (graph_of_one core reading skip ls))) (sym l) g.marked in
    let s : f.set ≡ g.set = sets_are_one (length (live_of f.lines)) (Reach (graph_of_one core reading skip f.lines)) f.set g.set f.marked marked in
    let numbered : AreTexts log (live_of f.lines) g.texts g.numbers = subst (λ (ls : List Line). AreTexts log (live_of ls) g.texts g.numbers) (sym l) g.numbered in
    let t : f.texts ≡ g.texts = texts_are_one (texts_of log (live_of f.lines)) f.texts g.texts f.numbers g.numbers f.numbered numbered in
    let numbered_by : AreTexts log (live_of f.lines) f.texts g.numbers = subst (λ (ts : List (List ℕ)). AreTexts log (live_of f.lines) ts g.numbers) (sym t) numbered in
    let n : f.numbers ≡ g.numbers = numbers_are_one (texts_of log (live_of f.lines)) f.texts f.numbers g.numbers f.numbered numbered_by in
    let asked : IsAsked (live_of f.lines) question.address g.block = subst (λ (ls : List Line). IsAsked (live_of ls) question.address g.block) (sym l) g.asked in
    let k : f.block ≡ g.block = asked_is_one (live_of f.lines) question.address f.block g.block (live_disjoint f.lines) f.asked asked in
    let known1 = subst (λ (ls : List Line). AreKnown (live_of ls) g.numbers g.set (counted_of since (live_of ls)) g.table) (sym l) g.known in
    let known2 = subst (λ (ns : List ℕ). AreKnown (live_of f.lines) ns g.set (counted_of since (live_of f.lines)) g.table) (sym n) known1 in
    let known3 = subst (λ (set : List Bool). AreKnown (live_of f.lines) f.numbers set (counted_of since (live_of f.lines)) g.table) (sym s) known2 in
    let one = subst (λ (ls : List Line). AreHeld question.side (graph_of_one core reading skip ls) g.table (length g.texts) (chosen_with g.numbers g.block question.alone) (slice_index g.numbers g.block) g.told g.parts) (sym l) g.are in
    let two = subst (λ (ns : List ℕ). AreHeld question.side (graph_of_one core reading skip f.lines) g.table (length g.texts) (chosen_with ns g.block question.alone) (slice_index ns g.block) g.told g.parts) (sym n) one in
    let three = subst (λ (i : ℕ). AreHeld question.side (graph_of_one core reading skip f.lines) g.table (length g.texts) (chosen_with f.numbers i question.alone) (slice_index f.numbers i) g.told g.parts) (sym k) two in
    let four = subst (λ (ts : List (List ℕ)). AreHeld question.side (graph_of_one core reading skip f.lines) g.table (length ts) (chosen_with f.numbers f.block question.alone) (slice_index f.numbers f.block) g.told g.parts) (sym t) three in
    let same =
    held_are_one question.side (graph_of_one core reading skip f.lines) (live_of f.lines) f.numbers f.set (counted_of since (live_of f.lines)) (length f.texts) (chosen_with f.numbers f.block question.alone)
    (slice_index f.numbers f.block) f.table g.table f.told g.told f.parts g.parts (one_each core reading skip f.lines) f.known known3 f.are four in
    f.report
    ∙ ap (λ (ls : List Line). held_text log (live_of ls) f.block question.side (both (chosen_with f.numbers f.block question.alone) f.set) f.told f.texts f.parts) l
    ∙ ap (λ (i : ℕ). held_text log (live_of g.lines) i question.side (both (chosen_with f.numbers i question.alone) f.set) f.told f.texts f.parts) k
    ∙ ap (λ (ns : List ℕ). held_text log (live_of g.lines) g.block question.side (both (chosen_with ns g.block question.alone) f.set) f.told f.texts f.parts) n
    ∙ ap (λ (set : List Bool). held_text log (live_of g.lines) g.block question.side (both (chosen_with g.numbers g.block question.alone) set) f.told f.texts f.parts) s
    ∙ ap (λ (told : List Bool). held_text log (live_of g.lines) g.block question.side (both (chosen_with g.numbers g.block question.alone) g.set) told f.texts f.parts) same.told_same
    ∙ ap (λ (ts : List (List ℕ)). held_text log (live_of g.lines) g.block question.side (both (chosen_with g.numbers g.block question.alone) g.set) g.told ts f.parts) t
    ∙ ap (λ (parts : List CallerShare). held_text log (live_of g.lines) g.block question.side (both (chosen_with g.numbers g.block question.alone) g.set) g.told g.texts parts) same.parts_same
    ∙ sym g.report
