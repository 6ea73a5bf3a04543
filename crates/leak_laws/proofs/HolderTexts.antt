-- Each text of a marked block has a line of holders.
use Rattle.std.proofs.Common.{◌≡◌, ℕ, suc, ◌<◌, Bool, true, false, List, [], ◌∷◌, length, None, Some, slice_get, get_or, refl, arith}
use Rattle.std.specs.List.{AllByRecursion}
use Rattle.std.proofs.lemmas.List.{get_or-map}
use Rattle.leak_blocks.specs.declared.block.Block.{Block}
use Rattle.leak_blocks.specs.Live.{live_of}
use Rattle.leak_index.specs.Leads.{Distances}
use Rattle.leak_roots.specs.declared.skip.Skip.{Skip}
use Rattle.leak_marks.specs.Reach.{Reach}
use Rattle.leak_report.specs.Totals.{marked_in, text_at}
use Rattle.leak_report.specs.Numbered.{text_with, texts_of}
use Rattle.leak_without.proofs.HeldLemmas.{own_are_held}
use Rattle.leak_search.specs.Search.{graph_of_one}
use Rattle.leak_holder_search.specs.declared.search.Holding.{Holding}
use Rattle.leak_holder_search.specs.Holders.{FindsHolders}
use Rattle.leak_laws.specs.HeldTogether.{HasHolder, told_by_holders}
use Rattle.leak_laws.specs.HolderLines.{blocks_with_text}
use Rattle.leak_laws.proofs.HolderReports.{holders_have_lines}
use Rattle.leak_laws.proofs.HolderSums.{all_counted}
use Rattle.leak_laws.proofs.TextBlocks.{has_text}

marked_each : (P : Block → Type 0) (set : List Bool) (blocks : List Block) → ((i : ℕ) (d : Block) → i < length blocks → slice_get set i ≡ Some true → P (get_or blocks i d)) → AllByRecursion P (marked_in set blocks)
marked_each P [] blocks all = tt
marked_each P (s ∷ set) [] all = tt
marked_each P (true ∷ set) (b ∷ blocks) all = (all 0 b (omega arith) refl, marked_each P set blocks (λ i d low is. all (suc i) d (omega arith) is))
marked_each P (false ∷ set) (b ∷ blocks) all = marked_each P set blocks (λ i d low is. all (suc i) d (omega arith) is)

pub marked_have_holders : (core log : List ℕ) (reading : Distances) (skip : Skip) (found : Holding) → (f : FindsHolders core log None reading skip found) → AllByRecursion (HasHolder log (told_by_holders f).rows) (marked_in f.set (live_of f.lines))
marked_have_holders core log reading skip found f =
    marked_each (HasHolder log (told_by_holders f).rows) f.set (live_of f.lines)
    (λ i d low is.
    let name : text_with (texts_of log (live_of f.lines)) i ≡ text_at log (get_or (live_of f.lines) i d).caller = get_or-map (λ b. text_at log b.caller) (live_of f.lines) i d [] low in
    let reached : Reach (graph_of_one core reading skip f.lines) i = (f.marked.each i low).0 is in
    let has = has_text log (live_of f.lines) f.texts f.numbers f.numbered (text_at log (get_or (live_of f.lines) i d).caller) i low name in
    (holders_have_lines core log None reading skip found f (text_at log (get_or (live_of f.lines) i d).caller)).1
    (record { block = i; counts = all_counted (live_of f.lines) i low; held = own_are_held (graph_of_one core reading skip f.lines) (blocks_with_text log (live_of f.lines) (text_at log (get_or (live_of f.lines) i d).caller)) i reached has }))
