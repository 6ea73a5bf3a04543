-- Words before all blocks, or past the ends of all, lead to none.
use Rattle.std.proofs.Common.{◌≡◌, ℕ, ◌+◌, ◌-◌, inr, List, [], ◌∷◌, length, slice_index_or, refl, Some, arith}
use Rattle.std.proofs.lemmas.Option.{slice_get-get_or}
use Rattle.leak_lemmas.proofs.Members.{each_at}
use Rattle.leak_mtrace.specs.Log.{IsLog}
use Rattle.leak_mtrace.specs.declared.line.Line.{Line}
use Rattle.leak_mtrace.proofs.FitLemmas.{lines_fit}
use Rattle.leak_blocks.specs.Live.{live_of}
use Rattle.leak_blocks.specs.Span.{AreDisjoint, IsAddressed}
use Rattle.leak_blocks.specs.declared.block.Block.{Block}
use Rattle.leak_blocks.proofs.DisjointLemmas.{live_disjoint}
use Rattle.leak_blocks.proofs.LineLemmas.{live_addressed}
use Rattle.leak_index.specs.Hits.{hits_from, hits_of}
use Rattle.leak_index.specs.Leads.{Distances}
use Rattle.leak_index.proofs.Near.{all_before, all_behind, bounds, none_above, none_below}
use Rattle.leak_search.specs.Search.{index_of}
use Rattle.leak_alike.specs.Alike.{AreAlikeWords, LeadsNowhere}
use Rattle.leak_alike.specs.Nowhere.{IsOutside, above, below}

none_outside : (blocks : List Block) (reading : Distances) (word : ℕ) → AreDisjoint blocks → IsOutside blocks word → hits_from 0 reading blocks word ≡ []
none_outside [] reading word apart is = refl
none_outside (b ∷ bs) reading word apart (below h) =
    none_below 0 reading (b ∷ bs) word (all_behind b.start word (b ∷ bs) (h b refl) (bounds (b ∷ bs) b apart (omega arith)).above)
none_outside (b ∷ bs) reading word apart (above h) =
    let last = slice_index_or (b ∷ bs) (length (b ∷ bs) - 1) b in
    let past = h last (slice_get-get_or (b ∷ bs) (length (b ∷ bs) - 1) b (omega arith)) in
    none_above 0 reading (b ∷ bs) word (all_before (last.start + last.size) word (b ∷ bs) past (bounds (b ∷ bs) b apart (omega arith)).below)

pub outside_nowhere : (lines : List Line) (reading : Distances) (word : ℕ) → IsOutside (live_of lines) word → LeadsNowhere (index_of reading lines) word
unfolding hits_of
outside_nowhere lines reading word is = none_outside (live_of lines) reading word (live_disjoint lines) is

pub zero_nowhere : (log : List ℕ) (lines : List Line) (reading : Distances) → IsLog log lines → LeadsNowhere (index_of reading lines) 0
zero_nowhere log lines reading is =
    outside_nowhere lines reading 0 (below (λ b e. (each_at IsAddressed (live_of lines) 0 b (live_addressed lines (lines_fit log lines is)) e).above))

pub outside_like_zero : (log : List ℕ) (lines : List Line) (reading : Distances) (word : ℕ) → IsLog log lines → IsOutside (live_of lines) word
    → AreAlikeWords (index_of reading lines) (Some word) (Some 0)
outside_like_zero log lines reading word is outside = inr (outside_nowhere lines reading word outside, zero_nowhere log lines reading is)
