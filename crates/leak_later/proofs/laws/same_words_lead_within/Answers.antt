-- A word of a kept block that is in the earlier core too leads to a block that was marked there, or is fresh.
use Rattle.std.proofs.Common.{◌≡◌, ℕ, ◌<◌, ◌≤◌, Bool, true, false, ◌⊎◌, inl, inr, sym, subst, refl, ap, ◌∙◌, List, [], ◌++◌, length, Some, slice_get, arith, nat_lt, nltb→le}
use Rattle.std.proofs.lemmas.Option.{same_Some}
use Rattle.std.specs.Bool.{fails}
use Rattle.leak_mtrace.specs.declared.line.Line.{Line}
use Rattle.leak_blocks.specs.declared.block.Block.{Block}
use Rattle.leak_blocks.specs.Live.{live_of}
use Rattle.leak_blocks.proofs.LiveLemmas.{is_in_at, place_of, of_live, within_log, one_a_line, were_live}
use Rattle.leak_index.specs.Leads.{leads}
use Rattle.leak_index.specs.Hits.{Index}
use Rattle.leak_scan.specs.Targets.{block_words}
use Rattle.leak_marks.specs.Lists.{Has}
use Rattle.leak_marks.specs.Reach.{Reach}
use Rattle.leak_pool.specs.Marking.{graph_of}
use Rattle.leak_later.specs.Kept.{kept_of, fresh_of, has_marked_line}
use Rattle.leak_later.proofs.NumberLemmas.{inside, of_numbers, to_numbers, of_marked, to_marked, Numbered, MarkedAt}
use Rattle.leak_later.proofs.WordLemmas.{unchanged, word_of_block, next_reached, led_block, leads_at}
use Rattle.leak_later.proofs.laws.same_words_lead_within.Goals as goal

of_kept : (before : List Block) (set : List Bool) (now : List Block) (i : ℕ) → Has (kept_of before set now) i → Numbered 0 (λ b. has_marked_line set before b.line) now i
unfolding kept_of
of_kept before set now i h = of_numbers 0 (λ b. has_marked_line set before b.line) now i h

to_kept : (before : List Block) (set : List Bool) (now : List Block) (k j : ℕ) (b : Block) → slice_get now k ≡ Some b → has_marked_line set before b.line ≡ true → j ≡ k → Has (kept_of before set now) j
unfolding kept_of
to_kept before set now k j b e m s = to_numbers 0 (λ x. has_marked_line set before x.line) now k j b e m (omega arith)

to_fresh : (n : ℕ) (now : List Block) (k j : ℕ) (b : Block) → slice_get now k ≡ Some b → nat_lt n b.line ≡ true → j ≡ k → Has (fresh_of n now) j
unfolding fresh_of
to_fresh n now k j b e m s = to_numbers 0 (λ x. nat_lt n x.line) now k j b e m (omega arith)

-- a block of the later log with a line of the earlier was live in the earlier
was_live : (before after : List Line) (b : Block) (k : ℕ) → slice_get (live_of (before ++ after)) k ≡ Some b → b.line ≤ length before → (m : ℕ) × (slice_get (live_of before) m ≡ Some b)
was_live before after b k e le = place_of b (live_of before) (were_live before after b (is_in_at b _ k e) le)

line_within : (lines : List Line) (b : Block) (k : ℕ) → slice_get (live_of lines) k ≡ Some b → b.line ≤ length lines
line_within lines b k e = omega (arith, within_log [] lines b (of_live lines b (is_in_at b _ k e)))

-- two live blocks of one line are one
same_block : (lines : List Line) (b c : Block) (k n : ℕ) → slice_get (live_of lines) k ≡ Some b → slice_get (live_of lines) n ≡ Some c → b.line ≡ c.line → b ≡ c
same_block lines b c k n e f s = one_a_line lines b c (is_in_at b _ k e) (is_in_at c _ n f) s

pub returns : goal.returns
returns c word_before word_now reading first_before before after set given i b at_i kept_i a w low high word_is same j led =
    let all : List Block = live_of (before ++ after) in
    let old : Index = record { blocks = live_of before; reading = reading } in
    -- the kept block is that of a marked block of the earlier log
    let k : Numbered 0 (λ x. has_marked_line set (live_of before) x.line) all i = of_kept (live_of before) set all i kept_i in
    let i_is : i ≡ k.0 = omega (arith, k.1) in
    let here : k.2.block ≡ b = same_Some k.2.block b (sym k.2.at ∙ ap (slice_get all) (sym i_is) ∙ at_i) in
    let m : MarkedAt set (live_of before) b.line = of_marked set (live_of before) b.line (subst (λ (x : Block). has_marked_line set (live_of before) x.line ≡ true) here k.2.passes) in
    let in_log : b.line ≤ length before = omega (arith, line_within before m.block m.place m.at, m.is_line) in
    let q : (n : ℕ) × (slice_get (live_of before) n ≡ Some b) = was_live before after b i at_i in_log in
    let one : m.block ≡ b = same_block before m.block b m.place q.0 m.at q.1 m.is_line in
    let at_b : slice_get (live_of before) m.place ≡ Some b = m.at ∙ ap Some one in
    -- which has the word in the earlier core
    let word : Has (block_words word_before b) w = word_of_block word_before b a w low high (unchanged word_before word_now a w word_is same) in
    let reached : Reach (graph_of word_before old first_before []) m.place = (given.marked.each m.place (subst (λ (n : ℕ). m.place < n) given.marked.len (inside set m.place true m.marked))).0 m.marked in
    -- what it leads to
    let l : Numbered 0 (leads reading w) all j = led_block (record { blocks = all; reading = reading }) w j led in
    let j_is : j ≡ l.0 = omega (arith, l.1) in
    let go : (t : Bool) → nat_lt (length before) l.2.block.line ≡ t → Has (kept_of (live_of before) set all) j ⊎ Has (fresh_of (length before) all) j = elim [
      | true ↦ λ e. inr (to_fresh (length before) all l.0 j l.2.block l.2.at e j_is)
      | false ↦ λ e.
          let p : (n : ℕ) × (slice_get (live_of before) n ≡ Some l.2.block) = was_live before after l.2.block l.0 l.2.at (nltb→le _ _ (fails _ e)) in
          let r : Reach (graph_of word_before old first_before []) p.0 = next_reached word_before old first_before m.place p.0 w b at_b word (leads_at old w p.0 l.2.block p.1 l.2.passes) reached in
          let s : slice_get set p.0 ≡ Some true = (given.marked.each p.0 (inside (live_of before) p.0 l.2.block p.1)).1 r in
          inl (to_kept (live_of before) set all l.0 j l.2.block l.2.at (to_marked set (live_of before) p.0 l.2.block s p.1) j_is)
    ] in
    go (nat_lt (length before) l.2.block.line) refl
