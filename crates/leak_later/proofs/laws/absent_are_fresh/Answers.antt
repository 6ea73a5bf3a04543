-- A line of the earlier log that is live in the later one was live in the earlier.
use Rattle.std.proofs.Common.{◌≡◌, ℕ, ◌+◌, Bool, true, false, not, inl, inr, refl, sym, ap, ◌∙◌, true≢false, List, [], ◌∷◌, ◌++◌, length, arith, nat_lt, ltb→lt, nltb→le, if◌then◌else◌}
use Rattle.std.specs.Bool.{passes, fails}
use Rattle.leak_mtrace.specs.declared.line.Line.{Line}
use Rattle.leak_blocks.specs.declared.block.Block.{Block}
use Rattle.leak_blocks.specs.Laws.{IsIn}
use Rattle.leak_blocks.specs.Live.{live_of}
use Rattle.leak_blocks.proofs.LiveLemmas.{of_live, within_log, were_live}
use Rattle.leak_later.specs.Kept.{numbers_from, has_line, absent_of, fresh_of}
use Rattle.leak_later.proofs.CarryLemmas.{of_line, to_line}
use Rattle.leak_later.proofs.laws.absent_are_fresh.Goals as goal

-- tests that agree on the blocks pick the same numbers
same_numbers : (n : ℕ) (p q : Block → Bool) (blocks : List Block) → ((b : Block) → IsIn b blocks → p b ≡ q b) → numbers_from n p blocks ≡ numbers_from n q blocks
same_numbers n p q [] h = refl
same_numbers n p q (b ∷ blocks) h =
    ap (λ (t : Bool). if t then n ∷ numbers_from (n + 1) p blocks else numbers_from (n + 1) p blocks) (h b (inl refl))
    ∙ ap (λ (r : List ℕ). if q b then n ∷ r else r) (same_numbers (n + 1) p q blocks (λ c k. h c (inr k)))

same_test : (before after : List Line) (b : Block) → IsIn b (live_of (before ++ after)) → not (has_line (live_of before) b.line) ≡ nat_lt (length before) b.line
same_test before after b h = go (nat_lt (length before) b.line) refl (has_line (live_of before) b.line) refl
  where
    go : (t : Bool) → nat_lt (length before) b.line ≡ t → (u : Bool) → has_line (live_of before) b.line ≡ u → not u ≡ t
    go true e true f =
        let r : (c : Block) × IsIn c (live_of before) × (c.line ≡ b.line) = of_line (live_of before) b.line f in
        absurd (omega (arith, r.2, within_log [] before r.0 (of_live before r.0 r.1), ltb→lt _ _ (passes _ e)))
    go true e false f = refl
    go false e true f = refl
    go false e false f =
        let there : IsIn b (live_of before) = were_live before after b h (nltb→le _ _ (fails _ e)) in
        absurd (true≢false (sym (to_line (live_of before) b there) ∙ f))

pub returns : goal.returns
unfolding absent_of fresh_of
returns c before after =
    same_numbers 0 (λ b. not (has_line (live_of before) b.line)) (λ b. nat_lt (length before) b.line) (live_of (before ++ after)) (same_test before after)
