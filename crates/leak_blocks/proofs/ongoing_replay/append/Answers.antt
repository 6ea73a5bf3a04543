-- The next entry's number goes from those that are left to the list.
use Rattle.std.proofs.Common.{◌∙◌, sym, ap, ℕ, List, [], ◌∷◌, ◌++◌, map, append_assoc, append-nil}
use Rattle.leak_blocks.proofs.ongoing_replay.append.Goals as goal

pub loop-number-init : goal.loop-number-init
loop-number-init c = ap (λ (l : List (ℕ × ℕ)). c.args.joined.now.items ++ map (λ e. e.1) l) c.into_iter-number-iterator.ensures.into_iter_gives

pub loop-number-preserved : goal.loop-number-preserved
loop-number-preserved c =
    ap (λ (l : List ℕ). l ++ map (λ e. e.1) c.next.new.self) c.in_ok-push.ensures.items
    ∙ append_assoc c.loop-number.joined.items (c.in-Some.number.now ∷ []) (map (λ e. e.1) c.next.new.self)
    ∙ ap (λ (l : List (ℕ × ℕ)). c.loop-number.joined.items ++ map (λ e. e.1) l) (sym c.in-Some.ensures.steps) ∙ c.loop-number.invariant

pub returns : goal.returns
returns c = sym (append-nil c.loop-number.joined.items) ∙ ap (λ (l : List (ℕ × ℕ)). c.loop-number.joined.items ++ map (λ e. e.1) l) (sym c.in-None.ensures.steps.0) ∙ c.loop-number.invariant
