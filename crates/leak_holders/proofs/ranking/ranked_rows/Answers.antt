-- From the lemmas of Orders.
use Rattle.std.proofs.Common.{◌≡◌, List, sym, ap, subst, ◌∙◌, rules}
use Rattle.std.specs.Prelude.{nat_lt}
use Rattle.std.specs.List.Sorted.{IsStrictlySortedBy}
use Rattle.std.proofs.lemmas.List.Elements.{filter_from_retain}
use Rattle.std.proofs.lemmas.List.Kept.{IsStrictlySortedBy-filter}
use Rattle.std.proofs.lemmas.List.Sorted.{answers_always}
use Rattle.leak_holders.specs.declared.holder.Holder.{Holder}
use Rattle.leak_holders.specs.Holders.{ranked, with_blocks}
use Rattle.leak_holders.proofs.Orders.{by_text, rows_are}
use Rattle.leak_holders.proofs.ranking.ranked_rows.Goals as goal

pub returns : goal.returns
returns c =
    let given : List Holder = c.retain.new.self.items in
    let kept : given ≡ with_blocks c.args.rows.items = filter_from_retain _ (λ (r : Holder). nat_lt 0 r.blocks) (λ p x b q h. search rules) _ c.args.rows.items given c.retain.ensures.filtered in
    let up : IsStrictlySortedBy by_text given = subst (IsStrictlySortedBy by_text) (sym kept) (IsStrictlySortedBy-filter by_text (λ (r : Holder). nat_lt 0 r.blocks) c.args.rows.items c.requires) in
    rows_are given c.sort_by_key.new.self.items up c.in_ok-sort_by_key.ensures.permutation
    (c.in_ok-sort_by_key.ensures.sorted (λ (row : Holder). record { 0 = row.bytes }) (answers_always _ _ _ (λ f a r g h. search rules)))
    (c.sort_by_key.ensures.stable (λ (row : Holder). record { 0 = row.bytes }) (answers_always _ _ _ (λ f a r g h. search rules)))
    ∙ ap ranked kept
