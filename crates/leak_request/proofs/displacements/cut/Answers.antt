-- From the lemmas of Items.
use Rattle.std.proofs.Common.{arith, ◌≡◌, ◌+◌, ◌-◌, ◌∷◌, ap, drop, length, sym, take, ◌∙◌, length-drop}
use Rattle.std.proofs.lemmas.List.{take_all}
use Rattle.leak_request.specs.Displacements.{items_of}
use Rattle.leak_request.proofs.Items.{first_item_at, no_comma}
use Rattle.leak_request.proofs.displacements.cut.Goals as goal

pub returns-in-Some-clause-items : goal.returns-in-Some-clause-items
returns-in-Some-clause-items c =
    let text = c.args.text.now in
    let at = first_item_at text c.in-Some.comma c.in-Some.ensures in
    let rest = drop (c.in-Some.comma + 1) text in
    let whole : take (length text - (c.in-Some.comma + 1)) rest ≡ rest = take_all _ rest (simp length-drop (omega arith)) in
    at.1 ∙ ap (λ after. take c.in-Some.comma text ∷ items_of after) (sym whole)

pub returns-in-None-clause-items : goal.returns-in-None-clause-items
returns-in-None-clause-items c = no_comma c.args.text.now c.in-None.ensures
