-- The map has the number, or the text is new.
use Rattle.std.proofs.Common.{◌∙◌, ℕ, List, option_copied, ap, subst, sym}
use Rattle.leak_texts.specs.Texts.{IsNumbered, texts_at}
use Rattle.leak_texts.specs.Finding.{number_in}
use Rattle.leak_texts.proofs.FindingLemmas.{met, new, number_in-key}
use Rattle.leak_texts.proofs.table.TextTable.find_or_add.Goals as goal

pub returns-in-Some-clause-ok : goal.returns-in-Some-clause-ok
returns-in-Some-clause-ok c =
    let texts : List (List ℕ) = texts_at c.self.inside.bytes.items c.self.inside.places.items in
    let text : List ℕ = c.args.text.now in
    subst (λ (ts : List (List ℕ)). IsNumbered ts text texts c.in-Some.number.now) c.self.view_is
    (met (number_in c.self.inside.numbers) texts text c.in-Some.number.now c.self.invariant.finds
    (number_in-key c.self.inside.numbers c.write_key.new.key text c.in_ok-write_key.ensures ∙ sym c.in-Some.ensures.value))

pub add-requires-clause-new : goal.add-requires-clause-new
add-requires-clause-new c =
    let texts : List (List ℕ) = texts_at c.self.inside.bytes.items c.self.inside.places.items in
    let text : List ℕ = c.args.text.now in
    new (number_in c.self.inside.numbers) texts text c.self.invariant.finds
    (number_in-key c.self.inside.numbers c.write_key.new.key text c.in_ok-write_key.ensures ∙ sym c.get.ensures.value ∙ ap option_copied c.in_default.is)
