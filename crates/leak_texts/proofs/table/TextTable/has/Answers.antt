-- The number is the text's, and it is found by its text.
use Rattle.std.proofs.Common.{◌≡◌, ℕ, ◌<◌, List, [], length, get_or, sym, ap, subst, ◌∙◌}
use Rattle.std.proofs.lemmas.List.{get_or-map, length-map}
use Rattle.std.proofs.lemmas.Bool.Decides.{Decides-eqb}
use Rattle.std.proofs.lemmas.Slice.Eq.{slice_eq-Decides}
use Rattle.leak_texts.specs.Texts.{IsNumbered, bytes_at, text_with, texts_at}
use Rattle.leak_texts.specs.Finding.{number_in}
use Rattle.leak_texts.proofs.FindingLemmas.{has}
use Rattle.leak_texts.proofs.table.TextTable.has.Goals as goal

pub returns-in-Some : goal.returns-in-Some
returns-in-Some c = λ t.
    let bytes : List ℕ = c.self.inside.bytes.items in
    let places : List (ℕ × ℕ) = c.self.inside.places.items in
    let n : ℕ = c.args.number in
    let found = c.in-Some.ensures.lookup in
    let below : n < length places = subst (λ (ps : List (ℕ × ℕ)). n < length ps) c.deref.ensures.value found.3.0 in
    let place : c.in-Some.field-0.now ≡ get_or places n (0, 0) = found.3.1 (0, 0) ∙ ap (λ (ps : List (ℕ × ℕ)). get_or ps n (0, 0)) c.deref.ensures.value in
    let same : bytes_at c.deref-in-Some.result.now c.in-Some.field-0.now ≡ c.args.text.now = (slice_eq-Decides Decides-eqb _ _ _ c.eq.ensures).0 t in
    let is : text_with (texts_at bytes places) n ≡ c.args.text.now =
    get_or-map (bytes_at bytes) places n (0, 0) [] below ∙ ap (bytes_at bytes) (sym place) ∙ ap (λ (bs : List ℕ). bytes_at bs c.in-Some.field-0.now) (sym c.deref-in-Some.ensures.value) ∙ same in
    subst (λ (ts : List (List ℕ)). IsNumbered ts c.args.text.now ts n) c.self.view_is
    (has (number_in c.self.inside.numbers) (texts_at bytes places) c.args.text.now n c.self.invariant.finds
    (subst (λ (m : ℕ). n < m) (sym (length-map places (bytes_at bytes))) below) is)
