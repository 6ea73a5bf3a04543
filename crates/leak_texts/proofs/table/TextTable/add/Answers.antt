-- The bytes, the place and the number of the text come behind those so far.
use Rattle.std.proofs.Common.{◌≡◌, ◌∙◌, ℕ, List, [], ◌∷◌, ◌++◌, length, take, refl, ap, ap₂, sym, subst, arith}
use Rattle.std.proofs.lemmas.List.{length-map}
use Rattle.leak_texts.specs.Texts.{IsNew, bytes_at, texts_at}
use Rattle.leak_texts.specs.Finding.{number_in}
use Rattle.leak_texts.proofs.PlaceLemmas.{end, texts_at-more, texts_at-push}
use Rattle.leak_texts.proofs.FindingLemmas.{added, number_in-insert, number_in-same}
use Rattle.leak_texts.proofs.TableLemmas.{on_err, table-more, table-push, take-places}
use Rattle.leak_texts.proofs.table.TextTable.add.Goals as goal
use Rattle.leak_texts.proofs.table.TextTable.add.Goals.{in-Ok, in-Err}

-- where the text stands
abbrev behind : (bytes text : List ℕ) (places now : List (ℕ × ℕ)) (a b : ℕ) → now ≡ places ++ (a, b) ∷ [] → a ≡ length bytes → b ≡ length (bytes ++ text) → now ≡ places ++ end bytes text ∷ []
behind bytes text places now a b pushed start stop = pushed ∙ ap₂ (λ (i j : ℕ). places ++ (i, j) ∷ []) start stop

pub invariant_of-self-in_err-push : goal.invariant_of-self-in_err-push
invariant_of-self-in_err-push c =
    let bytes = c.self.inside.bytes.items in
    let places = c.self.inside.places.items in
    let find = number_in c.self.inside.numbers in
    rw (c.in_ok-extend_from_slice.ensures.items, c.in_err-push.ensures.items) (table-more bytes c.args.text.now places find find c.self.invariant (λ t. refl))

pub returns-in_err-push-clause-err : goal.returns-in_err-push-clause-err
returns-in_err-push-clause-err c =
    let bytes = c.self.inside.bytes.items in
    let places = c.self.inside.places.items in
    on_err c.from_residual-in_err-push.result
    (ap₂ texts_at c.in_ok-extend_from_slice.ensures.items c.in_err-push.ensures.items ∙ texts_at-more bytes c.args.text.now places c.self.invariant.inside ∙ c.self.view_is)

pub invariant_of-self-in-Ok : goal.invariant_of-self-in-Ok
invariant_of-self-in-Ok c =
    let bytes = c.self.inside.bytes.items in
    let places = c.self.inside.places.items in
    let numbers = c.self.inside.numbers in
    let text : List ℕ = c.args.text.now in
    let n : ℕ = c.len-number.result in
    let more : c.extend_from_slice.new.self.items ≡ bytes ++ text = c.in_ok-extend_from_slice.ensures.items in
    let start : c.len-start.result ≡ length bytes = c.len-start.ensures ∙ c.self.inside.bytes.ok.0 in
    let stop : c.len-2.result ≡ length (bytes ++ text) = c.len-2.ensures ∙ c.extend_from_slice.new.self.ok.0 ∙ ap length more in
    let pushed : c.push.new.self.items ≡ places ++ end bytes text ∷ [] = behind bytes text places c.push.new.self.items c.len-start.result c.len-2.result c.in_ok-push.ensures.items start stop in
    rw (more, pushed)
    (table-push bytes text places (number_in numbers) (number_in c.insert.new.self) n c.self.invariant
    (subst (λ (ts : List (List ℕ)). IsNew ts text) (sym c.self.view_is) c.requires.new)
    (c.len-number.ensures ∙ c.self.inside.places.ok.0)
    (omega (arith, c.if-len.false, c.len.ensures, c.len-number.ensures))
    (number_in-insert numbers c.insert.new.self c.args.key text n c.requires.is_key c.in-Ok.ensures.updates))

pub invariant_of-self-in-Err : goal.invariant_of-self-in-Err
invariant_of-self-in-Err c =
    let bytes = c.self.inside.bytes.items in
    let places = c.self.inside.places.items in
    let numbers = c.self.inside.numbers in
    let n : ℕ = c.len-number.result in
    let back : c.truncate.new.self.items ≡ places =
    c.truncate.ensures.items ∙ ap (take n) c.in_ok-push.ensures.items ∙ take-places places (c.len-start.result, c.len-2.result) n (c.len-number.ensures ∙ c.self.inside.places.ok.0) in
    rw (c.in_ok-extend_from_slice.ensures.items, back)
    (table-more bytes c.args.text.now places (number_in numbers) (number_in c.insert.new.self) c.self.invariant (number_in-same numbers c.insert.new.self c.in-Err.ensures.err))

pub returns-clause-ok : goal.returns-clause-ok
returns-clause-ok c =
    let bytes = c.self.inside.bytes.items in
    let places = c.self.inside.places.items in
    let text : List ℕ = c.args.text.now in
    let n : ℕ = c.len-number.result in
    let more : c.extend_from_slice.new.self.items ≡ bytes ++ text = c.in_ok-extend_from_slice.ensures.items in
    let start : c.len-start.result ≡ length bytes = c.len-start.ensures ∙ c.self.inside.bytes.ok.0 in
    let stop : c.len-2.result ≡ length (bytes ++ text) = c.len-2.ensures ∙ c.extend_from_slice.new.self.ok.0 ∙ ap length more in
    let pushed : c.push.new.self.items ≡ places ++ end bytes text ∷ [] = behind bytes text places c.push.new.self.items c.len-start.result c.len-2.result c.in_ok-push.ensures.items start stop in
    let last : n ≡ length c.args.self.now = c.len-number.ensures ∙ c.self.inside.places.ok.0 ∙ sym (length-map places (bytes_at bytes)) ∙ ap length c.self.view_is in
    elim c.match-insert.branch [
      | in-Ok w ↦
          let view : c.match-insert.self ≡ c.args.self.now ++ text ∷ [] =
          w.self-is ∙ ap₂ texts_at more pushed ∙ texts_at-push bytes text places c.self.invariant.inside ∙ ap (λ (ts : List (List ℕ)). ts ++ text ∷ []) c.self.view_is in
          rw (w.result-is, view) (added c.args.self.now text n c.requires.new last)
      | in-Err w ↦ rw w.result-is tt
    ]

pub returns-clause-err : goal.returns-clause-err
returns-clause-err c =
    let bytes = c.self.inside.bytes.items in
    let places = c.self.inside.places.items in
    let n : ℕ = c.len-number.result in
    elim c.match-insert.branch [
      | in-Ok w ↦ rw w.result-is tt
      | in-Err w ↦
          let back : w.truncate.new.self.items ≡ places =
          w.truncate.ensures.items ∙ ap (take n) c.in_ok-push.ensures.items ∙ take-places places (c.len-start.result, c.len-2.result) n (c.len-number.ensures ∙ c.self.inside.places.ok.0) in
          on_err c.match-insert.result
          (w.self-is ∙ ap₂ texts_at c.in_ok-extend_from_slice.ensures.items back ∙ texts_at-more bytes c.args.text.now places c.self.invariant.inside ∙ c.self.view_is)
    ]
