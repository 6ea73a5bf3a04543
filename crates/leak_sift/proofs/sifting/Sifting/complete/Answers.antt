-- One word is complete, or none is taken.
use Rattle.std.proofs.Common.{◌≡◌, ◌+◌, ◌*◌, ◌^◌, ◌<◌, ◌∙◌, ℕ, length, refl, ap, subst, sym}
use Rattle.leak_sift.specs.Sifted.{Sifted, end_of}
use Rattle.leak_sift.proofs.RunLemmas.{on_err}
use Rattle.leak_sift.proofs.TakenLemmas.{same_state, within_same, word_end, word_none, word_ok, word_within}
use Rattle.leak_sift.proofs.sifting.Sifting.complete.Goals as goal

pub invariant_of-self : goal.invariant_of-self
invariant_of-self c =
    let s : Sifted = record { rule = c.self.inside.sieve; segments = c.self.inside.places; head = c.self.inside.head; words = c.self.inside.words; waiting = c.self.inside.waiting } in
    let t : Sifted = record { rule = c.append_words.new.sieve; segments = c.append_words.new.places; head = c.self.inside.head; words = c.append_words.new.words; waiting = c.self.inside.waiting } in
    within_same s t refl
    (word_none s t c.args.bytes.now c.completed-word.result _ (ap (λ (n : ℕ). c.self.inside.head + 8 * n) c.len.ensures) c.completed-word.ensures
    (subst (λ (s : Sifted). length s.waiting + length c.args.bytes.now ≡ 8) (sym c.self.view_is) c.requires.all) refl c.in_err-append_words.ensures.err) refl c.self.invariant

pub returns-in_err-append_words-clause-err : goal.returns-in_err-append_words-clause-err
returns-in_err-append_words-clause-err c =
    let s : Sifted = record { rule = c.self.inside.sieve; segments = c.self.inside.places; head = c.self.inside.head; words = c.self.inside.words; waiting = c.self.inside.waiting } in
    let t : Sifted = record { rule = c.append_words.new.sieve; segments = c.append_words.new.places; head = c.self.inside.head; words = c.append_words.new.words; waiting = c.self.inside.waiting } in
    let none = word_none s t c.args.bytes.now c.completed-word.result _ (ap (λ (n : ℕ). c.self.inside.head + 8 * n) c.len.ensures) c.completed-word.ensures
    (subst (λ (s : Sifted). length s.waiting + length c.args.bytes.now ≡ 8) (sym c.self.view_is) c.requires.all) refl c.in_err-append_words.ensures.err in
    on_err c.from_residual.result _ (same_state _ _ _ _ _ _ _ _ c.append_words.ensures.rule c.append_words.ensures.segments none ∙ c.self.view_is)

pub invariant_of-self-2 : goal.invariant_of-self-2
invariant_of-self-2 c =
    let s : Sifted = record { rule = c.self.inside.sieve; segments = c.self.inside.places; head = c.self.inside.head; words = c.self.inside.words; waiting = c.self.inside.waiting } in
    let t : Sifted = record { rule = c.append_words.new.sieve; segments = c.append_words.new.places; head = c.self.inside.head; words = c.append_words.new.words; waiting = c.new-self-inside.result } in
    word_within s t c.args.bytes.now c.completed-word.result _ (ap (λ (n : ℕ). c.self.inside.head + 8 * n) c.len.ensures) c.completed-word.ensures
    (subst (λ (s : Sifted). length s.waiting + length c.args.bytes.now ≡ 8) (sym c.self.view_is) c.requires.all) refl c.in_ok-append_words.ensures.ok c.new-self-inside.ensures
    (subst (λ (s : Sifted). end_of s + length c.args.bytes.now < 2 ^ 64) (sym c.self.view_is) c.requires.fits)

pub returns-clause-ok : goal.returns-clause-ok
returns-clause-ok c =
    let s : Sifted = record { rule = c.self.inside.sieve; segments = c.self.inside.places; head = c.self.inside.head; words = c.self.inside.words; waiting = c.self.inside.waiting } in
    let t : Sifted = record { rule = c.append_words.new.sieve; segments = c.append_words.new.places; head = c.self.inside.head; words = c.append_words.new.words; waiting = c.new-self-inside.result } in
    rw (← c.self.view_is)
    (word_ok s t c.args.bytes.now c.completed-word.result _ (ap (λ (n : ℕ). c.self.inside.head + 8 * n) c.len.ensures) c.completed-word.ensures
    (subst (λ (s : Sifted). length s.waiting + length c.args.bytes.now ≡ 8) (sym c.self.view_is) c.requires.all) refl c.in_ok-append_words.ensures.ok c.new-self-inside.ensures
    c.append_words.ensures.rule c.append_words.ensures.segments)

pub returns-clause-end : goal.returns-clause-end
returns-clause-end c =
    let s : Sifted = record { rule = c.self.inside.sieve; segments = c.self.inside.places; head = c.self.inside.head; words = c.self.inside.words; waiting = c.self.inside.waiting } in
    let t : Sifted = record { rule = c.append_words.new.sieve; segments = c.append_words.new.places; head = c.self.inside.head; words = c.append_words.new.words; waiting = c.new-self-inside.result } in
    rw (← c.self.view_is)
    (word_end s t c.args.bytes.now c.completed-word.result _ (ap (λ (n : ℕ). c.self.inside.head + 8 * n) c.len.ensures) c.completed-word.ensures
    (subst (λ (s : Sifted). length s.waiting + length c.args.bytes.now ≡ 8) (sym c.self.view_is) c.requires.all) refl c.in_ok-append_words.ensures.ok c.new-self-inside.ensures)
