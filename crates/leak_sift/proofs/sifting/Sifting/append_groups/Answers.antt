-- All of the words, or none.
use Rattle.std.proofs.Common.{◌≡◌, ◌+◌, ◌*◌, ◌^◌, ◌<◌, ◌++◌, ℕ, List, [], length, refl, ap, subst, sym, ◌∙◌}
use Rattle.std.proofs.lemmas.Result.{on_ok_weaker}
use Rattle.leak_sift.specs.Sifted.{Sifted, end_of}
use Rattle.leak_sift.proofs.TakenLemmas.{words_end, words_ok}
use Rattle.leak_sift.proofs.ThreadLemmas.{all_within}
use Rattle.leak_sift.proofs.sifting.Sifting.append_groups.Goals as goal

pub invariant_of-self : goal.invariant_of-self
invariant_of-self g c =
    let s : Sifted = record { rule = c.self.inside.sieve; segments = c.self.inside.places; head = c.self.inside.head; words = c.self.inside.words; waiting = c.self.inside.waiting } in
    all_within c.append.result s c.append.new.self c.args.bytes.now _
    (subst (λ (s : Sifted). s.waiting ≡ []) (sym c.self.view_is) c.requires.none)
    (subst (λ (s : Sifted). end_of s + length c.args.bytes.now < 2 ^ 64) (sym c.self.view_is) c.requires.fits)
    (on_ok_weaker c.append.result (λ ok. ok ∙ ap (λ (l : List ℕ). c.self.inside.words ++ l) c.in_ok-words.ensures) c.append.ensures.ok)
    c.append.ensures.err

pub returns-clause-ok : goal.returns-clause-ok
returns-clause-ok g c =
    let s : Sifted = record { rule = c.self.inside.sieve; segments = c.self.inside.places; head = c.self.inside.head; words = c.self.inside.words; waiting = c.self.inside.waiting } in
    let t : Sifted = record { rule = c.self.inside.sieve; segments = c.self.inside.places; head = c.self.inside.head; words = c.append.new.self; waiting = c.self.inside.waiting } in
    rw (← c.self.view_is)
    (words_ok c.append.result s t c.args.bytes.now _ (ap (λ (n : ℕ). c.self.inside.head + 8 * n) c.len.ensures) refl refl refl
    (subst (λ (s : Sifted). s.waiting ≡ []) (sym c.self.view_is) c.requires.none) refl c.requires.whole
    (on_ok_weaker c.append.result (λ ok. ok ∙ ap (λ (l : List ℕ). c.self.inside.words ++ l) c.in_ok-words.ensures) c.append.ensures.ok))

pub returns-clause-end : goal.returns-clause-end
returns-clause-end g c =
    let s : Sifted = record { rule = c.self.inside.sieve; segments = c.self.inside.places; head = c.self.inside.head; words = c.self.inside.words; waiting = c.self.inside.waiting } in
    let t : Sifted = record { rule = c.self.inside.sieve; segments = c.self.inside.places; head = c.self.inside.head; words = c.append.new.self; waiting = c.self.inside.waiting } in
    rw (← c.self.view_is)
    (words_end c.append.result s t c.args.bytes.now _ (ap (λ (n : ℕ). c.self.inside.head + 8 * n) c.len.ensures) refl refl refl
    (subst (λ (s : Sifted). s.waiting ≡ []) (sym c.self.view_is) c.requires.none) refl c.requires.whole
    (on_ok_weaker c.append.result (λ ok. ok ∙ ap (λ (l : List ℕ). c.self.inside.words ++ l) c.in_ok-words.ensures) c.append.ensures.ok))
