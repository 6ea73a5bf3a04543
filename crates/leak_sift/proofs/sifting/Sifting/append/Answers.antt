-- The words of all these bytes, or some of them.
use Rattle.std.proofs.Common.{◌≡◌, ◌+◌, ◌*◌, ◌^◌, ◌<◌, ℕ, [], length, refl, ap, subst, sym}
use Rattle.leak_sift.specs.Sifted.{Sifted, end_of}
use Rattle.leak_sift.proofs.TakenLemmas.{words_end, words_err, words_ok, words_within}
use Rattle.leak_sift.proofs.sifting.Sifting.append.Goals as goal

pub invariant_of-self : goal.invariant_of-self
invariant_of-self c =
    words_within c.append_words.result
    (record { rule = c.self.inside.sieve; segments = c.self.inside.places; head = c.self.inside.head; words = c.self.inside.words; waiting = c.self.inside.waiting })
    (record { rule = c.append_words.new.sieve; segments = c.append_words.new.places; head = c.self.inside.head; words = c.append_words.new.words; waiting = c.self.inside.waiting })
    c.args.bytes.now _ (ap (λ (n : ℕ). c.self.inside.head + 8 * n) c.len.ensures) c.append_words.ensures.rule c.append_words.ensures.segments refl
    (subst (λ (s : Sifted). s.waiting ≡ []) (sym c.self.view_is) c.requires.none) refl c.requires.whole
    (subst (λ (s : Sifted). end_of s + length c.args.bytes.now < 2 ^ 64) (sym c.self.view_is) c.requires.fits) c.append_words.ensures.ok c.append_words.ensures.err

pub returns-clause-ok : goal.returns-clause-ok
returns-clause-ok c =
    rw (← c.self.view_is)
    (words_ok c.append_words.result _ _ c.args.bytes.now _ (ap (λ (n : ℕ). c.self.inside.head + 8 * n) c.len.ensures) c.append_words.ensures.rule c.append_words.ensures.segments refl
    (subst (λ (s : Sifted). s.waiting ≡ []) (sym c.self.view_is) c.requires.none) refl c.requires.whole c.append_words.ensures.ok)

pub returns-clause-err : goal.returns-clause-err
returns-clause-err c =
    rw (← c.self.view_is)
    (words_err c.append_words.result _ _ c.args.bytes.now _ (ap (λ (n : ℕ). c.self.inside.head + 8 * n) c.len.ensures) c.append_words.ensures.rule c.append_words.ensures.segments refl
    (subst (λ (s : Sifted). s.waiting ≡ []) (sym c.self.view_is) c.requires.none) refl c.requires.whole c.append_words.ensures.err)

pub returns-clause-end : goal.returns-clause-end
returns-clause-end c =
    rw (← c.self.view_is)
    (words_end c.append_words.result _ _ c.args.bytes.now _ (ap (λ (n : ℕ). c.self.inside.head + 8 * n) c.len.ensures) c.append_words.ensures.rule c.append_words.ensures.segments refl
    (subst (λ (s : Sifted). s.waiting ≡ []) (sym c.self.view_is) c.requires.none) refl c.requires.whole c.append_words.ensures.ok)
