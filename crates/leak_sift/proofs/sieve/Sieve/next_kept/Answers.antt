-- Words more that are dropped, and then one that is kept, or one more that is dropped.
use Rattle.std.proofs.Common.{◌≡◌, ◌*◌, ◌+◌, ◌/◌, ◌<◌, ℕ, List, length, get_or, subst, sym, ap, ◌∙◌, arith}
use Rattle.std.specs.Int.{w64}
use Rattle.leak_elf.specs.Fields.{number_at}
use Rattle.leak_sift.specs.Kept.{Rule, kept_of}
use Rattle.leak_sift.specs.Sifted.{run_of}
use Rattle.leak_sift.proofs.WordLemmas.{length-by_words}
use Rattle.leak_sift.proofs.DroppedLemmas.{more_zero, past, word}
use Rattle.leak_sift.proofs.sieve.Sieve.next_kept.Goals as goal

-- the word that was asked for
asked : (rule same : Rule) (place : ℕ) (bytes : List ℕ) (number found kept : ℕ) → same ≡ rule → number < length bytes / 8 → found ≡ number_at w64 bytes (8 * number)
    → kept ≡ kept_of same.blocks same.links (place + 8 * number) found → kept ≡ get_or (run_of rule place bytes) number 0
asked rule same place bytes number found kept e inside f g =
    g ∙ ap (λ (r : Rule). kept_of r.blocks r.links (place + 8 * number) found) e ∙ ap (kept_of rule.blocks rule.links (place + 8 * number)) f ∙ sym (word rule place bytes number inside)

pub returns-then-number-count-clause-next : goal.returns-then-number-count-clause-next
returns-then-number-count-clause-next c =
    let so_far = c.loop-number.invariant in
    let all = length-by_words (λ distance word. kept_of c.args.self.now.blocks c.args.self.now.links (c.args.place + distance) word) c.args.bytes.now in
    let zero = past c.args.self.now c.args.place c.args.bytes.now c.args.from c.loop-number.number so_far.dropped c.loop-number.self c.count_dropped-number.result so_far.same (omega arith) c.count_dropped-number.ensures.dropped in
    record { each = λ k h l. zero.each k h (omega (arith, all)) }

pub returns-then-word-ne0-clause-next : goal.returns-then-word-ne0-clause-next
returns-then-word-ne0-clause-next c =
    let so_far = c.loop-number.invariant in
    let number = c.loop-number.number + c.count_dropped-number.result in
    let all = length-by_words (λ distance word. kept_of c.args.self.now.blocks c.args.self.now.links (c.args.place + distance) word) c.args.bytes.now in (
      omega arith,
      omega (arith, all),
      asked c.args.self.now c.loop-number.self c.args.place c.args.bytes.now number c.word_at.result c.kept-word.result so_far.same (omega arith) c.word_at.ensures c.kept-word.ensures.kept,
      past c.args.self.now c.args.place c.args.bytes.now c.args.from c.loop-number.number so_far.dropped c.loop-number.self c.count_dropped-number.result so_far.same (omega arith) c.count_dropped-number.ensures.dropped,
      (λ e. omega (arith, e, c.if-word-ne0.true)),
    )

pub loop-number-preserved : goal.loop-number-preserved
loop-number-preserved c =
    let so_far = c.loop-number.invariant in
    let number = c.loop-number.number + c.count_dropped-number.result in
    let zero = past c.args.self.now c.args.place c.args.bytes.now c.args.from c.loop-number.number so_far.dropped c.loop-number.self c.count_dropped-number.result so_far.same (omega arith) c.count_dropped-number.ensures.dropped in
    let is = asked c.args.self.now c.loop-number.self c.args.place c.args.bytes.now number c.word_at.result c.kept-word.result so_far.same (omega arith) c.word_at.ensures c.kept-word.ensures.kept in
    record {
      above = omega arith;
      below = omega arith;
      dropped = more_zero c.args.self.now c.args.place c.args.bytes.now c.args.from number zero (number + 1) (λ k h l.
          let one : number ≡ k = omega arith in subst (λ (n : ℕ). get_or (run_of c.args.self.now c.args.place c.args.bytes.now) n 0 ≡ 0) one (sym is ∙ c.if-word-ne0.false));
      same = c.kept-word.ensures.same ∙ so_far.same;
    }

pub returns-clause-next : goal.returns-clause-next
returns-clause-next c =
    let all = length-by_words (λ distance word. kept_of c.args.self.now.blocks c.args.self.now.links (c.args.place + distance) word) c.args.bytes.now in
    record { each = λ k h l. c.loop-number.invariant.dropped.each k h (omega (arith, all)) }
