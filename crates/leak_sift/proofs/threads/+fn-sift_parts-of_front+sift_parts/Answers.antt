-- From the lemmas of ThreadLemmas.
use Rattle.std.proofs.Common.{◌≡◌, ◌++◌, ◌∙◌, ℕ, List, length, ap, arith}
use Rattle.std.proofs.lemmas.Result.{IfOk-at_ok}
use Rattle.leak_sift.specs.Sifted.{sifted}
use Rattle.leak_sift.proofs.ThreadLemmas.{sifted_count, sifted_parts}
use Rattle.leak_sift.proofs.threads.+fn-sift_parts-of_front+sift_parts.Goals as goal

pub append-requires : goal.append-requires
append-requires g t c =
    let rule = c.args.mesh.now.sieve.now in let segments = c.args.mesh.now.places.now in
    let front = IfOk-at_ok (λ (words : List ℕ). words ≡ sifted rule segments c.args.offset c.split_at.result.0.now) c.in_ok-words.was c.join-last.ensures.second in
    omega (arith, ap (length {A = ℕ}) front, sifted_count rule segments c.args.offset c.split_at.result.0.now, c.split_at.ensures.front_len)

pub returns : goal.returns
returns g t c =
    let rule = c.args.mesh.now.sieve.now in let segments = c.args.mesh.now.places.now in
    let bytes = c.args.bytes.now in
    let front = IfOk-at_ok (λ (words : List ℕ). words ≡ sifted rule segments c.args.offset c.split_at.result.0.now) c.in_ok-words.was c.join-last.ensures.second in
    let back = IfOk-at_ok (λ (words : List ℕ). words ≡ sifted rule segments _ c.split_at.result.1.now) c.in_ok-last.was c.join-last.ensures.first in
    c.in_ok-append.ensures.ok
    ∙ ap (λ (l : List ℕ). l ++ c.in_ok-last.last) front
    ∙ ap (λ (l : List ℕ). sifted rule segments c.args.offset c.split_at.result.0.now ++ l) back
    ∙ sifted_parts rule segments c.args.offset _ bytes c.split_at.result.0.now c.split_at.result.1.now c.split_at.ensures.front c.split_at.ensures.back (omega arith) (omega arith)
