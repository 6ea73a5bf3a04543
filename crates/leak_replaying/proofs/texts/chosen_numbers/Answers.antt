-- Each of at most 256 texts has a number of one byte.
use Rattle.std.proofs.Common.{ℕ, ◌<◌, length, map, get_or, arith}
use Rattle.std.specs.Prelude.{slice_index_or}
use Rattle.std.proofs.lemmas.List.{length-map, get_or-map}
use Rattle.std.proofs.lemmas.List.Elements.{All-get_or}
use Rattle.leak_replaying.proofs.texts.chosen_numbers.Goals as goal

pub overflow_cast-numbers : goal.overflow_cast-numbers
overflow_cast-numbers c =
    let at = λ (k : ℕ). slice_index_or c.args.numbers.now k 0 in
    let chosen = c.args.chosen.now in let i : ℕ = c.loop-k.k-index in
    let inside : i < length (map at chosen) = omega (arith, length-map chosen at, c.loop-k-test.true) in
    let below : get_or (map at chosen) i (at 0) < c.args.texts = All-get_or (λ n. n < c.args.texts) (map at chosen) i (at 0) inside c.requires.few in
    omega (arith, below, get_or-map at chosen i 0, c.if-texts-gt256.false)
