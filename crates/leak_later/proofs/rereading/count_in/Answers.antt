-- From the lemmas of CountLemmas.
use Rattle.std.proofs.Common.{◌≡◌, ℕ, ◌+◌, ◌-◌, ◌*◌, ◌≤◌, length, arith}
use Rattle.leak_scan.specs.Positions.{words_from}
use Rattle.leak_later.proofs.CountLemmas.{few_words, count_on_from, count_ends, found_words}
use Rattle.leak_later.proofs.rereading.count_in.Goals as goal

pub returns-then-addr-end : goal.returns-then-addr-end
returns-then-addr-end g c =
    let f = g.W.Words.word_at c.args.words.now in
    let past = c.if-addr-end.true in
    count_ends f c.loop-addr.at c.args.end c.loop-addr.count (length (words_from f c.args.from (c.args.end - c.args.from))) (λ a l u. c.in-Some.ensures.least.2 a l (omega (arith, u))) c.loop-addr.invariant

pub loop-addr-preserved : goal.loop-addr-preserved
loop-addr-preserved g c =
    let f = g.W.Words.word_at c.args.words.now in
    let before = c.if-addr-end.false in
    let found = c.clamp-found.ensures in
    let most = c.div_ceil.ensures in
    count_on_from f c.loop-addr.at c.in-Some.addr c.args.end c.clamp-found.result c.loop-addr.count (length (words_from f c.args.from (c.args.end - c.args.from))) (g.met.W.Words.aligned c.args.words.now)
    c.in-Some.ensures.least.0 before c.in-Some.ensures.least.2
    (found_words f c.in-Some.addr c.clamp-found.result c.run.result.now c.run.ensures c.in-Some.ensures.least.1 (λ k l u. omega (arith, l, u)))
    (omega arith) c.loop-addr.invariant

pub overflow_add-count : goal.overflow_add-count
overflow_add-count g c =
    let f = g.W.Words.word_at c.args.words.now in
    let total : ℕ = length (words_from f c.args.from (c.args.end - c.args.from)) in
    let rest : ℕ = length (words_from f (c.in-Some.addr + 8 * c.clamp-found.result) (c.args.end - (c.in-Some.addr + 8 * c.clamp-found.result))) in
    let sum : (c.loop-addr.count + c.clamp-found.result) + rest ≡ total = loop-addr-preserved g c in
    let few : total ≤ c.args.end - c.args.from = few_words f c.args.from (c.args.end - c.args.from) in
    let high = c.requires in
    omega arith

pub returns : goal.returns
returns g c =
    let f = g.W.Words.word_at c.args.words.now in
    count_ends f c.loop-addr.at c.args.end c.loop-addr.count (length (words_from f c.args.from (c.args.end - c.args.from))) (λ a l u. c.in_default.ensures.least a l) c.loop-addr.invariant
