-- From the lemmas of CountLemmas.
use Rattle.std.proofs.Common.{◌≡◌, ◌∙◌, ap, ℕ, ◌+◌, ◌-◌, ◌≤◌, ◌<◌, min, length, arith}
use Rattle.leak_scan.specs.Positions.{words_from}
use Rattle.leak_later.proofs.CountLemmas.{on_pages, none_on, few_words, count_ends, count_window, words_of_block}
use Rattle.leak_later.proofs.rereading.count_on.Goals as goal

pub returns-then-start-end : goal.returns-then-start-end
returns-then-start-end g c =
    let f = g.W.Words.word_at c.args.words.now in
    let pages = c.args.pages.now in
    let end : ℕ = c.args.block.now.start + c.saturating_sub.result in
    let past : end ≤ c.in-Some.start = c.if-start-end.true in
    count_ends (on_pages f pages) c.loop-start.at end c.loop-start.count (length (words_from (on_pages f pages) c.args.block.now.start (end - c.args.block.now.start)))
    (λ a l u. none_on f pages a (c.in-Some.ensures.none a l (omega (arith, u)))) c.loop-start.invariant.sum
    ∙ ap length (words_of_block f pages c.args.block.now end c.loop-start.invariant.end)

pub count_in-count-requires : goal.count_in-count-requires
count_in-count-requires g c =
    let end : ℕ = c.args.block.now.start + c.saturating_sub.result in
    let before : c.in-Some.start < end = c.if-start-end.false in
    let is : end ≡ c.args.block.now.start + (c.args.block.now.size - 7) = c.loop-start.invariant.end in
    let least : c.min-at.result ≡ min end c.saturating_add.result = c.min-at.ensures in
    let behind = c.in-Some.ensures.behind in
    let low = c.loop-start.invariant.low in
    let high = c.requires in
    omega arith

pub loop-start-preserved : goal.loop-start-preserved
loop-start-preserved g c =
    let f = g.W.Words.word_at c.args.words.now in
    let pages = c.args.pages.now in
    let end : ℕ = c.args.block.now.start + c.saturating_sub.result in
    let least : c.min-at.result ≡ min end c.saturating_add.result = c.min-at.ensures in
    let sum = c.saturating_add.ensures in
    let is : end ≡ c.args.block.now.start + (c.args.block.now.size - 7) = c.loop-start.invariant.end in
    let high = c.requires in
    record {
      end = c.loop-start.invariant.end;
      low = omega (arith, c.in-Some.ensures.behind, c.in-Some.ensures.some, c.if-start-end.false, c.loop-start.invariant.low);
      order = omega arith;
      sum = count_window f pages c.loop-start.at c.in-Some.start c.in-Some.len c.min-at.result end c.loop-start.count c.count_in-count.result
          (length (words_from (on_pages f pages) c.args.block.now.start (end - c.args.block.now.start))) (g.met.W.Words.aligned c.args.words.now)
          c.in-Some.ensures c.if-start-end.false (omega arith) (omega arith) c.count_in-count.ensures c.loop-start.invariant.sum;
    }

pub overflow_add-count : goal.overflow_add-count
overflow_add-count g c =
    let f = g.W.Words.word_at c.args.words.now in
    let h = on_pages f c.args.pages.now in
    let end : ℕ = c.args.block.now.start + c.saturating_sub.result in
    let total : ℕ = length (words_from h c.args.block.now.start (end - c.args.block.now.start)) in
    let rest : ℕ = length (words_from h c.min-at.result (end - c.min-at.result)) in
    let sum : (c.loop-start.count + c.count_in-count.result) + rest ≡ total = (loop-start-preserved g c).sum in
    let few : total ≤ end - c.args.block.now.start = few_words h c.args.block.now.start (end - c.args.block.now.start) in
    let is : end ≡ c.args.block.now.start + (c.args.block.now.size - 7) = c.loop-start.invariant.end in
    let high = c.requires in
    omega arith

pub returns : goal.returns
returns g c =
    let f = g.W.Words.word_at c.args.words.now in
    let pages = c.args.pages.now in
    let end : ℕ = c.args.block.now.start + c.saturating_sub.result in
    count_ends (on_pages f pages) c.loop-start.at end c.loop-start.count (length (words_from (on_pages f pages) c.args.block.now.start (end - c.args.block.now.start)))
    (λ a l u. none_on f pages a (c.in_default.ensures a l)) c.loop-start.invariant.sum
    ∙ ap length (words_of_block f pages c.args.block.now end c.loop-start.invariant.end)
