-- From the lemmas of HalfLemmas.
use Rattle.std.proofs.Common.{◌≡◌, ◌<◌, ◌≤◌, ◌∙◌, ap, sym, ◌+◌, ◌-◌, ℕ, List, Vec, Global, length, map, arith}
use Rattle.leak_marks.specs.Seats.{Held, kept_rest, split_off}
use Rattle.leak_pool.specs.Gates.{ArePassed}
use Rattle.leak_pool.specs.Promises.{AreBoth, IsHalf}
use Rattle.leak_pool.specs.SearchModel.{blocks_of, items_of}
use Rattle.leak_pool.specs.declared.task.Gains.{Gains}
use Rattle.leak_pool.proofs.GateLemmas.{both_passed}
use Rattle.leak_pool.proofs.HalfLemmas.{pair_ok, some_at, half_after, half_joined, add_two}
use Rattle.leak_pool.proofs.sharing.+fn-scan_shares-join+arg2+fn-scan_shares-join+arg3+scan_shares.Goals as goal

abbrev items : Vec ℕ Global → List ℕ
items v = v.items

abbrev Put : Gains → Gains → Gains → Type 0
Put l a b = AreBoth a b l

pub returns-then-not-is_shared : goal.returns-then-not-is_shared
returns-then-not-is_shared g t c =
    let work = (g.T.Task.work c.args.task.now) in
    let blocks = blocks_of work in let targets = items_of work in
    let passed : ℕ → ℕ → Type 0 = g.T.Task.passed c.args.task.now in
    let n : ℕ = length work.items in
    let stack : ℕ = work.model.stack in
    let w : ℕ = work.model.workers in
    let middle : ℕ = c.args.high - 1 in
    let some : 0 < w = let l = c.requires.some in let h = c.requires.workers in omega arith in let lower : c.args.low ≤ middle = omega arith in let upper : middle ≤ c.args.high = omega arith in
    record {
      table = c.scan_shares-seat-then-not-is_shared.ensures.table ∙ c.scan_shares-seat.ensures.table;
      share = c.scan_shares-seat-then-not-is_shared.ensures.share ∙ c.scan_shares-seat.ensures.share;
      sound = c.scan_shares-seat-then-not-is_shared.ensures.sound;
      done = pair_ok c.both.result c.scan_shares-seat.result.1 c.scan_shares-seat-then-not-is_shared.result.1 Put
          (λ (a : Gains). IsHalf blocks targets stack n w c.args.low middle c.args.seat c.scan_shares-seat.result.0 (map items a.claims.items) a.left.items)
          (λ (b : Gains). IsHalf blocks targets stack n w middle c.args.high c.scan_shares-seat.result.0 c.scan_shares-seat-then-not-is_shared.result.0 (map items b.claims.items) b.left.items)
          (λ (l : Gains). IsHalf blocks targets stack n w c.args.low c.args.high c.args.seat c.scan_shares-seat-then-not-is_shared.result.0 (map items l.claims.items) l.left.items)
          c.both.ensures c.scan_shares-seat.ensures.done c.scan_shares-seat-then-not-is_shared.ensures.done
          (λ l a b j x y. add_two items (λ (gs : List (List ℕ)) (ls : List ℕ). IsHalf blocks targets stack n w c.args.low c.args.high c.args.seat c.scan_shares-seat-then-not-is_shared.result.0 gs ls) l.claims.items a.claims.items b.claims.items l.left.items a.left.items b.left.items j.0 j.1
          (half_after blocks targets stack n w c.args.low middle c.args.high some lower upper c.args.seat c.scan_shares-seat.result.0 c.scan_shares-seat-then-not-is_shared.result.0 (map items a.claims.items) (map items b.claims.items) a.left.items b.left.items x y));
      gate = pair_ok c.both.result c.scan_shares-seat.result.1 c.scan_shares-seat-then-not-is_shared.result.1 Put
          (λ (a : Gains). ArePassed passed n w c.args.low middle) (λ (b : Gains). ArePassed passed n w middle c.args.high) (λ (l : Gains). ArePassed passed n w c.args.low c.args.high)
          c.both.ensures c.scan_shares-seat.ensures.gate c.scan_shares-seat-then-not-is_shared.ensures.gate (λ l a b j x y. both_passed passed n w c.args.low middle c.args.high x y);
    }

pub merge-requires : goal.merge-requires
merge-requires g t c =
    let given_is = some_at c.split.result c.unwrap-other.result (λ h. h ≡ split_off c.args.seat) c.unwrap-other.ensures c.split.ensures.given in
    let table : c.args.seat.table ≡ c.marks-2.result.now.table = c.requires.table ∙ sym c.marks-2.ensures in
    (c.join-upper.ensures.second.table ∙ c.split.ensures.table ∙ table, c.join-upper.ensures.first.table ∙ ap (λ (h : Held). h.table) given_is ∙ table)

pub returns : goal.returns
returns g t c =
    let given_is = some_at c.split.result c.unwrap-other.result (λ h. h ≡ split_off c.args.seat) c.unwrap-other.ensures c.split.ensures.given in
    let giver_is = some_at c.split.result c.unwrap-other.result (λ h. c.split.new.seat ≡ kept_rest c.args.seat) c.unwrap-other.ensures c.split.ensures.giver in
    let one = c.join-upper.result.1 in let two = c.join-upper.result.0 in
    let work = (g.T.Task.work c.args.task.now) in
    let blocks = blocks_of work in let targets = items_of work in
    let passed : ℕ → ℕ → Type 0 = g.T.Task.passed c.args.task.now in
    let n : ℕ = length work.items in
    let stack : ℕ = work.model.stack in
    let w : ℕ = work.model.workers in
    let middle : ℕ = c.args.high - 1 in
    let some : 0 < w = let l = c.requires.some in let h = c.requires.workers in omega arith in let lower : c.args.low ≤ middle = omega arith in let upper : middle ≤ c.args.high = omega arith in
    let kept : one.0.share ≡ c.args.seat.share - 1 = c.join-upper.ensures.second.share ∙ ap (λ (h : Held). h.share) giver_is in
    let given : two.0.share ≡ 1 = c.join-upper.ensures.first.share ∙ ap (λ (h : Held). h.share) given_is in
    let both : c.merge.result.0.share ≡ one.0.share + two.0.share = ap (λ (h : Held). h.share) c.merge.ensures.seat in
    let whole : c.merge.result.0.share ≡ c.args.seat.share = omega arith in
    record {
      table = ap (λ (h : Held). h.table) c.merge.ensures.seat ∙ c.join-upper.ensures.second.table ∙ c.split.ensures.table;
      share = whole;
      sound = c.merge.ensures.sound;
      done = pair_ok c.merge.result.1 one.1 two.1 Put
          (λ (a : Gains). IsHalf blocks targets stack n w c.args.low middle c.split.new.seat one.0 (map items a.claims.items) a.left.items)
          (λ (b : Gains). IsHalf blocks targets stack n w middle c.args.high c.unwrap-other.result two.0 (map items b.claims.items) b.left.items)
          (λ (l : Gains). IsHalf blocks targets stack n w c.args.low c.args.high c.args.seat c.merge.result.0 (map items l.claims.items) l.left.items)
          c.merge.ensures.gained c.join-upper.ensures.second.done c.join-upper.ensures.first.done
          (λ l a b j x y. add_two items (λ (gs : List (List ℕ)) (ls : List ℕ). IsHalf blocks targets stack n w c.args.low c.args.high c.args.seat c.merge.result.0 gs ls) l.claims.items a.claims.items b.claims.items l.left.items a.left.items b.left.items j.0 j.1
          (half_joined blocks targets stack n w c.args.low middle c.args.high some lower upper c.args.seat c.split.new.seat c.unwrap-other.result one.0 two.0 c.merge.result.0 (map items a.claims.items) (map items b.claims.items) a.left.items b.left.items
          giver_is given_is x y c.merge.ensures.seat));
      gate = pair_ok c.merge.result.1 one.1 two.1 Put
          (λ (a : Gains). ArePassed passed n w c.args.low middle) (λ (b : Gains). ArePassed passed n w middle c.args.high) (λ (l : Gains). ArePassed passed n w c.args.low c.args.high)
          c.merge.ensures.gained c.join-upper.ensures.second.gate c.join-upper.ensures.first.gate (λ l a b j x y. both_passed passed n w c.args.low middle c.args.high x y);
    }
