use Rattle.std.proofs.Common.{◌≡◌, ◌∙◌, ap, refl, ◌∷◌, ◌++◌, ℕ, List, [], Vec, Global, length, map, rules}
use Rattle.leak_pool.specs.SearchModel.{blocks_of, items_of}
use Rattle.leak_pool.proofs.WorkLemmas.{half_of_one}
use Rattle.leak_pool.proofs.worker.GatedTask.scan_share.Goals as goal

abbrev items : Vec ℕ Global → List ℕ
items v = v.items

pub returns : goal.returns
returns g c =
    let w = c.args.self.now.round in let list : Vec ℕ Global = c.work.new.hand.list in
    let pushed : c.push.new.self.items ≡ list ∷ [] = c.in_ok-push.ensures.items ∙ ap (λ (l : List (Vec ℕ Global)). l ++ list ∷ []) c.in_ok-claims.ensures.items in
    record {
      table = c.work.ensures.same.0;
      share = c.work.ensures.same.1;
      sound = c.work.ensures.sound;
      done = half_of_one (blocks_of w) (items_of w) w.model.stack (length w.items) w.model.workers c.args.worker c.args.seat.now c.work.new.seat list.items c.work.new.hand.left.items
          (map items c.push.new.self.items) c.work.new.hand.left.items c.in_ok-work.ensures.done c.in_ok-work.ensures.left (ap (λ (l : List (Vec ℕ Global)). map items l) pushed) refl;
      gate = search rules;
    }
