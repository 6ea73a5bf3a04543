-- From the lemmas of ClaimLemmas.
use Rattle.std.proofs.Common.{◌≡◌, ◌<◌, length, map, slice_index_or, ℕ, Bool, true, false, List, slice_set, ap, sym, ◌∙◌, subst, vec_len, vec_capacity, Vec, Global}
use Rattle.leak_marks.specs.Claims.{ClaimState}
use Rattle.leak_marks.proofs.ClaimLemmas.{attempted_is, mark_says, won_where_clear, lost_where_set, room_there, roomy_more, lists_more, says_more, Says}
use lib.ListN.{length-map}
use Rattle.leak_marks.proofs.claims.Claims.attempt.Goals as goal
use Rattle.leak_marks.proofs.claims.Claims.attempt.Goals.{After-index_mut-list}

abbrev items : Vec ℕ Global → List ℕ
items v = v.items

within : (c : After-index_mut-list) → c.args.worker < length c.self.inside.lists.items
within c = subst (λ (n : ℕ). c.args.worker < n) (ap (λ (s : ClaimState). length s.lists) (sym c.self.view_is) ∙ length-map c.self.inside.lists.items items) c.requires.worker

inside : (c : After-index_mut-list) → c.args.block < length c.self.inside.marked.items
inside c = subst (λ (n : ℕ). c.args.block < n) (ap (λ (s : ClaimState). s.blocks) (sym c.self.view_is)) c.requires.block

clear : (c : After-index_mut-list) → slice_index_or c.self.inside.marked.items c.args.block false ≡ false
clear c = sym (subst (λ (x : Bool). x ≡ slice_index_or c.self.inside.marked.items c.args.block x) c.if-index.false c.index.ensures)

pub push_reserved-requires : goal.push_reserved-requires
push_reserved-requires c = let d = (goal.at.push_reserved-requires c).After-index_mut-list in
    room_there items vec_len vec_capacity c.self.inside.marked.items c.self.inside.lists.items c.args.worker c.args.block c.index_mut-list.result.now c.index_mut-list.ensures.value (within d) (inside d) (clear d) c.self.invariant.0

pub invariant_of-self : goal.invariant_of-self
invariant_of-self c = let d = (goal.at.invariant_of-self c).After-index_mut-list in (
  roomy_more items vec_len vec_capacity c.self.inside.marked.items c.self.inside.lists.items c.args.worker c.args.block c.index_mut-list.result.now c.push_reserved.new.self c.index_mut-list.ensures.value (within d) (inside d) (clear d) c.push_reserved.ensures.len c.push_reserved.ensures.capacity c.self.invariant.0,
  subst (λ (ls : List (List ℕ)). Says (slice_set c.self.inside.marked.items c.args.block true) ls)
      (sym (lists_more items vec_len vec_capacity c.self.inside.lists.items c.args.worker c.args.block c.index_mut-list.result.now c.push_reserved.new.self c.index_mut-list.ensures.value (within d) c.push_reserved.ensures.items))
      (says_more c.self.inside.marked.items (map items c.self.inside.lists.items) c.args.worker c.args.block (subst (λ (n : ℕ). c.args.worker < n) (sym (length-map c.self.inside.lists.items items)) (within d)) (inside d) c.self.invariant.1),
)

pub returns-clause-lists : goal.returns-clause-lists
returns-clause-lists c = let d = (goal.at.returns-clause-lists c).After-index_mut-list in
    attempted_is c.args.self.now (length c.self.inside.marked.items) (map items c.self.inside.lists.items) _ c.args.worker c.args.block c.self.view_is
    (sym (c.self.invariant.1 c.args.block (inside d)) ∙ clear d)
    (lists_more items vec_len vec_capacity c.self.inside.lists.items c.args.worker c.args.block c.index_mut-list.result.now c.push_reserved.new.self c.index_mut-list.ensures.value (within d) c.push_reserved.ensures.items)

pub returns-then-index-clause-won : goal.returns-then-index-clause-won
returns-then-index-clause-won c = lost_where_set c.args.block c.index.result.now c.args.self.now.lists c.if-index.true
    (mark_says c.args.self.now c.self.inside.marked.items (map items c.self.inside.lists.items) c.args.block c.index.result.now c.self.view_is c.requires.block c.index.ensures c.self.invariant.1)

pub returns-clause-won : goal.returns-clause-won
returns-clause-won c = won_where_clear c.args.block c.index.result.now c.args.self.now.lists c.if-index.false
    (mark_says c.args.self.now c.self.inside.marked.items (map items c.self.inside.lists.items) c.args.block c.index.result.now c.self.view_is c.requires.block c.index.ensures c.self.invariant.1)
