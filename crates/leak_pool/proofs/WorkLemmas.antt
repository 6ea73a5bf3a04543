-- A worker on the way through its share.
use Rattle.std.proofs.Common.{◌≡◌, ◌⊎◌, ℕ, ◌+◌, ◌-◌, ◌<◌, ◌≤◌, zero, suc, List, [], ◌∷◌, ◌++◌, length, map, flat_map, get_or, take, drop, refl, sym, ap, ◌∙◌, subst, inl, inr, ⊎_elim, arith, append_assoc}
use Rattle.std.specs.List.{All, concat, sum_by}
use Rattle.std.proofs.lemmas.List.{append-nil, length-append, length-drop, take-append-drop, get_or-take, get_or-drop, get_or-map}
use Rattle.std.proofs.lemmas.List.Elements.{All-get_or}
use Rattle.std.proofs.lemmas.List.Sums.{sum_by-cons}
use mathlib.Core.Logic.{dite}
use native.Mathlib.Decide.{dec_lt}
use Rattle.leak_marks.specs.Lists.{Has, IsDistinct}
use Rattle.leak_marks.specs.Seats.{Held, IsSound}
use Rattle.leak_marks.specs.Rounds.{AreLed, IsKept, IsKeptInRounds}
use Rattle.leak_marks.proofs.ListLemmas.{here, there, has_front, has_back, of_append, distinct_back}
use Rattle.leak_marks.proofs.ElementLemmas.{place_of}
use Rattle.leak_marks.proofs.StackLemmas.{kept_more, kept_nothing, led_from}
use Rattle.leak_pool.specs.Items.{InRange, IsItem, share, targets_at, targets_of_block, targets_of_item}
use Rattle.leak_pool.specs.declared.hand.Hand.{Hand}
use Rattle.leak_pool.specs.declared.target_source.Item.{Item}
use Rattle.leak_pool.specs.declared.target_source.Item.TheVariants.{Root, Block}
use Rattle.leak_pool.specs.Promises.{IsPutAway, IsWorking, IsByStack, IsDirect, IsHalf}
use Rattle.leak_pool.specs.SearchModel.{Work, blocks_of, items_of}
use Rattle.leak_pool.specs.Tops.{IsTopScanned, targets_of_blocks}
use Rattle.leak_pool.proofs.ScanLemmas.{none_has}
use Rattle.leak_pool.proofs.PartLemmas.{of_parts, has_part, part_has}
use Rattle.leak_pool.proofs.CountLemmas.{few_distinct}

-- before the first item
pub working_none : (blocks : ℕ → List ℕ) (item : ℕ → Type 0) (seat : Held) (list stack left : List ℕ) → ((b : ℕ) → item b → ⊥) → IsSound seat → list ≡ [] → stack ≡ [] → left ≡ []
    → IsWorking blocks item seat seat list stack left
working_none blocks item seat list stack left none sound list_is stack_is left_is = record {
  table = refl;
  share = refl;
  sound = sound;
  claims_are = sym (append-nil seat.claims) ∙ ap (λ (l : List ℕ). seat.claims ++ l) (sym list_is);
  of_list = λ b h. none_has b (subst (λ (l : List ℕ). Has l b) empty h);
  few = let len : List ℕ → ℕ = λ l. length l in let a : length stack ≡ 0 = ap len stack_is in let b : length left ≡ 0 = ap len left_is in omega arith;
  kept = subst (λ (l : List ℕ). IsKept blocks item seat.seen seat.seen (l ∷ []) (left ++ stack)) (sym list_is)
      (subst (λ (l : List ℕ). IsKept blocks item seat.seen seat.seen ([] ∷ []) l) (sym empty) (kept_nothing blocks item seat.seen none));
}
  where
    empty : left ++ stack ≡ []
    empty = ap (λ (l : List ℕ). l ++ stack) left_is ∙ stack_is

-- Something more was scanned: `gone` are the blocks that were scanned by it, which came from the stack.
module _ (blocks : ℕ → List ℕ) (item next whole : ℕ → Type 0) (before mid after : Held) (n : ℕ) (list stack gone top left more longer stack' left' : List ℕ) where
  working_more : ((b : ℕ) → item b → whole b) → ((b : ℕ) → whole b → item b ⊎ next b) → ((b : ℕ) → next b → whole b ⊎ ((s : ℕ) × Has list s × Has (blocks s) b))
      → ((s : ℕ) → Has gone s → (b : ℕ) → Has (blocks s) b → next b) → top ≡ stack ++ gone
      → IsWorking blocks item before mid list top left
      → after.table ≡ mid.table → after.share ≡ mid.share → IsSound after → after.claims ≡ mid.claims ++ more → IsKeptInRounds next mid.seen after.seen more
      → longer ≡ list ++ more → stack' ≡ stack ++ take n more → left' ≡ left ++ drop n more
      → IsWorking blocks whole before after longer stack' left'
  working_more wider all leads of_gone top_is w table share sound claims kept longer_is stack_is left_is = record {
    table = table ∙ w.table;
    share = share ∙ w.share;
    sound = sound;
    claims_are = claims ∙ ap (λ (l : List ℕ). l ++ more) w.claims_are ∙ append_assoc before.claims list more ∙ ap (λ (l : List ℕ). before.claims ++ l) (sym longer_is);
    of_list = λ b h. subst (λ (l : List ℕ). Has l b) (sym longer_is) (⊎_elim
        (λ l. ⊎_elim (λ old. has_front list more b (w.of_list b (has_front left top b old))) (λ new. has_back list more b (all_of_more b (inr new))) (of_append left (drop n more) b (subst (λ (x : List ℕ). Has x b) left_is l)))
        (λ s. ⊎_elim (λ old. has_front list more b (w.of_list b (has_back left top b (subst (λ (x : List ℕ). Has x b) (sym top_is) (has_front stack gone b old))))) (λ new. has_back list more b (all_of_more b (inl new)))
        (of_append stack (take n more) b (subst (λ (x : List ℕ). Has x b) stack_is s)))
        (of_append left' stack' b h));
    few = let len : List ℕ → ℕ = λ l. length l in
        let a : length left' ≡ length left + length (drop n more) = ap len left_is ∙ length-append left (drop n more) in
        let b : length stack' ≡ length stack + length (take n more) = ap len stack_is ∙ length-append stack (take n more) in
        let c : length (take n more) + length (drop n more) ≡ length more = sym (length-append (take n more) (drop n more)) ∙ ap len (take-append-drop n more) in
        let d : length longer ≡ length list + length more = ap len longer_is ∙ length-append list more in
        let e : length top ≡ length stack + length gone = ap len top_is ∙ length-append stack gone in
        let f = w.few in omega arith;
    kept = subst (λ (l : List ℕ). IsKept blocks whole before.seen after.seen (l ∷ []) (left' ++ stack')) (sym longer_is)
        (kept_more blocks item next whole before.seen mid.seen after.seen list more (left ++ top) (left' ++ stack') wider all leads w.kept kept
        (λ s h. ⊎_elim
        (λ l. inr (has_front left' stack' s (subst (λ (x : List ℕ). Has x s) (sym left_is) (has_front left (drop n more) s l))))
        (λ t. ⊎_elim (λ o. inr (has_back left' stack' s (subst (λ (x : List ℕ). Has x s) (sym stack_is) (has_front stack (take n more) s o)))) (λ g. inl (of_gone s g)) (of_append stack gone s (subst (λ (x : List ℕ). Has x s) top_is t)))
        (of_append left top s h))
        (λ b h. ⊎_elim (λ f. has_back left' stack' b (subst (λ (x : List ℕ). Has x b) (sym stack_is) (has_back stack (take n more) b f)))
        (λ l. has_front left' stack' b (subst (λ (x : List ℕ). Has x b) (sym left_is) (has_back left (drop n more) b l)))
        (of_append (take n more) (drop n more) b (subst (λ (x : List ℕ). Has x b) (sym (take-append-drop n more)) h))));
  }
    where
      all_of_more : (b : ℕ) → Has (take n more) b ⊎ Has (drop n more) b → Has more b
      all_of_more b h = subst (λ (x : List ℕ). Has x b) (take-append-drop n more) (⊎_elim (λ t. has_front (take n more) (drop n more) b t) (λ d. has_back (take n more) (drop n more) b d) h)

-- the next items of the share, from i up to j, which lead to what the list has
module _ (blocks targets : ℕ → List ℕ) (first i j : ℕ) (led : List ℕ) (low : first ≤ i) (up : i ≤ j) (of_items : (b : ℕ) → Has led b → InRange targets i j b) (all : (b : ℕ) → InRange targets i j b → Has led b) where
  pub working_items : (before mid after : Held) (n : ℕ) (list stack left more longer stack' left' : List ℕ)
      → IsWorking blocks (InRange targets first i) before mid list stack left
      → after.table ≡ mid.table → after.share ≡ mid.share → IsSound after → after.claims ≡ mid.claims ++ more → IsKeptInRounds (Has led) mid.seen after.seen more
      → longer ≡ list ++ more → stack' ≡ stack ++ take n more → left' ≡ left ++ drop n more
      → IsWorking blocks (InRange targets first j) before after longer stack' left'
  working_items before mid after n list stack left more longer stack' left' w =
      working_more blocks (InRange targets first i) (Has led) (InRange targets first j) before mid after n list stack [] stack left more longer stack' left'
      (λ b r. let below : r.0 < i = r.2 in (r.0, r.1, omega arith, r.3))
      (λ b r. let k : ℕ = r.0 in let from : first ≤ k = r.1 in let below : k < j = r.2 in
      dite (dec_lt k i) (λ lt. inl (k, from, lt, r.3)) (λ ge. inr (all b (k, omega arith, below, r.3))))
      (λ b h. let r = of_items b h in let from : i ≤ r.0 = r.1 in inl (r.0, omega arith, r.2, r.3))
      (λ s h. none_has s h) (sym (append-nil stack)) w

  pub direct_items : (limit : ℕ) (mid after : Held) (hand later : Hand) → limit ≡ 0 → IsDirect (InRange targets first i) hand.list.items hand.left.items
      → IsPutAway led limit mid after hand later → IsDirect (InRange targets first j) later.list.items later.left.items
  direct_items limit mid after hand later empty d p = record {
    all_left = p.left_is ∙ ap (λ (l : List ℕ). l ++ drop (limit - length hand.stack.items) p.more) d.all_left ∙ ap (λ (n : ℕ). hand.list.items ++ drop n p.more) none ∙ sym p.list_is;
    of_items = λ b h. ⊎_elim (λ old. let r = d.of_items b old in let below : r.0 < i = r.2 in (r.0, r.1, omega arith, r.3))
        (λ new. let r = of_items b (p.kept.gains b new) in let from : i ≤ r.0 = r.1 in (r.0, omega arith, r.2, r.3))
        (of_append hand.list.items p.more b (subst (λ (l : List ℕ). Has l b) p.list_is h));
  }
    where
      none : limit - length hand.stack.items ≡ 0
      none = let z = empty in omega arith

-- one item leads to what it leads to
of_one : (targets : ℕ → List ℕ) (i b : ℕ) → Has (targets i) b → InRange targets i (i + 1) b
of_one targets i b h = (i, omega arith, omega arith, h)

all_of_one : (targets : ℕ → List ℕ) (i b : ℕ) → InRange targets i (i + 1) b → Has (targets i) b
all_of_one targets i b r = let from : i ≤ r.0 = r.1 in let below : r.0 < i + 1 = r.2 in let is : r.0 ≡ i = omega arith in subst (λ (k : ℕ). Has (targets k) b) is r.3

-- blocks that are items from the one with the number on
module _ (roots targets : List (List ℕ)) (items : List Item) (blocks : List ℕ) (from : ℕ) (are : map Block blocks ≡ take (length blocks) (drop from items)) where
  item_is : (k : ℕ) → k < length blocks → get_or items (from + k) (Root 0) ≡ Block (get_or blocks k 0)
  item_is k below = sym (get_or-drop from items k (Root 0)) ∙ sym (get_or-take (length blocks) (drop from items) k (Root 0) below) ∙ ap (λ (l : List Item). get_or l k (Root 0)) (sym are)
      ∙ get_or-map Block blocks k 0 (Root 0) below

  pub several_inside : All (λ i. IsItem roots targets i) items → from + length blocks ≤ length items → (b : ℕ) → Has blocks b → b < length targets
  several_inside each within b h =
      let p = place_of blocks b h in let k : ℕ = p.0 in let below : k < length blocks = p.1 in
      subst (λ (x : ℕ). x < length targets) (p.2 0) (subst (λ (i : Item). IsItem roots targets i) (item_is k below) (All-get_or (λ i. IsItem roots targets i) items (from + k) (Root 0) (omega arith) each))

  pub of_several : (b : ℕ) → Has (targets_of_blocks targets blocks) b → InRange (targets_at roots targets items) from (from + length blocks) b
  of_several b h =
      let o = of_parts (targets_of_block targets) blocks b h in let p = place_of blocks o.0 o.1 in let k : ℕ = p.0 in let below : k < length blocks = p.1 in (
        from + k,
        omega arith,
        omega arith,
        subst (λ (i : Item). Has (targets_of_item roots targets i) b) (sym (item_is k below)) (subst (λ (s : ℕ). Has (targets_of_block targets s) b) (sym (p.2 0)) o.2),
      )

  pub all_of_several : (b : ℕ) → InRange (targets_at roots targets items) from (from + length blocks) b → Has (targets_of_blocks targets blocks) b
  all_of_several b r =
      let low : from ≤ r.0 = r.1 in let high : r.0 < from + length blocks = r.2 in let k : ℕ = r.0 - from in let below : k < length blocks = omega arith in let is : r.0 ≡ from + k = omega arith in
      part_has (targets_of_block targets) 0 blocks k b below
      (subst (λ (i : Item). Has (targets_of_item roots targets i) b) (item_is k below) (subst (λ (n : ℕ). Has (targets_at roots targets items n) b) is r.3))

-- the blocks on top of the stack
pub working_top : (blocks : ℕ → List ℕ) (item : ℕ → Type 0) (gone : List ℕ) (before mid after : Held) (n : ℕ) (list stack top left more longer stack' left' : List ℕ) → top ≡ stack ++ gone
    → IsWorking blocks item before mid list top left
    → after.table ≡ mid.table → after.share ≡ mid.share → IsSound after → after.claims ≡ mid.claims ++ more → IsKeptInRounds (Has (flat_map blocks gone)) mid.seen after.seen more
    → longer ≡ list ++ more → stack' ≡ stack ++ take n more → left' ≡ left ++ drop n more
    → IsWorking blocks item before after longer stack' left'
working_top blocks item gone before mid after n list stack top left more longer stack' left' top_is w =
    working_more blocks item (Has (flat_map blocks gone)) item before mid after n list stack gone top left more longer stack' left'
    (λ b h. h) (λ b h. inl h)
    (λ b h. let o = of_parts blocks gone b h in inr (o.0, w.of_list o.0 (has_back left top o.0 (subst (λ (l : List ℕ). Has l o.0) (sym top_is) (has_back stack gone o.0 o.1))), o.2))
    (λ s h b t. has_part blocks gone s b h t) top_is w

-- its claims are blocks
pub working_inside : (blocks : ℕ → List ℕ) (item : ℕ → Type 0) (count : ℕ) (before after : Held) (list stack left : List ℕ) → IsWorking blocks item before after list stack left
    → ((b : ℕ) → item b → b < count) → ((s b : ℕ) → Has (blocks s) b → b < count) → (b : ℕ) → Has list b → b < count
working_inside blocks item count before after list stack left w of_item of_block b h = led_from blocks item (λ x. x < count) of_item of_block [] list w.kept.led.0 b h

-- so there are no more of them than blocks
pub working_few : (blocks : ℕ → List ℕ) (item : ℕ → Type 0) (count : ℕ) (before after : Held) (list stack left : List ℕ) → IsWorking blocks item before after list stack left
    → ((b : ℕ) → item b → b < count) → ((s b : ℕ) → Has (blocks s) b → b < count) → length list ≤ count
working_few blocks item count before after list stack left w of_item of_block =
    few_distinct count list (distinct_back before.claims list (subst (λ (l : List ℕ). IsDistinct l) w.claims_are w.sound.distinct))
    (working_inside blocks item count before after list stack left w of_item of_block)

-- ---- by the promise of one scan

module _ (w : Work) (count : ℕ) (inside : (i : Item) (b : ℕ) → Has (targets_of_item w.model.roots w.model.targets i) b → b < count) (first next : ℕ) (before after : Held) (list stack left : List ℕ)
    (working : IsWorking (blocks_of w) (InRange (items_of w) first next) before after list stack left) where
  pub worker_inside : (b : ℕ) → Has list b → b < count
  worker_inside = working_inside (blocks_of w) (InRange (items_of w) first next) count before after list stack left working (λ b r. inside (get_or w.items r.0 (Root 0)) b r.3) (λ s b h. inside (Block s) b h)

  pub worker_few : length list ≤ count
  worker_few = working_few (blocks_of w) (InRange (items_of w) first next) count before after list stack left working (λ b r. inside (get_or w.items r.0 (Root 0)) b r.3) (λ s b h. inside (Block s) b h)

pub put_top : (w : Work) (limit first next : ℕ) (before mid after : Held) (hand later : Hand)
    → IsWorking (blocks_of w) (InRange (items_of w) first next) before mid hand.list.items hand.stack.items hand.left.items → after.table ≡ mid.table → after.share ≡ mid.share → IsSound after
    → IsTopScanned w.model.targets limit mid after hand later → IsWorking (blocks_of w) (InRange (items_of w) first next) before after later.list.items later.stack.items later.left.items
put_top w limit first next before mid after hand later working table share sound p =
    working_top (blocks_of w) (InRange (items_of w) first next) p.top before mid after (limit - length p.rest) hand.list.items p.rest hand.stack.items hand.left.items p.more
    later.list.items later.stack.items later.left.items p.stack_was working table share sound p.claims_are p.kept p.list_is p.stack_is p.left_is

module _ (w : Work) (limit first next until : ℕ) (led : List ℕ) (low : first ≤ next) (up : next ≤ until) (of_items : (b : ℕ) → Has led b → InRange (items_of w) next until b)
    (all : (b : ℕ) → InRange (items_of w) next until b → Has led b) (before mid after : Held) (hand later : Hand) where
  pub put_items : IsWorking (blocks_of w) (InRange (items_of w) first next) before mid hand.list.items hand.stack.items hand.left.items → after.table ≡ mid.table → after.share ≡ mid.share → IsSound after
      → IsPutAway led limit mid after hand later → IsWorking (blocks_of w) (InRange (items_of w) first until) before after later.list.items later.stack.items later.left.items
  put_items working table share sound p =
      working_items (blocks_of w) (items_of w) first next until led low up of_items all before mid after (limit - length hand.stack.items) hand.list.items hand.stack.items hand.left.items p.more
      later.list.items later.stack.items later.left.items working table share sound p.claims_are p.kept p.list_is p.stack_is p.left_is

pub put_item : (w : Work) (limit first next : ℕ) (before mid after : Held) (hand later : Hand) → first ≤ next
    → IsWorking (blocks_of w) (InRange (items_of w) first next) before mid hand.list.items hand.stack.items hand.left.items → after.table ≡ mid.table → after.share ≡ mid.share → IsSound after
    → IsPutAway (items_of w next) limit mid after hand later → IsWorking (blocks_of w) (InRange (items_of w) first (next + 1)) before after later.list.items later.stack.items later.left.items
put_item w limit first next before mid after hand later low =
    put_items w limit first next (next + 1) (items_of w next) low (omega arith) (of_one (items_of w) next) (all_of_one (items_of w) next) before mid after hand later

take_short : (n : ℕ) (xs : List ℕ) → length (take n xs) ≤ n
take_short zero xs = omega arith
take_short (suc n) [] = omega arith
take_short (suc n) (x ∷ xs) = let r = take_short n xs in omega arith

-- the stack has no more entries than it may have
pub put_few : (targets : List ℕ) (limit : ℕ) (mid after : Held) (hand later : Hand) → length hand.stack.items ≤ limit → IsPutAway targets limit mid after hand later → length later.stack.items ≤ limit
put_few targets limit mid after hand later few p =
    let n : ℕ = limit - length hand.stack.items in
    let a : length later.stack.items ≡ length hand.stack.items + length (take n p.more) = ap (λ (l : List ℕ). length l) p.stack_is ∙ length-append hand.stack.items (take n p.more) in
    let b = take_short n p.more in omega arith

-- no more blocks come to the stack than to the list
pub put_grown : (targets : List ℕ) (limit : ℕ) (mid after : Held) (hand later : Hand) → IsPutAway targets limit mid after hand later → length later.stack.items + length hand.list.items ≤ length hand.stack.items + length later.list.items
put_grown targets limit mid after hand later p =
    let len : List ℕ → ℕ = λ l. length l in
    let n : ℕ = limit - length hand.stack.items in
    let a : length later.stack.items ≡ length hand.stack.items + length (take n p.more) = ap len p.stack_is ∙ length-append hand.stack.items (take n p.more) in
    let b : length later.list.items ≡ length hand.list.items + length p.more = ap len p.list_is ∙ length-append hand.list.items p.more in
    let c : length (take n p.more) + length (drop n p.more) ≡ length p.more = sym (length-append (take n p.more) (drop n p.more)) ∙ ap len (take-append-drop n p.more) in omega arith

-- the list does not become shorter
pub put_longer : (targets : List ℕ) (limit : ℕ) (mid after : Held) (hand later : Hand) → IsPutAway targets limit mid after hand later → length hand.list.items ≤ length later.list.items
put_longer targets limit mid after hand later p =
    let b : length later.list.items ≡ length hand.list.items + length p.more = ap (λ (l : List ℕ). length l) p.list_is ∙ length-append hand.list.items p.more in omega arith

-- a block is left only while the stack is full
pub put_full : (targets : List ℕ) (limit : ℕ) (mid after : Held) (hand later : Hand) → length hand.left.items + length hand.stack.items ≤ length hand.list.items → length hand.stack.items ≤ limit
    → length hand.left.items ≤ length hand.list.items - limit → IsPutAway targets limit mid after hand later → length later.left.items ≤ length later.list.items - limit
put_full targets limit mid after hand later held few full p =
    let len : List ℕ → ℕ = λ l. length l in
    let n : ℕ = limit - length hand.stack.items in
    let a : length later.left.items ≡ length hand.left.items + length (drop n p.more) = ap len p.left_is ∙ length-append hand.left.items (drop n p.more) in
    let b : length later.list.items ≡ length hand.list.items + length p.more = ap len p.list_is ∙ length-append hand.list.items p.more in
    let c : length (drop n p.more) ≡ length p.more - n = length-drop n p.more in omega arith

-- the same of the blocks on top of the stack

module _ (targets : List (List ℕ)) (limit : ℕ) (mid after : Held) (hand later : Hand) (p : IsTopScanned targets limit mid after hand later) where
  was : length hand.stack.items ≡ length p.rest + length p.top
  was = ap (λ (l : List ℕ). length l) p.stack_was ∙ length-append p.rest p.top

  stack_long : length later.stack.items ≡ length p.rest + length (take (limit - length p.rest) p.more)
  stack_long = ap (λ (l : List ℕ). length l) p.stack_is ∙ length-append p.rest (take (limit - length p.rest) p.more)

  list_long : length later.list.items ≡ length hand.list.items + length p.more
  list_long = ap (λ (l : List ℕ). length l) p.list_is ∙ length-append hand.list.items p.more

  pub top_few : length hand.stack.items ≤ limit → length later.stack.items ≤ limit
  top_few few = let a = stack_long in let w = was in let b = take_short (limit - length p.rest) p.more in omega arith

  -- fewer blocks come to the stack than to the list, since some are gone
  pub top_grown : length later.stack.items + length hand.list.items < length hand.stack.items + length later.list.items
  top_grown =
      let n : ℕ = limit - length p.rest in
      let t : length (take n p.more) + length (drop n p.more) ≡ length p.more =
      sym (length-append (take n p.more) (drop n p.more)) ∙ ap (λ (l : List ℕ). length l) (take-append-drop n p.more) in
      let a = stack_long in let w = was in let l = list_long in let s = p.some in omega arith

  pub top_longer : length hand.list.items ≤ length later.list.items
  top_longer = let l = list_long in omega arith

  pub top_full : length hand.left.items + length hand.stack.items ≤ length hand.list.items → length hand.stack.items ≤ limit
      → length hand.left.items ≤ length hand.list.items - limit → length later.left.items ≤ length later.list.items - limit
  top_full held few full =
      let n : ℕ = limit - length p.rest in
      let a : length later.left.items ≡ length hand.left.items + length (drop n p.more) = ap (λ (l : List ℕ). length l) p.left_is ∙ length-append hand.left.items (drop n p.more) in
      let w = was in let l = list_long in
      let c : length (drop n p.more) ≡ length p.more - n = length-drop n p.more in omega arith

-- ---- if the stack holds no entry

pub direct_none : (item : ℕ → Type 0) (list left : List ℕ) → list ≡ [] → left ≡ [] → IsDirect item list left
direct_none item list left list_is left_is = record { all_left = left_is ∙ sym list_is; of_items = λ b h. none_has b (subst (λ (l : List ℕ). Has l b) list_is h) }

pub direct_item : (targets : ℕ → List ℕ) (first i limit : ℕ) (mid after : Held) (hand later : Hand) → first ≤ i → limit ≡ 0 → IsDirect (InRange targets first i) hand.list.items hand.left.items
    → IsPutAway (targets i) limit mid after hand later → IsDirect (InRange targets first (i + 1)) later.list.items later.left.items
direct_item targets first i limit mid after hand later low =
    direct_items (λ s. []) targets first i (i + 1) (targets i) low (omega arith) (of_one targets i) (all_of_one targets i) limit mid after hand later

-- ---- what is left, by what the stack holds

pub by_stack_none : (stack : ℕ) (item : ℕ → Type 0) (list left : List ℕ) → list ≡ [] → left ≡ [] → IsByStack stack item list left
by_stack_none stack item list left list_is left_is = record {
  full = let z : length left ≡ 0 = ap (λ (l : List ℕ). length l) left_is in omega arith;
  direct = λ z. direct_none item list left list_is left_is;
}

-- claims of items alone
led_direct : (blocks : ℕ → List ℕ) (item : ℕ → Type 0) (earlier list : List ℕ) → ((b : ℕ) → Has list b → item b) → AreLed blocks item earlier list
led_direct blocks item earlier [] all = tt
led_direct blocks item earlier (b ∷ list) all = (inl (all b (here b list)), led_direct blocks item (b ∷ earlier) list (λ x h. all x (there b list x h)))

-- at the end of its share
pub half_of_one : (blocks targets : ℕ → List ℕ) (stack items workers k : ℕ) (before after : Held) (list left : List ℕ) (gained : List (List ℕ)) (rest : List ℕ)
    → IsWorking blocks (InRange targets (share k items workers) (share (k + 1) items workers)) before after list [] left → IsByStack stack (InRange targets (share k items workers) (share (k + 1) items workers)) list left → gained ≡ list ∷ [] → rest ≡ left
    → IsHalf blocks targets stack items workers k (k + 1) before after gained rest
half_of_one blocks targets stack items workers k before after list left gained rest w by one rest_is =
    subst (λ (l : List (List ℕ)). IsHalf blocks targets stack items workers k (k + 1) before after l rest) (sym one)
    (subst (λ (l : List ℕ). IsHalf blocks targets stack items workers k (k + 1) before after (list ∷ []) l) (sym rest_is) (record {
      count = refl;
      listed = w.claims_are ∙ ap (λ (l : List ℕ). before.claims ++ l) (sym whole);
      of_gained = λ b h. subst (λ (l : List ℕ). Has l b) (sym whole) (w.of_list b (has_front left [] b h));
      few = let f = w.few in let e : length (concat (list ∷ [])) ≡ length list = ap (λ (l : List ℕ). length l) whole in omega arith;
      own = record {
        own = (w.kept.led.0, tt);
        full = let above : List ℕ → ℕ = λ l. length l - stack in
            let s : sum_by above (list ∷ []) ≡ (length list - stack) + sum_by above [] = sum_by-cons above list [] in let f = by.full in omega arith;
        direct = λ z. (led_direct (λ s. []) (InRange targets (share k items workers) (share (k + 1) items workers)) [] list (by.direct z).of_items, tt);
        all_left = λ z. (by.direct z).all_left ∙ sym whole;
      };
      kept = subst (λ (l : List ℕ). IsKept blocks (InRange targets (share k items workers) (share (k + 1) items workers)) before.seen after.seen (list ∷ []) l) (append-nil left) w.kept;
    }))
  where
    whole : concat (list ∷ []) ≡ list
    whole = append-nil list
