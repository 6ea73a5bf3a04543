-- The course of marking grows by rounds.
use Rattle.std.proofs.Common.{◌≡◌, ℕ, zero, suc, ◌+◌, ◌<◌, ◌≤◌, List, [], ◌∷◌, ◌++◌, length, map, get_or, ◌⊎◌, replicate, refl, sym, ap, ◌∙◌, subst, inl, inr, ⊎_elim, arith}
use Rattle.std.specs.List.{concat, flat_map}
use Rattle.std.proofs.lemmas.List.{append-nil, length-append, length-map}
use Rattle.leak_marks.specs.Lists.{Has, Within}
use Rattle.leak_marks.specs.Seats.{Held}
use Rattle.leak_marks.specs.Rounds.{AreLed, appended_from}
use Rattle.leak_marks.proofs.ListLemmas.{here, there, has_front, has_back, of_append}
use Rattle.leak_pool.specs.Items.{InRange, share, targets_at, targets_of_block, targets_of_item}
use Rattle.leak_pool.specs.declared.target_source.Item.{Item}
use Rattle.leak_pool.specs.declared.target_source.Item.TheVariants.{Root, Block}
use Rattle.leak_pool.specs.Promises.{AreOwn, AreOfWorkers, IsScanned}
use Rattle.leak_pool.specs.Rounds.{IsStep}
use Rattle.leak_pool.specs.Course.{Round, IsShared, AreLater, AreRounds, AreTimely, claims_in, with_round, with_rounds}
use Rattle.leak_pool.specs.MarkingState.{HaveCome, AreOfOne, led_in}
use Rattle.leak_pool.proofs.HalfLemmas.{share_within}
use Rattle.leak_pool.proofs.ScanLemmas.{none_has}
use Rattle.leak_pool.proofs.GoingLemmas.{to_block, blocks_long}
use Rattle.leak_pool.proofs.EndLemmas.{part_of}

-- ---- whose claims they are

-- a worker's list, from other items that lead to the same
led_wider : (blocks : ℕ → List ℕ) (item more : ℕ → Type 0) → ((b : ℕ) → item b → more b) → (earlier claims : List ℕ) → AreLed blocks item earlier claims → AreLed blocks more earlier claims
led_wider blocks item more wider earlier [] led = tt
led_wider blocks item more wider earlier (b ∷ claims) led = (⊎_elim (λ i. inl (wider b i)) (λ s. inr s) led.0, led_wider blocks item more wider (b ∷ earlier) claims led.1)

module _ (T T' : ℕ → List ℕ) (n w : ℕ) (some : 0 < w) (same : (j : ℕ) → j < n → T j ≡ T' j) where
  own_same : (blocks : ℕ → List ℕ) (k : ℕ) (gained : List (List ℕ)) → k + length gained ≤ w → AreOwn blocks T n w k gained → AreOwn blocks T' n w k gained
  own_same blocks k [] few own = tt
  own_same blocks k (g ∷ gained) few own = (
    led_wider blocks (InRange T (share k n w) (share (k + 1) n w)) (InRange T' (share k n w) (share (k + 1) n w))
        (λ b r. let below : r.0 < share (k + 1) n w = r.2 in let within : share (k + 1) n w ≤ n = share_within (k + 1) n w some (omega arith) in
        (r.0, r.1, r.2, subst (λ (l : List ℕ). Has l b) (same r.0 (omega arith)) r.3)) [] g own.0,
    own_same blocks (k + 1) gained (omega arith) own.1,
  )

  workers_same : (blocks : ℕ → List ℕ) (stack : ℕ) (gained : List (List ℕ)) (left : List ℕ) → length gained ≤ w → AreOfWorkers blocks T stack n w 0 gained left → AreOfWorkers blocks T' stack n w 0 gained left
  workers_same blocks stack gained left few a = record {
    own = own_same blocks 0 gained (omega arith) a.own;
    full = a.full;
    direct = λ z. own_same (λ s. []) 0 gained (omega arith) (a.direct z);
    all_left = a.all_left;
  }

-- the claims of one scan are one list
pub one_of_scan : (item : ℕ → Type 0) (before list after longest : List ℕ) (gained : List (List ℕ)) → list ≡ [] → gained ≡ longest ∷ [] → IsScanned item [] before list after longest
    → (gained ≡ concat gained ∷ []) × ((b : ℕ) → Has (concat gained) b → item b)
one_of_scan item before list after longest gained empty one s = (
  one ∙ ap (λ (l : List ℕ). l ∷ []) (sym all),
  λ b h. ⊎_elim (λ old. none_has b (subst (λ (l : List ℕ). Has l b) empty old)) (λ new. new.0) (s.gains b (subst (λ (l : List ℕ). Has l b) all h)),
)
  where
    all : concat gained ≡ longest
    all = ap (λ (x : List (List ℕ)). concat x) one ∙ append-nil longest

-- ---- blocks and parts of the roots as items

block_targets : (roots targets : List (List ℕ)) (ws : List ℕ) (k : ℕ) → k < length ws → targets_at roots targets (map Block ws) k ≡ get_or (map (targets_of_block targets) ws) k []
block_targets roots targets [] k h = absurd (omega arith)
block_targets roots targets (x ∷ ws) zero h = refl
block_targets roots targets (x ∷ ws) (suc k) h = block_targets roots targets ws k (omega arith)

-- blocks that the workers share out
pub shared_blocks : (roots targets : List (List ℕ)) (w stack : ℕ) (ws : List ℕ) (items : List Item) (r : Round) → 0 < w → items ≡ map Block ws → length r.gained ≤ w → Within r.left (concat r.gained)
    → AreOfWorkers (targets_of_block targets) (targets_at roots targets items) stack (length items) w 0 r.gained r.left → IsShared (targets_of_block targets) w stack (map (targets_of_block targets) ws) r
shared_blocks roots targets w stack ws items r some items_are few of_gained own = record {
  few = few;
  own = subst (λ (n : ℕ). AreOfWorkers (targets_of_block targets) (λ k. get_or (map (targets_of_block targets) ws) k []) stack n w 0 r.gained r.left) (sym (length-map ws (targets_of_block targets)))
      (workers_same (targets_at roots targets (map Block ws)) (λ k. get_or (map (targets_of_block targets) ws) k []) (length ws) w some (block_targets roots targets ws) (targets_of_block targets) stack r.gained r.left few
      (subst (λ (n : ℕ). AreOfWorkers (targets_of_block targets) (targets_at roots targets (map Block ws)) stack n w 0 r.gained r.left) (length-map ws Block)
      (subst (λ (l : List Item). AreOfWorkers (targets_of_block targets) (targets_at roots targets l) stack (length l) w 0 r.gained r.left) items_are own)));
  of_gained = of_gained;
}

-- parts of the roots that the workers share out
pub shared_roots : (roots targets : List (List ℕ)) (w stack : ℕ) (items : List Item) (r : Round) → 0 < w → length items ≡ length roots → ((k : ℕ) → k < length roots → get_or items k (Root 0) ≡ Root k) → length r.gained ≤ w → Within r.left (concat r.gained)
    → AreOfWorkers (targets_of_block targets) (targets_at roots targets items) stack (length items) w 0 r.gained r.left → IsShared (targets_of_block targets) w stack roots r
shared_roots roots targets w stack items r some long at few of_gained own = record {
  few = few;
  own = workers_same (targets_at roots targets items) (λ k. get_or roots k []) (length roots) w some
      (λ j h. ap (λ (i : Item). targets_of_item roots targets i) (at j h)) (targets_of_block targets) stack r.gained r.left few
      (subst (λ (n : ℕ). AreOfWorkers (targets_of_block targets) (targets_at roots targets items) stack n w 0 r.gained r.left) long own);
  of_gained = of_gained;
}

-- ---- a round more

later_more : (blocks : ℕ → List ℕ) (w stack : ℕ) (waiting : List ℕ) (rounds : List Round) (x : ℕ) (ws : List ℕ) (r : Round) → AreLater blocks w stack waiting rounds (x ∷ ws) → Within r.caller (blocks x) → IsShared blocks w stack (map blocks ws) r
    → AreLater blocks w stack waiting (rounds ++ r ∷ []) (r.caller ++ r.left)
later_more blocks w stack waiting [] x ws r is of_first shared = subst (λ (l : List ℕ). AreLater blocks w stack l (r ∷ []) (r.caller ++ r.left)) (sym is) (of_first, shared, refl)
later_more blocks w stack [] (q ∷ rounds) x ws r later of_first shared = absurd later
later_more blocks w stack (y ∷ waiting) (q ∷ rounds) x ws r later of_first shared = (later.0, later.1, later_more blocks w stack (q.caller ++ q.left) rounds x ws r later.2 of_first shared)

rounds_more : (roots targets : List (List ℕ)) (w stack : ℕ) (rounds : List Round) (x : ℕ) (ws : List ℕ) (r : Round) → AreRounds roots targets w stack rounds (x ∷ ws) → Within r.caller (targets_of_block targets x) → IsShared (targets_of_block targets) w stack (map (targets_of_block targets) ws) r
    → AreRounds roots targets w stack (rounds ++ r ∷ []) (r.caller ++ r.left)
rounds_more roots targets w stack [] x ws r are of_first shared = absurd are
rounds_more roots targets w stack (q ∷ rounds) x ws r are of_first shared = (are.0, are.1, later_more (targets_of_block targets) w stack (q.caller ++ q.left) rounds x ws r are.2 of_first shared)

lists_more : (claims : List (List ℕ)) (rounds : List Round) (r : Round) → with_rounds claims (rounds ++ r ∷ []) ≡ with_round (with_rounds claims rounds) r
lists_more claims [] r = refl
lists_more claims (q ∷ rounds) r = lists_more (with_round claims q) rounds r

-- ---- what was led to before is not claimed now

claimed_more : (rounds : List Round) (r : Round) (b : ℕ) → Has (claims_in (rounds ++ r ∷ [])) b → Has (claims_in rounds) b ⊎ Has (r.caller ++ concat r.gained) b
claimed_more [] r b h = ⊎_elim (λ new. inr new) (λ n. none_has b n) (of_append (r.caller ++ concat r.gained) [] b h)
claimed_more (q ∷ rounds) r b h = ⊎_elim (λ old. inl (has_front (q.caller ++ concat q.gained) (claims_in rounds) b old))
    (λ rest. ⊎_elim (λ old. inl (has_back (q.caller ++ concat q.gained) (claims_in rounds) b old)) (λ new. inr new) (claimed_more rounds r b rest))
    (of_append (q.caller ++ concat q.gained) (claims_in (rounds ++ r ∷ [])) b h)

timely_more : (blocks : ℕ → List ℕ) (led : List ℕ) (rounds : List Round) (r : Round) → AreTimely blocks led rounds → ((b : ℕ) → Has (led_in blocks led rounds) b → Has (r.caller ++ concat r.gained) b → ⊥) → AreTimely blocks led (rounds ++ r ∷ [])
timely_more blocks led [] r timely apart = (λ b h n. none_has b n, tt)
timely_more blocks led (q ∷ rounds) r timely apart = (
  λ b h n. ⊎_elim (λ old. timely.0 b h old) (λ new. apart b (has_front led (led_in blocks (flat_map blocks (q.caller ++ q.left)) rounds) b h) new) (claimed_more rounds r b n),
  timely_more blocks (flat_map blocks (q.caller ++ q.left)) rounds r timely.1 (λ b h n. apart b (has_back led (led_in blocks (flat_map blocks (q.caller ++ q.left)) rounds) b h) n),
)

led_behind : (led old new end : List ℕ) (b : ℕ) → (Has new b → Has old b ⊎ Has end b) → Has (led ++ new) b → Has (led ++ old) b ⊎ Has end b
led_behind led old new end b rest h = ⊎_elim (λ f. inl (has_front led old b f)) (λ m. ⊎_elim (λ o. inl (has_back led old b o)) (λ e. inr e) (rest m)) (of_append led new b h)

led_later : (blocks : ℕ → List ℕ) (w stack : ℕ) (waiting : List ℕ) (rounds : List Round) (end : List ℕ) (r : Round) → AreLater blocks w stack waiting rounds end → (b : ℕ) → Has (led_in blocks (flat_map blocks waiting) (rounds ++ r ∷ [])) b
    → Has (led_in blocks (flat_map blocks waiting) rounds) b ⊎ Has (flat_map blocks end) b
led_later blocks w stack waiting [] end r is b h = ⊎_elim (λ new. inr (subst (λ (l : List ℕ). Has (flat_map blocks l) b) is new)) (λ n. none_has b n) (of_append (flat_map blocks waiting) [] b h)
led_later blocks w stack [] (q ∷ rounds) end r later b h = absurd later
led_later blocks w stack (y ∷ waiting) (q ∷ rounds) end r later b h =
    led_behind (flat_map blocks (y ∷ waiting)) (led_in blocks (flat_map blocks (q.caller ++ q.left)) rounds) (led_in blocks (flat_map blocks (q.caller ++ q.left)) (rounds ++ r ∷ [])) (flat_map blocks end) b
    (led_later blocks w stack (q.caller ++ q.left) rounds end r later.2 b) h

led_more : (roots targets : List (List ℕ)) (w stack : ℕ) (rounds : List Round) (end : List ℕ) (r : Round) (led : List ℕ) → AreRounds roots targets w stack rounds end → (b : ℕ) → Has (led_in (targets_of_block targets) led (rounds ++ r ∷ [])) b
    → Has (led_in (targets_of_block targets) led rounds) b ⊎ Has (flat_map (targets_of_block targets) end) b
led_more roots targets w stack [] end r led are b h = absurd are
led_more roots targets w stack (q ∷ rounds) end r led are b h =
    led_behind led (led_in (targets_of_block targets) (flat_map (targets_of_block targets) (q.caller ++ q.left)) rounds) (led_in (targets_of_block targets) (flat_map (targets_of_block targets) (q.caller ++ q.left)) (rounds ++ r ∷ [])) (flat_map (targets_of_block targets) end) b
    (led_later (targets_of_block targets) w stack (q.caller ++ q.left) rounds end r are.2 b) h

of_flat_map : (blocks : ℕ → List ℕ) (ws : List ℕ) (b : ℕ) → Has (flat_map blocks ws) b → (s : ℕ) × Has ws s × Has (blocks s) b
of_flat_map blocks [] b h = none_has b h
of_flat_map blocks (x ∷ ws) b h = ⊎_elim (λ f. (x, here x ws, f)) (λ m. let p : (s : ℕ) × Has ws s × Has (blocks s) b = of_flat_map blocks ws b m in (p.0, there x ws p.0 p.1, p.2)) (of_append (blocks x) (flat_map blocks ws) b h)

-- ---- the course

-- after the first round
pub course_first : (roots targets : List (List ℕ)) (w stack : ℕ) (claims longer : List (List ℕ)) (none more : List ℕ) (before after : Held) (gained : List (List ℕ)) (left : List ℕ) (items : List Item) → 0 < w → length items ≡ length roots
    → ((k : ℕ) → k < length roots → get_or items k (Root 0) ≡ Root k) → claims ≡ replicate w [] → none ≡ []
    → IsStep (targets_of_block targets) (InRange (targets_at roots targets items) 0 (length items)) w claims none before longer more after gained left
    → AreOfWorkers (targets_of_block targets) (targets_at roots targets items) stack (length items) w 0 gained left → HaveCome roots targets w stack 1 longer more after.seen
course_first roots targets w stack claims longer none more before after gained left items some long at unclaimed empty s own = (
  r ∷ [],
  refl,
  record {
    some = some;
    are = (refl, shared_roots roots targets w stack items r some long at s.few s.of_gained own, sym (s.waiting_are ∙ ap (λ (l : List ℕ). l ++ left) empty));
    timely = (λ b h n. none_has b n, tt);
    claims_are = s.claims_are ∙ ap (λ (l : List (List ℕ)). appended_from 0 l gained) (unclaimed ∙ sym (nothing_more (replicate w [])));
  },
  λ b h. ⊎_elim (λ f. let p = part_of roots targets b f in let n : p.0 < length roots = p.1 in
      s.kept.covers b (p.0, omega arith, omega arith, subst (λ (i : Item). Has (targets_of_item roots targets i) b) (sym (at p.0 p.1)) p.2)) (λ n. none_has b n) (of_append (concat roots) [] b h),
)
  where
    r : Round
    r = record { caller = []; gained = gained; left = left }

    nothing_more : (lists : List (List ℕ)) → appended_from 0 lists ([] ∷ []) ≡ lists
    nothing_more [] = refl
    nothing_more (l ∷ lists) = ap (λ (x : List ℕ). x ∷ lists) (append-nil l)

-- after a later round
module _ (roots targets : List (List ℕ)) (w stack n : ℕ) (x : ℕ) (ws : List ℕ) (c0 c1 c2 : List (List ℕ)) (m0 m1 m2 : List ℕ) (s0 s1 s2 : Held) (g1 g2 : List (List ℕ)) (l1 l2 : List ℕ) (items : List Item) where
  pub course_more : 0 < w → items ≡ map Block ws → m0 ≡ [] → (come : HaveCome roots targets w stack n c0 (x ∷ ws) s0.seen)
      → IsStep (targets_of_block targets) (Has (get_or targets x [])) w c0 m0 s0 c1 m1 s1 g1 l1 → AreOfOne (get_or targets x []) g1 l1
      → IsStep (targets_of_block targets) (InRange (targets_at roots targets items) 0 (length items)) w c1 m1 s1 c2 m2 s2 g2 l2
      → AreOfWorkers (targets_of_block targets) (targets_at roots targets items) stack (length items) w 0 g2 l2 → (next : HaveCome roots targets w stack (n + 1) c2 m2 s2.seen) × (q : Round) × (next.0 ≡ come.0 ++ q ∷ [])
  course_more some items_are empty come one alone two own = (
    (
      come.0 ++ r ∷ [],
      length-append come.0 (r ∷ []) ∙ ap (λ (k : ℕ). k + 1) come.1,
      record {
        some = some;
        are = subst (λ (l : List ℕ). AreRounds roots targets w stack (come.0 ++ r ∷ []) l) (sym (two.waiting_are ∙ ap (λ (l : List ℕ). l ++ l2) (one.waiting_are ∙ ap (λ (l : List ℕ). l ++ l1) empty)))
            (rounds_more roots targets w stack come.0 x ws r come.2.are alone.1 (shared_blocks roots targets w stack ws items r some items_are two.few two.of_gained own));
        timely = timely_more (targets_of_block targets) (concat roots) come.0 r come.2.timely
            (λ b old new. ⊎_elim (λ f. one.kept.fresh b (subst (λ (l : List (List ℕ)). Has (concat l) b) (sym alone.0) (has_front l1 [] b f)) (come.3 b old)) (λ g. two.kept.fresh b g (one.kept.keeps b (come.3 b old))) (of_append l1 (concat g2) b new));
        claims_are = two.claims_are ∙ ap (λ (l : List (List ℕ)). appended_from 0 l g2) (one.claims_are ∙ ap (λ (g : List (List ℕ)). appended_from 0 c0 g) alone.0)
            ∙ ap (λ (l : List (List ℕ)). with_round l r) come.2.claims_are ∙ sym (lists_more (replicate w []) come.0 r);
      },
      λ b h. ⊎_elim (λ old. two.kept.keeps b (one.kept.keeps b (come.3 b old))) (λ new. covered b new) (led_more roots targets w stack come.0 (x ∷ ws) r (concat roots) come.2.are b h),
    ),
    r,
    refl,
  )
    where
      r : Round
      r = record { caller = l1; gained = g2; left = l2 }

      covered : (b : ℕ) → Has (flat_map (targets_of_block targets) (x ∷ ws)) b → Has s2.seen b
      covered b h = ⊎_elim (λ f. two.kept.keeps b (one.kept.covers b f))
          (λ m. let p = of_flat_map (targets_of_block targets) ws b m in
          two.kept.covers b (subst (λ (l : List Item). InRange (targets_at roots targets l) 0 (length l) b) (sym items_are) (to_block roots targets ws p.0 b p.1 p.2 (blocks_long ws))))
          (of_append (targets_of_block targets x) (flat_map (targets_of_block targets) ws) b h)
