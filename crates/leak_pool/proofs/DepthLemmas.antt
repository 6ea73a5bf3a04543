-- With stacks of no entry the blocks claimed in a round end shortest chains of one length.
use Rattle.std.proofs.Common.{◌≡◌, ◌⊎◌, ℕ, zero, suc, ◌+◌, ◌<◌, ◌≤◌, List, [], ◌∷◌, ◌++◌, length, map, get_or, replicate, refl, sym, ap, ◌∙◌, subst, inl, inr, ⊎_elim, arith}
use Rattle.std.specs.List.{concat, flat_map}
use Rattle.std.proofs.lemmas.List.{append-nil, length-replicate}
use mathlib.Core.Logic.{dite}
use native.Mathlib.Decide.{dec_lt}
use Rattle.leak_marks.specs.Lists.{times, Has}
use Rattle.leak_marks.specs.Reach.{Graph, Reach, IsChain, targets_of}
use Rattle.leak_marks.specs.Partition.{Partitions}
use Rattle.leak_marks.specs.Rounds.{appended_from}
use Rattle.leak_marks.proofs.ListLemmas.{here, there, at_head, has_front, has_back, of_append, has_or_not, has_concat, times-append}
use Rattle.leak_marks.proofs.RoundLemmas.{times_appended, length_appended}
use Rattle.leak_marks.proofs.RunLemmas.{nothing_held}
use Rattle.leak_marks.proofs.StackLemmas.{led_from}
use Rattle.leak_pool.specs.Items.{InRange, share, targets_of_block}
use Rattle.leak_pool.specs.Promises.{AreOwn}
use Rattle.leak_pool.specs.Rounds.{graph_over}
use Rattle.leak_pool.specs.Course.{Round, IsShared, AreLater, AreTimely, IsCourse, HaveLed, claims_in, with_round, with_rounds}
use Rattle.leak_pool.specs.Depth.{IsDepth, AreByDepth}
use Rattle.leak_pool.proofs.ScanLemmas.{none_has}

-- ---- whose targets the claims of a round are

own_led : (T : ℕ → List ℕ) (n w k : ℕ) (gained : List (List ℕ)) → AreOwn (λ s. []) T n w k gained → (b : ℕ) → Has (concat gained) b → (j : ℕ) × Has (T j) b
own_led T n w k [] own b h = none_has b h
own_led T n w k (g ∷ gained) own b h = ⊎_elim
    (λ f. led_from (λ s. []) (InRange T (share k n w) (share (k + 1) n w)) (λ x. (j : ℕ) × Has (T j) x) (λ x r. (r.0, r.3)) (λ s x t. none_has x t) [] g own.0 b f)
    (λ m. own_led T n w (k + 1) gained own.1 b m)
    (of_append g (concat gained) b h)

of_map : (blocks : ℕ → List ℕ) (ws : List ℕ) (j b : ℕ) → Has (get_or (map blocks ws) j []) b → (s : ℕ) × Has ws s × Has (blocks s) b
of_map blocks [] zero b h = none_has b h
of_map blocks [] (suc j) b h = none_has b h
of_map blocks (x ∷ ws) zero b h = (x, here x ws, h)
of_map blocks (x ∷ ws) (suc j) b h = let p : (s : ℕ) × Has ws s × Has (blocks s) b = of_map blocks ws j b h in (p.0, there x ws p.0 p.1, p.2)

to_flat_map : (blocks : ℕ → List ℕ) (ws : List ℕ) (s b : ℕ) → Has ws s → Has (blocks s) b → Has (flat_map blocks ws) b
to_flat_map blocks [] s b h t = none_has s h
to_flat_map blocks (x ∷ ws) s b h t = ⊎_elim (λ e. has_front (blocks x) (flat_map blocks ws) b (subst (λ (y : ℕ). Has (blocks y) b) (sym e) t))
    (λ r. has_back (blocks x) (flat_map blocks ws) b (to_flat_map blocks ws s b r t)) (at_head x ws s h)

-- what waits after a round
waits : (blocks : ℕ → List ℕ) (w : ℕ) (items : List (List ℕ)) (r : Round) → IsShared blocks w 0 items r → r.caller ++ r.left ≡ r.caller ++ concat r.gained
waits blocks w items r s = ap (λ (l : List ℕ). r.caller ++ l) (s.own.all_left refl)

-- a later round
led_by_waiting : (blocks : ℕ → List ℕ) (w x : ℕ) (ws : List ℕ) (r : Round) → ((b : ℕ) → Has r.caller b → Has (blocks x) b) → IsShared blocks w 0 (map blocks ws) r → (b : ℕ) → Has (r.caller ++ concat r.gained) b → (s : ℕ) × Has (x ∷ ws) s × Has (blocks s) b
led_by_waiting blocks w x ws r of_first s b h = ⊎_elim (λ f. (x, here x ws, of_first b f))
    (λ g. let j : (j : ℕ) × Has (get_or (map blocks ws) j []) b = own_led (λ k. get_or (map blocks ws) k []) (length (map blocks ws)) w 0 r.gained (s.own.direct refl) b g in
    let p : (s : ℕ) × Has ws s × Has (blocks s) b = of_map blocks ws j.0 b j.1 in (p.0, there x ws p.0 p.1, p.2))
    (of_append r.caller (concat r.gained) b h)

-- ---- the lengths of chains

-- a chain of at most so many blocks ends there
abbrev Ends : Graph → ℕ → ℕ → Type 0
Ends g d b = (before : List ℕ) × IsChain g (b ∷ before) × (length (b ∷ before) ≤ d)

-- no chain of fewer blocks ends there
abbrev IsFar : Graph → ℕ → ℕ → Type 0
IsFar g d b = (before : List ℕ) → IsChain g (b ∷ before) → d ≤ length (b ∷ before)

-- Between two rounds: what ends a chain of so many blocks is not claimed later; what is claimed waits, or leads to nothing
-- that is claimed later; and what waits ends no shorter chain.
record Between (g : Graph) (d : ℕ) (waiting : List ℕ) (rounds : List Round) : Type 0 where
  some : 1 ≤ d
  short : (b : ℕ) → Ends g d b → ¬ Has (claims_in rounds) b
  done : (s : ℕ) → Reach g s → ¬ Has (claims_in rounds) s → Has waiting s ⊎ ((b : ℕ) → Has (targets_of g s) b → ¬ Has (claims_in rounds) b)
  far : (b : ℕ) → Has waiting b → IsFar g d b
  all : (b : ℕ) → Has waiting b ⊎ Has (claims_in rounds) b → Reach g b

module _ (g : Graph) (w : ℕ) where
  not_given : (b : ℕ) → Reach g b → ¬ Has g.given b
  not_given b reach = of_chain reach.0 reach.1
    where
      of_chain : (before : List ℕ) → IsChain g (b ∷ before) → ¬ Has g.given b
      of_chain [] c = c.0
      of_chain (s ∷ before) c = c.0

  ends_more : (d s b : ℕ) → Ends g d s → ¬ Has g.given b → Has (targets_of g s) b → Ends g (d + 1) b
  ends_more d s b e out t = let before : List ℕ = e.0 in let l : length (s ∷ before) ≤ d = e.2 in (s ∷ before, (out, t, e.1), omega arith)

  -- no chain is longer than the rounds are many
  few_blocks : (waiting : List ℕ) (rounds : List Round) (d m : ℕ) → m + 1 ≡ d + length rounds → AreLater (targets_of g) w 0 waiting rounds [] → ((b : ℕ) → Has (claims_in rounds) b → Reach g b)
      → ((b : ℕ) → Has waiting b → Ends g d b) → (b : ℕ) → Has waiting b ⊎ Has (claims_in rounds) b → Ends g m b
  few_blocks waiting [] d m is later all ends b h = ⊎_elim (λ v. none_has b (subst (λ (l : List ℕ). Has l b) later v)) (λ n. none_has b n) h
  few_blocks [] (r ∷ rounds) d m is later all ends b h = absurd later
  few_blocks (x ∷ ws) (r ∷ rounds) d m is later all ends b h = ⊎_elim
      (λ v. let e : Ends g d b = ends b v in let l : length (b ∷ e.0) ≤ d = e.2 in (e.0, e.1, omega arith))
      (λ c. few_blocks (r.caller ++ r.left) rounds (d + 1) m (omega arith) later.2 (λ y n. all y (has_back (r.caller ++ concat r.gained) (claims_in rounds) y n))
      (λ y v. let claim : Has (r.caller ++ concat r.gained) y = subst (λ (l : List ℕ). Has l y) (waits (targets_of g) w (map (targets_of g) ws) r later.1) v in
      let s : (s : ℕ) × Has (x ∷ ws) s × Has (targets_of g s) y = led_by_waiting (targets_of g) w x ws r later.0 later.1 y claim in
      ends_more d s.0 y (ends s.0 s.1) (not_given y (all y (has_front (r.caller ++ concat r.gained) (claims_in rounds) y claim))) s.2)
      b (⊎_elim (λ f. inl (subst (λ (l : List ℕ). Has l b) (sym (waits (targets_of g) w (map (targets_of g) ws) r later.1)) f)) (λ m. inr m) (of_append (r.caller ++ concat r.gained) (claims_in rounds) b c)))
      h

  between_more : (d x : ℕ) (ws : List ℕ) (r : Round) (rounds : List Round) → Between g d (x ∷ ws) (r ∷ rounds) → IsShared (targets_of g) w 0 (map (targets_of g) ws) r
      → ((b : ℕ) → Has (flat_map (targets_of g) (x ∷ ws)) b → ¬ Has (claims_in rounds) b) → Between g (d + 1) (r.caller ++ r.left) rounds
  between_more d x ws r rounds i s timely = record {
    some = omega arith;
    short = λ b e n. not_short b e.0 e.1 e.2 n;
    done = λ s reach not. ⊎_elim (λ c. inl (subst (λ (l : List ℕ). Has l s) (sym is) c)) (λ no. inr (λ b t n. after s reach (λ h. ⊎_elim (λ c. no c) (λ m. not m) (of_append (r.caller ++ concat r.gained) (claims_in rounds) s h)) b t n))
        (has_or_not (r.caller ++ concat r.gained) s);
    far = λ b v before c. dite (dec_lt d (length (b ∷ before))) (λ lt. omega arith) (λ ge. absurd (i.short b (before, c, omega arith) (now b v)));
    all = λ b h. ⊎_elim (λ v. i.all b (inr (now b v))) (λ n. i.all b (inr (later b n))) h;
  }
    where
      is : r.caller ++ r.left ≡ r.caller ++ concat r.gained
      is = waits (targets_of g) w (map (targets_of g) ws) r s

      now : (b : ℕ) → Has (r.caller ++ r.left) b → Has (claims_in (r ∷ rounds)) b
      now b v = has_front (r.caller ++ concat r.gained) (claims_in rounds) b (subst (λ (l : List ℕ). Has l b) is v)

      later : (b : ℕ) → Has (claims_in rounds) b → Has (claims_in (r ∷ rounds)) b
      later b n = has_back (r.caller ++ concat r.gained) (claims_in rounds) b n

      after : (s : ℕ) → Reach g s → ¬ Has (claims_in (r ∷ rounds)) s → (b : ℕ) → Has (targets_of g s) b → ¬ Has (claims_in rounds) b
      after s reach not b t n = ⊎_elim (λ v. timely b (to_flat_map (targets_of g) (x ∷ ws) s b v t) n) (λ k. k b t (later b n)) (i.done s reach not)

      not_short : (b : ℕ) (before : List ℕ) → IsChain g (b ∷ before) → length (b ∷ before) ≤ d + 1 → ¬ Has (claims_in rounds) b
      not_short b [] c le n = i.short b ([], c, let o = i.some in omega arith) (later b n)
      not_short b (s ∷ before) c le n = after s (before, c.2) (i.short s (before, c.2, omega arith)) b c.1 n

  -- one is as long as the rounds are many
  many_blocks : (waiting : List ℕ) (rounds : List Round) (d m : ℕ) → m + 1 ≡ d + length rounds → AreLater (targets_of g) w 0 waiting rounds [] → AreTimely (targets_of g) (flat_map (targets_of g) waiting) rounds
      → Between g d waiting rounds → (length rounds ≡ 0) ⊎ ((b : ℕ) × Reach g b × IsFar g m b)
  many_blocks waiting [] d m is later timely i = inl refl
  many_blocks [] (r ∷ rounds) d m is later timely i = absurd later
  many_blocks (x ∷ ws) (r ∷ rounds) d m is later timely i = inr (⊎_elim
      (λ last. (x, i.all x (inl (here x ws)), λ before c. let f : d ≤ length (x ∷ before) = i.far x (here x ws) before c in omega arith))
      (λ f. f)
      (many_blocks (r.caller ++ r.left) rounds (d + 1) m (omega arith) later.2 timely.1 (between_more d x ws r rounds i later.1 timely.0)))

-- ---- how often a block is claimed

module _ (b : ℕ) (w : ℕ) (some : 0 < w) where
  times_round : (claims : List (List ℕ)) (r : Round) → length r.gained ≤ w → length claims ≡ w → times b (concat (with_round claims r)) ≡ times b (concat claims) + times b (r.caller ++ concat r.gained)
  times_round claims r few long =
      let l : length (appended_from 0 claims (r.caller ∷ [])) ≡ length claims = length_appended 0 claims (r.caller ∷ []) in
      let one : times b (concat (appended_from 0 claims (r.caller ∷ []))) ≡ times b (concat claims) + times b (concat (r.caller ∷ [])) = times_appended b 0 claims (r.caller ∷ []) (let s = some in omega arith) in
      let two : times b (concat (with_round claims r)) ≡ times b (concat (appended_from 0 claims (r.caller ∷ []))) + times b (concat r.gained) = times_appended b 0 (appended_from 0 claims (r.caller ∷ [])) r.gained (omega arith) in
      let all : times b (r.caller ++ concat r.gained) ≡ times b r.caller + times b (concat r.gained) = times-append b r.caller (concat r.gained) in
      let alone : times b (concat (r.caller ∷ [])) ≡ times b r.caller = ap (λ (l : List ℕ). times b l) (append-nil r.caller) in omega arith

  long_round : (claims : List (List ℕ)) (r : Round) → length (with_round claims r) ≡ length claims
  long_round claims r = length_appended 0 (appended_from 0 claims (r.caller ∷ [])) r.gained ∙ length_appended 0 claims (r.caller ∷ [])

  times_later : (blocks : ℕ → List ℕ) (stack : ℕ) (waiting : List ℕ) (rounds : List Round) (claims : List (List ℕ)) → AreLater blocks w stack waiting rounds [] → length claims ≡ w
      → times b (concat (with_rounds claims rounds)) ≡ times b (concat claims) + times b (claims_in rounds)
  times_later blocks stack waiting [] claims later long =
      let z : times b (claims_in []) ≡ 0 = refl in let same : times b (concat (with_rounds claims [])) ≡ times b (concat claims) = refl in omega arith
  times_later blocks stack [] (r ∷ rounds) claims later long = absurd later
  times_later blocks stack (x ∷ ws) (r ∷ rounds) claims later long =
      let rest : times b (concat (with_rounds claims (r ∷ rounds))) ≡ times b (concat (with_round claims r)) + times b (claims_in rounds) =
      times_later blocks stack (r.caller ++ r.left) rounds (with_round claims r) later.2 (long_round claims r ∙ long) in
      let one : times b (concat (with_round claims r)) ≡ times b (concat claims) + times b (r.caller ++ concat r.gained) = times_round claims r later.1.few long in
      let all : times b (claims_in (r ∷ rounds)) ≡ times b (r.caller ++ concat r.gained) + times b (claims_in rounds) = times-append b (r.caller ++ concat r.gained) (claims_in rounds) in omega arith

  pub times_course : (roots targets : List (List ℕ)) (stack : ℕ) (claims : List (List ℕ)) (rounds : List Round) → IsCourse roots targets w stack claims [] rounds → times b (concat claims) ≡ times b (claims_in rounds)
  times_course roots targets stack claims [] c = absurd c.are
  times_course roots targets stack claims (r ∷ rounds) c =
      let none_at_first : List (List ℕ) = replicate w [] in
      let l : length none_at_first ≡ w = length-replicate {A = List ℕ} w [] in
      let none : times b (concat none_at_first) ≡ 0 = ap (λ (l : List ℕ). times b l) (nothing_held w) in
      let one : times b (concat (with_round none_at_first r)) ≡ times b (concat none_at_first) + times b (r.caller ++ concat r.gained) = times_round none_at_first r c.are.1.few l in
      let rest : times b (concat (with_rounds none_at_first (r ∷ rounds))) ≡ times b (concat (with_round none_at_first r)) + times b (claims_in rounds) =
      times_later (targets_of_block targets) stack (r.caller ++ r.left) rounds (with_round none_at_first r) c.are.2 (long_round none_at_first r ∙ l) in
      let all : times b (claims_in (r ∷ rounds)) ≡ times b (r.caller ++ concat r.gained) + times b (claims_in rounds) = times-append b (r.caller ++ concat r.gained) (claims_in rounds) in
      let whole : times b (concat claims) ≡ times b (concat (with_rounds none_at_first (r ∷ rounds))) = ap (λ (x : List (List ℕ)). times b (concat x)) c.claims_are in omega arith

-- ---- the law

depth_of_rounds : (roots targets : List (List ℕ)) (given : List ℕ) (w : ℕ) (claims : List (List ℕ)) (r : Round) (rounds : List Round) → IsCourse roots targets w 0 claims [] (r ∷ rounds) → Partitions claims (Reach (graph_over roots targets given))
    → IsDepth (graph_over roots targets given) (length rounds)
depth_of_rounds roots targets given w claims r rounds c part = record {
  at_most = λ b reach. few_blocks g w (r.caller ++ r.left) rounds 1 (length rounds) (omega arith) later (λ y n. reached y (has_back (r.caller ++ concat r.gained) (claims_in rounds) y n))
      (λ y v. ([], (not_given g w y (reached y (now y v)), first y v), omega arith)) b (split b (every b reach));
  least = many_blocks g w (r.caller ++ r.left) rounds 1 (length rounds) (omega arith) later c.timely.1 (record {
    some = omega arith;
    short = λ b e n. not_short b e.0 e.1 e.2 n;
    done = λ s reach not. ⊎_elim (λ v. inl v) (λ n. absurd (not n)) (split s (every s reach));
    far = λ b v before chain. omega arith;
    all = λ b h. ⊎_elim (λ v. reached b (now b v)) (λ n. reached b (has_back (r.caller ++ concat r.gained) (claims_in rounds) b n)) h;
  });
}
  where
    g : Graph
    g = graph_over roots targets given

    later : AreLater (targets_of_block targets) w 0 (r.caller ++ r.left) rounds []
    later = c.are.2

    is : r.caller ++ r.left ≡ r.caller ++ concat r.gained
    is = waits (targets_of_block targets) w roots r c.are.1

    counts : (b : ℕ) → times b (concat claims) ≡ times b (claims_in (r ∷ rounds))
    counts b = times_course b w c.some roots targets 0 claims (r ∷ rounds) c

    reached : (b : ℕ) → Has (claims_in (r ∷ rounds)) b → Reach g b
    reached b h = part.only b (let t = counts b in let o : 0 < times b (claims_in (r ∷ rounds)) = h in let z : 0 < times b (concat claims) = omega arith in z)

    every : (b : ℕ) → Reach g b → Has (claims_in (r ∷ rounds)) b
    every b reach = let t = counts b in let o : times b (concat claims) ≡ 1 = part.once b reach in let z : 0 < times b (claims_in (r ∷ rounds)) = omega arith in z

    now : (b : ℕ) → Has (r.caller ++ r.left) b → Has (claims_in (r ∷ rounds)) b
    now b v = has_front (r.caller ++ concat r.gained) (claims_in rounds) b (subst (λ (l : List ℕ). Has l b) is v)

    split : (b : ℕ) → Has (claims_in (r ∷ rounds)) b → Has (r.caller ++ r.left) b ⊎ Has (claims_in rounds) b
    split b h = ⊎_elim (λ f. inl (subst (λ (l : List ℕ). Has l b) (sym is) f)) (λ n. inr n) (of_append (r.caller ++ concat r.gained) (claims_in rounds) b h)

    first : (b : ℕ) → Has (r.caller ++ r.left) b → Has (concat roots) b
    first b v = ⊎_elim (λ f. none_has b (subst (λ (l : List ℕ). Has l b) c.are.0 f))
        (λ l. let j : (j : ℕ) × Has (get_or roots j []) b = own_led (λ k. get_or roots k []) (length roots) w 0 r.gained (c.are.1.own.direct refl) b l in has_concat roots j.0 b j.1)
        (of_append r.caller (concat r.gained) b (subst (λ (l : List ℕ). Has l b) is v))

    not_short : (b : ℕ) (before : List ℕ) → IsChain g (b ∷ before) → length (b ∷ before) ≤ 1 → ¬ Has (claims_in rounds) b
    not_short b [] chain le n = c.timely.0 b chain.1 n
    not_short b (s ∷ before) chain le n = absurd (omega arith)

-- the rounds of a course, with stacks of no entry
pub rounds_by_depth : (roots targets : List (List ℕ)) (given : List ℕ) (w count : ℕ) (claims : List (List ℕ)) → HaveLed roots targets w 0 count claims [] → Partitions claims (Reach (graph_over roots targets given))
    → AreByDepth (graph_over roots targets given) count
rounds_by_depth roots targets given w count claims led part = go led.0 led.1 led.2
  where
    go : (rounds : List Round) → length rounds ≡ count → IsCourse roots targets w 0 claims [] rounds → AreByDepth (graph_over roots targets given) count
    go [] long c = absurd c.are
    go (r ∷ rounds) long c = (length rounds, omega arith, depth_of_rounds roots targets given w claims r rounds c part)
