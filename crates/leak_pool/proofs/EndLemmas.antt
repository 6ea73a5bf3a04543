-- How marking begins and ends.
use Rattle.std.proofs.Common.{◌≡◌, ◌⊎◌, ℕ, zero, suc, ◌+◌, ◌<◌, ◌≤◌, List, [], ◌∷◌, ◌++◌, length, get_or, replicate, Bool, true, false, IsTrue, refl, sym, ap, ◌∙◌, subst, inl, inr, ⊎_elim, arith}
use Rattle.std.specs.Prelude.{◌↔◌, slice_get, Some}
use Rattle.std.specs.List.{concat}
use Rattle.std.proofs.lemmas.List.{length-replicate, length-append, get_or_append_left, get_or_at}
use Rattle.std.proofs.lemmas.Option.{slice_get-get_or, same_Some}
use mathlib.Core.Logic.{dite}
use native.Mathlib.Decide.{ℕ_discrete}
use Rattle.leak_marks.specs.Lists.{times, Has, Within, mark_of, word_count}
use Rattle.leak_marks.specs.Seats.{Held, held, IsSound}
use Rattle.leak_marks.specs.Reach.{Graph, Reach, IsChain}
use Rattle.leak_marks.specs.Partition.{Partitions}
use Rattle.leak_marks.specs.Runs.{Attempt, IsWholeRun, claims_after}
use Rattle.leak_marks.specs.Laws.{ListsPartitionReach}
use Rattle.leak_marks.specs.Rounds.{IsUnderWay}
use Rattle.leak_marks.proofs.RunLemmas.{nothing_held}
use Rattle.leak_marks.proofs.RoundLemmas.{begins, ends}
use Rattle.leak_pool.specs.Items.{InRange, targets_at, targets_of_block, targets_of_item}
use Rattle.leak_pool.specs.declared.target_source.Item.{Item}
use Rattle.leak_pool.specs.declared.target_source.Item.TheVariants.{Root, Block}
use Rattle.leak_marks.proofs.ListLemmas.{has_front, has_back, of_append}
use Rattle.leak_pool.proofs.ScanLemmas.{none_has}
use Rattle.leak_pool.specs.Rounds.{graph_over, IsStep, IsGoing, AreWords, IsMarked, Going}
use Rattle.leak_pool.specs.Marking.{IsSet}
use Rattle.leak_pool.proofs.GoingLemmas.{going_on}

-- before the first round
pub going_first : (g : Graph) (blocks w : ℕ) (seat : Held) (claims : List (List ℕ)) → claims ≡ replicate w [] → IsSound seat → seat.share ≡ 4294967296 → Within g.given seat.seen → Within seat.claims g.given
    → ((b : ℕ) → Has g.given b → b < blocks) → IsGoing g blocks w seat.claims claims [] seat
going_first g blocks w seat claims is sound whole given base inside = record {
  under = subst (λ (l : List (List ℕ)). IsUnderWay g w l [] seat.seen) (sym is) (begins g w seat.seen given);
  long = ap (λ (l : List (List ℕ)). length l) is ∙ length-replicate {A = List ℕ} w [];
  sound = sound;
  whole = whole;
  count = λ b. let z : times b (concat claims) ≡ 0 = ap (λ (l : List (List ℕ)). times b (concat l)) is ∙ ap (λ (l : List ℕ). times b l) (nothing_held w) in omega arith;
  base_given = base;
  inside = λ b h. inside b (base b h);
  held = λ b h. none_has b h;
}

-- the parts of the roots
pub part_of : (roots targets : List (List ℕ)) (b : ℕ) → Has (concat roots) b → (k : ℕ) × (k < length roots) × Has (get_or roots k []) b
part_of [] targets b h = absurd (let z : 0 < 0 = h in omega arith)
part_of (r ∷ rs) targets b h = ⊎_elim (λ f. (0, omega arith, f)) (λ m. let p : (k : ℕ) × (k < length rs) × Has (get_or rs k []) b = part_of rs targets b m in let n : p.0 < length rs = p.1 in (suc p.0, omega arith, p.2)) (of_append r (concat rs) b h)

of_part : (roots : List (List ℕ)) (k b : ℕ) → Has (get_or roots k []) b → Has (concat roots) b
of_part [] zero b h = h
of_part [] (suc k) b h = h
of_part (r ∷ rs) zero b h = has_front r (concat rs) b h
of_part (r ∷ rs) (suc k) b h = has_back r (concat rs) b (of_part rs k b h)

-- the first round
pub first_going : (roots targets : List (List ℕ)) (start : List ℕ) (w : ℕ) (seat : Held) (claims longer : List (List ℕ)) (none more : List ℕ) (after : Held) (gained : List (List ℕ)) (left : List ℕ) (items : List Item)
    → IsGoing (graph_over roots targets start) (length targets) w seat.claims claims [] seat → none ≡ [] → length items ≡ length roots → ((k : ℕ) → k < length roots → get_or items k (Root 0) ≡ Root k)
    → ((i : Item) (b : ℕ) → Has (targets_of_item roots targets i) b → b < length targets)
    → IsStep (targets_of_block targets) (InRange (targets_at roots targets items) 0 (length items)) w claims none seat longer more after gained left
    → Going roots targets start w longer more after
first_going roots targets start w seat claims longer none more after gained left items going empty long at inside s = (
  seat.claims,
  going_on (graph_over roots targets start) (length targets) w seat.claims (InRange T 0 (length items)) claims [] seat none longer more after gained left more going s
      (λ b r. inl (let k : ℕ = r.0 in let below : k < length items = r.2 in of_part roots k b (subst (λ (i : Item). Has (targets_of_item roots targets i) b) (at k (omega arith)) r.3)))
      (λ b r. inside (get_or items r.0 (Root 0)) b r.3)
      (λ x b h. inside (Block x) b h)
      (λ x h. none_has x h)
      (λ x h. subst (λ (l : List ℕ). Has l x) (sym s.waiting_are) (has_back none left x h))
      (λ x h. ⊎_elim (λ old. none_has x (subst (λ (l : List ℕ). Has l x) empty old)) (λ new. inr new) (of_append none left x (subst (λ (l : List ℕ). Has l x) s.waiting_are h))),
  λ b h. let p = part_of roots targets b h in let n : p.0 < length roots = p.1 in
      s.kept.covers b (p.0, omega arith, omega arith, subst (λ (i : Item). Has (targets_of_item roots targets i) b) (sym (at p.0 p.1)) p.2),
)
  where
    T : ℕ → List ℕ
    T = targets_at roots targets items

-- the end
pub words_at_end : (roots targets : List (List ℕ)) (start : List ℕ) (w rounds : ℕ) (claims : List (List ℕ)) (seat : Held) (words : List ℕ) → ListsPartitionReach → Going roots targets start w claims [] seat
    → (seat.share ≡ 4294967296 → Within seat.seen seat.claims × ((b : ℕ) → mark_of words b ≡ times b seat.claims)) → length words ≡ word_count (length targets) → rounds ≤ length targets + 1
    → AreWords (graph_over roots targets start) (length targets) w words claims rounds
words_at_end roots targets start w rounds claims seat words law go closed long few = record {
  long = omega arith;
  lists = i.long;
  partition = partition;
  marks = λ b. (
    λ m. ⊎_elim (λ given. inl given) (λ claimed. inr (partition.only b claimed)) (all b (let e = (closed i.whole).1 b in let r : 0 < times b seat.claims = omega arith in r)),
    λ h. let e = (closed i.whole).1 b in let d : times b seat.claims ≤ 1 = i.sound.distinct b in let c = i.count b in
        ⊎_elim (λ given. let h' : 0 < times b seat.claims = (closed i.whole).0 b (i.under.given b given) in let r : mark_of words b ≡ 1 = omega arith in r)
        (λ reached. let h' : times b (concat claims) ≡ 1 = partition.once b reached in let r : mark_of words b ≡ 1 = omega arith in r) h,
  );
  few = few;
}
  where
    G : Graph
    G = graph_over roots targets start

    i : IsGoing G (length targets) w go.0 claims [] seat
    i = go.1

    all : (b : ℕ) → Has seat.claims b → Has start b ⊎ Has (concat claims) b
    all b h = dite (ℕ_discrete (times b (concat claims)) 0)
        (λ z. inl (i.base_given b (let c = i.count b in let r : 0 < times b go.0 = omega arith in r)))
        (λ nz. inr (let r : 0 < times b (concat claims) = omega arith in r))

    run : (run : List Attempt) × IsWholeRun G w run × (claims_after w run ≡ claims)
    run = ends G w claims seat.seen i.under go.2 (λ b s. all b ((closed i.whole).0 b s))

    partition : Partitions claims (Reach G)
    partition = subst (λ (l : List (List ℕ)). Partitions l (Reach G)) run.2 (law G w run.0 run.1)

-- each mark as a test
pub marked_of_words : (g : Graph) (blocks w rounds : ℕ) (words : List ℕ) (claims : List (List ℕ)) (set : List Bool) → 0 < blocks → AreWords g blocks w words claims rounds → IsSet set blocks (λ b. mark_of words b ≡ 1) → IsMarked g blocks w set claims rounds
marked_of_words g blocks w rounds words claims set some a s = record {
  set = record { len = s.len; each = λ k h. (λ t. (a.marks k).0 ((s.each k h).0 t), λ r. (s.each k h).1 ((a.marks k).1 r)) };
  lists = a.lists;
  partition = a.partition;
  few = a.few;
  none = λ z. absurd (omega arith);
}

-- if there is no block nothing is reached
pub marked_none : (roots targets : List (List ℕ)) (start : List ℕ) (w : ℕ) (claims : List (List ℕ)) (set : List Bool) → length targets ≡ 0 → claims ≡ replicate w [] → set ≡ []
    → ((i : Item) (b : ℕ) → Has (targets_of_item roots targets i) b → b < length targets) → IsMarked (graph_over roots targets start) (length targets) w set claims 0
marked_none roots targets start w claims set none empty unset inside = record {
  set = record { len = ap (λ (l : List Bool). length l) unset ∙ sym none; each = λ k h. absurd (omega arith) };
  lists = ap (λ (l : List (List ℕ)). length l) empty ∙ length-replicate {A = List ℕ} w [];
  partition = record {
    once = λ b r. absurd (let low : b < length targets = below b r.0 r.1 in omega arith);
    only = λ b h. none_has b (subst (λ (l : List ℕ). Has l b) (ap (λ (l : List (List ℕ)). concat l) empty ∙ nothing_held w) h);
  };
  few = omega arith;
  none = λ z. refl;
}
  where
    below : (b : ℕ) (before : List ℕ) → IsChain (graph_over roots targets start) (b ∷ before) → b < length targets
    below b [] chain = let p = part_of roots targets b chain.1 in inside (Root p.0) b p.2
    below b (s ∷ before) chain = inside (Block s) b chain.1

-- one block of the start more
pub start_more : (xs now : List ℕ) (b : ℕ) (won : Bool) (s s' : Held) → now ≡ xs ++ b ∷ [] → Within s.claims xs → Within xs s.seen
    → (IsTrue won → (s' ≡ held s.table (s.claims ++ b ∷ []) (s.seen ++ b ∷ []) s.share) × ¬ Has s.seen b) → (won ≡ false → s' ≡ held s.table s.claims (s.seen ++ b ∷ []) s.share)
    → (s'.share ≡ s.share) × Within s'.claims now × Within now s'.seen
start_more xs now b won s s' is claims seen w l = go won w l
  where
    seen_more : (x : ℕ) → Has now x → Has (s.seen ++ b ∷ []) x
    seen_more x h = ⊎_elim (λ old. has_front s.seen (b ∷ []) x (seen x old)) (λ new. has_back s.seen (b ∷ []) x new) (of_append xs (b ∷ []) x (subst (λ (t : List ℕ). Has t x) is h))

    go : (r : Bool) → (IsTrue r → (s' ≡ held s.table (s.claims ++ b ∷ []) (s.seen ++ b ∷ []) s.share) × ¬ Has s.seen b) → (r ≡ false → s' ≡ held s.table s.claims (s.seen ++ b ∷ []) s.share) → (s'.share ≡ s.share) × Within s'.claims now × Within now s'.seen
    go true w l = let e = (w refl).0 in (
      ap (λ (h : Held). h.share) e,
      λ x h. subst (λ (t : List ℕ). Has t x) (sym is) (⊎_elim (λ old. has_front xs (b ∷ []) x (claims x old)) (λ new. has_back xs (b ∷ []) x new) (of_append s.claims (b ∷ []) x (subst (λ (y : Held). Has y.claims x) e h))),
      λ x h. subst (λ (y : Held). Has y.seen x) (sym e) (seen_more x h),
    )
    go false w l = let e = l refl in (
      ap (λ (h : Held). h.share) e,
      λ x h. subst (λ (t : List ℕ). Has t x) (sym is) (has_front xs (b ∷ []) x (claims x (subst (λ (y : Held). Has y.claims x) e h))),
      λ x h. subst (λ (y : Held). Has y.seen x) (sym e) (seen_more x h),
    )

-- ---- a test for each block

pub set_none : (P : ℕ → Type 0) (tests : List Bool) → tests ≡ [] → IsSet tests 0 P
set_none P tests is = record { len = ap (λ (l : List Bool). length l) is; each = λ k h. absurd (omega arith) }

tests_front : (xs ys : List Bool) (k : ℕ) → k < length xs → slice_get (xs ++ ys) k ≡ slice_get xs k
tests_front xs ys k h = slice_get-get_or (xs ++ ys) k false (let e = length-append xs ys in omega arith) ∙ ap (λ (b : Bool). Some b) (get_or_append_left xs ys false k h) ∙ sym (slice_get-get_or xs k false h)

test_at : (xs : List Bool) (v : Bool) (k : ℕ) → length xs ≡ k → slice_get (xs ++ v ∷ []) k ≡ Some v
test_at xs v k h = slice_get-get_or (xs ++ v ∷ []) k false (let e = length-append xs (v ∷ []) in omega arith) ∙ ap (λ (b : Bool). Some b) (get_or_at xs v [] false k h)

pub set_more : (n : ℕ) (P : ℕ → Type 0) (tests more : List Bool) (v : Bool) → IsSet tests n P → more ≡ tests ++ v ∷ [] → IsTrue v ↔ P n → IsSet more (n + 1) P
set_more n P tests more v s is test = record {
  len = ap (λ (l : List Bool). length l) is ∙ (let e = length-append tests (v ∷ []) in let l = s.len in omega arith);
  each = λ k h. dite (ℕ_discrete k n)
      (λ e. subst (λ (x : ℕ). (slice_get more x ≡ Some true) ↔ P x) (sym e) ((λ g. test.0 (same_Some v true (sym last ∙ g))), (λ p. last ∙ ap (λ (b : Bool). Some b) (test.1 p))))
      (λ ne. let old : slice_get more k ≡ slice_get tests k = ap (λ (l : List Bool). slice_get l k) is ∙ tests_front tests (v ∷ []) k (let l = s.len in omega arith) in
      let i = s.each k (omega arith) in ((λ g. i.0 (sym old ∙ g)), (λ p. old ∙ i.1 p)));
}
  where
    last : slice_get more n ≡ Some v
    last = ap (λ (l : List Bool). slice_get l n) is ∙ test_at tests v n s.len
