-- The map of a replay after an entry is taken out or put in.
use Rattle.std.proofs.Common.{◌≡◌, ◌≢◌, ℕ, suc, ◌+◌, ◌<◌, ◌≤◌, inl, inr, Bool, true, false, not, ◌||◌, cond, refl, sym, subst, ap, ◌∙◌, true≢false, List, [], ◌∷◌, length, filter, count_by, Some, arith, ◌==◌, nat_lt, if◌then◌else◌}
use Rattle.std.specs.List.{list_any, AllByRecursion}
use Rattle.std.specs.Option.{is_some}
use Rattle.std.specs.Ordering.{match_ordering, nat_cmp}
use Rattle.std.specs.declared.cmp.Ordering.{Ordering}
use Rattle.std.specs.declared.cmp.Ordering.TheVariants.{Less, Equal, Greater}
use Rattle.std.specs.BTreeMap.{insert_entry, is_at}
use Rattle.std.specs.Map.{remove_entry, lookup}
use Rattle.std.proofs.lemmas.Bool.Decides.{nat_tests}
use Rattle.std.proofs.lemmas.List.Filters.{length-filter_both}
use Rattle.std.proofs.lemmas.List.Sums.{length-filter}
use Rattle.leak_mtrace.specs.declared.line.Line.{Line}
use Rattle.leak_blocks.specs.declared.block.Block.{Block}
use Rattle.leak_blocks.specs.Span.{AreDisjoint, span_end}
use Rattle.leak_blocks.specs.Live.{among}
use Rattle.leak_blocks.specs.Steps.{meets}
use Rattle.leak_blocks.specs.Laws.{IsIn}
use Rattle.leak_blocks.specs.Numbers.{IsNumbered, entry_of, entries_of, AreOf, IsMet}
use Rattle.leak_blocks.proofs.OrderLemmas.{all_filter, filter_disjoint}
use Rattle.leak_blocks.proofs.NumberLemmas.{at_of}

-- ---- the entry of an address

at_is : (a k : ℕ) → is_at (nat_cmp a) k ≡ (a == k)
at_is a k = grind (arith, nat_tests)

at_is_flipped : (a k : ℕ) → is_at (nat_cmp a) k ≡ (k == a)
at_is_flipped a k = grind (arith, nat_tests)

-- the blocks that begin elsewhere
abbrev pub elsewhere : ℕ → List Block → List Block
elsewhere a bs = filter (λ b. not (a == b.start)) bs

differs : (a k : ℕ) → a < k → (a == k) ≡ false
differs a k h = grind (arith, nat_tests)

kept_all : (a : ℕ) (bs : List Block) → AllByRecursion (λ b. a < b.start) bs → elsewhere a bs ≡ bs
kept_all a [] h = refl
kept_all a (b ∷ bs) h = ap (λ (t : Bool). cond (not t) (b ∷ elsewhere a bs) (elsewhere a bs)) (differs a b.start h.0) ∙ ap (λ (l : List Block). b ∷ l) (kept_all a bs h.1)

same_start : (a k : ℕ) → (a == k) ≡ true → a ≡ k
same_start a k h = grind (arith, nat_tests)

behind_start : (a : ℕ) (b : Block) (bs : List Block) → a ≡ b.start → AllByRecursion (λ c. span_end b ≤ c.start) bs → AllByRecursion (λ c. a < c.start) bs
behind_start a b [] e h = tt
behind_start a b (c ∷ cs) e h = (omega (arith, h.0), behind_start a b cs e h.1)

pub removed : (a : ℕ) (bs : List Block) → AreDisjoint bs → remove_entry (is_at (nat_cmp a)) (entries_of bs) ≡ entries_of (elsewhere a bs)
removed a [] d = refl
removed a (b ∷ bs) d =
    ap (λ (t : Bool). cond t (entries_of bs) (entry_of b ∷ remove_entry (is_at (nat_cmp a)) (entries_of bs))) (at_is a b.start)
    ∙ go (a == b.start) refl (removed a bs d.1)
  where
    go : (t : Bool) → (a == b.start) ≡ t → remove_entry (is_at (nat_cmp a)) (entries_of bs) ≡ entries_of (elsewhere a bs) →
        cond t (entries_of bs) (entry_of b ∷ remove_entry (is_at (nat_cmp a)) (entries_of bs)) ≡ entries_of (cond (not t) (b ∷ elsewhere a bs) (elsewhere a bs))
    go true e rest = ap entries_of (sym (kept_all a bs (behind_start a b bs (same_start a b.start e) d.0)))
    go false e rest = ap (λ (l : List (ℕ × ℕ)). entry_of b ∷ l) rest

pub looked_up : (a : ℕ) (bs : List Block) → is_some (lookup (is_at (nat_cmp a)) (entries_of bs)) ≡ list_any (λ b. b.start == a) bs
looked_up a [] = refl
looked_up a (b ∷ bs) =
    ap (λ (t : Bool). is_some (cond t (Some b.line) (lookup (is_at (nat_cmp a)) (entries_of bs)))) (at_is_flipped a b.start)
    ∙ go (b.start == a) (looked_up a bs)
  where
    go : (t : Bool) → is_some (lookup (is_at (nat_cmp a)) (entries_of bs)) ≡ list_any (λ b. b.start == a) bs →
        is_some (cond t (Some b.line) (lookup (is_at (nat_cmp a)) (entries_of bs))) ≡ (t || list_any (λ b. b.start == a) bs)
    go true rest = refl
    go false rest = rest

pub is_same : (a k : ℕ) → a ≡ k → (a == k) ≡ true
is_same a k h = grind (arith, nat_tests)

pub not_same : (a k : ℕ) → a ≢ k → (a == k) ≡ false
not_same a k h = grind (arith, nat_tests)

is_less_cmp : (m n : ℕ) → nat_lt m n ≡ true → nat_cmp m n ≡ Less
is_less_cmp m n e = ap (λ (t : Bool). cond t Less (cond (m == n) Equal Greater)) e

is_greater_cmp : (m n : ℕ) → nat_lt m n ≡ false → n ≢ m → nat_cmp m n ≡ Greater
is_greater_cmp m n e apart = ap (λ (t : Bool). cond t Less (cond (m == n) Equal Greater)) e ∙ ap (λ (t : Bool). cond t Equal Greater) (not_same m n (λ k. apart (sym k)))

pub inserted : (b : Block) (bs : List Block) → AllByRecursion (λ c. c.start ≢ b.start) bs → insert_entry nat_cmp (entries_of bs) b.start b.line ≡ entries_of (among b bs)
inserted b [] h = refl
inserted b (c ∷ cs) h = go (nat_lt b.start c.start) refl (inserted b cs h.1)
  where
    go : (t : Bool) → nat_lt b.start c.start ≡ t → insert_entry nat_cmp (entries_of cs) b.start b.line ≡ entries_of (among b cs) →
        insert_entry nat_cmp (entries_of (c ∷ cs)) b.start b.line ≡ entries_of (if t then b ∷ c ∷ cs else c ∷ among b cs)
    go true e rest = ap (λ (o : Ordering). match_ordering o (entry_of b ∷ entries_of (c ∷ cs)) ((c.start, b.line) ∷ entries_of cs) (entry_of c ∷ insert_entry nat_cmp (entries_of cs) b.start b.line)) (is_less_cmp b.start c.start e)
    go false e rest = ap (λ (o : Ordering). match_ordering o (entry_of b ∷ entries_of (c ∷ cs)) ((c.start, b.line) ∷ entries_of cs) (entry_of c ∷ insert_entry nat_cmp (entries_of cs) b.start b.line)) (is_greater_cmp b.start c.start e h.0)
        ∙ ap (λ (l : List (ℕ × ℕ)). entry_of c ∷ l) rest

-- ---- displacing

abbrev pub unmet : Line → List Block → List Block
unmet x bs = filter (λ b. not (meets x b)) bs

nor_left : (s t : Bool) → (s || t) ≡ false → s ≡ false
nor_left true t h = h
nor_left false t h = refl

nor_right : (s t : Bool) → (s || t) ≡ false → t ≡ false
nor_right true t h = absurd (true≢false h)
nor_right false t h = h

pub all_unmet : (x : Line) (bs : List Block) → list_any (meets x) bs ≡ false → unmet x bs ≡ bs
all_unmet x [] h = refl
all_unmet x (b ∷ bs) h =
    ap (λ (t : Bool). cond (not t) (b ∷ unmet x bs) (unmet x bs)) (nor_left (meets x b) (list_any (meets x) bs) h)
    ∙ ap (λ (l : List Block). b ∷ l) (all_unmet x bs (nor_right (meets x b) (list_any (meets x) bs) h))

-- taking out a block that is met
pub unmet_without : (x : Line) (b : Block) (bs : List Block) → AreDisjoint bs → IsIn b bs → meets x b ≡ true → unmet x (elsewhere b.start bs) ≡ unmet x bs
unmet_without x b [] d i m = elim i [ ]
unmet_without x b (c ∷ cs) d (inl e) m =
    ap (λ (t : Bool). unmet x (cond (not t) (c ∷ elsewhere b.start cs) (elsewhere b.start cs))) (is_same b.start c.start (ap (λ (y : Block). y.start) (sym e)))
    ∙ ap (unmet x) (kept_all b.start cs (behind_start b.start c cs (ap (λ (y : Block). y.start) (sym e)) d.0))
    ∙ sym (ap (λ (t : Bool). cond (not t) (c ∷ unmet x cs) (unmet x cs)) (ap (meets x) e ∙ m))
unmet_without x b (c ∷ cs) d (inr i) m =
    let l : span_end c ≤ b.start = at_of (λ y. span_end c ≤ y.start) b cs d.0 i in
    ap (λ (t : Bool). unmet x (cond (not t) (c ∷ elsewhere b.start cs) (elsewhere b.start cs))) (not_same b.start c.start (λ e. absurd (omega (arith, l, e))))
    ∙ ap (λ (r : List Block). cond (not (meets x c)) (c ∷ r) r) (unmet_without x b cs d.1 i m)

pub listed_start : (b : Block) (bs : List Block) → IsIn b bs → list_any (λ c. c.start == b.start) bs ≡ true
listed_start b [] i = elim i [ ]
listed_start b (c ∷ cs) (inl e) = ap (λ (t : Bool). t || list_any (λ d. d.start == b.start) cs) (is_same c.start b.start (ap (λ (y : Block). y.start) e))
listed_start b (c ∷ cs) (inr i) = or_right (c.start == b.start) (list_any (λ d. d.start == b.start) cs) (listed_start b cs i)
  where
    or_right : (s t : Bool) → t ≡ true → (s || t) ≡ true
    or_right true t h = refl
    or_right false t h = h

pub counted : (x : Line) (bs : List Block) → length (unmet x bs) + count_by (meets x) bs ≡ length bs
counted x bs = omega (arith, length-filter (meets x) bs, length-filter_both (meets x) (λ b. not (meets x b)) (λ b. refl) bs)

-- the blocks that are left on the way
pub record AreLeft (allocated : List Block) (x : Line) (entries : List (ℕ × ℕ)) (blocks : List Block) : Type 0 where
  pub left : List Block
  pub of : AreOf allocated entries left
  pub same : unmet x left ≡ unmet x blocks

pub left_at_first : (allocated : List Block) (x : Line) (entries : List (ℕ × ℕ)) (blocks : List Block) → AreOf allocated entries blocks → AreLeft allocated x entries blocks
left_at_first allocated x entries blocks of = record { left = blocks; of = of; same = refl }

pub without : (allocated : List Block) (entries fewer : List (ℕ × ℕ)) (blocks : List Block) (a : ℕ) → fewer ≡ remove_entry (is_at (nat_cmp a)) entries → AreOf allocated entries blocks → AreOf allocated fewer (elsewhere a blocks)
without allocated entries fewer blocks a e of = record {
  listed = e ∙ ap (remove_entry (is_at (nat_cmp a))) of.listed ∙ removed a blocks of.disjoint;
  numbered = all_filter (IsNumbered allocated) (λ b. not (a == b.start)) blocks of.numbered;
  disjoint = filter_disjoint (λ b. not (a == b.start)) blocks of.disjoint;
}

pub found_entry : (allocated : List Block) (entries : List (ℕ × ℕ)) (blocks : List Block) (x : Line) (a : ℕ) → AreOf allocated entries blocks → IsMet x blocks (Some a) → is_some (lookup (is_at (nat_cmp a)) entries) ≡ true
found_entry allocated entries blocks x a of m =
    ap (λ (es : List (ℕ × ℕ)). is_some (lookup (is_at (nat_cmp a)) es)) of.listed ∙ looked_up a blocks
    ∙ subst (λ (k : ℕ). list_any (λ c. c.start == k) blocks ≡ true) m.2 (listed_start m.0 blocks m.1)

pub left_after : (allocated : List Block) (x : Line) (entries fewer : List (ℕ × ℕ)) (blocks : List Block) (a : ℕ) (l : AreLeft allocated x entries blocks) → IsMet x l.left (Some a) → fewer ≡ remove_entry (is_at (nat_cmp a)) entries → AreLeft allocated x fewer blocks
left_after allocated x entries fewer blocks a l m e = record {
  left = elsewhere a l.left;
  of = without allocated entries fewer l.left a e l.of;
  same = subst (λ (k : ℕ). unmet x (elsewhere k l.left) ≡ unmet x l.left) m.2 (unmet_without x m.0 l.left l.of.disjoint m.1 m.3) ∙ l.same;
}

pub left_at_last : (allocated : List Block) (x : Line) (entries : List (ℕ × ℕ)) (blocks : List Block) (l : AreLeft allocated x entries blocks) → list_any (meets x) l.left ≡ false → entries ≡ entries_of (unmet x blocks)
left_at_last allocated x entries blocks l h = l.of.listed ∙ ap entries_of (sym (all_unmet x l.left h) ∙ l.same)

entries_many : (bs : List Block) → length (entries_of bs) ≡ length bs
entries_many [] = refl
entries_many (b ∷ bs) = ap (λ (n : ℕ). suc n) (entries_many bs)

-- as many fewer as are met
pub fewer_by : (x : Line) (before after : List (ℕ × ℕ)) (blocks : List Block) → before ≡ entries_of blocks → after ≡ entries_of (unmet x blocks) → length after + count_by (meets x) blocks ≡ length before
fewer_by x before after blocks e f = omega (arith, ap length e, ap length f, entries_many blocks, entries_many (unmet x blocks), counted x blocks)
