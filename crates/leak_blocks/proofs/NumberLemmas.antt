-- The map of a replay, read as the blocks that it stands for.
use Rattle.std.proofs.Common.{◌≡◌, ℕ, ◌+◌, ◌-◌, ◌<◌, ◌≤◌, max, ◌⊎◌, inl, inr, Bool, true, false, not, ◌&&◌, ◌||◌, cond, refl, sym, subst, ap, ◌∙◌, List, [], ◌∷◌, ◌++◌, length, filter, Some, arith, nat_lt}
use Rattle.std.specs.List.{list_any, AllByRecursion}
use Rattle.std.specs.Ordering.{nat_cmp, is_lt}
use Rattle.std.proofs.lemmas.Bool.Decides.{nat_tests}
use Rattle.std.proofs.lemmas.Option.{slice_get_within}
use Rattle.std.proofs.Math.Bool.{and-false}
use Rattle.leak_mtrace.specs.declared.line.Line.{Line}
use Rattle.leak_blocks.specs.declared.block.Block.{Block}
use Rattle.leak_blocks.specs.Span.{AreDisjoint, span_end}
use Rattle.leak_blocks.specs.Steps.{meets}
use Rattle.leak_blocks.specs.Laws.{IsIn}
use Rattle.leak_blocks.specs.Numbers.{IsNumbered, IsAllocationAt, HasPlaceOf, entry_of, entries_of, AreOf, IsMet}
use Rattle.leak_blocks.proofs.OrderLemmas.{is_less, is_not_less, less_of, not_less_of}

-- ---- the last block that begins by an address

-- no later than the address
abbrev pub is_by : ℕ → ℕ × ℕ → Bool
is_by last e = true && not (is_lt (nat_cmp last e.0))

by_or_not : (last : ℕ) (b : Block) → ((is_by last (entry_of b) ≡ true) × (b.start ≤ last)) ⊎ ((is_by last (entry_of b) ≡ false) × (last < b.start))
by_or_not last b = go (nat_lt last b.start) refl
  where
    go : (t : Bool) → nat_lt last b.start ≡ t → ((is_by last (entry_of b) ≡ true) × (b.start ≤ last)) ⊎ ((is_by last (entry_of b) ≡ false) × (last < b.start))
    go true e = inr (grind (arith, nat_tests, e), less_of _ _ e)
    go false e = inl (grind (arith, nat_tests, e), not_less_of _ _ e)

-- the last block that begins by the address, and where the others lie
pub record IsLast (last : ℕ) (blocks : List Block) (e : ℕ × ℕ) : Type 0 where
  pub block : Block
  pub entry : entry_of block ≡ e
  pub listed : IsIn block blocks
  pub begins : block.start ≤ last
  pub others : AllByRecursion (λ c. (last < c.start) ⊎ (span_end c ≤ span_end block)) blocks

kept_by : (last : ℕ) (b : Block) (es fs : List (ℕ × ℕ)) → is_by last (entry_of b) ≡ true → cond (is_by last (entry_of b)) (entry_of b ∷ es) es ≡ fs → entry_of b ∷ es ≡ fs
kept_by last b es fs h e = subst (λ (t : Bool). cond t (entry_of b ∷ es) es ≡ fs) h e

dropped_by : (last : ℕ) (b : Block) (es fs : List (ℕ × ℕ)) → is_by last (entry_of b) ≡ false → cond (is_by last (entry_of b)) (entry_of b ∷ es) es ≡ fs → es ≡ fs
dropped_by last b es fs h e = subst (λ (t : Bool). cond t (entry_of b ∷ es) es ≡ fs) h e

pub not_empty : (e : ℕ × ℕ) (es : List (ℕ × ℕ)) → e ∷ es ≡ [] → ⊥
not_empty e es h = cc

pub none_by : (last : ℕ) (bs : List Block) → filter (is_by last) (entries_of bs) ≡ [] → AllByRecursion (λ c. last < c.start) bs
none_by last [] e = tt
none_by last (b ∷ bs) e = elim (by_or_not last b) [
  | inl h ↦ absurd (not_empty (entry_of b) (filter (is_by last) (entries_of bs)) (kept_by last b (filter (is_by last) (entries_of bs)) [] h.0 e))
  | inr h ↦ (h.1, none_by last bs (dropped_by last b (filter (is_by last) (entries_of bs)) [] h.0 e))
]

not_pushed : (t : List (ℕ × ℕ)) (e : ℕ × ℕ) → [] ≡ t ++ e ∷ [] → ⊥
not_pushed [] e h = cc
not_pushed (u ∷ t) e h = cc

front : (t : List (ℕ × ℕ)) (e u : ℕ × ℕ) (es : List (ℕ × ℕ)) → u ∷ es ≡ t ++ e ∷ [] → ((u ≡ e) × (es ≡ [])) ⊎ ((s : List (ℕ × ℕ)) × (es ≡ s ++ e ∷ []))
front [] e u es h = inl (cc, cc)
front (v ∷ t) e u es h = inr (t, cc)

pub at_of : (P : Block → Type 0) (b : Block) (bs : List Block) → AllByRecursion P bs → IsIn b bs → P b
at_of P b [] h i = elim i [ ]
at_of P b (c ∷ cs) h (inl e) = subst P e h.0
at_of P b (c ∷ cs) h (inr i) = at_of P b cs h.1 i

pub all_weaker : (P Q : Block → Type 0) → ((c : Block) → P c → Q c) → (bs : List Block) → AllByRecursion P bs → AllByRecursion Q bs
all_weaker P Q f [] h = tt
all_weaker P Q f (b ∷ bs) h = (f b h.0, all_weaker P Q f bs h.1)

pub last_by : (last : ℕ) (bs : List Block) (t : List (ℕ × ℕ)) (e : ℕ × ℕ) → AreDisjoint bs → filter (is_by last) (entries_of bs) ≡ t ++ e ∷ [] → IsLast last bs e
last_by last [] t e d h = absurd (not_pushed t e h)
last_by last (b ∷ bs) t e d h = elim (by_or_not last b) [
  | inr k ↦ let r : IsLast last bs e = last_by last bs t e d.1 (dropped_by last b (filter (is_by last) (entries_of bs)) (t ++ e ∷ []) k.0 h) in
      record { block = r.block; entry = r.entry; listed = inr r.listed; begins = r.begins; others = (inl k.1, r.others) }
  | inl k ↦ elim (front t e (entry_of b) (filter (is_by last) (entries_of bs)) (kept_by last b (filter (is_by last) (entries_of bs)) (t ++ e ∷ []) k.0 h)) [
    | inl p ↦ record { block = b; entry = p.0; listed = inl refl; begins = k.1; others = (inr (omega arith), all_weaker (λ c. last < c.start) _ (λ c l. inl l) bs (none_by last bs p.1)) }
    | inr p ↦ let r : IsLast last bs e = last_by last bs p.0 e d.1 p.1 in
        let l : span_end b ≤ r.block.start = at_of (λ c. span_end b ≤ c.start) r.block bs d.0 r.listed in
        record { block = r.block; entry = r.entry; listed = inr r.listed; begins = r.begins; others = (inr (omega (arith, l)), r.others) }
  ]
]

-- ---- which blocks an allocation meets

pub none_met : (x : Line) (last : ℕ) → last + 1 ≡ x.addr + max x.size 1 → (bs : List Block) → AllByRecursion (λ c. (last < c.start) ⊎ (span_end c ≤ x.addr)) bs → list_any (meets x) bs ≡ false
none_met x last e [] h = refl
none_met x last e (b ∷ bs) h = ap (λ (t : Bool). t || list_any (meets x) bs) (this h.0) ∙ none_met x last e bs h.1
  where
    this : (last < b.start) ⊎ (span_end b ≤ x.addr) → meets x b ≡ false
    this (inl l) = ap (λ (t : Bool). nat_lt x.addr (span_end b) && t) (is_not_less b.start (x.addr + max x.size 1) (omega arith)) ∙ and-false (nat_lt x.addr (span_end b))
    this (inr l) = ap (λ (t : Bool). t && nat_lt b.start (x.addr + max x.size 1)) (is_not_less x.addr (span_end b) l)

pub met_by : (x : Line) (last : ℕ) (b : Block) → last + 1 ≡ x.addr + max x.size 1 → b.start ≤ last → x.addr - b.start < max b.size 1 → meets x b ≡ true
met_by x last b e s h = ap (λ (t : Bool). t && nat_lt b.start (x.addr + max x.size 1)) (is_less x.addr (span_end b) (omega arith)) ∙ is_less b.start (x.addr + max x.size 1) (omega arith)

pub unmet_by : (x : Line) (last : ℕ) (b : Block) → max b.size 1 ≤ x.addr - b.start → (bs : List Block) → AllByRecursion (λ c. (last < c.start) ⊎ (span_end c ≤ span_end b)) bs → AllByRecursion (λ c. (last < c.start) ⊎ (span_end c ≤ x.addr)) bs
unmet_by x last b h bs others = all_weaker (λ c. (last < c.start) ⊎ (span_end c ≤ span_end b)) (λ c. (last < c.start) ⊎ (span_end c ≤ x.addr)) nearer bs others
  where
    nearer : (c : Block) → (last < c.start) ⊎ (span_end c ≤ span_end b) → (last < c.start) ⊎ (span_end c ≤ x.addr)
    nearer c (inl l) = inl l
    nearer c (inr l) = inr (omega (arith, h, l))

-- the number of an entry is that of an allocation
pub number_within : (allocated : List Block) (entries : List (ℕ × ℕ)) (blocks : List Block) (last : ℕ) (e : ℕ × ℕ) → AreOf allocated entries blocks → IsLast last blocks e → e.1 < length allocated
number_within allocated entries blocks last e of l =
    let k : IsNumbered allocated l.block = at_of (IsNumbered allocated) l.block blocks of.numbered l.listed in
    subst (λ (p : ℕ × ℕ). p.1 < length allocated) l.entry (slice_get_within allocated l.block.line k.0 k.1.at)

-- ---- what the map says of an allocation, whose last address this is

module _ (allocated : List Block) (entries : List (ℕ × ℕ)) (blocks : List Block) (of : AreOf allocated entries blocks) (last : ℕ) where
  pub last_listed : (t : List (ℕ × ℕ)) (e : ℕ × ℕ) → filter (is_by last) entries ≡ t ++ e ∷ [] → IsLast last blocks e
  last_listed t e h = last_by last blocks t e of.disjoint (sym (ap (filter (is_by last)) of.listed) ∙ h)

  module _ (x : Line) (is_last : last + 1 ≡ x.addr + max x.size 1) where
    pub none_listed : filter (is_by last) entries ≡ [] → list_any (meets x) blocks ≡ false
    none_listed h = none_met x last is_last blocks
        (all_weaker (λ b. last < b.start) (λ b. (last < b.start) ⊎ (span_end b ≤ x.addr)) (λ b l. inl l) blocks
        (none_by last blocks (sym (ap (filter (is_by last)) of.listed) ∙ h)))

    -- the allocation of the last entry
    module _ (e : ℕ × ℕ) (found : Block) (is_found : IsAllocationAt allocated e.1 found) (l : IsLast last blocks e) where
      same : HasPlaceOf found l.block
      same = is_found l.block (at_of (IsNumbered allocated) l.block blocks of.numbered l.listed) (ap (λ (p : ℕ × ℕ). p.1) l.entry)

      pub found_met : x.addr - found.start < max found.size 1 → IsMet x blocks (Some found.start)
      found_met h = (l.block, l.listed, sym same.start, met_by x last l.block is_last l.begins (subst (λ (n : ℕ). x.addr - n < max l.block.size 1) same.start (subst (λ (n : ℕ). x.addr - found.start < max n 1) same.size h)))

      pub found_unmet : max found.size 1 ≤ x.addr - found.start → list_any (meets x) blocks ≡ false
      found_unmet h = none_met x last is_last blocks (unmet_by x last l.block (subst (λ (n : ℕ). max l.block.size 1 ≤ x.addr - n) same.start (subst (λ (n : ℕ). max n 1 ≤ x.addr - found.start) same.size h)) blocks l.others)
