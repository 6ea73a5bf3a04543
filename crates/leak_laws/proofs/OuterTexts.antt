-- Which texts have rows of holders, and that some text within no other holds each block.
use Rattle.std.proofs.Common.{◌≡◌, ℕ, zero, suc, ◌+◌, ◌<◌, ◌≤◌, ◌⊎◌, inl, inr, ⊎_elim, Bool, true, false, not, ◌&&◌, List, [], ◌∷◌, length, refl, sym, ap, subst, ◌∙◌, arith}
use Rattle.std.specs.Prelude.{◌==◌}
use Rattle.std.specs.List.{list_all, range_with_len}
use Rattle.std.proofs.lemmas.Bool.{and_from, and_parts, cases_lt, eq-eqb, eqb-true, ne_eqb}
use Rattle.leak_marks.specs.Lists.{Has}
use Rattle.leak_marks.specs.Reach.{IsChain, Reach}
use Rattle.leak_marks.proofs.ElementLemmas.{of_filter, of_range}
use Rattle.leak_marks.proofs.ListLemmas.{at_head, has_or_not, here, none_has}
use Rattle.leak_without.specs.Without.{AreHeldBy, IsHeldBy, graph_of, members, without}
use Rattle.leak_without.proofs.GoingLemmas.{of_members, to_members}
use Rattle.leak_without.proofs.HeldLemmas.{held_in_turn, none_hold_each_other, own_are_held}
use Rattle.leak_holders.specs.declared.block_table.BlockTable.{BlockTable}
use Rattle.leak_holders.specs.declared.holder.Holder.{Holder}
use Rattle.leak_holders.specs.Holders.{below, blocks_with, is_own, is_reached, is_within, text_of}
use Rattle.leak_holders.specs.Laws.{AreRowsOf}
use Rattle.leak_laws.proofs.Ranges.{all_pass, fewer, passes_both, some_passes}

pub other_than : (a b : ℕ) → not (a == b) ≡ true → a ≡ b → ⊥
other_than a b differ e = let same : (a == b) ≡ true = eq-eqb a b e in let none : not true ≡ true = ap not (sym same) ∙ differ in cc

module _ (first : List ℕ) (targets : List (List ℕ)) where
  -- one of the set's blocks is reached
  pub record HasReached (set : List ℕ) : Type 0 where
    pub block : ℕ
    pub «in» : Has set block
    pub reached : Reach (graph_of first targets) block

  -- a chain passes a block of the set, or is one without it
  passes_one : (set : List ℕ) (b : ℕ) (before : List ℕ) → IsChain (graph_of first targets) (b ∷ before) → HasReached set ⊎ IsChain (without (graph_of first targets) set) (b ∷ before)
  passes_one set b [] c =
      ⊎_elim (λ (i : Has set b). inl (record { block = b; «in» = i; reached = ([], c) })) (λ (o : ¬ Has set b). inr (o, c.1)) (has_or_not set b)
  passes_one set b (s ∷ before) c =
      ⊎_elim (λ (i : Has set b). inl (record { block = b; «in» = i; reached = (s ∷ before, c) }))
      (λ (o : ¬ Has set b). ⊎_elim (λ (h : HasReached set). inl h) (λ (d : IsChain (without (graph_of first targets) set) (s ∷ before)). inr (o, c.1, d)) (passes_one set s before c.2))
      (has_or_not set b)

  -- what holds a block has a block that is reached
  pub holder_reached : (set : List ℕ) (b : ℕ) → IsHeldBy (graph_of first targets) set b → HasReached set
  holder_reached set b held =
      ⊎_elim (λ (h : HasReached set). h) (λ (c : IsChain (without (graph_of first targets) set) (b ∷ held.0.0)). absurd (held.1 (held.0.0, c))) (passes_one set b held.0.0 held.0.1)

module _ (first : List ℕ) (targets : List (List ℕ)) (f : BlockTable) (texts : ℕ) (rows : List Holder) (of : AreRowsOf (graph_of first targets) f texts rows) where
  abbrev blocks_of : ℕ → List ℕ
  blocks_of text = members f.numbers.now text

  abbrev Hold : ℕ → ℕ → Type 0
  Hold text b = IsHeldBy (graph_of first targets) (blocks_of text) b

  -- ---- own blocks

  inside_of : (text b : ℕ) → Has (blocks_of text) b → b < length f.numbers.now
  inside_of text b i = let low = of_range (length f.numbers.now) 0 b (of_filter _ (range_with_len 0 (length f.numbers.now)) b i).0 in omega (arith, low.1)

  is_own_of : (text b : ℕ) → Has (blocks_of text) b → Reach (graph_of first targets) b → is_own f text b ≡ true
  is_own_of text b i reached =
      let low = inside_of text b i in
      let in_graph : b < length targets = omega (arith, low, of.complete.numbered, of.one_each) in
      and_from (is_reached f b) (text_of f b == text) ((of.reached.each b in_graph).1 reached) (eq-eqb (text_of f b) text (of_members f.numbers.now text b i))

  -- ---- which texts are within which

  pub within_held : (text other : ℕ) → other < texts → is_within f of.hold.held text other ≡ true → (other ≡ text → ⊥) × AreHeldBy (graph_of first targets) (blocks_of text) (blocks_of other)
  within_held text other low is =
      let parts = and_parts (not (other == text)) (list_all (of.hold.held other) (blocks_with f (is_own f text))) is in (
        other_than other text parts.0,
        λ b i reached.
            let inside = inside_of text b i in
            let in_graph : b < length targets = omega (arith, inside, of.complete.numbered, of.one_each) in
            (of.hold.holds other b low in_graph).0
            (passes_both (of.hold.held other) (is_own f text) 0 (length f.blocks.now) parts.1 b (omega arith) (omega (arith, inside, of.complete.numbered)) (is_own_of text b i reached)),
      )

  pub held_within : (text other : ℕ) → other < texts → (other ≡ text → ⊥) → AreHeldBy (graph_of first targets) (blocks_of text) (blocks_of other) → is_within f of.hold.held text other ≡ true
  held_within text other low apart by =
      and_from (not (other == text)) (list_all (of.hold.held other) (blocks_with f (is_own f text))) (ap not (ne_eqb other text apart))
      (all_pass (of.hold.held other) (is_own f text) 0 (length f.blocks.now)
      (λ b l h own.
      let parts = and_parts (is_reached f b) (text_of f b == text) own in
      let in_graph : b < length targets = omega (arith, h, of.one_each) in
      (of.hold.holds other b low in_graph).1
      (by b (to_members f.numbers.now text b (omega (arith, h, of.complete.numbered)) (eqb-true (text_of f b) text parts.1)) ((of.reached.each b in_graph).0 parts.0))))

  -- ---- a text that is within no other

  abbrev pub count_within : ℕ → ℕ
  count_within text = length (below texts (is_within f of.hold.held text))

  pub record IsOuter (b : ℕ) : Type 0 where
    pub text : ℕ
    pub low : text < texts
    pub holds : Hold text b
    pub outermost : count_within text ≡ 0

  further : (text other b : ℕ) → text < texts → other < texts → Hold text b → is_within f of.hold.held text other ≡ true → Hold other b × (count_within other < count_within text)
  further text other b low there holds is =
      let by = within_held text other there is in
      let one : AreHeldBy (graph_of first targets) (b ∷ []) (blocks_of text) =
      λ c i reached. ⊎_elim (λ (e : b ≡ c). subst (λ (z : ℕ). Hold text z) e holds) (λ (h : Has [] c). absurd (none_has c h)) (at_head b [] c i) in
      let reached = holder_reached first targets (blocks_of text) b holds in
      let tighter : (u : ℕ) → 0 ≤ u → u < 0 + texts → is_within f of.hold.held other u ≡ true → is_within f of.hold.held text u ≡ true =
      λ u l h more.
      let upper = within_held other u (omega (arith, h)) more in
      let apart : u ≡ text → ⊥ = λ e.
      (none_hold_each_other first targets (blocks_of text) (blocks_of other) (λ c i k. by.0 (sym (of_members f.numbers.now other c k) ∙ of_members f.numbers.now text c i)) by.1
      (subst (λ (z : ℕ). AreHeldBy (graph_of first targets) (blocks_of other) (blocks_of z)) e upper.1) reached.block reached.reached).0 reached.«in» in
      held_within text u (omega (arith, h)) apart (held_in_turn first targets (blocks_of text) (blocks_of other) (blocks_of u) by.1 upper.1) in
      let itself : is_within f of.hold.held other other ≡ false =
      ap (λ (t : Bool). not t && list_all (of.hold.held other) (blocks_with f (is_own f other))) (eq-eqb other other refl) in (
        held_in_turn first targets (b ∷ []) (blocks_of text) (blocks_of other) one by.1 b (here b []) holds.0,
        fewer (is_within f of.hold.held other) (is_within f of.hold.held text) 0 texts tighter other (omega arith) (omega (arith, there)) itself is,
      )

  outer_of : (n text b : ℕ) → text < texts → Hold text b → count_within text ≤ n → IsOuter b
  outer_of zero text b low holds few = record { text = text; low = low; holds = holds; outermost = omega (arith, few) }
  outer_of (suc n) text b low holds few =
      ⊎_elim (λ (some : 0 < count_within text).
      let one = some_passes (is_within f of.hold.held text) 0 texts some in
      let there : one.number < texts = omega (arith, one.high) in
      let next = further text one.number b low there holds one.passes in
      outer_of n one.number b there next.0 (omega (arith, next.1, few)))
      (λ (none : count_within text ≤ 0). record { text = text; low = low; holds = holds; outermost = omega (arith, none) }) (cases_lt 0 (count_within text))

  pub outer : (b : ℕ) → b < length targets → Reach (graph_of first targets) b → IsOuter b
  outer b low reached =
      let inside : b < length f.numbers.now = omega (arith, low, of.one_each, of.complete.numbered) in
      let holds : Hold (text_of f b) b = own_are_held (graph_of first targets) (blocks_of (text_of f b)) b reached (to_members f.numbers.now (text_of f b) b inside refl) in
      outer_of (count_within (text_of f b)) (text_of f b) b (of.complete.of_texts b inside) holds (omega arith)
