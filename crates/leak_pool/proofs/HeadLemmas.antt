-- Heads over lists of what blocks lead to.
use Rattle.std.proofs.Common.{◌≡◌, ℕ, zero, suc, ◌+◌, ◌<◌, Bool, true, false, not, ◌&&◌, ◌||◌, ◌==◌, if◌then◌else◌, List, [], ◌∷◌, length, drop, get_or, set, Option, refl, sym, ap, ◌∙◌, subst, arith, eq-eqb, ne_eqb}
use mathlib.Core.Logic.{dite}
use native.Mathlib.Decide.{ℕ_discrete}
use Rattle.std.specs.List.{list_any}
use Rattle.std.proofs.lemmas.List.{get_or-map, get_or-set_same, get_or-set_other}
use Rattle.leak_blocks.specs.declared.block.Block.{Block}
use Rattle.leak_index.specs.Hits.{Index}
use Rattle.leak_scan.specs.Targets.{block_targets}
use Rattle.leak_scan.specs.Dropped.{after_targets}
use Rattle.leak_pool.specs.Items.{targets_of_block}
use Rattle.leak_pool.specs.Scopes.{all_targets}
use Rattle.leak_pool.proofs.ScopeLemmas.{long_all}

-- a target that is not the block itself is dropped
pub target_dropped : (heads : List Bool) (own t : ℕ) (rest : List ℕ) (b : ℕ) → t < length heads → (t ≡ own → ⊥) → after_targets (set heads t false) own rest b ≡ after_targets heads own (t ∷ rest) b
target_dropped heads own t rest b inside other = dite (ℕ_discrete t b) here (λ ne. there ne)
  where
    any : Bool
    any = list_any (λ target. target == b) rest

    gone : (entry is_own : Bool) → is_own ≡ false → (false && not (not is_own && any)) ≡ (entry && not (not is_own && (true || any)))
    gone true true e = cc
    gone true false e = refl
    gone false is_own e = refl

    here : t ≡ b → after_targets (set heads t false) own rest b ≡ after_targets heads own (t ∷ rest) b
    here e =
        let unset : get_or (set heads t false) b false ≡ false = subst (λ (x : ℕ). get_or (set heads t false) x false ≡ false) e (get_or-set_same heads t false false inside) in
        let apart : (own == b) ≡ false = ne_eqb own b (λ is. other (e ∙ sym is)) in
        ap (λ (x : Bool). x && not (not (own == b) && any)) unset
        ∙ gone (get_or heads b false) (own == b) apart
        ∙ ap (λ (x : Bool). get_or heads b false && not (not (own == b) && (x || any))) (sym (eq-eqb t b e))

    there : (t ≡ b → ⊥) → after_targets (set heads t false) own rest b ≡ after_targets heads own (t ∷ rest) b
    there ne =
        ap (λ (x : Bool). x && not (not (own == b) && any)) (get_or-set_other heads t b false false (λ e. ne (sym e)))
        ∙ ap (λ (x : Bool). get_or heads b false && not (not (own == b) && (x || any))) (sym (ne_eqb t b ne))

-- the block itself is not
pub own_stays : (heads : List Bool) (own t : ℕ) (rest : List ℕ) (b : ℕ) → t ≡ own → after_targets heads own rest b ≡ after_targets heads own (t ∷ rest) b
own_stays heads own t rest b is = go (own == b) refl
  where
    any : Bool
    any = list_any (λ target. target == b) rest

    go : (e : Bool) → (own == b) ≡ e → after_targets heads own rest b ≡ after_targets heads own (t ∷ rest) b
    go true e = ap (λ (x : Bool). get_or heads b false && not (not x && any)) e ∙ sym (ap (λ (x : Bool). get_or heads b false && not (not x && ((t == b) || any))) e)
    go false e = ap (λ (x : Bool). get_or heads b false && not (not (own == b) && (x || any))) (sym (ap (λ (x : ℕ). x == b) is ∙ e))

-- what a block leads to, by its words
pub list_of : (word_at : ℕ → Option ℕ) (index : Index) (targets : List (List ℕ)) (k : ℕ) (d : Block) → targets ≡ all_targets word_at index → k < length targets
    → targets_of_block targets k ≡ block_targets word_at index (get_or index.blocks k d)
list_of word_at index targets k d same below =
    let long = ap (λ (ls : List (List ℕ)). length ls) same ∙ long_all word_at index in
    ap (λ (ls : List (List ℕ)). targets_of_block ls k) same ∙ get_or-map (block_targets word_at index) index.blocks k d [] (omega (arith, long, below))
