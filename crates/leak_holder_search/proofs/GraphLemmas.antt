-- Graphs that begin with the same blocks, listed in another way.
use Rattle.std.proofs.Common.{◌≡◌, ◌↔◌, ℕ, ◌<◌, Bool, true, false, List, length, get_or, Option, Some, sym, ap, subst, ◌∙◌, arith}
use Rattle.std.specs.Prelude.{IsTrue}
use Rattle.std.proofs.lemmas.List.{length-map}
use Rattle.std.proofs.lemmas.Option.{get_or_from_slice_get, slice_get-get_or}
use Rattle.leak_index.specs.Hits.{Index}
use Rattle.leak_roots.specs.Places.{Places}
use Rattle.leak_scan.specs.Targets.{block_targets}
use Rattle.leak_marks.specs.Lists.{Has}
use Rattle.leak_marks.specs.Reach.{Graph, Reach}
use Rattle.leak_marks.proofs.ReachLemmas.{reach_same}
use Rattle.leak_without.specs.Without.{IsHeldBy, chosen, graph_of as graph_by, without}
use Rattle.leak_pool.specs.Listing.{IsListingOf, targets_in}
use Rattle.leak_pool.specs.ListsLaw.{long_lists}
use Rattle.leak_pool.specs.Marking.{IsSet, graph_of, graph_of_roots}
use Rattle.leak_pool.specs.declared.listing.Listing.{Listing}
use Rattle.leak_holders.specs.declared.block_table.BlockTable.{BlockTable}
use Rattle.leak_holders.specs.declared.holder.Holder.{Holder}
use Rattle.leak_holders.specs.declared.caller_share.CallerShare.{CallerShare}
use Rattle.leak_holders.specs.declared.question.Side.{Side}
use Rattle.leak_holders.specs.declared.question.Side.TheVariants.{In, Of}
use Rattle.leak_holders.specs.Holders.{AreHolders, AreReached}
use Rattle.leak_holders.specs.Parts.{AreHoldersOf, counted_in}
use Rattle.leak_holder_search.specs.Held.{AreHeld}

pub record AreAlike (g h : Graph) : Type 0 where
  pub first : (b : ℕ) → Has g.first b ↔ Has h.first b
  pub given : (b : ℕ) → Has g.given b ↔ Has h.given b
  pub targets : g.targets ≡ h.targets

-- what was listed of a memory, and what leads to what in it
pub listed_alike : (word_at : ℕ → Option ℕ) (index : Index) (places : Places) (l : Listing) → IsListingOf word_at index places l
    → AreAlike (graph_by l.first.items (targets_in l)) (graph_of_roots word_at index places)
unfolding graph_of
listed_alike word_at index places l is = record { first = is.first; given = λ b. ((λ h. h), (λ h. h)); targets = is.targets }

-- there is a list for each block
pub listed_each : (word_at : ℕ → Option ℕ) (index : Index) (places : Places) (l : Listing) → IsListingOf word_at index places l → length (targets_in l) ≡ length index.blocks
listed_each word_at index places l is = ap length is.targets ∙ length-map index.blocks (block_targets word_at index)

-- root words lead to blocks
pub first_inside : (l : Listing) (b : ℕ) → Has l.first.items b → b < length (targets_in l)
first_inside l b h =
    let below = l.inside.of_roots b h in
    let long = long_lists l.blocks l.size l.rows.items in omega (arith, below, long)

module _ (g h : Graph) (alike : AreAlike g h) where
  same_reach : (b : ℕ) → Reach g b ↔ Reach h b
  same_reach b = reach_same g h alike.first alike.given alike.targets b

  same_held : (set : List ℕ) (b : ℕ) → IsHeldBy g set b ↔ IsHeldBy h set b
  same_held set b =
      let less = reach_same (without g set) (without h set) alike.first (λ x. ((λ i. i), (λ i. i))) alike.targets b in (
        (λ p. ((same_reach b).0 p.0, (λ r. p.1 (less.1 r)))),
        (λ p. ((same_reach b).1 p.0, (λ r. p.1 (less.0 r)))),
      )

  below : (b : ℕ) → b < length h.targets → b < length g.targets
  below b inside = subst (λ (ts : List (List ℕ)). b < length ts) (sym alike.targets) inside

  -- so the rows are the same
  pub same_holders : (f : BlockTable) (texts : ℕ) (rows : List Holder) → AreHolders g f texts rows → AreHolders h f texts rows
  same_holders f texts rows x = record {
    held = x.held;
    holds = λ text b t inside. (
      (λ is. (same_held _ b).0 ((x.holds text b t (below b inside)).0 is)),
      (λ is. (x.holds text b t (below b inside)).1 ((same_held _ b).1 is)),
    );
    are = x.are;
  }

  same_holders_of : (f : BlockTable) (texts : ℕ) (set : List Bool) (but : ℕ) (rows : List CallerShare) → AreHoldersOf g f texts set but rows
      → AreHoldersOf h f texts set but rows
  same_holders_of f texts set but rows x = record { holders = x.holders; hold = same_holders (counted_in f set) texts x.holders x.hold; are = x.are }

  -- and what a set holds
  same_held_each : (set : List ℕ) (held : List Bool) → ((b : ℕ) → b < length g.targets → IsTrue (get_or held b false) ↔ IsHeldBy g set b)
      → (b : ℕ) → b < length h.targets → IsTrue (get_or held b false) ↔ IsHeldBy h set b
  same_held_each set held each b inside = (
    (λ is. (same_held set b).0 ((each b (below b inside)).0 is)),
    (λ is. (each b (below b inside)).1 ((same_held set b).1 is)),
  )

  -- so an answer about chosen blocks is the same
  pub same_answer : (side : Side) (f : BlockTable) (texts : ℕ) (set : List Bool) (but : ℕ) (told : List Bool) (parts : List CallerShare) → AreHeld side g f texts set but told parts
      → AreHeld side h f texts set but told parts
  same_answer In f texts set but told parts x = record {
    held = x.held;
    len = x.len ∙ ap length alike.targets;
    holds = same_held_each (chosen set) x.held x.holds;
    told_are = x.told_are;
    rows = x.rows;
  }
  same_answer Of f texts set but told parts x = record { told_are = x.told_are; rows = same_holders_of f texts set but parts x.rows }

  -- and what is marked
  pub same_marked : (set : List Bool) (n : ℕ) → length g.targets ≡ n → AreReached g set → IsSet set n (Reach h)
  same_marked set n many reached =
      record {
        len = reached.len ∙ many;
        each = λ b inside.
            let within : b < length g.targets = omega (arith, inside, many) in
            let given : b < length set = omega (arith, within, reached.len) in (
              (λ e. (same_reach b).0 ((reached.each b within).0 (get_or_from_slice_get set b true false e))),
              (λ r. slice_get-get_or set b false given ∙ ap (λ (t : Bool). Some t) ((reached.each b within).1 ((same_reach b).1 r))),
            );
      }
