-- The first number that is not below the page is the page, or none is.
use Rattle.std.proofs.Common.{arith, sym, ◌∙◌, ap, subst, length, ◌==◌, List, ℕ}
use Rattle.std.proofs.lemmas.Bool.{le-ltb}
use Rattle.leak_scan.specs.Windows.{IsCountBelow}
use Rattle.leak_scan.proofs.Listing.{listed_here, listed_nowhere}
use Rattle.leak_scan.proofs.pages.Pages.has.Goals as goal

pub returns-then-at-len : goal.returns-then-at-len
returns-then-at-len c =
    let below = subst (λ (xs : List ℕ). IsCountBelow xs c.args.page c.count_below-at.result) c.as_slice.ensures.value c.count_below-at.ensures in
    rw (← c.self.view_is) (ap (λ n. n == c.args.page) c.index.ensures ∙ sym (listed_here _ _ _ c.index.result.now c.self.invariant below (omega (arith, ap length c.as_slice.ensures.value))))

pub returns-else-at-len : goal.returns-else-at-len
returns-else-at-len c =
    let below = subst (λ (xs : List ℕ). IsCountBelow xs c.args.page c.count_below-at.result) c.as_slice.ensures.value c.count_below-at.ensures in
    rw (← c.self.view_is) (le-ltb _ _ c.if-at-len.false ∙ sym (listed_nowhere _ _ _ below (omega (arith, ap length c.as_slice.ensures.value)) c.args.page (omega arith)))
