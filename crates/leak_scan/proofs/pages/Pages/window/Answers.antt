-- The page of the first number that is not below the page of the address.
use Rattle.std.proofs.Common.{arith, ap, length, subst, ◌/◌, List, ℕ}
use Rattle.leak_scan.specs.Windows.{IsCountBelow}
use Rattle.leak_scan.proofs.Listing.{listed_nowhere, window_at}
use Rattle.leak_scan.proofs.pages.Pages.window.Goals as goal

pub returns-then-at-len : goal.returns-then-at-len
returns-then-at-len c =
    let below = subst (λ (xs : List ℕ). IsCountBelow xs (c.args.from / 4096) c.count_below-at.result) c.as_slice.ensures.value c.count_below-at.ensures in
    rw (← c.self.view_is) (λ a l. listed_nowhere _ _ _ below (omega (arith, ap length c.as_slice.ensures.value)) (a / 4096) (omega (arith, l)))

pub returns : goal.returns
returns c =
    let below = subst (λ (xs : List ℕ). IsCountBelow xs (c.args.from / 4096) c.count_below-at.result) c.as_slice.ensures.value c.count_below-at.ensures in
    rw (← c.self.view_is) (window_at _ _ c.count_below-at.result c.index.result.now _ c.self.invariant below (omega (arith, ap length c.as_slice.ensures.value)) (omega arith) (omega arith))
