-- From the lemmas of Joins and Listed.
use Rattle.std.proofs.Common.{List, map, take, get_or, refl, sym, ap, subst, ◌∙◌, arith}
use Rattle.std.proofs.lemmas.List.{take_all}
use Rattle.leak_report.specs.declared.grouping.PlacedLeak.{PlacedLeak}
use Rattle.leak_report.specs.Places.{place_of}
use Rattle.leak_report.specs.Totals.{Leak}
use Rattle.leak_report.specs.Groups.{Key, AreGroups}
use Rattle.leak_report.specs.Listing.{leak_of}
use Rattle.leak_report.proofs.Joins.{AreEntries-push, row_at}
use Rattle.leak_report.proofs.Listed.{entries_sorted, inside_sorted, sorted_fits, sorted_more, sorted_none}
use Rattle.leak_report.proofs.grouping.leaked_groups.Goals as goal

no_leak : PlacedLeak
no_leak = record { place = 0; number = 0 }

pub loop-at-init : goal.loop-at-init
loop-at-init c =
    let l = c.args.leaked.now in
    sorted_none l.prefix.now l.log.now c.new-groups.result.entries c.new-groups.ensures.empty

pub offset_bounds-leaks-at : goal.offset_bounds-leaks-at
unfolding no_leak
offset_bounds-leaks-at c =
    let l = c.args.leaked.now in
    let i = inside_sorted l.prefix.now l.log.now l.leaks.now c.args.placed.now c.args.placed.now c.loop-at.at-index no_leak c.requires.by_place refl c.loop-at-test.true in
    let h = i.inside in omega arith

pub bounds-leaks-at : goal.bounds-leaks-at
unfolding no_leak
bounds-leaks-at c =
    let l = c.args.leaked.now in
    let i = inside_sorted l.prefix.now l.log.now l.leaks.now c.args.placed.now c.args.placed.now c.loop-at.at-index no_leak c.requires.by_place refl c.loop-at-test.true in
    i.inside

pub add-requires : goal.add-requires
unfolding no_leak
add-requires c =
    let l = c.args.leaked.now in
    let by = c.requires.by_place in
    let i = inside_sorted l.prefix.now l.log.now l.leaks.now c.args.placed.now c.args.placed.now c.loop-at.at-index no_leak c.requires.by_place refl c.loop-at-test.true in
    let before : List Leak = map (leak_of l.leaks.now) (take c.loop-at.at-index c.args.placed.now) in
    let key : Key = ((get_or c.args.placed.now c.loop-at.at-index no_leak).place, c.caller_text.result) in
    sorted_fits l.prefix.now l.log.now l.leaks.now c.args.placed.now c.loop-at.at-index no_leak c.caller_text.result.now _ by
    (row_at l.prefix.now l.log.now before c.loop-at.groups.entries c.loop-at.invariant key (i.place ∙ ap (place_of l.prefix.now) (sym c.caller_text.ensures)))
    c.loop-at-test.true (omega arith) c.requires.complete.fits

pub loop-at-preserved : goal.loop-at-preserved
unfolding no_leak
loop-at-preserved c =
    let l = c.args.leaked.now in
    let i = inside_sorted l.prefix.now l.log.now l.leaks.now c.args.placed.now c.args.placed.now c.loop-at.at-index no_leak c.requires.by_place refl c.loop-at-test.true in
    let before : List Leak = map (leak_of l.leaks.now) (take c.loop-at.at-index c.args.placed.now) in
    let leak : Leak = leak_of l.leaks.now (get_or c.args.placed.now c.loop-at.at-index no_leak) in
    let key : Key = ((get_or c.args.placed.now c.loop-at.at-index no_leak).place, c.caller_text.result) in
    subst (λ (ls : List Leak). AreGroups l.prefix.now l.log.now ls c.add.new.groups)
    (sym (sorted_more l.leaks.now c.args.placed.now c.loop-at.at-index no_leak c.loop-at-test.true))
    (AreEntries-push l.prefix.now l.log.now before leak key c.loop-at.groups.entries c.add.new.groups.entries
    c.loop-at.invariant (i.place ∙ ap (place_of l.prefix.now) (sym c.caller_text.ensures)) c.caller_text.ensures c.in_ok-add.ensures)

pub returns : goal.returns
returns c =
    let l = c.args.leaked.now in
    let by = c.requires.by_place in
    entries_sorted l.prefix.now l.log.now l.leaks.now c.args.placed.now c.loop-at.groups.entries by
    (subst (λ (xs : List PlacedLeak). AreGroups l.prefix.now l.log.now (map (leak_of l.leaks.now) xs) c.loop-at.groups)
    (take_all c.loop-at.at-index c.args.placed.now c.loop-at-test.false) c.loop-at.invariant)
