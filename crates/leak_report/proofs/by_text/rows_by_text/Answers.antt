-- One more leaked block, with a greater key, the last one or a lesser one.
use Rattle.std.proofs.Common.{◌≡◌, ℕ, List, ◌-◌, ◌<◌, ◌^◌, length, map, take, get_or, Option, Some, refl, sym, ap, subst, ◌∙◌, arith}
use denote.Ref.{Bor}
use Rattle.std.specs.declared.cmp.Ordering.TheVariants.{Equal}
use Rattle.std.proofs.lemmas.List.{take_all}
use Rattle.leak_report.specs.declared.grouping.PlacedLeak.{PlacedLeak}
use Rattle.leak_report.specs.declared.by_text.Leaked.{Leaked}
use Rattle.leak_report.specs.declared.totals.CallerRow.{CallerRow}
use Rattle.leak_report.specs.Places.{place_of}
use Rattle.leak_report.specs.Totals.{Leak}
use Rattle.leak_report.specs.Groups.{Key, HasRoom, with_leak, AreEntries}
use Rattle.leak_report.specs.Listing.{AreByPlace, IsComplete, leak_of, order_after}
use Rattle.leak_report.proofs.Ascending.{AreAscending, ascending_more, ascending_same, ascending_all, last_is_ready}
use Rattle.leak_report.proofs.Listed.{entries_sorted, inside_sorted, sorted_more}
use Rattle.leak_report.proofs.by_text.rows_by_text.Goals as goal
use Rattle.leak_report.proofs.by_text.rows_by_text.Goals.{in-Less+in_ok-push-in-Less, in-Equal}

no_leak : PlacedLeak
no_leak = record { place = 0; number = 0 }

no_row : CallerRow
no_row = record { blocks = 0; bytes = 0; heads = 0; caller = (0, 0) }

-- if the leaked block at i has the key of the last row, there is a last row, and it has room for the block
last_row : {l : Leaked} {leaks items : List PlacedLeak} {i : ℕ} (text : Bor (List ℕ)) (rows : List CallerRow) (last : Option Key) (d : CallerRow)
    → IsComplete l → AreByPlace l.prefix.now l.log.now l.leaks.now leaks → items ≡ leaks → i < length items → length l.leaks.now < 2 ^ 64
    → AreAscending l.prefix.now l.log.now (map (leak_of l.leaks.now) (take i items)) rows last → order_after last ((get_or items i no_leak).place, text) ≡ Equal
    → (0 < length rows) × HasRoom (get_or rows (length rows - 1) d) (leak_of l.leaks.now (get_or items i no_leak)).block
last_row {l} {leaks} {items} {i} text rows last d all by same h few are is =
    last_is_ready l.prefix.now l.log.now l.leaks.now items i no_leak rows ((get_or items i no_leak).place, text) last d
    (subst (AreByPlace l.prefix.now l.log.now l.leaks.now) (sym same) by) h few all.fits are is

pub loop-at-init : goal.loop-at-init
loop-at-init c = (c.new-rows.ensures.items, refl)

pub offset_bounds-leaks-at : goal.offset_bounds-leaks-at
unfolding no_leak
offset_bounds-leaks-at c =
    let l = c.args.leaked.now in
    let i = inside_sorted l.prefix.now l.log.now l.leaks.now c.in_ok-placed.placed.items c.as_slice-at-items.result.now c.loop-at.at-index no_leak c.in_ok-placed.ensures c.as_slice-at-items.ensures.value c.loop-at-test.true in
    let h = i.inside in omega arith

pub bounds-leaks-at : goal.bounds-leaks-at
unfolding no_leak
bounds-leaks-at c =
    let l = c.args.leaked.now in
    let i = inside_sorted l.prefix.now l.log.now l.leaks.now c.in_ok-placed.placed.items c.as_slice-at-items.result.now c.loop-at.at-index no_leak c.in_ok-placed.ensures c.as_slice-at-items.ensures.value c.loop-at-test.true in
    i.inside

pub overflow_sub-end : goal.overflow_sub-end
unfolding no_leak
overflow_sub-end c =
    let ready = last_row c.caller_text.result c.loop-at.rows.items c.loop-at.last no_row c.requires c.in_ok-placed.ensures c.as_slice-at-items.ensures.value c.loop-at-test.true
    (omega arith) c.loop-at.invariant (sym c.order.ensures ∙ c.in-Equal.is) in
    omega (arith, ready.0, c.len-end.ensures)

pub index-requires : goal.index-requires
unfolding no_leak
index-requires c =
    let ready = last_row c.caller_text.result c.loop-at.rows.items c.loop-at.last no_row c.requires c.in_ok-placed.ensures c.as_slice-at-items.ensures.value c.loop-at-test.true
    (omega arith) c.loop-at.invariant (sym c.order.ensures ∙ c.in-Equal.is) in
    omega (arith, ready.0, c.len-end.ensures)

pub longer_row-requires : goal.longer_row-requires
unfolding no_leak
longer_row-requires c =
    let l = c.args.leaked.now in
    let items = c.as_slice-at-items.result.now in
    let ready = last_row c.caller_text.result c.loop-at.rows.items c.loop-at.last c.index.result.now c.requires c.in_ok-placed.ensures c.as_slice-at-items.ensures.value c.loop-at-test.true
    (omega arith) c.loop-at.invariant (sym c.order.ensures ∙ c.in-Equal.is) in
    let size : c.len-end.result ≡ length c.loop-at.rows.items = omega (arith, c.len-end.ensures) in
    let at : c.index.result.now ≡ get_or c.loop-at.rows.items (length c.loop-at.rows.items - 1) c.index.result.now =
    c.index.ensures ∙ ap (λ (n : ℕ). get_or c.loop-at.rows.items (n - 1) c.index.result.now) size in
    subst (λ (r : CallerRow). HasRoom r (leak_of l.leaks.now (get_or items c.loop-at.at-index no_leak)).block) (sym at) ready.1

pub index_mut-requires : goal.index_mut-requires
unfolding no_leak
index_mut-requires c =
    let ready = last_row c.caller_text.result c.loop-at.rows.items c.loop-at.last no_row c.requires c.in_ok-placed.ensures c.as_slice-at-items.ensures.value c.loop-at-test.true
    (omega arith) c.loop-at.invariant (sym c.order.ensures ∙ c.in-Equal.is) in
    omega (arith, ready.0, c.len-end.ensures)

pub loop-at-preserved : goal.loop-at-preserved
unfolding no_leak no_row
loop-at-preserved c =
    let l = c.args.leaked.now in
    let items = c.as_slice-at-items.result.now in
    let key : Key = ((get_or items c.loop-at.at-index no_leak).place, c.caller_text.result) in
    let leak : Leak = leak_of l.leaks.now (get_or items c.loop-at.at-index no_leak) in
    let before : List Leak = map (leak_of l.leaks.now) (take c.loop-at.at-index items) in
    let i = inside_sorted l.prefix.now l.log.now l.leaks.now c.in_ok-placed.placed.items items c.loop-at.at-index no_leak c.in_ok-placed.ensures c.as_slice-at-items.ensures.value c.loop-at-test.true in
    let place : key.0 ≡ place_of l.prefix.now key.1.now = i.place ∙ ap (place_of l.prefix.now) (sym c.caller_text.ensures) in
    let more = sorted_more l.leaks.now items c.loop-at.at-index no_leak c.loop-at-test.true in
    elim c.match-order.branch [
      | in-Less+in_ok-push-in-Less w ↦
          rw (w.rows-is, w.last-is, w.in_ok-push-in-Less.ensures.items, w.first_row.ensures, more)
          (ascending_more l.prefix.now l.log.now before c.loop-at.rows.items key leak place c.caller_text.ensures c.loop-at.last c.loop-at.invariant (sym c.order.ensures ∙ w.in-Less.is))
      | in-Equal w ↦
          let size : w.len-end.result ≡ length c.loop-at.rows.items = omega (arith, w.len-end.ensures) in
          let at : w.index.result.now ≡ get_or c.loop-at.rows.items (length c.loop-at.rows.items - 1) w.index.result.now =
          w.index.ensures ∙ ap (λ (n : ℕ). get_or c.loop-at.rows.items (n - 1) w.index.result.now) size in
          let longer : w.longer_row.result ≡ with_leak (Some (get_or c.loop-at.rows.items (length c.loop-at.rows.items - 1) w.index.result.now)) leak =
          w.longer_row.ensures ∙ ap (λ (r : CallerRow). with_leak (Some r) leak) at in
          rw (w.rows-is, w.last-is, size, longer, more)
          (ascending_same l.prefix.now l.log.now before c.loop-at.rows.items key leak place c.caller_text.ensures c.loop-at.last w.index.result.now c.loop-at.invariant (sym c.order.ensures ∙ w.in-Equal.is))
    ]

pub returns : goal.returns
returns c =
    let l = c.args.leaked.now in
    let items = c.as_slice-at-items.result.now in
    let by : AreByPlace l.prefix.now l.log.now l.leaks.now items = subst (AreByPlace l.prefix.now l.log.now l.leaks.now) (sym c.as_slice-at-items.ensures.value) c.in_ok-placed.ensures in
    let all = ascending_all l.prefix.now l.log.now _ c.loop-at.rows.items c.loop-at.last c.loop-at.invariant in
    record {
      entries = all.entries;
      ordered = all.ordered;
      are = entries_sorted l.prefix.now l.log.now l.leaks.now items all.entries by
          (subst (λ (xs : List PlacedLeak). AreEntries l.prefix.now l.log.now (map (leak_of l.leaks.now) xs) all.entries) (take_all c.loop-at.at-index items c.loop-at-test.false) all.are);
      listed = all.listed;
    }
