-- The page of the entry isn't above the page, and that of the next entry is, if there is one.
use Rattle.std.proofs.Common.{◌+◌, ◌<◌, slice_index_or, ltb→lt, arith}
use Rattle.std.proofs.lemmas.Grind.{get_or_default_zero}
use Rattle.std.proofs.lemmas.Bool.{lt-ltb, eq-eqb}
use Rattle.std.specs.Bool.{passes}
use Rattle.leak_index.proofs.Narrowing.{last_entry}
use Rattle.leak_index.proofs.directory.is_last.Goals as goal

pub returns-then-entry-pages-2 : goal.returns-then-entry-pages-2
returns-then-entry-pages-2 c =
    (λ last. last_entry _ _ _ 0 c.requires c.if-entry-pages.false c.if-pages-entry.false (λ f h. absurd (omega (arith, h, c.if-entry-pages-2.true))), λ up. eq-eqb _ _ c.if-entry-pages-2.true)

pub returns-else-entry-pages-2 : goal.returns-else-entry-pages-2
returns-else-entry-pages-2 c = (
  λ below.
      let next : c.args.page < slice_index_or c.args.pages.now (c.args.entry + 1) 0 = ltb→lt _ _ (passes _ below) in
      last_entry _ _ _ 0 c.requires c.if-entry-pages.false c.if-pages-entry.false (λ f h. omega (arith, next, get_or_default_zero c.args.pages.now (c.args.entry + 1) f h)),
  λ up. lt-ltb _ _ (up.beyond (c.args.entry + 1) 0 (omega arith) (omega (arith, c.if-entry-pages.false, c.if-entry-pages-2.false))),
)
