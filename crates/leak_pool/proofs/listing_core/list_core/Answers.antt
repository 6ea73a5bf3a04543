-- From what each of both lists.
use Rattle.std.proofs.Common.{Vec, Global, length, subst, sym, rules}
use Rattle.leak_pool.specs.Listing.{AreListsOf, AreWithin}
use Rattle.leak_pool.specs.declared.rows.Rows.{Rows}
use Rattle.leak_pool.proofs.listing_core.list_core.Goals as goal

pub returns-clause-value : goal.returns-clause-value
returns-clause-value g c =
    let lists : AreListsOf (g.W.Words.word_at c.args.words.now) (g.L.Lookup.index c.args.lookup.now) c.in-Some.lists = search (c.in_ok-lists.ensures.value, rules) in
    c.with_first.ensures.value _ _ _ lists (record { once = c.in_ok-first.ensures.once; led = c.in_ok-first.ensures.led })

pub returns-clause-within : goal.returns-clause-within
returns-clause-within g c =
    let within : AreWithin (length c.args.live.now.blocks) c.args.team.now.workers c.args.share c.in-Some.lists.rows.items = search (c.in_ok-lists.ensures.within, rules) in
    subst (λ (rows : Vec Rows Global). AreWithin (length c.args.live.now.blocks) c.args.team.now.workers c.args.share rows.items) (sym c.with_first.ensures.rows) within
