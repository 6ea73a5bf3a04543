-- From what the thread found and what the team listed.
use Rattle.std.proofs.Common.{◌∙◌, Ok, Vec, Global, length, ap, subst, sym}
use Rattle.leak_elf.specs.Words.{word_of}
use Rattle.leak_index.specs.Hits.{Index}
use Rattle.leak_pool.specs.Listing.{AreWithin, IsListingOf}
use Rattle.leak_pool.specs.declared.rows.Rows.{Rows}
use Rattle.leak_search.specs.Listed.{AreBlocksListed, IsFirstListed}
use Rattle.leak_search.proofs.ListedLemmas.{not_told}
use Rattle.leak_search.proofs.listing_input.list_beside.Goals as goal

pub returns : goal.returns
returns g c =
    let input = c.args.input.now in
    let index = c.in_ok-lookup.lookup in
    let first = subst (IsFirstListed input index) c.in_ok-head.was c.join-first.ensures.first in
    let blocks = subst (AreBlocksListed input index c.args.team.now.workers c.args.share) (c.in_ok-lists.was ∙ ap Ok c.in-Some.is) c.join-first.ensures.second in
    record {
      many = λ e. not_told _ _ e;
      value = λ lines is.
          let it = first.led lines is in
          record {
            places = it.places;
            roots = it.roots;
            head_is = it.head_is;
            listing = subst (λ (i : Index). IsListingOf (word_of input.image) i it.places c.with_first-listing.result) c.in_ok-lookup.ensures
                (c.with_first-listing.ensures.value _ _ _ blocks.value it.blocks);
          };
      within = subst (λ (rows : Vec Rows Global). AreWithin (length input.live.blocks) c.args.team.now.workers c.args.share rows.items) (sym c.with_first-listing.ensures.rows) blocks.within;
      over = _;
    }
