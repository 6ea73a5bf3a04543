-- From the lemmas of InputLemmas and GraphLemmas.
use Rattle.std.proofs.Common.{◌≡◌, ℕ, List, length, sym, ap, refl, subst, ◌∙◌}
use Rattle.leak_blocks.specs.declared.block.Block.{Block}
use Rattle.leak_blocks.specs.Live.{Replay}
use Rattle.leak_elf.specs.Words.{word_of}
use Rattle.leak_report.specs.Totals.{HaveCallersIn}
use Rattle.leak_report.specs.Numbered.{AreTexts, bytes_each}
use Rattle.leak_holders.specs.Holders.{AreReached}
use Rattle.leak_without.specs.Without.{graph_of}
use Rattle.leak_pool.specs.Listing.{targets_in}
use Rattle.leak_search.specs.Listed.{index_in}
use Rattle.leak_search.proofs.InputLemmas.{as_input, input_callers}
use Rattle.leak_holder_search.specs.Since.{counted_of, earlier}
use Rattle.leak_holder_search.proofs.GraphLemmas.{first_inside, listed_each}
use Rattle.leak_holder_search.proofs.analysis.analysis_of.Goals as goal

pub reached_blocks-requires : goal.reached_blocks-requires
reached_blocks-requires c = record { inside = rw (c.first.ensures) (first_inside c.args.listed.listing) }

pub number_texts-requires-clause-in_log : goal.number_texts-requires-clause-in_log
number_texts-requires-clause-in_log c =
    let it = c.requires.2 in
    subst (λ (bs : List Block). HaveCallersIn c.args.logs.now.log.now bs) (ap (λ (r : Replay). r.blocks) it.live_is ∙ sym c.blocks-2.ensures.value)
    (input_callers _ c.args.logs.now.log.now c.requires.0 it.read)

pub number_texts-requires-clause-few : goal.number_texts-requires-clause-few
number_texts-requires-clause-few c =
    let it = c.requires.2 in
    let by = it.lists it.read.0 (as_input _ _ it.read.0 c.requires.0 it.read.1) in
    rw (c.blocks-2.ensures.value, ← it.live_is) by.listing.few

pub returns : goal.returns
returns c =
    let it = c.requires.2 in
    let input = c.requires.0 in
    let by = it.lists it.read.0 (as_input _ _ it.read.0 input it.read.1) in
    let same : input.live.blocks ≡ c.args.live.now.blocks = ap (λ (r : Replay). r.blocks) it.live_is in
    record {
      is = record {
        one_each = listed_each (word_of input.image) (index_in input c.requires.1) by.places c.args.listed.listing by.listing ∙ ap length same;
        callers = subst (λ (bs : List Block). HaveCallersIn c.args.logs.now.log.now bs) same (input_callers _ c.args.logs.now.log.now input it.read);
        few = rw (← same) by.listing.few;
        reached = subst (λ (first : List ℕ). AreReached (graph_of first (targets_in c.args.listed.listing)) c.in_ok-set.set.items) c.first.ensures c.in_ok-set.ensures;
        numbered =
            subst (λ (bs : List Block). AreTexts c.args.logs.now.log.now bs (bytes_each c.in_ok-texts.texts.texts.items) c.in_ok-texts.texts.numbers.items)
            c.blocks-2.ensures.value c.in_ok-texts.ensures;
        counted = c.in_ok-counted.ensures ∙ ap (counted_of (earlier c.args.logs.now.since)) c.blocks-3.ensures.value;
      };
      live_is = refl;
      listed_is = refl;
      logs_are = refl;
    }
