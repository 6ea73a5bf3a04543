-- From the lemmas of FindLemmas.
use Rattle.std.proofs.Common.{◌≡◌, ◌++◌, ◌∙◌, Bool, List, Option, ap, flat_map, option_map, string_bytes}
use Rattle.leak_report.specs.Numbered.{bytes_each}
use Rattle.leak_holder_search.specs.Analyses.{blocks_in, texts_in}
use Rattle.leak_holder_search.specs.Since.{earlier, news_of}
use Rattle.leak_holder_search.specs.Text.{holders_text, line_of, sums_of}
use Rattle.leak_holder_search.proofs.FindLemmas.{news_are}
use Rattle.leak_holder_search.proofs.report.text.Goals as goal

pub returns : goal.returns
unfolding holders_text
returns c =
    let a = c.args.analysis.now in
    let news : Option (List Bool) = news_of (earlier a.logs.since) (blocks_in a) in
    let sums : string_bytes c.in_ok-first.first ≡ sums_of a.listed.head (blocks_in a) news a.set.items =
    c.in_ok-first.ensures
    ∙ ap (λ (ns : Option (List Bool)). sums_of a.listed.head (blocks_in a) ns c.as_slice-2.result.now)
    (c.new-new.ensures ∙ ap (λ (ts : List Bool). option_map (λ _. ts) (earlier a.logs.since)) c.as_slice.ensures.value ∙ news_are a c.requires.known)
    ∙ ap (sums_of a.listed.head (blocks_in a) news) c.as_slice-2.ensures.value in
    c.in_ok-push_holders.ensures
    ∙ ap (λ bs. c.into_bytes-out.result.items ++ flat_map (line_of bs (bytes_each c.as_slice-texts.result.now)) c.args.rows.now) c.blocks-2.ensures.value
    ∙ ap (λ ts. c.into_bytes-out.result.items ++ flat_map (line_of (blocks_in a) (bytes_each ts)) c.args.rows.now) c.as_slice-texts.ensures.value
    ∙ ap (λ t. t ++ flat_map (line_of (blocks_in a) (texts_in a)) c.args.rows.now) (ap (λ v. v.items) c.into_bytes-out.ensures.value ∙ sums)
