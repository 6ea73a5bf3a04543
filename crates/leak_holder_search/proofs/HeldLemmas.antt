-- From an answer about a block of an input to what is found of the core and the logs.
use Rattle.std.proofs.Common.{◌≡◌, ℕ, Bool, List, length, refl, sym, ap, subst, ◌∙◌}
use Rattle.std.specs.Prelude.{slice_index}
use Rattle.leak_blocks.specs.declared.block.Block.{Block}
use Rattle.leak_blocks.specs.Live.{Replay, live_of}
use Rattle.leak_holders.specs.declared.question.Question.{Question}
use Rattle.leak_why.specs.Asked.{AreNotAsked, IsAsked}
use Rattle.leak_search.specs.Search.{graph_of_one}
use Rattle.leak_search.specs.declared.listed.ListedInput.{ListedInput}
use Rattle.leak_search.specs.declared.why.WhyError.{WhyError}
use Rattle.leak_search.specs.declared.why.WhyError.TheVariants.{NoBlock}
use Rattle.leak_search.proofs.InputLemmas.{input_blocks}
use Rattle.leak_holder_search.specs.declared.search.Holding.{Holding}
use Rattle.leak_holder_search.specs.declared.analysis.Analysis.{Analysis}
use Rattle.leak_holder_search.specs.declared.choosing.Choice.{Choice}
use Rattle.leak_holder_search.specs.declared.logs.Logs.{Logs}
use Rattle.leak_holder_search.specs.declared.held.Held.{Held}
use Rattle.leak_holder_search.specs.Answers.{IsChoice, IsHeld}
use Rattle.leak_holder_search.specs.Held.{AreHeld, FindsHeld, IsHeldFault, both, held_text}
use Rattle.leak_holder_search.specs.Analyses.{IsAnalysis, IsAnalysisOf, blocks_in, graph_in, texts_in}
use Rattle.leak_holder_search.specs.Listed.{OfListed}
use Rattle.leak_holder_search.specs.Since.{earlier}
use Rattle.leak_holder_search.proofs.FindLemmas.{alike, blocks_are, few_are, known_are, marked_is, of_listed, texts_are}
use Rattle.leak_holder_search.proofs.GraphLemmas.{same_answer}

finds_with : (a : Analysis) (s : IsAnalysis a) (choice : Choice) (held : Held) (found : Holding) → IsChoice a choice → IsHeld a choice choice.question.side held
    → found.report.items ≡ held_text a.logs.log.now (blocks_in a) choice.block choice.question.side choice.own.items held.told.items (texts_in a) held.parts.items
    → OfListed a.live.now a.listed a.logs (λ input reading. FindsHeld input.image a.logs.log.now (earlier a.logs.since) reading input.skip choice.question found)
finds_with a s choice held found chosen is report input reading it =
    let numbers : List ℕ = a.texts.numbers.items in
    let lines = it.read.0 in
    let blocks = blocks_are a s input reading it in
    record {
      accepted = it.read.1.accepted;
      continued = it.continued;
      lines = lines;
      is_log = it.read.1.is_log;
      few = few_are a s input reading it;
      block = choice.block;
      asked = subst (λ (bs : List Block). IsAsked bs choice.question.address choice.block) blocks chosen.asked;
      set = a.set.items;
      marked = marked_is a s input reading it;
      texts = texts_in a;
      numbers = numbers;
      numbered = texts_are a s input reading it;
      table = is.table;
      known = known_are a s input reading it is.table is.of;
      told = held.told.items;
      parts = held.parts.items;
      are =
          subst (λ (set : List Bool). AreHeld choice.question.side (graph_of_one input.image reading input.skip it.read.0) is.table (length (texts_in a)) set (slice_index numbers choice.block) held.told.items held.parts.items) chosen.set
          (same_answer (graph_in a) (graph_of_one input.image reading input.skip it.read.0) (alike a s input reading it) choice.question.side is.table (length (texts_in a)) choice.set.items (slice_index numbers choice.block) held.told.items held.parts.items is.are);
      report =
          report
          ∙ ap (λ (bs : List Block). held_text a.logs.log.now bs choice.block choice.question.side choice.own.items held.told.items (texts_in a) held.parts.items) blocks
          ∙ ap (λ (own : List Bool). held_text a.logs.log.now (live_of it.read.0) choice.block choice.question.side own held.told.items (texts_in a) held.parts.items)
          (chosen.own ∙ ap (λ (set : List Bool). both set a.set.items) chosen.set);
    }

pub finds_held : (live : Replay) (listed : ListedInput) (logs : Logs) (a : Analysis) → IsAnalysisOf live listed logs a
    → (question : Question) (choice : Choice) (held : Held) (found : Holding) → choice.question ≡ question → IsChoice a choice → IsHeld a choice choice.question.side held
    → found.report.items ≡ held_text a.logs.log.now (blocks_in a) choice.block choice.question.side choice.own.items held.told.items (texts_in a) held.parts.items
    → OfListed live listed logs (λ input reading. FindsHeld input.image logs.log.now (earlier logs.since) reading input.skip question found)
finds_held live listed logs a s question choice held found same chosen is report =
    subst (λ (q : Question). OfListed live listed logs (λ input reading. FindsHeld input.image logs.log.now (earlier logs.since) reading input.skip q found)) same
    (of_listed (λ l input reading. FindsHeld input.image l.log.now (earlier l.since) reading input.skip choice.question found) live listed logs a s
    (finds_with a s.is choice held found chosen is report))

-- no block is asked for
pub none_asked : (live : Replay) (listed : ListedInput) (logs : Logs) (address : ℕ) (e : WhyError)
    → e ≡ NoBlock address → AreNotAsked live.blocks address (length live.blocks)
    → OfListed live listed logs (λ input _. IsHeldFault input.image logs.log.now (earlier logs.since) address e)
none_asked live listed logs address e is none input reading it =
    let blocks : live.blocks ≡ live_of it.read.0 = ap (λ (r : Replay). r.blocks) (sym it.live_is) ∙ input_blocks input.image logs.log.now it.read.0 input it.read.1 in
    subst (λ (f : WhyError). IsHeldFault input.image logs.log.now (earlier logs.since) address f) (sym is) (
      refl,
      it.read.1.accepted,
      it.continued,
      (it.read.0, it.read.1.is_log, subst (λ (bs : List Block). AreNotAsked bs address (length bs)) blocks none),
    )
