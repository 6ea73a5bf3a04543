-- From what was listed, marked and numbered to who holds the memory.
use Rattle.std.proofs.Common.{◌≡◌, ◌≢◌, ◌↔◌, ℕ, ◌-◌, ◌^◌, ◌<◌, ◌≤◌, Bool, true, Err, List, length, Option, None, Some, option_map, ap, sym, subst, ◌∙◌, inr, refl, arith}
use Rattle.std.specs.Prelude.{IsTrue, count_by, nat_lt, slice_index, ◌==◌}
use Rattle.std.specs.Result.{IsErrOf}
use Rattle.std.proofs.lemmas.List.{length-map}
use Rattle.leak_elf.specs.Words.{word_of}
use Rattle.leak_blocks.specs.declared.block.Block.{Block}
use Rattle.leak_blocks.specs.Live.{Replay, live_of}
use Rattle.leak_index.specs.Leads.{Distances}
use Rattle.leak_marks.specs.Reach.{Graph, Reach}
use Rattle.leak_pool.specs.Marking.{IsSet}
use Rattle.leak_report.specs.declared.head.Head.{Head}
use Rattle.leak_report.specs.Totals.{bytes_of}
use Rattle.leak_report.specs.Numbered.{AreTexts}
use Rattle.leak_holders.specs.declared.block_table.BlockTable.{BlockTable}
use Rattle.leak_holders.specs.declared.holder.Holder.{Holder}
use Rattle.leak_holders.specs.Holders.{AreComplete}
use Rattle.leak_pool.specs.declared.error.PoolError.{PoolError}
use Rattle.leak_pool.specs.declared.error.PoolError.TheVariants.{NoMemory as NoMemoryForPool, TooMany as TooManyForPool}
use Rattle.leak_search.specs.declared.error.FindError.TheVariants.{NoMemory}
use Rattle.leak_search.specs.declared.inputs.Input.{Input}
use Rattle.leak_search.specs.declared.listed.ListedInput.{ListedInput}
use Rattle.leak_search.specs.Inputs.{IsRead, IsReadOf, at_marking}
use Rattle.leak_search.specs.Listed.{IsListedBy, index_in}
use Rattle.leak_search.specs.Search.{graph_of_one, head_of_one}
use Rattle.leak_search.proofs.InputLemmas.{as_input, input_blocks}
use Rattle.leak_search.proofs.SearchLemmas.{head_is, marked_graph}
use Rattle.leak_holder_search.specs.declared.search.Holding.{Holding}
use Rattle.leak_holder_search.specs.declared.analysis.Analysis.{Analysis}
use Rattle.leak_holder_search.specs.declared.logs.Logs.{Logs}
use Rattle.leak_holder_search.specs.Holders.{FindsHolders, IsFaultOfHolders}
use Rattle.leak_holder_search.specs.Listed.{IsListedOf, OfListed}
use Rattle.leak_holder_search.specs.Rows.{AreKnown, AreNumbers}
use Rattle.leak_holder_search.specs.Analyses.{IsTableOf, AreRowsIn, IsAnalysis, IsAnalysisOf, blocks_in, graph_in, texts_in}
use Rattle.leak_holder_search.specs.Since.{counted_of, earlier, is_continued_from, news_of}
use Rattle.leak_holder_search.specs.Text.{holders_text}
use Rattle.leak_holder_search.proofs.GraphLemmas.{AreAlike, listed_alike, same_holders, same_marked}
use Rattle.leak_holder_search.proofs.NumberLemmas.{are_numbers}

pub counted_each : (since : Option (List ℕ)) (blocks : List Block) → length (counted_of since blocks) ≡ length blocks
counted_each None blocks = length-map blocks (λ (b : Block). true)
counted_each (Some log) blocks = length-map blocks (λ (b : Block). nat_lt (count_by (λ c. c == 10) log) b.line)

-- too many blocks are a fault, and refused memory is none
pub listing_refused : {A : Type 0} (core log : List ℕ) (since : Option (List ℕ)) (input : Input) (e : PoolError) → IsRead core log input → IsTrue (is_continued_from since log)
    → IsErrOf {T = A} {E = PoolError} (Err e) TooManyForPool ↔ (2 ^ 32 - 1 < length input.live.blocks) → at_marking e ≢ NoMemory → IsFaultOfHolders core log since (at_marking e)
listing_refused core log since input TooManyForPool read continued many other =
    let more : 2 ^ 32 - 1 < length input.live.blocks = many.0 refl in
    inr (inr (
      (record { core_is = read.1.accepted; lines = read.0; log_is = read.1.is_log }),
      refl,
      continued,
      (read.0, read.1.is_log, subst (λ (bs : List Block). 2 ^ 32 ≤ length bs) (input_blocks core log read.0 input read.1) (omega (arith, more))),
    ))
listing_refused core log since input NoMemoryForPool read continued many other = absurd (other refl)

-- ---- what is known of the blocks

module _ (a : Analysis) (s : IsAnalysis a) where
  pub numbers_are : AreNumbers (length (blocks_in a)) (length (texts_in a)) a.texts.numbers.items
  numbers_are = are_numbers a.logs.log.now (blocks_in a) (texts_in a) a.texts.numbers.items s.numbered s.few

  -- there is an entry for each block
  pub marks_each : length a.set.items ≡ length (blocks_in a)
  marks_each = s.reached.len ∙ s.one_each

  pub counts_each : length a.counted.items ≡ length (blocks_in a)
  counts_each = ap length s.counted ∙ counted_each (earlier a.logs.since) (blocks_in a)

  pub complete : (table : BlockTable) → IsTableOf a table → bytes_of table.blocks.now < 2 ^ 64 → AreComplete (length (texts_in a)) table
  complete table k fits =
      let long : length table.blocks.now ≡ length (blocks_in a) = ap length k.of_blocks in
      let numbers : length table.numbers.now ≡ length (blocks_in a) = ap length k.of_texts ∙ numbers_are.one_each in
      record {
        numbered = numbers ∙ sym long;
        of_texts = λ b h. subst (λ (ns : List ℕ). slice_index ns b < length (texts_in a)) (sym k.of_texts) (numbers_are.of_texts b (omega (arith, h, numbers)));
        reached = ap length k.reached ∙ marks_each ∙ sym long;
        counted = ap length k.counts ∙ counts_each ∙ sym long;
        few = subst (λ (m : ℕ). m < 2 ^ 32) (sym long) s.few;
        fits = fits;
      }

  -- what is new, if that alone is counted
  pub news_are : option_map (λ _. a.counted.items) (earlier a.logs.since) ≡ news_of (earlier a.logs.since) (blocks_in a)
  news_are = ap (λ (ts : List Bool). option_map (λ _. ts) (earlier a.logs.since)) s.counted

-- ---- the input

-- the input has the core and the log of which it was read
pub own_read : (core log : List ℕ) (input : Input) → IsRead core log input → IsRead input.image log input
own_read core log input read = (read.0, subst (λ (file : List ℕ). IsReadOf file log read.0 input) (sym read.1.image) read.1)

-- an input whose blocks, lists and logs these are
module _ (a : Analysis) (s : IsAnalysis a) (input : Input) (reading : Distances) (it : IsListedOf a.live.now a.listed a.logs input reading) where
  by : IsListedBy it.read.0 input reading a.listed
  by = it.lists it.read.0 (as_input input.image a.logs.log.now it.read.0 input it.read.1)

  blocks_read : input.live.blocks ≡ live_of it.read.0
  blocks_read = input_blocks input.image a.logs.log.now it.read.0 input it.read.1

  pub blocks_are : blocks_in a ≡ live_of it.read.0
  blocks_are = ap (λ (r : Replay). r.blocks) (sym it.live_is) ∙ blocks_read

  -- the lists lead where a search of the files goes
  pub alike : AreAlike (graph_in a) (graph_of_one input.image reading input.skip it.read.0)
  alike =
      subst (λ (h : Graph). AreAlike (graph_in a) h)
      (marked_graph input.image reading input.skip it.read.0 input.live.blocks (index_in input reading) by.places blocks_read refl by.roots.roots by.roots.links)
      (listed_alike (word_of input.image) (index_in input reading) by.places a.listed.listing by.listing)

  pub marked_is : IsSet a.set.items (length (live_of it.read.0)) (Reach (graph_of_one input.image reading input.skip it.read.0))
  marked_is =
      same_marked (graph_in a) (graph_of_one input.image reading input.skip it.read.0) alike a.set.items (length (live_of it.read.0)) (s.one_each ∙ ap length blocks_are) s.reached

  pub few_are : length (live_of it.read.0) < 2 ^ 32
  few_are = subst (λ (bs : List Block). length bs < 2 ^ 32) blocks_are s.few

  pub texts_are : AreTexts a.logs.log.now (live_of it.read.0) (texts_in a) a.texts.numbers.items
  texts_are = subst (λ (bs : List Block). AreTexts a.logs.log.now bs (texts_in a) a.texts.numbers.items) blocks_are s.numbered

  -- the table has the entries of the log's live blocks
  pub known_are : (table : BlockTable) → IsTableOf a table
      → AreKnown (live_of it.read.0) a.texts.numbers.items a.set.items (counted_of (earlier a.logs.since) (live_of it.read.0)) table
  known_are table k = record {
    of_blocks = k.of_blocks ∙ blocks_are;
    of_texts = k.of_texts;
    reached = k.reached;
    counts = k.counts ∙ s.counted ∙ ap (counted_of (earlier a.logs.since)) blocks_are;
  }

  finds_with : (rows : List Holder) (found : Holding) → AreRowsIn a rows
      → found.report.items ≡ holders_text a.listed.head (blocks_in a) (news_of (earlier a.logs.since) (blocks_in a)) a.set.items (texts_in a) rows
      → FindsHolders input.image a.logs.log.now (earlier a.logs.since) reading input.skip found
  finds_with rows found are report = record {
    accepted = it.read.1.accepted;
    continued = it.continued;
    lines = it.read.0;
    is_log = it.read.1.is_log;
    few = few_are;
    set = a.set.items;
    marked = marked_is;
    texts = texts_in a;
    numbers = a.texts.numbers.items;
    numbered = texts_are;
    rows = rows;
    are = record {
      table = are.table;
      known = known_are are.table are.known;
      holders = same_holders (graph_in a) (graph_of_one input.image reading input.skip it.read.0) alike are.table (length (texts_in a)) rows are.holders;
    };
    report =
        report
        ∙ ap (λ (h : Head). holders_text h (blocks_in a) (news_of (earlier a.logs.since) (blocks_in a)) a.set.items (texts_in a) rows)
        (by.head_is ∙ head_is input.image a.logs.log.now it.read.0 input by.places None it.read.1 by.roots.roots)
        ∙ ap (λ (bs : List Block). holders_text (head_of_one input.image a.logs.log.now input.skip it.read.0) bs (news_of (earlier a.logs.since) bs) a.set.items (texts_in a) rows) blocks_are;
  }

-- what holds by the blocks, lists and logs of an analysis holds by those that it is of
pub of_listed : (P : Logs → Input → Distances → Type 0) (live : Replay) (listed : ListedInput) (logs : Logs) (a : Analysis) → IsAnalysisOf live listed logs a
    → OfListed a.live.now a.listed a.logs (P a.logs) → OfListed live listed logs (P logs)
of_listed P live listed logs a s each input reading it =
    subst (λ (l : Logs). P l input reading) s.logs_are
    (each input reading
    (subst (λ (l : Logs). IsListedOf a.live.now a.listed l input reading) (sym s.logs_are)
    (subst (λ (l : ListedInput). IsListedOf a.live.now l logs input reading) (sym s.listed_is)
    (subst (λ (r : Replay). IsListedOf r listed logs input reading) (sym s.live_is) it))))

pub finds_holders : (live : Replay) (listed : ListedInput) (logs : Logs) (a : Analysis) → IsAnalysisOf live listed logs a
    → (rows : List Holder) (found : Holding) → AreRowsIn a rows
    → found.report.items ≡ holders_text a.listed.head (blocks_in a) (news_of (earlier a.logs.since) (blocks_in a)) a.set.items (texts_in a) rows
    → OfListed live listed logs (λ input reading. FindsHolders input.image logs.log.now (earlier logs.since) reading input.skip found)
finds_holders live listed logs a s rows found are report =
    of_listed (λ l input reading. FindsHolders input.image l.log.now (earlier l.since) reading input.skip found) live listed logs a s
    (λ input reading it. finds_with a s.is input reading it rows found are report)
