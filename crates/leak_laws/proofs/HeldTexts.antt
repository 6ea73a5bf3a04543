-- The texts of the other reports and answers are those of blocks of their logs.
use Rattle.std.proofs.Common.{◌≡◌, ℕ, zero, suc, ◌<◌, Bool, true, false, List, [], ◌∷◌, ◌++◌, length, map, filter, Option, None, Some, refl, subst, ◌∙◌}
use Rattle.std.specs.Prelude.{IfSome, if◌then◌else◌, slice_index_or}
use Rattle.std.specs.List.{AllByRecursion, Contains, list_any}
use Rattle.std.proofs.lemmas.Option.{slice_get_within}
use Rattle.leak_elf.specs.Words.{word_of}
use Rattle.leak_notes.specs.Sets.{sets_of}
use Rattle.leak_notes.specs.Threads.{entries}
use Rattle.leak_notes.specs.declared.sets.RegisterSet.{RegisterSet}
use Rattle.leak_blocks.specs.declared.block.Block.{Block}
use Rattle.leak_blocks.specs.Live.{live_of}
use Rattle.leak_index.specs.Hits.{Index}
use Rattle.leak_index.specs.Leads.{Distances}
use Rattle.leak_roots.specs.Places.{Places}
use Rattle.leak_roots.specs.declared.skip.Skip.{Skip}
use Rattle.leak_report.specs.Totals.{marked_in, text_at}
use Rattle.leak_lemmas.proofs.Members.{All-from_each, each_filtered, each_from_All, each_implied, each_mapped, each_append as both_each}
use Rattle.leak_report.specs.Numbered.{AreTexts, text_with, texts_of}
use Rattle.leak_holders.specs.declared.holder.Holder.{Holder}
use Rattle.leak_holders.specs.declared.caller_share.CallerShare.{CallerShare}
use Rattle.leak_holders.specs.declared.question.Question.{Question}
use Rattle.leak_why.specs.Chains.{IsChain, IsWhy}
use Rattle.leak_why.specs.declared.chain.Chain.{Chain}
use Rattle.leak_why.specs.declared.chain.Link.{Link}
use Rattle.leak_why.specs.declared.chain.RootWord.{RootWord}
use Rattle.leak_growth.specs.declared.growth.Grown.{Grown}
use Rattle.leak_growth.specs.Growth.{FindsGrowth}
use Rattle.leak_growth.specs.Report.{growth_with, growths_of}
use Rattle.leak_growth.specs.Rows.{has_changed, rank}
use Rattle.leak_growth.proofs.RankLemmas.{each_ranked}
use Rattle.leak_search.specs.Search.{index_of}
use Rattle.leak_search.specs.declared.why.Why.{Why}
use Rattle.leak_search.specs.Why.{TellsWhy}
use Rattle.leak_holder_search.specs.declared.search.Holding.{Holding}
use Rattle.leak_holder_search.specs.Held.{FindsHeld, both, chosen_with}
use Rattle.leak_holder_search.specs.Holders.{FindsHolders}
use Rattle.leak_laws.specs.HeldOneLine.{AreEntriesOfLines, IsAnswerOfLines, IsWhyOfLines, told_by_answer, told_by_why}
use Rattle.leak_laws.specs.HeldTogether.{told_by_holders}
use Rattle.leak_laws.specs.Readable.{Lacks}
use Rattle.leak_laws.specs.Reports.{sum_of}
use Rattle.leak_laws.specs.ToldAnswers.{ToldRows, told_part, told_rows}
use Rattle.leak_laws.specs.ToldHolders.{told_holder}
use Rattle.leak_laws.specs.ToldWhy.{AreOfBlocks, chain_tells, entry_at, first_by, steps_by}
use Rattle.leak_laws.proofs.AnswerReading.{answer_is_told}
use Rattle.leak_laws.proofs.OneLineTexts.{blocks_lack}
use Rattle.leak_laws.proofs.WhyBytes.{why_is_told}

-- ---- what grew

given_lack : (log : List ℕ) (blocks : List Block) → AllByRecursion (λ b. Lacks 10 (text_at log b.caller)) blocks → AllByRecursion (Lacks 10) (texts_of log blocks)
given_lack log blocks all = each_mapped (λ b. text_at log b.caller) (Lacks 10) blocks all

growths_lack : (log1 log2 : List ℕ) (earlier later : List Block) (after : ℕ) → AllByRecursion (λ b. Lacks 10 (text_at log1 b.caller)) earlier → AllByRecursion (λ b. Lacks 10 (text_at log2 b.caller)) later
    → AllByRecursion (λ g. Lacks 10 g.text) (growths_of log1 earlier log2 later after)
unfolding growths_of
growths_lack log1 log2 earlier later after p q =
    each_ranked rank (λ g. Lacks 10 g.text) (filter (λ g. has_changed g.earlier g.later g.new) (map (growth_with log1 earlier log2 later after) (texts_of log1 earlier ++ texts_of log2 later)))
    (each_implied (λ g. Lacks 10 g.text × (has_changed g.earlier g.later g.new ≡ true)) (λ g. Lacks 10 g.text) (λ g h. h.0) (filter (λ g. has_changed g.earlier g.later g.new) (map (growth_with log1 earlier log2 later after) (texts_of log1 earlier ++ texts_of log2 later)))
    (each_filtered (λ g. has_changed g.earlier g.later g.new) (λ g. Lacks 10 g.text) (map (growth_with log1 earlier log2 later after) (texts_of log1 earlier ++ texts_of log2 later))
    (each_mapped (growth_with log1 earlier log2 later after) (λ g. Lacks 10 g.text) (texts_of log1 earlier ++ texts_of log2 later)
    (both_each (Lacks 10) (texts_of log1 earlier) (texts_of log2 later) (given_lack log1 earlier p) (given_lack log2 later q)))))

pub growth_of_lines : (log1 log2 : List ℕ) (grown : Grown) → (f : FindsGrowth log1 log2 grown) → AllByRecursion (λ g. Lacks 10 g.text) (growths_of log1 (live_of f.before) log2 (live_of f.now) (length f.before))
growth_of_lines log1 log2 grown f = growths_lack log1 log2 (live_of f.before) (live_of f.now) (length f.before) (blocks_lack log1 f.before f.is_before) (blocks_lack log2 f.now f.is_now)

-- ---- texts by number

numbered_lack : (log : List ℕ) (blocks : List Block) (texts : List (List ℕ)) (numbers : List ℕ) → AllByRecursion (λ b. Lacks 10 (text_at log b.caller)) blocks → AreTexts log blocks texts numbers → AllByRecursion (Lacks 10) texts
numbered_lack log blocks texts numbers all are =
    each_implied (Contains (texts_of log blocks)) (Lacks 10)
    (λ t there. subst (Lacks 10) there.2 (All-from_each (Lacks 10) (texts_of log blocks) (given_lack log blocks all) there.0 t there.1)) texts (each_from_All (Contains (texts_of log blocks)) texts are.each)

lacks_at : (texts : List (List ℕ)) (n : ℕ) → AllByRecursion (Lacks 10) texts → Lacks 10 (text_with texts n)
lacks_at [] n all = tt
lacks_at (t ∷ texts) zero all = all.0
lacks_at (t ∷ texts) (suc n) all = lacks_at texts n all.1

each_row : {X : Type 0} (P : X → Type 0) → ((x : X) → P x) → (xs : List X) → AllByRecursion P xs
each_row P all [] = tt
each_row P all (x ∷ xs) = (all x, each_row P all xs)

pub holders_of_lines : (core log : List ℕ) (since : Option (List ℕ)) (reading : Distances) (skip : Skip) (found : Holding) → (f : FindsHolders core log since reading skip found) → AllByRecursion (λ h. Lacks 10 h.text) (told_by_holders f).rows
holders_of_lines core log since reading skip found f =
    let texts = numbered_lack log (live_of f.lines) f.texts f.numbers (blocks_lack log f.lines f.is_log) f.numbered in
    each_mapped (told_holder (live_of f.lines) f.texts) (λ h. Lacks 10 h.text) f.rows (each_row (λ (r : Holder). Lacks 10 (text_with f.texts r.text)) (λ r. lacks_at f.texts r.text texts) f.rows)

-- ---- blocks by number

entry_lacks : (log : List ℕ) (blocks : List Block) (i : ℕ) → AllByRecursion (λ b. Lacks 10 (text_at log b.caller)) blocks → Lacks 10 (text_at log (slice_index_or blocks i (record { start = 0; size = 0; line = 0; caller = (0, 0) })).caller)
entry_lacks log [] i all = (refl, tt)
entry_lacks log (b ∷ blocks) zero all = all.0
entry_lacks log (b ∷ blocks) (suc i) all = entry_lacks log blocks i all.1

rows_lack : (blocks : List Block) (own told : List Bool) (texts : List (List ℕ)) (parts : List CallerShare) → AllByRecursion (Lacks 10) texts → IfSome (told_rows blocks own told texts parts) (λ r. AllByRecursion (λ p. Lacks 10 p.text) r.parts)
rows_lack blocks own told texts parts all = go (list_any (λ x. x) own)
  where
    each : AllByRecursion (λ p. Lacks 10 p.text) (map (told_part texts) parts)
    each = each_mapped (told_part texts) (λ p. Lacks 10 p.text) parts (each_row (λ (p : CallerShare). Lacks 10 (text_with texts p.text)) (λ p. lacks_at texts p.text all) parts)

    go : (b : Bool) → IfSome {T = ToldRows} (if b then Some (record { sum = sum_of (marked_in told blocks); parts = map (told_part texts) parts }) else None) (λ r. AllByRecursion (λ p. Lacks 10 p.text) r.parts)
    go true = each
    go false = tt

pub answer_of_lines : (core log : List ℕ) (since : Option (List ℕ)) (reading : Distances) (skip : Skip) (question : Question) (found : Holding) → (f : FindsHeld core log since reading skip question found) → IsAnswerOfLines found question (told_by_answer f)
answer_of_lines core log since reading skip question found f =
    let all = blocks_lack log f.lines f.is_log in
    record {
      bytes = f.report ∙ answer_is_told log (live_of f.lines) f.block question.side (both (chosen_with f.numbers f.block question.alone) f.set) f.told f.texts f.parts f.asked.inside;
      asked = entry_lacks log (live_of f.lines) f.block all;
      parts = rows_lack (live_of f.lines) (both (chosen_with f.numbers f.block question.alone) f.set) f.told f.texts f.parts (numbered_lack log (live_of f.lines) f.texts f.numbers all f.numbered);
    }

-- ---- why a block is held

holders_inside : (word_at : ℕ → Option ℕ) (index : Index) (p : Places) (root : RootWord) (links : List Link) (block : ℕ) → IsChain word_at index p root links block → AllByRecursion (λ link. link.holder < length index.blocks) links
holders_inside word_at index p root [] block is = tt
holders_inside word_at index p root (link ∷ links) block is = (slice_get_within index.blocks link.holder is.0.holder is.0.is_holder, holders_inside word_at index p root links link.holder is.1)

of_blocks : (word_at : ℕ → Option ℕ) (index : Index) (p : Places) (block : ℕ) (chain : Option Chain) → IsWhy word_at index p block chain → AreOfBlocks index.blocks chain
of_blocks word_at index p block None is = tt
of_blocks word_at index p block (Some chain) is = holders_inside word_at index p chain.root chain.links.items block is.is_chain

steps_lack : (log : List ℕ) (blocks : List Block) (links : List Link) (block : ℕ) → AllByRecursion (λ b. Lacks 10 (text_at log b.caller)) blocks → AllByRecursion (λ s. Lacks 10 s.entry.text) (steps_by log blocks links block)
steps_lack log blocks [] block all = tt
steps_lack log blocks (link ∷ links) block all =
    both_each (λ s. Lacks 10 s.entry.text) (steps_by log blocks links link.holder) (record { address = link.address; word = link.word; entry = entry_at log blocks block } ∷ []) (steps_lack log blocks links link.holder all) (entry_lacks log blocks block all, tt)

chain_lacks : (log : List ℕ) (blocks : List Block) (sets : List RegisterSet) (block : ℕ) (chain : Option Chain) → AllByRecursion (λ b. Lacks 10 (text_at log b.caller)) blocks → IfSome (chain_tells log blocks sets block chain) AreEntriesOfLines
chain_lacks log blocks sets block None all = tt
chain_lacks log blocks sets block (Some chain) all = record { first = entry_lacks log blocks (first_by chain.links.items block) all; steps = steps_lack log blocks chain.links.items block all }

pub why_of_lines : (core log : List ℕ) (reading : Distances) (skip : Skip) (address : ℕ) (found : Why) → (f : TellsWhy core log reading skip address found) → IsWhyOfLines found (told_by_why f)
why_of_lines core log reading skip address found f =
    let all = blocks_lack log f.lines f.is_log in
    record {
      bytes = f.text ∙ why_is_told log (live_of f.lines) (sets_of (entries core)) f.block f.chain f.asked.inside (of_blocks (word_of core) (index_of reading f.lines) f.places f.block f.chain f.why);
      asked = entry_lacks log (live_of f.lines) f.block all;
      chain = chain_lacks log (live_of f.lines) (sets_of (entries core)) f.block f.chain all;
    }
