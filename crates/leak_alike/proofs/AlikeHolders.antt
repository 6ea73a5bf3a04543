-- The graph of alike cores is one, so what holds what is.
use Rattle.std.proofs.Common.{◌↔◌, ℕ, ◌∙◌, List, length, Option, ap, subst}
use Rattle.std.specs.Prelude.{slice_index}
use Rattle.leak_blocks.specs.Live.{live_of}
use Rattle.leak_index.specs.Leads.{Distances}
use Rattle.leak_roots.specs.declared.skip.Skip.{Skip}
use Rattle.leak_marks.specs.Reach.{Graph, Reach}
use Rattle.leak_pool.specs.Marking.{IsSet}
use Rattle.leak_report.specs.declared.head.Head.{Head}
use Rattle.leak_holders.specs.declared.question.Question.{Question}
use Rattle.leak_holder_search.specs.Held.{AreHeld, FindsHeld, chosen_with}
use Rattle.leak_holder_search.specs.Holders.{FindsHolders}
use Rattle.leak_holder_search.specs.Rows.{AreRows}
use Rattle.leak_holder_search.specs.Since.{counted_of, news_of}
use Rattle.leak_holder_search.specs.Text.{holders_text}
use Rattle.leak_holder_search.specs.declared.search.Holding.{Holding}
use Rattle.leak_alike.specs.Alike.{AreAlikeBy}
use Rattle.leak_alike.proofs.AlikeCores.{alike_by_back, graph_same, head_same}
use Rattle.leak_alike.proofs.AlikeRefusals.{core_faultless}

holders_alike : (core other log : List ℕ) (since : Option (List ℕ)) (reading : Distances) (skip : Skip) (found : Holding) → AreAlikeBy log reading skip core other
    → FindsHolders core log since reading skip found → FindsHolders other log since reading skip found
holders_alike core other log since reading skip found alike f =
    let same = alike f.lines f.is_log in
    let graph = graph_same reading f.lines skip core other same in
    record {
      accepted = core_faultless core other same.faults same.note_faults f.accepted;
      continued = f.continued;
      lines = f.lines;
      is_log = f.is_log;
      few = f.few;
      set = f.set;
      marked = subst (λ (g : Graph). IsSet f.set (length (live_of f.lines)) (Reach g)) graph f.marked;
      texts = f.texts;
      numbers = f.numbers;
      numbered = f.numbered;
      rows = f.rows;
      are = subst (λ (g : Graph). AreRows g (live_of f.lines) f.numbers f.set (counted_of since (live_of f.lines)) (length f.texts) f.rows) graph f.are;
      report = f.report
          ∙ ap (λ (head : Head). holders_text head (live_of f.lines) (news_of since (live_of f.lines)) f.set f.texts f.rows)
          (head_same reading f.lines skip core other same log);
    }

pub holders_of_alike_are_one : (core other log : List ℕ) (since : Option (List ℕ)) (reading : Distances) (skip : Skip) (found : Holding) → AreAlikeBy log reading skip core other
    → (FindsHolders core log since reading skip found ↔ FindsHolders other log since reading skip found)
holders_of_alike_are_one core other log since reading skip found alike = (
  holders_alike core other log since reading skip found alike,
  holders_alike other core log since reading skip found (alike_by_back core other log reading skip alike),
)

held_alike : (core other log : List ℕ) (since : Option (List ℕ)) (reading : Distances) (skip : Skip) (question : Question) (found : Holding) → AreAlikeBy log reading skip core other
    → FindsHeld core log since reading skip question found → FindsHeld other log since reading skip question found
held_alike core other log since reading skip question found alike f =
    let same = alike f.lines f.is_log in
    let graph = graph_same reading f.lines skip core other same in
    record {
      accepted = core_faultless core other same.faults same.note_faults f.accepted;
      continued = f.continued;
      lines = f.lines;
      is_log = f.is_log;
      few = f.few;
      block = f.block;
      asked = f.asked;
      set = f.set;
      marked = subst (λ (g : Graph). IsSet f.set (length (live_of f.lines)) (Reach g)) graph f.marked;
      texts = f.texts;
      numbers = f.numbers;
      numbered = f.numbered;
      table = f.table;
      known = f.known;
      told = f.told;
      parts = f.parts;
      are = subst (λ (g : Graph). AreHeld question.side g f.table (length f.texts) (chosen_with f.numbers f.block question.alone) (slice_index f.numbers f.block) f.told f.parts) graph f.are;
      report = f.report;
    }

pub answers_of_alike_are_one : (core other log : List ℕ) (since : Option (List ℕ)) (reading : Distances) (skip : Skip) (question : Question) (found : Holding) → AreAlikeBy log reading skip core other
    → (FindsHeld core log since reading skip question found ↔ FindsHeld other log since reading skip question found)
answers_of_alike_are_one core other log since reading skip question found alike = (
  held_alike core other log since reading skip question found alike,
  held_alike other core log since reading skip question found (alike_by_back core other log reading skip alike),
)
