-- A run that tells what is held, or what grew, is a function of its inputs.
use Rattle.std.proofs.Common.{◌≡◌, ℕ, Bool, List, [], ◌∷◌, length, Option, None, Some, sym, ap, subst, ◌∙◌}
use Rattle.std.specs.Io.KnownBytes.{Appends}
use Rattle.std.specs.Prelude.{slice_get}
use Rattle.leak_index.specs.Leads.{Distances}
use Rattle.leak_index.specs.Readings.{distances_of}
use Rattle.leak_roots.specs.declared.skip.Skip.{Skip}
use Rattle.leak_search.specs.Signs.{AreSigns}
use Rattle.leak_holders.specs.declared.question.Question.{Question}
use Rattle.leak_request.specs.declared.options.GrowOptions.{GrowOptions}
use Rattle.leak_request.specs.declared.options.Options.{Options}
use Rattle.leak_search.specs.Why.{TellsWhy}
use Rattle.leak_holder_search.specs.declared.search.Holding.{Holding}
use Rattle.leak_holder_search.specs.Held.{FindsHeld}
use Rattle.leak_holder_search.specs.Holders.{FindsHolders}
use Rattle.leak_find.specs.Answers.{Holds, TellsChain, TellsGrowth, TellsHolding, leaked_if_not}
use Rattle.leak_find.specs.Inputs.{input_at}
use Rattle.leak_find.specs.Run.{Runs}
use Rattle.leak_find.specs.Tasks.{limit_at}
use Rattle.leak_find.specs.declared.task.Task.TheVariants.{Grow, Holders, Why}
use Rattle.leak_find.specs.Streams.{by_bytes_held, by_bytes_left}
use Rattle.leak_laws.specs.Runs.{AreAlike, AskAlike, HoldAlike}
use Rattle.leak_laws.proofs.RunLemmas.{inputs_are_one, one_status}
use Rattle.leak_laws.proofs.SameGrowth.{one_growth}
use Rattle.leak_laws.proofs.SameHeld.{one_answer, one_holders}
use Rattle.leak_laws.proofs.SameLemmas.{one_signs}
use Rattle.leak_laws.proofs.SameWhy.{as_long}

-- ---- what is held

same_held : (question : Option Question) (a b : Options) (core log : List ℕ) (since : Option (List ℕ)) (x y : Holding) → AskAlike a b → Holds question a core log since x → Holds question b core log since y → x.report.items ≡ y.report.items
same_held None a b core log since x y ask f g =
    let one = subst (λ (r : Distances). FindsHolders core log since r b.skip y) (sym ask.reading) g in
    let two = subst (λ (s : Skip). FindsHolders core log since (distances_of a.reading) s y) (sym ask.skip) one in
    one_holders core log since (distances_of a.reading) a.skip x y f two
same_held (Some question) a b core log since x y ask f g =
    let one = subst (λ (r : Distances). FindsHeld core log since r b.skip question y) (sym ask.reading) g in
    let two = subst (λ (s : Skip). FindsHeld core log since (distances_of a.reading) s question y) (sym ask.skip) one in
    one_answer core log since (distances_of a.reading) a.skip question x y f two

pub holders_runs_are_one : (a b : Options) (question : Option Question) (before after readers left : List (Option (List ℕ))) (held holds heard hears other others told tells : Option (List ℕ)) (status same : ℕ)
    → AskAlike a b → length before ≡ length readers → HoldAlike (length before) before readers
    → Runs by_bytes_left by_bytes_held by_bytes_held (Holders a question) before after held holds heard hears status
    → Runs by_bytes_left by_bytes_held by_bytes_held (Holders b question) readers left other others told tells same
    → AreAlike held holds other others status same
holders_runs_are_one a b question before after readers left held holds heard hears other others told tells status same ask many hold f g =
    let inputs : f.answered.inputs ≡ g.answered.inputs =
    inputs_are_one (limit_at (Holders a question)) (limit_at (Holders b question)) before after readers left f.answered.inputs g.answered.inputs (f.answered.read.count ∙ many ∙ sym g.answered.read.count)
    (subst (λ (n : ℕ). HoldAlike n before readers) (sym f.answered.read.count) hold) f.answered.read.read g.answered.read.read in
    let core = input_at f.answered.inputs 0 in
    let log = input_at f.answered.inputs 1 in
    let since = slice_get f.answered.inputs 2 in
    let x : TellsHolding a question core log since f.answer = f.answered.holds in
    let y : TellsHolding b question core log since g.answer =
    subst (λ (is : List (List ℕ)). TellsHolding b question (input_at is 0) (input_at is 1) (slice_get is 2) g.answer) (sym inputs) g.answered.holds in
    let text : f.answer.text.items ≡ g.answer.text.items = x.text ∙ same_held question a b core log since x.holding y.holding ask x.holds y.holds ∙ sym y.text in
    let signs = one_signs a.other_heap (core ∷ log ∷ []) f.answer.signs.items g.answer.signs.items x.signs
    (subst (λ (heap : Bool). AreSigns heap (core ∷ log ∷ []) g.answer.signs.items) (sym ask.other_heap) y.signs) in
    record {
      written = record { bytes = f.answer.text.items; first = f.written; second = subst (λ (bs : List ℕ). Appends other others bs) (sym text) g.written };
      status_same = one_status a.strict b.strict f.answer.leaked g.answer.leaked f.answer.signs.items g.answer.signs.items status same
          ask.strict (x.leaked ∙ sym y.leaked) signs f.status_is g.status_is;
    }

-- ---- what grew

pub grow_runs_are_one : (a b : GrowOptions) (before after readers left : List (Option (List ℕ))) (held holds heard hears other others told tells : Option (List ℕ)) (status same : ℕ)
    → a.strict ≡ b.strict → HoldAlike 2 before readers
    → Runs by_bytes_left by_bytes_held by_bytes_held (Grow a) before after held holds heard hears status
    → Runs by_bytes_left by_bytes_held by_bytes_held (Grow b) readers left other others told tells same
    → AreAlike held holds other others status same
grow_runs_are_one a b before after readers left held holds heard hears other others told tells status same strict hold f g =
    let inputs : f.answered.inputs ≡ g.answered.inputs =
    inputs_are_one (limit_at (Grow a)) (limit_at (Grow b)) before after readers left f.answered.inputs g.answered.inputs (f.answered.takes ∙ sym g.answered.takes)
    (subst (λ (n : ℕ). HoldAlike n before readers) (sym f.answered.takes) hold) f.answered.read.read g.answered.read.read in
    let log1 = input_at f.answered.inputs 0 in
    let log2 = input_at f.answered.inputs 1 in
    let x : TellsGrowth log1 log2 f.answer = f.answered.holds in
    let y : TellsGrowth log1 log2 g.answer = subst (λ (is : List (List ℕ)). TellsGrowth (input_at is 0) (input_at is 1) g.answer) (sym inputs) g.answered.holds in
    let one = one_growth log1 log2 x.grown y.grown x.finds y.finds in
    let text : f.answer.text.items ≡ g.answer.text.items = x.text ∙ one.report ∙ sym y.text in
    record {
      written = record { bytes = f.answer.text.items; first = f.written; second = subst (λ (bs : List ℕ). Appends other others bs) (sym text) g.written };
      status_same = one_status a.strict b.strict f.answer.leaked g.answer.leaked f.answer.signs.items g.answer.signs.items status same
          strict (x.leaked ∙ sym y.leaked) (x.signs ∙ one.signs ∙ sym y.signs) f.status_is g.status_is;
    }

-- ---- why a block is held

pub why_runs_are_one : (a b : Options) (address : ℕ) (before after readers left : List (Option (List ℕ))) (held holds heard hears other others told tells : Option (List ℕ)) (status same : ℕ)
    → AskAlike a b → HoldAlike 2 before readers
    → Runs by_bytes_left by_bytes_held by_bytes_held (Why a address) before after held holds heard hears status
    → Runs by_bytes_left by_bytes_held by_bytes_held (Why b address) readers left other others told tells same
    → status ≡ same
why_runs_are_one a b address before after readers left held holds heard hears other others told tells status same ask hold f g =
    let inputs : f.answered.inputs ≡ g.answered.inputs =
    inputs_are_one (limit_at (Why a address)) (limit_at (Why b address)) before after readers left f.answered.inputs g.answered.inputs (f.answered.takes ∙ sym g.answered.takes)
    (subst (λ (n : ℕ). HoldAlike n before readers) (sym f.answered.takes) hold) f.answered.read.read g.answered.read.read in
    let core = input_at f.answered.inputs 0 in
    let log = input_at f.answered.inputs 1 in
    let x : TellsChain a address core log f.answer = f.answered.holds in
    let y : TellsChain b address core log g.answer = subst (λ (is : List (List ℕ)). TellsChain b address (input_at is 0) (input_at is 1) g.answer) (sym inputs) g.answered.holds in
    let one = subst (λ (r : Distances). TellsWhy core log r b.skip address y.chain) (sym ask.reading) y.tells in
    let two = subst (λ (s : Skip). TellsWhy core log (distances_of a.reading) s address y.chain) (sym ask.skip) one in
    let same_chain = as_long core log (distances_of a.reading) a.skip address x.chain y.chain x.tells two in
    let signs = one_signs a.other_heap (core ∷ log ∷ []) f.answer.signs.items g.answer.signs.items x.signs
    (subst (λ (heap : Bool). AreSigns heap (core ∷ log ∷ []) g.answer.signs.items) (sym ask.other_heap) y.signs) in
    one_status a.strict b.strict f.answer.leaked g.answer.leaked f.answer.signs.items g.answer.signs.items status same
    ask.strict (x.leaked ∙ ap leaked_if_not same_chain.held ∙ sym y.leaked) signs f.status_is g.status_is
