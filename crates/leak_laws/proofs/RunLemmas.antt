-- A run reads its inputs completely, and its report and status are functions of these.
use Rattle.std.proofs.Common.{◌≡◌, ℕ, zero, suc, ◌<◌, Bool, true, false, List, [], ◌∷◌, ◌++◌, length, Option, None, Some, refl, sym, ap, subst, ◌∙◌, arith, append-nil}
use Rattle.std.specs.Prelude.{nat_lt, if◌then◌else◌}
use Rattle.std.specs.Io.KnownBytes.{Appends, Consumes, IsAtEnd}
use Rattle.leak_index.specs.Leads.{Distances}
use Rattle.leak_index.specs.Readings.{distances_of}
use Rattle.leak_roots.specs.declared.skip.Skip.{Skip}
use Rattle.leak_report.specs.declared.signs.Signs.{Signs}
use Rattle.leak_report.specs.Warnings.{warnings_of}
use Rattle.leak_search.specs.declared.found.Found.{Found}
use Rattle.leak_search.specs.Signs.{AreSigns}
use Rattle.leak_request.specs.declared.options.Options.{Options}
use Rattle.leak_request.specs.Requests.{file_count}
use Rattle.leak_search.specs.Search.{FindsOne}
use Rattle.leak_search.specs.SearchTwo.{FindsTwo}
use Rattle.leak_find.specs.Inputs.{AreRead, input_at}
use Rattle.leak_find.specs.Answers.{Finds, TellsLeaks}
use Rattle.leak_find.specs.Run.{Runs, status_by}
use Rattle.leak_find.specs.Tasks.{limit_at}
use Rattle.leak_find.specs.declared.task.Task.TheVariants.{Search}
use Rattle.leak_find.specs.Streams.{by_bytes_held, by_bytes_left}
use Rattle.leak_laws.specs.OneLine.{AreOfOneLine}
use Rattle.leak_laws.specs.Reports.{IsReport, told_by_one, told_by_two}
use Rattle.leak_laws.specs.Runs.{AreAlike, AskAlike, HoldAlike, IsRunReport}
use Rattle.leak_laws.specs.Same.{IsSameReport}
use Rattle.leak_laws.specs.Told.{Told}
use Rattle.leak_laws.proofs.SameLemmas.{one_report, one_signs, two_report}
use Rattle.leak_laws.proofs.SearchReports.{of_one, of_two, one_of_lines, two_of_lines}

-- ---- inputs

-- what a reader had is the input
whole : (all bytes : List ℕ) (before after : Option (List ℕ)) → before ≡ Some all → Consumes before after bytes → IsAtEnd after → bytes ≡ all
whole all bytes None after e taken end = cc
whole all bytes (Some xs) None e taken end = absurd taken
whole all bytes (Some xs) (Some ys) e taken end =
    let same : xs ≡ all = cc in
    sym (append-nil bytes) ∙ ap (λ (t : List ℕ). bytes ++ t) (sym end) ∙ sym taken ∙ same

pub inputs_are_one : (limit other : ℕ → ℕ) (before after readers left : List (Option (List ℕ))) (inputs others : List (List ℕ)) → length inputs ≡ length others → HoldAlike (length inputs) before readers
    → AreRead by_bytes_left limit before after inputs → AreRead by_bytes_left other readers left others → inputs ≡ others
inputs_are_one limit other before after readers left [] [] n hold p q = refl
inputs_are_one limit other before after readers left [] (y ∷ ys) n hold p q = absurd (omega (arith, n))
inputs_are_one limit other before after readers left (x ∷ xs) [] n hold p q = absurd (omega (arith, n))
inputs_are_one limit other [] after readers left (x ∷ xs) (y ∷ ys) n hold p q = absurd p
inputs_are_one limit other (f ∷ fs) [] readers left (x ∷ xs) (y ∷ ys) n hold p q = absurd p
inputs_are_one limit other (f ∷ fs) (l ∷ ls) [] left (x ∷ xs) (y ∷ ys) n hold p q = absurd q
inputs_are_one limit other (f ∷ fs) (l ∷ ls) (g ∷ gs) [] (x ∷ xs) (y ∷ ys) n hold p q = absurd q
inputs_are_one limit other (f ∷ fs) (l ∷ ls) (g ∷ gs) (m ∷ ms) (x ∷ xs) (y ∷ ys) n hold p q =
    let h = hold 0 (omega arith) in
    let first : x ≡ y = whole h.0 x f l h.1 p.0.taken p.0.end ∙ sym (whole h.0 y g m h.2 q.0.taken q.0.end) in
    let rest : xs ≡ ys = inputs_are_one (λ i. limit (suc i)) (λ i. other (suc i)) fs ls gs ms xs ys (omega (arith, n)) (λ i low. hold (suc i) (omega (arith, low))) p.1 q.1 in
    cc

-- ---- reports

same_found : (two : Bool) (a b : Options) (inputs : List (List ℕ)) (x y : Found) → AskAlike a b → Finds two a inputs x → Finds two b inputs y → IsSameReport x y
same_found false a b inputs x y ask f g =
    let one = subst (λ (r : Distances). FindsOne (input_at inputs 0) (input_at inputs 1) r b.skip b.check b.plan.workers y) (sym ask.reading) g in
    let two = subst (λ (s : Skip). FindsOne (input_at inputs 0) (input_at inputs 1) (distances_of a.reading) s b.check b.plan.workers y) (sym ask.skip) one in
    let three = subst (λ (c : Bool). FindsOne (input_at inputs 0) (input_at inputs 1) (distances_of a.reading) a.skip c b.plan.workers y) (sym ask.check) two in
    one_report (input_at inputs 0) (input_at inputs 1) (distances_of a.reading) a.skip a.check a.plan.workers b.plan.workers x y f three
same_found true a b inputs x y ask f g =
    let one = subst (λ (r : Distances). FindsTwo (input_at inputs 0) (input_at inputs 1) (input_at inputs 2) (input_at inputs 3) r b.skip b.check b.plan.workers y) (sym ask.reading) g in
    let two = subst (λ (s : Skip). FindsTwo (input_at inputs 0) (input_at inputs 1) (input_at inputs 2) (input_at inputs 3) (distances_of a.reading) s b.check b.plan.workers y) (sym ask.skip) one in
    let three = subst (λ (c : Bool). FindsTwo (input_at inputs 0) (input_at inputs 1) (input_at inputs 2) (input_at inputs 3) (distances_of a.reading) a.skip c b.plan.workers y) (sym ask.check) two in
    two_report (input_at inputs 0) (input_at inputs 1) (input_at inputs 2) (input_at inputs 3) (distances_of a.reading) a.skip a.check a.plan.workers b.plan.workers x y f three

-- ---- statuses

pub one_status : (strict lax : Bool) (n m : ℕ) (xs ys : List Signs) (status same : ℕ) → strict ≡ lax → n ≡ m → xs ≡ ys
    → status ≡ status_by strict n (warnings_of xs) → same ≡ status_by lax m (warnings_of ys) → status ≡ same
one_status strict lax n m xs ys status same alike leaked signs is other =
    is ∙ ap (λ (k : ℕ). status_by strict k (warnings_of xs)) leaked
    ∙ ap (λ (ss : List Signs). status_by strict m (warnings_of ss)) signs
    ∙ ap (λ (s : Bool). status_by s m (warnings_of ys)) alike
    ∙ sym other

pub runs_are_one : (a b : Options) (before after readers left : List (Option (List ℕ))) (held holds heard hears other others told tells : Option (List ℕ)) (status same : ℕ)
    → AskAlike a b → HoldAlike (file_count a.two) before readers
    → Runs by_bytes_left by_bytes_held by_bytes_held (Search a) before after held holds heard hears status
    → Runs by_bytes_left by_bytes_held by_bytes_held (Search b) readers left other others told tells same
    → AreAlike held holds other others status same
runs_are_one a b before after readers left held holds heard hears other others told tells status same ask hold f g =
    let inputs : f.answered.inputs ≡ g.answered.inputs =
    inputs_are_one (limit_at (Search a)) (limit_at (Search b)) before after readers left f.answered.inputs g.answered.inputs (f.answered.takes ∙ ap file_count ask.two ∙ sym g.answered.takes)
    (subst (λ (n : ℕ). HoldAlike n before readers) (sym f.answered.takes) hold) f.answered.read.read g.answered.read.read in
    let x : TellsLeaks a f.answered.inputs f.answer = f.answered.holds in
    let y : TellsLeaks b f.answered.inputs g.answer = subst (λ (is : List (List ℕ)). TellsLeaks b is g.answer) (sym inputs) g.answered.holds in
    let finds = subst (λ (two : Bool). Finds two b f.answered.inputs y.found) (sym ask.two) y.finds in
    let report = same_found a.two a b f.answered.inputs x.found y.found ask x.finds finds in
    let text : f.answer.text.items ≡ g.answer.text.items = x.text ∙ report.report ∙ sym y.text in
    let signs = one_signs a.other_heap f.answered.inputs f.answer.signs.items g.answer.signs.items x.signs
    (subst (λ (heap : Bool). AreSigns heap f.answered.inputs g.answer.signs.items) (sym ask.other_heap) y.signs) in
    record {
      written = record { bytes = f.answer.text.items; first = f.written; second = subst (λ (bs : List ℕ). Appends other others bs) (sym text) g.written };
      status_same = one_status a.strict b.strict f.answer.leaked g.answer.leaked f.answer.signs.items g.answer.signs.items status same
          ask.strict (x.leaked ∙ report.leaked ∙ sym y.leaked) signs f.status_is g.status_is;
    }

-- ---- what is written

-- the lines that a search's report has
told_lines : (two : Bool) (o : Options) (inputs : List (List ℕ)) (found : Found) → Finds two o inputs found → (t : Told) × IsReport found t × AreOfOneLine t
told_lines false o inputs found f = (
  told_by_one f,
  of_one (input_at inputs 0) (input_at inputs 1) (distances_of o.reading) o.skip o.check o.plan.workers found f,
  one_of_lines (input_at inputs 0) (input_at inputs 1) (distances_of o.reading) o.skip o.check o.plan.workers found f,
)
told_lines true o inputs found f = (
  told_by_two f,
  of_two (input_at inputs 0) (input_at inputs 1) (input_at inputs 2) (input_at inputs 3) (distances_of o.reading) o.skip o.check o.plan.workers found f,
  two_of_lines (input_at inputs 0) (input_at inputs 1) (input_at inputs 2) (input_at inputs 3) (distances_of o.reading) o.skip o.check o.plan.workers found f,
)

pub runs_write_reports : (o : Options) (before after : List (Option (List ℕ))) (held holds heard hears : Option (List ℕ)) (status : ℕ)
    → Runs by_bytes_left by_bytes_held by_bytes_held (Search o) before after held holds heard hears status → (t : Told) × IsRunReport o held holds status t
runs_write_reports o before after held holds heard hears status f =
    let x : TellsLeaks o f.answered.inputs f.answer = f.answered.holds in
    let told = told_lines o.two o f.answered.inputs x.found x.finds in (
      told.0,
      record {
        written = subst (λ (bs : List ℕ). Appends held holds bs) (x.text ∙ told.1.bytes) f.written;
        together = told.1.together;
        of_lines = told.2;
        by_leaks = λ lax.
            f.status_is ∙ ap (λ (s : Bool). status_by s f.answer.leaked (warnings_of f.answer.signs.items)) lax
            ∙ ap (λ (n : ℕ). if nat_lt 0 n then 1 else 0) (x.leaked ∙ told.1.leaked);
      },
    )
