-- The number is the text's.
use Rattle.std.proofs.Common.{◌≡◌, ℕ, ◌<◌, List, [], length, sym, ap, ◌∙◌}
use Rattle.std.proofs.lemmas.List.{get_or-map}
use Rattle.std.proofs.lemmas.Bool.Decides.{Decides-eqb}
use Rattle.std.proofs.lemmas.Slice.Eq.{slice_eq-Decides}
use denote.Ref.{Bor}
use Rattle.leak_report.proofs.meeting.has_number.Goals as goal

pub returns-in-Some-clause-is : goal.returns-in-Some-clause-is
returns-in-Some-clause-is c t =
    let found = c.in-Some.ensures.lookup in
    let below : c.args.number < length c.args.texts.now = found.3.0 in
    let same : c.in-Some.met.now.now ≡ c.args.text.now = (slice_eq-Decides Decides-eqb _ _ _ c.eq.ensures).0 t in
    get_or-map (λ (s : Bor (List ℕ)). s.now) c.args.texts.now c.args.number c.in-Some.met.now [] below ∙ ap (λ (s : Bor (List ℕ)). s.now) (sym found.1) ∙ same
