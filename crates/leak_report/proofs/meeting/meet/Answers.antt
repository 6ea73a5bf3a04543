-- From the lemmas of MeetingLemmas.
use Rattle.std.proofs.Common.{◌≡◌, List, ℕ, ◌++◌, [], ◌∷◌, option_copied, sym, ap, subst, ◌∙◌, arith}
use Rattle.std.proofs.lemmas.List.{map-append, length-map}
use denote.Ref.{Bor}
use Rattle.leak_report.specs.Groups.{Key}
use Rattle.leak_report.specs.Numbered.{bytes_each}
use Rattle.leak_report.specs.Meeting.{AreMet}
use Rattle.leak_report.proofs.MeetingLemmas.{met_again, met_more}
use Rattle.leak_report.proofs.meeting.meet.Goals as goal

pub returns-in-Some-clause-number : goal.returns-in-Some-clause-number
returns-in-Some-clause-number c =
    met_again c.args.numbers.now (bytes_each c.args.texts.now.items) (c.tail.result, c.args.text) c.in-Some.number.now c.requires.so_far (sym c.in-Some.ensures.value)

pub returns-clause-more : goal.returns-clause-more
returns-clause-more c =
    let items : List (Bor (List ℕ)) = c.args.texts.now.items in
    let key : Key = (c.tail.result, c.args.text) in
    let more : bytes_each c.push.new.self.items ≡ bytes_each items ++ c.args.text.now ∷ [] =
    ap bytes_each c.in_ok-push.ensures.items ∙ map-append (λ (s : Bor (List ℕ)). s.now) items (c.args.text ∷ []) in
    subst (AreMet c.insert.new.self) (sym more)
    (met_more c.args.numbers.now c.insert.new.self (bytes_each items) key c.len-number.result c.requires.so_far c.tail.ensures
    (sym c.get.ensures.value ∙ ap option_copied c.in_default.is)
    (omega (arith, c.len-number.ensures, length-map items (λ (s : Bor (List ℕ)). s.now)))
    c.in_ok-insert.ensures.updates.0)
