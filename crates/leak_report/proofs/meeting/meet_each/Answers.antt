-- From the lemmas of MeetingLemmas.
use Rattle.std.proofs.Common.{◌≡◌, List, ℕ, ◌+◌, ◌++◌, [], ◌∷◌, take, get_or, subst}
use Rattle.std.proofs.lemmas.List.{map_more, take_all}
use denote.Ref.{Bor}
use Rattle.leak_report.specs.Numbered.{bytes_each}
use Rattle.leak_report.proofs.MeetingLemmas.{AreSoFar, so_far_more, all_met}
use Rattle.leak_report.proofs.meeting.meet_each.Goals as goal

pub loop-text-preserved : goal.loop-text-preserved
loop-text-preserved c =
    let given : List (Bor (List ℕ)) = c.args.given.now in
    let i : ℕ = c.loop-text.text-index in
    let text : Bor (List ℕ) = get_or given i (record { ref_ptr = (0, 0); now = [] }) in
    let more : bytes_each (take (i + 1) given) ≡ bytes_each (take i given) ++ text.now ∷ [] =
    map_more (λ (s : Bor (List ℕ)). s.now) given i (record { ref_ptr = (0, 0); now = [] }) c.loop-text-test.true in
    let so : AreSoFar (bytes_each (take i given) ++ text.now ∷ []) (bytes_each c.meet.new.texts.items) (c.loop-text.numbers.items ++ c.in_ok-meet.field-0 ∷ []) =
    so_far_more (bytes_each (take i given)) (bytes_each c.loop-text.texts.items) (bytes_each c.meet.new.texts.items) c.loop-text.numbers.items text.now c.in_ok-meet.field-0
    c.loop-text.invariant.1 c.in_ok-meet.ensures.number in
    (c.in_ok-meet.ensures.more, rw (more, c.in_ok-push.ensures.items) so)

pub returns : goal.returns
returns c =
    all_met c.loop-text.found (bytes_each c.args.given.now) (bytes_each c.loop-text.texts.items) c.loop-text.numbers.items c.loop-text.invariant.0
    (subst (λ (ts : List (Bor (List ℕ))). AreSoFar (bytes_each ts) (bytes_each c.loop-text.texts.items) c.loop-text.numbers.items)
    (take_all c.loop-text.text-index c.args.given.now c.loop-text-test.false) c.loop-text.invariant.1)
