-- From the lemmas of KeptLemmas.
use Rattle.std.proofs.Common.{◌≡◌, ◌-◌, ◌∙◌, ℕ, List, take, drop, length, ap, sym, subst}
use Rattle.std.proofs.lemmas.Result.{err_from_is_err_and}
use Rattle.leak_lemmas.proofs.Lists.{left_whole}
use Rattle.leak_elf.specs.declared.segment.Segment.{Segment}
use Rattle.leak_elf.specs.Segments.{AreKeptSegments}
use Rattle.leak_sift.specs.Kept.{Rule}
use Rattle.leak_sift.specs.Places.{AreOrderly}
use Rattle.leak_sift.specs.Sifted.{Takes}
use Rattle.leak_sift.proofs.TakenLemmas.{takes_both}
use Rattle.leak_alike.specs.SiftedCores.{AreBytes}
use Rattle.leak_passing.specs.Kept.{rule_by}
use Rattle.leak_passing.proofs.KeptLemmas.{begun, keeps, taken_all}
use Rattle.leak_passing.proofs.sifted.sift_core.Goals as goal

pub new-sifting-requires-clause-kept : goal.new-sifting-requires-clause-kept
new-sifting-requires-clause-kept g c = subst AreKeptSegments (sym c.as_slice-parts.ensures.value) c.requires.1.segments.kept

pub new-sifting-requires-clause-orderly : goal.new-sifting-requires-clause-orderly
new-sifting-requires-clause-orderly g c = subst AreOrderly (sym c.as_slice-parts.ensures.value) c.requires.1.segments.orderly

pub returns-in_err-take-clause-refused : goal.returns-in_err-take-clause-refused
returns-in_err-take-clause-refused g c =
    let p = err_from_is_err_and c.from_residual.result c.from_residual.ensures.1 in
    rw (p.1, p.2) (λ first at. (_, at.come.come))

pub sift_pieces-requires : goal.sift_pieces-requires
sift_pieces-requires g c = (c.type_bounds.sync-T, (c.requires.0, c.args.front.held.items, c.requires.1.come))

pub returns-in_err-sift_pieces-clause-refused : goal.returns-in_err-sift_pieces-clause-refused
returns-in_err-sift_pieces-clause-refused g c =
    let p = err_from_is_err_and c.from_residual-in_err-sift_pieces.result c.from_residual-in_err-sift_pieces.ensures.1 in
    rw (p.1, p.2) (λ first at. c.in_err-sift_pieces.ensures.refused first c.args.front.held.items at.come)

pub returns-clause-ok : goal.returns-clause-ok
returns-clause-ok g c =
    let front = c.args.front in
    let rule = rule_by c.args.skip c.args.live.now.blocks in
    let is : c.make_room.new.sifting ≡ begun rule front.segments.items front.head =
    c.make_room.ensures ∙ c.new-sifting.ensures ∙ ap (λ (r : Rule). begun r c.as_slice-parts.result.now front.head) c.new-sieve.ensures
    ∙ ap (λ (l : List Segment). begun rule l front.head) c.as_slice-parts.ensures.value in
    let cut : take (length c.as_slice-bytes.result.now - front.head) (drop front.head c.as_slice-bytes.result.now) ≡ drop front.head front.held.items =
    left_whole front.head c.as_slice-bytes.result.now ∙ ap (λ (l : List ℕ). drop front.head l) c.as_slice-bytes.ensures.value in
    let begins = subst (λ (l : List ℕ). Takes c.make_room.new.sifting l c.take.new.self) cut c.in_ok-take.ensures.ok in
    let rest = c.in_ok-sift_pieces.ensures.ok in
    let all = takes_both c.make_room.new.sifting c.take.new.self c.sift_pieces.new.sifting (drop front.head front.held.items) rest.0 begins rest.1.taken in
    let counted = c.finish-words.ensures.bytes _ (taken_all rule front.segments.items front.head c.make_room.new.sifting c.sift_pieces.new.sifting _ is all) in
    λ first at.
    keeps g.R.ReadCalls.calls c.args.limit first c.args.reader.now c.sift_pieces.new.reader c.args.skip c.args.live.now.blocks front at
    c.make_room.new.sifting c.take.new.self c.sift_pieces.new.sifting rest.0 c.truncate.new.self.items c.finish-words.result.0 c.finish-words.result.1 is begins rest.1
    c.truncate.ensures.items (subst AreBytes c.as_slice-bytes.ensures.value c.are_bytes.ensures) c.finish-words.ensures.words counted
