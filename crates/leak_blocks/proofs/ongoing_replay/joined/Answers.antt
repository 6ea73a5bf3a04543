-- The map's numbers follow the run's; those that begin below it are then put before it.
use Rattle.std.proofs.Common.{◌≡◌, ◌∙◌, sym, ap, subst, ℕ, List, length, slice_get, filter}
use Rattle.leak_blocks.specs.Numbers.{IsNumbered}
use Rattle.leak_blocks.proofs.RunLemmas.{all_back, number_of_allocation}
use Rattle.leak_blocks.proofs.PartLemmas.{is_until, is_from, IsParted, parted_at_first, parted_at_none, joined_parts}
use Rattle.leak_blocks.proofs.ongoing_replay.joined.Goals as goal
use Rattle.leak_blocks.proofs.ongoing_replay.joined.Goals.{in-Some, in-None}

pub block_at-requires : goal.block_at-requires
block_at-requires c = number_of_allocation c.args.allocated.now c.requires.1 0 c.in-Some.number.now (all_back (IsNumbered c.args.allocated.now) c.requires.0 c.requires.1 c.requires.3.numbered)
    (ap (λ (ns : List ℕ). slice_get ns 0) (sym (c.deref.ensures.value ∙ c.requires.3.listed)) ∙ sym c.in-Some.ensures.value)

pub returns : goal.returns
returns c = λ below held above b.
    let until : c.range.result ≡ filter (is_until c.match-first.first) c.args.numbers.now.entries = c.range.ensures.between tt in
    let from : c.range-2.result ≡ filter (is_from c.match-first.first) c.args.numbers.now.entries = c.range-2.ensures.between tt in
    let parted : IsParted c.match-first.first below held above = elim c.match-first.branch [
      | in-Some w ↦ subst (λ (f : ℕ). IsParted f below held above) (sym w.first-is)
          (parted_at_first c.args.allocated.now c.args.numbers.now.entries c.args.run.items below held above w.in-Some.number.now w.block_at.result b (ap (λ (ns : List ℕ). slice_get ns 0) (sym c.deref.ensures.value) ∙ sym w.in-Some.ensures.value) w.block_at.ensures)
      | in-None w ↦ subst (λ (f : ℕ). IsParted f below held above) (sym w.first-is)
          (parted_at_none c.args.allocated.now c.args.numbers.now.entries c.args.run.items below held above b (ap (λ (ns : List ℕ). slice_get ns 0) (sym c.deref.ensures.value) ∙ sym w.in-None.ensures.value))
    ] in
    joined_parts c.args.allocated.now c.args.numbers.now.entries c.args.run.items below held above c.match-first.first b parted c.range.result c.range-2.result c.append.new.joined.items c.rotate_left.new.self.items c.append-2.new.joined.items c.len-held.result
    until from (c.len-held.ensures ∙ sym c.deref.ensures.len ∙ ap length c.deref.ensures.value) c.in_ok-append.ensures c.rotate_left.ensures.items c.in_ok-append-2.ensures
