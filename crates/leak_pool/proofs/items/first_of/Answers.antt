-- A part of a map is the map of the part.
use Rattle.std.proofs.Common.{◌≡◌, ◌∙◌, ℕ, ◌+◌, ◌-◌, List, map, take, drop, ap, sym, arith}
use Rattle.std.proofs.lemmas.List.{take-map, drop-map}
use Rattle.leak_pool.specs.declared.target_source.Item.{Item}
use Rattle.leak_pool.specs.declared.target_source.Item.TheVariants.{Block}
use Rattle.leak_pool.proofs.items.first_of.Goals as goal

pub returns-clause-are : goal.returns-clause-are
returns-clause-are c =
    let blocks : List ℕ = c.args.blocks.now in let from : ℕ = c.args.from in let count : ℕ = c.args.count in
    let size : from + count - from ≡ count = omega arith in
    ap (λ (n : ℕ). map Block (take n (drop from blocks))) size ∙ sym (take-map Block count (drop from blocks)) ∙ ap (λ (l : List Item). take count l) (sym (drop-map Block from blocks))
