-- Lists that are made by functions which agree on each element.
use Rattle.std.proofs.Common.{◌≡◌, ℕ, ◌-◌, ◌<◌, ◌≤◌, List, [], ◌∷◌, filter_map, map, Option, refl, ap₂, Contains, arith}
use Rattle.std.specs.List.{AllByRecursion, cons_option, range_with_len}
use Rattle.leak_lemmas.proofs.Members.{Has, each_implied, each_itself, get_Has}
use Rattle.leak_stacks.specs.Stacks.{made_from}
use Rattle.leak_alike.proofs.Ranges.{range_each}

pub each_contained : {X : Type 0} (P : X → Type 0) (xs : List X) → ((x : X) → Contains xs x → P x) → AllByRecursion P xs
each_contained P xs h = each_implied (Has xs) P (λ x has. h x (get_Has xs x has)) xs (each_itself xs)

pub map_agree : {X Y : Type 0} (f g : X → Y) (xs : List X) → AllByRecursion (λ x. f x ≡ g x) xs → map f xs ≡ map g xs
map_agree f g [] all = refl
map_agree {X} {Y} f g (x ∷ xs) all = ap₂ (λ (y : Y) (ys : List Y). y ∷ ys) all.0 (map_agree f g xs all.1)

pub filter_map_agree : {X Y : Type 0} (f g : X → Option Y) (xs : List X) → AllByRecursion (λ x. f x ≡ g x) xs → filter_map f xs ≡ filter_map g xs
filter_map_agree f g [] all = refl
filter_map_agree {X} {Y} f g (x ∷ xs) all = ap₂ (λ (o : Option Y) (ys : List Y). cons_option o ys) all.0 (filter_map_agree f g xs all.1)

pub made_agree : {X : Type 0} (f g : ℕ → Option X) (from end : ℕ) → ((a : ℕ) → from ≤ a → a < end → f a ≡ g a) → made_from f from end ≡ made_from g from end
unfolding made_from
made_agree f g from end h =
    filter_map_agree f g (range_with_len from (end - from)) (range_each (λ a. f a ≡ g a) from (end - from) (λ a low high. h a low (omega arith)))
