-- What is listed is told by facts alone, and blocks lead to blocks.
use Rattle.std.proofs.Common.{◌≡◌, ℕ, zero, suc, ◌<◌, List, [], ◌∷◌, length, map, get_or, arith, sym, subst, ⊎_elim}
use Rattle.std.proofs.Props.{props}
use Rattle.std.proofs.lemmas.List.{length-map}
use Rattle.std.proofs.lemmas.List.FromFn.{length-map-range_with_len}
use Rattle.leak_marks.specs.Lists.{Has}
use Rattle.leak_marks.proofs.ListLemmas.{at_head}
use Rattle.leak_pool.specs.Items.{targets_of_block, targets_of_item}
use Rattle.leak_pool.specs.Lists.{AreBlocks, each_alone, list_in, lists_in}
use Rattle.leak_pool.specs.declared.rows.Rows.{Rows}
use Rattle.leak_pool.specs.declared.target_source.Item.{Item}
use Rattle.leak_pool.specs.declared.target_source.Item.TheVariants.{Root, Block}

pub blocks_prop : (blocks : ℕ) (first : List ℕ) (lists : List (List ℕ)) → IsProp (AreBlocks blocks first lists)
blocks_prop blocks first lists = Prim.hlevel props

-- there is a list for each block
pub long_lists : (blocks size : ℕ) (rows : List Rows) → length (lists_in blocks size rows) ≡ blocks
long_lists blocks size rows = length-map-range_with_len (list_in size rows) 0 blocks

pub lists_inside : (blocks size : ℕ) (rows : List Rows) (first : List ℕ) → AreBlocks blocks first (lists_in blocks size rows)
    → (source b : ℕ) → Has (targets_of_block (lists_in blocks size rows) source) b → b < length (lists_in blocks size rows)
lists_inside blocks size rows first are source b h =
    let below = are.of_blocks source b h in let long = long_lists blocks size rows in omega (arith, below, long)

-- a block that stands alone is one of them
alone_is : (first : List ℕ) (k b : ℕ) → Has (get_or (each_alone first) k []) b → Has first b
alone_is [] zero b h = h
alone_is [] (suc k) b h = h
alone_is (x ∷ first) zero b h = first_of x first b h
  where
    first_of : (x : ℕ) (xs : List ℕ) (b : ℕ) → Has (x ∷ []) b → Has (x ∷ xs) b
    first_of x xs b h = omega arith
alone_is (x ∷ first) (suc k) b h = let m = alone_is first k b h in omega (arith, m)

pub items_inside : (blocks size : ℕ) (rows : List Rows) (first : List ℕ) → AreBlocks blocks first (lists_in blocks size rows)
    → (item : Item) (b : ℕ) → Has (targets_of_item (each_alone first) (lists_in blocks size rows) item) b → b < length (lists_in blocks size rows)
items_inside blocks size rows first are (Root k) b h =
    let below = are.of_roots b (alone_is first k b h) in let long = long_lists blocks size rows in omega (arith, below, long)
items_inside blocks size rows first are (Block source) b h = lists_inside blocks size rows first are source b h
