-- What is listed is told by facts alone.
use Rattle.std.proofs.Common.{ℕ, List}
use Rattle.std.proofs.Props.{props}
use Rattle.leak_pool.specs.Edges.{AreEdges}
use Rattle.leak_pool.specs.declared.rows.Rows.{Rows}

pub edges_prop : (targets : List (List ℕ)) (size : ℕ) (rows : List Rows) → IsProp (AreEdges targets size rows)
edges_prop targets size rows = Prim.hlevel props
