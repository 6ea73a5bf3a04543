-- Room for edges. Own rule: an eighth of the core, at four bytes a target; edges of a core that is all addresses would take half of it.
use Rattle.std.specs.Prelude.{ℕ, ◌/◌, List, length}

abbrev pub room_of : List ℕ → ℕ
room_of core = length core / 32
