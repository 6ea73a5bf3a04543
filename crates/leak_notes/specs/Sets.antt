-- The kinds of entry that register words come from.
use Rattle.std.specs.Prelude.{List, filter_map, if◌then◌else◌, Option, Some, None}
use Rattle.leak_notes.specs.declared.sets.RegisterSet.{RegisterSet}
use Rattle.leak_notes.specs.declared.sets.RegisterSet.TheVariants.{Status, Vector, State}
use Rattle.leak_notes.specs.Entry.{Entry, is_cut, is_status, is_vector, is_state, desc_size, state_words}

-- the set of an entry, if it has one
abbrev pub set_of : Entry → Option RegisterSet
set_of e =
    if is_cut e then None
    else (if is_status e then Some Status
    else (if is_vector e then Some Vector
    else (if is_state e then Some (State (state_words (desc_size e)))
    else None)))

-- the sets of entries, in their order
abbrev pub sets_of : List Entry → List RegisterSet
sets_of es = filter_map set_of es
