-- The paths so far are the values of the ids so far.
use Rattle.std.proofs.Common.{◌≡◌, map, take, string_bytes, Some}
use Rattle.clap.specs.Words.{first_of, found_of, rows_of}
use Rattle.leak_request.proofs.found_values.paths.Given as goal

abbrev pub invariant-loop-id : goal.invariant-loop-id
invariant-loop-id l =
    map (λ text. Some (string_bytes text)) l.paths.items ≡ map (λ id. first_of id.now (rows_of (found_of l.found))) (take l.id-index l.ids)
