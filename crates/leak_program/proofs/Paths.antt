-- The path with a number, in the list.
use Rattle.std.proofs.Common.{arith, ◌≡◌, ◌∙◌, ◌<◌, ◌≤◌, ◌-◌, ◌==◌, ℕ, false, List, None, Some, String, Global, ap, get_or, length, map, refl, string_bytes, sym}
use Rattle.std.specs.Prelude.{option_map, slice_get}
use Rattle.std.proofs.lemmas.Bool.{cond-false, cond_both}
use Rattle.std.proofs.lemmas.Option.{slice_get-get_or, slice_get-map, slice_get_past}
use Rattle.leak_program.specs.Failures.{path_at}

pub path_within : (paths : List (String Global)) (n : ℕ) (d : String Global) → 0 < n → n - 1 < length paths
    → Some (string_bytes (get_or paths (n - 1) d)) ≡ path_at (map string_bytes paths) n
path_within paths n d some inside =
    let one : (n == 0) ≡ false = grind (arith, some) in
    sym (cond-false (n == 0) None (slice_get (map string_bytes paths) (n - 1)) one
    ∙ slice_get-map string_bytes paths (n - 1) ∙ ap (option_map string_bytes) (slice_get-get_or paths (n - 1) d inside))

pub path_past : (paths : List (String Global)) (n : ℕ) → length paths ≤ n - 1 → None ≡ path_at (map string_bytes paths) n
path_past paths n past =
    cond_both (n == 0) None (slice_get (map string_bytes paths) (n - 1)) (λ r. None ≡ r) (λ _. refl)
    (λ _. sym (slice_get-map string_bytes paths (n - 1) ∙ ap (option_map string_bytes) (slice_get_past paths (n - 1) past)))
