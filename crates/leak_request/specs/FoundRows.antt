-- What clap found for a subcommand.
use Rattle.std.specs.Prelude.{◌≡◌, List, Some, codes}
use Rattle.clap.specs.Words.{Row, Text, first_of, found_of, rows_of}
use Rattle.clap.specs.declared.parser.matches.ArgMatches.{ArgMatches}

-- the rows that clap found for a subcommand
abbrev pub found_rows : ArgMatches → List Row
found_rows found = rows_of (found_of found)

-- the flag was given
abbrev pub IsGiven : List Row → Text → Type 0
IsGiven rows id = first_of id rows ≡ Some (codes "true")
