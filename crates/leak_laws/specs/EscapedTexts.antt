-- Escaped text can be read back: no other text is escaped by the same bytes.
use Rattle.std.specs.Prelude.{◌≡◌, ℕ, List}
use Rattle.leak_request.specs.Escaped.{escaped}

abbrev pub EscapedReadsBack : Type 0
EscapedReadsBack = (text other : List ℕ) → escaped text ≡ escaped other → text ≡ other
