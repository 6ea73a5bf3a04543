-- What a scan has left, and what that leads to.
use Rattle.std.specs.Prelude.{◌≡◌, ℕ, List, Option, ⊤}
use Rattle.std.specs.Option.{option_copied}
use Rattle.leak_index.specs.Hits.{Index}
use Rattle.leak_scan.specs.declared.scan.Scan.{Scan}
use Rattle.leak_scan.specs.declared.scan.Scan.TheVariants.{Plain, Roots}
use Rattle.leak_scan.specs.Targets.{targets_of}
use Rattle.leak_scan.specs.Positions.{listed_word, words_ahead}
use Rattle.leak_scan.specs.RootWords.{range_without_links}

-- if links are left out, the live blocks are those of the lookup
abbrev pub IsOver : Index → Scan → Type 0
IsOver index (Plain pages position) = ⊤
IsOver index (Roots live from to) = index.blocks ≡ live.now.blocks

-- what the words that are left lead to
abbrev pub targets_ahead : (ℕ → Option ℕ) → Index → Scan → List ℕ
targets_ahead word_at index (Plain pages position) = targets_of index (words_ahead (listed_word word_at (option_copied pages)) position)
targets_ahead word_at index (Roots live from to) = range_without_links word_at index from to
