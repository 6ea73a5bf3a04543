-- The words that a scan has left.
use Rattle.std.specs.Prelude.{◌≡◌, ℕ, zero, suc, ◌+◌, ◌-◌, ◌/◌, ◌%◌, ◌<◌, ◌≤◌, Bool, false, true, List, [], ◌∷◌, ◌++◌, length, drop, filter_map, if◌then◌else◌, Option, Some, None, IfSome, IsSome}
use Rattle.std.specs.Int.{w64}
use Rattle.std.specs.List.{range_with_len}
use Rattle.leak_elf.specs.Fields.{number_at}
use Rattle.leak_index.specs.Hits.{Index, hits_in, hits_of}
use Rattle.leak_index.specs.declared.hits.Hits.{Hits}
use Rattle.leak_index.specs.declared.hits.Hits.TheVariants.{Zero}
use Rattle.leak_scan.specs.declared.position.Position.{Position}
use Rattle.leak_scan.specs.declared.reading.ReadWords.{ReadWords}
use Rattle.leak_scan.specs.declared.reading.ReadWords.TheVariants.{Nothing, Word, Bytes, Kept}
use Rattle.leak_scan.specs.Targets.{is_on, targets_of}

-- this many words, each of 8 bytes, from the first byte on
abbrev pub first_words : ℕ → List ℕ → List ℕ
first_words zero bytes = []
first_words (suc n) bytes = number_at w64 bytes 0 ∷ first_words n (drop 8 bytes)

-- the words that the bytes are, 8 each
unfoldable pub words_in : List ℕ → List ℕ
words_in bytes = first_words (length bytes / 8) bytes

-- the words at `count` addresses
unfoldable pub words_from : (ℕ → Option ℕ) → ℕ → ℕ → List ℕ
words_from word_at from count = filter_map word_at (range_with_len from count)

-- the address is on a listed page, or there is no list
abbrev pub is_in : Option (List ℕ) → ℕ → Bool
is_in None a = true
is_in (Some pages) a = is_on pages a

-- the word at such an address
abbrev pub listed_word : (ℕ → Option ℕ) → Option (List ℕ) → ℕ → Option ℕ
listed_word word_at pages a = if is_in pages a then word_at a else None

abbrev pub words_found : ReadWords → List ℕ
words_found Nothing = []
words_found (Word word) = word ∷ []
words_found (Bytes bytes) = words_in bytes.now
words_found (Kept words) = words.now

-- the words of a list, then those of a run, then those at `count` addresses
unfoldable pub words_left : (ℕ → Option ℕ) → List ℕ → List ℕ → ℕ → ℕ → List ℕ
words_left word_at list run from count = list ++ (words_in run ++ words_from word_at from count)

-- those that a scan has left at the position
abbrev pub words_ahead : (ℕ → Option ℕ) → Position → List ℕ
words_ahead word_at position = words_left word_at position.list.now position.run.now position.from position.count

-- the hits are those of the first word ahead that leads anywhere, and the position after has what follows that word
pub record AreNextHits (word_at : ℕ → Option ℕ) (index : Index) (position : Position) (hits : Hits) (behind : Position) : Type 0 where
  pub split : targets_of index (words_ahead word_at position) ≡ hits_in hits ++ targets_of index (words_ahead word_at behind)
  pub end : hits ≡ Zero → words_ahead word_at behind ≡ []

-- there is no word, or it leads to no block
abbrev pub LeadsNowhere : Index → Option ℕ → Type 0
LeadsNowhere index word = IfSome word (λ w. hits_of index w ≡ [])

-- an address from `from` on that has a word, and none before it has one that leads to a block
abbrev pub IsPastIdle : Index → (ℕ → Option ℕ) → ℕ → Option ℕ → Type 0
IsPastIdle index word_at from None = (a : ℕ) → from ≤ a → LeadsNowhere index (word_at a)
IsPastIdle index word_at from (Some next) = (from ≤ next) × IsSome (word_at next) × ((a : ℕ) → from ≤ a → a < next → LeadsNowhere index (word_at a))

-- what was found leads where the words from the address up to a later one lead, of which those after the window lead
-- nowhere
pub record IsRead (word_at : ℕ → Option ℕ) (index : Index) (from window : ℕ) (found : ReadWords) (later : ℕ) : Type 0 where
  pub on : from < later
  pub words : targets_of index (words_from word_at from (later - from)) ≡ targets_of index (words_found found)
  pub outside : (a : ℕ) → from + window ≤ a → a < later → LeadsNowhere index (word_at a)

-- `window` addresses from the start on are the first of `count` addresses that may be read: none before them may,
-- and of them each multiple of 8 may
pub record IsFirstWindowAt (pages : Option (List ℕ)) (from count start window : ℕ) : Type 0 where
  pub behind : from ≤ start
  pub none : (a : ℕ) → from ≤ a → a < start → is_in pages a ≡ false
  pub some : 0 < window
  pub within : start + window ≤ from + count
  pub all : (a : ℕ) → start ≤ a → a < start + window → a % 8 ≡ 0 → is_in pages a ≡ true

abbrev pub IsFirstWindow : Option (List ℕ) → ℕ → ℕ → Option (ℕ × ℕ) → Type 0
IsFirstWindow pages from count None = (a : ℕ) → from ≤ a → a < from + count → is_in pages a ≡ false
IsFirstWindow pages from count (Some window) = IsFirstWindowAt pages from count window.0 window.1
