-- Which blocks are counted: all, or those of later lines than an earlier log has (own rule, as for two cores).
use Rattle.std.specs.Prelude.{ℕ, Bool, true, List, map, count_by, nat_lt, ◌==◌, Option, None, Some, option_map}
use denote.Ref.{Bor}
use Rattle.leak_mtrace.specs.Log.{is_continued_by}
use Rattle.leak_blocks.specs.declared.block.Block.{Block}

-- the bytes of the earlier log, if there is one
abbrev pub earlier : Option (Bor (List ℕ)) → Option (List ℕ)
earlier since = option_map (λ s. s.now) since

-- its complete lines begin the log
abbrev pub is_continued_from : Option (List ℕ) → List ℕ → Bool
is_continued_from None log = true
is_continued_from (Some since) log = is_continued_by since log

-- for each block, whether its line comes after those lines
abbrev pub counted_of : Option (List ℕ) → List Block → List Bool
counted_of None blocks = map (λ b. true) blocks
counted_of (Some since) blocks = map (λ b. nat_lt (count_by (λ c. c == 10) since) b.line) blocks

-- so if there is an earlier log
abbrev pub news_of : Option (List ℕ) → List Block → Option (List Bool)
news_of since blocks = option_map (λ _. counted_of since blocks) since
