-- What a finder has to be to find how many of the blocks begin at an address or before it.
use Rattle.std.specs.Prelude.{List}
use Rattle.leak_blocks.specs.declared.block.Block.{Block}
use Rattle.leak_index.specs.declared.finder.Finder.{Finder}
use Rattle.leak_index.specs.declared.finder.Finder.TheVariants.{Rows, Pages}
use Rattle.leak_index.specs.Directory.{IsDirectory}
use Rattle.leak_index.specs.Ranks.{AreAligned, IsRanked}

-- rows of blocks that each start at a multiple of 16, or the directory of pages
abbrev pub Finds : List Block → Finder → Type 0
Finds blocks (Rows ranks) = AreAligned blocks × IsRanked blocks ranks
Finds blocks (Pages directory) = IsDirectory blocks directory.pages.items directory.firsts.items
