-- The fields of `Blocks` as contracts see them.
use Rattle.share_loader.specs.Blocks.{Taken}
use Rattle.share_loader.specs.declared.blocks.Blocks.{Blocks}

abbrev pub taken_of : Blocks → Taken
taken_of b = record { root = b.root; symbols = b.symbols.items; known = b.words.entries.items }
