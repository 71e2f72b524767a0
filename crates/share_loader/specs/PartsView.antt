-- The fields of `Parts` as contracts see them.
use Rattle.share_loader.specs.BlocksView.{taken_of}
use Rattle.share_loader.specs.Sharer.{Kept}
use Rattle.share_loader.specs.declared.parts.Parts.{Parts}

abbrev pub kept_of : Parts → Kept
kept_of p = record { taken = taken_of p.blocks; rest = p.rest.items }
