-- Laws of loaders.
use Rattle.std.specs.Prelude.{◌≡◌, ℕ, List, Option}
use Rattle.slp_model.specs.declared.Node.{Node}
use Rattle.slp_model.specs.declared.NodeId.{NodeId}
use Rattle.slp_model.specs.Nodes.{Grows}
use Rattle.pair_loader.specs.Pending.{IsLoader, fed}

-- a loader can still be used with its store after the store has grown, and was fed the same bytes
abbrev pub LoaderGrows : Type 0
LoaderGrows = (old new : List Node) (p q : ℕ) (loader : Option (List NodeId)) → Grows old new p q → IsLoader old loader → IsLoader new loader × (fed new loader ≡ fed old loader)
