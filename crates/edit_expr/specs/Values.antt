-- The value of an expression as a root in a store.
use Rattle.std.specs.Prelude.{◌≡◌, ◌⊎◌, List, Option, Result, Ok, Err}
use Rattle.slp_model.specs.declared.NodeId.{NodeId}
use Rattle.slp_model.specs.declared.Node.{Node}
use Rattle.slp_model.specs.Nodes.{text_of, IsLive}
use Rattle.edit_expr.specs.declared.refusal.EditRefusal.{EditRefusal}
use Rattle.edit_expr.specs.declared.refusal.EditRefusal.TheVariants.{NoMemory}
use Rattle.edit_expr.specs.Eval.{Outcome}

-- the result is a live root of the outcome's text, the outcome's rejection, or allocation failure, the outcome's
-- rejection, or allocation failure
abbrev pub IsValue : List Node → Result (Option NodeId) EditRefusal → Outcome → Type 0
IsValue ns (Ok root) outcome = IsLive ns root × (outcome ≡ Ok (text_of ns root))
IsValue ns (Err why) outcome = (why ≡ NoMemory) ⊎ (outcome ≡ Err why)
