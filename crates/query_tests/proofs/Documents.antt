-- The roots of documents by name.
use Rattle.std.proofs.Common.{ℕ, true, false, cond, List, [], ◌∷◌, Option}
use Rattle.std.specs.List.{AllByRecursion}
use Rattle.slp_model.specs.declared.Node.{Node}
use Rattle.slp_model.specs.declared.NodeId.{NodeId}
use Rattle.slp_model.specs.Nodes.{IsLive}
use Rattle.doc_book.specs.declared.Doc.{Doc}
use Rattle.doc_book.specs.Docs.{is_same, put}

pub live-put : (ns : List Node) (ds : List Doc) (name : List ℕ) (root : Option NodeId) → AllByRecursion (λ d. IsLive ns d.root) ds → IsLive ns root → AllByRecursion (λ d. IsLive ns d.root) (put ds name root)
live-put ns [] name root h live = (live, tt)
live-put ns (d ∷ ds) name root h live =
    elim (is_same name d.name) as (λ b. AllByRecursion (λ x. IsLive ns x.root) (cond b (record { name = name; root = root } ∷ ds) (d ∷ put ds name root)))
    [ true ↦ (live, h.1) | false ↦ (h.0, live-put ns ds name root h.1 live) ]
