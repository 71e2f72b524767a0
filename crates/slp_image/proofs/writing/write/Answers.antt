use Rattle.std.proofs.Common.{◌≡◌, ℕ, ◌<◌, ◌^◌, ◌++◌, Bool, List, length, arith, sym, ap, subst, ◌∙◌}
use Rattle.byteorder.specs.Endian.{big_bytes}
use Rattle.slp_model.specs.declared.Node.{Node}
use Rattle.slp_model.specs.Kept.{IsPlanOf}
use Rattle.slp_model.specs.Distinct.{AreDistinct}
use Rattle.slp_model.specs.Thin.{rank, thin, IsCompactionOf}
use Rattle.slp_image.specs.Save.{IsReached, IsCount, root_indices}
use Rattle.slp_image.specs.Saved.{AreSaved, KeepsRoots}
use Rattle.slp_image.specs.Written.{records_bytes}
use Rattle.slp_image.proofs.WriteLemmas.{prefix}
use Rattle.slp_image.proofs.KeptLemmas.{IsWhole, roots-kept, kept-count, whole-from, whole-form, whole-documents, whole-trees}
use Rattle.slp_image.proofs.writing.write.Goals as goal

pub push_nodes-requires : goal.push_nodes-requires
push_nodes-requires c = record { plan = subst (λ (ks : List Bool). IsPlanOf c.args.store.now ks) (sym c.in_ok-moves.ensures.moves) c.in_ok-plan.ensures.plan }

pub push_documents-requires : goal.push_documents-requires
push_documents-requires c = subst (λ (ks : List Bool). KeepsRoots ks c.args.docs.now) (sym c.in_ok-moves.ensures.moves) (roots-kept c.args.store.now c.in_ok-plan.plan c.args.docs.now c.in_ok-plan.ensures.kept)

-- what is written of the nodes: the compacted store
thin-of : (c : goal.After-drop-plan-inside-2) → IsCompactionOf c.args.store.now c.in_ok-plan.plan (thin c.args.store.now c.in_ok-plan.plan)
thin-of c = subst (λ (ks : List Bool). IsCompactionOf c.args.store.now ks (thin c.args.store.now ks)) c.in_ok-moves.ensures.moves c.in_ok-push_nodes.ensures.thin

count-of : (c : goal.After-drop-plan-inside-2) → c.in_ok-moves.count ≡ length (thin c.args.store.now c.in_ok-plan.plan)
count-of c = c.in_ok-moves.ensures.count ∙ (ap (rank c.in_ok-plan.plan) c.in_ok-plan.ensures.plan.long ∙ sym (thin-of c).long)

few-of : (c : goal.After-drop-plan-inside-2) → length (thin c.args.store.now c.in_ok-plan.plan) < 2 ^ 64
few-of c = subst (λ (ks : List Bool). length (thin c.args.store.now ks) < 2 ^ 64) c.in_ok-moves.ensures.moves c.in_ok-push_nodes.ensures.few

whole : (c : goal.After-drop-plan-inside-2) → IsWhole c.args.store.now c.args.docs.now c.push_documents.new.out.items c.in_ok-moves.count
whole c =
    let ms : List Node = thin c.args.store.now c.in_ok-plan.plan in
    let t : IsCompactionOf c.args.store.now c.in_ok-plan.plan ms = thin-of c in
    let apart : AreDistinct ms = subst (λ (ks : List Bool). AreDistinct (thin c.args.store.now ks)) c.in_ok-moves.ensures.moves c.in_ok-push_nodes.ensures.distinct in
    let short : c.in_ok-moves.count < 2 ^ 64 = omega (arith, count-of c, few-of c) in
    whole-from c.args.store.now c.in_ok-plan.plan ms c.args.docs.now c.in_ok-moves.count c.push_header.new.out.items c.push_nodes.new.out.items c.push_number.new.out.items c.push_documents.new.out.items
    c.requires c.count.ensures.distinct c.in_ok-plan.ensures.kept t t.sound apart (count-of c) short (omega (arith, c.count.ensures.count, c.count.type_inv))
    (c.in_ok-push_header.ensures ∙ ap (λ (bs : List ℕ). bs ++ (prefix ++ big_bytes 8 c.in_ok-moves.count)) c.in_ok-bytes.ensures.items)
    (c.in_ok-push_nodes.ensures.bytes ∙ ap (λ (ks : List Bool). c.push_header.new.out.items ++ records_bytes (thin c.args.store.now ks)) c.in_ok-moves.ensures.moves)
    (c.in_ok-push_number.ensures ∙ ap (λ (n : ℕ). c.push_nodes.new.out.items ++ big_bytes 8 n) c.count-2.ensures.count)
    (subst (λ (ks : List Bool). AreSaved (rank ks) c.args.docs.now (length c.args.docs.now) c.push_number.new.out.items c.push_documents.new.out.items) c.in_ok-moves.ensures.moves c.in_ok-push_documents.ensures)

pub returns-clause-form : goal.returns-clause-form
returns-clause-form c = whole-form c.args.store.now c.args.docs.now c.push_documents.new.out.items c.in_ok-moves.count (whole c)

pub returns-clause-documents : goal.returns-clause-documents
returns-clause-documents c = whole-documents c.args.store.now c.args.docs.now c.push_documents.new.out.items c.in_ok-moves.count (whole c)

pub returns-clause-trees : goal.returns-clause-trees
returns-clause-trees c = whole-trees c.args.store.now c.args.docs.now c.push_documents.new.out.items c.in_ok-moves.count (whole c)

pub returns-clause-nodes : goal.returns-clause-nodes
returns-clause-nodes c =
    subst (λ (n : ℕ). IsCount (IsReached c.args.store.now (root_indices c.args.docs.now)) n) (sym (count-of c))
    (kept-count c.args.store.now c.in_ok-plan.plan (thin c.args.store.now c.in_ok-plan.plan) c.args.docs.now (thin-of c) c.in_ok-plan.ensures.kept)
