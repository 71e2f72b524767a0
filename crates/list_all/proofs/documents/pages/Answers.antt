use Rattle.list_all.proofs.Rows.{roots-live, pages-every}
use Rattle.list_all.proofs.Sharing.{have-within, have-pages}
use Rattle.list_all.specs.Page.{IsPageOf}
use Rattle.list_all.specs.Places.{pages_at}
use Rattle.slp_model.specs.Nodes.{text_of}
use Rattle.list_all.proofs.documents.pages.Goals as goal

pub in_worthy_pieces-requires-clause-can : goal.in_worthy_pieces-requires-clause-can
in_worthy_pieces-requires-clause-can g c κs within =
    let live = roots-live c.args.view.store.now c.args.docs.now c.args.first c.args.count c.in_ok-roots.roots.items c.requires.live c.requires.places c.in_ok-roots.ensures in
    rw c.deref.ensures.value (λ k d lt. record { tables = c.requires.tables; live = live k d lt })

pub invariant_of-result : goal.invariant_of-result
invariant_of-result g c =
    have-within (λ r p. IsPageOf c.args.dfa.now (text_of c.args.view.store.now r) c.args.limit p) c.in_ok-shared.shared.found.items c.in_ok-roots.roots.items c.in_ok-shared.shared.places.items (rw c.deref.ensures.value at c.in_ok-shared.ensures)

pub returns : goal.returns
returns g c =
    pages-every c.args.dfa.now c.args.view.store.now c.args.limit c.args.docs.now c.args.first c.args.count c.in_ok-roots.roots.items (pages_at c.in_ok-shared.shared.found.items c.in_ok-shared.shared.places.items) c.in_ok-roots.ensures
    (have-pages (λ r p. IsPageOf c.args.dfa.now (text_of c.args.view.store.now r) c.args.limit p) c.in_ok-shared.shared.found.items c.in_ok-roots.roots.items c.in_ok-shared.shared.places.items (rw c.deref.ensures.value at c.in_ok-shared.ensures))
