use Rattle.std.proofs.Common.{◌++◌, ◌∷◌, [], take, sym, subst, get_or, Option, None, List}
use Rattle.std.proofs.lemmas.List.{take_more}
use Rattle.slp_model.specs.declared.NodeId.{NodeId}
use Rattle.list_all.specs.Places.{HaveEach}
use Rattle.list_all.proofs.Sharing.{have-push}
use Rattle.list_all.proofs.documents.one_piece.Goals as goal

pub loop-index-preserved : goal.loop-index-preserved
loop-index-preserved g c =
    let at = c.loop-index in
    record {
      pages = c.in_ok-page.ensures.pages;
      each = rw c.in_ok-push.ensures.items
          (subst (λ (rs : List (Option NodeId)). HaveEach (g.F.FindPage.is_page c.args.finder.now) c.page_index.new.found.items rs (at.places.items ++ c.in_ok-page.page ∷ [])) (sym (take_more c.args.documents.roots.now at.index None c.loop-index-test.true))
          (have-push (g.F.FindPage.is_page c.args.finder.now) at.found.items c.page_index.new.found.items c.in_ok-page.ensures.kept (take at.index c.args.documents.roots.now) at.places.items (get_or c.args.documents.roots.now at.index None) c.in_ok-page.page at.invariant.each c.in_ok-page.ensures.page));
    }
