use Rattle.std.proofs.Common.{rules, arith, ◌≡◌, List, [], ◌∷◌, ◌++◌, Option, Some, slice_get, sym, subst}
use Rattle.std.proofs.lemmas.Grind.{common_steps}
use Rattle.slp_model.specs.declared.NodeId.{NodeId}
use Rattle.list_all.specs.Page.{Page}
use Rattle.list_all.proofs.Rows.{each-push}
use Rattle.list_all.proofs.Sharing.{page-at, get-prefix}
use Rattle.list_all.proofs.shared.page_index.Goals as goal

pub returns-then-not-new-clause-page : goal.returns-then-not-new-clause-page
returns-then-not-new-clause-page g c =
    let keys : c.insert_full.new.self.keys ≡ c.args.seen.now.keys = grind (arith, common_steps) in
    let at : slice_get c.insert_full.new.self.keys c.in-Ok.index ≡ Some c.args.root = search rules in
    page-at (g.F.FindPage.is_page c.args.finder.now) c.args.seen.now.keys c.args.found.now.items c.in-Ok.index c.args.root c.requires.pages (subst (λ (ks : List (Option NodeId)). slice_get ks c.in-Ok.index ≡ Some c.args.root) keys at)

pub returns-clause-pages : goal.returns-clause-pages
returns-clause-pages g c =
    let keys : c.insert_full.new.self.keys ≡ c.args.seen.now.keys ++ c.args.root ∷ [] = grind (arith, common_steps) in
    rw (keys, c.in_ok-push.ensures.items) (each-push (g.F.FindPage.is_page c.args.finder.now) c.args.seen.now.keys c.args.found.now.items c.args.root c.in_ok-page.page c.requires.pages c.in_ok-page.ensures)

pub returns-clause-page : goal.returns-clause-page
returns-clause-page g c =
    let at : slice_get c.insert_full.new.self.keys c.in-Ok.index ≡ Some c.args.root = search rules in
    page-at (g.F.FindPage.is_page c.args.finder.now) c.insert_full.new.self.keys c.push.new.self.items c.in-Ok.index c.args.root (returns-clause-pages g c) at

pub returns-clause-kept : goal.returns-clause-kept
returns-clause-kept g c = λ k p e.
    subst (λ (ps : List Page). slice_get ps k ≡ Some p) (sym c.in_ok-push.ensures.items) (get-prefix c.args.found.now.items (c.in_ok-page.page ∷ []) k p e)
