use Rattle.std.proofs.Common.{◌≡◌, sym, subst, take, length, List, Option, IfOk, Result, Ok, Err, arith}
use Rattle.slp_model.specs.declared.NodeId.{NodeId}
use Rattle.list_all.specs.Places.{HaveEach}
use Rattle.list_all.proofs.Sharing.{have-joined, have-within}
use Rattle.list_all.proofs.documents.in_worthy_pieces.Goals as goal

if-both : {A E : Type 0} (r : Result A E) (P Q R : A → Type 0) → ((x : A) → P x → Q x → R x) → IfOk r P → IfOk r Q → IfOk r R
if-both (Ok x) P Q R f p q = f x p q
if-both (Err e) P Q R f p q = p

pub joined-requires : goal.joined-requires
joined-requires g c =
    have-within (g.F.FindPage.is_page c.args.finder.now) c.in_ok-second.second.found.items c.split_at.result.1.now c.in_ok-second.second.places.items c.in_ok-second.ensures

pub returns : goal.returns
returns g c =
    let done : c.len.result ≡ length c.in_ok-first.first.places.items = omega (arith, c.len.ensures) in
    let prefix : c.split_at.result.0.now ≡ take (length c.in_ok-first.first.places.items) c.args.documents.roots.now = rw (done) at c.split_at.ensures.front in
    let first : HaveEach (g.F.FindPage.is_page c.args.finder.now) c.in_ok-first.first.found.items c.split_at.result.0.now c.in_ok-first.first.places.items =
    subst (λ (rs : List (Option NodeId)). HaveEach (g.F.FindPage.is_page c.args.finder.now) c.in_ok-first.first.found.items rs c.in_ok-first.first.places.items) (sym prefix) c.in_ok-first.ensures.pages in
    if-both c.joined.result _ _ _ (λ all found places.
    have-joined (g.F.FindPage.is_page c.args.finder.now) c.in_ok-first.first.found.items c.in_ok-second.second.found.items all.found.items c.split_at.result.0.now c.split_at.result.1.now c.args.documents.roots.now
    c.in_ok-first.first.places.items c.in_ok-second.second.places.items all.places.items first c.in_ok-second.ensures c.split_at.ensures.by_index.0 found places) c.joined.ensures.found c.joined.ensures.places
