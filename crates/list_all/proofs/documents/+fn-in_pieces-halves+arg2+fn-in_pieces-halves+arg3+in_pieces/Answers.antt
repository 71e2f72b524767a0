use Rattle.std.proofs.Common.{IfOk, Result, Ok, Err}
use Rattle.list_all.specs.Places.{HaveEach}
use Rattle.list_all.proofs.Sharing.{have-joined, have-within}
use Rattle.list_all.proofs.documents.+fn-in_pieces-halves+arg2+fn-in_pieces-halves+arg3+in_pieces.Goals as goal

if-both : {A E : Type 0} (r : Result A E) (P Q R : A → Type 0) → ((x : A) → P x → Q x → R x) → IfOk r P → IfOk r Q → IfOk r R
if-both (Ok x) P Q R f p q = f x p q
if-both (Err e) P Q R f p q = p

pub joined-requires : goal.joined-requires
joined-requires g t c =
    let second : HaveEach (g.F.FindPage.is_page c.args.finder.now) c.in_ok-second.field-0.found.items c.split_at.result.1.now c.in_ok-second.field-0.places.items = rw c.in_ok-second.was at c.halves-first.ensures.second in
    have-within (g.F.FindPage.is_page c.args.finder.now) c.in_ok-second.field-0.found.items c.split_at.result.1.now c.in_ok-second.field-0.places.items second

pub returns : goal.returns
returns g t c =
    let first : HaveEach (g.F.FindPage.is_page c.args.finder.now) c.in_ok-first.field-0.found.items c.split_at.result.0.now c.in_ok-first.field-0.places.items = rw c.in_ok-first.was at c.halves-first.ensures.first in
    let second : HaveEach (g.F.FindPage.is_page c.args.finder.now) c.in_ok-second.field-0.found.items c.split_at.result.1.now c.in_ok-second.field-0.places.items = rw c.in_ok-second.was at c.halves-first.ensures.second in
    if-both c.joined.result _ _ _ (λ all found places.
    have-joined (g.F.FindPage.is_page c.args.finder.now) c.in_ok-first.field-0.found.items c.in_ok-second.field-0.found.items all.found.items c.split_at.result.0.now c.split_at.result.1.now c.args.documents.roots.now
    c.in_ok-first.field-0.places.items c.in_ok-second.field-0.places.items all.places.items first second c.split_at.ensures.by_index.0 found places) c.joined.ensures.found c.joined.ensures.places
