use Rattle.std.proofs.Common.{◌≡◌, ◌<◌, Some, ap, sym, subst, refl, ◌∙◌, arith, length, slice_get}
use Rattle.std.proofs.lemmas.Option.{slice_get-get_or}
use Rattle.marker_dfa.specs.declared.bundles.Bundle.{Bundle}
use Rattle.marker_dfa.specs.Making.{IsLike}
use Rattle.marker_dfa.proofs.Lists.{one_value}
use Rattle.marker_dfa.proofs.Bundling.{joined, opened}
use Rattle.marker_dfa.proofs.bundles.put_edge.Goals as goal

pub returns-then-is_like : goal.returns-then-is_like
returns-then-is_like c =
    let w = c.index_mut.result.now in
    let e = c.args.edge.now in
    let old = c.args.bundles.now.items in
    let lt : c.args.hint < length old = omega (arith, c.if-hint-len.true, c.len.ensures, c.args.bundles.now.ok.0) in
    let at : slice_get old c.args.hint ≡ Some w = slice_get-get_or old c.args.hint w lt ∙ ap Some (sym c.index_mut.ensures.value) in
    let seen : slice_get old c.args.hint ≡ Some c.index.result.now = slice_get-get_or old c.args.hint c.index.result.now lt ∙ ap Some (sym c.index.ensures) in
    let like : IsLike w e = subst (λ (x : Bundle). IsLike x e) (one_value old c.args.hint c.index.result.now w seen at) (c.is_like.ensures c.if-is_like.true) in
    joined old c.args.hint w (record { first = w.first; others = c.push.new.self; mark = w.mark; letters = w.letters; to = w.to }) e at like refl c.in_ok-push.ensures.items refl refl refl

pub returns : goal.returns
returns c =
    let e = c.args.edge.now in
    rw (c.in_ok-push-2.ensures.items) (opened c.args.bundles.now.items (record { first = e.from; others = c.new.result; mark = e.mark; letters = e.letters; to = e.to }) e refl c.new.ensures.items refl refl refl)
