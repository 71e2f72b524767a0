use Rattle.std.proofs.Common.{ℕ, List, Contains, refl, subst, arith}
use Rattle.std.proofs.lemmas.List.Elements.{Contains-append_right}
use Rattle.std.proofs.Common.{[], ◌∷◌}
use Rattle.marker_dfa.proofs.BySource.{gains_both, on-ok}
use Rattle.marker_dfa.proofs.bundles.put_bundle.Goals as goal

pub put_index_at-requires : goal.put_index_at-requires
put_index_at-requires c = c.requires c.args.bundle.now.first (0, omega arith, refl)

pub put_index-requires : goal.put_index-requires
put_index-requires c o k =
    let there = subst (λ (l : List ℕ). Contains l o) c.deref.ensures.value k in
    let lt = c.requires o (Contains-append_right (c.args.bundle.now.first ∷ []) c.args.bundle.now.others.items o there) in
    omega (arith, lt, c.in_ok-put_index_at.ensures.size)

pub returns : goal.returns
returns c =
    let more = rw (c.deref.ensures.value) at c.put_index.ensures in
    on-ok c.put_index.result _ _ (λ h. gains_both c.args.by_source.now c.put_index_at.new.by_source c.put_index.new.by_source c.args.bundle.now.first c.args.bundle.now.others.items c.args.index c.in_ok-put_index_at.ensures h) more
