use Rattle.std.proofs.Common.{◌≡◌, ◌<◌, ◌∙◌, Some, None, ap, arith, length, refl, slice_get, sym}
use Rattle.std.proofs.lemmas.Option.{slice_get_read}
use Rattle.span_enum.specs.AheadView.{joined}
use Rattle.span_enum.proofs.Joined.{joined-get, joined-length}
use Rattle.span_enum.proofs.ahead.AheadList.get.Given.{Over}
use Rattle.span_enum.proofs.ahead.AheadList.get.Goals.{After-self}
use Rattle.span_enum.proofs.ahead.AheadList.get.Goals as goal

-- the index lies in both lists
inside : (g : Over) (c : After-self g) → (c.args.index < length c.self.inside.nodes.items) × (c.args.index < length c.self.inside.sets.items)
inside g c =
    let count : length (joined c.self.inside.nodes.items c.self.inside.sets.items) ≡ length c.args.self.now.items = ap (λ l. length l.items) c.self.view_is in
    let both = joined-length c.self.inside.nodes.items c.self.inside.sets.items c.self.invariant.same in
    (omega (arith, count, both, c.requires), omega (arith, count, both, c.requires, c.self.invariant.same))

pub bounds-as_slice-index : goal.bounds-as_slice-index
bounds-as_slice-index g c = rw c.as_slice.ensures (inside g (goal.at.bounds-as_slice-index g c).After-self).1

pub bounds-as_slice-index-2 : goal.bounds-as_slice-index-2
bounds-as_slice-index-2 g c = rw c.as_slice-2.ensures (inside g (goal.at.bounds-as_slice-index-2 g c).After-self).0

pub offset_bounds-as_slice-index : goal.offset_bounds-as_slice-index
offset_bounds-as_slice-index g c = let low = (inside g (goal.at.offset_bounds-as_slice-index g c).After-self).1 in rw c.as_slice.ensures (omega (arith, low))

pub offset_bounds-as_slice-index-2 : goal.offset_bounds-as_slice-index-2
offset_bounds-as_slice-index-2 g c =
    let low = (inside g (goal.at.offset_bounds-as_slice-index-2 g c).After-self).0 in
    let count : length c.as_slice-2.result.now ≡ length c.self.inside.nodes.items = ap length c.as_slice-2.ensures in
    record { fits = omega (arith, low, count, c.as_slice-2.type_inv.1) }

pub returns-in-Some : goal.returns-in-Some
returns-in-Some g c =
    let low = inside g (goal.at.returns-in-Some g c).After-self in
    sym (ap (λ l. slice_get l.items c.args.index) c.self.view_is) ∙ joined-get c.self.inside.nodes.items c.self.inside.sets.items c.args.index (Some c.in-Some.node) c.index-as_slice-index.result
    (slice_get_read c.self.inside.nodes.items _ c.args.index (Some c.in-Some.node) refl low.0 (rw (c.as_slice-2.ensures, c.in-Some.is) at c.index-as_slice-index-2.is))
    (slice_get_read c.self.inside.sets.items _ c.args.index c.index-as_slice-index.result refl low.1 (rw c.as_slice.ensures at c.index-as_slice-index.is))

pub returns-in-None : goal.returns-in-None
returns-in-None g c =
    let low = inside g (goal.at.returns-in-None g c).After-self in
    sym (ap (λ l. slice_get l.items c.args.index) c.self.view_is) ∙ joined-get c.self.inside.nodes.items c.self.inside.sets.items c.args.index None c.index-as_slice-index.result
    (slice_get_read c.self.inside.nodes.items _ c.args.index None refl low.0 (rw (c.as_slice-2.ensures, c.in-None.is) at c.index-as_slice-index-2.is))
    (slice_get_read c.self.inside.sets.items _ c.args.index c.index-as_slice-index.result refl low.1 (rw c.as_slice.ensures at c.index-as_slice-index.is))
