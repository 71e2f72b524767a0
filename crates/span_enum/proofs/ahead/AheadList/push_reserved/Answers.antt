use Rattle.std.proofs.Common.{◌≡◌, ◌++◌, ◌∷◌, ◌∙◌, [], Some, ap, arith, length, min}
use Rattle.span_enum.specs.AheadView.{joined}
use Rattle.span_enum.proofs.Joined.{joined-length, joined-push}
use Rattle.span_enum.proofs.ahead.AheadList.push_reserved.Goals as goal

pub push_reserved-requires : goal.push_reserved-requires
push_reserved-requires g c =
    let nodes = c.self.inside.nodes in
    let sets = c.self.inside.sets in
    let count : length (joined nodes.items sets.items) ≡ length c.args.self.now.items = ap (λ l. length l.items) c.self.view_is in
    let room : min nodes.capacity sets.capacity ≡ c.args.self.now.capacity = ap (λ l. l.capacity) c.self.view_is in
    (omega arith, omega (arith, c.requires, count, room, joined-length nodes.items sets.items c.self.invariant.same))

pub push_reserved-requires-2 : goal.push_reserved-requires-2
push_reserved-requires-2 g c =
    let nodes = c.self.inside.nodes in
    let sets = c.self.inside.sets in
    let count : length (joined nodes.items sets.items) ≡ length c.args.self.now.items = ap (λ l. length l.items) c.self.view_is in
    let room : min nodes.capacity sets.capacity ≡ c.args.self.now.capacity = ap (λ l. l.capacity) c.self.view_is in
    (omega (arith, c.self.invariant.narrow), omega (arith, c.requires, count, room, joined-length nodes.items sets.items c.self.invariant.same, c.self.invariant.same))

pub returns-clause-items : goal.returns-clause-items
returns-clause-items g c =
    let nodes = c.self.inside.nodes.items in
    let sets = c.self.inside.sets.items in
    let more : joined c.push_reserved.new.self.items c.push_reserved-2.new.self.items ≡ joined nodes sets ++ Some c.args.node.now ∷ [] = rw (c.push_reserved.ensures.items, c.push_reserved-2.ensures.items) (joined-push nodes sets _ _ c.self.invariant.same) in
    more ∙ ap (λ l. l.items ++ Some c.args.node.now ∷ []) c.self.view_is
