use Rattle.std.proofs.Common.{◌≡◌, length, ap, sym, ◌∙◌, arith}
use Rattle.slp_model.specs.declared.Node.TheVariants.{Pair}
use Rattle.slp_model.specs.Tree.{Fork, height}
use Rattle.slp_model.specs.Nodes.{tree, IsNodeAt}
use Rattle.marker_dfa.specs.Deterministic.{states_of}
use Rattle.count_tables.specs.TextIndex.{tree_of}
use Rattle.count_tables.proofs.Finding.{room-left}
use Rattle.count_tables.proofs.PartSearch.{byte-among, finds-pair, finds-passed, left-among}
use Rattle.count_tables.proofs.nth.+find.Goals as goal

pub returns-in-Some : goal.returns-in-Some
returns-in-Some g t c =
    finds-passed c.args.input.now c.requires.input c.args.here.now c.requires.part c.args.after.now c.args.from.now c.in-Some.to c.requires.state c.args.looks.now c.requires.index c.in-Some.ensures

pub over_byte-requires-clause-index : goal.over_byte-requires-clause-index
over_byte-requires-clause-index g t c =
    byte-among c.args.input.now c.requires.input c.args.here.now c.requires.part c.args.after.now c.args.from.now.state c.args.from.now.index c.in-Byte.byte c.requires.state (rw c.in-Byte.is at c.requires.part.node_is) c.requires.index

pub find-middle-requires : goal.find-middle-requires
find-middle-requires g t c κs within =
    let input = c.args.input.now in
    let nodes = input.store.now in
    let here = c.args.here.now in
    let left = c.look-left.result in
    let right = c.look-right.result in
    let pair : IsNodeAt nodes here.id.index (Pair c.in-Pair.l c.in-Pair.r) = rw c.in-Pair.is at c.requires.part.node_is in
    let whole : tree_of input here ≡ Fork (tree_of input left) (tree_of input right) = pair.0 ∙ ap (λ x. Fork (tree nodes x.index) (tree nodes c.in-Pair.r.index)) (sym c.look-left.ensures.id) ∙ ap (λ x. Fork (tree nodes left.id.index) (tree nodes x.index)) (sym c.look-right.ensures.id) in
    let states : length right.table.now ≡ states_of input.dfa.now = c.look-right.ensures.part.table_is.shape.states in
    let room = room-left (states_of input.dfa.now) (height (tree_of input here)) (height (tree_of input left)) (height (tree_of input right)) (length c.args.room.now) (ap height whole) c.requires.room in (
      omega (arith, c.decreases, pair.1, ap (λ x. x.index) c.look-left.ensures.id),
      (
        within,
        (
          c.requires.input,
          (
            c.look-left.ensures.part,
            (
              c.requires.state,
              (
                omega (arith, c.fill_ways.auto.ways, c.split_at_mut-ways.ensures.front_len, c.states-states.ensures.value),
                (
                  left-among input c.requires.input here c.requires.part c.args.after.now c.args.from.now c.args.from.now c.requires.state left right c.look-left.ensures.part c.look-right.ensures.part whole c.look-left.ensures.at c.look-right.ensures.at c.fill_ways.new.ways
                      (λ q lt. c.fill_ways.ensures q (omega (arith, states, lt))) (λ q. omega (arith, c.type_inv.after q)) c.requires.index,
                  omega (arith, room.1, c.split_at_mut-ways.ensures.back_len, c.states-states.ensures.value),
                ),
              ),
            ),
          ),
        ),
      ),
    )

pub returns-in-Pair : goal.returns-in-Pair
returns-in-Pair g t c =
    let input = c.args.input.now in
    let nodes = input.store.now in
    let here = c.args.here.now in
    let left = c.look-left.result in
    let right = c.look-right.result in
    let pair : IsNodeAt nodes here.id.index (Pair c.in-Pair.l c.in-Pair.r) = rw c.in-Pair.is at c.requires.part.node_is in
    let whole : tree_of input here ≡ Fork (tree_of input left) (tree_of input right) = pair.0 ∙ ap (λ x. Fork (tree nodes x.index) (tree nodes c.in-Pair.r.index)) (sym c.look-left.ensures.id) ∙ ap (λ x. Fork (tree nodes left.id.index) (tree nodes x.index)) (sym c.look-right.ensures.id) in
    let states : length right.table.now ≡ states_of input.dfa.now = c.look-right.ensures.part.table_is.shape.states in
    finds-pair input c.requires.input here c.requires.part c.args.after.now c.args.from.now c.find.result c.requires.state left right c.look-left.ensures.part c.look-right.ensures.part whole c.look-left.ensures.at c.look-right.ensures.at c.fill_ways.new.ways
    (λ q lt. c.fill_ways.ensures q (omega (arith, states, lt))) (λ q. omega (arith, c.type_inv.after q)) c.find-middle.result c.args.looks.now c.look-right.new.looks c.find-middle.new.looks c.find.new.looks
    (rw c.in_default.is at c.pass.ensures) (omega (arith, c.look-left.ensures.step, c.look-right.ensures.step)) c.find-middle.ensures c.find.ensures
