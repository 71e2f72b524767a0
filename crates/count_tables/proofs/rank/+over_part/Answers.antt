use Rattle.std.proofs.Common.{◌≡◌, ◌<◌, length, ap, sym, ◌∙◌, arith, refl}
use Rattle.std.proofs.lemmas.List.{length-append}
use Rattle.slp_model.specs.declared.Node.TheVariants.{Pair}
use Rattle.slp_model.specs.Tree.{Fork, height}
use Rattle.slp_model.specs.Nodes.{tree, IsNodeAt}
use Rattle.marker_dfa.specs.Deterministic.{states_of}
use Rattle.state_tables.proofs.Meanings.{path-within}
use Rattle.count_tables.specs.Earlier.{word_in}
use Rattle.count_tables.specs.TextIndex.{tree_of}
use Rattle.count_tables.proofs.Finding.{room-left}
use Rattle.count_tables.proofs.RankParts.{earlier-ended, earlier-pair, earlier-plain}
use Rattle.count_tables.proofs.rank.+over_part.Goals as goal

pub returns-then-not-is_marked_between : goal.returns-then-not-is_marked_between
returns-then-not-is_marked_between g t c =
    earlier-plain c.args.input.now c.requires.input c.args.here.now c.requires.part c.args.state c.requires.state c.args.after.now _ c.args.looks.now (c.is_marked_between.ensures.none c.if-not-is_marked_between.true) c.marked.ensures c.unmarked.ensures.value

pub over_part-second-requires : goal.over_part-second-requires
over_part-second-requires g t c κs within =
    let input = c.args.input.now.counts in
    let nodes = input.store.now in
    let here = c.args.here.now in
    let left = c.look-left.result in
    let right = c.look-right.result in
    let pair : IsNodeAt nodes here.id.index (Pair c.in-Pair.l c.in-Pair.r) = rw c.in-Pair.is at c.requires.part.node_is in
    let whole : tree_of input here ≡ Fork (tree_of input left) (tree_of input right) = pair.0 ∙ ap (λ x. Fork (tree nodes x.index) (tree nodes c.in-Pair.r.index)) (sym c.look-left.ensures.id) ∙ ap (λ x. Fork (tree nodes left.id.index) (tree nodes x.index)) (sym c.look-right.ensures.id) in
    let room = room-left (states_of input.dfa.now) (height (tree_of input here)) (height (tree_of input left)) (height (tree_of input right)) (length c.args.room.now) (ap height whole) c.requires.room in
    let middle : c.in-Some.middle < states_of input.dfa.now = path-within input.dfa.now c.requires.input.automaton c.args.state c.in-Some.middle (word_in c.args.input.now left) c.requires.state (sym c.over_part-first.ensures.number.ends ∙ c.in-Some.is) in (
      omega (arith, c.decreases, pair.1, ap (λ x. x.index) c.look-right.ensures.id),
      (
        within,
        (
          c.requires.input,
          (
            c.look-right.ensures.part,
            (
              middle,
              (
                c.requires.after,
                omega (arith, room.1, length-append c.fill_ways.new.ways c.over_part-first.new.room, c.fill_ways.auto.ways, c.over_part-first.auto.room, c.split_at_mut-ways.ensures.front_len, c.split_at_mut-ways.ensures.back_len),
              ),
            ),
          ),
        ),
      ),
    )

pub returns-in_default : goal.returns-in_default
returns-in_default g t c =
    let input = c.args.input.now in
    let nodes = input.counts.store.now in
    let here = c.args.here.now in
    let left = c.look-left.result in
    let right = c.look-right.result in
    let pair : IsNodeAt nodes here.id.index (Pair c.in-Pair.l c.in-Pair.r) = rw c.in-Pair.is at c.requires.part.node_is in
    let whole : tree_of input.counts here ≡ Fork (tree_of input.counts left) (tree_of input.counts right) = pair.0 ∙ ap (λ x. Fork (tree nodes x.index) (tree nodes c.in-Pair.r.index)) (sym c.look-left.ensures.id) ∙ ap (λ x. Fork (tree nodes left.id.index) (tree nodes x.index)) (sym c.look-right.ensures.id) in
    let states : length right.table.now ≡ states_of input.counts.dfa.now = c.look-right.ensures.part.table_is.shape.states in
    earlier-ended input c.requires.input here c.requires.part c.args.state c.requires.state c.args.after.now left right c.look-left.ensures.part c.look-right.ensures.part whole c.look-left.ensures.at c.look-right.ensures.at c.fill_ways.new.ways
    (λ q lt. c.fill_ways.ensures q (omega (arith, states, lt))) (c.is_marked_between.ensures.some c.if-not-is_marked_between.false) c.over_part-first.result c.args.looks.now c.look-right.new.looks c.over_part-first.new.looks
    (omega (arith, c.look-left.ensures.step, c.look-right.ensures.step)) c.over_part-first.ensures c.in_default.is

pub returns-in-Some : goal.returns-in-Some
returns-in-Some g t c =
    let input = c.args.input.now in
    let nodes = input.counts.store.now in
    let here = c.args.here.now in
    let left = c.look-left.result in
    let right = c.look-right.result in
    let pair : IsNodeAt nodes here.id.index (Pair c.in-Pair.l c.in-Pair.r) = rw c.in-Pair.is at c.requires.part.node_is in
    let whole : tree_of input.counts here ≡ Fork (tree_of input.counts left) (tree_of input.counts right) = pair.0 ∙ ap (λ x. Fork (tree nodes x.index) (tree nodes c.in-Pair.r.index)) (sym c.look-left.ensures.id) ∙ ap (λ x. Fork (tree nodes left.id.index) (tree nodes x.index)) (sym c.look-right.ensures.id) in
    let states : length right.table.now ≡ states_of input.counts.dfa.now = c.look-right.ensures.part.table_is.shape.states in
    earlier-pair input c.requires.input here c.requires.part c.args.state c.requires.state c.args.after.now left right c.look-left.ensures.part c.look-right.ensures.part whole c.look-left.ensures.at c.look-right.ensures.at c.fill_ways.new.ways
    (λ q lt. c.fill_ways.ensures q (omega (arith, states, lt))) (c.is_marked_between.ensures.some c.if-not-is_marked_between.false) c.over_part-first.result c.over_part-second.result _ c.in-Some.middle c.args.looks.now c.look-right.new.looks c.over_part-first.new.looks c.over_part-second.new.looks
    (omega (arith, c.look-left.ensures.step, c.look-right.ensures.step)) c.over_part-first.ensures c.in-Some.is c.over_part-second.ensures c.saturating_add.ensures refl
