use Rattle.std.proofs.Common.{◌≡◌, ap, ◌++◌}
use Rattle.std.proofs.lemmas.Result.{IfOk-weaker}
use Rattle.slp_model.specs.Tree.{text}
use Rattle.slp_model.specs.Nodes.{tree}
use Rattle.state_tables.specs.Meaning.{IsTable}
use Rattle.table_grow.proofs.Placed.{composed-by}
use Rattle.table_grow.proofs.filler.Filler.compute.Goals as goal

pub number-requires-clause-placed : goal.number-requires-clause-placed
number-requires-clause-placed c = (c.requires.children c.in-Pair.left c.in-Pair.right c.in-Pair.ensures.node).0

pub number-requires-in-Pair-clause-placed : goal.number-requires-in-Pair-clause-placed
number-requires-in-Pair-clause-placed c = (c.requires.children c.in-Pair.left c.in-Pair.right c.in-Pair.ensures.node).1

pub returns-in-Pair-clause-meaning : goal.returns-in-Pair-clause-meaning
returns-in-Pair-clause-meaning c =
    let a = c.args.dfa.now in
    let nodes = c.args.store.now in
    let l = c.in-Pair.left in
    let r = c.in-Pair.right in
    let pair = c.in-Pair.ensures.tree in
    let all = c.requires.true_children l r c.in-Pair.ensures.node in
    let left : IsTable a (text (tree nodes l.index)) c.kept-left.result.now = rw c.kept-left.ensures (all.0 c.number.result c.number.ensures.number) in
    let right : IsTable a (text (tree nodes r.index)) c.kept-right.result.now = rw c.kept-right.ensures (all.1 c.number-in-Pair.result c.number-in-Pair.ensures.number) in
    let joined : text (tree nodes c.args.id.index) ≡ text (tree nodes l.index) ++ text (tree nodes r.index) = ap text pair.0 in
    IfOk-weaker c.compose.result _ _
    (λ t m. rw joined (m a (text (tree nodes l.index)) (text (tree nodes r.index)) c.states.ensures.automaton left right))
    c.compose.ensures.meaning

pub returns-in-Pair-clause-composed : goal.returns-in-Pair-clause-composed
returns-in-Pair-clause-composed c =
    IfOk-weaker c.compose.result _ _
    (λ t e. composed-by c.args.store.now c.args.tables.now c.args.self.now c.args.id.index c.in-Pair.left c.in-Pair.right c.number.result c.number-in-Pair.result
    c.kept-left.result.now c.kept-right.result.now t c.in-Pair.ensures.node c.number.ensures.number c.number-in-Pair.ensures.number c.kept-left.ensures c.kept-right.ensures e)
    c.compose.ensures.value
