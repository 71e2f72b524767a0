use Rattle.marker_nfa.specs.Automaton.{Automaton}
use Rattle.marker_dfa.proofs.Same.{sorted-bundled, sorted-same}
use Rattle.marker_dfa.proofs.bundled.BundledNfa.from_edges.Goals as goal

pub returns-clause-same : goal.returns-clause-same
returns-clause-same c = sorted-same c.args.states c.args.variables c.args.edges c.args.ends.items c.into_bundles-bundles.result.items c.put_in_order.new.bundles.items c.into_bundles-bundles.ensures c.put_in_order.ensures.same

pub returns-clause-bundled : goal.returns-clause-bundled
returns-clause-bundled c =
    let a : Automaton = record { states = c.args.states; variables = c.args.variables; edges = c.args.edges; ends = c.args.ends.items } in
    let same = sorted-same c.args.states c.args.variables c.args.edges c.args.ends.items c.into_bundles-bundles.result.items c.put_in_order.new.bundles.items c.into_bundles-bundles.ensures c.put_in_order.ensures.same in
    sorted-bundled (record { states = c.args.states; variables = c.args.variables; bundles = c.put_in_order.new.bundles; ends = c.args.ends; letters = c.args.letters }) a c.into_bundles-bundles.result.items c.requires.automaton c.into_bundles-bundles.ensures same c.put_in_order.ensures.order c.requires.letters
