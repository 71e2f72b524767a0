use Rattle.marker_dfa.specs.Deterministic.{cell_of}
use Rattle.marker_dfa.proofs.Finding.{cell_falls}
use Rattle.marker_dfa.proofs.dfa.Dfa.next.Goals as goal

pub target-requires : goal.target-requires
target-requires c =
    let facts = c.cell.ensures in
    cell_falls (cell_of c.args.self.now c.args.state c.args.byte) c.cell.result.now facts.value (facts.automaton.marks_fall c.args.state c.args.byte)
