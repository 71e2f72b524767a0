use Rattle.std.proofs.Common.{◌≡◌, length, ap, arith}
use Rattle.marker_dfa.specs.Deterministic.{marks_of}
use Rattle.path_counts.specs.Paths.{stopped}
use Rattle.count_tables.proofs.BeforeLemmas.{greater}
use Rattle.count_tables.proofs.RankParts.{byte-number, onward, summed-end}
use Rattle.count_tables.proofs.rank.over_byte.Goals as goal

pub returns : goal.returns
returns c =
    let a = c.args.dfa.now in
    let ms = marks_of a c.args.state c.args.byte in
    let sum : stopped c.loop-other.number ≡ stopped (greater (onward a c.args.state c.args.byte c.args.after.now) c.args.mark ms) =
    summed-end (onward a c.args.state c.args.byte c.args.after.now) c.args.mark ms c.loop-other.other-index c.loop-other.number (omega (arith, c.loop-other-test.false, ap length c.marks-other-items.ensures)) c.loop-other.invariant in
    byte-number a c.states.ensures.automaton c.args.state c.args.byte c.args.mark c.args.after.now c.loop-other.number _ sum c.next.ensures
