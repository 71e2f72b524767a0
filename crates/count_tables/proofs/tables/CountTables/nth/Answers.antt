use Rattle.std.proofs.Common.{◌≡◌, ◌+◌, ◌-◌, [], length, get_or, ap, subst, ◌∙◌, arith, Some, None}
use Rattle.span_types.specs.Writes.{blanks, write_mark}
use Rattle.marker_dfa.specs.Deterministic.{ends_of}
use Rattle.count_tables.specs.TextIndex.{IsNth}
use Rattle.count_tables.proofs.Finding.{empty-nth, empty-none}
use Rattle.count_tables.proofs.tables.CountTables.nth.Goals as goal

pub returns-then-first-ends-clause-nth : goal.returns-then-first-ends-clause-nth
returns-then-first-ends-clause-nth g c =
    let same : c.args.m - 1 + 1 ≡ c.args.m = omega (arith, c.requires.first) in
    rw c.in-None.is (subst (λ m. IsNth c.args.dfa.now [] m (Some c.with_end.result)) same
    (empty-nth c.args.dfa.now c.states.ensures.automaton (c.args.m - 1) c.with_end.result (omega (arith, c.if-first-ends.true, ap length c.ends.ensures)) (c.with_end.ensures ∙ ap (write_mark (get_or (ends_of c.args.dfa.now 0) (c.args.m - 1) 0) 1) (c.none.ensures ∙ ap blanks c.variables.ensures.value))))

pub returns-else-first-ends-clause-nth : goal.returns-else-first-ends-clause-nth
returns-else-first-ends-clause-nth g c =
    let same : c.args.m - 1 + 1 ≡ c.args.m = omega (arith, c.requires.first) in
    rw c.in-None.is (subst (λ m. IsNth c.args.dfa.now [] m None) same
    (empty-none c.args.dfa.now c.states.ensures.automaton (c.args.m - 1) (omega (arith, c.if-first-ends.false, ap length c.ends.ensures)) (omega (arith, c.requires.last, c.requires.first))))
