use Rattle.query_commands.proofs.Facts.{outcome, text_refused, uncombined}
use Rattle.query_commands.proofs.registering.make.Goals as goal

pub returns-in-Formula-clause-made : goal.returns-in-Formula-clause-made
returns-in-Formula-clause-made c =
    let e = c.add.ensures in
    rw (c.in-Formula.is, ← c.bytes.ensures) (outcome _ _ _ _ _ _ _ _ _ _ e.ok e.covered e.counted e.states e.refused e.err (text_refused c.args.book.now.states c.bytes.result.now) c.read_outcome.ensures)

pub returns-in-Union-clause-made : goal.returns-in-Union-clause-made
returns-in-Union-clause-made c =
    let e = c.union.ensures in
    rw (c.in-Union.is, ← c.bytes-in-Union.ensures.value, ← c.bytes-in-Union-2.ensures.value) (outcome _ _ _ _ _ _ _ _ _ _ e.ok e.covered e.counted e.states e.refused e.err (uncombined _) c.combine_outcome.ensures)

pub returns-in-Join-clause-made : goal.returns-in-Join-clause-made
returns-in-Join-clause-made c =
    let e = c.join.ensures in
    rw (c.in-Join.is, ← c.bytes-in-Join.ensures.value, ← c.bytes-in-Join-2.ensures.value) (outcome _ _ _ _ _ _ _ _ _ _ e.ok e.covered e.counted e.states e.refused e.err (uncombined _) c.combine_outcome-in-Join.ensures)

pub returns-in-Project-clause-made : goal.returns-in-Project-clause-made
returns-in-Project-clause-made c =
    let e = c.project.ensures in
    rw (c.in-Project.is, ← c.bytes-in-Project.ensures.value, ← c.bytes-in-Project-2.ensures) (outcome _ _ _ _ _ _ _ _ _ _ e.ok e.covered e.counted e.states e.refused e.err (uncombined _) c.combine_outcome-in-Project.ensures)
