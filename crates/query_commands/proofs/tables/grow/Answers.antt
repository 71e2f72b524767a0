use Rattle.query_book.specs.Serving.{covered_of, sum_of}
use Rattle.query_commands.proofs.Facts.{none_tabled, nothing_grown}
use Rattle.query_commands.proofs.tables.grow.Goals as goal

pub returns-in-Err-NoSuchQuery-clause-all : goal.returns-in-Err-NoSuchQuery-clause-all
returns-in-Err-NoSuchQuery-clause-all g c =
    let e = c.grow_one.ensures in
    rw (← c.bytes-name.ensures.value) (none_tabled c.args.store.now c.grow_one.new.self c.bytes-name.result.now e.serves (rw e.queries (c.in-Err-NoSuchQuery.ensures.missing.0 (cc c.in-Err-NoSuchQuery.field-0-is))))

pub returns-in-Err-NoSuchQuery-clause-missing : goal.returns-in-Err-NoSuchQuery-clause-missing
returns-in-Err-NoSuchQuery-clause-missing g c = λ none. nothing_grown c.bytes-name.result.now (λ b. sum_of (covered_of b)) c.grow_one.ensures.missing c.grow_one.ensures.unchanged c.grow_one.ensures.steps (rw c.bytes-name.ensures.value none)

pub returns-in-Ok-clause-missing : goal.returns-in-Ok-clause-missing
returns-in-Ok-clause-missing g c = λ none. nothing_grown c.bytes-name.result.now (λ b. sum_of (covered_of b)) c.grow_one.ensures.missing c.grow_one.ensures.unchanged c.grow_one.ensures.steps (rw c.bytes-name.ensures.value none)

pub returns-in-Err-NoMemory-clause-missing : goal.returns-in-Err-NoMemory-clause-missing
returns-in-Err-NoMemory-clause-missing g c = λ none. nothing_grown c.bytes-name.result.now (λ b. sum_of (covered_of b)) c.grow_one.ensures.missing c.grow_one.ensures.unchanged c.grow_one.ensures.steps (rw c.bytes-name.ensures.value none)
