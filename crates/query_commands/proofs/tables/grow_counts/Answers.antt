use Rattle.query_commands.proofs.Names.{length}
use Rattle.query_book.specs.Serving.{counted_of, sum_of}
use Rattle.query_commands.proofs.Facts.{none_counted, nothing_grown}
use Rattle.query_commands.proofs.tables.grow_counts.Goals as goal

pub returns-in-Err-NoSuchQuery-clause-counts : goal.returns-in-Err-NoSuchQuery-clause-counts
returns-in-Err-NoSuchQuery-clause-counts g c =
    rw (← c.bytes-name.ensures.value) (none_counted c.grow_counts.new.self c.bytes-name.result.now (length c.args.store.now) (rw c.grow_counts.ensures.queries (c.in-Err-NoSuchQuery.ensures.missing.0 (cc c.in-Err-NoSuchQuery.field-0-is))))

pub returns-in-Err-NoSuchQuery-clause-missing : goal.returns-in-Err-NoSuchQuery-clause-missing
returns-in-Err-NoSuchQuery-clause-missing g c = λ none. nothing_grown c.bytes-name.result.now (λ b. sum_of (counted_of b)) c.grow_counts.ensures.missing c.grow_counts.ensures.unchanged c.grow_counts.ensures.steps (rw c.bytes-name.ensures.value none)

pub returns-in-Ok-clause-missing : goal.returns-in-Ok-clause-missing
returns-in-Ok-clause-missing g c = λ none. nothing_grown c.bytes-name.result.now (λ b. sum_of (counted_of b)) c.grow_counts.ensures.missing c.grow_counts.ensures.unchanged c.grow_counts.ensures.steps (rw c.bytes-name.ensures.value none)

pub returns-in-Err-NoMemory-clause-missing : goal.returns-in-Err-NoMemory-clause-missing
returns-in-Err-NoMemory-clause-missing g c = λ none. nothing_grown c.bytes-name.result.now (λ b. sum_of (counted_of b)) c.grow_counts.ensures.missing c.grow_counts.ensures.unchanged c.grow_counts.ensures.steps (rw c.bytes-name.ensures.value none)
