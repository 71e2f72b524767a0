use Rattle.std.proofs.Common.{◌≡◌, ◌≤◌, Some, None, length, ap, sym, subst, ◌∙◌, arith}
use Rattle.path_counts.specs.Paths.{most, stopped}
use Rattle.path_counts.specs.Counting.{counts_at, unmarked_at}
use Rattle.count_tables.specs.Number.{IsCounted, endings, weighted}
use Rattle.count_tables.specs.Dictionary.{table_of}
use Rattle.count_tables.proofs.Roots.{none-number, root-none, root-some}
use Rattle.count_tables.proofs.tables.CountTables.number.Goals as goal

pub returns-in-None : goal.returns-in-None
returns-in-None c =
    let low : length c.ends.result.now ≤ most = omega (arith, c.ends.type_inv) in
    rw c.in-None.is (none-number c.args.dfa.now c.states.ensures.automaton (length c.ends.result.now) low (ap length c.ends.ensures))

pub returns-in-Some-unmarked : goal.returns-in-Some-unmarked
returns-in-Some-unmarked c =
    let a = c.args.dfa.now in
    let is = subst (IsCounted a c.args.store.now c.args.self.now) c.in-Some.is c.requires in
    let marked : c.ended-marked.result ≡ stopped (weighted (endings a) (counts_at (table_of c.args.self.now c.in-Some.id.index) 0)) = c.ended-marked.ensures ∙ ap (λ cs. stopped (weighted (endings a) cs)) (c.counts.ensures.value ∙ ap (λ t. counts_at t 0) c.table-table.ensures) in
    let unmarked : unmarked_at (table_of c.args.self.now c.in-Some.id.index) 0 ≡ Some c.in-Some-unmarked.q = ap (λ t. unmarked_at t 0) (sym c.table-table.ensures) ∙ sym c.unmarked.ensures.value ∙ c.in-Some-unmarked.is in
    rw c.in-Some.is (root-some a c.states.ensures.automaton c.args.store.now c.count.ensures.sound c.args.self.now c.in-Some.id is c.ended-marked.result c.saturating_add.result (length c.ends-in-Some-unmarked.result.now) c.in-Some-unmarked.q
    marked unmarked (ap length c.ends-in-Some-unmarked.ensures) c.saturating_add.ensures)

pub returns-in-None-unmarked : goal.returns-in-None-unmarked
returns-in-None-unmarked c =
    let a = c.args.dfa.now in
    let is = subst (IsCounted a c.args.store.now c.args.self.now) c.in-Some.is c.requires in
    let marked : c.ended-marked.result ≡ stopped (weighted (endings a) (counts_at (table_of c.args.self.now c.in-Some.id.index) 0)) = c.ended-marked.ensures ∙ ap (λ cs. stopped (weighted (endings a) cs)) (c.counts.ensures.value ∙ ap (λ t. counts_at t 0) c.table-table.ensures) in
    let unmarked : unmarked_at (table_of c.args.self.now c.in-Some.id.index) 0 ≡ None = ap (λ t. unmarked_at t 0) (sym c.table-table.ensures) ∙ sym c.unmarked.ensures.value ∙ c.in-None-unmarked.is in
    rw c.in-Some.is (root-none a c.states.ensures.automaton c.args.store.now c.count.ensures.sound c.args.self.now c.in-Some.id is c.ended-marked.result marked unmarked)
