use Rattle.std.proofs.Common.{◌≡◌, ◌+◌, ◌^◌, ◌<◌, ◌∙◌, sym, ap, subst, length, arith, Some, slice_get}
use Rattle.std.specs.Prelude.{IfOk}
use Rattle.state_tables.specs.Table.{IsTableOf}
use Rattle.state_tables.specs.Kept.{view_of}
use Rattle.state_tables.proofs.Keeping.{read-ok, IsDictionary-keep}
use Rattle.state_tables.proofs.tables.Tables.keep.Goals as goal

pub invariant_of-self-2 : goal.invariant_of-self-2
invariant_of-self-2 c =
    let table = c.args.table in
    let states : length table ≡ c.self.inside.states = c.requires ∙ sym (ap (λ d. d.states) c.self.view_is) in
    let room : length c.self.inside.kept + 1 < 2 ^ 32 = omega (arith, c.if-len-ge-MAX_TABLES.false, c.len.ensures) in
    let shape : IsTableOf c.self.inside.states table = subst (λ n. IsTableOf n table) states c.states.ensures.shape in
    IsDictionary-keep c.insert.result (view_of c.self.inside) c.insert.new.self c.in_ok-table.table c.self.invariant (subst (IsTableOf c.self.inside.states) (sym c.in_ok-table.ensures) shape) room c.insert.ensures.taken c.insert.ensures.err

pub returns-clause-number : goal.returns-clause-number
returns-clause-number c =
    read-ok c.insert.result c.insert.new.self c.args.table
    (subst (λ t. IfOk c.insert.result (λ n. slice_get c.insert.new.self n ≡ Some t)) c.in_ok-table.ensures c.insert.ensures.index)
