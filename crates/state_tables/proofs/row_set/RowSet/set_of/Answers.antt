use Rattle.std.proofs.Common.{ap, ◌∙◌, refl}
use Rattle.std.proofs.lemmas.Result.{on_ok_weaker}
use Rattle.state_tables.specs.StateSet.{number_of_words}
use Rattle.state_tables.specs.Coded.{list_of}
use Rattle.state_tables.specs.RowSet.{TakesSet}
use Rattle.state_tables.proofs.RowSets.{list-kept, sets-kept, taken-always}
use Rattle.state_tables.proofs.row_set.RowSet.set_of.Goals as goal

pub invariant_of-self : goal.invariant_of-self
invariant_of-self c =
    let i = c.self.inside in
    let old = c.self.inside.sets in
    let new = c.index_of.new.self in
    let n = number_of_words c.args.words.now in
    let taken : TakesSet c.self.inside.sets.sets c.index_of.new.self.sets (number_of_words c.args.words.now) =
    taken-always c.index_of.result old new n c.index_of.ensures.taken c.index_of.ensures.err in
    (sets-kept old.sets new.sets n i.rows.items taken c.self.invariant.0, c.self.invariant.1)

pub returns-clause-same : goal.returns-clause-same
returns-clause-same c =
    let i = c.self.inside in
    let old = c.self.inside.sets in
    let new = c.index_of.new.self in
    let n = number_of_words c.args.words.now in
    on_ok_weaker c.index_of.result
    (λ taken. list-kept (record { width = old.width; sets = old.sets; rows = i.rows.items }) (record { width = new.width; sets = new.sets; rows = i.rows.items }) n c.index_of.ensures.width refl taken c.self.invariant.0 ∙ ap list_of c.self.view_is)
    c.index_of.ensures.taken
