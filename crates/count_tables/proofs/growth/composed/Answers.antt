use Rattle.std.proofs.Common.{◌≡◌, [], length, get_or, ap, sym, subst, ◌∙◌, rules}
use Rattle.std.proofs.lemmas.Option.{get_or_from_slice_get}
use Rattle.path_counts.specs.Counting.{IsCountTableOf}
use Rattle.count_tables.specs.Remembered.{AreTrueEntries}
use Rattle.count_tables.proofs.Growing.{number-composed}
use Rattle.count_tables.proofs.Keeping.{composed-read}
use Rattle.count_tables.proofs.growth.composed.Goals as goal

pub returns-in-Some-clause-number : goal.returns-in-Some-clause-number
returns-in-Some-clause-number c =
    let t = c.requires.entries ((c.args.left, c.args.right), c.in-Some.number) c.in-Some.ensures.found in
    (t.number, t.composed)

pub returns-in-Some-clause-entries : goal.returns-in-Some-clause-entries
returns-in-Some-clause-entries c = subst (AreTrueEntries c.args.kept.now) (sym c.find.ensures.same) c.requires.entries

pub returns-in_err-table-clause-entries : goal.returns-in_err-table-clause-entries
returns-in_err-table-clause-entries c = subst (AreTrueEntries c.args.kept.now) (sym c.find.ensures.same) c.requires.entries

pub keep_composed-requires-clause-entries : goal.keep_composed-requires-clause-entries
keep_composed-requires-clause-entries c = subst (AreTrueEntries c.args.kept.now) (sym c.find.ensures.same) c.requires.entries

pub keep_composed-requires-clause-shape : goal.keep_composed-requires-clause-shape
keep_composed-requires-clause-shape c =
    let old = c.args.kept.now in
    let first = get_or_from_slice_get old c.args.left c.at.result.now [] c.at.ensures in
    let size : length c.in_ok-table.table ≡ c.args.states = c.in_ok-table.ensures.value.states ∙ ap length (sym first) ∙ (c.requires.kept.shapes c.args.left c.requires.left).states in
    let shape : IsCountTableOf (length c.in_ok-table.table) c.in_ok-table.table = search rules in
    subst (λ n. IsCountTableOf n c.in_ok-table.table) size shape

pub keep_composed-requires-clause-composed : goal.keep_composed-requires-clause-composed
keep_composed-requires-clause-composed c = composed-read c.args.kept.now c.args.left c.args.right c.at.result.now c.at-2.result.now c.in_ok-table.table c.at.ensures c.at-2.ensures c.in_ok-table.ensures.value

pub returns-clause-number : goal.returns-clause-number
returns-clause-number c =
    let old = c.args.kept.now in
    let made = composed-read old c.args.left c.args.right c.at.result.now c.at-2.result.now c.in_ok-table.table c.at.ensures c.at-2.ensures c.in_ok-table.ensures.value in
    number-composed c.keep_composed.result (get_or old c.args.left []) (get_or old c.args.right []) c.in_ok-table.table c.keep_composed.new.kept made c.keep_composed.ensures.number
