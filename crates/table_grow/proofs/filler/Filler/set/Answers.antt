use Rattle.std.proofs.Common.{◌≡◌, ◌+◌, ◌-◌, ◌∙◌, ap, refl, add-one, map, set, Option, Some, ℕ, List}
use Rattle.marker_dfa.proofs.Lists.{map_set}
use Rattle.state_tables.specs.Coded.{step_of}
use Rattle.table_grow.specs.Assignment.{Assignment, with_number}
use Rattle.table_grow.proofs.filler.Filler.set.Goals as goal

pub returns : goal.returns
returns c =
    let codes = c.self.inside.places.items in
    let at = c.args.id.index - c.self.inside.known in
    let one : step_of (c.args.number + 1) ≡ Some c.args.number = rw add-one refl in
    let make : List (Option ℕ) → Assignment = λ places. record { known = c.self.inside.known; places = places } in
    ap make (map_set step_of codes at (c.args.number + 1) ∙ ap (set (map step_of codes) at) one)
    ∙ ap (λ f. with_number f c.args.id.index c.args.number) c.self.view_is
