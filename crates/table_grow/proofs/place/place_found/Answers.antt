use Rattle.table_grow.proofs.Growing.{due-kept}
use Rattle.table_grow.proofs.place.place_found.Goals as goal

pub assign-requires-in-New-clause-due : goal.assign-requires-in-New-clause-due
assign-requires-in-New-clause-due c = due-kept c.args.filling.now c.keep.new.self c.args.id c.keep.ensures.kept c.keep.ensures.same c.requires.due
