use Rattle.std.proofs.Common.{refl, replicate}
use Rattle.state_tables.specs.Unions.{no_union}
use Rattle.state_tables.proofs.UnionLemmas.{no-unions}
use Rattle.state_tables.proofs.unions.Unions.new.Goals as goal

pub returns-clause-none : goal.returns-clause-none
returns-clause-none c = no-unions c.args.images.sets (replicate 64 no_union) 64 refl
