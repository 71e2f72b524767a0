use Rattle.std.proofs.Common.{subst}
use Rattle.std.proofs.lemmas.Option.{IfSome_then}
use Rattle.table_grow.specs.Filling.{Filling}
use Rattle.table_grow.specs.Remembering.{IsTrueEntry}
use Rattle.table_grow.proofs.filling.Filling.recall_again.Goals as goal

pub returns-clause-found : goal.returns-clause-found
returns-clause-found c = IfSome_then c.find.result c.find.ensures.found (λ n h. (
  (c.in_ok-left.left, c.in_ok-left.right),
  c.in_ok-left.was,
  subst (λ (s : Filling). IsTrueEntry s.tables ((c.in_ok-left.left, c.in_ok-left.right), n)) c.self.view_is (c.self.invariant.entries ((c.in_ok-left.left, c.in_ok-left.right), n) h),
))
