use Rattle.std.proofs.Common.{◌≡◌, ap, sym}
use Rattle.std.specs.Prelude.{is_some}
use Rattle.edge_io.proofs.FileLemmas.{listed}
use Rattle.edge_io.proofs.kept.KeptFiles.read_at.Goals as goal

pub returns-then-is_listed-clause-denied : goal.returns-then-is_listed-clause-denied
returns-then-is_listed-clause-denied c = λ is. (
  ap is_some (sym c.in-Some.ensures),
  listed c.self.inside.no_reads.items c.deref.result.now c.args.self.now.no_reads c.args.name.now c.is_listed.result _ (ap (λ f. f.no_reads) c.self.view_is) c.deref.ensures.value c.is_listed.ensures c.if-is_listed.true,
)

pub returns-clause-allowed : goal.returns-clause-allowed
returns-clause-allowed c =
    listed c.self.inside.no_reads.items c.deref.result.now c.args.self.now.no_reads c.args.name.now c.is_listed.result _ (ap (λ f. f.no_reads) c.self.view_is) c.deref.ensures.value c.is_listed.ensures c.if-is_listed.false
