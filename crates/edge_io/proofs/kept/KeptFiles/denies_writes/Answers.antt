use Rattle.std.proofs.Common.{◌≡◌, ap, refl, sym}
use Rattle.edge_io.proofs.FileLemmas.{listed}
use Rattle.edge_io.proofs.kept.KeptFiles.denies_writes.Goals as goal

pub returns : goal.returns
returns c =
    sym (listed c.self.inside.no_writes.items c.deref.result.now c.args.self.now.no_writes c.args.name.now c.is_listed.result _ (ap (λ f. f.no_writes) c.self.view_is) c.deref.ensures.value c.is_listed.ensures refl)
