use Rattle.std.proofs.Common.{◌≡◌, List, ℕ, Some, false, sym, ap, refl, ◌∙◌}
use Rattle.std.specs.Str.{bytes_eq}
use Rattle.edge_io.specs.Files.{Entries, entry_of}
use Rattle.edge_io.specs.Exposed.{entries_of}
use Rattle.edge_io.proofs.FileLemmas.{entry_of-put_same, entry_of-put_other, listed, on_ok}
use Rattle.edge_io.proofs.kept.KeptFiles.put.Goals as goal
use Rattle.edge_io.proofs.kept.KeptFiles.put.Goals.{in-Ok, in-Err}

pub returns-then-is_listed-clause-denied : goal.returns-then-is_listed-clause-denied
returns-then-is_listed-clause-denied c = λ is.
    listed c.self.inside.no_writes.items c.deref.result.now c.args.self.now.no_writes c.args.name.now c.is_listed.result _ (ap (λ f. f.no_writes) c.self.view_is) c.deref.ensures.value c.is_listed.ensures c.if-is_listed.true

pub returns-clause-allowed : goal.returns-clause-allowed
returns-clause-allowed c =
    on_ok _ _
    (listed c.self.inside.no_writes.items c.deref.result.now c.args.self.now.no_writes c.args.name.now c.is_listed.result false (ap (λ f. f.no_writes) c.self.view_is) c.deref.ensures.value c.is_listed.ensures c.if-is_listed.false)

pub returns-clause-done : goal.returns-clause-done
returns-clause-done c =
    elim c.match-put_bytes.branch [
      | in-Ok w ↦ on_ok _ _ (ap (λ l. entry_of l c.args.name.now) w.in-Ok.ensures.whole ∙ entry_of-put_same (entries_of c.self.inside.files.items) c.args.name.now c.args.bytes.now)
      | in-Err w ↦ rw w.result-is tt
    ]

pub returns-clause-others : goal.returns-clause-others
returns-clause-others c =
    let same : (entries : Entries) → entries ≡ entries_of c.self.inside.files.items → (other : List ℕ) → entry_of entries other ≡ entry_of c.args.self.now.entries other =
    λ entries is other. ap (λ l. entry_of l other) is ∙ ap (λ f. entry_of f.entries other) c.self.view_is in (
      elim c.match-put_bytes.branch [
        | in-Ok w ↦ λ other apart. ap (λ l. entry_of l other) w.in-Ok.ensures.whole
            ∙ entry_of-put_other (entries_of c.self.inside.files.items) c.args.name.now c.args.bytes.now other apart ∙ ap (λ f. entry_of f.entries other) c.self.view_is
        | in-Err w ↦ λ other apart. same _ w.in-Err.ensures.refused other
      ],
      ap (λ f. f.no_reads) c.self.view_is,
      ap (λ f. f.no_writes) c.self.view_is,
    )
