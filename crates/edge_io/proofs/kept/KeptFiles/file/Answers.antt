use Rattle.std.proofs.Common.{◌≡◌, Some, position, sym, ap, ◌∙◌}
use Rattle.std.specs.Str.{bytes_eq}
use Rattle.std.proofs.lemmas.List.Quantifiers.{position-Some}
use Rattle.edge_io.specs.Files.{file_of}
use Rattle.edge_io.proofs.FileLemmas.{absent, present}
use Rattle.edge_io.proofs.kept.KeptFiles.file.Goals as goal

pub returns-in-Some : goal.returns-in-Some
returns-in-Some c =
    let files = c.self.inside.files.items in
    let name = c.args.name.now in
    let d = c.index.result.now in
    let at : position (λ file. bytes_eq file.0.items name) files ≡ Some c.in-Some.index =
    ap (λ l. position (λ file. bytes_eq file.0.items name) l) (sym c.deref.ensures.value) ∙ sym c.in-Some.ensures in
    let found = position-Some (λ file. bytes_eq file.0.items name) files c.in-Some.index d at in
    let is = present files name c.in-Some.index d found.0 found.1 found.2 in
    ap (λ l. Some l) (c.deref-in-Some.ensures.value ∙ ap (λ file. file.1.items) c.index.ensures) ∙ sym is.0 ∙ ap (λ l. file_of l name) c.self.view_is

pub returns-in-None : goal.returns-in-None
returns-in-None c =
    let files = c.self.inside.files.items in
    let name = c.args.name.now in
    let at = ap (λ l. position (λ file. bytes_eq file.0.items name) l) (sym c.deref.ensures.value) ∙ sym c.in-None.ensures in
    sym (absent files name at).0 ∙ ap (λ l. file_of l name) c.self.view_is
