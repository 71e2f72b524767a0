use Rattle.std.proofs.Common.{◌≡◌, Some, [], ◌∷◌, ◌++◌, position, sym, ap, ◌∙◌}
use Rattle.std.proofs.lemmas.List.{map-append}
use Rattle.std.specs.Str.{bytes_eq}
use Rattle.std.specs.List.{slice_set}
use Rattle.std.proofs.lemmas.List.Quantifiers.{position-Some}
use Rattle.edge_io.specs.Files.{put_entry}
use Rattle.edge_io.specs.Exposed.{entries_of}
use Rattle.edge_io.proofs.FileLemmas.{absent, present}
use Rattle.edge_io.proofs.kept.put_bytes.Goals as goal

pub returns-in-Some-clause-whole : goal.returns-in-Some-clause-whole
returns-in-Some-clause-whole c =
    let files = c.args.files.now.items in
    let name = c.args.name.now in
    let bytes = c.in_ok-bytes.bytes in
    let d = c.index_mut.result.now in
    let at : position (λ file. bytes_eq file.0.items name) files ≡ Some c.in-Some.index =
    ap (λ l. position (λ file. bytes_eq file.0.items name) l) (sym c.deref.ensures.value) ∙ sym c.in-Some.ensures in
    let found = position-Some (λ file. bytes_eq file.0.items name) files c.in-Some.index d at in
    let is = present files name c.in-Some.index d found.0 found.1 found.2 in
    ap (λ file. entries_of (slice_set files c.in-Some.index (file.0, bytes))) c.index_mut.ensures.value
    ∙ sym (is.1 bytes)
    ∙ (λ j. put_entry (entries_of files) name (c.in_ok-bytes.ensures.items j))

pub returns-in_ok-push-in-None-clause-whole : goal.returns-in_ok-push-in-None-clause-whole
returns-in_ok-push-in-None-clause-whole c =
    let files = c.args.files.now.items in
    let name = c.args.name.now in
    let at = ap (λ l. position (λ file. bytes_eq file.0.items name) l) (sym c.deref.ensures.value) ∙ sym c.in-None.ensures in
    let is = absent files name at in
    ap entries_of c.in_ok-push-in-None.ensures.items
    ∙ map-append (λ file. (file.0.items, file.1.items)) files ((c.in_ok-name-in-None.name, c.in_ok-bytes.bytes) ∷ [])
    ∙ (λ j. entries_of files ++ (c.in_ok-name-in-None.ensures.items j, c.in_ok-bytes.ensures.items j) ∷ [])
    ∙ sym (is.1 c.args.bytes.now)
