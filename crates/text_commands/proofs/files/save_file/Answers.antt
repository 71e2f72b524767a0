use Rattle.text_commands.proofs.Names.{ap, arith, Doc, inr, IsPutTo, IsSaved, length-map, List, plain, refl, saved_text, sym, text_of, ℕ, ◌++◌, ◌∙◌}
use Rattle.script_syntax.specs.declared.form.Command.TheVariants as form
use Rattle.text_commands.proofs.Facts.{put_ends}
use Rattle.text_commands.proofs.files.save_file.Goals as goal

pub returns : goal.returns
returns g c =
    let h = c.args.session.now in
    let f = g.F.Shelf in
    let o = c.put-outcome in
    let e = o.ensures in
    let image = c.in_ok-image.image in
    let saved : IsSaved (plain h.store h.docs) image.bytes.items image.nodes = record { form = c.in_ok-image.ensures.form; means = c.in_ok-image.ensures.documents } in
    let count = c.count.ensures.count ∙ sym (length-map h.docs (λ (d : Doc). (d.name, text_of h.store d.root))) in
    let line = c.in_ok-saved_line.ensures.ok ∙ ap (λ (l : List ℕ). l ++ saved_text c.count.result image.nodes) c.new-line.ensures.items ∙ ap (λ (n : ℕ). saved_text n image.nodes) count in
    let sent : IsPutTo (f.files c.args.shelf.now) (f.files o.new.self) c.args.file image.bytes.items o.result = rw (← c.bytes.ensures, ← c.deref.ensures.value) (record { done = e.done; others = e.others; allowed = e.allowed; denied = e.denied }) in
    let ends = put_ends h c.args.number (form.SaveFile c.args.file) c.args.file image.bytes.items _ _ _ _ _ _ _ c.requires tt (λ no. no) (λ no. no) refl
    (λ allowed whole. (image.bytes.items, image.nodes, saved, omega arith, allowed, line, refl, whole)) (λ denied. (image.bytes.items, image.nodes, saved, inr (omega arith, denied, refl)))
    o.result c.put_reply.result sent e.refused e.cause c.put_reply.ensures.ok c.put_reply.ensures.stopped in
    record { done = λ looks pairs places. (ends looks pairs places).0; stopped = λ looks pairs places. (ends looks pairs places).1 }
