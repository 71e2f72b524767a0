use Rattle.text_commands.proofs.Names.{ap, arith, inl, inr, IsPutTo, length, List, load_size, refl, take_all, text_of, ℕ, ◌++◌, ◌+◌, ◌-◌, ◌<◌, ◌∙◌, ◌≡◌, ◌≤◌}
use Rattle.span_types.specs.Ranges.{content}
use Rattle.script_syntax.specs.declared.form.Command.TheVariants as form
use Rattle.report_text.specs.Reply.{written_text}
use Rattle.text_commands.proofs.Facts.{put_ends}
use Rattle.text_commands.proofs.writing.write_file.Goals as goal

-- the range of all positions
whole_content : (text : List ℕ) (n : ℕ) → n ≡ length text → content text 1 (n + 1) ≡ text
whole_content text n is = take_all (n + 1 - 1) text (omega (arith, is))

pub returns-in-Err-NoSuchDocument-clause-done : goal.returns-in-Err-NoSuchDocument-clause-done
returns-in-Err-NoSuchDocument-clause-done g c = λ looks pairs places.
    c.reject.ensures.done c.args.session.now _ _ _ looks pairs places (record { session = c.requires; refused = inl (c.in-Err-NoSuchDocument.ensures.missing, refl); free = refl }) refl

pub returns-then-len-gt-MAX_WRITE-clause-done : goal.returns-then-len-gt-MAX_WRITE-clause-done
returns-then-len-gt-MAX_WRITE-clause-done g c = λ looks pairs places.
    let long : load_size < length (text_of c.args.session.now.store c.in-Ok.root) = omega (arith, c.if-len-gt-MAX_WRITE.true, c.root_len-len.ensures.len) in
    c.reject-then-len-gt-MAX_WRITE.ensures.done c.args.session.now _ _ _ looks pairs places (record { session = c.requires; refused = inr (_, c.in-Ok.ensures.found.text, inl (long, refl)); free = refl }) refl

pub returns : goal.returns
returns g c =
    let h = c.args.session.now in
    let f = g.F.Shelf in
    let o = c.put_bytes-outcome in
    let text = text_of h.store c.in-Ok.root in
    let size = c.root_len-len.ensures.len in
    let there = c.in-Ok.ensures.found.text in
    let short : length text ≤ load_size = omega (arith, c.if-len-gt-MAX_WRITE.false, size) in
    let line = c.in_ok-written_line.ensures.ok ∙ ap (λ (l : List ℕ). l ++ written_text c.root_len-len.result) c.new-line.ensures.items ∙ ap written_text size in
    let sent : IsPutTo (f.files c.args.shelf.now) (f.files o.new.shelf) c.args.file text o.result = rw (← c.bytes.ensures, ← whole_content text c.root_len-len.result size, ← c.in_ok-bytes.ensures) o.ensures.put in
    let ends = put_ends h c.args.number (form.WriteFile c.args.name c.args.file) c.args.file text _ _ _ _ _ _ _ c.requires tt (λ no. no) (λ no. no) refl
    (λ allowed whole. record { text = text; document = there; short = short; writable = allowed; replied = line; state = refl; put = whole }) (λ denied. inr (text, there, inr (short, denied, refl)))
    o.result c.put_reply.result sent o.ensures.refused o.ensures.cause c.put_reply.ensures.ok c.put_reply.ensures.stopped in
    record { done = λ looks pairs places. (ends looks pairs places).0; stopped = λ looks pairs places. (ends looks pairs places).1 }
