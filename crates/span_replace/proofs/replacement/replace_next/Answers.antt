use Rattle.std.proofs.Common.{◌≡◌, ◌-◌, arith, ap, ◌∙◌, ◌++◌, length, length-append}
use Rattle.std.proofs.lemmas.List.{length-take}
use Rattle.slp_model.proofs.NodesLemmas.{Grows-trans}
use Rattle.slp_model.specs.Nodes.{text_of}
use Rattle.span_replace.proofs.Grown.{live-grows, text-grows}
use Rattle.span_replace.proofs.replacement.replace_next.Goals as goal

pub join-requires-clause-live : goal.join-requires-clause-live
join-requires-clause-live g c = (c.in_ok-prefix.ensures.live.0, live-grows _ _ _ _ c.cut_out.ensures.grows c.args.by c.requires.by)

pub join-requires-clause-short : goal.join-requires-clause-short
join-requires-clause-short g c =
    let by : text_of c.cut_out.new.store c.args.by ≡ text_of c.args.store.now c.args.by = text-grows _ _ _ _ c.cut_out.ensures.grows c.args.by c.requires.by in
    omega (arith, ap length c.in_ok-prefix.ensures.before, ap length by, length-take (c.args.span.start - c.args.work.at) (text_of c.args.store.now c.args.work.rest), c.requires.short)

pub returns-in_err-piece-clause-grows : goal.returns-in_err-piece-clause-grows
returns-in_err-piece-clause-grows g c = Grows-trans _ _ _ _ _ _ c.cut_out.ensures.grows c.join.ensures.grows

pub join-requires-2-clause-live : goal.join-requires-2-clause-live
join-requires-2-clause-live g c = (live-grows _ _ _ _ (Grows-trans _ _ _ _ _ _ c.cut_out.ensures.grows c.join.ensures.grows) c.args.work.done c.requires.done, c.in_ok-piece.ensures.live)

pub join-requires-2-clause-short : goal.join-requires-2-clause-short
join-requires-2-clause-short g c =
    let by : text_of c.cut_out.new.store c.args.by ≡ text_of c.args.store.now c.args.by = text-grows _ _ _ _ c.cut_out.ensures.grows c.args.by c.requires.by in
    let done : text_of c.join.new.store c.args.work.done ≡ text_of c.args.store.now c.args.work.done =
    text-grows _ _ _ _ (Grows-trans _ _ _ _ _ _ c.cut_out.ensures.grows c.join.ensures.grows) c.args.work.done c.requires.done in
    omega (
      arith,
      ap length c.in_ok-prefix.ensures.before,
      ap length by,
      ap length done,
      ap length c.in_ok-piece.ensures.text,
      length-append (text_of c.cut_out.new.store c.in_ok-prefix.prefix) (text_of c.cut_out.new.store c.args.by),
      length-take (c.args.span.start - c.args.work.at) (text_of c.args.store.now c.args.work.rest),
      c.requires.short,
    )

pub returns-in_err-done-clause-grows : goal.returns-in_err-done-clause-grows
returns-in_err-done-clause-grows g c = Grows-trans _ _ _ _ _ _ (Grows-trans _ _ _ _ _ _ c.cut_out.ensures.grows c.join.ensures.grows) c.join-2.ensures.grows

pub returns-clause-grows : goal.returns-clause-grows
returns-clause-grows g c = Grows-trans _ _ _ _ _ _ (Grows-trans _ _ _ _ _ _ c.cut_out.ensures.grows c.join.ensures.grows) c.join-2.ensures.grows

pub returns-clause-done : goal.returns-clause-done
returns-clause-done g c =
    let by : text_of c.cut_out.new.store c.args.by ≡ text_of c.args.store.now c.args.by = text-grows _ _ _ _ c.cut_out.ensures.grows c.args.by c.requires.by in
    let done : text_of c.join.new.store c.args.work.done ≡ text_of c.args.store.now c.args.work.done =
    text-grows _ _ _ _ (Grows-trans _ _ _ _ _ _ c.cut_out.ensures.grows c.join.ensures.grows) c.args.work.done c.requires.done in
    c.in_ok-done.ensures.text ∙ (λ j. done j ++ (c.in_ok-piece.ensures.text ∙ (λ k. c.in_ok-prefix.ensures.before k ++ by k)) j)

pub returns-clause-rest : goal.returns-clause-rest
returns-clause-rest g c =
    text-grows _ _ _ _ (Grows-trans _ _ _ _ _ _ c.join.ensures.grows c.join-2.ensures.grows) c.in_ok-prefix.rest c.in_ok-prefix.ensures.live.1 ∙ c.in_ok-prefix.ensures.after
