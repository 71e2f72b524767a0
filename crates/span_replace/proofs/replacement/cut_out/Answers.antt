use Rattle.std.proofs.Common.{◌≡◌, ◌+◌, ◌-◌, arith, ap, ◌∙◌, length, take, drop, length-drop}
use Rattle.std.proofs.lemmas.List.{drop-drop}
use Rattle.slp_model.proofs.NodesLemmas.{Grows-trans}
use Rattle.slp_model.proofs.TreeLemmas.{length-root_text}
use Rattle.slp_model.specs.Nodes.{root_tree, text_of}
use Rattle.span_replace.proofs.Grown.{live-grows, text-grows}
use Rattle.span_replace.proofs.replacement.cut_out.Goals as goal

pub split-requires-clause-to : goal.split-requires-clause-to
split-requires-clause-to g c = omega (arith, c.requires.order, c.requires.to, length-root_text (root_tree c.args.store.now c.args.root))

pub split-requires-2-clause-to : goal.split-requires-2-clause-to
split-requires-2-clause-to g c =
    omega (arith, c.requires.order, c.requires.to, ap length c.in_ok-prefix.ensures.after, length-drop (c.args.from + 1 - 1) (text_of c.args.store.now c.args.root), length-root_text (root_tree c.split.new.store c.in_ok-prefix.tail))

pub returns-in_err-rest-clause-grows : goal.returns-in_err-rest-clause-grows
returns-in_err-rest-clause-grows g c = Grows-trans _ _ _ _ _ _ c.split.ensures.grows c.split-2.ensures.grows

pub returns-clause-grows : goal.returns-clause-grows
returns-clause-grows g c = Grows-trans _ _ _ _ _ _ c.split.ensures.grows c.split-2.ensures.grows

pub returns-clause-live : goal.returns-clause-live
returns-clause-live g c = (live-grows _ _ _ _ c.split-2.ensures.grows c.in_ok-prefix.prefix c.in_ok-prefix.ensures.live.0, c.in_ok-rest.ensures.live.1)

pub returns-clause-before : goal.returns-clause-before
returns-clause-before g c =
    let e : c.args.from + 1 - 1 ≡ c.args.from = omega arith in
    text-grows _ _ _ _ c.split-2.ensures.grows c.in_ok-prefix.prefix c.in_ok-prefix.ensures.live.0 ∙ (c.in_ok-prefix.ensures.before ∙ ap (λ n. take n (text_of c.args.store.now c.args.root)) e)

pub returns-clause-after : goal.returns-clause-after
returns-clause-after g c =
    let x = text_of c.args.store.now c.args.root in
    let from = c.args.from + 1 - 1 in
    let len = c.args.to - c.args.from + 1 - 1 in
    let e : from + len ≡ c.args.to = omega (arith, c.requires.order) in
    c.in_ok-rest.ensures.after ∙ (ap (λ y. drop len y) c.in_ok-prefix.ensures.after ∙ (drop-drop len from x ∙ ap (λ n. drop n x) e))
