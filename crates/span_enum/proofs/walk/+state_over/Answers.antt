use Rattle.span_enum.proofs.Base.{IsNodeAt, Pair, ap, arith, length, length-append, mark_count, reached, refl, sym, text, tree, word_over, ◌+◌, ◌<◌, ◌∙◌, ◌≡◌}
use Rattle.span_enum.proofs.Runs.{Tells}
use Rattle.span_enum.proofs.Tables.{look-table, pair-height, pair-text}
use Rattle.span_enum.proofs.Words.{lower-cost, over-count, over-dead, over-plain, over-run}
use Rattle.span_enum.proofs.walk.+state_over.Goals as goal

pub returns-then-not-is_marked_between-clause-value :
    goal.returns-then-not-is_marked_between-clause-value
returns-then-not-is_marked_between-clause-value g t c =
    let view = c.args.view.now in
    let a = c.args.dfa.now in
    let s = text (tree view.store.now c.args.part.now.id.index) in
    let is : Tells a s c.args.part.now.look.table.now =
    look-table a view.store.now view.tables.now c.requires.tables view.counted c.args.part.now.id.index _ _ _ c.requires.live c.requires.look in
    c.unmarked.ensures.value ∙ is.unmarked c.args.p c.requires.state
    ∙ ap (reached a c.args.p) (sym (over-plain c.args.t.now c.args.part.now.at s (λ q from to. c.if-not-is_marked_between.ensures.none refl q from (omega (arith, c.requires.look.len_is)))))

pub state_over-requires : goal.state_over-requires
state_over-requires g t c κs within =
    let nodes = c.args.view.now.store.now in
    let pair : IsNodeAt nodes c.args.part.now.id.index (Pair c.in-Pair.l c.in-Pair.r) = rw c.in-Pair.is at c.requires.look.node_is in
    let live-l : c.in-Pair.l.index < length nodes = omega (arith, pair.1, c.requires.live) in
    let sizes : length (text (tree nodes c.args.part.now.id.index)) ≡ length (text (tree nodes c.in-Pair.l.index)) + length (text (tree nodes c.in-Pair.r.index)) =
    ap length (pair-text nodes c.args.part.now.id.index _ _ pair) ∙ length-append (text (tree nodes c.in-Pair.l.index)) (text (tree nodes c.in-Pair.r.index)) in
    (omega (arith, c.decreases, pair.1), (within, (live-l, (c.look-left.ensures.look, (c.requires.tables, (c.requires.state, (c.requires.positive, omega (arith, sizes, c.requires.low))))))))

pub state_over-requires-in-Some : goal.state_over-requires-in-Some
state_over-requires-in-Some g t c κs within =
    let nodes = c.args.view.now.store.now in
    let pair : IsNodeAt nodes c.args.part.now.id.index (Pair c.in-Pair.l c.in-Pair.r) = rw c.in-Pair.is at c.requires.look.node_is in
    let live-r : c.in-Pair.r.index < length nodes = omega (arith, pair.2, c.requires.live) in
    let sizes : length (text (tree nodes c.args.part.now.id.index)) ≡ length (text (tree nodes c.in-Pair.l.index)) + length (text (tree nodes c.in-Pair.r.index)) =
    ap length (pair-text nodes c.args.part.now.id.index _ _ pair) ∙ length-append (text (tree nodes c.in-Pair.l.index)) (text (tree nodes c.in-Pair.r.index)) in (
      omega (arith, c.decreases, pair.2),
      (within, (live-r, (c.look-right.ensures.look, (c.requires.tables, (c.in-Some.ensures.within, (omega (arith, c.requires.positive), omega (arith, sizes, c.requires.low, c.look-left.ensures.look.len_is))))))),
    )

pub returns-in-Some-clause-value : goal.returns-in-Some-clause-value
returns-in-Some-clause-value g t c =
    let nodes = c.args.view.now.store.now in
    let pair : IsNodeAt nodes c.args.part.now.id.index (Pair c.in-Pair.l c.in-Pair.r) = rw c.in-Pair.is at c.requires.look.node_is in
    rw (pair-text nodes c.args.part.now.id.index _ _ pair)
    (rw c.look-left.ensures.look.len_is at c.state_over-in-Some.ensures.value
    ∙ sym (over-run c.args.dfa.now c.args.p c.args.part.now.at c.in-Some.q c.args.t.now (text (tree nodes c.in-Pair.l.index)) (text (tree nodes c.in-Pair.r.index)) (sym c.in-Some.ensures.value)))

pub returns-in-Some-clause-cost : goal.returns-in-Some-clause-cost
returns-in-Some-clause-cost g t c =
    let nodes = c.args.view.now.store.now in
    let pair : IsNodeAt nodes c.args.part.now.id.index (Pair c.in-Pair.l c.in-Pair.r) = rw c.in-Pair.is at c.requires.look.node_is in
    let join = pair-text nodes c.args.part.now.id.index _ _ pair in
    let found = c.if-not-is_marked_between.ensures.some refl in
    let pos : 0 < mark_count (word_over c.args.t.now c.args.part.now.at (text (tree nodes c.args.part.now.id.index))) =
    over-count c.args.t.now c.args.part.now.at (text (tree nodes c.args.part.now.id.index)) found.position found.after (omega (arith, found.before, c.requires.look.len_is)) found.some in
    rw join (lower-cost c.args.t.now c.args.part.now.at _ _ _ c.args.looks.now _ _ _ (text (tree nodes c.in-Pair.l.index)) (text (tree nodes c.in-Pair.r.index))
    (pair-height nodes c.args.part.now.id.index _ _ pair) (omega (arith, c.look-left.ensures.step, c.look-right.ensures.step)) (rw join at pos) c.state_over.ensures.cost
    (rw c.look-left.ensures.look.len_is at c.state_over-in-Some.ensures.cost))

pub returns-in-None-clause-value : goal.returns-in-None-clause-value
returns-in-None-clause-value g t c =
    let nodes = c.args.view.now.store.now in
    let pair : IsNodeAt nodes c.args.part.now.id.index (Pair c.in-Pair.l c.in-Pair.r) = rw c.in-Pair.is at c.requires.look.node_is in
    rw (pair-text nodes c.args.part.now.id.index _ _ pair)
    (sym (over-dead c.args.dfa.now c.args.p c.args.part.now.at c.args.t.now (text (tree nodes c.in-Pair.l.index)) (text (tree nodes c.in-Pair.r.index)) (sym c.in-None.ensures.value)))

pub returns-in-None-clause-cost : goal.returns-in-None-clause-cost
returns-in-None-clause-cost g t c =
    let nodes = c.args.view.now.store.now in
    let pair : IsNodeAt nodes c.args.part.now.id.index (Pair c.in-Pair.l c.in-Pair.r) = rw c.in-Pair.is at c.requires.look.node_is in
    let join = pair-text nodes c.args.part.now.id.index _ _ pair in
    let found = c.if-not-is_marked_between.ensures.some refl in
    let pos : 0 < mark_count (word_over c.args.t.now c.args.part.now.at (text (tree nodes c.args.part.now.id.index))) =
    over-count c.args.t.now c.args.part.now.at (text (tree nodes c.args.part.now.id.index)) found.position found.after (omega (arith, found.before, c.requires.look.len_is)) found.some in
    rw join (lower-cost c.args.t.now c.args.part.now.at _ _ _ c.args.looks.now _ _ _ (text (tree nodes c.in-Pair.l.index)) (text (tree nodes c.in-Pair.r.index))
    (pair-height nodes c.args.part.now.id.index _ _ pair) (omega (arith, c.look-left.ensures.step, c.look-right.ensures.step)) (rw join at pos) c.state_over.ensures.cost (omega arith))
