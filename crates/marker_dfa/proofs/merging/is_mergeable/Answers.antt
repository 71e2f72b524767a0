use Rattle.std.proofs.Common.{◌≡◌, Some, ap, sym, ◌∙◌, arith, get_or, slice_get}
use Rattle.std.proofs.lemmas.Bool.{ltb-true}
use Rattle.marker_dfa.proofs.Finding.{copied_get}
use Rattle.marker_dfa.proofs.Merges.{equivalent_at, option_is}
use Rattle.marker_dfa.proofs.merging.is_mergeable.Goals as goal
use Rattle.marker_dfa.proofs.merging.is_mergeable.Goals.{then-merged-kept, else-merged-kept}

pub returns-then-eq : goal.returns-then-eq
returns-then-eq c alike = elim c.if-merged-kept.branch [
  | then-merged-kept w ↦
      let copied = w.copied.ensures ∙ copied_get w.get.result c.args.into.now c.args.kept w.get.ensures.lookup in
      let at : slice_get c.args.into.now c.args.kept ≡ Some c.args.kept = sym copied ∙ option_is w.copied.result c.args.kept (sym w.eq.ensures ∙ sym w.value-is ∙ c.if-eq.true) in
      let rows = c.rows-rows.ensures.value in
      let left : c.index-rows-merged.result ≡ get_or c.args.dfa.now.rows c.args.merged c.index-rows-merged.result = c.index-rows-merged.is ∙ ap (λ l. get_or l c.args.merged c.index-rows-merged.result) rows in
      let right : c.index-rows-kept.result ≡ get_or c.args.dfa.now.rows c.args.kept c.index-rows-kept.result = c.index-rows-kept.is ∙ ap (λ l. get_or l c.args.kept c.index-rows-kept.result) rows in
      (w.if-merged-kept.true, at, equivalent_at c.args.dfa.now c.args.into.now c.args.merged c.args.kept c.index-rows-merged.result c.index-rows-kept.result c.rows-rows.ensures.automaton c.requires.representatives c.requires.merged at left right (c.are_rows_alike.ensures alike))
  | else-merged-kept w ↦ absurd (omega (arith, w.if-merged-kept.false, ltb-true c.args.merged c.args.kept (sym w.value-is ∙ c.if-eq.true)))
]
