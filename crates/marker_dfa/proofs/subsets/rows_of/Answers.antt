use Rattle.std.proofs.Common.{◌≡◌, ◌<◌, ℕ, List, subst, ap, ◌∙◌, arith, length, slice_get}
use Rattle.marker_dfa.specs.Bundled.{automaton_in}
use Rattle.marker_dfa.specs.Making.{IsRow, bytes_of}
use Rattle.marker_dfa.proofs.RowsGrow.{rows_more, rows_start}
use Rattle.marker_dfa.proofs.subsets.rows_of.Goals as goal

pub rows-init : goal.rows-init
rows-init c = rw (c.in_ok-found.ensures, c.new-rows.ensures.items) (rows_start c.args.most (automaton_in c.args.nfa.now) c.args.bytes.now c.requires.some c.requires.automaton.has_start)

pub rows-preserved : goal.rows-preserved
rows-preserved c =
    let lt : length c.rows.rows.items < length c.rows.found.sets.items = omega (arith, c.rows-test.true, c.len.ensures, c.len-in-rows.ensures, c.rows.rows.ok.0, c.rows.found.sets.ok.0) in
    let e : c.len-in-rows-2.result ≡ length c.rows.rows.items = omega (arith, c.len-in-rows-2.ensures, c.rows.rows.ok.0) in
    let bytes : bytes_of c.in_ok-plan.plan.by_byte.items ≡ c.args.bytes.now = c.in_ok-plan.ensures.bytes in
    let are_found = rw (c.in_ok-plan.ensures.most) at c.in_ok-row.ensures.found in
    rw (c.in_ok-push.ensures.items) (rows_more c.args.most (automaton_in c.args.nfa.now) c.args.bytes.now _ _ _ c.in_ok-row.row c.rows.invariant lt are_found c.in_ok-row.ensures.extends (λ x h. subst (λ (l : List ℕ). IsRow (automaton_in c.args.nfa.now) c.row_of.new.found.sets.items x l c.in_ok-row.row) bytes (c.in_ok-row.ensures.row x (ap (slice_get c.rows.found.sets.items) e ∙ h))))
