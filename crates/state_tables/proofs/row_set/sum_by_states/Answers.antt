use Rattle.std.proofs.Common.{ℕ, List, ◌*◌, ◌+◌, ◌%◌, ◌^◌, ap, arith, refl, sym, ◌∙◌}
use Rattle.std.proofs.lemmas.List.{take_all}
use Rattle.state_tables.specs.Coded.{coded_at, row_in}
use Rattle.state_tables.specs.Digest.{row_number}
use Rattle.state_tables.specs.Weights.{weighted}
use Rattle.state_tables.proofs.Weights.{next-weight, weight-none, weighted-more}
use Rattle.state_tables.proofs.row_set.sum_by_states.Goals as goal

pub loop-class-init : goal.loop-class-init
loop-class-init c = record {
  next = ap (λ n. n % 2 ^ 64) (sym weight-none);
  added = refl;
}

pub loop-class-preserved : goal.loop-class-preserved
loop-class-preserved c =
    let at = c.loop-class in
    let i = at.class-index in
    record {
      next = next-weight i at.weight at.invariant.next;
      added =
          ap (λ n. (at.sum + at.weight * n % 2 ^ 64) % 2 ^ 64) c.number_at.ensures
          ∙ weighted-more (λ k. row_number c.args.sets.now.width (row_in c.args.sets.now.sets (coded_at c.args.rows.now k))) (2 ^ 64) c.args.classes.now i at.sum at.weight c.loop-class-test.true at.invariant.next at.invariant.added;
    }

pub returns : goal.returns
returns c =
    let at = c.loop-class in
    at.invariant.added
    ∙ ap (λ (cs : List ℕ). weighted (λ k. row_number c.args.sets.now.width (row_in c.args.sets.now.sets (coded_at c.args.rows.now k))) 0 cs % 2 ^ 64) (take_all at.class-index c.args.classes.now (omega (arith, c.loop-class-test.false)))
