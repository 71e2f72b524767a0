use Rattle.std.proofs.Common.{ap, sym, arith, ◌∙◌}
use Rattle.std.proofs.lemmas.List.{drop_all}
use Rattle.path_counts.specs.Digest.{digest_of, with_rows}
use Rattle.path_counts.proofs.row_list.digest_of.Goals as goal

pub returns : goal.returns
unfolding digest_of
returns c = ap (with_rows c.loop-p.all) (sym (drop_all c.loop-p.p c.args.rows.now (omega (arith, c.len-p-end.ensures, c.loop-p-test.false)))) ∙ c.loop-p.invariant
