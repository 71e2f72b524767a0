use Rattle.std.proofs.Common.{◌≡◌, ℕ, length, sym, subst, arith, add-one}
use Rattle.query_book.proofs.NameIndex.{AreOthers, index-found, index-none, others-step, other-by, same-by}
use Rattle.query_book.proofs.finding.index_of.Goals as goal

pub returns-then-is_same : goal.returns-then-is_same
returns-then-is_same c =
    index-found c.loop-index.index c.args.by_name.now c.args.name.now (c.at.result.0.now, c.at.result.1.now) c.loop-index.invariant c.at.ensures
    (same-by c.is_same.result c.args.name.now c.at.result.0.now c.bytes.result.now c.is_same.ensures c.bytes.ensures.value c.if-is_same.true)

pub loop-index-preserved : goal.loop-index-preserved
loop-index-preserved c =
    subst (λ (n : ℕ). AreOthers n c.args.by_name.now c.args.name.now) (sym (add-one c.loop-index.index))
    (others-step c.loop-index.index c.args.by_name.now c.args.name.now (c.at.result.0.now, c.at.result.1.now) c.loop-index.invariant c.at.ensures
    (other-by c.is_same.result c.args.name.now c.at.result.0.now c.bytes.result.now c.is_same.ensures c.bytes.ensures.value c.if-is_same.false))

pub returns : goal.returns
returns c =
    let all : c.loop-index.index ≡ length c.args.by_name.now = omega (arith, c.loop-index-test.false, c.loop-index.auto.index-end, c.count-index-end.ensures.count) in
    index-none c.args.by_name.now c.args.name.now (subst (λ (n : ℕ). AreOthers n c.args.by_name.now c.args.name.now) all c.loop-index.invariant)
