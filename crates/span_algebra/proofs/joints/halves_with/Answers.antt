use Rattle.std.proofs.Common.{leb, ltb, arith, rules}
use Rattle.std.proofs.lemmas.List.Sorted.{IsPartitionPoint-from_clause, IsPartitionedBy-leb, IsPartitionedBy-ltb}
use Rattle.span_algebra.specs.declared.joints.Half.{Half}
use Rattle.span_algebra.proofs.JointRanges.{in-order, with-key}
use Rattle.span_algebra.proofs.joints.halves_with.Goals as goal

pub slice_bounds-result-count : goal.slice_bounds-result-count
slice_bounds-result-count c =
    let below = IsPartitionPoint-from_clause (λ (h : Half). ltb h.key c.args.key) c.args.halves.now _ c.partition_point-first.ensures.partitioned (IsPartitionedBy-ltb (λ (h : Half). h.key) c.args.halves.now c.args.key c.requires) (λ a r q k. search rules) in
    let up = IsPartitionPoint-from_clause (λ (h : Half). leb h.key c.args.key) c.args.halves.now _ c.partition_point-end.ensures.partitioned (IsPartitionedBy-leb (λ (h : Half). h.key) c.args.halves.now c.args.key c.requires) (λ a r q k. search rules) in
    in-order c.args.halves.now c.args.key _ _ below up c.partition_point-first.ensures.bound c.partition_point-end.ensures.bound

pub slice_bounds-result-start : goal.slice_bounds-result-start
slice_bounds-result-start c =
    let below = IsPartitionPoint-from_clause (λ (h : Half). ltb h.key c.args.key) c.args.halves.now _ c.partition_point-first.ensures.partitioned (IsPartitionedBy-ltb (λ (h : Half). h.key) c.args.halves.now c.args.key c.requires) (λ a r q k. search rules) in
    let up = IsPartitionPoint-from_clause (λ (h : Half). leb h.key c.args.key) c.args.halves.now _ c.partition_point-end.ensures.partitioned (IsPartitionedBy-leb (λ (h : Half). h.key) c.args.halves.now c.args.key c.requires) (λ a r q k. search rules) in
    let le = in-order c.args.halves.now c.args.key _ _ below up c.partition_point-first.ensures.bound c.partition_point-end.ensures.bound in
    omega (arith, le)

pub returns : goal.returns
returns c =
    let below = IsPartitionPoint-from_clause (λ (h : Half). ltb h.key c.args.key) c.args.halves.now _ c.partition_point-first.ensures.partitioned (IsPartitionedBy-ltb (λ (h : Half). h.key) c.args.halves.now c.args.key c.requires) (λ a r q k. search rules) in
    let up = IsPartitionPoint-from_clause (λ (h : Half). leb h.key c.args.key) c.args.halves.now _ c.partition_point-end.ensures.partitioned (IsPartitionedBy-leb (λ (h : Half). h.key) c.args.halves.now c.args.key c.requires) (λ a r q k. search rules) in
    with-key c.args.halves.now c.args.key _ _ below up c.partition_point-first.ensures.bound c.partition_point-end.ensures.bound
