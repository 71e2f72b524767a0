use Rattle.std.proofs.Common.{◌∙◌, sym, subst, ◌≤◌, arith}
use Rattle.slp_model.specs.Nodes.{tree}
use Rattle.slp_model.proofs.TreeLemmas.{height-most, height-within, length-text}
use Rattle.span_types.specs.Fibonacci.{height_limit}
use Rattle.span_types.proofs.LimitLemmas.{height_limit-right}
use Rattle.range_read.proofs.root_len.Goals as goal

pub returns-in-Some-clause-len : goal.returns-in-Some-clause-len
returns-in-Some-clause-len c = rw c.in-Some.is (c.len.ensures.len ∙ sym (length-text (tree c.args.store.now c.in-Some.id.index)))

pub returns-in-Some-clause-low : goal.returns-in-Some-clause-low
returns-in-Some-clause-low c = rw c.in-Some.is (λ n h. height-within (tree c.args.store.now c.in-Some.id.index) n (height_limit n) c.len.ensures.balanced (subst (λ k. k ≤ n) (length-text (tree c.args.store.now c.in-Some.id.index)) h) (height_limit-right n))

pub returns-in-Some-clause-most : goal.returns-in-Some-clause-most
returns-in-Some-clause-most c = rw c.in-Some.is (height-most (tree c.args.store.now c.in-Some.id.index) c.len.ensures.balanced (omega (arith, c.len.ensures.len, c.len.ensures.short)))
