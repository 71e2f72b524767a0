use Rattle.span_enum.proofs.Base.{arith}
use Rattle.span_enum.proofs.Runs.{some-can, tells}
use Rattle.span_enum.proofs.Tables.{plain-left, sole-left}
use Rattle.span_enum.proofs.onward.over_left.Goals as goal

pub returns-in-Some : goal.returns-in-Some
returns-in-Some g c = record {
  over = λ s u it il ir.
      let a = c.args.input.now.dfa.now in
      let t = c.args.here.now.look.table.now in
      sole-left a s u t c.args.left.now c.args.right.now c.args.p c.in-Some.q c.args.here.now.goals (tells a _ _ it) (tells a _ _ il) (tells a _ _ ir) c.requires.state
      (omega (arith, c.in-Some.ensures.within, il.shape.states)) c.requires.some c.in-Some.ensures.sole.1 c.in-Some.ensures.sole.0;
}

pub returns-in-Some-plain_into : goal.returns-in-Some-plain_into
returns-in-Some-plain_into g c = record {
  over = λ s u it il ir.
      let a = c.args.input.now.dfa.now in
      let t = c.args.here.now.look.table.now in
      let plain = c.in-Some-plain_into.ensures.plain in
      plain-left a s u t c.args.left.now c.args.right.now c.args.p c.in-Some-plain_into.q c.args.here.now.goals (tells a _ _ it) (tells a _ _ il) (tells a _ _ ir) c.requires.state
      (omega (arith, c.in-Some-plain_into.ensures.within, il.shape.states)) c.requires.some plain.1 c.goals_between-between.result.goals (c.goals_between-between.ensures.between s u il ir)
      (c.goals_between-between.ensures.can (some-can t c.args.p c.args.here.now.goals c.requires.some)) plain.0;
}
