use Rattle.std.proofs.Common.{◌≡◌, ◌≤◌, OnOk, length-take-le, sym, subst, ◌∙◌, arith, replicate}
use Rattle.state_tables.specs.Coded.{with_set}
use Rattle.state_tables.proofs.StateSets.{none-words}
use Rattle.state_tables.proofs.composition.push_image.Goals as goal

pub reach_set-requires-clause-room : goal.reach_set-requires-clause-room
reach_set-requires-clause-room c =
    let few : c.width.result ≤ 16 = omega (arith, c.width.ensures, c.requires.right.width, c.requires.right.few) in
    let few_rows : c.width-2.result ≤ 16 = omega (arith, c.width-2.ensures, c.requires.right.width, c.requires.right.few) in
    record {
      states = c.requires.right;
      width = length-take-le c.width.result (replicate 16 0) few ∙ c.width.ensures;
      marks = length-take-le c.width-2.result (replicate 16 0) few_rows ∙ c.width-2.ensures;
    }

pub reach_set-requires-clause-empty : goal.reach_set-requires-clause-empty
reach_set-requires-clause-empty c = none-words 16 c.width.result

pub reach_set-requires-clause-none : goal.reach_set-requires-clause-none
reach_set-requires-clause-none c = none-words 16 c.width-2.result

pub push-requires-clause-width : goal.push-requires-clause-width
push-requires-clause-width c = c.reach_set.ensures.room.width ∙ sym c.requires.width

pub returns : goal.returns
returns c = subst (λ n. OnOk c.push.result (c.push.new.self ≡ with_set c.args.images.now n)) c.reach_set.ensures.value c.push.ensures.ok
