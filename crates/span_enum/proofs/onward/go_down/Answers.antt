use Rattle.span_enum.proofs.Base.{arith, plain, refl, sym, text_at, ◌∙◌}
use Rattle.span_enum.proofs.Chains.{Fork, down-left, down-right, fork}
use Rattle.span_enum.proofs.Runs.{run-within, tells}
use Rattle.span_enum.proofs.Ways.{descends-left, descends-right}
use Rattle.span_enum.proofs.onward.go_down.Given.{Over}
use Rattle.span_enum.proofs.onward.go_down.Goals.{After-look-right}
use Rattle.span_enum.proofs.onward.go_down.Goals as goal

-- the tables of the pair and of its children
pair : (g : Over) (c : After-look-right g) → Fork c.args.input.now c.args.descent.now.here c.args.l c.args.r c.look-left.result c.look-right.result
pair g c = fork c.args.input.now c.requires.input c.args.descent.now.here c.requires.is_ahead c.args.l c.args.r c.look-left.result c.look-right.result c.requires.node c.look-left.ensures.look c.look-right.ensures.look

pub returns-in-Plain : goal.returns-in-Plain
returns-in-Plain g c =
    let input = c.args.input.now in
    let x = text_at input c.args.l.index in
    let hs = c.args.trail.now.ahead.items in
    let ms = c.args.trail.now.marks.items in
    let f = pair g (goal.at.returns-in-Plain g c).After-look-right in
    let p = c.in-Plain.ensures.over _ _ f.whole f.left_is f.right_is in
    let run = sym ((tells input.dfa.now x _ f.left_is).unmarked c.args.descent.now.state c.requires.state) ∙ p.step in
    let low = run-within input.dfa.now c.requires.input.automaton c.args.descent.now.state c.in-Plain.q (plain x) c.requires.state run in
    rw c.go_right.ensures (record {
      down = λ can. down-right input c.args.descent.now.here c.args.l c.args.r _ _ f c.args.descent.now.state c.args.descent.now.base ms _ hs _ can c.in-Plain.q low;
      some = p.some;
      on = λ more last end out out' place d.
          descends-right input c.args.descent.now.here c.args.l c.args.r _ _ f hs c.args.descent.now.state c.args.descent.now.base ms more last c.in-Plain.q c.args.looks.now c.look-right.new.looks end out out' place
          (omega (arith, c.look-left.ensures.step, c.look-right.ensures.step)) c.requires.state low p d;
      less = f.pair.2;
      marks = refl;
      room = refl;
      base = refl;
    })

pub returns-in-Marked : goal.returns-in-Marked
returns-in-Marked g c =
    let input = c.args.input.now in
    let hs = c.args.trail.now.ahead.items in
    let ms = c.args.trail.now.marks.items in
    let f = pair g (goal.at.returns-in-Marked g c).After-look-right in
    let p = c.in-Marked.ensures.over _ _ f.whole f.left_is f.right_is in
    let put = c.go_left.ensures in
    rw (put.child, put.room, put.marks, put.items) (record {
      down = λ can. down-left input c.args.descent.now.here c.args.l c.args.r _ _ f c.args.descent.now.state c.args.descent.now.base ms _ hs _ can c.in-Marked.between;
      some = p.some;
      on = λ more last end out out' place d.
          descends-left input c.args.descent.now.here c.args.l c.args.r _ _ f hs c.args.descent.now.state c.args.descent.now.base ms more last c.in-Marked.between c.args.looks.now c.look-right.new.looks end out out' place
          (omega (arith, c.look-left.ensures.step, c.look-right.ensures.step)) p d;
      less = f.pair.1;
      marks = refl;
      room = refl;
      base = refl;
    })
