use Rattle.span_enum.proofs.Base.{IsTable, List, ℕ}
use Rattle.span_enum.proofs.Runs.{tells}
use Rattle.span_enum.proofs.Tables.{are-between, between-left, lead-quiet}
use Rattle.span_enum.proofs.sets.goals_between.Goals as goal

pub returns : goal.returns
returns g c =
    let a = c.args.dfa.now in
    let here = c.args.here.now in
    let fork = c.requires.fork in
    let among = c.goals_among.ensures in
    let are = λ (s u : List ℕ) (il : IsTable a s c.args.left.now) (ir : IsTable a u c.args.right.now).
    are-between a c.states-states.ensures.automaton s u c.args.left.now c.args.right.now c.args.p here.goals c.reached.result c.goals_among.result.goals c.requires.state (tells a s _ il) (tells a u _ ir) c.reached.ensures.value among.goals in
    record {
      between = are;
      on = λ q h. (among.goals.only q h).1;
      can = between-left a fork.left_text fork.right_text here.look.table.now c.args.left.now c.args.p here.goals _ (tells a _ _ fork.whole) (tells a _ _ fork.left_is) c.requires.state
          (are fork.left_text fork.right_text fork.left_is fork.right_is);
      quiet = λ s u il ir. lead-quiet a s u c.args.left.now c.args.right.now c.args.p here.goals here.quiet c.reached.result _ (tells a s _ il) (tells a u _ ir) c.requires.state c.reached.ensures.value among.quiet;
    }
