use Rattle.std.proofs.Common.{refl}
use Rattle.formula_syntax.specs.View.{outermost}
use Rattle.formula_syntax.proofs.reader.Reader.new.Goals as goal

pub returns : goal.returns
returns c = record {
  slash = refl;
  mode = refl;
  stack = record {
    level = record { branches = rw c.new-2.ensures.branches refl; parts = rw c.new-2.ensures.parts refl };
    groups = outermost _ _ c.new-3.ensures.items refl;
    vars = c.new-4.ensures;
    crowded = refl;
    deepest = refl;
  };
}
