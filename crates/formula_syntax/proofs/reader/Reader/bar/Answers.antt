use Rattle.std.proofs.Common.{refl}
use Rattle.formula_syntax.specs.Machine.{at, text, bar}
use Rattle.formula_syntax.proofs.Moves.{bar_branches}
use Rattle.formula_syntax.proofs.reader.Reader.bar.Goals as goal

pub returns : goal.returns
returns c = λ k h. (
  at text (bar k),
  refl,
  record {
    slash = h.slash;
    mode = h.mode;
    stack = record {
      level = record {
        branches = bar_branches _ _ c.replace-parts.result.items c.in_ok-branch.branch k.level.branches k.level.parts c.in_ok-push.ensures.items c.in_ok-branch.ensures h.stack.level.branches (rw c.replace-parts.ensures.value h.stack.level.parts);
        parts = rw (c.replace-parts.ensures.after, c.new.ensures.items) refl;
      };
      groups = h.stack.groups;
      vars = h.stack.vars;
      crowded = h.stack.crowded;
      deepest = h.stack.deepest;
    };
  },
)
