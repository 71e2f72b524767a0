use Rattle.std.proofs.Common.{refl, arith}
use Rattle.formula_syntax.specs.View.{inside, ShowsGroups}
use Rattle.formula_syntax.specs.Machine.{at, text, open_group}
use Rattle.formula_syntax.proofs.Moves.{length_groups}
use Rattle.formula_syntax.proofs.reader.Reader.open.Goals as goal

pub returns : goal.returns
returns c = λ k v o h.
    let m = open_group k v k.names in
    let gs : ShowsGroups c.push.new.self.items m.groups = inside _ c.args.self.now.groups.items _ k.groups (record { opener = c.args.opener; around = c.replace-around.result }) (record { variable = v; around = k.level }) c.in_ok-push.ensures.items refl (record { opener = o; around = rw c.replace-around.ensures.value h.stack.level }) h.stack.groups in (
      at text m,
      refl,
      record {
        slash = h.slash;
        mode = h.mode;
        stack = record {
          level = record { branches = rw (c.replace-around.ensures.after, c.new.ensures.branches) refl; parts = rw (c.replace-around.ensures.after, c.new.ensures.parts) refl };
          groups = gs;
          vars = h.stack.vars;
          crowded = h.stack.crowded;
          deepest = omega (arith, length_groups _ _ gs, c.push.new.self.ok.0, h.stack.deepest, c.len.ensures, c.max-self.ensures);
        };
      },
    )
