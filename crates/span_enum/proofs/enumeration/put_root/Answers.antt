use Rattle.span_enum.proofs.Base.{Some, [], ap, ◌++◌, ◌∙◌, ◌∷◌}
use Rattle.span_enum.proofs.Roots.{fresh-root}
use Rattle.span_enum.proofs.enumeration.put_root.Goals as goal

pub returns-in-Some-clause-fresh : goal.returns-in-Some-clause-fresh
returns-in-Some-clause-fresh g c =
    fresh-root c.args.input.now c.in-Some.id c.look-look.result c.requires.input c.in-Some.is c.look-look.ensures.look c.args.trail.now.marks.items c.push_reserved.new.self.items c.requires.marks
    (c.push_reserved.ensures.items ∙ ap (λ k. k ++ Some (record { id = c.in-Some.id; look = c.look-look.result; at = 1; goals = c.args.input.now.finals; quiet = c.args.input.now.quiet; next = 0 }) ∷ []) c.requires.ahead)
