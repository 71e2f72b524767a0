use Rattle.std.proofs.Common.{sym, ap, ◌∙◌, ◌≡◌, ◌∷◌, [], Some}
use Rattle.span_types.specs.FormulaTree.{tree_of}
use Rattle.formula_syntax.specs.View.{trees, sign_of}
use Rattle.formula_syntax.specs.Machine.{Stack, postfix, change_last, postfix_of, at, text, add}
use Rattle.formula_syntax.proofs.Chains.{trees-append}
use Rattle.formula_syntax.proofs.Complete.{change_last-append}
use Rattle.formula_syntax.proofs.Moves.{snoc_capped, capped-sign}
use Rattle.formula_syntax.proofs.reader.Reader.postfix.Goals as goal

pub returns : goal.returns
returns c = λ k h.
    let x = snoc_capped k.level.parts (trees c.pop.new.self.items) (tree_of c.in-Some.last) (sym h.stack.level.parts ∙ ap trees c.in-Some.ensures.items ∙ trees-append c.pop.new.self.items (c.in-Some.last ∷ [])) in
    let j : Stack = record { level = record { branches = k.level.branches; parts = x.prefix }; groups = k.groups; names = k.names; deepest = k.deepest } in
    let one : postfix (sign_of c.args.sign) k ≡ Some (at text (add j (sign_of c.args.sign x.last))) = ap (λ z. postfix_of k (change_last (sign_of c.args.sign) z)) x.cut ∙ ap (postfix_of k) (change_last-append (sign_of c.args.sign) x.prefix x.last) in
    rw one (c.add.ensures j (sign_of c.args.sign x.last) (c.in_ok-part.ensures ∙ ap (sign_of c.args.sign) (sym x.same_last) ∙ sym (capped-sign c.args.sign x.last)) (record {
      slash = h.slash;
      mode = h.mode;
      stack = record { level = record { branches = h.stack.level.branches; parts = sym x.same_prefix }; groups = h.stack.groups; vars = h.stack.vars; crowded = h.stack.crowded; deepest = h.stack.deepest };
    }))
