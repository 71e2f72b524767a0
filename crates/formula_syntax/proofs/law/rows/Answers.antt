use Rattle.std.proofs.Common.{◌≡◌, ℕ, List, [], refl, sym, ◌∙◌, None}
use Rattle.std.specs.Prelude.{codes}
use Rattle.formula_syntax.specs.Machine.{read}
use Rattle.formula_syntax.specs.Laws.{NoReading}
use Rattle.formula_syntax.proofs.Complete.{complete}
use Rattle.formula_syntax.proofs.Sound.{sound}
use Rattle.formula_syntax.proofs.law.rows.Goals as goal

none : (s : List ℕ) → read s ≡ None → NoReading s
none s e f names d h = let bad = sym e ∙ complete s f names d h in cc

pub returns : goal.returns
returns c = record {
  empty = sound [] _ refl;
  group = sound (codes "()") _ refl;
  branches = sound (codes "a|b|") _ refl;
  capture = sound (codes "($x{a}|b)") _ refl;
  twice = sound (codes "$x{a}$x{b}") _ refl;
  signs = sound (codes "a*?bc") _ refl;
  backwards = none (codes "[b-a]") refl;
  unopened = none (codes "a)") refl;
  crossed = none (codes "$x{a)") refl;
  sign_alone = none (codes "*") refl;
}
