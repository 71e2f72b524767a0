use Rattle.std.proofs.Common.{arith, ◌≡◌, None, Some, Option, Err}
use Rattle.formula_syntax.specs.Machine.{Found}
use Rattle.formula_syntax.specs.View.{Finds}
use Rattle.formula_syntax.specs.declared.reader.Stop as stop
use Rattle.formula_syntax.proofs.Complete.{complete}
use Rattle.formula_syntax.proofs.outcome.read.Goals as goal

stopped : (e : stop.Stop) (o : Option Found) → e ≡ stop.TheVariants.Bad → Finds (Err e) o → o ≡ None
stopped e o q h = rw q at h

none_some : (o : Option Found) (x : Found) → o ≡ None → o ≡ Some x → ⊥
none_some o x e h = cc

pub returns-in-Err-Bad : goal.returns-in-Err-Bad
returns-in-Err-Bad c = (omega (arith, c.if-text-gt2048.false), λ f names d h. none_some _ _ (stopped _ _ c.in-Err-Bad.field-0-is c.in-Err-Bad.ensures) (complete _ f names d h))

pub judge-requires : goal.judge-requires
judge-requires c = (c.args.text.now, c.in-Ok.ensures)

pub returns-in-Ok : goal.returns-in-Ok
returns-in-Ok c = c.judge.ensures c.args.text.now (omega (arith, c.if-text-gt2048.false)) c.in-Ok.ensures
