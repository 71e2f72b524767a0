-- Errors of operations.
use Rattle.std.proofs.Common.{ℕ, ◌≤◌, Result, Ok, Err, IfErr, arith}
use Rattle.span_algebra.specs.declared.refusal.AlgebraRefusal.{AlgebraRefusal}
use Rattle.span_algebra.specs.declared.refusal.AlgebraRefusal.TheVariants.{TooManyVariables, TooManyStates, NoMemory}
use Rattle.span_algebra.specs.Refusals.{IsRefused}

pub refused-as : (k : ℕ) (P Q : Type 0) (why : AlgebraRefusal) → k ≤ 8 → (P → Q) → IsRefused 0 P why → IsRefused k Q why
refused-as k P Q TooManyVariables le f h = absurd (omega (arith, h))
refused-as k P Q TooManyStates le f h = (le, f h.1)
refused-as k P Q NoMemory le f h = tt

pub refused-by : {A : Type 0} (r : Result A AlgebraRefusal) (k : ℕ) (P Q : Type 0) → k ≤ 8 → (P → Q) → IfErr r (IsRefused 0 P) → IfErr r (IsRefused k Q)
refused-by (Ok x) k P Q le f h = tt
refused-by (Err e) k P Q le f h = refused-as k P Q e le f h
