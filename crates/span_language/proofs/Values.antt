-- A name or a file has exactly one value, and results are unique.
use Rattle.std.proofs.Common.{◌≡◌, ◌<◌, ◌≤◌, ℕ, List, Option, Some, None, refl, arith}
use Rattle.span_language.proofs.Names.{Command, Err, Files, IsFileRefused, IsOfFile, IsSettled, IsWithin, Ok, Refusal, Result}

pub over : {a b : ℕ} → a ≤ b → b < a → ⊥
over le lt = omega (arith, le, lt)

pub one_value : {A : Type 0} (o : Option A) (x y : A) → o ≡ Some x → o ≡ Some y → x ≡ y
one_value o x y h k = cc (h, k)

pub no_value : {A : Type 0} (o : Option A) (x : A) → o ≡ Some x → o ≡ None → ⊥
no_value o x h k = let bad : ⊥ = cc (h, k) in bad

pub one_ok : {A E : Type 0} (r : Result A E) (x y : A) → r ≡ Ok x → r ≡ Ok y → x ≡ y
one_ok r x y h k = cc (h, k)

pub one_err : {A E : Type 0} (r : Result A E) (x y : E) → r ≡ Err x → r ≡ Err y → x ≡ y
one_err r x y h k = cc (h, k)

pub not_both : {A E : Type 0} (r : Result A E) (x : A) (y : E) → r ≡ Ok x → r ≡ Err y → ⊥
not_both r x y h k = let bad : ⊥ = cc (h, k) in bad

-- files are observable if a deterministic command uses one
pub are_told : (files : Option Files) (command : Command) → IsOfFile command → IsSettled files command → files ≡ None → ⊥
are_told None command of settled e = settled of
are_told (Some all) command of settled e = no_value (Some all) all refl e

module _ (name : List ℕ) (limit : ℕ) where
  pub one_within : (files : Option Files) (b c : List ℕ) → (files ≡ None → ⊥) → IsWithin files name limit b → IsWithin files name limit c → b ≡ c
  one_within None b c told h k = absurd (told refl)
  one_within (Some all) b c told h k = one_value _ b c h.held k.held

  pub within_read : (files : Option Files) (b : List ℕ) (why : Refusal) → (files ≡ None → ⊥) → IsWithin files name limit b → IsFileRefused files name limit why → ⊥
  within_read None b why told h k = told refl
  within_read (Some all) b why told h k = grind arith

  pub one_file_refusal : (files : Option Files) (why other : Refusal) → (files ≡ None → ⊥) → IsFileRefused files name limit why → IsFileRefused files name limit other → why ≡ other
  one_file_refusal None why other told h k = absurd (told refl)
  one_file_refusal (Some all) why other told h k = grind arith
