-- The outcome of a text, computed by the machine.
use Rattle.std.proofs.Common.{◌≡◌, ℕ, ◌<◌, ◌≤◌, Bool, true, false, List, [], length, slice_get, Option, Some, None, refl, sym, ap, ◌∙◌, arith, if◌then◌else◌, get_or}
use Rattle.std.proofs.lemmas.Bool.Decides.{nat_tests}
use Rattle.std.proofs.lemmas.Option.{slice_get-get_or}
use Rattle.std.specs.Prelude.{nat_lt}
use Rattle.span_types.specs.FormulaTree.{FormulaTree, sets, fault}
use Rattle.formula_syntax.specs.Numbering.{Names}
use Rattle.formula_syntax.specs.Grammar.{alt}
use Rattle.formula_syntax.specs.FormulaOf.{IsReading, Outcome, TooLong, BadText, TooDeep, TooManyPositions, TooManyVariables, NotFunctional, Formula, Meets, FormulaOf}
use Rattle.formula_syntax.specs.Machine.{Found, read}
use Rattle.formula_syntax.proofs.Complete.{complete}
use Rattle.formula_syntax.proofs.Sound.{sound}
use Rattle.formula_syntax.proofs.Below.{reads_below}
use Rattle.formula_syntax.proofs.Judged.{fault_below}

abbrev of_name : Option (List ℕ) → Outcome
of_name None = BadText
of_name (Some name) = NotFunctional name

abbrev of_fault : Found → Option ℕ → Outcome
of_fault g None = Formula g.formula g.names
of_fault g (Some v) = of_name (slice_get g.names v)

abbrev of_found : Option Found → Outcome
of_found None = BadText
of_found (Some g) =
    if nat_lt 64 g.depth then TooDeep else
    if nat_lt 512 (sets g.formula) then TooManyPositions else
    if nat_lt 8 (length g.names) then TooManyVariables else of_fault g (fault g.formula)

abbrev pub outcome : List ℕ → Outcome
outcome s = if nat_lt 2048 (length s) then TooLong (length s) else of_found (read s)

above : (a b : ℕ) → a < b → nat_lt a b ≡ true
above a b h = grind (arith, nat_tests)

not_above : (a b : ℕ) → b ≤ a → nat_lt a b ≡ false
not_above a b h = grind (arith, nat_tests)

above-is : (a b : ℕ) → nat_lt a b ≡ true → a < b
above-is a b h = grind (arith, nat_tests)

not_above-is : (a b : ℕ) → nat_lt a b ≡ false → b ≤ a
not_above-is a b h = grind (arith, nat_tests)

-- what was read, within some of the limits
short-outcome : (s : List ℕ) (f : FormulaTree) (names : Names) (d : ℕ) → length s ≤ 2048 → IsReading s f names d → outcome s ≡ of_found (Some (record { formula = f; names = names; depth = d }))
short-outcome s f names d le r = rw (not_above 2048 (length s) le, complete s f names d r) refl

pub is-outcome : (s : List ℕ) (o : Outcome) → FormulaOf s o → o ≡ outcome s
is-outcome s (TooLong len) h = rw (above 2048 (length s) h.0) (ap TooLong h.1)
is-outcome s BadText h = rw (not_above 2048 (length s) h.0) (by (read s) refl)
  where
    by : (o : Option Found) → read s ≡ o → BadText ≡ of_found o
    by None e = refl
    by (Some g) e = absurd (h.1 g.formula g.names g.depth (sound s g e))
is-outcome s TooDeep (le, f, names, d, r, deep) = sym (short-outcome s f names d le r ∙ rw (above 64 d deep) refl)
is-outcome s TooManyPositions (le, f, names, d, r, shallow, many) =
    sym (short-outcome s f names d le r ∙ rw (not_above 64 d shallow, above 512 (sets f) many) refl)
is-outcome s TooManyVariables (le, f, names, d, r, shallow, few, many) =
    sym (short-outcome s f names d le r ∙ rw (not_above 64 d shallow, not_above 512 (sets f) few, above 8 (length names) many) refl)
is-outcome s (NotFunctional name) (f, names, d, v, m, e, n) =
    sym (short-outcome s f names d m.short m.reading ∙ rw (not_above 64 d m.shallow, not_above 512 (sets f) m.positions, not_above 8 (length names) m.variables, e, n) refl)
is-outcome s (Formula f names) (d, m, e) =
    sym (short-outcome s f names d m.short m.reading ∙ rw (not_above 64 d m.shallow, not_above 512 (sets f) m.positions, not_above 8 (length names) m.variables, e) refl)

none-some : {R : Type 0} (o : Option Found) (x : Found) → o ≡ None → o ≡ Some x → R
none-some o x e h = let bad : None ≡ Some x = sym e ∙ h in absurd (cc)

pub has-outcome : (s : List ℕ) → FormulaOf s (outcome s)
has-outcome s = by_length (nat_lt 2048 (length s)) refl
  where
    by_fault : (g : Found) → Meets s g.formula g.names g.depth → (o : Option ℕ) → fault g.formula ≡ o → FormulaOf s (of_fault g o)
    by_fault g m None e = (g.depth, m, e)
    by_fault g m (Some v) e =
        let b = reads_below alt s g.formula g.depth [] g.names m.reading in
        let lt = fault_below (length g.names) g.formula v b.below e in
        let there : slice_get g.names v ≡ Some (get_or g.names v []) = slice_get-get_or g.names v [] lt in
        rw there (g.formula, g.names, g.depth, v, m, e, there)

    by_names : (g : Found) → read s ≡ Some g → length s ≤ 2048 → g.depth ≤ 64 → sets g.formula ≤ 512 → (t : Bool) → nat_lt 8 (length g.names) ≡ t → FormulaOf s (if t then TooManyVariables else of_fault g (fault g.formula))
    by_names g e le d n true q = (le, g.formula, g.names, g.depth, sound s g e, d, n, above-is 8 (length g.names) q)
    by_names g e le d n false q =
        by_fault g (record { reading = sound s g e; short = le; shallow = d; positions = n; variables = not_above-is 8 (length g.names) q }) (fault g.formula) refl

    by_sets : (g : Found) → read s ≡ Some g → length s ≤ 2048 → g.depth ≤ 64 → (t : Bool) → nat_lt 512 (sets g.formula) ≡ t → FormulaOf s (if t then TooManyPositions else if nat_lt 8 (length g.names) then TooManyVariables else of_fault g (fault g.formula))
    by_sets g e le d true q = (le, g.formula, g.names, g.depth, sound s g e, d, above-is 512 (sets g.formula) q)
    by_sets g e le d false q = by_names g e le d (not_above-is 512 (sets g.formula) q) (nat_lt 8 (length g.names)) refl

    by_depth : (g : Found) → read s ≡ Some g → length s ≤ 2048 → (t : Bool) → nat_lt 64 g.depth ≡ t → FormulaOf s (if t then TooDeep else if nat_lt 512 (sets g.formula) then TooManyPositions else if nat_lt 8 (length g.names) then TooManyVariables else of_fault g (fault g.formula))
    by_depth g e le true q = (le, g.formula, g.names, g.depth, sound s g e, above-is 64 g.depth q)
    by_depth g e le false q = by_sets g e le (not_above-is 64 g.depth q) (nat_lt 512 (sets g.formula)) refl

    by_found : length s ≤ 2048 → (o : Option Found) → read s ≡ o → FormulaOf s (of_found o)
    by_found le None e = (le, λ f names d r. none-some (read s) _ e (complete s f names d r))
    by_found le (Some g) e = by_depth g e le (nat_lt 64 g.depth) refl

    by_length : (t : Bool) → nat_lt 2048 (length s) ≡ t → FormulaOf s (if t then TooLong (length s) else of_found (read s))
    by_length true q = (above-is 2048 (length s) q, refl)
    by_length false q = by_found (not_above-is 2048 (length s) q) (read s) refl
