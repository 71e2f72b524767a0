-- How the first marked text over two joined texts passes the first of them.
use Rattle.std.specs.Prelude.{◌≡◌, ℕ, true, List, bit_and, Some}
use Rattle.marker_dfa.specs.Deterministic.{DeterministicAutomaton}
use Rattle.state_tables.specs.StateSet.{member}
use Rattle.state_tables.specs.Table.{Row, marked_of, unmarked_of}
use Rattle.span_enum.specs.Between.{AreBetween}
use Rattle.span_enum.specs.Quiet.{LeadQuiet}
use Rattle.span_enum.specs.declared.sets.Between.{Between}
use Rattle.span_enum.specs.declared.onward.OverLeft.{OverLeft}
use Rattle.span_enum.specs.declared.onward.OverLeft.TheVariants.{Plain, Marked}

-- no run with marks over s leads on, and the one without marks leads into q, from where one with marks over u leads on
pub record IsPlainLeft (a : DeterministicAutomaton) (p : ℕ) (s u : List ℕ) (goals : ℕ) (left right : List Row) (q : ℕ) : Type 0 where
  pub between : ℕ
  pub are : AreBetween a p s u goals between
  pub none : bit_and (marked_of left p) between ≡ 0
  pub step : unmarked_of left p ≡ Some q
  pub goal : member between q ≡ true
  pub some : bit_and (marked_of right q) goals ≡ 0 → ⊥

-- some run with marks over s leads into one of these states, and on. The quiet ones among them are known
pub record IsMarkedLeft {words : ℕ} (a : DeterministicAutomaton) (p : ℕ) (s u : List ℕ) (goals quiet : ℕ) (left : List Row) (between : Between words) : Type 0 where
  pub are : AreBetween a p s u goals between.goals
  pub some : bit_and (marked_of left p) between.goals ≡ 0 → ⊥
  pub are_quiet : LeadQuiet a p s u goals quiet between.quiet

abbrev pub IsOverLeft : {words : ℕ} → DeterministicAutomaton → ℕ → List ℕ → List ℕ → ℕ → ℕ → List Row → List Row → OverLeft words → Type 0
IsOverLeft a p s u goals quiet left right (Plain q) = IsPlainLeft a p s u goals left right q
IsOverLeft a p s u goals quiet left right (Marked between) = IsMarkedLeft a p s u goals quiet left between
