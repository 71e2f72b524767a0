-- The counting tables that a query has, or those of no node.
use Rattle.std.proofs.Common.{◌≡◌, ℕ, List, [], Option, Some, None, IfSome, MatchOption, sym, ap, subst, ◌∙◌, arith}
use Rattle.std.specs.Prelude.{unwrap_or}
use Rattle.std.specs.Option.{option_map}
use Rattle.slp_model.specs.declared.Node.{Node}
use Rattle.marker_dfa.specs.Deterministic.{DeterministicAutomaton}
use Rattle.count_tables.specs.Dictionary.{CountDictionary, count_of}
use Rattle.query_book.specs.Counting.{AreFirstCounts}

-- t has the tables of o, or those of no node
abbrev pub IsTaken : ℕ → Option CountDictionary → CountDictionary → Type 0
IsTaken n o t = MatchOption o (t ≡ record { states = n; kept = []; numbers = [] }) (λ d. t ≡ d)

module _ (n : ℕ) (t : CountDictionary) where
  pub taken-first : (a : DeterministicAutomaton) (ns : List Node) (o : Option CountDictionary) → IsTaken n o t → IfSome o (AreFirstCounts a ns) → AreFirstCounts a ns t
  taken-first a ns None h s =
      let none = ap (λ d. count_of d) h in
      record { covered = omega (arith, none); tables = λ id lt. absurd (omega (arith, lt, none)) }
  taken-first a ns (Some d) h s = subst (AreFirstCounts a ns) (sym h) s

  pub taken-states : (o : Option CountDictionary) → IsTaken n o t → IfSome o (λ d. d.states ≡ n) → t.states ≡ n
  taken-states None h s = ap (λ d. d.states) h
  taken-states (Some d) h s = ap (λ e. e.states) h ∙ s

  pub taken-number : (o : Option CountDictionary) → IsTaken n o t → count_of t ≡ unwrap_or (option_map count_of o) 0
  taken-number None h = ap (λ d. count_of d) h
  taken-number (Some d) h = ap (λ e. count_of e) h
