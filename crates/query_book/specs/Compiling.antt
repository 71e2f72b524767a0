-- Compiled queries.
use Rattle.std.specs.Prelude.{◌≡◌, ℕ, ◌<◌, ◌≤◌, List, length, Some}
use Rattle.span_types.specs.FormulaTree.{FormulaTree, Set, Empty, Cat, Alt, Star, Plus, Opt, Capture, var_bound}
use Rattle.span_types.specs.Query.{Query, query_of}
use Rattle.span_types.specs.Rel.{names_of}
use Rattle.marker_nfa.specs.Automaton.{Automaton}
use Rattle.marker_nfa.specs.Occurrences.{IsPositionAutomaton, IsWithinLimits}
use Rattle.marker_dfa.specs.Deterministic.{DeterministicAutomaton, AcceptsSame, IsDeterminized, next_of}
use Rattle.query_book.specs.Answers.{Defines}
use Rattle.query_book.specs.Combining.{parts_of}
use Rattle.query_book.specs.Occurrences.{CountIsAbove}
use Rattle.query_book.specs.Registering.{IsQueryOf}
use Rattle.span_algebra.specs.Trees.{IsTreeAutomaton}
use Rattle.query_book.specs.declared.compiled.Compiled.{Compiled}
use Rattle.query_book.specs.declared.refusal.QueryRefusal.{QueryRefusal}
use Rattle.query_book.specs.declared.refusal.QueryRefusal.TheVariants.{Formula, TooManyStates, NoMemory}

-- each byte set has a truth value for each byte, and nothing else
abbrev pub HasByteSets : FormulaTree → Type 0
HasByteSets (Set members) = length members ≡ 256
HasByteSets Empty = Unit {0}
HasByteSets (Cat a b) = HasByteSets a × HasByteSets b
HasByteSets (Alt a b) = HasByteSets a × HasByteSets b
HasByteSets (Star a) = HasByteSets a
HasByteSets (Plus a) = HasByteSets a
HasByteSets (Opt a) = HasByteSets a
HasByteSets (Capture x a) = HasByteSets a

-- each step reads a byte
abbrev pub ReadsBytes : DeterministicAutomaton → Type 0
ReadsBytes d = (q m b r : ℕ) → next_of d q m b ≡ Some r → b < 256

-- a formula within the limits, whose variables are exactly the numbers of the names
pub record IsRead (f : FormulaTree) (names : List (List ℕ)) : Type 0 where
  pub within : IsWithinLimits f
  pub numbers : var_bound f ≡ length names
  pub bytes : HasByteSets f

-- its states are the reachable sets of states of the formula's position automaton, and it accepts what that accepts
pub record IsFormulaAutomaton (f : FormulaTree) (d : DeterministicAutomaton) : Type 0 where
  pub automaton : Automaton
  pub positions : IsPositionAutomaton f automaton
  pub same : AcceptsSame automaton d
  pub states : IsDeterminized automaton d

-- an automaton of the query's tree, which accepts exactly the query's answers
pub record IsQueryAutomaton (q : Query) (d : DeterministicAutomaton) : Type 0 where
  pub tree : IsTreeAutomaton q d
  pub defines : Defines q d
  pub bytes : ReadsBytes d

-- the query, the number of its parts, the names of its variables, the automaton of its tree, and one that accepts the same
pub record IsCompiled (c : Compiled) : Type 0 where
  pub parts : c.parts ≡ parts_of (query_of c.tree)
  pub few_parts : c.parts ≤ 128
  pub names : c.vars ≡ names_of (query_of c.tree)
  pub full : IsQueryAutomaton (query_of c.tree) c.full
  pub defines : Defines (query_of c.tree) c.dfa
  pub bytes : ReadsBytes c.dfa

-- the compiled query of a text
pub record IsCompiledOf (most : ℕ) (s : List ℕ) (c : Compiled) : Type 0 where
  pub compiled : IsCompiled c
  pub query : IsQueryOf most s (query_of c.tree)

-- why a formula has no automaton
abbrev pub CannotCompile : ℕ → FormulaTree → QueryRefusal → Type 0
CannotCompile most f (Formula why) = ⊥
CannotCompile most f TooManyStates = CountIsAbove most f
CannotCompile most f NoMemory = Unit {0}
