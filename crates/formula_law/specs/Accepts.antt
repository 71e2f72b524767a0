-- Marked texts, and which of them a position automaton accepts.
use Rattle.std.specs.Prelude.{◌≡◌, ℕ, suc, Bool, true, false, List, [], ◌∷◌, length, Option, slice_index_or}
use Rattle.span_types.specs.declared.tuple.Span.{Span}
use Rattle.span_types.specs.FormulaTree.{FormulaTree}
use Rattle.span_types.specs.Marks.{mark_of}
use Rattle.span_types.specs.Words.{Marked, word_from}
use Rattle.formula_law.specs.Positions.{HasSet, IsEdge, IsEnd}

-- a text with a mark before each byte, and a last mark
pub record MarkedText : Type 0 where
  pub pairs : Marked
  pub last : ℕ

-- the text with these marks at its positions
abbrev pub marked_by : (ℕ → ℕ) → List ℕ → MarkedText
marked_by marks s = record { pairs = word_from marks 1 s; last = marks (suc (length s)) }

-- Marked: the text with the marks of a tuple
abbrev pub marked_text : List ℕ → List (Option Span) → MarkedText
marked_text s t = marked_by (mark_of t) s

-- the automaton with these steps (from a state, over a mark and a byte, to a state) comes from state o to state q over some pairs
abbrev pub Reaches : (ℕ → ℕ → ℕ → ℕ → Type 0) → ℕ → Marked → ℕ → Type 0
Reaches Step o [] q = o ≡ q
Reaches Step o (c ∷ w) q = (p : ℕ) × Step o c.0 c.1 p × Reaches Step p w q

-- one step of the position automaton: an edge with this mark, to an occurrence that has the byte
pub record Steps (f : FormulaTree) (o m b p : ℕ) : Type 0 where
  pub edge : IsEdge f o m p
  pub members : List Bool
  pub has_set : HasSet f 1 p members
  pub is_member : slice_index_or members b false ≡ true

-- the position automaton accepts a marked text: it comes from the start to a state that may end with the last mark
pub record Accepts (f : FormulaTree) (w : MarkedText) : Type 0 where
  pub state : ℕ
  pub reaches : Reaches (Steps f) 0 w.pairs state
  pub ends : IsEnd f state w.last
