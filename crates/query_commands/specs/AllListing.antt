-- The output of a listing of the answers on every document.
use Rattle.std.specs.Prelude.{◌≡◌, ℕ, ◌≤◌, List, [], ◌∷◌, ◌++◌, length, drop}
use Rattle.slp_model.specs.declared.Node.{Node}
use Rattle.marker_dfa.specs.Deterministic.{DeterministicAutomaton}
use Rattle.state_tables.specs.Dictionary.{AreTables, Dictionary}
use Rattle.slp_model.specs.Nodes.{text_of}
use Rattle.span_enum.specs.Members.{Tuple, AreAnswersOf}
use Rattle.doc_book.specs.declared.Doc.{Doc}
use Rattle.doc_book.specs.Texts.{AreLive}
use Rattle.span_language.specs.Listed.{doc_line, done_line, first_page_text}

-- for each document the list of the automaton's answers on its text
abbrev pub AreAnswered : DeterministicAutomaton → List Node → List Doc → List (List Tuple) → Type 0
AreAnswered a ns [] [] = Unit {0}
AreAnswered a ns [] (l ∷ ls) = ⊥
AreAnswered a ns (d ∷ ds) [] = ⊥
AreAnswered a ns (d ∷ ds) (l ∷ ls) = AreAnswersOf a (text_of ns d.root) l × AreAnswered a ns ds ls

-- the parameters of a listing on every document: an automaton, a store that has a table for each node, and a maximum of
-- n answers for each document
pub record IsAllListing (a : DeterministicAutomaton) (ns : List Node) (d : Dictionary) (ds : List Doc) (names : List (List ℕ)) (n : ℕ) : Type 0 where
  pub tables : AreTables a ns d
  pub live : AreLive ns ds
  pub some : 1 ≤ n
  pub few : n ≤ 10000
  pub variables : length names ≡ a.variables
  pub answered : (lists : List (List Tuple)) × AreAnswered a ns ds lists

-- for each document its line and the first n of its answers, and finally `done`
abbrev pub documents_text : List (List ℕ) → ℕ → List Doc → List (List Tuple) → List ℕ
documents_text names n [] ls = done_line
documents_text names n (d ∷ ds) [] = done_line
documents_text names n (d ∷ ds) (l ∷ ls) = doc_line d.name ++ (first_page_text names n l ++ documents_text names n ds ls)

-- the same for the documents from an index on
abbrev pub rest_text : List (List ℕ) → ℕ → List Doc → List (List Tuple) → ℕ → List ℕ
rest_text names n ds ls index = documents_text names n (drop index ds) (drop index ls)
