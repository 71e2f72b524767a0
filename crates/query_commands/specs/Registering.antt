-- How queries are made by the commands that register them.
use Rattle.std.specs.Prelude.{◌≡◌, ℕ, List, MatchOption, MatchResult, Option, Result}
use Rattle.line_parts.specs.NameList.{IsNameList}
use Rattle.query_book.specs.Answers.{IsNamed}
use Rattle.query_book.specs.Book.{Book, queries_of}
use Rattle.query_book.specs.Combining.{HasPair, HasProjection, IsAccepted, IsPairRefused, IsProjectRefused}
use Rattle.query_book.specs.Registering.{IsQueryOf}
use Rattle.query_book.specs.Serving.{counted_of, covered_of}
use Rattle.report_text.specs.declared.refusal.Refusal.{Refusal}
use Rattle.script_syntax.specs.declared.form.Command.{Command}
use Rattle.script_syntax.specs.declared.form.Command.TheVariants as form
use Rattle.span_language.specs.State.{Named, put}
use Rattle.span_language.specs.Step.{IsTextRefused, IsUncombined}
use Rattle.span_types.specs.declared.refusal.NoMemory.{NoMemory}
use Rattle.span_types.specs.Query.{Join, Query, Union}
use Rattle.query_commands.specs.declared.registering.Recipe.{Recipe}
use Rattle.query_commands.specs.declared.registering.Recipe.TheVariants as recipe

-- the command that registers the query under a name
abbrev pub command_of : List ℕ → Recipe → Command
command_of name (recipe.Formula text) = form.Query name text
command_of name (recipe.Union left right) = form.UnionQuery name left right
command_of name (recipe.Join left right) = form.JoinQuery name left right
command_of name (recipe.Project source keep) = form.ProjectQuery name source keep

-- the variables that a projection keeps are a list of names
abbrev pub KeepsNames : Recipe → Type 0
KeepsNames (recipe.Project source keep) = IsNameList keep
KeepsNames _ = Unit {0}

-- P holds of the query that is made, if an automaton may have at most `most` states
abbrev pub IsMade : ℕ → Named Query → Recipe → (Query → Type 0) → Type 0
IsMade most queries (recipe.Formula text) P = (q : Query) × IsQueryOf most text q × P q
IsMade most queries (recipe.Union left right) P = HasPair Union queries left right (λ q. IsAccepted most q × P q)
IsMade most queries (recipe.Join left right) P = HasPair Join queries left right (λ q. IsAccepted most q × P q)
IsMade most queries (recipe.Project source keep) P = IsNamed queries source (λ q. HasProjection q keep (λ p. IsAccepted most p × P p))

-- why none is made
abbrev pub IsUnmade : ℕ → Named Query → Recipe → Refusal → Type 0
IsUnmade most queries (recipe.Formula text) why = IsTextRefused most text why
IsUnmade most queries (recipe.Union left right) why = IsUncombined (IsPairRefused most Union queries left right) why
IsUnmade most queries (recipe.Join left right) why = IsUncombined (IsPairRefused most Join queries left right) why
IsUnmade most queries (recipe.Project source keep) why = IsUncombined (IsProjectRefused most queries source keep) why

-- the query is registered under the name
abbrev pub IsMadeIn : Book → List ℕ → Recipe → Book → Type 0
IsMadeIn old name recipe new = IsMade old.states (queries_of old) recipe (λ q. queries_of new ≡ put (queries_of old) name q) × (covered_of new ≡ put (covered_of old) name 0)
    × (counted_of new ≡ put (counted_of old) name 0) × (new.states ≡ old.states)

-- the query is registered, or the rejection is returned, or an allocation failed
abbrev pub IsOutcome : Book → List ℕ → Recipe → Book → Result (Option Refusal) NoMemory → Type 0
IsOutcome old name recipe new result = MatchResult result (λ refused. MatchOption refused (IsMadeIn old name recipe new) (λ why. IsUnmade old.states (queries_of old) recipe why × (new ≡ old))) (λ _. new ≡ old)
