-- The tables that a listing computes.
use Rattle.std.specs.Prelude.{◌≡◌, ℕ, Bool, true, IsSome, List}
use Rattle.script_syntax.specs.declared.form.ListStart.{ListStart}
use Rattle.slp_model.specs.declared.Node.{Node}
use Rattle.query_book.specs.Book.{Book, queries_of}
use Rattle.query_book.specs.Grown.{GrowsTables}
use Rattle.span_language.specs.Counts.{IsNumbered}
use Rattle.span_language.specs.State.{value_of}

-- tables were computed, and counting tables only if the listing starts at the answer with a number and there is a query with
-- this name
pub record GrowsFor (start : ListStart) (name : List ℕ) (ns : List Node) (old new : Book) (before after : ℕ) : Type 0 where
  pub asked : Bool
  pub grown : GrowsTables asked ns old new before after
  pub numbered : asked ≡ true → IsNumbered start
  pub there : asked ≡ true → IsSome (value_of (queries_of old) name)
