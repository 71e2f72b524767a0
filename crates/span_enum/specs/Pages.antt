-- Lists of answers that were returned one after the other.
use Rattle.std.specs.Prelude.{List, ◌++◌, Option}
use Rattle.span_types.specs.Answers.{IsAfter}
use Rattle.span_enum.specs.Members.{Tuple}

-- from the cursor `from` on the first tuples of the list are those returned, and after them the cursor is `to`
pub record IsListed (all : List Tuple) (from : Option Tuple) (given : List Tuple) (to : Option Tuple) : Type 0 where
  pub rest : List Tuple
  pub whole : IsAfter all from (given ++ rest)
  pub after : IsAfter all to rest
