-- Theorems about the tables of a registry.
use Rattle.std.specs.Prelude.{List, ◌++◌}
use Rattle.slp_model.specs.declared.Node.{Node}
use Rattle.query_book.specs.Book.{Book}
use Rattle.query_book.specs.Serving.{Serves}

-- tables stay valid when nodes are added
abbrev pub StaysTrue : Type 0
StaysTrue = (ns more : List Node) (book : Book) → Serves ns book → Serves (ns ++ more) book
