-- A query tree as a plain tree.
use Rattle.std.specs.Prelude.{ℕ, List}
use Rattle.span_types.specs.FormulaTree.{FormulaTree, tree_of}
use Rattle.span_types.specs.declared.query.QueryTree.{QueryTree}
use Rattle.span_types.specs.declared.query.QueryTree.TheVariants.{Leaf as LeafNode, Union' as UnionNode, Join' as JoinNode, Project' as ProjectNode}

-- a query without pointers
pub data Query : Type 0 where
  Leaf : (f : FormulaTree) (names : List (List ℕ)) → Query
  Union : (a b : Query) → Query
  Join : (a b : Query) → Query
  Project : (a : Query) (names : List (List ℕ)) → Query

-- the tree of a query in the code
abbrev pub query_of : QueryTree → Query
query_of (LeafNode f names) = Leaf (tree_of f) names
query_of (UnionNode p a q b) = Union (query_of a) (query_of b)
query_of (JoinNode p a q b) = Join (query_of a) (query_of b)
query_of (ProjectNode p a names) = Project (query_of a) names
