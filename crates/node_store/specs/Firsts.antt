-- How nodes are found.
use Rattle.std.specs.Prelude.{◌≡◌, ◌≢◌, ◌⊎◌, ℕ, suc, ◌<◌, List, length, map, slice_get, get_or, Some}
use Rattle.slp_model.specs.Distinct.{IsOfByte}
use Rattle.node_store.specs.declared.narrow.Narrow.{Narrow}
use Rattle.node_store.specs.declared.nodes.Way.{Way}
use Rattle.node_store.specs.declared.nodes.Way.TheVariants.{Known, First, Second, Other}
use Rattle.node_store.specs.Narrow.{IsPair, wide, hash_of, AreUnique}
use Rattle.node_store.specs.NodeTable.{IsFound}
use Rattle.node_store.specs.Others.{OtherNodes, ArePlaced}
use Rattle.node_store.specs.SearchTree.{IsAbsent}

-- n is a pair, and the link of its left child leads to i: the link is one more than the index of the child's first
-- pair, and 0 if it has none
abbrev pub LeadsTo : List ℕ → Narrow → ℕ → Type 0
LeadsTo firsts n i = IsPair n × (get_or firsts n.left 0 ≡ suc i)

-- the same for its right child
abbrev pub RightLeadsTo : List ℕ → Narrow → ℕ → Type 0
RightLeadsTo seconds n i = IsPair n × (get_or seconds n.right 0 ≡ suc i)

-- n isn't a pair whose left child has no link
abbrev pub Leads : List ℕ → Narrow → Type 0
Leads firsts n = IsPair n → get_or firsts n.left 0 ≢ 0

-- n isn't a pair whose right child has no link
abbrev pub RightLeads : List ℕ → Narrow → Type 0
RightLeads seconds n = IsPair n → get_or seconds n.right 0 ≢ 0

-- each node is found by its left child, or by its right one, or among the others
pub record IsIndexed (all : List Narrow) (firsts seconds : List ℕ) (o : OtherNodes) : Type 0 where
  pub unique : AreUnique (map wide all)
  pub bytes : (i : ℕ) (n : Narrow) → slice_get all i ≡ Some n → IsOfByte (wide n)
  pub as_many : length firsts ≡ length all
  pub as_many_right : length seconds ≡ length all
  pub inside : (l i : ℕ) → get_or firsts l 0 ≡ suc i → i < length all
  pub inside_right : (r i : ℕ) → get_or seconds r 0 ≡ suc i → i < length all
  pub leads : (i : ℕ) (n : Narrow) → slice_get all i ≡ Some n → Leads firsts n
  pub right : (i : ℕ) (n : Narrow) → slice_get all i ≡ Some n → LeadsTo firsts n i ⊎ RightLeads seconds n
  pub found : (i : ℕ) (n : Narrow) → slice_get all i ≡ Some n → IsAbsent o.late n → LeadsTo firsts n i ⊎ (RightLeadsTo seconds n i ⊎ IsFound o.slots (hash_of n) i)
  pub others : ArePlaced all o

-- n isn't the first pair with its left child, and there is one
abbrev pub IsNotFirst : List Narrow → List ℕ → Narrow → Type 0
IsNotFirst all firsts n = Leads firsts n × ((i : ℕ) → LeadsTo firsts n i → slice_get all i ≢ Some n)

-- how n is found
abbrev pub IsWay : List Narrow → List ℕ → List ℕ → Narrow → Way → Type 0
IsWay all firsts seconds n (Known i) = slice_get all i ≡ Some n
IsWay all firsts seconds n (First l) = IsPair n × (l ≡ n.left) × (l < length firsts) × (get_or firsts l 0 ≡ 0)
IsWay all firsts seconds n (Second r) = IsPair n × IsNotFirst all firsts n × (r ≡ n.right) × (r < length seconds) × (get_or seconds r 0 ≡ 0)
IsWay all firsts seconds n Other = IsNotFirst all firsts n × RightLeads seconds n × ((i : ℕ) → RightLeadsTo seconds n i → slice_get all i ≢ Some n)

-- how the pair n is found, which isn't the first one with its left child
abbrev pub IsRightWay : List Narrow → List ℕ → Narrow → Way → Type 0
IsRightWay all seconds n (Known i) = slice_get all i ≡ Some n
IsRightWay all seconds n (First l) = ⊥
IsRightWay all seconds n (Second r) = (r ≡ n.right) × (r < length seconds) × (get_or seconds r 0 ≡ 0)
IsRightWay all seconds n Other = (get_or seconds n.right 0 ≢ 0) × ((i : ℕ) → get_or seconds n.right 0 ≡ suc i → slice_get all i ≢ Some n)
