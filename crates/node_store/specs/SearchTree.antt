-- Nodes that are found by the digits of their numbers.
use Rattle.std.specs.Prelude.{◌≡◌, ◌≢◌, ℕ, zero, suc, ◌+◌, ◌*◌, ◌/◌, ◌%◌, ◌<◌, ◌≤◌, List, Option, length, slice_get, get_or, None, Some}
use Rattle.node_store.specs.declared.narrow.Narrow.{Narrow}
use Rattle.node_store.specs.declared.search_tree.End.{End}
use Rattle.node_store.specs.declared.search_tree.End.TheVariants.{At, Open}
use Rattle.node_store.specs.Narrow.{number_of}

-- the slot of node j for the lowest of these digits, to base 4: slot 0 leads to the first node, and each node has four
abbrev pub slot_of : ℕ → ℕ → ℕ
slot_of j digits = 4 * j + digits % 4 + 1

-- by k links from this slot on the digits lead to node i: a link to node j is j + 1, and 0 is none
abbrev pub Leads : List ℕ → ℕ → ℕ → ℕ → ℕ → Type 0
Leads links zero digits slot i = get_or links slot 0 ≡ suc i
Leads links (suc k) digits slot i = (j : ℕ) × ((get_or links slot 0 ≡ suc j) × Leads links k (digits / 4) (slot_of j digits) i)

-- by some number of links
abbrev pub LeadsTo : List ℕ → ℕ → ℕ → ℕ → Type 0
LeadsTo links digits slot i = (k : ℕ) × Leads links k digits slot i

-- each link goes to a later node, and each node is found by its number
pub record IsSearchTree (nodes : List Narrow) (links : List ℕ) : Type 0 where
  pub later : (slot i : ℕ) → get_or links slot 0 ≡ suc i → (slot ≤ 4 * i) × (i < length nodes)
  pub found : (i : ℕ) (n : Narrow) → slice_get nodes i ≡ Some n → LeadsTo links (number_of n) 0 i

-- the links are unchanged, and there may be more
abbrev pub Extends : List ℕ → List ℕ → Type 0
Extends old new = (slot i : ℕ) → get_or old slot 0 ≡ suc i → get_or new slot 0 ≡ suc i

-- n isn't among the nodes
abbrev pub IsAbsent : List Narrow → Narrow → Type 0
IsAbsent nodes n = (i : ℕ) → slice_get nodes i ≢ Some n

-- n isn't among the nodes, and a link in this slot is the one that would lead to it
pub record IsOpen (nodes : List Narrow) (links : List ℕ) (n : Narrow) (slot : ℕ) : Type 0 where
  pub inside : slot ≤ 4 * length nodes
  pub empty : get_or links slot 0 ≡ 0
  pub absent : IsAbsent nodes n
  pub leads : (more : List ℕ) → Extends links more → (i : ℕ) → get_or more slot 0 ≡ suc i → LeadsTo more (number_of n) 0 i

-- where the search for n ends
abbrev pub IsEnd : List Narrow → List ℕ → Narrow → End → Type 0
IsEnd nodes links n (At i) = slice_get nodes i ≡ Some n
IsEnd nodes links n (Open slot) = IsOpen nodes links n slot

-- the index of n among the nodes, if it is there
abbrev pub IsFoundAt : List Narrow → Narrow → Option ℕ → Type 0
IsFoundAt nodes n (Some i) = slice_get nodes i ≡ Some n
IsFoundAt nodes n None = IsAbsent nodes n
