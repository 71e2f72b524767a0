-- Items that are found by bits.
use Rattle.std.specs.Prelude.{◌≡◌, ◌≢◌, ◌⊎◌, ℕ, zero, suc, ◌+◌, ◌*◌, ◌<◌, ◌≤◌, ◌++◌, List, [], ◌∷◌, length, slice_get, get_or, Some}
use Rattle.distinct_items.specs.declared.End.{End}
use Rattle.distinct_items.specs.declared.End.TheVariants.{At, Open}

-- the links are unchanged, and there may be more
abbrev pub Extends : List ℕ → List ℕ → Type 0
Extends old new = (slot i : ℕ) → get_or old slot 0 ≡ suc i → get_or new slot 0 ≡ suc i

-- the item isn't there
abbrev pub IsAbsent : {T : Type 0} → List T → T → Type 0
IsAbsent items x = (i : ℕ) → slice_get items i ≢ Some x

-- the items are unchanged if x was among them, and otherwise x is added last
abbrev pub TakesIn : {T : Type 0} → List T → List T → T → Type 0
TakesIn old new x = (new ≡ old) ⊎ ((new ≡ old ++ x ∷ []) × IsAbsent old x)

-- how an item is found: its bucket among some number of buckets, and a bit at each depth
pub record Bits (T : Type 0) : Type 0 where
  pub root : ℕ → T → ℕ
  pub branch : T → ℕ → ℕ

abbrev pub bits_of : {T : Type 0} → (ℕ → T → ℕ) → (T → ℕ → ℕ) → Bits T
bits_of root branch = record { root = root; branch = branch }

module _ {T : Type 0} (f : Bits T) where
  -- the slot below item j for x at this depth: each bucket has a slot, and then each item has two
  abbrev pub slot_of : ℕ → T → ℕ → ℕ → ℕ
  slot_of roots x j depth = roots + 2 * j + f.branch x depth

  -- by k further links x is led from this slot to item i: a link to item j is j + 1, and 0 is none
  abbrev pub Leads : ℕ → T → List ℕ → ℕ → ℕ → ℕ → ℕ → Type 0
  Leads roots x links zero depth slot i = get_or links slot 0 ≡ suc i
  Leads roots x links (suc k) depth slot i = (j : ℕ) × ((get_or links slot 0 ≡ suc j) × Leads roots x links k (depth + 1) (slot_of roots x j depth) i)

  -- by some number of links
  abbrev pub LeadsTo : ℕ → T → List ℕ → ℕ → ℕ → ℕ → Type 0
  LeadsTo roots x links depth slot i = (k : ℕ) × Leads roots x links k depth slot i

  -- each link leads to a later one of the first `count` items, and each of these is found
  pub record IsSearchTree (roots : ℕ) (items : List T) (count : ℕ) (links : List ℕ) : Type 0 where
    pub long : length links ≡ 3 * roots
    pub few : count ≤ roots
    pub later : (slot i : ℕ) → get_or links slot 0 ≡ suc i → (slot < roots + 2 * i) × (i < count)
    pub found : (i : ℕ) (x : T) → i < count → slice_get items i ≡ Some x → LeadsTo roots x links 0 (f.root roots x) i

  -- this slot has no link, and one in it would lead to x
  pub record IsOpen (roots : ℕ) (x : T) (count : ℕ) (links : List ℕ) (slot : ℕ) : Type 0 where
    pub inside : slot < roots + 2 * count
    pub empty : get_or links slot 0 ≡ 0
    pub leads : (more : List ℕ) → Extends links more → (i : ℕ) → get_or more slot 0 ≡ suc i → LeadsTo roots x more 0 (f.root roots x) i

  -- where the search for x ends
  abbrev pub IsEnd : ℕ → List T → List ℕ → T → End → Type 0
  IsEnd roots items links x (At i) = slice_get items i ≡ Some x
  IsEnd roots items links x (Open slot) = IsAbsent items x × IsOpen roots x (length items) links slot
