-- What is known of a formula's automaton at one of its parts.
use Rattle.std.specs.Prelude.{◌≡◌, ◌≢◌, ℕ, ◌+◌, ◌-◌, ◌*◌, ◌^◌, ◌<◌, ◌≤◌, ◌↔◌, ◌⊎◌, ◌++◌, ◌∷◌, [], Bool, true, false, List, slice_index_or, Contains, AllPairs}
use Rattle.span_types.specs.FormulaTree.{FormulaTree, Set, Empty, Cat, Alt, Star, Plus, Opt, Capture, Fun, has_var}
use Rattle.formula_law.specs.Positions.{IsNull, IsFirst, IsLast, IsFollow, IsEdge, IsEnd, Joins}
use Rattle.marker_nfa.specs.declared.nfa.End.{End}
use Rattle.marker_nfa.specs.declared.nfa.Edge.{Edge}
use Rattle.marker_nfa.specs.declared.lists.Hop.{Hop}
use Rattle.marker_nfa.specs.declared.parts.Part.{Part}
use Rattle.marker_nfa.specs.declared.outline.Outline.{Outline}

-- the rule holds, and there are at most eight variables, so that marks fit 16 bits
pub record IsSmall (f : FormulaTree) : Type 0 where
  pub fun : Fun f
  pub below : (v : ℕ) → 8 ≤ v → has_var f v ≡ false

-- the list after a call: what it had, and what P adds
abbrev pub Adds : {X : Type 0} → List X → List X → (X → Type 0) → Type 0
Adds {X} old new P = (x : X) → Contains new x ↔ Contains old x ⊎ P x

-- the sums fit 16 bits
abbrev pub AreShort : List ℕ → List ℕ → Type 0
AreShort left right = (x y : ℕ) → Contains left x → Contains right y → x + y < 65536

-- the sums with the marks at states fit 16 bits
abbrev pub AreShortAt : List ℕ → List End → Type 0
AreShortAt left right = (x : ℕ) (y : End) → Contains left x → Contains right y → x + y.mark < 65536

-- one of the marks at states, with another mark added
abbrev pub IsRaised : ℕ → List End → End → Type 0
IsRaised by ends x = (y : End) × Contains ends y × (x ≡ record { state = y.state; mark = by + y.mark })

abbrev pub IsRaisedBy : List ℕ → List End → End → Type 0
IsRaisedBy marks ends x = (by : ℕ) × Contains marks by × IsRaised by ends x

-- a step from a last occurrence to a first one, with the marks of both
abbrev pub IsHop : End → List End → Hop → Type 0
IsHop last firsts h = (y : End) × Contains firsts y × (h ≡ record { from = last.state; mark = last.mark + y.mark; to = y.state })

abbrev pub IsHopIn : List End → List End → Hop → Type 0
IsHopIn lasts firsts h = (x : End) × Contains lasts x × IsHop x firsts h

-- the byte sets from the left
abbrev pub letters_in : FormulaTree → List (List Bool)
letters_in (Set b) = b ∷ []
letters_in Empty = []
letters_in (Cat a b) = letters_in a ++ letters_in b
letters_in (Alt a b) = letters_in a ++ letters_in b
letters_in (Star a) = letters_in a
letters_in (Plus a) = letters_in a
letters_in (Opt a) = letters_in a
letters_in (Capture x a) = letters_in a

-- the marks with which the part matches the empty word, and the first and last occurrences; the first byte set has
-- number n
pub record IsPart (f : FormulaTree) (n : ℕ) (p : Part) : Type 0 where
  pub nulls_are : (m : ℕ) → Contains p.nulls.items m ↔ IsNull f m
  pub firsts_are : (x : End) → Contains p.firsts.items x ↔ IsFirst f n x.mark x.state
  pub lasts_are : (x : End) → Contains p.lasts.items x ↔ IsLast f n x.state x.mark

abbrev pub IsFollowHop : FormulaTree → ℕ → Hop → Type 0
IsFollowHop f n h = IsFollow f n h.from h.mark h.to

-- what P adds is in the list, all of it unless it may be left out
pub record AddsUnless (left_out : Bool) (old new : List Hop) (P : Hop → Type 0) : Type 0 where
  pub keeps : (h : Hop) → Contains old h → Contains new h
  pub sound : (h : Hop) → Contains new h → Contains old h ⊎ P h
  pub complete : (h : Hop) → P h → Contains new h ⊎ (left_out ≡ true)

-- The steps of a part are added to the list. If the part is covered, which means that an enclosing part repeats it, the
-- steps from its last occurrences to its first ones may be left out.
pub record AddsFollow (covered : Bool) (f : FormulaTree) (n : ℕ) (old new : List Hop) : Type 0 where
  pub keeps : (h : Hop) → Contains old h → Contains new h
  pub sound : (h : Hop) → Contains new h → Contains old h ⊎ IsFollowHop f n h
  pub complete : (h : Hop) → IsFollowHop f n h → Contains new h ⊎ ((covered ≡ true) × Joins (IsLast f n) (IsFirst f n) h.from h.mark h.to)

-- the sums with the marks of lasts and firsts fit 16 bits
abbrev pub AreShortHops : List End → List End → Type 0
AreShortHops lasts firsts = (x y : End) → Contains lasts x → Contains firsts y → x.mark + y.mark < 65536

-- all sums that one part after another makes fit 16 bits
pub record MayFollow (left right : Part) : Type 0 where
  pub nulls : AreShort left.nulls.items right.nulls.items
  pub firsts : AreShortAt left.nulls.items right.firsts.items
  pub lasts : AreShortAt right.nulls.items left.lasts.items
  pub hops : AreShortHops left.lasts.items right.firsts.items

-- the marks with those of a variable fit 16 bits
pub record MayName (x : ℕ) (part : Part) : Type 0 where
  pub few : x < 8
  pub nulls : (m : ℕ) → Contains part.nulls.items m → 3 * 4 ^ x + m < 65536
  pub firsts : (y : End) → Contains part.firsts.items y → 4 ^ x + y.mark < 65536
  pub lasts : (y : End) → Contains part.lasts.items y → 2 * 4 ^ x + y.mark < 65536

-- exactly the byte sets, the edges without their byte sets, and the ends, none of these twice
pub record IsOutline (f : FormulaTree) (o : Outline) : Type 0 where
  pub letters : o.letters.items ≡ letters_in f
  pub hops : (h : Hop) → Contains o.hops.items h ↔ IsEdge f h.from h.mark h.to
  pub hops_once : AllPairs (λ x y. x ≢ y) o.hops.items
  pub ends : (e : End) → Contains o.ends.items e ↔ IsEnd f e.state e.mark
  pub ends_once : AllPairs (λ x y. x ≢ y) o.ends.items

-- the edge of a step, with the byte set of the occurrence that it leads to
abbrev pub edge_of : List (List Bool) → Hop → Edge
edge_of letters h = record { from = h.from; mark = h.mark; letters = slice_index_or letters (h.to - 1) []; to = h.to }

abbrev pub LeadWithin : ℕ → List Hop → Type 0
LeadWithin n hops = (h : Hop) → Contains hops h → (1 ≤ h.to) × (h.to ≤ n)

-- a part is covered only if the whole is, and if the part beside it matches the empty word with no mark
pub record CoversPart (covered part_covered : Bool) (beside : FormulaTree) : Type 0 where
  pub whole : part_covered ≡ true → covered ≡ true
  pub nothing : part_covered ≡ true → IsNull beside 0
