-- What the positions of a formula read, as a walk with a beginning and an end.
use Rattle.std.proofs.Common.{◌≡◌, ℕ, suc, Bool, ◌⊎◌, List}
use Rattle.span_types.specs.FormulaTree.{FormulaTree}
use Rattle.formula_law.specs.Positions.{HasSet, IsNull, IsFirst, IsLast, IsFollow}
use Rattle.formula_law.proofs.Walk.{Walk}

module _ (A : ℕ → List Bool → Type 0) where
  -- the occurrence may read the byte at a position
  pub record Reads (f : FormulaTree) (n p o : ℕ) : Type 0 where
    pub members : List Bool
    pub has_set : HasSet f n o members
    pub fits : A p members

  -- at least one byte is read
  pub record Path (f : FormulaTree) (n i j : ℕ) (u : ℕ → ℕ) : Type 0 where
    pub entry : ℕ
    pub exit : ℕ
    pub final : ℕ
    pub begins : IsFirst f n (u i) entry
    pub reads : Reads f n i entry
    pub walk : Walk (IsFollow f n) (Reads f n) u i entry final exit
    pub at_end : j ≡ suc final
    pub ends : IsLast f n exit (u j)

  pub record Crossed (f : FormulaTree) (i j : ℕ) (u : ℕ → ℕ) : Type 0 where
    pub same : i ≡ j
    pub null : IsNull f (u i)

  abbrev pub Runs : FormulaTree → ℕ → ℕ → ℕ → (ℕ → ℕ) → Type 0
  Runs f n i j u = Crossed f i j u ⊎ Path f n i j u
