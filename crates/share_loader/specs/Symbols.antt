-- The symbols of a block, which are joined in rounds.
use Rattle.std.specs.Prelude.{◌≡◌, ◌⊎◌, ℕ, ◌+◌, ◌<◌, ◌≤◌, List, [], ◌∷◌, ◌++◌, length, get_or}
use Rattle.std.specs.List.{All}
use Rattle.slp_model.specs.declared.Node.{Node}
use Rattle.slp_model.specs.Tree.{text, height}
use Rattle.slp_model.specs.Nodes.{tree}
use Rattle.share_loader.specs.declared.symbols.Symbol.{Symbol}

-- a node of the store, whose height is known
pub record IsSymbol (ns : List Node) (x : Symbol) : Type 0 where
  pub live : x.node.index < length ns
  pub high : height (tree ns x.node.index) ≡ x.height

-- a low symbol of level h has height h, and a high one h + 1
pub record IsOfLevel (h : ℕ) (x : Symbol) : Type 0 where
  pub least : h ≤ x.height
  pub most : x.height ≤ h + 1

-- the symbols before a round of level h
pub record AreSymbols (ns : List Node) (h : ℕ) (xs : List Symbol) : Type 0 where
  pub each : All (IsSymbol ns) xs
  pub level : All (IsOfLevel h) xs

-- the texts of the symbols, one after the other
abbrev pub symbols_text : List Node → List Symbol → List ℕ
symbols_text ns [] = []
symbols_text ns (x ∷ xs) = text (tree ns x.node.index) ++ symbols_text ns xs

-- the symbols aren't one low symbol alone
pub record IsNoneAlone (h : ℕ) (xs : List Symbol) : Type 0 where
  pub alone : (d : Symbol) → length xs ≡ 1 → h < (get_or xs 0 d).height

-- the first n symbols can become one symbol of the next level, and don't leave one low symbol alone
pub record IsGroup (h : ℕ) (xs : List Symbol) (n : ℕ) : Type 0 where
  pub some : 0 < n
  pub few : n ≤ 3
  pub within : n ≤ length xs
  -- a high symbol stays as it is
  pub one : (d : Symbol) → n ≡ 1 → h < (get_or xs 0 d).height
  -- a low one comes before two others, of which one is low
  pub three : (d : Symbol) → n ≡ 3 → (get_or xs 0 d).height ≤ h
  pub low : (d : Symbol) → n ≡ 3 → ((get_or xs 1 d).height ≤ h) ⊎ ((get_or xs 2 d).height ≤ h)
  -- and a high one is the second of three at the end alone
  pub last : (d : Symbol) → n ≡ 3 → h < (get_or xs 1 d).height → length xs ≡ 3
  pub left : (d : Symbol) → length xs ≡ n + 1 → h < (get_or xs n d).height
