-- What holds while an automaton of sets is constructed.
use Rattle.std.specs.Prelude.{◌≡◌, ℕ, ◌+◌, ◌<◌, ◌≤◌, ◌^◌, ◌↔◌, ◌⊎◌, Bool, true, false, List, [], ◌∷◌, ◌++◌, length, map, replicate, Some, slice_get, slice_index_or, slice_set, Contains}
use Rattle.std.specs.Global.{Vec}
use Rattle.marker_nfa.specs.Automaton.{Automaton, AreLettersOf, IsAutomaton, Moves, MayEnd}
use Rattle.marker_nfa.specs.declared.nfa.Edge.{Edge}
use Rattle.marker_dfa.specs.Reached.{AreReached, IsIn, IsMove, Subset, start_set}
use Rattle.marker_dfa.specs.declared.classes.ByteClasses.{ByteClasses}
use Rattle.marker_dfa.specs.Bundles.{edges_in, sources_of}
use Rattle.marker_dfa.specs.Bundled.{automaton_in}
use Rattle.marker_dfa.specs.declared.bundled.BundledNfa.{BundledNfa}
use Rattle.marker_dfa.specs.declared.bundles.Bundle.{Bundle}
use Rattle.marker_dfa.specs.declared.bundles.Readers.{Readers}
use Rattle.marker_dfa.specs.declared.exits.Exits.{Exits}
use Rattle.marker_dfa.specs.declared.exits.Step.{Step}
use Rattle.marker_dfa.specs.declared.dfa.Cell.{Cell}
use Rattle.marker_dfa.specs.declared.dfa.Row.{Row}

-- each number is below those before it
abbrev pub IsFalling : List ℕ → Type 0
IsFalling ms = (i j m n : ℕ) → i < j → slice_get ms i ≡ Some m → slice_get ms j ≡ Some n → n < m

-- what P says is added to the set
pub record GainsStates (old new : Subset) (P : ℕ → Type 0) : Type 0 where
  pub size : length new ≡ length old
  pub members : (p : ℕ) → IsIn new p ↔ IsIn old p ⊎ P p

-- the bundle at an index has this property
abbrev pub BundleAt : List Bundle → ℕ → (Bundle → Type 0) → Type 0
BundleAt bundles i P = (w : Bundle) × (slice_get bundles i ≡ Some w) × P w

-- a bundle has a step from o to p that reads a mark and then a byte
pub record Carries (w : Bundle) (o m b p : ℕ) : Type 0 where
  pub from : Contains (sources_of w) o
  pub mark : w.mark ≡ m
  pub letter : slice_index_or w.letters b false ≡ true
  pub to : w.to ≡ p

abbrev pub SomeCarries : List Bundle → ℕ → ℕ → ℕ → ℕ → Type 0
SomeCarries bundles o m b p = (i : ℕ) × BundleAt bundles i (λ w. Carries w o m b p)

-- the sources, marks and targets are the automaton's
pub record AreWellmade (a : Automaton) (bundles : List Bundle) : Type 0 where
  pub within : (i o : ℕ) (w : Bundle) → slice_get bundles i ≡ Some w → Contains (sources_of w) o → o < a.states
  pub marks : (i : ℕ) (w : Bundle) → slice_get bundles i ≡ Some w → w.mark < 4 ^ a.variables
  pub targets : (i : ℕ) (w : Bundle) → slice_get bundles i ≡ Some w → w.to < a.states

-- the steps of the bundles are those of the automaton
pub record AreBundles (a : Automaton) (bundles : List Bundle) : Type 0 where
  pub wellmade : AreWellmade a bundles
  pub moves : (o m b p : ℕ) → SomeCarries bundles o m b p ↔ Moves a o m b p

-- the marks are descending or equal from one bundle to the next
abbrev pub MarksFall : List Bundle → Type 0
MarksFall bundles = (i j : ℕ) (v w : Bundle) → i < j → slice_get bundles i ≡ Some v → slice_get bundles j ≡ Some w → w.mark ≤ v.mark

-- bundles in order of their marks
pub record AreInOrder (a : Automaton) (bundles : List Bundle) : Type 0 where
  pub are : AreBundles a bundles
  pub fall : MarksFall bundles

-- an edge has the mark, the target and the letters of a bundle
pub record IsLike (w : Bundle) (e : Edge) : Type 0 where
  pub mark : w.mark ≡ e.mark
  pub to : w.to ≡ e.to
  pub letters : w.letters ≡ e.letters

-- a bundle leaves a set with this mark
pub record Leaves (x : Subset) (m : ℕ) (w : Bundle) : Type 0 where
  pub from : (o : ℕ) × Contains (sources_of w) o × IsIn x o
  pub mark : w.mark ≡ m

-- for each bundle, whether it leaves a set
pub record AreExits (a : Automaton) (bundles : List Bundle) (exits : Exits) : Type 0 where
  pub size : length exits.from ≡ a.states
  pub even : length exits.leaving.items ≡ length bundles
  pub leaves : (i : ℕ) (w : Bundle) → slice_get bundles i ≡ Some w → slice_index_or exits.leaving.items i false ≡ true → (o : ℕ) × Contains (sources_of w) o × IsIn exits.from o
  pub stays : (i : ℕ) (w : Bundle) → slice_get bundles i ≡ Some w → slice_index_or exits.leaving.items i false ≡ false → (o : ℕ) → Contains (sources_of w) o → IsIn exits.from o → ⊥

-- the list of a state has this index
abbrev pub IsListed : List (Vec ℕ) → ℕ → ℕ → Type 0
IsListed lists o i = (places : Vec ℕ) × (slice_get lists o ≡ Some places) × Contains places.items i

-- for each state the indices of exactly the bundles that have it as a source
pub record AreBySource (a : Automaton) (bundles : List Bundle) (lists : List (Vec ℕ)) : Type 0 where
  pub size : length lists ≡ a.states
  pub members : (o i : ℕ) → IsListed lists o i ↔ BundleAt bundles i (λ w. Contains (sources_of w) o)

-- an index is added to the lists of some states
pub record GainsIndex (old new : List (Vec ℕ)) (sources : List ℕ) (i : ℕ) : Type 0 where
  pub size : length new ≡ length old
  pub members : (o j : ℕ) → IsListed new o j ↔ IsListed old o j ⊎ (Contains sources o × (i ≡ j))

-- an automaton with bundles in order, and byte sets among which are those of all edges
pub record IsBundled (n : BundledNfa) : Type 0 where
  pub automaton : IsAutomaton (automaton_in n)
  pub order : AreInOrder (automaton_in n) n.bundles.items
  pub letters : AreLettersOf (edges_in n.bundles.items) n.letters.items

-- the indices of exactly the bundles that read a byte, ascending
pub record AreReaders (bundles : List Bundle) (readers : Readers) : Type 0 where
  pub rising : (i j m n : ℕ) → i < j → slice_get readers.places.items i ≡ Some m → slice_get readers.places.items j ≡ Some n → m < n
  pub members : (i : ℕ) → Contains readers.places.items i ↔ BundleAt bundles i (λ w. slice_index_or w.letters readers.byte false ≡ true)

abbrev pub bytes_of : List Readers → List ℕ
bytes_of readers = map (λ (r : Readers). r.byte) readers

abbrev pub AreAllReaders : List Bundle → List Readers → Type 0
AreAllReaders bundles readers = (k : ℕ) (r : Readers) → slice_get readers k ≡ Some r → AreReaders bundles r

-- the last step, which has the mark, gains a target
pub record JoinsLast (old new : List Step) (m t : ℕ) : Type 0 where
  pub last : ℕ
  pub step : Step
  pub grown : Step
  pub is_last : last + 1 ≡ length old
  pub there : slice_get old last ≡ Some step
  pub had : step.mark ≡ m
  pub mark : grown.mark ≡ m
  pub targets : grown.to ≡ slice_set step.to t true
  pub list : new ≡ slice_set old last grown

-- a step with a mark that the last one hasn't, and a target among n states
pub record OpensStep (n : ℕ) (old new : List Step) (m t : ℕ) : Type 0 where
  pub step : Step
  pub fresh : (k : ℕ) (e : Step) → k + 1 ≡ length old → slice_get old k ≡ Some e → e.mark ≡ m → ⊥
  pub mark : step.mark ≡ m
  pub targets : step.to ≡ slice_set (replicate n false) t true
  pub list : new ≡ old ++ step ∷ []

-- a target is added to the steps, with its mark
abbrev pub GainsTarget : ℕ → List Step → List Step → ℕ → ℕ → Type 0
GainsTarget n old new m t = JoinsLast old new m t ⊎ OpensStep n old new m t

-- the marks with a next state from a set with a byte, descending, and these states
pub record AreSteps (a : Automaton) (x : Subset) (b : ℕ) (steps : List Step) : Type 0 where
  pub falling : (i j : ℕ) (e f : Step) → i < j → slice_get steps i ≡ Some e → slice_get steps j ≡ Some f → f.mark < e.mark
  pub moves : (k : ℕ) (e : Step) → slice_get steps k ≡ Some e → IsMove a.states (Moves a) x e.mark b e.to
  pub filled : (k : ℕ) (e : Step) → slice_get steps k ≡ Some e → (p : ℕ) × IsIn e.to p
  pub all : (m o p : ℕ) → IsIn x o → Moves a o m b p → (k : ℕ) × (e : Step) × (slice_get steps k ≡ Some e) × (e.mark ≡ m)

-- the byte set contains a byte exactly if it contains the first one of its class
pub record IsFit (classes : ByteClasses) (letters : List Bool) : Type 0 where
  pub size : length letters ≡ 256
  pub same : (b c f : ℕ) → slice_get classes.of.items b ≡ Some c → slice_get classes.firsts.items c ≡ Some f → slice_index_or letters b false ≡ slice_index_or letters f false

-- each byte has a class, and each class a first byte
pub record AreClasses (classes : ByteClasses) : Type 0 where
  pub bytes : length classes.of.items ≡ 256
  pub few : length classes.firsts.items ≤ 256
  pub within : (b c : ℕ) → slice_get classes.of.items b ≡ Some c → c < length classes.firsts.items
  pub firsts : (c f : ℕ) → slice_get classes.firsts.items c ≡ Some f → f < 256

-- whatever fits the classes fits the others
abbrev pub IsFiner : ByteClasses → ByteClasses → Type 0
IsFiner classes finer = (letters : List Bool) → IsFit classes letters → IsFit finer letters

-- two bytes have one class, and the byte set has both or none
pub record Agrees (classes : ByteClasses) (letters : List Bool) (b f : ℕ) : Type 0 where
  pub class : slice_get classes.of.items b ≡ slice_get classes.of.items f
  pub letter : slice_index_or letters b false ≡ slice_index_or letters f false

-- the first n bytes have their classes, in which they go with the first byte
pub record IsSplitUpTo (classes : ByteClasses) (letters : List Bool) (n : ℕ) (split : ByteClasses) : Type 0 where
  pub bytes : length split.of.items ≡ n
  pub few : length split.firsts.items ≤ n
  pub within : (b c : ℕ) → slice_get split.of.items b ≡ Some c → c < length split.firsts.items
  pub firsts : (c f : ℕ) → slice_get split.firsts.items c ≡ Some f → f < n
  pub goes : (b c f : ℕ) → slice_get split.of.items b ≡ Some c → slice_get split.firsts.items c ≡ Some f → Agrees classes letters b f

-- the sets found so far: the start first, all reached, none twice, and no more than `most`
pub record AreFound (most : ℕ) (a : Automaton) (subsets : List Subset) : Type 0 where
  pub start : slice_get subsets 0 ≡ Some (start_set a.states)
  pub sets : AreReached a.states (Moves a) subsets
  pub sizes : (q : ℕ) (x : Subset) → slice_get subsets q ≡ Some x → length x ≡ a.states
  pub few : length subsets ≤ most

-- the old sets keep their indices
pub record Extends (old new : List Subset) : Type 0 where
  pub stays : (q : ℕ) (x : Subset) → slice_get old q ≡ Some x → slice_get new q ≡ Some x

-- a set has an index, an old one or a new one
pub record HasIndex (old new : List Subset) (x : Subset) (q : ℕ) : Type 0 where
  pub there : slice_get new q ≡ Some x
  pub list : (new ≡ old) ⊎ ((new ≡ old ++ x ∷ []) × (q ≡ length old))
  pub fresh : length old ≤ q → (r : ℕ) → slice_get old r ≡ Some x → ⊥

-- a set for which there is no room among `most`
pub record HasNoRoom (most : ℕ) (old : List Subset) (x : Subset) : Type 0 where
  pub full : length old ≡ most
  pub fresh : (r : ℕ) → slice_get old r ≡ Some x → ⊥

-- the state that stands for a move with at least one member
pub record IsTarget (a : Automaton) (subsets : List Subset) (x : Subset) (m b r : ℕ) : Type 0 where
  pub members : Subset
  pub state : ℕ
  pub there : slice_get subsets r ≡ Some members
  pub move : IsMove a.states (Moves a) x m b members
  pub is_in : IsIn members state

-- the marks with a next state for a byte, descending, and these states
pub record IsCell (a : Automaton) (subsets : List Subset) (x : Subset) (b : ℕ) (ms ts : List ℕ) : Type 0 where
  pub even : length ms ≡ length ts
  pub sound : (j m r : ℕ) → slice_get ms j ≡ Some m → slice_get ts j ≡ Some r → IsTarget a subsets x m b r
  pub complete : (m o p : ℕ) → IsIn x o → Moves a o m b p → (j : ℕ) × (slice_get ms j ≡ Some m)
  pub falling : IsFalling ms

-- the first n bytes have their cells
pub record AreCells (a : Automaton) (subsets : List Subset) (x : Subset) (firsts : List ℕ) (n : ℕ) (cells : List Cell) : Type 0 where
  pub size : length cells ≡ n
  pub each : (c f : ℕ) (cell : Cell) → slice_get firsts c ≡ Some f → slice_get cells c ≡ Some cell → IsCell a subsets x f cell.marks.items cell.targets.items

-- what P says is added to the marks
abbrev pub GainsMark : List ℕ → List ℕ → (ℕ → Type 0) → Type 0
GainsMark old new P = (m : ℕ) → Contains new m ↔ Contains old m ⊎ P m

-- the marks with which a text may end in a set, descending
pub record AreEnds (a : Automaton) (x : Subset) (ms : List ℕ) : Type 0 where
  pub falling : IsFalling ms
  pub members : (m : ℕ) → Contains ms m ↔ (o : ℕ) × IsIn x o × MayEnd a o m

-- a set has its row
pub record IsRow (a : Automaton) (subsets : List Subset) (x : Subset) (firsts : List ℕ) (row : Row) : Type 0 where
  pub cells : AreCells a subsets x firsts (length firsts) row.cells.items
  pub ends : AreEnds a x row.ends.items

-- the first sets have their rows
pub record AreRows (most : ℕ) (a : Automaton) (subsets : List Subset) (firsts : List ℕ) (rows : List Row) : Type 0 where
  pub found : AreFound most a subsets
  pub few : length rows ≤ length subsets
  pub each : (q : ℕ) (x : Subset) (r : Row) → slice_get subsets q ≡ Some x → slice_get rows q ≡ Some r → IsRow a subsets x firsts r

-- each set has its row
pub record AreAllRows (most : ℕ) (a : Automaton) (firsts : List ℕ) (rows : List Row) : Type 0 where
  pub subsets : List Subset
  pub each : AreRows most a subsets firsts rows
  pub all : length rows ≡ length subsets
