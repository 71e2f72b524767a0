-- The table of a pair from its children's tables, and what a filling is when it is opened and closed.
use Rattle.std.proofs.Common.{zero, suc, ◌≡◌, inl, inr, ℕ, ◌+◌, ◌-◌, ◌<◌, ◌≤◌, ◌++◌, map, length, refl, ap, sym, subst, ◌∙◌, arith, List, [], ◌∷◌, get_or, Option, Some, None, IsSome, IfSome}
use Rattle.std.specs.Prelude.{slice_get, slice_index, slice_index_or}
use Rattle.std.proofs.lemmas.List.{get_or-map, length-map, get_or-append-add, length-append}
use Rattle.std.proofs.Math.ListN.{get_or-append}
use Rattle.std.proofs.lemmas.Bool.{lt-ltb, le-ltb, cases_lt}
use Rattle.std.proofs.lemmas.Option.{IfSome_then}
use Rattle.state_tables.specs.Coded.{step_of}
use Rattle.slp_model.specs.declared.NodeId.{NodeId}
use Rattle.slp_model.specs.declared.Node.{Node}
use Rattle.slp_model.specs.declared.Node.TheVariants.{Pair}
use Rattle.slp_model.specs.Tree.{text}
use Rattle.slp_model.specs.Nodes.{tree, IsSound}
use Rattle.slp_model.proofs.NodesLemmas.{node-at}
use Rattle.marker_dfa.specs.Deterministic.{DeterministicAutomaton, IsDeterministic, states_of}
use Rattle.state_tables.specs.Table.{Row, compose_of}
use Rattle.state_tables.specs.Dictionary.{AreTables, Dictionary, IsDictionary, count_of, kept_of, number_of, table_of}
use Rattle.state_tables.proofs.Meanings.{IsTable-compose}
use Rattle.pair_memo.specs.Entries.{Entry}
use Rattle.table_grow.specs.Remembering.{AreTrueEntries, IsTrueEntry}
use Rattle.table_grow.specs.Assignment.{AllAssigned, Assignment, Fits, IsComposed, finished, number_in, number_of_entry}
use Rattle.table_grow.specs.Filling.{AreParts, Continues, Filling, IsNumberOf, IsReady, IsTableOfNode, Starts, filling_of}
use Rattle.table_grow.specs.Pieces.{IsComposition}
use Rattle.table_grow.proofs.Growing.{entries-same}

pub some-of : (o : Option ℕ) → IsSome o → (n : ℕ) × (o ≡ Some n)
some-of None h = cc
some-of (Some n) h = (n, refl)

-- an entry that has a number is one more than it
pub entry-some : (code : ℕ) → IsSome (step_of code) → (1 ≤ code) × (step_of code ≡ Some (code - 1))
entry-some zero h = cc
entry-some (suc n) h = (omega arith, ap Some (omega arith))

-- the content of an entry
pub place-read : (codes : List ℕ) (i : ℕ) → get_or (map step_of codes) i None ≡ step_of (get_or codes i 0)
place-read [] i = refl
place-read (n ∷ codes) zero = refl
place-read (n ∷ codes) (suc i) = place-read codes i

pub composed-by : (nodes : List Node) (d : Dictionary) (f : Assignment) (id : ℕ) (l r : NodeId) (m n : ℕ) (left right t : List Row)
    → slice_get nodes id ≡ Some (Pair l r) → number_in d f l.index ≡ Some m → number_in d f r.index ≡ Some n
    → left ≡ kept_of d m → right ≡ kept_of d n → t ≡ compose_of left right → IsComposed nodes d f id t
composed-by nodes d f id l r m n left right t node lm rn le re e = λ l2 r2 m2 n2 node2 lm2 rn2.
    let some : Some (Pair l r) ≡ Some (Pair l2 r2) = sym node ∙ node2 in
    let ls : l ≡ l2 = cc in
    let rs : r ≡ r2 = cc in
    let ms : Some m ≡ Some m2 = sym lm ∙ ap (λ (x : NodeId). number_in d f x.index) ls ∙ lm2 in
    let ns : Some n ≡ Some n2 = sym rn ∙ ap (λ (x : NodeId). number_in d f x.index) rs ∙ rn2 in
    let m-same : m ≡ m2 = cc in
    let n-same : n ≡ n2 = cc in
    e ∙ ap (λ x. compose_of x right) (le ∙ ap (kept_of d) m-same) ∙ ap (compose_of (kept_of d m2)) (re ∙ ap (kept_of d) n-same)

-- the composition of the tables of a pair's parts is its table
pub parts-table : (s : Filling) (id : ℕ) (p : ℕ × ℕ) → IsReady s → AreParts s id p → IsTableOfNode s id (compose_of (kept_of s.tables p.0) (kept_of s.tables p.1))
parts-table s id p r parts =
    let l = parts.left.index in
    let t = parts.right.index in
    let is = node-at s.nodes id (Pair parts.left parts.right) r.sound parts.node in
    let joined : text (tree s.nodes id) ≡ text (tree s.nodes l) ++ text (tree s.nodes t) = ap text is.0 in
    rw joined (IsTable-compose s.automaton (text (tree s.nodes l)) (text (tree s.nodes t)) (kept_of s.tables p.0) (kept_of s.tables p.1) r.automaton (r.all l p.0 parts.left_is) (r.all t p.1 parts.right_is))

-- a cached composition of a pair's parts is its table
pub entry-number : (s : Filling) (id : ℕ) (p : ℕ × ℕ) (n : ℕ) → IsReady s → AreParts s id p → IsTrueEntry s.tables (p, n) → IsNumberOf s id n
entry-number s id p n r parts entry = record { within = entry.number; table = rw entry.composed (parts-table s id p r parts) }

pub parts-composed : (s : Filling) (id : ℕ) (t : List Row) (parts : Option (ℕ × ℕ)) → IfSome parts (AreParts s id) → IsComposed s.nodes s.tables s.filler id t → IfSome parts (IsComposition s.tables t)
parts-composed s id t parts are is = IfSome_then parts are (λ p a. record {
  left = a.left_within;
  right = a.right_within;
  table = is a.left a.right p.0 p.1 a.node a.left_is a.right_is;
})

-- ---- open and close
pub filled-new : (d : Dictionary) (f : Assignment) (id : ℕ) → ((i : ℕ) → slice_index_or f.places i None ≡ None) → f.known ≤ id → number_in d f id ≡ None
filled-new d f id empty new = rw (le-ltb id f.known new) (empty (id - f.known))

pub ready-new : (a : DeterministicAutomaton) (nodes : List Node) (d e : Dictionary) (f : Assignment) (es : List Entry) → IsDeterministic a → IsSound nodes → AreTables a nodes d → AreTrueEntries d es
    → d.states ≡ states_of a → Fits nodes e f → ((i : ℕ) → slice_index_or f.places i None ≡ None) → e ≡ record d { room = e.room } → IsReady (filling_of a nodes e f es)
ready-new a nodes d e f es auto sound tables entries states fit empty same = record {
  automaton = auto;
  sound = sound;
  fits = fit;
  states = ap (λ (x : Dictionary). x.states) same ∙ states;
  all = λ j m h. elim (cases_lt j f.known) [
    | inl lt ↦
        let some : Some (number_of e j) ≡ Some m = rw (lt-ltb j f.known lt) at h in
        let nm : number_of e j ≡ m = cc in
        let count = fit.tables_fit in
        let ed : AreTables a nodes e = subst (AreTables a nodes) (sym same) tables in
        subst (λ x. IsTableOfNode (filling_of a nodes e f es) j (kept_of e x)) nm (ed j (omega (arith, count, lt)))
    | inr ge ↦
        let none = filled-new e f j empty ge in
        cc
  ];
  entries = entries-same d e es (ap (λ (x : Dictionary). x.kept) same) entries;
}

-- what stays from the tables that were taken to those that are given back
pub record Since (a : DeterministicAutomaton) (nodes : List Node) (d : Dictionary) (t : Filling) : Type 0 where
  pub automaton : t.automaton ≡ a
  pub nodes_are : t.nodes ≡ nodes
  pub numbers : t.tables.numbers ≡ d.numbers
  pub states : t.tables.states ≡ d.states
  pub old : (id : ℕ) → id < count_of d → table_of t.tables id ≡ table_of d id

pub since-start : (a : DeterministicAutomaton) (nodes : List Node) (d : Dictionary) (es : List Entry) (s t : Filling) → IsDictionary d → Starts a nodes d es s → Continues s t → Since a nodes d t
since-start a nodes d es s t is start k =
    let kept : s.tables.kept ≡ d.kept = ap (λ (x : Filling). x.tables.kept) start.same in
    let numbers : t.tables.numbers ≡ d.numbers = ap (λ (x : Dictionary). x.numbers) k.kept.same ∙ ap (λ (x : Filling). x.tables.numbers) start.same in
    record {
      automaton = ap (λ (x : Filling). x.automaton) k.same ∙ ap (λ (x : Filling). x.automaton) start.same;
      nodes_are = ap (λ (x : Filling). x.nodes) k.same ∙ ap (λ (x : Filling). x.nodes) start.same;
      numbers = numbers;
      states = ap (λ (x : Dictionary). x.states) k.kept.same ∙ ap (λ (x : Filling). x.tables.states) start.same;
      old = λ id h.
          ap (λ ns. kept_of t.tables (slice_index ns id)) numbers
          ∙ k.kept.kept (number_of d id) (subst (λ ks. number_of d id < length ks) (sym kept) (is.numbers_kept id h))
          ∙ ap (λ ks. slice_index_or ks (number_of d id) []) kept;
    }

pub all-placed : (nodes : List Node) (d : Dictionary) (f : Assignment) → Fits nodes d f → ((id : ℕ) → id < length nodes → IsSome (number_in d f id)) → AllAssigned f
all-placed nodes d f fit placed = λ i h.
    let len = fit.nodes_fit in
    let some = placed (f.known + i) (omega (arith, len, h)) in
    let at : f.known + i - f.known ≡ i = omega arith in
    rw (le-ltb (f.known + i) f.known (omega arith), at) at some

number-place : (o : Option ℕ) → IsSome o → o ≡ Some (number_of_entry o)
number-place None h = cc
number-place (Some n) h = refl

-- the tables of the old nodes alone
pub unfinished-true : (s : Filling) → IsReady s → AreTables s.automaton s.nodes s.tables
unfinished-true s r = λ id h.
    let count = r.fits.tables_fit in
    r.all id (number_of s.tables id) (rw (lt-ltb id s.filler.known (omega (arith, h, count))) refl)

pub finished-true : (s : Filling) → IsReady s → AllAssigned s.filler → AreTables s.automaton s.nodes (finished s.tables s.filler)
finished-true s r placed = λ id h.
    let d = s.tables in
    let f = s.filler in
    let count = r.fits.tables_fit in
    let more = map number_of_entry f.places in
    elim (cases_lt id f.known) [
      | inl lt ↦
          let number : slice_index (d.numbers ++ more) id ≡ number_of d id = get_or-append d.numbers more 0 id (omega (arith, count, lt)) in
          let is : number_in d f id ≡ Some (number_of d id) = rw (lt-ltb id f.known lt) refl in
          subst (λ x. IsTableOfNode s id (kept_of d x)) (sym number) (r.all id (number_of d id) is)
      | inr ge ↦
          let i = id - f.known in
          let total : length (d.numbers ++ more) ≡ length d.numbers + length more = length-append d.numbers more in
          let len : length more ≡ length f.places = length-map f.places number_of_entry in
          let bound : i < length f.places = omega (arith, h, total, len, count, ge) in
          let place = slice_index_or f.places i None in
          let where_ : id ≡ length d.numbers + i = omega (arith, count, ge) in
          let number : slice_index (d.numbers ++ more) id ≡ number_of_entry place =
          ap (λ k. get_or (d.numbers ++ more) k 0) where_ ∙ get_or-append-add d.numbers more i 0 ∙ get_or-map {X = Option ℕ} {Y = ℕ} number_of_entry f.places i None 0 bound in
          let is : number_in d f id ≡ Some (number_of_entry place) = rw (le-ltb id f.known ge) (number-place place (placed i bound)) in
          subst (λ x. IsTableOfNode s id (kept_of d x)) (sym number) (r.all id (number_of_entry place) is)
    ]
