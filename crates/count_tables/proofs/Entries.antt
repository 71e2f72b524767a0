-- Entries of new nodes: read, written, and true of more tables.
use Rattle.std.proofs.Common.{All, map, ◌++◌, length-append, zero, suc, ◌≡◌, ℕ, ◌+◌, ◌-◌, ◌<◌, ◌≤◌, ap, sym, subst, ◌∙◌, arith, inl, inr, List, [], ◌∷◌, length, length-set, set, replicate, get_or, slice_get, Contains, Some}
use Rattle.std.proofs.lemmas.Bool.{cases_lt, le-ltb, lt-ltb}
use Rattle.std.proofs.lemmas.List.{get_or-map, length-map}
use Rattle.std.proofs.Math.Seq.{get_or-append_seam}
use Rattle.slp_model.specs.declared.NodeId.{NodeId}
use Rattle.slp_model.specs.declared.Node.{Node}
use Rattle.slp_model.specs.declared.Node.TheVariants.{Pair}
use Rattle.slp_model.specs.Tree.{text}
use Rattle.slp_model.specs.Nodes.{IsNodeAt, tree}
use Rattle.marker_dfa.specs.Deterministic.{DeterministicAutomaton, IsDeterministic, states_of}
use Rattle.marker_dfa.proofs.Lists.{set_cases}
use Rattle.state_tables.specs.Coded.{step_of}
use Rattle.pair_memo.specs.Entries.{Entry}
use Rattle.path_counts.specs.Counting.{CountRow, IsComposed, IsCountTable, IsCountTableOf}
use Rattle.path_counts.proofs.Meanings.{IsCountTable-composed}
use Rattle.count_tables.specs.Ahead.{AreFound, HasTable, IsComposable, IsJob, IsMade, number_in}
use Rattle.count_tables.specs.Dictionary.{AreKept, AreNodeTables}
use Rattle.count_tables.specs.Remembered.{AreTrueEntries, Extends}
use Rattle.count_tables.specs.declared.pieces.Job.{Job}
use Rattle.count_tables.specs.declared.pieces.Made.{Made}
use Rattle.count_tables.proofs.Growing.{tables-extend}

-- ---- reading an entry
some-entry : (xs : List ℕ) (i n : ℕ) → step_of (get_or xs i 0) ≡ Some n → slice_get xs i ≡ Some (suc n)
some-entry [] i n h = cc h
some-entry (zero ∷ xs) zero n h = cc h
some-entry (suc x ∷ xs) zero n h = let same : x ≡ n = cc h in ap (λ y. Some (suc y)) same
some-entry (x ∷ xs) (suc i) n h = some-entry xs i n h

no-entry : (k i n : ℕ) → slice_get (replicate k 0) i ≡ Some (suc n) → ⊥
no-entry zero i n h = cc h
no-entry (suc k) zero n h = cc h
no-entry (suc k) (suc i) n h = no-entry k i n h

module _ (a : DeterministicAutomaton) (nodes : List Node) where
  pub has-extend : (old new : List (List CountRow)) (id n : ℕ) → Extends old new → HasTable a nodes old id n → HasTable a nodes new id n
  has-extend old new id n more has = record {
    within = more.more n has.within;
    table = subst (IsCountTable a (text (tree nodes id))) (sym (more.same n has.within)) has.table;
  }

  pub found-extend : (old new : List (List CountRow)) (numbers found : List ℕ) → Extends old new → AreKept (states_of a) new → AreFound a nodes old numbers found → AreFound a nodes new numbers found
  found-extend old new numbers found more kept are = record {
    distinct = kept;
    tables = tables-extend a nodes old new numbers more are.tables;
    entries = λ i n h. has-extend old new (length numbers + i) n more (are.entries i n h);
    live = are.live;
  }

  pub found-set : (kept : List (List CountRow)) (numbers found : List ℕ) (i n : ℕ) → i < length found → AreFound a nodes kept numbers found → HasTable a nodes kept (length numbers + i) n → AreFound a nodes kept numbers (set found i (n + 1))
  found-set kept numbers found i n lt are has = record {
    distinct = are.distinct;
    tables = are.tables;
    entries = λ j m h. elim (set_cases found i (n + 1) j (suc m) lt h) [
      | inl new ↦
          let at : j ≡ i = new.0 in
          let is : n ≡ m = let e = new.1 in omega (arith, e) in
          subst (λ k. HasTable a nodes kept (length numbers + k) m) (sym at) (subst (λ k. HasTable a nodes kept (length numbers + i) k) is has)
      | inr old ↦ are.entries j m old.1
    ];
    live = (let was = are.live in let long = length-set found i (n + 1) in omega (arith, was, long));
  }

  pub found-none : (kept : List (List CountRow)) (numbers found : List ℕ) (k : ℕ) → AreKept (states_of a) kept → AreNodeTables a nodes kept numbers → found ≡ replicate k 0 → length numbers + length found ≤ length nodes → AreFound a nodes kept numbers found
  found-none kept numbers found k distinct tables none live = record {
    distinct = distinct;
    tables = tables;
    entries = λ i n h. absurd (no-entry k i n (subst (λ xs. slice_get xs i ≡ Some (suc n)) none h));
    live = live;
  }

  -- a number that is read is that of the node's table
  pub number-true : (kept : List (List CountRow)) (numbers found : List ℕ) (id n : ℕ) → AreFound a nodes kept numbers found → number_in numbers found id ≡ Some n → HasTable a nodes kept id n
  number-true kept numbers found id n are h = elim (cases_lt id (length numbers)) [
    | inl lt ↦
        let both : Some (get_or numbers id 0) ≡ Some n = rw (lt-ltb id (length numbers) lt) at h in
        let same : get_or numbers id 0 ≡ n = cc in
        subst (λ m. HasTable a nodes kept id m) same (record { within = are.tables.within id lt; table = are.tables.tables id lt })
    | inr ge ↦
        let index : length numbers + (id - length numbers) ≡ id = omega (arith, ge) in
        subst (λ k. HasTable a nodes kept k n) index (are.entries (id - length numbers) n (some-entry found (id - length numbers) n (rw (le-ltb id (length numbers) ge) at h)))
  ]

  -- ---- a pair
  module _ (kept : List (List CountRow)) (numbers found : List ℕ) (id : ℕ) (l r : NodeId) (left right : ℕ) (auto : IsDeterministic a) (are : AreFound a nodes kept numbers found) (node : IsNodeAt nodes id (Pair l r))
      (first : number_in numbers found l.index ≡ Some left) (second : number_in numbers found r.index ≡ Some right) where
    low : HasTable a nodes kept l.index left
    low = number-true kept numbers found l.index left are first

    high : HasTable a nodes kept r.index right
    high = number-true kept numbers found r.index right are second

    -- each composition of its children's tables is its table
    pub pair-composed : (t : List CountRow) → IsCountTableOf (states_of a) t → IsComposed (get_or kept left []) (get_or kept right []) t → IsCountTable a (text (tree nodes id)) t
    pair-composed t shape is = subst (λ x. IsCountTable a (text x) t) (sym node.0)
        (IsCountTable-composed a (text (tree nodes l.index)) (text (tree nodes r.index)) (get_or kept left []) (get_or kept right []) auto low.table high.table t shape is)

    pub pair-job : (count : ℕ) (j : Job) → j.node ≡ id → j.left ≡ left → j.right ≡ right → length numbers ≤ id → id < length numbers + count → IsJob a nodes kept (length numbers) count j
    pair-job count j is at_left at_right new live = record {
      new = rw is new;
      live = rw is live;
      left = rw at_left low.within;
      right = rw at_right high.within;
      table = rw (is, at_left, at_right) pair-composed;
    }

    pub pair-cached : (es : List Entry) (n : ℕ) → AreTrueEntries kept es → Contains es ((left, right), n) → HasTable a nodes kept id n
    pair-cached es n true_entries at =
        let entry = true_entries ((left, right), n) at in
        record { within = entry.number; table = pair-composed (get_or kept n []) (are.distinct.shapes n entry.number) entry.composed }

  -- ---- compositions that were computed
  pub job-extend : (old new : List (List CountRow)) (known count : ℕ) (j : Job) → Extends old new → IsJob a nodes old known count j → IsJob a nodes new known count j
  job-extend old new known count j more is = record {
    new = is.new;
    live = is.live;
    left = more.more j.left is.left;
    right = more.more j.right is.right;
    table = rw (more.same j.left is.left, more.same j.right is.right) is.table;
  }

pub made-extend : (old new : List (List CountRow)) (m : Made) → m.job.left < length old → m.job.right < length old → Extends old new → IsMade old m → IsMade new m
made-extend old new m left right more is = record { composed = rw (more.same m.job.left left, more.same m.job.right right) is.composed; shape = is.shape }

pub made-true : (a : DeterministicAutomaton) (nodes : List Node) (kept new : List (List CountRow)) (numbers found : List ℕ) (m : Made) (n : ℕ) → AreFound a nodes kept numbers found → IsJob a nodes kept (length numbers) (length found) m.job → IsMade kept m
    → n < length new → get_or new n [] ≡ m.table → HasTable a nodes new m.job.node n
made-true a nodes kept new numbers found m n are job made within is =
    let states : length m.table ≡ states_of a = made.composed.states ∙ (are.distinct.shapes m.job.left job.left).states in
    record { within = within; table = rw is (job.table m.table (subst (λ k. IsCountTableOf k m.table) states made.shape) made.composed) }

-- the jobs can be done, and what was made is of them
pub jobs-composable : (a : DeterministicAutomaton) (nodes : List Node) (kept : List (List CountRow)) (known count : ℕ) (jobs : List Job) → AreKept (states_of a) kept → All (IsJob a nodes kept known count) jobs → All (IsComposable kept) jobs
jobs-composable a nodes kept known count jobs are all = λ k d lt.
    let job = all k d lt in
    record { left = job.left; right = job.right; states = (are.shapes (get_or jobs k d).left job.left).states ∙ sym (are.shapes (get_or jobs k d).right job.right).states }

pub made-jobs : (P : Job → Type 0) (jobs : List Job) (made : List Made) → map (λ (m : Made). m.job) made ≡ jobs → All P jobs → All (λ (m : Made). P m.job) made
made-jobs P jobs made same all = λ k d lt.
    let long : length (map (λ (m : Made). m.job) made) ≡ length made = length-map made (λ (m : Made). m.job) in
    let at : All P (map (λ (m : Made). m.job) made) = subst (λ (js : List Job). All P js) (sym same) all in
    subst P (get_or-map (λ (m : Made). m.job) made k d d.job lt) (at k d.job (omega (arith, lt, long)))

pub all-at : {X : Type 0} (P : X → Type 0) (before rest all : List X) (x : X) → before ++ x ∷ rest ≡ all → All P all → P x
all-at P before rest all x is h =
    let at = subst (λ xs. All P xs) (sym is) h in
    subst P (get_or-append_seam before x rest x) (at (length before) x (omega (arith, length-append before (x ∷ rest))))
