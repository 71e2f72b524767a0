-- What the tables of a text and of its parts say of the runs over them.
use Rattle.span_enum.proofs.Base.{AllPairs, AreAmong, AreBetween, AreQuiet, AreTables, Bool, Byte, CanRun, Contains, Contains-get_or, DeterministicAutomaton, Dictionary, IsDeterministic, IsGreatestMark, IsLook, IsNoMark, IsNodeAt}
use Rattle.span_enum.proofs.Base.{IsPlainLeft, IsTable, LeadQuiet, LeadsQuiet, List, Marked, Node, NodeId, None, Option, Pair, Row, Some, StayQuiet, [], ap, arith, bit_and, bit_or, bytes-append, bytes-plain, bytes_of, can_reach_of}
use Rattle.span_enum.proofs.Base.{cases_eq, cases_lt, count_of, ends_of, false, get_or, get_or_default, has-count, has_mark, height, if◌then◌else◌, inl, inr, is_goal, length, mark_count, marked, marked_of, marks_of, max, member}
use Rattle.span_enum.proofs.Base.{member-or, member-single_other, member-single_same, member-zero, not-both, one-letter, or-cases, or-false, or-left, or-right, path-on, path-parts, plain, plain-append, plain-on, reached, reached_of, refl}
use Rattle.span_enum.proofs.Base.{row_at, same-state, single_of, states_of, step_of, subst, suc, sym, text, tree, true, unmarked_of, zero, ℕ, ◌++◌, ◌+◌, ◌<◌, ◌==◌, ◌^◌, ◌||◌, ◌∙◌, ◌∷◌, ◌≡◌, ◌≢◌, ◌≤◌, ◌⊎◌}
use Rattle.span_enum.proofs.Runs.{Tells, end-facts, end-step, fit-byte, goal-plain, low-mark, marked-run, marks-or_plain, only-plain, run-behind, run-from_table, run-within, shared-none, some-can, table-from_run, tells}

-- ---- a node and its children
module _ (a : DeterministicAutomaton) (nodes : List Node) (d : Dictionary) (all : AreTables a nodes d) (counted : count_of d ≡ length nodes) where
  pub look-is : (id : ℕ) (node : Node) (len : ℕ) (t : List Row) → id < length nodes → IsLook nodes d id node len t → IsTable a (text (tree nodes id)) t
  look-is id node len t live look = rw look.table_is (all id (omega arith))

  pub look-table : (id : ℕ) (node : Node) (len : ℕ) (t : List Row) → id < length nodes → IsLook nodes d id node len t → Tells a (text (tree nodes id)) t
  look-table id node len t live look = tells a (text (tree nodes id)) t (look-is id node len t live look)

pub byte-text : (nodes : List Node) (id b : ℕ) → IsNodeAt nodes id (Byte b) → text (tree nodes id) ≡ b ∷ []
byte-text nodes id b h = ap text h

pub pair-text : (nodes : List Node) (id : ℕ) (l r : NodeId) → IsNodeAt nodes id (Pair l r) → text (tree nodes id) ≡ text (tree nodes l.index) ++ text (tree nodes r.index)
pair-text nodes id l r h = ap text h.0

pub pair-height : (nodes : List Node) (id : ℕ) (l r : NodeId) → IsNodeAt nodes id (Pair l r)
    → height (tree nodes id) ≡ max (height (tree nodes l.index)) (height (tree nodes r.index)) + 1
pair-height nodes id l r h = ap height h.0

-- ---- a letter
-- a mark over a letter that leads into a goal
pub record IsMarkInto (a : DeterministicAutomaton) (p b goals mark state : ℕ) : Type 0 where
  pub some : 0 < mark
  pub small : mark < 65536
  pub step : step_of a p mark b ≡ Some state
  pub goal : member goals state ≡ true

-- a run with marks over one letter has one
pub mark-into : (a : DeterministicAutomaton) (auto : IsDeterministic a) (s : List ℕ) (t : List Row) (p b goals : ℕ) → Tells a s t → p < states_of a → s ≡ b ∷ []
    → (bit_and (marked_of t p) goals ≡ 0 → ⊥) → (m : ℕ) × ((q : ℕ) × IsMarkInto a p b goals m q)
mark-into a auto s t p b goals is low at some =
    let run = marked-run a s t p goals is low some in
    let one = one-letter (step_of a) p b run.0 run.2.word (run.2.bytes ∙ at) run.2.ends in
    let count : 0 < mark_count ((one.mark, b) ∷ []) = rw one.word at (has-count run.2.word run.2.mark) in
    (one.mark, (run.0, record { some = by one.mark count; small = low-mark a auto p one.mark b run.0 one.step; step = one.step; goal = run.1 }))
  where
    by : (n : ℕ) → 0 < (if n == 0 then 0 else 1) + 0 → 0 < n
    by zero h = omega (arith, h)
    by (suc n) h = omega arith

-- ---- sets made one state at a time
if-same : (p : ℕ) (t : Bool) → member (if t then 2 ^ p else 0) p ≡ t
if-same p true = member-single_same p
if-same p false = member-zero p

if-other : (p k : ℕ) (t : Bool) → k ≢ p → member (if t then 2 ^ p else 0) k ≡ false
if-other p k true ne = member-single_other p k ne
if-other p k false ne = member-zero k

pub member-more_other : (set p k : ℕ) (t : Bool) → k ≢ p → member (bit_or set (if t then 2 ^ p else 0)) k ≡ member set k
member-more_other set p k t ne = member-or set (if t then 2 ^ p else 0) k ∙ ap (λ z. member set k || z) (if-other p k t ne) ∙ or-false (member set k)

pub member-more_same : (set p : ℕ) (t : Bool) → member set p ≡ false → member (bit_or set (if t then 2 ^ p else 0)) p ≡ t
member-more_same set p t none = member-or set (if t then 2 ^ p else 0) p ∙ ap (λ z. z || member (if t then 2 ^ p else 0) p) none ∙ if-same p t

pub member-more_old : (set p k : ℕ) (t : Bool) → member set k ≡ true → member (bit_or set (if t then 2 ^ p else 0)) k ≡ true
member-more_old set p k t h = member-or set (if t then 2 ^ p else 0) k ∙ or-left _ _ h

pub member-more_new : (set p k : ℕ) (t : Bool) → k ≡ p → t ≡ true → member (bit_or set (if t then 2 ^ p else 0)) k ≡ true
member-more_new set p k t same h = member-or set (if t then 2 ^ p else 0) k ∙ or-right _ _ (ap (member (if t then 2 ^ p else 0)) same ∙ if-same p t ∙ h)

pub member-more_cases : (set p k : ℕ) (t : Bool) → member (bit_or set (if t then 2 ^ p else 0)) k ≡ true → (member set k ≡ true) ⊎ ((k ≡ p) × (t ≡ true))
member-more_cases set p k t h = elim (or-cases _ _ (sym (member-or set (if t then 2 ^ p else 0) k) ∙ h)) [
  | inl old ↦ inl old
  | inr new ↦ elim (cases_eq k p) [
    | inl same ↦ inr (same, sym (if-same p t) ∙ ap (member (if t then 2 ^ p else 0)) (sym same) ∙ new)
    | inr other ↦ not-both (member (if t then 2 ^ p else 0) k) new (if-other p k t other)
  ]
]

pub single-is : (o : Option ℕ) (q : ℕ) → member (single_of o) q ≡ true → o ≡ Some q
single-is None q h = not-both (member 0 q) h (member-zero q)
single-is (Some r) q h = elim (cases_eq q r) [ inl same ↦ ap (λ n. Some n) (sym same) | inr other ↦ not-both (member (2 ^ r) q) h (member-single_other r q other) ]

-- ---- a descending list that has each mark with a step over the letter
module _ (a : DeterministicAutomaton) (p b goals limit i : ℕ) (ms : List ℕ) (all : (n r : ℕ) → step_of a p n b ≡ Some r → Contains ms n)
    (none : (k : ℕ) → k < i → IsNoMark a p b goals limit (get_or ms k 0)) where
  -- a mark that leads into a goal is after the first i
  place-behind : (n r : ℕ) → n < limit → step_of a p n b ≡ Some r → member goals r ≡ true → (j : ℕ) × (i ≤ j) × (j < length ms) × (get_or ms j 0 ≡ n)
  place-behind n r low step goal =
      let c = all n r step in
      let at : get_or ms c.0 0 ≡ n = get_or_default ms c.0 0 n c.1 ∙ c.2 in
      elim (cases_lt c.0 i) [ inl before ↦ absurd (none c.0 before (rw at low) r (ap (λ x. step_of a p x b) at ∙ step) goal) | inr from ↦ (c.0, from, c.1, at) ]

  pub greatest-at : (q : ℕ) → AllPairs (λ x y. y < x) ms → i < length ms → step_of a p (get_or ms i 0) b ≡ Some q → member goals q ≡ true → get_or ms i 0 < limit
      → IsGreatestMark a p b goals limit (get_or ms i 0) q
  greatest-at q falls lt step goal below = record {
    step = step;
    goal = goal;
    below = below;
    most = λ n r ln sn gn.
        let j = place-behind n r ln sn gn in
        elim (cases_eq j.0 i) [
          | inl same ↦ let e : n ≡ get_or ms i 0 = sym j.3 ∙ ap (λ k. get_or ms k 0) same in omega arith
          | inr other ↦ omega (arith, j.1, j.3, falls i j.0 0 (omega (arith, j.1, other)) j.2)
        ];
  }

  pub none-at : length ms ≤ i → (m : ℕ) → IsNoMark a p b goals limit m
  none-at past m lm r sm gm = let j = place-behind m r lm sm gm in omega (arith, j.1, j.2)

-- the marks of a letter, and those of the end
pub all-byte : (a : DeterministicAutomaton) (auto : IsDeterministic a) (p b : ℕ) (ms : List ℕ) → ms ≡ marks_of a p b → b < 256 → (n r : ℕ) → step_of a p n b ≡ Some r → Contains ms n
all-byte a auto p b ms is low n r h = rw is (fit-byte a auto p n b r low h).0

pub all-end : (a : DeterministicAutomaton) (q : ℕ) (ms : List ℕ) → ms ≡ ends_of a q → (n r : ℕ) → step_of a q n 256 ≡ Some r → Contains ms n
all-end a q ms is n r h = rw is (end-facts a q n r h).1

pub end-at : (a : DeterministicAutomaton) (q i : ℕ) (ms : List ℕ) → ms ≡ ends_of a q → i < length ms → step_of a q (get_or ms i 0) 256 ≡ Some 0
end-at a q i ms is lt = end-step a q (get_or ms i 0) (subst (λ (xs : List ℕ). Contains xs (get_or ms i 0)) is (Contains-get_or ms i 0 lt))

-- ---- the states between two texts
pub are-between : (a : DeterministicAutomaton) (auto : IsDeterministic a) (s u : List ℕ) (tl tr : List Row) (p goals from set : ℕ) → p < states_of a → Tells a s tl → Tells a u tr
    → from ≡ reached_of (row_at tl p) → AreAmong tr from goals set → AreBetween a p s u goals set
are-between a auto s u tl tr p goals from set low il ir is among = record {
  reach = λ n x e ends run.
      let row : member from n ≡ true = ap (λ k. member k n) is ∙ member-or (marked_of tl p) (single_of (unmarked_of tl p)) n ∙ elim (marks-or_plain a s tl p n x il low e ends) [
        | inl marked ↦ or-left _ _ marked
        | inr bare ↦ or-right _ _ (ap (λ o. member (single_of o) n) bare.1 ∙ member-single_same n)
      ] in
      among.all n row (table-from_run a u tr n goals ir (run-within a auto p n x low ends) run);
  onward = λ n h. let k = among.only n h in run-from_table a u tr n goals ir (omega (arith, k.0, ir.shape.states)) k.1;
}

-- a run over both goes over the first into a state between
pub between-left : (a : DeterministicAutomaton) (s u : List ℕ) (t tl : List Row) (p goals between : ℕ) → Tells a (s ++ u) t → Tells a s tl → p < states_of a
    → AreBetween a p s u goals between → can_reach_of t p goals ≡ true → can_reach_of tl p between ≡ true
between-left a s u t tl p goals between it il low is can =
    let run = run-from_table a (s ++ u) t p goals it low can in
    let c = path-parts (step_of a) p s u run.word run.state run.bytes run.ends in
    let goal = is.reach c.middle c.left c.left_bytes c.left_ends (run-behind a p s u run.word run.state goals c run.goal) in
    table-from_run a s tl p between il low (record { word = c.left; state = c.middle; bytes = c.left_bytes; ends = c.left_ends; goal = goal })

-- ---- quiet states
pub lead-quiet : (a : DeterministicAutomaton) (s u : List ℕ) (tl tr : List Row) (p goals quiet from set : ℕ) → Tells a s tl → Tells a u tr → p < states_of a
    → from ≡ reached_of (row_at tl p) → StayQuiet tr from goals quiet set → LeadQuiet a p s u goals quiet set
lead-quiet a s u tl tr p goals quiet from set il ir low is stay q h =
    elim (or-cases _ _ (sym (member-or (marked_of tl p) (single_of (unmarked_of tl p)) q) ∙ ap (λ n. member n q) (sym is) ∙ (stay q h).0)) [
      | inl m ↦ let run = (il.marked p q low).0 m in make run.word run.bytes run.ends (il.shape.marked_within p q m)
      | inr o ↦
          let step = single-is (unmarked_of tl p) q o in
          make (plain s) (bytes-plain s) (sym (il.unmarked p low) ∙ step) (il.shape.unmarked_within p q step)
    ]
  where
    make : (word : Marked) → bytes_of word ≡ s → reached a p word ≡ Some q → q < states_of a → LeadsQuiet a p s u goals quiet q
    make word bytes ends within =
        let k = (stay q h).1 in
        record { word = word; bytes = bytes; before = ends; next = k.next; step = sym (ir.unmarked q within) ∙ k.step; goal = k.goal; sole = only-plain a u tr q goals ir within k.none }

pub quiet-join : (a : DeterministicAutomaton) (p : ℕ) (s u rest : List ℕ) (finals goals quiet set : ℕ) → AreBetween a p (s ++ u) rest finals goals → AreQuiet a quiet rest finals
    → LeadQuiet a p s u goals quiet set → AreQuiet a set (u ++ rest) finals
quiet-join a p s u rest finals goals quiet set are still lead q h =
    let k = lead q h in
    let r = still k.next k.goal in
    record {
      last = r.last;
      ends = plain-on (step_of a) q k.next u rest k.step ∙ r.ends;
      goal = r.goal;
      sole = λ w n bytes ends goal.
          let c = path-parts (step_of a) q u rest w n bytes ends in
          let inside = are.reach c.middle (k.word ++ c.left) (bytes-append k.word c.left ∙ rw (k.bytes, c.left_bytes) refl) (path-on (step_of a) p q k.word c.left k.before ∙ c.left_ends) (run-behind a q u rest w n finals c goal) in
          let first : c.left ≡ plain u = k.sole c.left c.middle c.left_bytes c.left_ends inside in
          let same : c.middle ≡ k.next = same-state c.middle k.next (reached a q c.left) c.left_ends (ap (reached a q) first ∙ k.step) in
          let second : c.right ≡ plain rest = r.sole c.right n c.right_bytes (subst (λ m. reached a m c.right ≡ Some n) same c.right_ends) goal in
          c.joined ∙ ap (λ v. v ++ c.right) first ∙ ap (λ v. plain u ++ v) second ∙ sym (plain-append u rest);
      unmarked = r.unmarked;
    }

-- ---- where the first marked text over two joined texts has its first mark
mark-plain : (s : List ℕ) (v : Marked) → has_mark (plain s ++ v) ≡ has_mark v
mark-plain [] v = refl
mark-plain (b ∷ s) v = mark-plain s v

module _ (a : DeterministicAutomaton) (s u : List ℕ) (t tl tr : List Row) (p q goals : ℕ) (it : Tells a (s ++ u) t) (il : Tells a s tl) (ir : Tells a u tr) (low : p < states_of a)
    (within : q < states_of a) (some : bit_and (marked_of t p) goals ≡ 0 → ⊥) (step : unmarked_of tl p ≡ Some q) where
  -- where no run with marks over the first text leads on, one with marks over the second does
  some-right : (between : ℕ) → AreBetween a p s u goals between → bit_and (marked_of tl p) between ≡ 0 → bit_and (marked_of tr q) goals ≡ 0 → ⊥
  some-right between are none zero' =
      let run = marked-run a (s ++ u) t p goals it low some in
      let c = path-parts (step_of a) p s u run.2.word run.0 run.2.bytes run.2.ends in
      elim (marks-or_plain a s tl p c.middle c.left il low c.left_bytes c.left_ends) [
        | inl marked ↦ shared-none (marked_of tl p) between c.middle none marked (are.reach c.middle c.left c.left_bytes c.left_ends (run-behind a p s u run.2.word run.0 goals c run.1))
        | inr bare ↦
            let same : c.middle ≡ q = same-state c.middle q (unmarked_of tl p) bare.1 step in
            let marked : has_mark c.right ≡ true = sym (mark-plain s c.right) ∙ ap (λ v. has_mark (v ++ c.right)) (sym bare.0) ∙ ap has_mark (sym c.joined) ∙ run.2.mark in
            shared-none (marked_of tr q) goals run.0 zero'
            ((ir.marked q run.0 within).1 (record { word = c.right; bytes = c.right_bytes; mark = marked; ends = subst (λ k. reached a k c.right ≡ Some run.0) same c.right_ends })) run.1
      ]

  pub plain-left : (between : ℕ) → AreBetween a p s u goals between → can_reach_of tl p between ≡ true → bit_and (marked_of tl p) between ≡ 0 → IsPlainLeft a p s u goals tl tr q
  plain-left between are can none = record {
    between = between;
    are = are;
    none = none;
    step = step;
    goal = goal-plain tl p between q can none step;
    some = some-right between are none;
  }

  -- where no run over the first text has marks, the plain state alone is between
  pub sole-left : marked_of tl p ≡ 0 → IsPlainLeft a p s u goals tl tr q
  sole-left sole = plain-left (2 ^ q) are (or-left _ _ (ap (is_goal (2 ^ q)) step ∙ member-single_same q)) (rw sole refl)
    where
      one : (n : ℕ) (x : Marked) → bytes_of x ≡ s → reached a p x ≡ Some n → n ≡ q
      one n x e ends = elim (marks-or_plain a s tl p n x il low e ends) [
        | inl marked ↦ not-both (member 0 n) (ap (λ m. member m n) (sym sole) ∙ marked) (member-zero n)
        | inr bare ↦ same-state n q (unmarked_of tl p) bare.1 step
      ]

      are : AreBetween a p s u goals (2 ^ q)
      are =
          let run = run-from_table a (s ++ u) t p goals it low (some-can t p goals some) in
          let c = path-parts (step_of a) p s u run.word run.state run.bytes run.ends in
          let on = subst (λ k. CanRun a k u goals) (one c.middle c.left c.left_bytes c.left_ends) (run-behind a p s u run.word run.state goals c run.goal) in
          record {
            reach = λ n x e ends h. ap (member (2 ^ q)) (one n x e ends) ∙ member-single_same q;
            onward = λ n h. subst (λ k. CanRun a k u goals) (same-state q n (Some q) refl (single-is (Some q) n h)) on;
          }
