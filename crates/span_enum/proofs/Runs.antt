-- Runs over letters, the first marked text, and the ends of texts.
use Rattle.span_enum.proofs.Base.{Accepted, All, Any, Any-from_list_any, Bool, CanRun, Contains, Contains-get_or, DeterministicAutomaton, IsDeterministic, IsFirst, IsTable, IsTableOf, List, Marked, None, Option, Parts, Row, Some, []}
use Rattle.span_enum.proofs.Base.{ap, arith, bit-member, bit_and, bit_at, bit_at-lt, bit_at-suc, bit_at-zero, bit_at_and, bit_at_lowest, bool-cases, bytes-append, bytes-none, bytes-plain, bytes_of, can_reach_of, cases_eq, end_in}
use Rattle.span_enum.proofs.Base.{ends_of, eq-eqb, eqb-true, false, four_le, get_or, has_mark, if◌then◌else◌, inl, inr, is_final, is_goal, length, list_any, list_any_at, marked_of, marks_of, member, member-bit, member-single_same, min}
use Rattle.span_enum.proofs.Base.{ne_eqb, next_of, not, not-both, one-letter, onto, or-cases, or-left, or-right, path, path-on, path-one, path-parts, plain, plain-from_no_mark, precedes-append, precedes-prefix, reached, refl, same-state}
use Rattle.span_enum.proofs.Base.{states_of, subst, suc, sym, then-between, true, unmarked_of, zero, ℕ, ◌%◌, ◌^◌, ◌++◌, ◌/◌, ◌<◌, ◌==◌, ◌↔◌, ◌∙◌, ◌∷◌, ◌≡◌, ◌≤◌, ◌⊎◌}
use Rattle.span_enum.specs.Letters.{step_of}

-- ---- marks in the list of those with which a text may end
pub in-end : (ms : List ℕ) (m : ℕ) → Contains ms m → end_in ms m ≡ Some 0
in-end ms m c = ap (λ (z : Bool). if z then Some 0 else None) (list_any_at (λ x. x == m) ms c.0 m c.1 (eq-eqb (get_or ms c.0 m) m c.2))

pub end-among : (ms : List ℕ) (m q : ℕ) → end_in ms m ≡ Some q → (q ≡ 0) × Contains ms m
end-among ms m q h = by (list_any (λ x. x == m) ms) h (Any-from_list_any (λ x. x == m) ms)
  where
    by : (z : Bool) → (if z then Some 0 else None) ≡ Some q → (z ≡ true → Any (λ x. (x == m) ≡ true) ms) → (q ≡ 0) × Contains ms m
    by true e any = let k = any refl in let same : q ≡ 0 = cc in (same, subst (Contains ms) (eqb-true k.1 m k.4) (k.0, k.2, k.3))
    by false e any = cc

-- ---- steps
pub step-byte : (a : DeterministicAutomaton) (p m b : ℕ) → b < 256 → step_of a p m b ≡ next_of a p m b
unfolding step_of
step-byte a p m b low = ap (λ (z : Bool). if z then end_in (ends_of a p) m else next_of a p m b) (ne_eqb b 256 (λ e. omega (arith, e, low)))

pub step-end : (a : DeterministicAutomaton) (p m : ℕ) → step_of a p m 256 ≡ end_in (ends_of a p) m
unfolding step_of
step-end a p m = refl

pub step-within : (a : DeterministicAutomaton) (auto : IsDeterministic a) (p m b q : ℕ) → step_of a p m b ≡ Some q → q < states_of a
unfolding step_of
step-within a auto p m b q h = by (b == 256) h
  where
    by : (z : Bool) → (if z then end_in (ends_of a p) m else next_of a p m b) ≡ Some q → q < states_of a
    by true e = omega (arith, (end-among (ends_of a p) m q e).0, auto.has_start)
    by false e = auto.within p m b q e

-- ---- runs
pub run-within : (a : DeterministicAutomaton) (auto : IsDeterministic a) (p q : ℕ) (w : Marked) → p < states_of a → reached a p w ≡ Some q → q < states_of a
run-within a auto p q [] h e = let pq : p ≡ q = cc in omega arith
run-within a auto p q (x ∷ w) h e =
    let step = then-between (λ r. reached a r w) (step_of a p x.0 x.1) q e in
    run-within a auto step.0 q w (step-within a auto p x.0 x.1 step.0 step.1) step.2

-- what is after the cut leads into a goal
pub run-behind : (a : DeterministicAutomaton) (p : ℕ) (s u : List ℕ) (v : Marked) (r goals : ℕ) → (k : Parts (step_of a) p s u v r) → member goals r ≡ true → CanRun a k.middle u goals
run-behind a p s u v r goals k goal = record { word = k.right; state = r; bytes = k.right_bytes; ends = k.right_ends; goal = goal }

-- a run over two joined texts
pub run-join : (a : DeterministicAutomaton) (q n goals : ℕ) (s u : List ℕ) (w : Marked) → bytes_of w ≡ s → reached a q w ≡ Some n → CanRun a n u goals → CanRun a q (s ++ u) goals
run-join a q n goals s u w e t rest = record {
  word = w ++ rest.word;
  state = rest.state;
  bytes = bytes-append w rest.word ∙ rw (e, rest.bytes) refl;
  ends = path-on (step_of a) q n w rest.word t ∙ rest.ends;
  goal = rest.goal;
}

-- ---- tables
abbrev pub AreBytes : List ℕ → Type 0
AreBytes s = All (λ b. b < 256) s

-- over bytes a run is the automaton's own
pub run-bytes : (a : DeterministicAutomaton) (p : ℕ) (w : Marked) → AreBytes (bytes_of w) → reached a p w ≡ path (next_of a) w p
run-bytes a p [] h = refl
run-bytes a p (x ∷ w) h =
    let low : x.1 < 256 = h 0 0 (omega arith) in
    ap (onto (λ q. reached a q w)) (step-byte a p x.0 x.1 low) ∙ by (next_of a p x.0 x.1) (λ q. run-bytes a q w (λ k d lt. h (suc k) d (omega arith)))
  where
    by : (o : Option ℕ) → ((q : ℕ) → reached a q w ≡ path (next_of a) w q) → onto (λ q. reached a q w) o ≡ onto (path (next_of a) w) o
    by None rest = refl
    by (Some q) rest = rest q

-- q is reached from p over s with some mark other than 0
pub record HasMarkedRun (a : DeterministicAutomaton) (p : ℕ) (s : List ℕ) (q : ℕ) : Type 0 where
  pub word : Marked
  pub bytes : bytes_of word ≡ s
  pub mark : has_mark word ≡ true
  pub ends : reached a p word ≡ Some q

-- what a table says of runs
pub record Tells (a : DeterministicAutomaton) (s : List ℕ) (t : List Row) : Type 0 where
  pub shape : IsTableOf (states_of a) t
  pub bytes : AreBytes s
  pub unmarked : (p : ℕ) → p < states_of a → unmarked_of t p ≡ reached a p (plain s)
  pub marked : (p q : ℕ) → p < states_of a → (member (marked_of t p) q ≡ true) ↔ HasMarkedRun a p s q

pub tells : (a : DeterministicAutomaton) (s : List ℕ) (t : List Row) → IsTable a s t → Tells a s t
tells a s t is = record {
  shape = is.shape;
  bytes = is.bytes;
  unmarked = λ p h. is.unmarked p h ∙ sym (same p (plain s) (bytes-plain s));
  marked = λ p q h. (
    (λ m. let k = (is.marked p q h).0 m in record { word = k.word; bytes = k.bytes; mark = k.mark; ends = same p k.word k.bytes ∙ k.ends }),
    (λ k. (is.marked p q h).1 (record { word = k.word; bytes = k.bytes; mark = k.mark; ends = sym (same p k.word k.bytes) ∙ k.ends })),
  );
}
  where
    same : (p : ℕ) (w : Marked) → bytes_of w ≡ s → reached a p w ≡ path (next_of a) w p
    same p w e = run-bytes a p w (rw e is.bytes)

-- ---- sets
pub shared-none : (a b q : ℕ) → bit_and a b ≡ 0 → member a q ≡ true → member b q ≡ true → ⊥
shared-none a b q none ha hb =
    let both : bit_at (bit_and a b) q ≡ 1 = rw (bit_at_and a b q, bit-member a q ha, bit-member b q hb) refl in
    let zero' : bit_at (bit_and a b) q ≡ 0 = rw (none, bit_at-zero q) refl in
    omega (arith, both, zero')

some-bit : (most n : ℕ) → n ≤ most → 0 < n → (i : ℕ) × (bit_at n i ≡ 1)
some-bit zero n le pos = absurd (omega (arith, le, pos))
some-bit (suc most) n le pos = elim (cases_eq (n % 2) 1) [
  | inl odd ↦ (0, bit_at_lowest n ∙ odd)
  | inr even ↦ let half = some-bit most (n / 2) (omega (arith, le, pos, even)) (omega (arith, pos, even)) in (suc half.0, bit_at-suc n half.0 ∙ half.1)
]

pub shared-some : (a b : ℕ) → (bit_and a b ≡ 0 → ⊥) → (q : ℕ) × (member a q ≡ true) × (member b q ≡ true)
shared-some a b some =
    let n = bit_and a b in
    let pos : 0 < n = elim (cases_eq n 0) [ inl e ↦ absurd (some e) | inr ne ↦ omega arith ] in
    let at = some-bit n n (omega arith) pos in
    let q = at.0 in
    let both : min (bit_at a q) (bit_at b q) ≡ 1 = sym (bit_at_and a b q) ∙ at.1 in
    (q, member-bit a q (omega (arith, both, bit_at-lt a q)), member-bit b q (omega (arith, both, bit_at-lt b q)))

pub positive-test : (n : ℕ) → (n ≡ 0 → ⊥) → not (n == 0) ≡ true
positive-test n some = ap not (ne_eqb n 0 some)

-- ---- runs and tables
-- whether a run leads into a goal: that without marks does, or one with marks
pub reach-cases : (t : List Row) (p goals : ℕ) → can_reach_of t p goals ≡ true
    → ((q : ℕ) × (unmarked_of t p ≡ Some q) × (member goals q ≡ true)) ⊎ (bit_and (marked_of t p) goals ≡ 0 → ⊥)
reach-cases t p goals can = elim (or-cases (is_goal goals (unmarked_of t p)) (not (bit_and (marked_of t p) goals == 0)) can) [
  | inl e ↦ inl (one (unmarked_of t p) e)
  | inr e ↦ inr (λ none. not-both (not (bit_and (marked_of t p) goals == 0)) e (ap (λ n. not (n == 0)) none))
]
  where
    one : (o : Option ℕ) → is_goal goals o ≡ true → (q : ℕ) × (o ≡ Some q) × (member goals q ≡ true)
    one None h = cc
    one (Some q) h = (q, refl, h)

-- a run with marks into a goal is a run into a goal
pub some-can : (t : List Row) (p goals : ℕ) → (bit_and (marked_of t p) goals ≡ 0 → ⊥) → can_reach_of t p goals ≡ true
some-can t p goals some = or-right _ _ (positive-test (bit_and (marked_of t p) goals) some)

-- without a marked run the plain one reaches a goal
pub goal-plain : (t : List Row) (p goals q : ℕ) → can_reach_of t p goals ≡ true → bit_and (marked_of t p) goals ≡ 0 → unmarked_of t p ≡ Some q → member goals q ≡ true
goal-plain t p goals q can none at = elim (reach-cases t p goals can) [
  | inl e ↦ ap (member goals) (same-state q e.0 (unmarked_of t p) at e.1) ∙ e.2
  | inr some ↦ absurd (some none)
]

-- a run over a text whose table is known has marks, or is the plain one
pub marks-or_plain : (a : DeterministicAutomaton) (s : List ℕ) (t : List Row) (p q : ℕ) (w : Marked) → Tells a s t → p < states_of a → bytes_of w ≡ s → reached a p w ≡ Some q
    → (member (marked_of t p) q ≡ true) ⊎ ((w ≡ plain s) × (unmarked_of t p ≡ Some q))
marks-or_plain a s t p q w is low bytes ends = elim (bool-cases (has_mark w)) [
  | inl marked ↦ inl ((is.marked p q low).1 (record { word = w; bytes = bytes; mark = marked; ends = ends }))
  | inr bare ↦
      let same : w ≡ plain s = plain-from_no_mark w bare ∙ ap plain bytes in
      inr (same, is.unmarked p low ∙ ap (reached a p) (sym same) ∙ ends)
]

-- some run with marks leads into a goal
pub marked-run : (a : DeterministicAutomaton) (s : List ℕ) (t : List Row) (p goals : ℕ) → Tells a s t → p < states_of a → (bit_and (marked_of t p) goals ≡ 0 → ⊥)
    → (q : ℕ) × (member goals q ≡ true) × HasMarkedRun a p s q
marked-run a s t p goals is low some =
    let found = shared-some (marked_of t p) goals some in
    (found.0, found.2, (is.marked p found.0 low).0 found.1)

pub run-from_table : (a : DeterministicAutomaton) (s : List ℕ) (t : List Row) (p goals : ℕ) → Tells a s t → p < states_of a
    → can_reach_of t p goals ≡ true → CanRun a p s goals
run-from_table a s t p goals is low can = elim (reach-cases t p goals can) [
  | inl e ↦ record { word = plain s; state = e.0; bytes = bytes-plain s; ends = sym (is.unmarked p low) ∙ e.1; goal = e.2 }
  | inr some ↦
      let k = marked-run a s t p goals is low some in
      record { word = k.2.word; state = k.0; bytes = k.2.bytes; ends = k.2.ends; goal = k.1 }
]

pub table-from_run : (a : DeterministicAutomaton) (s : List ℕ) (t : List Row) (p goals : ℕ) → Tells a s t → p < states_of a
    → CanRun a p s goals → can_reach_of t p goals ≡ true
table-from_run a s t p goals is low run = elim (marks-or_plain a s t p run.state run.word is low run.bytes run.ends) [
  | inl marked ↦ some-can t p goals (λ none. shared-none (marked_of t p) goals run.state none marked run.goal)
  | inr bare ↦ or-left _ _ (ap (is_goal goals) bare.1 ∙ run.goal)
]

-- ---- the first marked text
-- where no marked run reaches a goal, the plain text is the only one
pub only-plain : (a : DeterministicAutomaton) (s : List ℕ) (t : List Row) (p goals : ℕ) → Tells a s t → p < states_of a → bit_and (marked_of t p) goals ≡ 0
    → (w : Marked) (r : ℕ) → bytes_of w ≡ s → reached a p w ≡ Some r → member goals r ≡ true → w ≡ plain s
only-plain a s t p goals is low none w r bytes ends goal = elim (marks-or_plain a s t p r w is low bytes ends) [
  | inl marked ↦ absurd (shared-none (marked_of t p) goals r none marked goal)
  | inr bare ↦ bare.0
]

pub IsFirst-plain : (a : DeterministicAutomaton) (s : List ℕ) (t : List Row) (p goals q : ℕ) → Tells a s t → p < states_of a
    → bit_and (marked_of t p) goals ≡ 0 → unmarked_of t p ≡ Some q → member goals q ≡ true → IsFirst a p s goals (plain s) q
IsFirst-plain a s t p goals q is low none at goal = record {
  bytes = bytes-plain s;
  ends = sym (is.unmarked p low) ∙ at;
  goal = goal;
  least = λ v r bytes ends g. inl (only-plain a s t p goals is low none v r bytes ends g);
}

pub IsFirst-byte : (a : DeterministicAutomaton) (p b m goals q : ℕ) → step_of a p m b ≡ Some q → member goals q ≡ true
    → ((n r : ℕ) → step_of a p n b ≡ Some r → member goals r ≡ true → n ≤ m) → IsFirst a p (b ∷ []) goals ((m, b) ∷ []) q
IsFirst-byte a p b m goals q step goal most = record {
  bytes = refl;
  ends = path-one (step_of a) p m b ∙ step;
  goal = goal;
  least = λ v r bytes ends g.
      let one = one-letter (step_of a) p b r v bytes ends in
      let within : one.mark ≤ m = most one.mark r one.step g in
      elim (cases_eq one.mark m) [ inl e ↦ inl (one.word ∙ ap (λ n. (n, b) ∷ []) e) | inr ne ↦ inr (rw one.word (inl (omega arith))) ];
}

pub IsFirst-fork : (a : DeterministicAutomaton) (s u : List ℕ) (p q r goals between : ℕ) (w v : Marked)
    → ((n : ℕ) (x : Marked) → bytes_of x ≡ s → reached a p x ≡ Some n → CanRun a n u goals → member between n ≡ true)
    → IsFirst a p s between w q → IsFirst a q u goals v r → IsFirst a p (s ++ u) goals (w ++ v) r
IsFirst-fork a s u p q r goals between w v all l k = record {
  bytes = bytes-append w v ∙ rw (l.bytes, k.bytes) refl;
  ends = path-on (step_of a) p q w v l.ends ∙ k.ends;
  goal = k.goal;
  least = λ x n bytes ends g.
      let c = path-parts (step_of a) p s u x n bytes ends in
      elim (l.least c.left c.middle c.left_bytes c.left_ends (all c.middle c.left c.left_bytes c.left_ends (run-behind a p s u x n goals c g))) [
        | inr before ↦ inr (rw c.joined (precedes-append w c.left v c.right before))
        | inl same ↦
            let at : c.middle ≡ q = same-state c.middle q (reached a p w) (ap (reached a p) (sym same) ∙ c.left_ends) l.ends in
            elim (k.least c.right n c.right_bytes (ap (λ t. reached a t c.right) (sym at) ∙ c.right_ends) g) [
              | inl same' ↦ inl (c.joined ∙ rw (same, same') refl)
              | inr before ↦ inr (rw (c.joined, same) (precedes-prefix w v c.right before))
            ]
      ];
}

-- ---- nothing is left
pub run-nothing : (a : DeterministicAutomaton) (p goals : ℕ) → member goals p ≡ true → CanRun a p [] goals
run-nothing a p goals h = record { word = []; state = p; bytes = refl; ends = refl; goal = h }

pub goal-from_nothing : (a : DeterministicAutomaton) (p goals : ℕ) → CanRun a p [] goals → member goals p ≡ true
goal-from_nothing a p goals run =
    let ends : reached a p [] ≡ Some run.state = ap (reached a p) (sym (bytes-none run.word run.bytes)) ∙ run.ends in
    ap (member goals) (same-state p run.state (Some p) refl ends) ∙ run.goal

-- ---- ends of texts
pub member-one : member 1 0 ≡ true
member-one = member-single_same 0

-- ---- the step over the end
pub end-step : (a : DeterministicAutomaton) (q m : ℕ) → Contains (ends_of a q) m → step_of a q m 256 ≡ Some 0
end-step a q m c = step-end a q m ∙ in-end (ends_of a q) m c

pub end-facts : (a : DeterministicAutomaton) (q m r : ℕ) → step_of a q m 256 ≡ Some r → (r ≡ 0) × Contains (ends_of a q) m
end-facts a q m r h = end-among (ends_of a q) m r (sym (step-end a q m) ∙ h)

pub final-from : (xs : List ℕ) (m : ℕ) → Contains xs m → not (length xs == 0) ≡ true
final-from xs m c = positive-test (length xs) (λ e. omega (arith, e, c.1))

-- some mark of a final state
pub final-end : (a : DeterministicAutomaton) (q : ℕ) → is_final a q ≡ true → step_of a q (get_or (ends_of a q) 0 0) 256 ≡ Some 0
final-end a q f = end-step a q (get_or (ends_of a q) 0 0) (Contains-get_or (ends_of a q) 0 0 (some (length (ends_of a q)) f))
  where
    some : (n : ℕ) → not (n == 0) ≡ true → 0 < n
    some zero e = cc
    some (suc n) e = omega arith

pub end-run : (a : DeterministicAutomaton) (q : ℕ) → is_final a q ≡ true → CanRun a q (256 ∷ []) 1
end-run a q f = record {
  word = (get_or (ends_of a q) 0 0, 256) ∷ [];
  state = 0;
  bytes = refl;
  ends = path-one (step_of a) q (get_or (ends_of a q) 0 0) 256 ∙ final-end a q f;
  goal = member-one;
}

pub run-end : (a : DeterministicAutomaton) (q : ℕ) → CanRun a q (256 ∷ []) 1 → is_final a q ≡ true
run-end a q run =
    let one = one-letter (step_of a) q 256 run.state run.word run.bytes run.ends in
    final-from (ends_of a q) one.mark (end-facts a q one.mark run.state one.step).1

-- ---- marks are small
module _ (a : DeterministicAutomaton) (auto : IsDeterministic a) where
  pub low-mark : (p m b q : ℕ) → step_of a p m b ≡ Some q → m < 65536
  unfolding step_of
  low-mark p m b q h = by (b == 256) h
    where
      small : m < 4 ^ a.variables → m < 65536
      small lt = omega (arith, four_le a.variables 8 auto.few_variables)

      by : (z : Bool) → (if z then end_in (ends_of a p) m else next_of a p m b) ≡ Some q → m < 65536
      by true e = small (auto.ends_small p m (end-among (ends_of a p) m q e).1)
      by false e = small (auto.marks_small p b m ((auto.marks p b m).1 (q, e)))

  pub fit-byte : (p m b q : ℕ) → b < 256 → step_of a p m b ≡ Some q → Contains (marks_of a p b) m × (m < 65536)
  fit-byte p m b q low h = ((auto.marks p b m).1 (q, sym (step-byte a p m b low) ∙ h), low-mark p m b q h)

  pub fit-end : (p m q : ℕ) → step_of a p m 256 ≡ Some q → m < 65536
  fit-end p m q h = low-mark p m 256 q h

-- ---- the goals before the end
module _ (a : DeterministicAutomaton) (auto : IsDeterministic a) (finals : ℕ) (all : (p : ℕ) → p < states_of a → member finals p ≡ is_final a p) where
  pub reach-end : (s : List ℕ) (p : ℕ) → p < states_of a → (n : ℕ) (x : Marked) → bytes_of x ≡ s → reached a p x ≡ Some n → CanRun a n (256 ∷ []) 1 → member finals n ≡ true
  reach-end s p low n x e t run = all n (run-within a auto p n x low t) ∙ run-end a n run

  pub accepted-from_run : (s : List ℕ) → CanRun a 0 s finals → Accepted a s
  accepted-from_run s run =
      let final = sym (all run.state (run-within a auto 0 run.state run.word auto.has_start run.ends)) ∙ run.goal in
      run-join a 0 run.state 1 s (256 ∷ []) run.word run.bytes run.ends (end-run a run.state final)

  pub run-from_accepted : (s : List ℕ) → Accepted a s → CanRun a 0 s finals
  run-from_accepted s run =
      let c = path-parts (step_of a) 0 s (256 ∷ []) run.word run.state run.bytes run.ends in
      let goal = reach-end s 0 auto.has_start c.middle c.left c.left_bytes c.left_ends (run-behind a 0 s (256 ∷ []) run.word run.state 1 c run.goal) in
      record { word = c.left; state = c.middle; bytes = c.left_bytes; ends = c.left_ends; goal = goal }
