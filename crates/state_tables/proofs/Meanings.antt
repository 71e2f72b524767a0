-- The tables that are made are those of their texts.
use Rattle.std.proofs.Common.{◌≡◌, ℕ, ◌+◌, ◌<◌, ◌==◌, ◌↔◌, Bool, true, false, ◌||◌, not, refl, ap, sym, ◌∙◌, arith, List, [], ◌∷◌, ◌++◌, Option, Some, None, inl, inr, zero-add, rules}
use Rattle.std.proofs.lemmas.Bool.{eqb-true}
use Rattle.std.proofs.Math.Bool.{or_assoc}
use Rattle.std.proofs.lemmas.List.{map-append}
use Rattle.std.proofs.lemmas.List.Elements.{All-append}
use Rattle.span_types.specs.Words.{Marked}
use Rattle.formula_law.specs.Law.{bytes_of}
use Rattle.marker_dfa.specs.Deterministic.{DeterministicAutomaton, IsDeterministic, states_of, next_of, marks_of, path, and_then}
use Rattle.state_tables.specs.StateSet.{member}
use Rattle.state_tables.specs.Table.{Row, row_at, unmarked_of, marked_of, marked_from, reach, reach_by_marks, byte_table, compose_row, compose_of}
use Rattle.state_tables.specs.Meaning.{plain, has_mark, HasMarkedPath, IsTable}
use Rattle.state_tables.proofs.StateSets.{member-or}
use Rattle.state_tables.proofs.Members.{or-cases, or-left, or-right, bool-cases, reached-by, by-reached, from-cases, marks-reached, reached-marks}
use Rattle.state_tables.proofs.Shapes.{IsTableOf-byte, IsTableOf-compose, byte_table-row, compose-row_at, then-between}

-- ---- options
then-some : (go : ℕ → ℕ → ℕ → Option ℕ) (o : Option ℕ) → and_then o (path go []) ≡ o
then-some go None = refl
then-some go (Some q) = refl

then-assoc : (f g : ℕ → Option ℕ) (o : Option ℕ) → and_then (and_then o f) g ≡ and_then o (λ q. and_then (f q) g)
then-assoc f g None = refl
then-assoc f g (Some q) = refl

then-ext : (f g : ℕ → Option ℕ) (o : Option ℕ) → ((q : ℕ) → f q ≡ g q) → and_then o f ≡ and_then o g
then-ext f g None e = refl
then-ext f g (Some q) e = e q

then-join : (f : ℕ → Option ℕ) (o : Option ℕ) (x : ℕ) → o ≡ Some x → and_then o f ≡ f x
then-join f o x h = rw h refl

-- ---- paths
pub path-append : (go : ℕ → ℕ → ℕ → Option ℕ) (p : ℕ) (w v : Marked) → path go (w ++ v) p ≡ and_then (path go w p) (path go v)
path-append go p [] v = refl
path-append go p (x ∷ w) v =
    then-ext (path go (w ++ v)) (λ q. and_then (path go w q) (path go v)) (go p x.0 x.1) (λ q. path-append go q w v)
    ∙ sym (then-assoc (path go w) (path go v) (go p x.0 x.1))

pub path-within : (a : DeterministicAutomaton) (auto : IsDeterministic a) (p q : ℕ) (w : Marked) → p < states_of a → path (next_of a) w p ≡ Some q → q < states_of a
path-within a auto p q [] h e = let pq : p ≡ q = cc in omega arith
path-within a auto p q (x ∷ w) h e =
    let step = then-between (path (next_of a) w) (next_of a p x.0 x.1) q e in
    path-within a auto step.0 q w (auto.within p x.0 x.1 step.0 step.1) step.2

-- ---- marked texts
pub bytes-plain : (s : List ℕ) → bytes_of (plain s) ≡ s
bytes-plain [] = refl
bytes-plain (b ∷ s) = ap (λ t. b ∷ t) (bytes-plain s)

has_mark-append : (w v : Marked) → has_mark (w ++ v) ≡ (has_mark w || has_mark v)
has_mark-append [] v = refl
has_mark-append (x ∷ w) v =
    ap (λ y. not (x.0 == 0) || y) (has_mark-append w v) ∙ sym (or_assoc (not (x.0 == 0)) (has_mark w) (has_mark v))

false-not : (b : Bool) → not b ≡ false → b ≡ true
false-not true h = refl
false-not false h = cc

true-not : (b : Bool) → not b ≡ true → b ≡ false
true-not true h = cc
true-not false h = refl

zero-test : (n : ℕ) → not (n == 0) ≡ false → n ≡ 0
zero-test n h = eqb-true n 0 (false-not (n == 0) h)

or-false : (x y : Bool) → (x || y) ≡ false → (x ≡ false) × (y ≡ false)
or-false true y h = cc
or-false false y h = (refl, h)

-- without a mark it is the plain text
pub plain-from_no_mark : (w : Marked) → has_mark w ≡ false → w ≡ plain (bytes_of w)
plain-from_no_mark [] h = refl
plain-from_no_mark (x ∷ w) h =
    let both = or-false (not (x.0 == 0)) (has_mark w) h in
    let at : x.0 ≡ 0 = zero-test x.0 both.0 in
    ap (λ n. (n, x.1) ∷ w) at ∙ ap (λ v. (0, x.1) ∷ v) (plain-from_no_mark w both.1)

-- a marked text over two texts is cut between them
pub split-marked : (s u : List ℕ) (w : Marked) → bytes_of w ≡ s ++ u → (w1 : Marked) × ((w2 : Marked) × ((w ≡ w1 ++ w2) × (bytes_of w1 ≡ s) × (bytes_of w2 ≡ u)))
split-marked [] u w h = ([], (w, (refl, refl, h)))
split-marked (b ∷ s) u [] h = cc
split-marked (b ∷ s) u (x ∷ w) h =
    let tail : bytes_of w ≡ s ++ u = cc in
    let head : x.1 ≡ b = cc in
    let rest = split-marked s u w tail in
    (x ∷ rest.0, (rest.1.0, (ap (λ v. x ∷ v) rest.1.1.0, rw (head, rest.1.1.1) refl, rest.1.1.2)))

-- ---- one byte
byte-back : (a : DeterministicAutomaton) (auto : IsDeterministic a) (p b q : ℕ) (w : Marked) → bytes_of w ≡ b ∷ [] → has_mark w ≡ true → path (next_of a) w p ≡ Some q
    → member (reach_by_marks a p b (marks_of a p b)) q ≡ true
byte-back a auto p b q [] e k t = cc
byte-back a auto p b q (x ∷ []) e k t =
    let at : x.1 ≡ b = cc in
    let step : next_of a p x.0 b ≡ Some q = ap (next_of a p x.0) (sym at) ∙ sym (then-some (next_of a) (next_of a p x.0 x.1)) ∙ t in
    let marked : (x.0 == 0) ≡ false = true-not (x.0 == 0) (elim (or-cases (not (x.0 == 0)) false k) [ inl y ↦ y | inr n ↦ cc ]) in
    let among = (auto.marks p b x.0).1 (q, step) in
    reached-marks a p b q x.0 (marks_of a p b) among.0 among.1 among.2 marked step
byte-back a auto p b q (x ∷ y ∷ w) e k t = cc

byte-forth : (a : DeterministicAutomaton) (p b q : ℕ) → member (reach_by_marks a p b (marks_of a p b)) q ≡ true → HasMarkedPath a p (b ∷ []) q
byte-forth a p b q h =
    let found = marks-reached a p b q (marks_of a p b) h in
    record {
      word = (found.0, b) ∷ [];
      bytes = refl;
      mark = or-left (not (found.0 == 0)) false (ap not found.1.0);
      ends = then-some (next_of a) (next_of a p found.0 b) ∙ found.1.1;
    }

byte-marked : (a : DeterministicAutomaton) (auto : IsDeterministic a) (p b q : ℕ) → (member (reach_by_marks a p b (marks_of a p b)) q ≡ true) ↔ HasMarkedPath a p (b ∷ []) q
byte-marked a auto p b q = (byte-forth a p b q, λ h. byte-back a auto p b q h.word h.bytes h.mark h.ends)

pub IsTable-byte : (a : DeterministicAutomaton) (b : ℕ) → b < 256 → IsDeterministic a → IsTable a (b ∷ []) (byte_table a b)
IsTable-byte a b byte auto = record {
  shape = IsTableOf-byte a b auto;
  bytes = search rules;
  unmarked = λ p h. ap (λ r. r.unmarked) (byte_table-row a b p h) ∙ sym (then-some (next_of a) (next_of a p 0 b));
  marked = λ p q h.
      let at : marked_of (byte_table a b) p ≡ reach_by_marks a p b (marks_of a p b) = ap (λ r. r.marked) (byte_table-row a b p h) in
      let both = byte-marked a auto p b q in
      ((λ k. both.0 (ap (λ n. member n q) (sym at) ∙ k)), (λ k. ap (λ n. member n q) at ∙ both.1 k));
}

-- ---- two texts
compose-unmarked : (a : DeterministicAutomaton) (s u : List ℕ) (left right : List Row) (auto : IsDeterministic a) (p : ℕ)
    → p < states_of a → unmarked_of left p ≡ path (next_of a) (plain s) p
    → ((r : ℕ) → r < states_of a → unmarked_of right r ≡ path (next_of a) (plain u) r)
    → and_then (unmarked_of left p) (unmarked_of right) ≡ path (next_of a) (plain (s ++ u)) p
compose-unmarked a s u left right auto p h l r =
    ap (λ o. and_then o (unmarked_of right)) l
    ∙ each (path (next_of a) (plain s) p) (λ q e. r q (path-within a auto p q (plain s) h e))
    ∙ sym (path-append (next_of a) p (plain s) (plain u))
    ∙ ap (λ w. path (next_of a) w p) (sym (map-append (λ b. (0, b)) s u))
  where
    each : (o : Option ℕ) → ((q : ℕ) → o ≡ Some q → unmarked_of right q ≡ path (next_of a) (plain u) q) → and_then o (unmarked_of right) ≡ and_then o (path (next_of a) (plain u))
    each None f = refl
    each (Some q) f = f q refl

marked-from_some : (t : List Row) (o : Option ℕ) (r : ℕ) → o ≡ Some r → marked_from t o ≡ marked_of t r
marked-from_some t o r h = rw h refl

-- two marked texts joined
joined : (a : DeterministicAutomaton) (s u : List ℕ) (p r q : ℕ) (w v : Marked) → bytes_of w ≡ s → bytes_of v ≡ u
    → path (next_of a) w p ≡ Some r → path (next_of a) v r ≡ Some q → (has_mark w || has_mark v) ≡ true → HasMarkedPath a p (s ++ u) q
joined a s u p r q w v ew ev pw pv m = record {
  word = w ++ v;
  bytes = map-append (λ x. x.1) w v ∙ rw (ew, ev) refl;
  mark = has_mark-append w v ∙ m;
  ends = path-append (next_of a) p w v ∙ then-join (path (next_of a) v) (path (next_of a) w p) r pw ∙ pv;
}

compose-forth : (a : DeterministicAutomaton) (s u : List ℕ) (left right : List Row) → IsDeterministic a → IsTable a s left → IsTable a u right → (p q : ℕ) → p < states_of a
    → member (compose_row right (row_at left p)).marked q ≡ true → HasMarkedPath a p (s ++ u) q
compose-forth a s u left right auto l r p q h k =
    elim (or-cases (member (marked_from right (unmarked_of left p)) q) (member (reach (marked_of left p) 0 right) q)
    (sym (member-or (marked_from right (unmarked_of left p)) (reach (marked_of left p) 0 right) q) ∙ k)) [
      | inl e ↦
          let from = from-cases right (unmarked_of left p) q e in
          let below : from.0 < states_of a = l.shape.unmarked_within p from.0 from.1.0 in
          let later = (r.marked from.0 q below).0 from.1.1 in
          joined a s u p from.0 q (plain s) later.word (bytes-plain s) later.bytes (sym (l.unmarked p h) ∙ from.1.0) later.ends (or-right (has_mark (plain s)) (has_mark later.word) later.mark)
      | inr e ↦
          let by = reached-by (marked_of left p) 0 q right e in
          let below : by.index < states_of a = omega (arith, by.among, r.shape.states) in
          let first = (l.marked p by.index h).0 (ap (member (marked_of left p)) (sym (zero-add by.index)) ∙ by.in_set) in
          elim by.how [
            | inl m ↦
                let later = (r.marked by.index q below).0 m in
                joined a s u p by.index q first.word later.word first.bytes later.bytes first.ends later.ends (or-left (has_mark first.word) (has_mark later.word) first.mark)
            | inr m ↦
                joined a s u p by.index q first.word (plain u) first.bytes (bytes-plain u) first.ends (sym (r.unmarked by.index below) ∙ m) (or-left (has_mark first.word) (has_mark (plain u)) first.mark)
          ]
    ]

compose-back : (a : DeterministicAutomaton) (s u : List ℕ) (left right : List Row) → IsDeterministic a → IsTable a s left → IsTable a u right → (p q : ℕ) → p < states_of a
    → HasMarkedPath a p (s ++ u) q → member (compose_row right (row_at left p)).marked q ≡ true
compose-back a s u left right auto l r p q h k =
    let cut = split-marked s u k.word k.bytes in
    let w = cut.0 in
    let v = cut.1.0 in
    let is = cut.1.1.0 in
    let between = then-between (path (next_of a) v) (path (next_of a) w p) q (sym (path-append (next_of a) p w v) ∙ ap (λ x. path (next_of a) x p) (sym is) ∙ k.ends) in
    let m = between.0 in
    let below : m < states_of a = path-within a auto p m w h between.1 in
    let marks : (has_mark w || has_mark v) ≡ true = sym (has_mark-append w v) ∙ ap has_mark (sym is) ∙ k.mark in
    member-or (marked_from right (unmarked_of left p)) (reach (marked_of left p) 0 right) q
    ∙ elim (bool-cases (has_mark w)) [
      | inl marked ↦
          let in_left : member (marked_of left p) (0 + m) ≡ true =
          ap (member (marked_of left p)) (zero-add m) ∙ (l.marked p m h).1 (record { word = w; bytes = cut.1.1.1; mark = marked; ends = between.1 }) in
          or-right _ _ (by-reached (marked_of left p) 0 q right m (omega (arith, r.shape.states)) in_left
          (elim (bool-cases (has_mark v)) [
            | inl later ↦ inl ((r.marked m q below).1 (record { word = v; bytes = cut.1.1.2; mark = later; ends = between.2 }))
            | inr none ↦ inr (r.unmarked m below ∙ ap (λ x. path (next_of a) x m) (sym (plain-from_no_mark v none ∙ ap plain cut.1.1.2)) ∙ between.2)
          ]))
      | inr none ↦
          let at : unmarked_of left p ≡ Some m = l.unmarked p h ∙ ap (λ x. path (next_of a) x p) (sym (plain-from_no_mark w none ∙ ap plain cut.1.1.1)) ∙ between.1 in
          let later : has_mark v ≡ true = sym (ap (λ t. t || has_mark v) none) ∙ marks in
          or-left _ _ (ap (λ n. member n q) (marked-from_some right (unmarked_of left p) m at)
          ∙ (r.marked m q below).1 (record { word = v; bytes = cut.1.1.2; mark = later; ends = between.2 }))
    ]

pub IsTable-compose : (a : DeterministicAutomaton) (s u : List ℕ) (left right : List Row) → IsDeterministic a → IsTable a s left → IsTable a u right → IsTable a (s ++ u) (compose_of left right)
IsTable-compose a s u left right auto l r = record {
  shape = IsTableOf-compose (states_of a) left right l.shape r.shape;
  bytes = All-append (λ b. b < 256) s u l.bytes r.bytes;
  unmarked = λ p h. ap (λ t. t.unmarked) (compose-row_at left right p (rw l.shape.states h)) ∙ compose-unmarked a s u left right auto p h (l.unmarked p h) r.unmarked;
  marked = λ p q h.
      let at : marked_of (compose_of left right) p ≡ (compose_row right (row_at left p)).marked = ap (λ t. t.marked) (compose-row_at left right p (rw l.shape.states h)) in (
        (λ k. compose-forth a s u left right auto l r p q h (ap (λ n. member n q) (sym at) ∙ k)),
        (λ k. ap (λ n. member n q) at ∙ compose-back a s u left right auto l r p q h k),
      );
}
