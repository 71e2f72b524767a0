-- How many texts come before a given one: by their first letters, and over a text without marks.
use Rattle.std.proofs.Common.{◌≡◌, ℕ, ◌+◌, ◌<◌, ◌==◌, ◌&&◌, ◌||◌, Bool, true, false, List, [], ◌∷◌, ◌++◌, length, map, refl, ap, sym, subst, ◌∙◌, arith, inl, inr, AllPairs, Contains, Option, Some, None}
use Rattle.std.specs.Prelude.{nat_lt, filter, cond, if◌then◌else◌}
use Rattle.std.specs.List.{flat_map}
use Rattle.std.proofs.lemmas.Bool.{cases_order, eq-eqb, le-ltb, lt-ltb}
use Rattle.std.proofs.lemmas.Bool.Decides.{eqb_tells}
use Rattle.std.proofs.lemmas.List.{length-append, length-map}
use Rattle.span_types.specs.Words.{Marked, Precedes}
use Rattle.state_tables.specs.Meaning.{plain}
use Rattle.state_tables.proofs.Members.{bool-cases}
use Rattle.path_counts.specs.Runs.{at_state, runs}
use Rattle.path_counts.proofs.Lists.{contains-cases, contains-here, contains-none, contains-there, map-contains, pairs-head, pairs-tail}
use Rattle.path_counts.proofs.Numbers.{precedes-on}
use Rattle.count_tables.specs.Earlier.{is_before, number_before}

-- ---- lists
pub before-append : (xs ys : List Marked) (v : Marked) → number_before (xs ++ ys) v ≡ number_before xs v + number_before ys v
before-append [] ys v = omega arith
before-append (x ∷ xs) ys v = omega (arith, before-append xs ys v)

-- ---- by the first letter
other-mark : (m n : ℕ) → (m ≡ n → ⊥) → m == n ≡ false
other-mark m n ne = elim (eqb_tells m n) [ inl e ↦ absurd (ne e.1) | inr e ↦ e.0 ]

first-is : (x y t : Bool) (r : Bool) → x ≡ r → y ≡ false → (x || (y && t)) ≡ r
first-is true y t r e f = e
first-is false true t r e f = cc
first-is false false t r e f = e

same-first : (m b : ℕ) (w v : Marked) → is_before ((m, b) ∷ w) ((m, b) ∷ v) ≡ is_before w v
same-first m b w v = by (nat_lt m m) (m == m) (le-ltb m m (omega arith)) (eq-eqb m m refl)
  where
    by : (x y : Bool) → x ≡ false → y ≡ true → (x || (y && is_before w v)) ≡ is_before w v
    by false true e f = refl
    by false false e f = cc
    by true y e f = cc

-- a greater mark first
pub before-greater : (m n b : ℕ) (ws : List Marked) (v : Marked) → m < n → number_before (map (λ w. (n, b) ∷ w) ws) ((m, b) ∷ v) ≡ length ws
before-greater m n b [] v lt = refl
before-greater m n b (w ∷ ws) v lt =
    let one : is_before ((n, b) ∷ w) ((m, b) ∷ v) ≡ true = first-is (nat_lt m n) (n == m) (is_before w v) true (lt-ltb m n lt) (other-mark n m (λ e. omega (arith, e, lt))) in
    ap (λ z. (if z then 1 else 0) + number_before (map (λ x. (n, b) ∷ x) ws) ((m, b) ∷ v)) one ∙ ap (λ k. 1 + k) (before-greater m n b ws v lt) ∙ omega arith

-- the same mark
pub before-same : (m b : ℕ) (ws : List Marked) (v : Marked) → number_before (map (λ w. (m, b) ∷ w) ws) ((m, b) ∷ v) ≡ number_before ws v
before-same m b [] v = refl
before-same m b (w ∷ ws) v =
    ap (λ z. (if z then 1 else 0) + number_before (map (λ x. (m, b) ∷ x) ws) ((m, b) ∷ v)) (same-first m b w v)
    ∙ ap (λ k. (if is_before w v then 1 else 0) + k) (before-same m b ws v)

-- a lower mark
pub before-lower : (m n b : ℕ) (ws : List Marked) (v : Marked) → n < m → number_before (map (λ w. (n, b) ∷ w) ws) ((m, b) ∷ v) ≡ 0
before-lower m n b [] v lt = refl
before-lower m n b (w ∷ ws) v lt =
    let none : is_before ((n, b) ∷ w) ((m, b) ∷ v) ≡ false = first-is (nat_lt m n) (n == m) (is_before w v) false (le-ltb m n (omega (arith, lt))) (other-mark n m (λ e. omega (arith, e, lt))) in
    ap (λ z. (if z then 1 else 0) + number_before (map (λ x. (n, b) ∷ x) ws) ((m, b) ∷ v)) none ∙ ap (λ k. 0 + k) (before-lower m n b ws v lt)

-- ---- the test and mark order
pub precedes-is : (w v : Marked) → is_before w v ≡ true → Precedes w v
precedes-is [] v e = cc
precedes-is (x ∷ w) [] e = cc
precedes-is (x ∷ w) (y ∷ v) e = elim (cases_order y.0 x.0) [
  | inl same ↦ inr (sym same, precedes-is w v (sym (tail same) ∙ e))
  | inr other ↦ elim other [
    | inl lt ↦ inl lt
    | inr gt ↦ absurd (not-both (is_before (x ∷ w) (y ∷ v)) e (first-is (nat_lt y.0 x.0) (x.0 == y.0) (is_before w v) false (le-ltb y.0 x.0 (omega (arith, gt))) (other-mark x.0 y.0 (λ k. omega (arith, k, gt)))))
  ]
]
  where
    not-both : (z : Bool) → z ≡ true → z ≡ false → ⊥
    not-both true a b = cc
    not-both false a b = cc

    tail : y.0 ≡ x.0 → is_before (x ∷ w) (y ∷ v) ≡ is_before w v
    tail same = by (nat_lt y.0 x.0) (x.0 == y.0) (le-ltb y.0 x.0 (omega (arith, same))) (eq-eqb x.0 y.0 (sym same))
      where
        by : (p q : Bool) → p ≡ false → q ≡ true → (p || (q && is_before w v)) ≡ is_before w v
        by false true a b = refl
        by false false a b = cc
        by true q a b = cc

pub is-precedes : (w v : Marked) → Precedes w v → is_before w v ≡ true
is-precedes [] v h = absurd h
is-precedes (x ∷ w) [] h = absurd h
is-precedes (x ∷ w) (y ∷ v) (inl lt) = first-is (nat_lt y.0 x.0) (x.0 == y.0) (is_before w v) true (lt-ltb y.0 x.0 lt) (other-mark x.0 y.0 (λ e. omega (arith, e, lt)))
is-precedes (x ∷ w) (y ∷ v) (inr e) = by (nat_lt y.0 x.0) (x.0 == y.0) (le-ltb y.0 x.0 (omega (arith, e.0))) (eq-eqb x.0 y.0 e.0) (is-precedes w v e.1)
  where
    by : (p q : Bool) → p ≡ false → q ≡ true → is_before w v ≡ true → (p || (q && is_before w v)) ≡ true
    by false true a b h = h
    by false false a b h = cc
    by true q a b h = cc

-- ---- the marks at one byte, in falling order
-- what f says of the greater marks
abbrev pub greater : (ℕ → ℕ) → ℕ → List ℕ → ℕ
greater f m [] = 0
greater f m (n ∷ ns) = (if nat_lt m n then f n else 0) + greater f m ns

-- x, if the mark is there
abbrev pub same : ℕ → ℕ → List ℕ → ℕ
same x m [] = 0
same x m (n ∷ ns) = (if n == m then x else 0) + same x m ns

pub same-zero : (m : ℕ) (ms : List ℕ) → same 0 m ms ≡ 0
same-zero m [] = refl
same-zero m (n ∷ ns) = both (n == m) ∙ same-zero m ns
  where
    both : (z : Bool) → (if z then 0 else 0) + same 0 m ns ≡ same 0 m ns
    both true = omega arith
    both false = omega arith

same-past : (x m : ℕ) (ms : List ℕ) → ((n : ℕ) → Contains ms n → n < m) → same x m ms ≡ 0
same-past x m [] below = refl
same-past x m (n ∷ ns) below =
    let lt : n < m = below n (contains-here n ns) in
    ap (λ z. (if z then x else 0) + same x m ns) (other-mark n m (λ e. omega (arith, e, lt))) ∙ omega (arith, same-past x m ns (λ k c. below k (contains-there n ns k c)))

pub same-once : (x m : ℕ) (ms : List ℕ) → AllPairs (λ i j. j < i) ms → Contains ms m → same x m ms ≡ x
same-once x m [] falls there = absurd (contains-none m there)
same-once x m (n ∷ ns) falls there = elim (eqb_tells n m) [
  | inl e ↦
      let rest : same x m ns ≡ 0 = same-past x m ns (λ k c. let lt : k < n = pairs-head (λ i j. j < i) n ns k falls c in omega (arith, lt, e.1)) in
      ap (λ z. (if z then x else 0) + same x m ns) e.0 ∙ omega (arith, rest)
  | inr e ↦
      let behind : Contains ns m = elim (contains-cases n ns m there) [ inl is ↦ absurd (e.1 is) | inr more ↦ more ] in
      ap (λ z. (if z then x else 0) + same x m ns) e.0 ∙ omega (arith, same-once x m ns (pairs-tail (λ i j. j < i) n ns falls) behind)
]

-- ---- over a text without marks
module _ (go : ℕ → ℕ → ℕ → Option ℕ) (marks : ℕ → ℕ → List ℕ) where
  -- all those with some mark come before it
  pub plain-marked : (k : ℕ → List Marked) (s : List ℕ) (p : ℕ) (v : Marked) → number_before (runs go marks true k s p) (plain s ++ v) ≡ length (runs go marks true k s p)
  plain-marked k [] p v = refl
  plain-marked k (b ∷ s) p v = over (λ q. plain-marked k s q v) (marks p b)
    where
      piece : ℕ → List Marked
      piece m = map (λ w. (m, b) ∷ w) (at_state (runs go marks (true && m == 0) k s) (go p m b))

      tails : ((q : ℕ) → number_before (runs go marks true k s q) (plain s ++ v) ≡ length (runs go marks true k s q)) → (o : Option ℕ) → number_before (at_state (runs go marks true k s) o) (plain s ++ v) ≡ length (at_state (runs go marks true k s) o)
      tails rest None = refl
      tails rest (Some q) = rest q

      unmarked : ((q : ℕ) → number_before (runs go marks true k s q) (plain s ++ v) ≡ length (runs go marks true k s q)) → (z : Bool) (m : ℕ) → m ≡ 0 → z ≡ true → number_before (map (λ w. (m, b) ∷ w) (at_state (runs go marks z k s) (go p m b))) ((0, b) ∷ (plain s ++ v)) ≡ length (map (λ w. (m, b) ∷ w) (at_state (runs go marks z k s) (go p m b)))
      unmarked rest false m e f = cc
      unmarked rest true m e f =
          subst (λ n. number_before (map (λ w. (n, b) ∷ w) (at_state (runs go marks true k s) (go p m b))) ((0, b) ∷ (plain s ++ v)) ≡ length (map (λ w. (n, b) ∷ w) (at_state (runs go marks true k s) (go p m b)))) (sym e)
          (before-same 0 b (at_state (runs go marks true k s) (go p m b)) (plain s ++ v) ∙ tails rest (go p m b) ∙ sym (length-map (at_state (runs go marks true k s) (go p m b)) (λ w. (0, b) ∷ w)))

      each : ((q : ℕ) → number_before (runs go marks true k s q) (plain s ++ v) ≡ length (runs go marks true k s q)) → (m : ℕ) → number_before (piece m) ((0, b) ∷ (plain s ++ v)) ≡ length (piece m)
      each rest m = elim (eqb_tells m 0) [
        | inl e ↦ unmarked rest (true && m == 0) m e.1 e.0
        | inr e ↦
            let some : 0 < m = omega (arith, e.1) in
            before-greater 0 m b (at_state (runs go marks (true && m == 0) k s) (go p m b)) (plain s ++ v) some ∙ sym (length-map (at_state (runs go marks (true && m == 0) k s) (go p m b)) (λ w. (m, b) ∷ w))
      ]

      over : ((q : ℕ) → number_before (runs go marks true k s q) (plain s ++ v) ≡ length (runs go marks true k s q)) → (ms : List ℕ) → number_before (flat_map piece ms) ((0, b) ∷ (plain s ++ v)) ≡ length (flat_map piece ms)
      over rest [] = refl
      over rest (m ∷ ms) =
          before-append (piece m) (flat_map piece ms) ((0, b) ∷ (plain s ++ v)) ∙ ap (λ n. n + number_before (flat_map piece ms) ((0, b) ∷ (plain s ++ v))) (each rest m)
          ∙ ap (λ n. length (piece m) + n) (over rest ms) ∙ sym (length-append (piece m) (flat_map piece ms))

plain-first : (s : List ℕ) (w v : Marked) → is_before (plain s ++ w) (plain s ++ v) ≡ is_before w v
plain-first [] w v = refl
plain-first (b ∷ s) w v = same-first 0 b (plain s ++ w) (plain s ++ v) ∙ plain-first s w v

-- those without marks, by what follows
pub plain-same : (s : List ℕ) (ws : List Marked) (v : Marked) → number_before (map (λ w. plain s ++ w) ws) (plain s ++ v) ≡ number_before ws v
plain-same s [] v = refl
plain-same s (w ∷ ws) v =
    ap (λ z. (if z then 1 else 0) + number_before (map (λ x. plain s ++ x) ws) (plain s ++ v)) (plain-first s w v)
    ∙ ap (λ k. (if is_before w v then 1 else 0) + k) (plain-same s ws v)

-- ---- the marks at the end
pub last-before : (m : ℕ) (ns : List ℕ) → number_before (map (λ n. (n, 256) ∷ []) ns) ((m, 256) ∷ []) ≡ length (filter (λ n. nat_lt m n) ns)
last-before m [] = refl
last-before m (n ∷ ns) = by (nat_lt m n) (n == m) (number_before (map (λ k. (k, 256) ∷ []) ns) ((m, 256) ∷ [])) (last-before m ns)
  where
    by : (x y : Bool) (c : ℕ) → c ≡ length (filter (λ k. nat_lt m k) ns) → (if x || (y && false) then 1 else 0) + c ≡ length (cond x (n ∷ filter (λ k. nat_lt m k) ns) (filter (λ k. nat_lt m k) ns))
    by true y c e = omega (arith, e)
    by false true c e = omega (arith, e)
    by false false c e = omega (arith, e)

-- ---- a list in mark order is cut at v
pub record IsCut {X : Type 0} (f : X → Marked) (v : Marked) (xs : List X) : Type 0 where
  pub prefix : List X
  pub rest : List X
  pub cut : xs ≡ prefix ++ rest
  pub number : number_before (map f xs) v ≡ length prefix
  pub before : (x : X) → Contains prefix x → Precedes (f x) v
  pub others : (x : X) → Contains rest x → Precedes (f x) v → ⊥

none-before : {X : Type 0} (f : X → Marked) (v : Marked) (xs : List X) → ((x : X) → Contains xs x → is_before (f x) v ≡ false) → number_before (map f xs) v ≡ 0
none-before f v [] none = refl
none-before f v (x ∷ xs) none =
    ap (λ z. (if z then 1 else 0) + number_before (map f xs) v) (none x (contains-here x xs)) ∙ omega (arith, none-before f v xs (λ y c. none y (contains-there x xs y c)))

pub cut-before : {X : Type 0} (f : X → Marked) (v : Marked) (xs : List X) → AllPairs Precedes (map f xs) → IsCut f v xs
cut-before f v [] rises = record { prefix = []; rest = []; cut = refl; number = refl; before = λ x c. absurd (contains-none x c); others = λ x c h. contains-none x c }
cut-before f v (x ∷ xs) rises = elim (bool-cases (is_before (f x) v)) [
  | inl first ↦
      let r = cut-before f v xs (pairs-tail Precedes (f x) (map f xs) rises) in
      record {
        prefix = x ∷ r.prefix;
        rest = r.rest;
        cut = ap (λ ys. x ∷ ys) r.cut;
        number = ap (λ z. (if z then 1 else 0) + number_before (map f xs) v) first ∙ omega (arith, r.number);
        before = λ y c. elim (contains-cases x r.prefix y c) [
          | inl same ↦ subst (λ z. Precedes (f z) v) same (precedes-is (f x) v first)
          | inr more ↦ r.before y more
        ];
        others = r.others;
      }
  | inr none ↦
      let later : (y : _) → Contains (x ∷ xs) y → Precedes (f y) v → ⊥ = λ y c h. elim (contains-cases x xs y c) [
        | inl same ↦ opposite (is_before (f x) v) (is-precedes (f x) v (subst (λ z. Precedes (f z) v) (sym same) h)) none
        | inr more ↦
            opposite (is_before (f x) v)
            (is-precedes (f x) v (precedes-on (f x) (f y) v (pairs-head Precedes (f x) (map f xs) (f y) rises (map-contains f xs y more)) h)) none
      ] in
      record {
        prefix = [];
        rest = x ∷ xs;
        cut = refl;
        number = none-before f v (x ∷ xs) (λ y c. elim (bool-cases (is_before (f y) v)) [ inl is ↦ absurd (later y c (precedes-is (f y) v is)) | inr isnt ↦ isnt ]);
        before = λ y c. absurd (contains-none y c);
        others = later;
      }
]
  where
    opposite : (z : Bool) → z ≡ true → z ≡ false → ⊥
    opposite true a b = cc
    opposite false a b = cc
