-- Laws of marked texts, and of paths along them by any steps.
use Rattle.std.proofs.Common.{◌≡◌, ℕ, ◌+◌, ◌<◌, ◌==◌, Bool, true, false, ◌||◌, not, refl, ap, sym, ◌∙◌, arith, List, [], ◌∷◌, ◌++◌, ◌⊎◌, length, Option, Some, None, inl, inr, zero-add}
use Rattle.std.specs.Prelude.{if◌then◌else◌}
use Rattle.std.proofs.lemmas.Bool.{ne_eqb}
use Rattle.std.proofs.lemmas.List.{length-map, map-append}
use Rattle.span_types.specs.Words.{Marked, Precedes, mark_count}
use Rattle.formula_law.specs.Law.{bytes_of}
use Rattle.marker_dfa.specs.Deterministic.{path, and_then}
use Rattle.state_tables.specs.Meaning.{plain, has_mark}
use Rattle.state_tables.proofs.Meanings.{path-append, split-marked}
use Rattle.state_tables.proofs.Shapes.{then-between}

-- ---- options
-- the value of f at the value, if any
abbrev pub onto : (ℕ → Option ℕ) → Option ℕ → Option ℕ
onto f o = and_then o f

pub then-some : (o : Option ℕ) → onto (λ q. Some q) o ≡ o
then-some None = refl
then-some (Some q) = refl

pub same-state : (x y : ℕ) (o : Option ℕ) → o ≡ Some x → o ≡ Some y → x ≡ y
same-state x y o h k = cc

pub no-state : (x : ℕ) (o : Option ℕ) → o ≡ None → o ≡ Some x → ⊥
no-state x o h k = cc

-- ---- marked texts
pub bytes-append : (w v : Marked) → bytes_of (w ++ v) ≡ bytes_of w ++ bytes_of v
bytes-append w v = map-append (λ x. x.1) w v

pub length-bytes : (w : Marked) → length (bytes_of w) ≡ length w
length-bytes w = length-map w (λ x. x.1)

pub length-plain : (s : List ℕ) → length (plain s) ≡ length s
length-plain s = length-map s (λ b. (0, b))

pub plain-append : (s u : List ℕ) → plain (s ++ u) ≡ plain s ++ plain u
plain-append s u = map-append (λ b. (0, b)) s u

pub bytes-none : (w : Marked) → bytes_of w ≡ [] → w ≡ []
bytes-none [] e = refl
bytes-none (x ∷ w) e = cc

-- ---- how many marks
pub mark_count-append : (w v : Marked) → mark_count (w ++ v) ≡ mark_count w + mark_count v
mark_count-append [] v = sym (zero-add (mark_count v))
mark_count-append (x ∷ w) v = omega (arith, mark_count-append w v)

pub count-plain : (s : List ℕ) → mark_count (plain s) ≡ 0
count-plain [] = refl
count-plain (b ∷ s) = omega (arith, count-plain s)

pub count-more : (m b : ℕ) (w : Marked) → 0 < m → mark_count ((m, b) ∷ w) ≡ 1 + mark_count w
count-more m b w some = ap (λ z. (if z then 0 else 1) + mark_count w) (ne_eqb m 0 (λ e. omega (arith, e, some)))

pub has-count : (w : Marked) → has_mark w ≡ true → 0 < mark_count w
has-count [] h = cc
has-count (x ∷ w) h = by (x.0 == 0) h (has-count w)
  where
    by : (z : Bool) → (not z || has_mark w) ≡ true → (has_mark w ≡ true → 0 < mark_count w) → 0 < (if z then 0 else 1) + mark_count w
    by true h f = let k : 0 < mark_count w = f h in omega arith
    by false h f = omega arith

-- ---- order
pub precedes-append : (w v x y : Marked) → Precedes w v → Precedes (w ++ x) (v ++ y)
precedes-append [] v x y h = absurd h
precedes-append (m ∷ w) [] x y h = absurd h
precedes-append (m ∷ w) (n ∷ v) x y (inl lt) = inl lt
precedes-append (m ∷ w) (n ∷ v) x y (inr e) = inr (e.0, precedes-append w v x y e.1)

pub precedes-prefix : (w x y : Marked) → Precedes x y → Precedes (w ++ x) (w ++ y)
precedes-prefix [] x y h = h
precedes-prefix (m ∷ w) x y h = inr (refl, precedes-prefix w x y h)

-- two joined texts: the first parts decide, or they are equal
pub precedes-split : (w1 v1 w2 v2 : Marked) → bytes_of w1 ≡ bytes_of v1 → Precedes (w1 ++ w2) (v1 ++ v2) → Precedes w1 v1 ⊎ ((w1 ≡ v1) × Precedes w2 v2)
precedes-split [] [] w2 v2 e h = inr (refl, h)
precedes-split [] (y ∷ v1) w2 v2 e h = cc
precedes-split (x ∷ w1) [] w2 v2 e h = cc
precedes-split (x ∷ w1) (y ∷ v1) w2 v2 e (inl lt) = inl (inl lt)
precedes-split (x ∷ w1) (y ∷ v1) w2 v2 e (inr k) =
    let bytes : bytes_of w1 ≡ bytes_of v1 = cc in
    let byte : x.1 ≡ y.1 = cc in
    let pair : x ≡ y = ap (λ n. (n, x.1)) k.0 ∙ ap (λ c. (y.0, c)) byte in
    elim (precedes-split w1 v1 w2 v2 bytes k.1) [ inl before ↦ inl (inr (k.0, before)) | inr rest ↦ inr (rw (pair, rest.0) refl, rest.1) ]

-- ---- paths
module _ (go : ℕ → ℕ → ℕ → Option ℕ) where
  -- over a second word it continues from where the first one leads
  pub path-on : (p q : ℕ) (w v : Marked) → path go w p ≡ Some q → path go (w ++ v) p ≡ path go v q
  path-on p q w v e = path-append go p w v ∙ ap (onto (path go v)) e

  pub path-dead : (p : ℕ) (w v : Marked) → path go w p ≡ None → path go (w ++ v) p ≡ None
  path-dead p w v e = path-append go p w v ∙ ap (onto (path go v)) e

  -- over texts without marks
  pub plain-on : (p q : ℕ) (s u : List ℕ) → path go (plain s) p ≡ Some q → path go (plain (s ++ u)) p ≡ path go (plain u) q
  plain-on p q s u e = ap (λ w. path go w p) (plain-append s u) ∙ path-on p q (plain s) (plain u) e

  pub plain-dead : (p : ℕ) (s u : List ℕ) → path go (plain s) p ≡ None → path go (plain (s ++ u)) p ≡ None
  plain-dead p s u e = ap (λ w. path go w p) (plain-append s u) ∙ path-dead p (plain s) (plain u) e

  -- over a single letter
  pub path-one : (p m b : ℕ) → path go ((m, b) ∷ []) p ≡ go p m b
  path-one p m b = then-some (go p m b)

  pub record OneLetter (p b : ℕ) (w : Marked) (q : ℕ) : Type 0 where
    pub mark : ℕ
    pub word : w ≡ (mark, b) ∷ []
    pub step : go p mark b ≡ Some q

  pub one-letter : (p b q : ℕ) (w : Marked) → bytes_of w ≡ b ∷ [] → path go w p ≡ Some q → OneLetter p b w q
  one-letter p b q [] e t = cc
  one-letter p b q (x ∷ []) e t =
      let same : x.1 ≡ b = cc in
      record { mark = x.0; word = ap (λ c. (x.0, c) ∷ []) same; step = ap (go p x.0) (sym same) ∙ sym (path-one p x.0 x.1) ∙ t }
  one-letter p b q (x ∷ y ∷ w) e t = cc

  -- over two texts it is cut between them
  pub record Parts (p : ℕ) (s u : List ℕ) (v : Marked) (r : ℕ) : Type 0 where
    pub left : Marked
    pub right : Marked
    pub middle : ℕ
    pub joined : v ≡ left ++ right
    pub left_bytes : bytes_of left ≡ s
    pub right_bytes : bytes_of right ≡ u
    pub left_ends : path go left p ≡ Some middle
    pub right_ends : path go right middle ≡ Some r

  pub path-parts : (p : ℕ) (s u : List ℕ) (v : Marked) (r : ℕ) → bytes_of v ≡ s ++ u → path go v p ≡ Some r → Parts p s u v r
  path-parts p s u v r e t =
      let cut = split-marked s u v e in
      let mid = then-between (path go cut.1.0) (path go cut.0 p) r (sym (path-append go p cut.0 cut.1.0) ∙ ap (λ w. path go w p) (sym cut.1.1.0) ∙ t) in
      record { left = cut.0; right = cut.1.0; middle = mid.0; joined = cut.1.1.0; left_bytes = cut.1.1.1; right_bytes = cut.1.1.2; left_ends = mid.1; right_ends = mid.2 }
