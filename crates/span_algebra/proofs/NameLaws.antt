-- Tuples that are read by names.
use Rattle.std.proofs.Common.{◌≡◌, ℕ, suc, ◌==◌, ◌&&◌, ◌||◌, Bool, true, false, List, [], ◌∷◌, ◌++◌, length, Option, None, if◌then◌else◌, refl, sym, ap, ◌∙◌, eq-eqb}
use Rattle.std.proofs.lemmas.Bool.{eqb-true}
use Rattle.span_types.specs.declared.tuple.Span.{Span}
use Rattle.span_types.specs.Rel.{same_name, has_name, named, lacking}
use Rattle.span_types.proofs.NameLaws.{same-is, named-none}
use Rattle.span_algebra.specs.Renaming.{both_names, tuple_for}

-- a tuple for other names gives them what it gave them
pub named-for : (to from : List (List ℕ)) (t : List (Option Span)) (n : List ℕ) → has_name to n ≡ true → named to (tuple_for to from t) n ≡ named from t n
named-for [] from t n h = let bad : ⊥ = cc in absurd bad
named-for (m ∷ to) from t n h = by (same_name m n) refl h (λ r. named-for to from t n r)
  where
    by : (b : Bool) → same_name m n ≡ b → (b || has_name to n) ≡ true → (has_name to n ≡ true → named to (tuple_for to from t) n ≡ named from t n) → (if b then named from t m else named to (tuple_for to from t) n) ≡ named from t n
    by true e h rest = ap (named from t) (same-is m n e)
    by false e h rest = rest h

-- where the others have all of its names, it gives the same
pub named-wider : (to from : List (List ℕ)) (t : List (Option Span)) → ((n : List ℕ) → has_name from n ≡ true → has_name to n ≡ true) → (n : List ℕ) → named to (tuple_for to from t) n ≡ named from t n
named-wider to from t wide n = by (has_name to n) refl
  where
    lacks : (b : Bool) → has_name from n ≡ b → has_name to n ≡ false → has_name from n ≡ false
    lacks true e f = let bad : true ≡ false = sym (wide n e) ∙ f in absurd (cc)
    lacks false e f = e

    by : (b : Bool) → has_name to n ≡ b → named to (tuple_for to from t) n ≡ named from t n
    by true e = named-for to from t n e
    by false e = named-none to (tuple_for to from t) n e ∙ sym (named-none from t n (lacks (has_name from n) refl e))

pub has-left : (va ws : List (List ℕ)) (n : List ℕ) → has_name va n ≡ true → has_name (va ++ ws) n ≡ true
has-left [] ws n h = let bad : ⊥ = cc in absurd bad
has-left (m ∷ va) ws n h = by (same_name m n) h (λ r. has-left va ws n r)
  where
    by : (b : Bool) → (b || has_name va n) ≡ true → (has_name va n ≡ true → has_name (va ++ ws) n ≡ true) → (b || has_name (va ++ ws) n) ≡ true
    by true h rest = refl
    by false h rest = rest h

pub has-right : (va ws : List (List ℕ)) (n : List ℕ) → has_name ws n ≡ true → has_name (va ++ ws) n ≡ true
has-right [] ws n h = h
has-right (m ∷ va) ws n h = by (same_name m n) (has-right va ws n h)
  where
    by : (b : Bool) → has_name (va ++ ws) n ≡ true → (b || has_name (va ++ ws) n) ≡ true
    by true h = refl
    by false h = h

-- a name is lacking, or the others have it
lacking-has : (va vb : List (List ℕ)) (n : List ℕ) → has_name vb n ≡ true → has_name va n ≡ false → has_name (lacking va vb) n ≡ true
lacking-has va [] n h f = let bad : ⊥ = cc in absurd bad
lacking-has va (m ∷ vb) n h f = by (has_name va m) refl (same_name m n) refl h (λ r. lacking-has va vb n r f)
  where
    by : (c : Bool) → has_name va m ≡ c → (b : Bool) → same_name m n ≡ b → (b || has_name vb n) ≡ true → (has_name vb n ≡ true → has_name (lacking va vb) n ≡ true) → has_name (if c then lacking va vb else m ∷ lacking va vb) n ≡ true
    by true e true g h rest = let bad : true ≡ false = sym e ∙ ap (has_name va) (same-is m n g) ∙ f in absurd (cc)
    by true e false g h rest = rest h
    by false e true g h rest = ap (λ b. b || has_name (lacking va vb) n) g
    by false e false g h rest = ap (λ b. b || has_name (lacking va vb) n) g ∙ rest h

pub left-names : (va vb : List (List ℕ)) (n : List ℕ) → has_name va n ≡ true → has_name (both_names va vb) n ≡ true
left-names va vb n h = has-left va (lacking va vb) n h

pub right-names : (va vb : List (List ℕ)) (n : List ℕ) → has_name vb n ≡ true → has_name (both_names va vb) n ≡ true
right-names va vb n h = by (has_name va n) refl
  where
    by : (b : Bool) → has_name va n ≡ b → has_name (both_names va vb) n ≡ true
    by true e = left-names va vb n e
    by false e = has-right va (lacking va vb) n (lacking-has va vb n h e)

pub length-for : (to from : List (List ℕ)) (t : List (Option Span)) → length (tuple_for to from t) ≡ length to
length-for [] from t = refl
length-for (n ∷ to) from t = ap suc (length-for to from t)
