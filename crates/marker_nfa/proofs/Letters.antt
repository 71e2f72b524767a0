-- The byte set of an occurrence, by its index in the list of byte sets.
use Rattle.std.proofs.Common.{◌≡◌, ℕ, zero, suc, ◌+◌, ◌-◌, ◌<◌, ◌≤◌, ◌⊎◌, inl, inr, refl, sym, ap, subst, ◌∙◌, arith, Bool, List, [], ◌∷◌, ◌++◌, length, slice_index_or}
use Rattle.span_types.specs.FormulaTree.{FormulaTree, Set, Empty, Cat, Alt, Star, Plus, Opt, Capture, sets}
use Rattle.formula_law.specs.Positions.{HasSet}
use Rattle.formula_law.proofs.Ranges.{InRange, set_range}
use Rattle.marker_nfa.specs.Parts.{letters_in}
use Rattle.marker_nfa.proofs.Making.{letters_length}

get_left : {X : Type 0} (xs ys : List X) (k : ℕ) (d : X) → k < length xs → slice_index_or (xs ++ ys) k d ≡ slice_index_or xs k d
get_left [] ys k d lt = absurd (omega (arith, lt))
get_left (x ∷ xs) ys zero d lt = refl
get_left (x ∷ xs) ys (suc k) d lt = get_left xs ys k d (omega (arith, lt))

get_right : {X : Type 0} (xs ys : List X) (k : ℕ) (d : X) → slice_index_or (xs ++ ys) (length xs + k) d ≡ slice_index_or ys k d
get_right [] ys k d = let e : 0 + k ≡ k = omega arith in ap (λ n. slice_index_or ys n d) e
get_right (x ∷ xs) ys k d = let e : suc (length xs) + k ≡ suc (length xs + k) = omega arith in ap (λ n. slice_index_or (x ∷ (xs ++ ys)) n d) e ∙ get_right xs ys k d

-- in a list of two pieces, an occurrence of the first piece
in_prefix : (xs ys : List (List Bool)) (n o : ℕ) → n ≤ o → o < n + length xs → slice_index_or (xs ++ ys) (o - n) [] ≡ slice_index_or xs (o - n) []
in_prefix xs ys n o low high = get_left xs ys (o - n) [] (omega (arith, low, high))

-- and one of the second
in_back : (xs ys : List (List Bool)) (n m o : ℕ) → m ≡ n + length xs → m ≤ o → slice_index_or (xs ++ ys) (o - n) [] ≡ slice_index_or ys (o - m) []
in_back xs ys n m o e low =
    let k : o - n ≡ length xs + (o - m) = omega (arith, e, low) in
    ap (λ j. slice_index_or (xs ++ ys) j []) k ∙ get_right xs ys (o - m) []

-- an occurrence in the left of two parts has the byte set at its index there
set_left : (a b : FormulaTree) (n o : ℕ) (c : List Bool) → HasSet a n o c → c ≡ slice_index_or (letters_in a) (o - n) [] → c ≡ slice_index_or (letters_in a ++ letters_in b) (o - n) []
set_left a b n o c h e =
    let r = set_range a n o c h in
    let l = letters_length a in
    e ∙ sym (in_prefix (letters_in a) (letters_in b) n o r.low (omega (arith, r.high, l)))

-- and one in the right part
set_right : (a b : FormulaTree) (n o : ℕ) (c : List Bool) → HasSet b (n + sets a) o c → c ≡ slice_index_or (letters_in b) (o - (n + sets a)) [] → c ≡ slice_index_or (letters_in a ++ letters_in b) (o - n) []
set_right a b n o c h e =
    let l = letters_length a in
    e ∙ sym (in_back (letters_in a) (letters_in b) n (n + sets a) o (omega (arith, l)) (set_range b (n + sets a) o c h).low)

-- an occurrence has the byte set at its index
pub set_is : (f : FormulaTree) (n o : ℕ) (c : List Bool) → HasSet f n o c → c ≡ slice_index_or (letters_in f) (o - n) []
set_is (Set b) n o c h =
    let k : o - n ≡ 0 = omega (arith, h.0) in
    h.1 ∙ sym (ap (λ j. slice_index_or (b ∷ []) j []) k)
set_is Empty n o c h = absurd h
set_is (Cat a b) n o c (inl h) = set_left a b n o c h (set_is a n o c h)
set_is (Cat a b) n o c (inr h) = set_right a b n o c h (set_is b (n + sets a) o c h)
set_is (Alt a b) n o c (inl h) = set_left a b n o c h (set_is a n o c h)
set_is (Alt a b) n o c (inr h) = set_right a b n o c h (set_is b (n + sets a) o c h)
set_is (Star a) n o c h = set_is a n o c h
set_is (Plus a) n o c h = set_is a n o c h
set_is (Opt a) n o c h = set_is a n o c h
set_is (Capture x a) n o c h = set_is a n o c h

side : {R : Type 0} (n a b o : ℕ) → InRange n (a + b) o → (InRange n a o → R) → (InRange (n + a) b o → R) → R
side {R} n a b o r f g = go (cases n a o)
  where
    cases : (n a o : ℕ) → (o < n + a) ⊎ (n + a ≤ o)
    cases n a o = grind arith

    go : (o < n + a) ⊎ (n + a ≤ o) → R
    go (inl l) = f (record { low = r.low; high = l })
    go (inr l) = g (record { low = l; high = omega (arith, r.high) })

-- each occurrence has a byte set
pub some_set : (f : FormulaTree) (n o : ℕ) → InRange n (sets f) o → (c : List Bool) × HasSet f n o c
some_set (Set b) n o r = (b, (omega (arith, r.low, r.high), refl))
some_set Empty n o r = absurd (omega (arith, r.low, r.high))
some_set (Cat a b) n o r = side n (sets a) (sets b) o r (λ q. let s = some_set a n o q in (s.0, inl s.1)) (λ q. let s = some_set b (n + sets a) o q in (s.0, inr s.1))
some_set (Alt a b) n o r = side n (sets a) (sets b) o r (λ q. let s = some_set a n o q in (s.0, inl s.1)) (λ q. let s = some_set b (n + sets a) o q in (s.0, inr s.1))
some_set (Star a) n o r = some_set a n o r
some_set (Plus a) n o r = some_set a n o r
some_set (Opt a) n o r = some_set a n o r
some_set (Capture x a) n o r = some_set a n o r

-- so the byte set at the index is that of the occurrence
pub set_at : (f : FormulaTree) (n o : ℕ) → InRange n (sets f) o → HasSet f n o (slice_index_or (letters_in f) (o - n) [])
set_at f n o r =
    let s = some_set f n o r in
    subst (λ (c : List Bool). HasSet f n o c) (set_is f n o s.0 s.1) s.1
