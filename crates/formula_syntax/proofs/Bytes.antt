-- Sets of bytes as lists of truth values.
use Rattle.std.proofs.Common.{◌≡◌, ℕ, zero, suc, ◌+◌, ◌<◌, ◌≤◌, Bool, true, false, List, [], ◌∷◌, ◌++◌, map, refl, sym, ap, ◌∙◌, arith, replicate, set}
use Rattle.std.proofs.lemmas.Bool.Decides.{nat_tests}
use Rattle.std.specs.Prelude.{◌==◌, ◌||◌, ◌&&◌, not, nat_le, nat_lt}
use Rattle.formula_syntax.specs.Lexis.{tests_from, bytes_where, in_ranges}

pub same_tests : (s n : ℕ) (p q : ℕ → Bool) → ((c : ℕ) → s ≤ c → c < s + n → p c ≡ q c) → tests_from s n p ≡ tests_from s n q
same_tests s zero p q h = refl
same_tests s (suc n) p q h = rw (h s (omega arith) (omega arith), same_tests (suc s) n p q (λ c a b. h c (omega arith) (omega arith))) refl

pub no_bytes : (s n : ℕ) → replicate n false ≡ tests_from s n (λ c. false)
no_bytes s zero = refl
no_bytes s (suc n) = ap (λ z. false ∷ z) (no_bytes (suc s) n)

pub not_tests : (s n : ℕ) (p : ℕ → Bool) → map not (tests_from s n p) ≡ tests_from s n (λ c. not (p c))
not_tests s zero p = refl
not_tests s (suc n) p = ap (λ z. not (p s) ∷ z) (not_tests (suc s) n p)

or_false : (a b : Bool) → b ≡ false → a ≡ a || b
or_false true b h = refl
or_false false b h = sym h

or_true : (a b : Bool) → b ≡ true → true ≡ a || b
or_true true b h = refl
or_true false b h = sym h

apart : (c b : ℕ) → b < c → (c == b) ≡ false
apart c b h = grind (arith, nat_tests)

same : (c b : ℕ) → c ≡ b → (c == b) ≡ true
same c b h = grind (arith, nat_tests)

pub set_tests : (s n i b : ℕ) (p : ℕ → Bool) → i < n → b ≡ s + i → set (tests_from s n p) i true ≡ tests_from s n (λ c. p c || (c == b))
set_tests s zero i b p lt e = absurd (omega arith)
set_tests s (suc n) zero b p lt e =
    rw (← or_true (p s) (s == b) (same s b (omega arith)), ← same_tests (suc s) n p (λ c. p c || (c == b)) (λ c u v. or_false (p c) (c == b) (apart c b (omega arith)))) refl
set_tests s (suc n) (suc i) b p lt e =
    let here : (s == b) ≡ false = grind (arith, nat_tests) in
    rw (← or_false (p s) (s == b) here, ← set_tests (suc s) n i b p (omega arith) (omega arith)) refl

pub empty_set : (m : List Bool) → m ≡ replicate 256 false → m ≡ bytes_where (λ c. false)
unfolding bytes_where
empty_set m e = e ∙ no_bytes 0 256

pub inserted : (m n : List Bool) (b : ℕ) (p : ℕ → Bool) → b < 256 → m ≡ bytes_where p → n ≡ set m b true → n ≡ bytes_where (λ c. p c || (c == b))
unfolding bytes_where
inserted m n b p lt e f = f ∙ ap (λ z. set z b true) e ∙ set_tests 0 256 b b p lt (omega arith)

pub complemented : (m n : List Bool) (p : ℕ → Bool) → m ≡ bytes_where p → n ≡ map not m → n ≡ bytes_where (λ c. not (p c))
unfolding bytes_where
complemented m n p e f = f ∙ ap (map not) e ∙ not_tests 0 256 p

pub same_bytes : (m : List Bool) (p q : ℕ → Bool) → ((c : ℕ) → c < 256 → p c ≡ q c) → m ≡ bytes_where p → m ≡ bytes_where q
unfolding bytes_where
same_bytes m p q h e = e ∙ same_tests 0 256 p q (λ c a b. h c (omega arith))

-- whether a byte is in a range and below a bound
abbrev pub in_part : ℕ → ℕ → ℕ → Bool
in_part l b c = nat_le l c && nat_lt c b

or_assoc : (a b c : Bool) → (a || b) || c ≡ a || (b || c)
or_assoc true b c = refl
or_assoc false b c = refl

pub range_start : (m : List Bool) (l : ℕ) (p : ℕ → Bool) → m ≡ bytes_where p → m ≡ bytes_where (λ c. p c || in_part l l c)
range_start m l p e = same_bytes m p (λ c. p c || in_part l l c) (λ c lt. or_false (p c) (in_part l l c) (grind (arith, nat_tests))) e

-- one byte more
in_step : (l b c : ℕ) → l ≤ b → in_part l b c || (c == b) ≡ in_part l (b + 1) c
in_step l b c h = grind (arith, nat_tests)

pub range_more : (m n : List Bool) (l b : ℕ) (p : ℕ → Bool) → b < 256 → l ≤ b → m ≡ bytes_where (λ c. p c || in_part l b c) → n ≡ set m b true → n ≡ bytes_where (λ c. p c || in_part l (b + 1) c)
range_more m n l b p lt le e f =
    same_bytes n _ (λ c. p c || in_part l (b + 1) c) (λ c w. or_assoc (p c) (in_part l b c) (c == b) ∙ ap (λ z. p c || z) (in_step l b c le)) (inserted m n b (λ c. p c || in_part l b c) lt e f)

or_no : (a : Bool) → a || false ≡ a
or_no true = refl
or_no false = refl

any-append : (rs : List (ℕ × ℕ)) (l h c : ℕ) → in_ranges (rs ++ (l, h) ∷ []) c ≡ in_ranges rs c || (nat_le l c && nat_le c h)
any-append [] l h c = or_no (nat_le l c && nat_le c h)
any-append (r ∷ rs) l h c = ap (λ z. (nat_le r.0 c && nat_le c r.1) || z) (any-append rs l h c) ∙ sym (or_assoc (nat_le r.0 c && nat_le c r.1) (in_ranges rs c) (nat_le l c && nat_le c h))

pub range_all : (m : List Bool) (l h b : ℕ) (rs : List (ℕ × ℕ)) → b ≡ h + 1 → m ≡ bytes_where (λ c. in_ranges rs c || in_part l b c) → m ≡ bytes_where (in_ranges (rs ++ (l, h) ∷ []))
range_all m l h b rs q e = same_bytes m _ (in_ranges (rs ++ (l, h) ∷ [])) (λ c lt. ap (λ z. in_ranges rs c || z) (whole c) ∙ sym (any-append rs l h c)) e
  where
    whole : (c : ℕ) → in_part l b c ≡ nat_le l c && nat_le c h
    whole c = grind (arith, nat_tests)
