-- Lists of rows and of sets.
use Rattle.std.proofs.Common.{zero, suc, ◌≡◌, ℕ, ◌+◌, ◌-◌, ◌*◌, ◌<◌, ◌≤◌, Bool, true, false, nat_eq, refl, ap, sym, ◌∙◌, arith, List, [], ◌∷◌, ◌++◌, length, take, drop, get_or, ext_get_or, Option, Some, None, mul-le-mul_right, suc-mul, zero-mul}
use Rattle.std.proofs.lemmas.Bool.{eq-eqb}
use Rattle.std.proofs.lemmas.List.{drop-append-le, drop-drop, length-drop, take-append-le, take_all}
use Rattle.std.specs.Option.{SomeIff}
use Rattle.state_tables.specs.StateSet.{number_of_words}
use Rattle.state_tables.specs.Table.{Row}
use Rattle.state_tables.specs.Coded.{SetList, code_of, sets_of, step_of}
use Rattle.state_tables.specs.Digest.{digest_of}
use Rattle.state_tables.specs.Same.{table_eq, table_same}

-- one less than the code, where it isn't 0
pub step-checked : (u : ℕ) (r : Option ℕ) → SomeIff r (1 ≤ u) (u - 1) → r ≡ step_of u
step-checked zero None h = refl
step-checked zero (Some q) h = absurd (omega (arith, h.0))
step-checked (suc u) None h = absurd (h (omega arith))
step-checked (suc u) (Some q) h = ap Some (omega (arith, h.1))

pub step_of-code_of : (o : Option ℕ) → step_of (code_of o) ≡ o
step_of-code_of None = refl
step_of-code_of (Some q) = refl

pub code_of-step_of : (u : ℕ) → code_of (step_of u) ≡ u
code_of-step_of zero = refl
code_of-step_of (suc q) = refl

-- two lists of sets are the same
pub set-lists-same : (a b : SetList) → a.width ≡ b.width → length a.sets ≡ length b.sets → ((k : ℕ) → k < length a.sets → get_or a.sets k 0 ≡ get_or b.sets k 0) → a ≡ b
set-lists-same a b wide long each =
    let make : ℕ → List ℕ → SetList = λ w sets. record { width = w; sets = sets } in
    ap (λ w. make w a.sets) wide ∙ ap (make b.width) (ext_get_or 0 a.sets b.sets long each)

-- ---- the sets of the list
pub sets-length : (w n : ℕ) (ws : List ℕ) → length (sets_of w n ws) ≡ n
sets-length w zero ws = refl
sets-length w (suc n) ws = ap suc (sets-length w n (drop w ws))

pub sets-at : (w n : ℕ) (ws : List ℕ) (k : ℕ) → k < n → get_or (sets_of w n ws) k 0 ≡ number_of_words (take w (drop (k * w) ws))
sets-at w zero ws k lt = absurd (omega (arith, lt))
sets-at w (suc n) ws zero lt = ap (λ m. number_of_words (take w (drop m ws))) (sym (zero-mul w))
sets-at w (suc n) ws (suc k) lt =
    let sum : w + k * w ≡ suc k * w = omega (arith, suc-mul k w) in
    sets-at w n (drop w ws) k (omega (arith, lt)) ∙ ap (λ x. number_of_words (take w x)) (drop-drop (k * w) w ws ∙ ap (λ m. drop m ws) sum)

-- each set has its words
pub sets-low : (w n : ℕ) (ws : List ℕ) (list : SetList) (k : ℕ) → record { width = w; sets = sets_of w n ws } ≡ list → k < length list.sets → k < n
sets-low w n ws list k e lt = omega (arith, lt, sets-length w n ws, ap (λ s. length s.sets) e)

-- the words of a set are within
pub words-within : (k n w m : ℕ) → k < n → m ≡ n * w → k * w + w ≤ m
words-within k n w m lt e =
    let most : suc k * w ≤ n * w = mul-le-mul_right w (omega (arith, lt)) in
    omega (arith, most, suc-mul k w, e)

pub sets-push : (w n : ℕ) (ws xs : List ℕ) → length ws ≡ n * w → length xs ≡ w → sets_of w (suc n) (ws ++ xs) ≡ sets_of w n ws ++ number_of_words xs ∷ []
sets-push w zero [] xs long wide = ap (λ x. number_of_words x ∷ []) (take_all w xs (omega (arith, wide)))
sets-push w zero (x ∷ ws) xs long wide = absurd (omega (arith, long, zero-mul w))
sets-push w (suc n) ws xs long wide =
    let sum : length ws ≡ n * w + w = long ∙ suc-mul n w in
    let some : w ≤ length ws = omega (arith, sum) in
    let rest : length (drop w ws) ≡ n * w = omega (arith, length-drop w ws, sum) in
    ap (λ x. number_of_words x ∷ sets_of w (suc n) (drop w (ws ++ xs))) (take-append-le w ws xs some)
    ∙ ap (λ x. number_of_words (take w ws) ∷ sets_of w (suc n) x) (drop-append-le w ws xs some)
    ∙ ap (λ t. number_of_words (take w ws) ∷ t) (sets-push w n (drop w ws) xs rest wide)

-- ---- digests
-- tables whose digests differ are different
apart-by : (xs ys : List Row) (b : Bool) → table_eq xs ys ≡ b → nat_eq (digest_of xs) (digest_of ys) ≡ false → b ≡ false
apart-by xs ys true same apart = sym (eq-eqb (digest_of xs) (digest_of ys) (ap digest_of (table_same xs ys same))) ∙ apart
apart-by xs ys false same apart = refl

pub digests-apart : (xs ys : List Row) → nat_eq (digest_of xs) (digest_of ys) ≡ false → table_eq xs ys ≡ false
digests-apart xs ys apart = apart-by xs ys (table_eq xs ys) refl apart
