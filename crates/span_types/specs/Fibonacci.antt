-- Fibonacci numbers, and the greatest height of a balanced tree.
use Rattle.std.specs.Prelude.{◌≡◌, ℕ, zero, suc, ◌+◌, ◌*◌, ◌≤◌, leb, ◌⊎◌, if◌then◌else◌}

-- the numbers F(n) and F(n+1), where F(0) = 0 and F(1) = F(2) = 1
abbrev pub fibonacci_pair : ℕ → ℕ × ℕ
fibonacci_pair zero = (0, 1)
fibonacci_pair (suc n) = let p = fibonacci_pair n in (p.1, p.0 + p.1)

-- F(n): the n-th Fibonacci number
unfoldable pub fibonacci : ℕ → ℕ
fibonacci n = (fibonacci_pair n).0

-- h is the greatest with F(h+2) ≤ n, and 0 if there is none
pub record IsHeightLimit (n h : ℕ) : Type 0 where
  pub fits : (h ≡ 0) ⊎ (fibonacci (h + 2) ≤ n)
  pub greatest : (k : ℕ) → fibonacci (k + 2) ≤ n → k ≤ h

-- the greatest h up to a bound with F(h+2) ≤ n, and 0 if there is none
abbrev pub greatest_up_to : ℕ → ℕ → ℕ
greatest_up_to n zero = 0
greatest_up_to n (suc h) = if leb (fibonacci (h + 3)) n then suc h else greatest_up_to n h

-- H(n): the greatest height of a balanced tree over n bytes
unfoldable pub height_limit : ℕ → ℕ
height_limit n = greatest_up_to n n

-- B(k, n): the bound on table lookups for one answer of k variables on a text of n bytes
abbrev pub looks_limit : ℕ → ℕ → ℕ
looks_limit k n = 4 * (2 * k + 1) * (height_limit n + 3)
