-- Walks over the occurrences of a formula, from one position of a text to another.
use Rattle.std.proofs.Common.{◌≡◌, ℕ, suc, ◌<◌, ◌≤◌, sym, subst, arith}

-- from the occurrence o, which has read position p, to c, which has read q
pub data Walk (Next : ℕ → ℕ → ℕ → Type 0) (Rd : ℕ → ℕ → Type 0) (marks : ℕ → ℕ) : ℕ → ℕ → ℕ → ℕ → Type 0 where
  stop : (p o q c : ℕ) → p ≡ q → o ≡ c → Walk Next Rd marks p o q c
  step : (p o r d q c : ℕ) → r ≡ suc p → Next o (marks r) d → Rd r d → Walk Next Rd marks r d q c → Walk Next Rd marks p o q c

pub walk_le : {Next : ℕ → ℕ → ℕ → Type 0} {Rd : ℕ → ℕ → Type 0} {marks : ℕ → ℕ} (p o q c : ℕ) → Walk Next Rd marks p o q c → p ≤ q
walk_le p o q c (stop _ _ _ _ e _) = omega arith
walk_le p o q c (step _ _ r d _ _ e n h w) = let le = walk_le r d q c w in omega (arith, e, le)

-- the same walk with other marks, equal on its way
pub walk_marks : {Next : ℕ → ℕ → ℕ → Type 0} {Rd : ℕ → ℕ → Type 0} {marks : ℕ → ℕ} (other : ℕ → ℕ) (p o q c : ℕ) → ((r : ℕ) → p < r → r ≤ q → marks r ≡ other r) → Walk Next Rd marks p o q c → Walk Next Rd other p o q c
walk_marks other p o q c same (stop _ _ _ _ e g) = stop p o q c e g
walk_marks {Next} other p o q c same (step _ _ r d _ _ e n h w) =
    let le = walk_le r d q c w in
    let near : p < r = omega arith in
    let N : ℕ → Type 0 = λ m. Next o m d in
    step p o r d q c e (subst N (same r near le) n) h (walk_marks other r d q c (λ x lt up. same x (omega arith) up) w)

-- the same walk where more may follow and be read
pub walk_more : {Next More : ℕ → ℕ → ℕ → Type 0} {Rd Rds : ℕ → ℕ → Type 0} {marks : ℕ → ℕ} (p o q c : ℕ) → ((o m d : ℕ) → Next o m d → More o m d) → ((r d : ℕ) → Rd r d → Rds r d) → Walk Next Rd marks p o q c → Walk More Rds marks p o q c
walk_more p o q c f g (stop _ _ _ _ e h) = stop p o q c e h
walk_more {marks} p o q c f g (step _ _ r d _ _ e n h w) =
    step p o r d q c e (f o (marks r) d n) (g r d h) (walk_more r d q c f g w)

-- one walk after another, with a step between them
pub walk_join : {Next : ℕ → ℕ → ℕ → Type 0} {Rd : ℕ → ℕ → Type 0} {marks : ℕ → ℕ} (p o q c r d q' c' : ℕ) → Walk Next Rd marks p o q c → r ≡ suc q → Next c (marks r) d → Rd r d → Walk Next Rd marks r d q' c' → Walk Next Rd marks p o q' c'
walk_join {Next} {marks} p o q c r d q' c' (stop _ _ _ _ e g) e' n h w =
    let N : ℕ → Type 0 = λ x. Next x (marks r) d in
    step p o r d q' c' (omega arith) (subst N (sym g) n) h w
walk_join p o q c r d q' c' (step _ _ r1 d1 _ _ e n1 h1 w1) e' n h w =
    step p o r1 d1 q' c' e n1 h1 (walk_join r1 d1 q c r d q' c' w1 e' n h w)
