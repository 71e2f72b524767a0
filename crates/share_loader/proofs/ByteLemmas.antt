-- The bytes of numbers.
use Rattle.std.proofs.Common.{◌≡◌, ℕ, zero, suc, ◌*◌, ◌%◌, ◌<◌, ◌≤◌, ◌^◌, List, [], ◌∷◌, take, refl, ap, ◌∙◌, arith}
use Rattle.std.specs.Int.{w64, to_le_bytes}

pub take-take : (n m : ℕ) (xs : List ℕ) → n ≤ m → take n (take m xs) ≡ take n xs
take-take zero m xs h = refl
take-take (suc n) zero xs h = absurd (omega (arith, h))
take-take (suc n) (suc m) [] h = refl
take-take (suc n) (suc m) (x ∷ xs) h = ap (λ ys. x ∷ ys) (take-take n m xs (omega (arith, h)))

cons : {a b : ℕ} {xs ys : List ℕ} → a ≡ b → xs ≡ ys → (a ∷ xs) ≡ (b ∷ ys)
cons {a} {b} {xs} {ys} e f = ap (λ c. c ∷ xs) e ∙ ap (λ zs. b ∷ zs) f

-- the remainder by 256^n has the same n low bytes
pub low-bytes : (n x : ℕ) → n < 8 → take n (to_le_bytes w64 (x % (1 * 2 ^ (8 * n) % 18446744073709551616))) ≡ take n (to_le_bytes w64 x)
low-bytes zero x h = refl
low-bytes (suc zero) x h = cons (omega arith) refl
low-bytes (suc (suc zero)) x h = cons (omega arith) (cons (omega arith) refl)
low-bytes (suc (suc (suc zero))) x h = cons (omega arith) (cons (omega arith) (cons (omega arith) refl))
low-bytes (suc (suc (suc (suc zero)))) x h = cons (omega arith) (cons (omega arith) (cons (omega arith) (cons (omega arith) refl)))
low-bytes (suc (suc (suc (suc (suc zero))))) x h = cons (omega arith) (cons (omega arith) (cons (omega arith) (cons (omega arith) (cons (omega arith) refl))))
low-bytes (suc (suc (suc (suc (suc (suc zero)))))) x h = cons (omega arith) (cons (omega arith) (cons (omega arith) (cons (omega arith) (cons (omega arith) (cons (omega arith) refl)))))
low-bytes (suc (suc (suc (suc (suc (suc (suc zero))))))) x h = cons (omega arith) (cons (omega arith) (cons (omega arith) (cons (omega arith) (cons (omega arith) (cons (omega arith) (cons (omega arith) refl))))))
low-bytes (suc (suc (suc (suc (suc (suc (suc (suc n)))))))) x h = absurd (omega (arith, h))
