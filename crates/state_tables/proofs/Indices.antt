-- The first numbers, and then others.
use Rattle.std.proofs.Common.{zero, suc, ◌≡◌, ℕ, ◌+◌, ◌<◌, ap, sym, ◌∙◌, arith, List, [], ◌∷◌, ◌++◌, length, get_or}
use Rattle.std.proofs.lemmas.List.{append-nil, get_or_append_left, length-append}
use Rattle.std.proofs.lemmas.List.FromFn.{get_or-range_with_len, length-range_with_len}
use Rattle.std.specs.List.{range_with_len}

-- one number more
pub range-more : (a n : ℕ) (rest : List ℕ) → range_with_len a (n + 1) ++ rest ≡ range_with_len a n ++ (a + n) ∷ rest
range-more a zero rest =
    let here : a ≡ a + 0 = omega arith in
    ap (λ x. x ∷ rest) here
range-more a (suc n) rest =
    let more : suc n + 1 ≡ suc (n + 1) = omega arith in
    let here : a + 1 + n ≡ a + suc n = omega arith in
    ap (λ m. range_with_len a m ++ rest) more ∙ ap (λ l. a ∷ l) (range-more (a + 1) n rest ∙ ap (λ x. range_with_len (a + 1) n ++ x ∷ rest) here)

-- with no others each number is at its own index
pub range-kept : (n : ℕ) (others : List ℕ) (k : ℕ) → length others ≡ 0 → k < length (range_with_len 0 n ++ others) → get_or (range_with_len 0 n ++ others) k 0 ≡ k
range-kept n others k none lt =
    let low : k < n = omega (arith, none, lt, length-append (range_with_len 0 n) others, length-range_with_len 0 n) in
    get_or_append_left (range_with_len 0 n) others 0 k (omega (arith, low, length-range_with_len 0 n)) ∙ get_or-range_with_len 0 n k 0 low ∙ omega arith

-- one of the first numbers more
pub range-push : (n : ℕ) → range_with_len 0 n ++ n ∷ [] ≡ range_with_len 0 (n + 1)
range-push n =
    let here : n ≡ 0 + n = omega arith in
    ap (λ x. range_with_len 0 n ++ x ∷ []) here ∙ sym (range-more 0 n []) ∙ append-nil (range_with_len 0 (n + 1))

pub range-next : (n x : ℕ) (others : List ℕ) → length others ≡ 0 → x ≡ n → range_with_len 0 (n + 1) ++ others ≡ (range_with_len 0 n ++ others) ++ x ∷ []
range-next n x [] none same = append-nil (range_with_len 0 (n + 1)) ∙ sym (range-push n) ∙ ap (λ k. range_with_len 0 n ++ k ∷ []) (sym same) ∙ ap (λ l. l ++ x ∷ []) (sym (append-nil (range_with_len 0 n)))
range-next n x (y ∷ others) none same = absurd (omega (arith, none))
