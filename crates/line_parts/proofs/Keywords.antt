-- Which of some keywords a word names.
use Rattle.std.proofs.Common.{◌≡◌, ◌⊎◌, inl, inr, ℕ, Bool, true, false, cond, List, [], ◌∷◌, Option, Some, refl, sym, subst}
use Rattle.std.specs.List.{find}
use Rattle.std.specs.Str.{bytes_eq}
use Rattle.std.proofs.lemmas.Slice.Eq.{bytes_eq-Decides}

step : {K : Type 0} (b : Bool) (j k : K) (rest : Option K) → cond b (Some j) rest ≡ Some k → ((b ≡ true) × (j ≡ k)) ⊎ (rest ≡ Some k)
step true j k rest e = inl (refl, cc)
step false j k rest e = inr e

found : {K : Type 0} (word_of : K → List ℕ) (word : List ℕ) (ks : List K) (k : K) → find (λ j. bytes_eq (word_of j) word) ks ≡ Some k → bytes_eq (word_of k) word ≡ true
found word_of word [] k e = let bad : ⊥ = cc in absurd bad
found {K} word_of word (j ∷ ks) k e =
    elim (step (bytes_eq (word_of j) word) j k (find (λ i. bytes_eq (word_of i) word) ks) e) [
      | inl p ↦ subst (λ (i : K). bytes_eq (word_of i) word ≡ true) p.1 p.0
      | inr f ↦ found word_of word ks k f
    ]

-- it is the keyword that was found
pub named_is : {K : Type 0} (word_of : K → List ℕ) (word : List ℕ) (ks : List K) (k : K) → find (λ j. bytes_eq (word_of j) word) ks ≡ Some k → word ≡ word_of k
named_is word_of word ks k e = sym ((bytes_eq-Decides (word_of k) word).0 (found word_of word ks k e))
