-- The nodes ahead, from their two lists.
use Rattle.std.proofs.Common.{◌≡◌, ◌++◌, ◌∷◌, ℕ, zero, suc, List, [], Option, Some, ap, arith, length, refl, slice_get, take}
use Rattle.span_enum.specs.AheadView.{joined, with_sets}
use Rattle.span_enum.specs.declared.ahead.AheadNode.{AheadNode}
use Rattle.span_enum.specs.declared.sets.Between.{Between}

pub joined-length : {words : ℕ} (hs : List (Option AheadNode)) (ss : List (Between words)) → length hs ≡ length ss → length (joined hs ss) ≡ length hs
joined-length [] ss e = refl
joined-length (h ∷ hs) [] e = absurd (omega (arith, e))
joined-length (h ∷ hs) (s ∷ ss) e = ap suc (joined-length hs ss (omega (arith, e)))

pub joined-push : {words : ℕ} (hs : List (Option AheadNode)) (ss : List (Between words)) (h : Option AheadNode) (s : Between words) → length hs ≡ length ss
    → joined (hs ++ h ∷ []) (ss ++ s ∷ []) ≡ joined hs ss ++ with_sets h s ∷ []
joined-push [] [] h s e = refl
joined-push [] (t ∷ ss) h s e = absurd (omega (arith, e))
joined-push (g ∷ hs) [] h s e = absurd (omega (arith, e))
joined-push (g ∷ hs) (t ∷ ss) h s e = ap (λ k. with_sets g t ∷ k) (joined-push hs ss h s (omega (arith, e)))

pub joined-take : {words : ℕ} (n : ℕ) (hs : List (Option AheadNode)) (ss : List (Between words)) → joined (take n hs) (take n ss) ≡ take n (joined hs ss)
joined-take zero hs ss = refl
joined-take (suc n) [] ss = refl
joined-take (suc n) (h ∷ hs) [] = refl
joined-take (suc n) (h ∷ hs) (s ∷ ss) = ap (λ k. with_sets h s ∷ k) (joined-take n hs ss)

pub joined-get : {words : ℕ} (hs : List (Option AheadNode)) (ss : List (Between words)) (i : ℕ) (h : Option AheadNode) (s : Between words) → slice_get hs i ≡ Some h → slice_get ss i ≡ Some s
    → slice_get (joined hs ss) i ≡ Some (with_sets h s)
joined-get [] ss i h s eh es = cc
joined-get (g ∷ hs) [] i h s eh es = cc
joined-get (g ∷ hs) (t ∷ ss) zero h s eh es = cc
joined-get (g ∷ hs) (t ∷ ss) (suc i) h s eh es = joined-get hs ss i h s eh es
