-- The loader's tree by a binary counter of blocks.
use Rattle.std.proofs.Common.{◌≡◌, ℕ, zero, suc, ◌≤◌, ◌⊎◌, inl, inr, List, [], ◌∷◌, ◌++◌, length, map, Option, Some, None, refl, ap, sym, subst, ◌∙◌, arith, append_assoc, append-nil}
use Rattle.std.proofs.lemmas.List.{length-map}
use Rattle.slp_model.specs.Tree.{Tree, Leaf, Fork}
use Rattle.slp_model.specs.Join.{join_roots}
use Rattle.slp_model.specs.Shape.{pair_up, odd_last, shape_onto, shape}
use Rattle.slp_model.proofs.ShapeLemmas.{length-pair_up}
use Rattle.pair_loader.proofs.Counters.{counter_push, counter_onto, collect}

-- one more block, after an even number and after an odd number
push-even : (bs : List Tree) (x : Tree) → odd_last bs ≡ None → (odd_last (bs ++ x ∷ []) ≡ Some x) × (pair_up (bs ++ x ∷ []) ≡ pair_up bs)
push-even [] x h = (refl, refl)
push-even (b ∷ []) x h = cc
push-even (b ∷ c ∷ bs) x h = let rest = push-even bs x h in (rest.0, ap (λ t. Fork b c ∷ t) rest.1)

push-odd : (bs : List Tree) (a x : Tree) → odd_last bs ≡ Some a → (odd_last (bs ++ x ∷ []) ≡ None) × (pair_up (bs ++ x ∷ []) ≡ pair_up bs ++ Fork a x ∷ [])
push-odd [] a x h = cc
push-odd (b ∷ []) a x h = (refl, let e : b ≡ a = cc in ap (λ t. Fork t x ∷ []) e)
push-odd (b ∷ c ∷ bs) a x h = let rest = push-odd bs a x h in (rest.0, ap (λ t. Fork b c ∷ t) rest.1)

counter_onto-push : (ds : List (Option Tree)) (bs : List Tree) (x : Tree) → counter_onto ds (bs ++ x ∷ []) ≡ counter_push (counter_onto ds bs) x
counter_onto-push ds [] x = refl
counter_onto-push ds (b ∷ bs) x = counter_onto-push (counter_push ds b) bs x

-- the counter of bs by its lowest level
abbrev IsCounter : List Tree → List (Option Tree) → Type 0
IsCounter bs ds = ((bs ≡ []) × (ds ≡ [])) ⊎ (ds ≡ odd_last bs ∷ counter_onto [] (pair_up bs))

IsCounter-push : (bs : List Tree) (ds : List (Option Tree)) (x : Tree) → IsCounter bs ds → IsCounter (bs ++ x ∷ []) (counter_push ds x)
IsCounter-push bs ds x (inl none) = inr (subst (λ b. counter_push ds x ≡ odd_last (b ++ x ∷ []) ∷ counter_onto [] (pair_up (b ++ x ∷ []))) (sym none.0) (ap (λ d. counter_push d x) none.1))
IsCounter-push bs ds x (inr some) = inr (ap (λ d. counter_push d x) some ∙ by (odd_last bs) refl)
  where
    by : (o : Option Tree) → odd_last bs ≡ o → counter_push (odd_last bs ∷ counter_onto [] (pair_up bs)) x ≡ odd_last (bs ++ x ∷ []) ∷ counter_onto [] (pair_up (bs ++ x ∷ []))
    by None e = let p = push-even bs x e in rw (e, p.0, p.1)
    by (Some a) e = let p = push-odd bs a x e in rw (e, p.0, p.1) (ap (λ t. None ∷ t) (sym (counter_onto-push [] (pair_up bs) (Fork a x))))

IsCounter-onto : (bs cs : List Tree) (ds : List (Option Tree)) → IsCounter bs ds → IsCounter (bs ++ cs) (counter_onto ds cs)
IsCounter-onto bs [] ds h = rw append-nil h
IsCounter-onto bs (c ∷ cs) ds h = subst (λ x. IsCounter x (counter_onto (counter_push ds c) cs)) (append_assoc bs (c ∷ []) cs) (IsCounter-onto (bs ++ c ∷ []) cs (counter_push ds c) (IsCounter-push bs ds c h))

pub counter-lowest : (bs : List Tree) → IsCounter bs (counter_onto [] bs)
counter-lowest bs = IsCounter-onto [] bs [] (inl (refl, refl))

-- the rounds give what the counter gives
rounds-collect : (rounds : ℕ) (bs : List Tree) (tail : Option Tree) → length bs ≤ rounds → shape_onto rounds bs tail ≡ collect (counter_onto [] bs) tail
rounds-collect zero [] tail h = refl
rounds-collect zero (b ∷ bs) tail h = absurd (omega arith)
rounds-collect (suc rounds) [] tail h = rounds-collect rounds [] tail (omega arith)
rounds-collect (suc rounds) (b ∷ bs) tail h = elim (counter-lowest (b ∷ bs)) [
  | inl none ↦ cc
  | inr some ↦
      let rest = rounds-collect rounds (pair_up (b ∷ bs)) (join_roots (odd_last (b ∷ bs)) tail) (omega (arith, length-pair_up (b ∷ bs))) in
      rest ∙ ap (λ d. collect d tail) (sym some)
]

-- the loader's tree is what its counter of single bytes collects
pub shape-counter : (s : List ℕ) → shape s ≡ collect (counter_onto [] (map Leaf s)) None
unfolding shape
shape-counter s = rounds-collect (length s) (map Leaf s) None (omega (arith, length-map s Leaf))
