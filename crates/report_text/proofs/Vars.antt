-- The names of variables one by one.
use Rattle.std.proofs.Common.{◌≡◌, ◌++◌, ◌∷◌, ◌+◌, ℕ, suc, List, [], drop, ap, sym, ◌∙◌, add-one, drop-cons, append_assoc}
use Rattle.std.specs.Prelude.{Some, slice_get}
use Rattle.std.proofs.lemmas.Option.{slice_get_within, get_or_from_slice_get}
use Rattle.std.specs.List.{flat_map}
use Rattle.report_text.specs.Reply.{after_space}

pub drop_at : {A : Type 0} → (xs : List A) (i : ℕ) (x : A) → slice_get xs i ≡ Some x → drop i xs ≡ x ∷ drop (i + 1) xs
drop_at xs i x h =
    drop-cons xs i x (slice_get_within xs i x h) ∙ ap (λ y. y ∷ drop (suc i) xs) (get_or_from_slice_get xs i x x h) ∙ ap (λ n. x ∷ drop n xs) (sym (add-one i))

pub next_name : (line : List ℕ) (vars : List (List ℕ)) (v : ℕ) (name : List ℕ) → slice_get vars v ≡ Some name
    → ((line ++ 32 ∷ []) ++ name) ++ (flat_map after_space (drop (v + 1) vars) ++ 10 ∷ []) ≡ line ++ (flat_map after_space (drop v vars) ++ 10 ∷ [])
next_name line vars v name h = rw (drop_at vars v name h) (simp append_assoc)
