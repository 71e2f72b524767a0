-- Known bytes that grow in several steps.
use Rattle.std.proofs.Common.{◌≡◌, ℕ, ◌+◌, List, [], ◌++◌, Option, Some, None, refl, sym, ap, ◌∙◌, append_assoc, append-nil, take, drop, length, ◌-◌, ◌≤◌, arith, take-append-drop, length-drop, subst}
use Rattle.std.proofs.Math.Seq.{take-append_seam}
use Rattle.std.specs.Io.KnownBytes.{Appends, Keeps, append_known}

-- they grew twice
pub appends_twice : (a b c : Option (List ℕ)) (xs ys : List ℕ) → Appends a b xs → Appends b c ys → Appends a c (xs ++ ys)
appends_twice None b c xs ys p q = tt
appends_twice (Some us) None c xs ys p q = absurd p
appends_twice (Some us) (Some vs) None xs ys p q = absurd q
appends_twice (Some us) (Some vs) (Some ws) xs ys p q = q ∙ ap (λ (l : List ℕ). l ++ ys) p ∙ append_assoc us xs ys

-- nothing came
pub appends_none : (a : Option (List ℕ)) → Appends a a []
appends_none None = tt
appends_none (Some us) = sym (append-nil us)

-- what was to come last was moved in part
pub moves_on : (a b : Option (List ℕ)) (xs ys : List ℕ) → Appends a b xs → Keeps (append_known a (xs ++ ys)) (append_known b ys)
moves_on None b xs ys p = tt
moves_on (Some us) None xs ys p = absurd p
moves_on (Some us) (Some vs) xs ys p = ap (λ (l : List ℕ). l ++ ys) p ∙ append_assoc us xs ys

-- what was kept went out, and then came more
pub appends_kept : (a b : Option (List ℕ)) (xs ys zs : List ℕ) → Appends a b (xs ++ ys) → Appends (append_known a xs) (append_known b zs) (ys ++ zs)
appends_kept None b xs ys zs p = tt
appends_kept (Some us) None xs ys zs p = absurd p
appends_kept (Some us) (Some vs) xs ys zs p =
    ap (λ (l : List ℕ). l ++ zs) p ∙ append_assoc us (xs ++ ys) zs ∙ ap (λ (l : List ℕ). us ++ l) (append_assoc xs ys zs) ∙ sym (append_assoc us xs (ys ++ zs))

pub keeps_twice : (a b c : Option (List ℕ)) → Keeps a b → Keeps b c → Keeps a c
keeps_twice None b c p q = tt
keeps_twice (Some us) None c p q = absurd p
keeps_twice (Some us) (Some vs) None p q = absurd q
keeps_twice (Some us) (Some vs) (Some ws) p q = q ∙ p

-- the inner bytes stay, and so do those that come last
pub keeps_same : (a b : Option (List ℕ)) (ys : List ℕ) → Keeps a b → Keeps (append_known a ys) (append_known b ys)
keeps_same None b ys p = tt
keeps_same (Some us) None ys p = absurd p
keeps_same (Some us) (Some vs) ys p = ap (λ (l : List ℕ). l ++ ys) p

-- the first bytes went out, and the others moved to the front
pub rest_kept : (a b : Option (List ℕ)) (kept bytes rotated rest : List ℕ) (sent n : ℕ) → bytes ≡ kept → Appends a b (take sent bytes)
    → rotated ≡ drop sent kept ++ take sent kept → rest ≡ take n rotated → n ≡ length kept - sent → Keeps (append_known a kept) (append_known b rest)
rest_kept a b kept bytes rotated rest sent n is out moved cut size =
    let left : rest ≡ drop sent kept =
    cut ∙ ap (λ (l : List ℕ). take n l) moved ∙ ap (λ m. take m (drop sent kept ++ take sent kept)) (size ∙ sym (length-drop sent kept)) ∙ take-append_seam (drop sent kept) (take sent kept) in
    let parts = moves_on a b (take sent kept) (drop sent kept) (subst (λ (l : List ℕ). Appends a b (take sent l)) is out) in
    subst (λ (l : List ℕ). Keeps (append_known a kept) (append_known b l)) (sym left) (subst (λ (l : List ℕ). Keeps (append_known a l) (append_known b (drop sent kept))) (take-append-drop sent kept) parts)
