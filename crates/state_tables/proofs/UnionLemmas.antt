-- Unions of sets that are known already.
use Rattle.std.proofs.Common.{zero, suc, ◌≡◌, ℕ, ◌+◌, ◌-◌, ◌<◌, inl, inr, ap, sym, subst, ◌∙◌, arith, List, [], ◌∷◌, length, get_or, set, replicate, get_or-set_other}
use Rattle.std.specs.Int.Bits.{or_zero_l}
use Rattle.std.proofs.lemmas.Bool.{cases_eq, cases_lt}
use Rattle.std.proofs.lemmas.List.{get_or-replicate, get_or-set_same, get_or_append_left, get_or_past, length-append, length-replicate, set_past}
use Rattle.state_tables.specs.Coded.{set_beyond}
use Rattle.state_tables.specs.RowSet.{IsSetAt, TakesSet}
use Rattle.state_tables.specs.Unions.{AreUnions, IsKnownUnion, UnionMemo, no_union, union_of}
use Rattle.state_tables.specs.declared.unions.Union.{Union}

-- no union is known where there is none
read-none : (n s : ℕ) → get_or (replicate n no_union) s no_union ≡ no_union
read-none n s = elim (cases_lt s n) [
  | inl lt ↦ get_or-replicate n s no_union no_union lt
  | inr ge ↦ get_or_past (replicate n no_union) s no_union (omega (arith, ge, length-replicate n no_union))
]

not-known : (images rights sets : List ℕ) (u : Union) → u ≡ no_union → IsKnownUnion images rights sets u
not-known images rights sets u e = λ k h. absurd (omega (arith, h, ap (λ v. v.union) e))

pub no-unions : (images : List ℕ) (slots : List Union) (n : ℕ) → slots ≡ replicate n no_union → (rights sets : List ℕ) (s : ℕ) → IsKnownUnion images rights sets (get_or slots s no_union)
no-unions images slots n e rights sets s = not-known images rights sets (get_or slots s no_union) (ap (λ l. get_or l s no_union) e ∙ read-none n s)

-- a set keeps its index
set-kept : (old new : List ℕ) (x y k : ℕ) → TakesSet old new x → IsSetAt old y k → IsSetAt new y k
set-kept old new x y k (inl e) is = rw e is
set-kept old new x y k (inr e) is =
    let low : k < length old = is.0 in
    rw e (omega (arith, low, length-append old (x ∷ [])), get_or_append_left old (x ∷ []) 0 k low ∙ is.1)

-- unions remain known when a set is added
pub unions-kept : (m : UnionMemo) (rights old new : List ℕ) (x : ℕ) → TakesSet old new x → AreUnions m rights old → AreUnions m rights new
unions-kept m rights old new x takes are = λ s k h. set-kept old new x _ k takes (are s k h)

-- and when a slot gets one that is known
pub unions-set : (images rights sets : List ℕ) (slots : List Union) (slot : ℕ) (u : Union) → ((s : ℕ) → IsKnownUnion images rights sets (get_or slots s no_union))
    → IsKnownUnion images rights sets u → (s : ℕ) → IsKnownUnion images rights sets (get_or (set slots slot u) s no_union)
unions-set images rights sets slots slot u are is = λ s. elim (cases_eq s slot) [
  | inl e ↦ elim (cases_lt slot (length slots)) [
    | inl lt ↦ known-of images rights sets u (get_or (set slots slot u) s no_union) (ap (λ n. get_or (set slots slot u) n no_union) e ∙ get_or-set_same slots slot u no_union lt) is
    | inr ge ↦ known-of images rights sets (get_or slots s no_union) (get_or (set slots slot u) s no_union) (ap (λ l. get_or l s no_union) (set_past slots slot u ge)) (are s)
  ]
  | inr ne ↦ known-of images rights sets (get_or slots s no_union) (get_or (set slots slot u) s no_union) (get_or-set_other slots slot s u no_union ne) (are s)
]
  where
    known-of : (images rights sets : List ℕ) (u v : Union) → v ≡ u → IsKnownUnion images rights sets u → IsKnownUnion images rights sets v
    known-of images rights sets u v e is = subst (IsKnownUnion images rights sets) (sym e) is

-- a union with its index
pub union-known : (images rights sets : List ℕ) (image beyond index value : ℕ) → value ≡ union_of images rights image beyond → IsSetAt sets value index
    → IsKnownUnion images rights sets (record { image = image; beyond = beyond; union = index + 1 })
union-known images rights sets image beyond index value e is = λ k h.
    let at : index ≡ k = omega (arith, h) in
    subst (IsSetAt sets (union_of images rights image beyond)) at (subst (λ v. IsSetAt sets v index) e is)

-- the union that is found in a slot
pub union-found : (m : UnionMemo) (rights sets : List ℕ) (slots : List Union) (slot image beyond : ℕ) → slots ≡ m.slots → AreUnions m rights sets → 0 < (get_or slots slot no_union).union
    → (get_or slots slot no_union).image ≡ image → (get_or slots slot no_union).beyond ≡ beyond → IsSetAt sets (union_of m.images rights image beyond) ((get_or slots slot no_union).union - 1)
union-found m rights sets slots slot image beyond e are some left right =
    let known = get_or slots slot no_union in
    let is : IsKnownUnion m.images rights sets (get_or slots slot no_union) = subst (λ l. IsKnownUnion m.images rights sets (get_or l slot no_union)) (sym e) (are slot) in
    rw (sym left, sym right) (is (known.union - 1) (omega (arith, some)))

-- the set one before an index
pub beyond-set : (sets : List ℕ) (beyond : ℕ) → 0 < beyond → get_or sets (beyond - 1) 0 ≡ set_beyond sets beyond
beyond-set sets zero lt = absurd (omega (arith, lt))
beyond-set sets (suc k) lt =
    let at : suc k - 1 ≡ k = omega arith in
    ap (λ n. get_or sets n 0) at

-- the union of an image with no set
pub union-alone : (images rights : List ℕ) (image beyond : ℕ) → beyond ≡ 0 → get_or images image 0 ≡ union_of images rights image beyond
union-alone images rights image zero e = sym (or_zero_l (get_or images image 0))
union-alone images rights image (suc k) e = absurd (omega (arith, e))
