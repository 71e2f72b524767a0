-- Ways through a search tree, and one more node in it.
use Rattle.std.proofs.Common.{◌≡◌, ◌≢◌, ◌⊎◌, ℕ, zero, suc, ◌+◌, ◌*◌, ◌/◌, ◌<◌, ◌≤◌, inl, inr, List, [], ◌∷◌, ◌++◌, length, get_or, set, slice_get, Some, ap, sym, subst, ◌∙◌, arith, length-append, get_or-set_same, get_or-set_other}
use Rattle.std.proofs.lemmas.Bool.{cases_lt}
use Rattle.std.proofs.lemmas.List.{get_or_push, get_or_append_left}
use Rattle.std.proofs.lemmas.Option.{slice_get_within, get_or_from_slice_get, slice_get-get_or}
use Rattle.node_store.specs.declared.narrow.Narrow.{Narrow}
use Rattle.node_store.specs.Narrow.{number_of}
use Rattle.node_store.specs.SearchTree.{slot_of, Leads, LeadsTo, IsSearchTree, Extends, IsOpen}

-- links that stay lead where they led
leads-on : (old new : List ℕ) → Extends old new → (k digits slot i : ℕ) → Leads old k digits slot i → Leads new k digits slot i
leads-on old new more zero digits slot i h = more slot i h
leads-on old new more (suc k) digits slot i h = (h.0, (more slot h.0 h.1.0, leads-on old new more k (digits / 4) (slot_of h.0 digits) i h.1.1))

-- an empty slot leads nowhere
leads-nowhere : (links : List ℕ) (k digits slot i : ℕ) → get_or links slot 0 ≡ 0 → Leads links k digits slot i → ⊥
leads-nowhere links zero digits slot i none h = omega (arith, none, h)
leads-nowhere links (suc k) digits slot i none h = omega (arith, none, h.1.0)

-- a link to another node leads on after it
leads-behind : (links : List ℕ) (k digits slot i j : ℕ) → get_or links slot 0 ≡ suc j → i ≢ j → Leads links k digits slot i → LeadsTo links (digits / 4) (slot_of j digits) i
leads-behind links zero digits slot i j link other h = absurd (other (omega (arith, link, h)))
leads-behind links (suc k) digits slot i j link other h =
    let same : h.0 ≡ j = omega (arith, link, h.1.0) in
    (k, subst (λ m. Leads links k (digits / 4) (slot_of m digits) i) same h.1.1)

-- what is known of n on the way to it, before the link of this slot
pub record IsOnWay (nodes : List Narrow) (links : List ℕ) (n : Narrow) (digits slot : ℕ) : Type 0 where
  pub inside : slot ≤ 4 * length nodes
  pub ahead : (i : ℕ) → slice_get nodes i ≡ Some n → LeadsTo links digits slot i
  pub behind : (more : List ℕ) → Extends links more → (i : ℕ) → LeadsTo more digits slot i → LeadsTo more (number_of n) 0 i

pub on_way-start : (nodes : List Narrow) (links : List ℕ) (n : Narrow) → IsSearchTree nodes links → IsOnWay nodes links n (number_of n) 0
on_way-start nodes links n tree = record { inside = omega arith; ahead = λ i h. tree.found i n h; behind = λ more x i h. h }

pub on_way-step : (nodes : List Narrow) (links : List ℕ) (n : Narrow) (digits slot j : ℕ) → IsSearchTree nodes links → IsOnWay nodes links n digits slot → get_or links slot 0 ≡ suc j → slice_get nodes j ≢ Some n
    → IsOnWay nodes links n (digits / 4) (slot_of j digits)
on_way-step nodes links n digits slot j tree way link other = record {
  inside = omega (arith, (tree.later slot j link).1);
  ahead = λ i h. let led = way.ahead i h in leads-behind links led.0 digits slot i j link (λ same. other (subst (λ m. slice_get nodes m ≡ Some n) same h)) led.1;
  behind = λ more x i h. way.behind more x i (suc h.0, (j, (x slot j link, h.1)));
}

pub on_way-end : (nodes : List Narrow) (links : List ℕ) (n : Narrow) (digits slot : ℕ) → IsOnWay nodes links n digits slot → get_or links slot 0 ≡ 0 → IsOpen nodes links n slot
on_way-end nodes links n digits slot way none = record {
  inside = way.inside;
  empty = none;
  absent = λ i h. let led = way.ahead i h in leads-nowhere links led.0 digits slot i none led.1;
  leads = λ more x i h. way.behind more x i (0, h);
}

-- the same links by another list
pub tree-same : (nodes : List Narrow) (links new : List ℕ) → ((s : ℕ) → get_or new s 0 ≡ get_or links s 0) → IsSearchTree nodes links → IsSearchTree nodes new
tree-same nodes links new same tree = record {
  later = λ slot i h. tree.later slot i (sym (same slot) ∙ h);
  found = λ i n h. let led = tree.found i n h in (led.0, leads-on links new (λ slot j e. same slot ∙ e) led.0 (number_of n) 0 i led.1);
}

pub same_or_other : (s t : ℕ) → (s ≡ t) ⊎ (s ≢ t)
same_or_other s t = elim (cases_lt s t) [
  | inl lt ↦ inr (λ e. omega (arith, lt, e))
  | inr ge ↦ elim (cases_lt t s) [ inl gt ↦ inr (λ e. omega (arith, gt, e)) | inr le ↦ inl (omega (arith, ge, le)) ]
]

-- what follows one more node
pub narrow-push : (ns : List Narrow) (n m : Narrow) (i : ℕ) → slice_get (ns ++ n ∷ []) i ≡ Some m → ((i < length ns) × (slice_get ns i ≡ Some m)) ⊎ ((i ≡ length ns) × (n ≡ m))
narrow-push ns n m i h =
    let within : i < length (ns ++ n ∷ []) = slice_get_within (ns ++ n ∷ []) i m h in
    let here : get_or (ns ++ n ∷ []) i m ≡ m = get_or_from_slice_get (ns ++ n ∷ []) i m m h in
    elim (cases_lt i (length ns)) [
      | inl lt ↦ inl (lt, slice_get-get_or ns i m lt ∙ ap Some (sym (get_or_append_left ns (n ∷ []) m i lt) ∙ here))
      | inr ge ↦
          let e : i ≡ length ns = omega (arith, length-append ns (n ∷ [])) in
          inr (e, sym (get_or_push ns n m i (sym e)) ∙ here)
    ]

-- one more node, and the link to it in the slot where its way ended
pub tree-push : (nodes : List Narrow) (links new : List ℕ) (n : Narrow) (slot : ℕ) → IsSearchTree nodes links → IsOpen nodes links n slot
    → get_or new slot 0 ≡ suc (length nodes) → ((s : ℕ) → s ≢ slot → get_or new s 0 ≡ get_or links s 0) → IsSearchTree (nodes ++ n ∷ []) new
tree-push nodes links new n slot tree free here others = record { later = later; found = found }
  where
    longer : length (nodes ++ n ∷ []) ≡ length nodes + 1
    longer = length-append nodes (n ∷ [])

    more : Extends links new
    more s i h = elim (same_or_other s slot) [
      | inl e ↦ absurd (omega (arith, free.empty, ap (λ t. get_or links t 0) e, h))
      | inr ne ↦ others s ne ∙ h
    ]

    later : (s i : ℕ) → get_or new s 0 ≡ suc i → (s ≤ 4 * i) × (i < length (nodes ++ n ∷ []))
    later s i h = elim (same_or_other s slot) [
      | inl e ↦ let last : i ≡ length nodes = omega (arith, here, ap (λ t. get_or new t 0) e, h) in (omega (arith, last, e, free.inside), omega (arith, last, longer))
      | inr ne ↦ let old = tree.later s i (sym (others s ne) ∙ h) in (old.0, omega (arith, old.1, longer))
    ]

    found : (i : ℕ) (m : Narrow) → slice_get (nodes ++ n ∷ []) i ≡ Some m → LeadsTo new (number_of m) 0 i
    found i m h = elim (narrow-push nodes n m i h) [
      | inl old ↦ let led = tree.found i m old.1 in (led.0, leads-on links new more led.0 (number_of m) 0 i led.1)
      | inr last ↦ subst (λ j. LeadsTo new (number_of m) 0 j) (sym last.0) (subst (λ k. LeadsTo new (number_of k) 0 (length nodes)) last.1 (free.leads new more (length nodes) here))
    ]

-- the same, where the link is written into links that were made longer
pub tree-added : (nodes : List Narrow) (links long : List ℕ) (n : Narrow) (slot link : ℕ) → IsSearchTree nodes links → IsOpen nodes links n slot
    → ((s : ℕ) → get_or long s 0 ≡ get_or links s 0) → slot < length long → link ≡ length nodes + 1 → IsSearchTree (nodes ++ n ∷ []) (set long slot link)
tree-added nodes links long n slot link tree free same inside is =
    tree-push nodes links (set long slot link) n slot tree free (get_or-set_same long slot link 0 inside ∙ omega (arith, is))
    (λ s ne. get_or-set_other long slot s link 0 ne ∙ same s)
