-- One more node that is found by a child or among the others.
use Rattle.std.proofs.Common.{◌≡◌, ◌≢◌, ◌⊎◌, false, ℕ, zero, suc, ◌+◌, ◌<◌, inl, inr, List, [], ◌∷◌, ◌++◌, length, map, get_or, set, slice_get, Option, IfSome, None, Some, ap, sym, subst, ◌∙◌, arith, length-append, get_or-set_same, get_or-set_other, refl}
use Rattle.std.proofs.lemmas.List.{map-append, length-set}
use Rattle.node_store.specs.declared.narrow.Narrow.{Narrow}
use Rattle.node_store.specs.declared.nodes.Way.{Way}
use Rattle.node_store.specs.declared.nodes.Way.TheVariants.{Known, First, Second, Other}
use Rattle.slp_model.specs.Distinct.{IsOfByte}
use Rattle.node_store.specs.contracts.narrow.NarrowPartialEq.TheImpl.{ghosts}
use Rattle.node_store.specs.Narrow.{IsPair, wide, hash_of, AreUnique}
use Rattle.node_store.specs.NodeTable.{home_of, link_of, IsFound, IsFree, IsNotFound, AreMoved}
use Rattle.node_store.specs.Others.{OtherNodes, ArePlaced, IsAdded}
use Rattle.node_store.specs.SearchTree.{IsAbsent}
use Rattle.node_store.specs.Firsts.{LeadsTo, RightLeadsTo, Leads, RightLeads, IsIndexed, IsNotFirst, IsRightWay, IsWay}
use Rattle.node_store.proofs.NarrowLemmas.{absent-wide, unique-push, unique-none, differs-at}
use Rattle.node_store.proofs.NodeTableLemmas.{within-put, found-put, found-here}
use Rattle.node_store.proofs.SearchTreeLemmas.{narrow-push, same_or_other}

-- an element of a list has the same index in a longer one
get-left : {X : Type 0} (xs ys : List X) (x : X) (i : ℕ) → slice_get xs i ≡ Some x → slice_get (xs ++ ys) i ≡ Some x
get-left [] ys x i h = cc
get-left (y ∷ xs) ys x zero h = h
get-left (y ∷ xs) ys x (suc i) h = get-left xs ys x i h

pub get-last : {X : Type 0} (xs : List X) (x : X) → slice_get (xs ++ x ∷ []) (length xs) ≡ Some x
get-last [] x = refl
get-last (y ∷ xs) x = get-last xs x

-- one more node leads nowhere yet
push-none : (firsts : List ℕ) (l : ℕ) → get_or (firsts ++ 0 ∷ []) l 0 ≡ get_or firsts l 0
push-none [] zero = refl
push-none [] (suc l) = refl
push-none (x ∷ firsts) zero = refl
push-none (x ∷ firsts) (suc l) = push-none firsts l

unique-more : (all : List Narrow) (n : Narrow) → AreUnique (map wide all) → IsAbsent all n → AreUnique (map wide (all ++ n ∷ []))
unique-more all n unique absent = subst AreUnique (sym (map-append wide all (n ∷ []))) (unique-push (map wide all) (wide n) unique (absent-wide all n absent))

pub indexed-none : IsIndexed [] [] [] (record { slots = []; late = []; indices = [] })
indexed-none = record {
  unique = unique-none;
  bytes = λ i n h. cc;
  as_many = refl;
  as_many_right = refl;
  inside = λ l i h. cc;
  inside_right = λ r i h. cc;
  leads = λ i n h. cc;
  right = λ i n h. cc;
  found = λ i n h absent. cc;
  others = record { within = λ s. omega arith; as_long = refl; placed = λ k n h. cc };
}

-- ---- links of one more node
-- links with one more index, where n nodes are: they lead as before, and from nowhere further than to the new node
record Extends (n : ℕ) (links after : List ℕ) : Type 0 where
  longer : length after ≡ length links + 1
  inside : ((m i : ℕ) → get_or links m 0 ≡ suc i → i < n) → (m i : ℕ) → get_or after m 0 ≡ suc i → i < n + 1
  some : (m : ℕ) → get_or links m 0 ≢ 0 → get_or after m 0 ≢ 0
  to : (m i : ℕ) → get_or links m 0 ≡ suc i → get_or after m 0 ≡ suc i

extends-none : (n : ℕ) (links : List ℕ) → Extends n links (links ++ 0 ∷ [])
extends-none n links = record {
  longer = length-append links (0 ∷ []);
  inside = λ old m i h. omega (arith, old m i (sym (push-none links m) ∙ h));
  some = λ m h e. h (sym (push-none links m) ∙ e);
  to = λ m i h. push-none links m ∙ h;
}

-- the child leads to the new node from now on
here : (links : List ℕ) (c n : ℕ) → c < length links → get_or (set links c (suc n) ++ 0 ∷ []) c 0 ≡ suc n
here links c n within = push-none (set links c (suc n)) c ∙ get_or-set_same links c (suc n) 0 within

extends-led : (n : ℕ) (links : List ℕ) (c : ℕ) → c < length links → get_or links c 0 ≡ 0 → Extends n links (set links c (suc n) ++ 0 ∷ [])
extends-led n links c within none = record {
  longer = omega (arith, length-append (set links c (suc n)) (0 ∷ []), length-set links c (suc n));
  inside = λ old m i h. elim (same_or_other m c) [
    | inl e ↦ omega (arith, at, ap (λ k. get_or after k 0) e, h)
    | inr ne ↦ omega (arith, old m i (sym (same m ne) ∙ h))
  ];
  some = λ m h e. elim (same_or_other m c) [
    | inl t ↦ omega (arith, at, ap (λ k. get_or after k 0) t, e)
    | inr ne ↦ h (sym (same m ne) ∙ e)
  ];
  to = λ m i h. elim (same_or_other m c) [
    | inl t ↦ absurd (omega (arith, none, ap (λ k. get_or links k 0) t, h))
    | inr ne ↦ same m ne ∙ h
  ];
}
  where
    after : List ℕ
    after = set links c (suc n) ++ 0 ∷ []

    at : get_or after c 0 ≡ suc n
    at = here links c n within

    same : (m : ℕ) → m ≢ c → get_or after m 0 ≡ get_or links m 0
    same m other = push-none (set links c (suc n)) m ∙ get_or-set_other links c m (suc n) 0 other

leads-more : (k : ℕ) (links after : List ℕ) (n : Narrow) → Extends k links after → Leads links n → Leads after n
leads-more k links after n e h = λ pair. e.some n.left (h pair)

right-leads-more : (k : ℕ) (links after : List ℕ) (n : Narrow) → Extends k links after → RightLeads links n → RightLeads after n
right-leads-more k links after n e h = λ pair. e.some n.right (h pair)

leads-to-more : (k : ℕ) (links after : List ℕ) (n : Narrow) (i : ℕ) → Extends k links after → LeadsTo links n i → LeadsTo after n i
leads-to-more k links after n i e h = (h.0, e.to n.left i h.1)

right-leads-to-more : (k : ℕ) (links after : List ℕ) (n : Narrow) (i : ℕ) → Extends k links after → RightLeadsTo links n i → RightLeadsTo after n i
right-leads-to-more k links after n i e h = (h.0, e.to n.right i h.1)

-- to lead to a node is to lead
right-leads : (seconds : List ℕ) (n : Narrow) (i : ℕ) → RightLeadsTo seconds n i → RightLeads seconds n
right-leads seconds n i h = λ pair e. omega (arith, e, h.1)

-- ---- one more node
-- node n with index i, the next one, is among the others from now on
record Adds (all : List Narrow) (n : Narrow) (old new : OtherNodes) : Type 0 where
  others : ArePlaced (all ++ n ∷ []) new
  late : (m : Narrow) → IsAbsent new.late m → IsAbsent old.late m
  kept : (h i : ℕ) → IsFound old.slots h i → IsFound new.slots h i
  here : IsAbsent new.late n → IsFound new.slots (hash_of n) (length all)

-- the late nodes stand where they stood
placed-more : (all : List Narrow) (n : Narrow) (o : OtherNodes) → ArePlaced all o → (k : ℕ) (m : Narrow) → slice_get o.late k ≡ Some m → (i : ℕ) × ((slice_get o.indices k ≡ Some i) × (slice_get (all ++ n ∷ []) i ≡ Some m))
placed-more all n o are k m h = let p = are.placed k m h in (p.0, (p.1.0, get-left all (n ∷ []) m p.0 p.1.1))

adds-slot : (all : List Narrow) (n : Narrow) (old new : OtherNodes) (s : ℕ) → ArePlaced all old → IsFree old.slots (home_of (length old.slots) (hash_of n)) s → IsAdded old (Some s) n (length all) new → Adds all n old new
adds-slot all n old new s are free (slots, late, indices) = record {
  others = record {
    within = rw slots (within-put old.slots s (hash_of n) (length all) free.inside (length (all ++ n ∷ [])) (omega (arith, length-append all (n ∷ []))) (λ t. omega (arith, are.within t, length-append all (n ∷ []))));
    as_long = rw (late, indices) are.as_long;
    placed = rw (late, indices) (placed-more all n old are);
  };
  late = λ m absent. rw (sym late) absent;
  kept = λ h i found. rw slots (found-put old.slots s (hash_of n) (length all) free.inside free.empty h i found);
  here = λ absent. rw slots (found-here old.slots s (hash_of n) (length all) free);
}

adds-late : (all : List Narrow) (n : Narrow) (old new : OtherNodes) → ArePlaced all old → IsAdded old None n (length all) new → Adds all n old new
adds-late all n old new are (slots, late, indices) = record {
  others = record {
    within = λ s. omega (arith, ap (λ xs. link_of xs s) slots, are.within s, length-append all (n ∷ []));
    as_long = rw (late, indices) (omega (arith, length-append old.indices (length all ∷ []), length-append old.late (n ∷ []), are.as_long));
    placed = rw (late, indices) placed;
  };
  late = λ m absent k at. absent k (rw late (get-left old.late (n ∷ []) m k at));
  kept = λ h i found. rw slots found;
  here = λ absent. absurd (absent (length old.late) (rw late (get-last old.late n)));
}
  where
    placed : (k : ℕ) (m : Narrow) → slice_get (old.late ++ n ∷ []) k ≡ Some m → (i : ℕ) × ((slice_get (old.indices ++ length all ∷ []) k ≡ Some i) × (slice_get (all ++ n ∷ []) i ≡ Some m))
    placed k m h = elim (narrow-push old.late n m k h) [
      | inl before ↦ let p = placed-more all n old are k m before.1 in (p.0, (get-left old.indices (length all ∷ []) p.0 k p.1.0, p.1.1))
      | inr last ↦ (length all, (subst (λ j. slice_get (old.indices ++ length all ∷ []) j ≡ Some (length all)) (are.as_long ∙ sym last.0) (get-last old.indices (length all)), get-last all n ∙ ap Some last.1))
    ]

adds : (all : List Narrow) (n : Narrow) (old new : OtherNodes) (slot : Option ℕ) → ArePlaced all old → IfSome slot (IsFree old.slots (home_of (length old.slots) (hash_of n))) → IsAdded old slot n (length all) new → Adds all n old new
adds all n old new None are free added = adds-late all n old new are added
adds all n old new (Some s) are free added = adds-slot all n old new s are free added

module _ (all : List Narrow) (firsts seconds : List ℕ) (o : OtherNodes) (n : Narrow) (x : IsIndexed all firsts seconds o) where
  -- a pair whose left child led nowhere
  pub first-absent : (l : ℕ) → IsWay all firsts seconds n (First l) → IsAbsent all n
  first-absent l (pair, is, within, none) i h = x.leads i n h pair (subst (λ m. get_or firsts m 0 ≡ 0) is none)

  -- a pair that isn't first, and whose right child led nowhere
  pub second-absent : (r : ℕ) → IsWay all firsts seconds n (Second r) → IsAbsent all n
  second-absent r (pair, not_first, is, within, none) i h = elim (x.right i n h) [
    | inl to ↦ not_first.1 i to h
    | inr right ↦ right pair (subst (λ m. get_or seconds m 0 ≡ 0) is none)
  ]

  -- a node that no child leads to and that isn't among the others
  pub other-absent : IsWay all firsts seconds n Other → IsNotFound all o.slots n → IsAbsent o.late n → IsAbsent all n
  other-absent (not_first, right, not_second) unfound absent i h = elim (x.found i n h absent) [
    | inl to ↦ not_first.1 i to h
    | inr (inl to) ↦ not_second i to h
    | inr (inr found) ↦ unfound i found h
  ]

  longer : length (all ++ n ∷ []) ≡ length all + 1
  longer = length-append all (n ∷ [])

  bytes-more : IsOfByte (wide n) → (i : ℕ) (m : Narrow) → slice_get (all ++ n ∷ []) i ≡ Some m → IsOfByte (wide m)
  bytes-more byte i m h = elim (narrow-push all n m i h) [ inl old ↦ x.bytes i m old.1 | inr new ↦ subst (λ k. IsOfByte (wide k)) new.1 byte ]

  -- the new node is found by a child
  child-added : (f s : List ℕ) → IsOfByte (wide n) → Extends (length all) firsts f → Extends (length all) seconds s → IsAbsent all n → Leads f n → LeadsTo f n (length all) ⊎ RightLeadsTo s n (length all)
      → IsIndexed (all ++ n ∷ []) f s o
  child-added f s byte ef es absent leads by = record {
    unique = unique-more all n x.unique absent;
    bytes = bytes-more byte;
    as_many = omega (arith, longer, ef.longer, x.as_many);
    as_many_right = omega (arith, longer, es.longer, x.as_many_right);
    inside = λ m i h. omega (arith, longer, ef.inside x.inside m i h);
    inside_right = λ m i h. omega (arith, longer, es.inside x.inside_right m i h);
    leads = λ i m h. elim (narrow-push all n m i h) [
      | inl old ↦ leads-more (length all) firsts f m ef (x.leads i m old.1)
      | inr new ↦ subst (Leads f) new.1 leads
    ];
    right = λ i m h. elim (narrow-push all n m i h) [
      | inl old ↦ elim (x.right i m old.1) [
        | inl to ↦ inl (leads-to-more (length all) firsts f m i ef to)
        | inr right ↦ inr (right-leads-more (length all) seconds s m es right)
      ]
      | inr new ↦ elim (at i m new.0 new.1) [ inl to ↦ inl to | inr to ↦ inr (right-leads s m i to) ]
    ];
    found = λ i m h gone. elim (narrow-push all n m i h) [
      | inl old ↦ elim (x.found i m old.1 gone) [
        | inl to ↦ inl (leads-to-more (length all) firsts f m i ef to)
        | inr (inl to) ↦ inr (inl (right-leads-to-more (length all) seconds s m i es to))
        | inr (inr found) ↦ inr (inr found)
      ]
      | inr new ↦ elim (at i m new.0 new.1) [ inl to ↦ inl to | inr to ↦ inr (inl to) ]
    ];
    others = record {
      within = λ t. omega (arith, longer, x.others.within t);
      as_long = x.others.as_long;
      placed = placed-more all n o x.others;
    };
  }
    where
      at : (i : ℕ) (m : Narrow) → i ≡ length all → n ≡ m → LeadsTo f m i ⊎ RightLeadsTo s m i
      at i m index same = subst (λ j. LeadsTo f m j ⊎ RightLeadsTo s m j) (sym index) (subst (λ k. LeadsTo f k (length all) ⊎ RightLeadsTo s k (length all)) same by)

  pub first-added : (l : ℕ) → IsOfByte (wide n) → IsWay all firsts seconds n (First l) → IsIndexed (all ++ n ∷ []) (set firsts l (suc (length all)) ++ 0 ∷ []) (seconds ++ 0 ∷ []) o
  first-added l byte (pair, is, within, none) =
      let to : LeadsTo (set firsts l (suc (length all)) ++ 0 ∷ []) n (length all) = (pair, subst (λ m. get_or (set firsts l (suc (length all)) ++ 0 ∷ []) m 0 ≡ suc (length all)) is (here firsts l (length all) within)) in
      child-added (set firsts l (suc (length all)) ++ 0 ∷ []) (seconds ++ 0 ∷ []) byte (extends-led (length all) firsts l within none) (extends-none (length all) seconds) (first-absent l (pair, is, within, none))
      (λ p e. omega (arith, e, to.1)) (inl to)

  pub second-added : (r : ℕ) → IsOfByte (wide n) → IsWay all firsts seconds n (Second r) → IsIndexed (all ++ n ∷ []) (firsts ++ 0 ∷ []) (set seconds r (suc (length all)) ++ 0 ∷ []) o
  second-added r byte (pair, not_first, is, within, none) =
      let to : RightLeadsTo (set seconds r (suc (length all)) ++ 0 ∷ []) n (length all) = (pair, subst (λ m. get_or (set seconds r (suc (length all)) ++ 0 ∷ []) m 0 ≡ suc (length all)) is (here seconds r (length all) within)) in
      child-added (firsts ++ 0 ∷ []) (set seconds r (suc (length all)) ++ 0 ∷ []) byte (extends-none (length all) firsts) (extends-led (length all) seconds r within none) (second-absent r (pair, not_first, is, within, none))
      (leads-more (length all) firsts (firsts ++ 0 ∷ []) n (extends-none (length all) firsts) not_first.0) (inr to)

  -- it is found among the others
  pub other-added : (new : OtherNodes) (slot : Option ℕ) → IsOfByte (wide n) → IsWay all firsts seconds n Other → IsNotFound all o.slots n → IsAbsent o.late n
      → IfSome slot (IsFree o.slots (home_of (length o.slots) (hash_of n))) → IsAdded o slot n (length all) new → IsIndexed (all ++ n ∷ []) (firsts ++ 0 ∷ []) (seconds ++ 0 ∷ []) new
  other-added new slot byte way unfound absent free added = record {
    unique = unique-more all n x.unique (other-absent way unfound absent);
    bytes = bytes-more byte;
    as_many = omega (arith, longer, ef.longer, x.as_many);
    as_many_right = omega (arith, longer, es.longer, x.as_many_right);
    inside = λ m i h. omega (arith, longer, ef.inside x.inside m i h);
    inside_right = λ m i h. omega (arith, longer, es.inside x.inside_right m i h);
    leads = λ i m h. elim (narrow-push all n m i h) [
      | inl old ↦ leads-more (length all) firsts f m ef (x.leads i m old.1)
      | inr new ↦ leads-more (length all) firsts f m ef (subst (Leads firsts) new.1 way.0.0)
    ];
    right = λ i m h. elim (narrow-push all n m i h) [
      | inl old ↦ elim (x.right i m old.1) [
        | inl to ↦ inl (leads-to-more (length all) firsts f m i ef to)
        | inr right ↦ inr (right-leads-more (length all) seconds s m es right)
      ]
      | inr new ↦ inr (right-leads-more (length all) seconds s m es (subst (RightLeads seconds) new.1 way.1))
    ];
    found = λ i m h gone. elim (narrow-push all n m i h) [
      | inl old ↦ elim (x.found i m old.1 (a.late m gone)) [
        | inl to ↦ inl (leads-to-more (length all) firsts f m i ef to)
        | inr (inl to) ↦ inr (inl (right-leads-to-more (length all) seconds s m i es to))
        | inr (inr found) ↦ inr (inr (a.kept (hash_of m) i found))
      ]
      | inr last ↦ inr (inr (subst (λ j. IsFound new.slots (hash_of m) j) (sym last.0) (subst (λ k. IsFound new.slots (hash_of k) (length all)) last.1 (a.here (subst (IsAbsent new.late) (sym last.1) gone)))))
    ];
    others = a.others;
  }
    where
      a : Adds all n o new
      a = adds all n o new slot x.others free added

      f : List ℕ
      f = firsts ++ 0 ∷ []

      s : List ℕ
      s = seconds ++ 0 ∷ []

      ef : Extends (length all) firsts f
      ef = extends-none (length all) firsts

      es : Extends (length all) seconds s
      es = extends-none (length all) seconds

-- ---- how a node is found
-- a pair that isn't the first one with its left child
pub not-first : (all : List Narrow) (firsts : List ℕ) (i : ℕ) (n d : Narrow) → get_or firsts n.left 0 ≡ suc i → ghosts.eq (get_or all i d) n ≡ false → IsNotFirst all firsts n
not-first all firsts i n d leads other = (λ pair e. omega (arith, e, leads), at)
  where
    at : (j : ℕ) → LeadsTo firsts n j → slice_get all j ≢ Some n
    at j led h =
        let same : j ≡ i = omega (arith, leads, led.1) in
        differs-at all n d i other (subst (λ k. slice_get all k ≡ Some n) same h)

-- nor the first of those that aren't, with its right child
pub not-second : (all : List Narrow) (seconds : List ℕ) (i : ℕ) (n d : Narrow) → get_or seconds n.right 0 ≡ suc i → ghosts.eq (get_or all i d) n ≡ false → IsRightWay all seconds n Other
not-second all seconds i n d leads other = (λ e. omega (arith, e, leads), at)
  where
    at : (j : ℕ) → get_or seconds n.right 0 ≡ suc j → slice_get all j ≢ Some n
    at j led h =
        let same : j ≡ i = omega (arith, leads, led) in
        differs-at all n d i other (subst (λ k. slice_get all k ≡ Some n) same h)

-- the way of a pair that isn't first is by its right child
pub right-way : (all : List Narrow) (firsts seconds : List ℕ) (n : Narrow) (way : Way) → IsPair n → IsNotFirst all firsts n → IsRightWay all seconds n way → IsWay all firsts seconds n way
right-way all firsts seconds n (Known i) pair not_first h = h
right-way all firsts seconds n (First l) pair not_first h = absurd h
right-way all firsts seconds n (Second r) pair not_first (same, within, none) = (pair, not_first, same, within, none)
right-way all firsts seconds n Other pair not_first (some, other) = (not_first, λ p. some, λ i to. other i to.1)

-- the others in slots that were moved
pub others-moved : (all : List Narrow) (firsts seconds : List ℕ) (o new : OtherNodes) → IsIndexed all firsts seconds o → AreMoved o.slots new.slots → new.late ≡ o.late → new.indices ≡ o.indices → IsIndexed all firsts seconds new
others-moved all firsts seconds o new x moved late indices = record {
  unique = x.unique;
  bytes = x.bytes;
  as_many = x.as_many;
  as_many_right = x.as_many_right;
  inside = x.inside;
  inside_right = x.inside_right;
  leads = x.leads;
  right = x.right;
  found = λ i n h absent. elim (x.found i n h (rw (sym late) absent)) [
    | inl to ↦ inl to
    | inr (inl to) ↦ inr (inl to)
    | inr (inr found) ↦ inr (inr (moved.found (hash_of n) i found))
  ];
  others = record {
    within = moved.within (length all) x.others.within;
    as_long = rw (late, indices) x.others.as_long;
    placed = rw (late, indices) x.others.placed;
  };
}

-- a late node stands at its index
pub late-at : (all : List Narrow) (o : OtherNodes) (n : Narrow) (k i : ℕ) → ArePlaced all o → slice_get o.late k ≡ Some n → slice_get o.indices k ≡ Some i → slice_get all i ≡ Some n
late-at all o n k i are there at =
    let p = are.placed k n there in
    let same : p.0 ≡ i = cc in
    subst (λ j. slice_get all j ≡ Some n) same p.1.1
