-- The bundles with each source, and those that leave a set of states.
use Rattle.std.proofs.Common.{◌≡◌, ℕ, ◌+◌, ◌<◌, ◌≤◌, ◌↔◌, ◌⊎◌, inl, inr, refl, sym, ap, subst, ◌∙◌, arith, Bool, true, false, List, [], ◌∷◌, ◌++◌, length, Some, slice_get, slice_index_or, set, Contains, replicate, length-append, length-set, nat_eq, Result, Ok, Err, OnOk}
use Rattle.std.specs.Global.{Vec}
use Rattle.std.proofs.lemmas.Bool.{both_ways, cases_lt}
use Rattle.std.proofs.lemmas.Bool.Decides.{eqb_tells}
use Rattle.std.proofs.lemmas.List.{length-replicate}
use Rattle.marker_nfa.specs.Automaton.{Automaton}
use Rattle.marker_dfa.specs.declared.bundles.Bundle.{Bundle}
use Rattle.marker_dfa.specs.declared.exits.Exits.{Exits}
use Rattle.marker_dfa.specs.Bundles.{sources_of}
use Rattle.marker_dfa.specs.Reached.{Subset, IsIn}
use Rattle.marker_dfa.specs.StateWords.{IsFirstFrom}
use Rattle.marker_dfa.specs.Making.{AreBySource, AreExits, BundleAt, GainsIndex, GainsStates, IsListed}
use Rattle.std.proofs.lemmas.List.Elements.{Contains-append_right, Contains-append_cases}
use Rattle.marker_dfa.proofs.Lists.{one_only, at_contains, contains_at, contains_push, get_push, get_within, one_value, set_cases, set_here, set_there}
use Rattle.marker_dfa.proofs.Leaving.{insert_gains}
use Rattle.marker_dfa.proofs.Tracks.{blank_out}

before : (j n : ℕ) → j < n + 1 → (j < n) ⊎ (j ≡ n)
before j n l = grind arith

-- ---- empty lists

pub record AreNone (n : ℕ) (lists : List (Vec ℕ)) : Type 0 where
  pub size : length lists ≡ n
  pub none : (o i : ℕ) → IsListed lists o i → ⊥

pub none_start : AreNone 0 []
none_start = record { size = refl; none = λ o i s. none o s.0 s.1 }
  where
    none : (o : ℕ) (v : Vec ℕ) → slice_get [] o ≡ Some v → ⊥
    none o v g = cc

pub none_more : (n : ℕ) (lists : List (Vec ℕ)) (v : Vec ℕ) → v.items ≡ [] → AreNone n lists → AreNone (n + 1) (lists ++ v ∷ [])
none_more n lists v empty h = record {
  size = omega (arith, length-append lists (v ∷ []), h.size);
  none = λ o i s. none o i s.0 s.2 (get_push lists v s.0 o s.1);
}
  where
    no_item : (i : ℕ) (items : List ℕ) → items ≡ [] → Contains items i → ⊥
    no_item i items e c = let l : c.0 < 0 = omega (arith, c.1, ap length e) in omega (arith, l)

    none : (o i : ℕ) (places : Vec ℕ) → Contains places.items i → (slice_get lists o ≡ Some places) ⊎ ((o ≡ length lists) × (v ≡ places)) → ⊥
    none o i places c (inl g) = h.none o i (places, g, c)
    none o i places c (inr q) = no_item i places.items (ap (λ (z : Vec ℕ). z.items) (sym q.1) ∙ empty) c

pub none_end : (a : Automaton) (n : ℕ) (lists : List (Vec ℕ)) → n ≡ a.states → AreNone n lists → AreBySource a [] lists
none_end a n lists e h = record {
  size = h.size ∙ e;
  members = λ o i. ((λ s. absurd (h.none o i s)), λ w. absurd (none i w.0 w.1));
}
  where
    none : (i : ℕ) (w : Bundle) → slice_get [] i ≡ Some w → ⊥
    none i w g = cc

-- ---- an index is put into the lists of some states

-- into one list
pub gains_one : (mid : List (Vec ℕ)) (i q : ℕ) (v w : Vec ℕ) → slice_get mid q ≡ Some v → w.items ≡ v.items ++ i ∷ [] → GainsIndex mid (set mid q w) (q ∷ []) i
gains_one mid i q v w at put = record {
  size = length-set mid q w;
  members = λ o j. ((λ s. to o j s.0 s.2 (set_cases mid q w o s.0 lt s.1)), λ s. from o j s);
}
  where
    lt : q < length mid
    lt = get_within mid q v at

    pushed : (j : ℕ) → Contains w.items j ↔ Contains v.items j ⊎ (j ≡ i)
    pushed j = subst (λ (l : List ℕ). Contains l j ↔ Contains v.items j ⊎ (j ≡ i)) (sym put) (contains_push v.items i j)

    sole : (o : ℕ) → o ≡ q → Contains (q ∷ []) o
    sole o e = (0, omega arith, sym e)

    to : (o j : ℕ) (places : Vec ℕ) → Contains places.items j → ((o ≡ q) × (w ≡ places)) ⊎ ((o ≡ q → ⊥) × (slice_get mid o ≡ Some places)) → IsListed mid o j ⊎ (Contains (q ∷ []) o × (i ≡ j))
    to o j places c (inl e) = split ((pushed j).0 (subst (λ (z : Vec ℕ). Contains z.items j) (sym e.1) c))
      where
        split : Contains v.items j ⊎ (j ≡ i) → IsListed mid o j ⊎ (Contains (q ∷ []) o × (i ≡ j))
        split (inl k) = inl (v, ap (slice_get mid) e.0 ∙ at, k)
        split (inr k) = inr (sole o e.0, sym k)
    to o j places c (inr e) = inl (places, e.1, c)

    here : (o j : ℕ) → o ≡ q → Contains w.items j → IsListed (set mid q w) o j
    here o j e c = (w, ap (slice_get (set mid q w)) e ∙ set_here mid q w lt, c)

    stays : (o j : ℕ) → IsListed mid o j → IsListed (set mid q w) o j
    stays o j s = by (eqb_tells o q)
      where
        by : ((nat_eq o q ≡ true) × (o ≡ q)) ⊎ ((nat_eq o q ≡ false) × (o ≡ q → ⊥)) → IsListed (set mid q w) o j
        by (inl e) =
            let same : s.0 ≡ v = one_value mid q s.0 v (ap (slice_get mid) (sym e.1) ∙ s.1) at in
            here o j e.1 ((pushed j).1 (inl (subst (λ (z : Vec ℕ). Contains z.items j) same s.2)))
        by (inr e) = (s.0, set_there mid q w o s.0 e.1 s.1, s.2)

    from : (o j : ℕ) → IsListed mid o j ⊎ (Contains (q ∷ []) o × (i ≡ j)) → IsListed (set mid q w) o j
    from o j (inl s) = stays o j s
    from o j (inr s) = here o j (one_only q o s.0) ((pushed j).1 (inr (sym s.1)))

-- into the lists of the first n states
pub record GainsUpTo (old new : List (Vec ℕ)) (sources : List ℕ) (i n : ℕ) : Type 0 where
  pub size : length new ≡ length old
  pub members : (o j : ℕ) → IsListed new o j ↔ IsListed old o j ⊎ ((k : ℕ) × (k < n) × (slice_get sources k ≡ Some o) × (i ≡ j))

pub gains_start : (lists : List (Vec ℕ)) (sources : List ℕ) (i : ℕ) → GainsUpTo lists lists sources i 0
gains_start lists sources i = record { size = refl; members = λ o j. ((λ s. inl s), λ s. from o j s) }
  where
    from : (o j : ℕ) → IsListed lists o j ⊎ ((k : ℕ) × (k < 0) × (slice_get sources k ≡ Some o) × (i ≡ j)) → IsListed lists o j
    from o j (inl s) = s
    from o j (inr s) = absurd (omega (arith, s.1))

pub gains_more : (old mid new : List (Vec ℕ)) (sources : List ℕ) (i n q : ℕ) → slice_get sources n ≡ Some q → GainsIndex mid new (q ∷ []) i → GainsUpTo old mid sources i n → GainsUpTo old new sources i (n + 1)
gains_more old mid new sources i n q at g h = record {
  size = g.size ∙ h.size;
  members = λ o j. ((λ s. to o j ((g.members o j).0 s)), λ s. (g.members o j).1 (from o j s));
}
  where
    wider : (o j : ℕ) → IsListed old o j ⊎ ((k : ℕ) × (k < n) × (slice_get sources k ≡ Some o) × (i ≡ j)) → IsListed old o j ⊎ ((k : ℕ) × (k < n + 1) × (slice_get sources k ≡ Some o) × (i ≡ j))
    wider o j (inl s) = inl s
    wider o j (inr s) = inr (s.0, omega (arith, s.1), s.2, s.3)

    to : (o j : ℕ) → IsListed mid o j ⊎ (Contains (q ∷ []) o × (i ≡ j)) → IsListed old o j ⊎ ((k : ℕ) × (k < n + 1) × (slice_get sources k ≡ Some o) × (i ≡ j))
    to o j (inl s) = wider o j ((h.members o j).0 s)
    to o j (inr s) = inr (n, omega arith, at ∙ ap Some (sym (one_only q o s.0)), s.1)

    from : (o j : ℕ) → IsListed old o j ⊎ ((k : ℕ) × (k < n + 1) × (slice_get sources k ≡ Some o) × (i ≡ j)) → IsListed mid o j ⊎ (Contains (q ∷ []) o × (i ≡ j))
    from o j (inl s) = inl ((h.members o j).1 (inl s))
    from o j (inr s) = by (before s.0 n s.1)
      where
        by : (s.0 < n) ⊎ (s.0 ≡ n) → IsListed mid o j ⊎ (Contains (q ∷ []) o × (i ≡ j))
        by (inl l) = inl ((h.members o j).1 (inr (s.0, l, s.2, s.3)))
        by (inr e) =
            let same : o ≡ q = one_value sources n o q (ap (slice_get sources) (sym e) ∙ s.2) at in
            inr ((0, omega arith, sym same), s.3)

pub gains_end : (old new : List (Vec ℕ)) (sources : List ℕ) (i n : ℕ) → length sources ≤ n → GainsUpTo old new sources i n → GainsIndex old new sources i
gains_end old new sources i n le h = record { size = h.size; members = λ o j. ((λ s. to o j ((h.members o j).0 s)), λ s. (h.members o j).1 (from o j s)) }
  where
    to : (o j : ℕ) → IsListed old o j ⊎ ((k : ℕ) × (k < n) × (slice_get sources k ≡ Some o) × (i ≡ j)) → IsListed old o j ⊎ (Contains sources o × (i ≡ j))
    to o j (inl s) = inl s
    to o j (inr s) = inr (contains_at sources s.0 o s.2, s.3)

    from : (o j : ℕ) → IsListed old o j ⊎ (Contains sources o × (i ≡ j)) → IsListed old o j ⊎ ((k : ℕ) × (k < n) × (slice_get sources k ≡ Some o) × (i ≡ j))
    from o j (inl s) = inl s
    from o j (inr s) = let k = at_contains sources o s.0 in inr (k.0, omega (arith, get_within sources k.0 o k.1, le), k.1, s.1)

-- into the list of one state, and then of others
pub gains_both : (old mid new : List (Vec ℕ)) (q : ℕ) (others : List ℕ) (i : ℕ) → GainsIndex old mid (q ∷ []) i → GainsIndex mid new others i → GainsIndex old new (q ∷ others) i
gains_both old mid new q others i g h = record {
  size = h.size ∙ g.size;
  members = λ o j. ((λ s. to o j ((h.members o j).0 s)), λ s. from o j s);
}
  where
    first : (o : ℕ) → Contains (q ∷ []) o → Contains (q ∷ others) o
    first o c = (0, omega arith, sym (one_only q o c))

    rest : (o : ℕ) → Contains others o → Contains (q ∷ others) o
    rest o c = Contains-append_right (q ∷ []) others o c

    was : (o j : ℕ) → IsListed old o j ⊎ (Contains (q ∷ []) o × (i ≡ j)) → IsListed old o j ⊎ (Contains (q ∷ others) o × (i ≡ j))
    was o j (inl s) = inl s
    was o j (inr s) = inr (first o s.0, s.1)

    to : (o j : ℕ) → IsListed mid o j ⊎ (Contains others o × (i ≡ j)) → IsListed old o j ⊎ (Contains (q ∷ others) o × (i ≡ j))
    to o j (inl s) = was o j ((g.members o j).0 s)
    to o j (inr s) = inr (rest o s.0, s.1)

    split : (o j : ℕ) → i ≡ j → Contains (q ∷ []) o ⊎ Contains others o → IsListed new o j
    split o j e (inl c) = (h.members o j).1 (inl ((g.members o j).1 (inr (c, e))))
    split o j e (inr c) = (h.members o j).1 (inr (c, e))

    from : (o j : ℕ) → IsListed old o j ⊎ (Contains (q ∷ others) o × (i ≡ j)) → IsListed new o j
    from o j (inl s) = (h.members o j).1 (inl ((g.members o j).1 (inl s)))
    from o j (inr s) = split o j s.1 (Contains-append_cases (q ∷ []) others o s.0)

-- ---- the first n bundles are in the lists of their sources

pub record BySourceUpTo (a : Automaton) (bundles : List Bundle) (n : ℕ) (lists : List (Vec ℕ)) : Type 0 where
  pub size : length lists ≡ a.states
  pub members : (o i : ℕ) → IsListed lists o i ↔ (i < n) × BundleAt bundles i (λ w. Contains (sources_of w) o)

pub by_source_start : (a : Automaton) (bundles : List Bundle) (lists : List (Vec ℕ)) → AreBySource a [] lists → BySourceUpTo a bundles 0 lists
by_source_start a bundles lists h = record {
  size = h.size;
  members = λ o i. ((λ s. (let w = (h.members o i).0 s in absurd (none i w.0 w.1))), λ s. absurd (omega (arith, s.0)));
}
  where
    none : (i : ℕ) (w : Bundle) → slice_get [] i ≡ Some w → ⊥
    none i w g = cc

pub by_source_more : (a : Automaton) (bundles : List Bundle) (n : ℕ) (w : Bundle) (old new : List (Vec ℕ)) → slice_get bundles n ≡ Some w → BySourceUpTo a bundles n old → GainsIndex old new (sources_of w) n → BySourceUpTo a bundles (n + 1) new
by_source_more a bundles n w old new at h g = record {
  size = g.size ∙ h.size;
  members = λ o i. ((λ s. to o i ((g.members o i).0 s)), λ s. (g.members o i).1 (from o i s.1.0 s.1.1 s.1.2 (before i n s.0)));
}
  where
    to : (o i : ℕ) → IsListed old o i ⊎ (Contains (sources_of w) o × (n ≡ i)) → (i < n + 1) × BundleAt bundles i (λ v. Contains (sources_of v) o)
    to o i (inl s) = let b = (h.members o i).0 s in (omega (arith, b.0), b.1)
    to o i (inr s) = (omega (arith, s.1), (w, ap (slice_get bundles) (sym s.1) ∙ at, s.0))

    from : (o i : ℕ) (v : Bundle) → slice_get bundles i ≡ Some v → Contains (sources_of v) o → (i < n) ⊎ (i ≡ n) → IsListed old o i ⊎ (Contains (sources_of w) o × (n ≡ i))
    from o i v k s (inl l) = inl ((h.members o i).1 (l, (v, k, s)))
    from o i v k s (inr e) =
        let same : v ≡ w = one_value bundles n v w (ap (slice_get bundles) (sym e) ∙ k) at in
        inr (subst (λ (z : Bundle). Contains (sources_of z) o) same s, sym e)

pub by_source_end : (a : Automaton) (bundles : List Bundle) (n : ℕ) (lists : List (Vec ℕ)) → length bundles ≤ n → BySourceUpTo a bundles n lists → AreBySource a bundles lists
by_source_end a bundles n lists le h = record {
  size = h.size;
  members = λ o i. ((λ s. ((h.members o i).0 s).1), λ s. (h.members o i).1 (omega (arith, get_within bundles i s.0 s.1, le), s));
}

-- ---- the bundles at the first n indices are marked

pub record MarkedUpTo (old new : List Bool) (indices : List ℕ) (n : ℕ) : Type 0 where
  pub size : length new ≡ length old
  pub marked : (i : ℕ) → IsIn new i ↔ IsIn old i ⊎ ((k : ℕ) × (k < n) × (slice_get indices k ≡ Some i))

pub marked_start : (old : List Bool) (indices : List ℕ) → MarkedUpTo old old indices 0
marked_start old indices = record { size = refl; marked = λ i. ((λ s. inl s), λ s. from i s) }
  where
    from : (i : ℕ) → IsIn old i ⊎ ((k : ℕ) × (k < 0) × (slice_get indices k ≡ Some i)) → IsIn old i
    from i (inl s) = s
    from i (inr s) = absurd (omega (arith, s.1))

pub marked_more : (old mid : List Bool) (indices : List ℕ) (n t : ℕ) → slice_get indices n ≡ Some t → t < length mid → MarkedUpTo old mid indices n → MarkedUpTo old (set mid t true) indices (n + 1)
marked_more old mid indices n t at lt h = record {
  size = length-set mid t true ∙ h.size;
  marked = λ i. ((λ s. to i ((gains.members i).0 s)), λ s. (gains.members i).1 (from i s));
}
  where
    gains : GainsStates mid (set mid t true) (λ p. t ≡ p)
    gains = insert_gains mid t lt

    to : (i : ℕ) → IsIn mid i ⊎ (t ≡ i) → IsIn old i ⊎ ((k : ℕ) × (k < n + 1) × (slice_get indices k ≡ Some i))
    to i (inl s) = wider ((h.marked i).0 s)
      where
        wider : IsIn old i ⊎ ((k : ℕ) × (k < n) × (slice_get indices k ≡ Some i)) → IsIn old i ⊎ ((k : ℕ) × (k < n + 1) × (slice_get indices k ≡ Some i))
        wider (inl k) = inl k
        wider (inr k) = inr (k.0, omega (arith, k.1), k.2)
    to i (inr e) = inr (n, omega arith, at ∙ ap Some e)

    from : (i : ℕ) → IsIn old i ⊎ ((k : ℕ) × (k < n + 1) × (slice_get indices k ≡ Some i)) → IsIn mid i ⊎ (t ≡ i)
    from i (inl s) = inl ((h.marked i).1 (inl s))
    from i (inr s) = by (before s.0 n s.1)
      where
        by : (s.0 < n) ⊎ (s.0 ≡ n) → IsIn mid i ⊎ (t ≡ i)
        by (inl l) = inl ((h.marked i).1 (inr (s.0, l, s.2)))
        by (inr e) = inr (one_value indices n t i at (ap (slice_get indices) (sym e) ∙ s.2))

pub marked_end : (old new : List Bool) (indices : List ℕ) (n : ℕ) → length indices ≤ n → MarkedUpTo old new indices n → (i : ℕ) → IsIn new i ↔ IsIn old i ⊎ Contains indices i
marked_end old new indices n le h i = ((λ s. to ((h.marked i).0 s)), λ s. (h.marked i).1 (from s))
  where
    to : IsIn old i ⊎ ((k : ℕ) × (k < n) × (slice_get indices k ≡ Some i)) → IsIn old i ⊎ Contains indices i
    to (inl s) = inl s
    to (inr s) = inr (contains_at indices s.0 i s.2)

    from : IsIn old i ⊎ Contains indices i → IsIn old i ⊎ ((k : ℕ) × (k < n) × (slice_get indices k ≡ Some i))
    from (inl s) = inl s
    from (inr s) = let k = at_contains indices i s in inr (k.0, omega (arith, get_within indices k.0 i k.1, le), k.1)

-- ---- the bundles of the members below n are marked

pub record LeavingUpTo (bundles : List Bundle) (lists : List (Vec ℕ)) (x : Subset) (n : ℕ) (leaving : List Bool) : Type 0 where
  pub size : length leaving ≡ length bundles
  pub leaves : (i : ℕ) → IsIn leaving i ↔ (o : ℕ) × (o < n) × IsIn x o × IsListed lists o i

pub leaving_start : (bundles : List Bundle) (lists : List (Vec ℕ)) (x : Subset) → LeavingUpTo bundles lists x 0 (replicate (length bundles) false)
leaving_start bundles lists x = record {
  size = length-replicate {A = Bool} (length bundles) false;
  leaves = λ i. ((λ s. absurd (both_ways (slice_index_or (replicate (length bundles) false) i false) (blank_out (length bundles) i) s)), λ s. absurd (omega (arith, s.1)));
}

-- the bundles of a member are there
pub listed_within : (a : Automaton) (bundles : List Bundle) (lists : List (Vec ℕ)) (o i : ℕ) → AreBySource a bundles lists → IsListed lists o i → i < length bundles
listed_within a bundles lists o i h s = let w = (h.members o i).0 s in get_within bundles i w.0 w.1

pub leaving_more : (bundles : List Bundle) (lists : List (Vec ℕ)) (x : Subset) (n q : ℕ) (places : Vec ℕ) (old new : List Bool) → slice_get lists q ≡ Some places → IsFirstFrom x n q → length new ≡ length old → ((i : ℕ) → IsIn new i ↔ IsIn old i ⊎ Contains places.items i) → LeavingUpTo bundles lists x n old → LeavingUpTo bundles lists x (q + 1) new
leaving_more bundles lists x n q places old new at is size marked h = record {
  size = size ∙ h.size;
  leaves = λ i. ((λ s. to i ((marked i).0 s)), λ s. (marked i).1 (from i s.0 s.2 s.3 (before s.0 q s.1) (cases_lt s.0 n)));
}
  where
    to : (i : ℕ) → IsIn old i ⊎ Contains places.items i → (o : ℕ) × (o < q + 1) × IsIn x o × IsListed lists o i
    to i (inl s) = let w = (h.leaves i).0 s in (w.0, omega (arith, w.1, is.from), w.2, w.3)
    to i (inr s) = (q, omega arith, is.member, (places, at, s))

    from : (i o : ℕ) → IsIn x o → IsListed lists o i → (o < q) ⊎ (o ≡ q) → (o < n) ⊎ (n ≤ o) → IsIn old i ⊎ Contains places.items i
    from i o m s (inl l) (inl k) = inl ((h.leaves i).1 (o, k, m, s))
    from i o m s (inl l) (inr k) = absurd (is.first o k l m)
    from i o m s (inr e) k =
        let same : s.0 ≡ places = one_value lists q s.0 places (ap (slice_get lists) (sym e) ∙ s.1) at in
        inr (subst (λ (z : Vec ℕ). Contains z.items i) same s.2)

pub leaving_end : (a : Automaton) (bundles : List Bundle) (lists : List (Vec ℕ)) (exits : Exits) (n : ℕ) → AreBySource a bundles lists → length exits.from ≡ a.states → ((p : ℕ) → n ≤ p → IsIn exits.from p → ⊥) → LeavingUpTo bundles lists exits.from n exits.leaving.items → AreExits a bundles exits
leaving_end a bundles lists exits n listed size none h = record {
  size = size;
  even = h.size;
  leaves = λ i w g e. leaves i w g ((h.leaves i).0 e);
  stays = λ i w g out o s m. both_ways (slice_index_or exits.leaving.items i false) out ((h.leaves i).1 (o, within o m (cases_lt o n), m, (listed.members o i).1 (w, g, s)));
}
  where
    leaves : (i : ℕ) (w : Bundle) → slice_get bundles i ≡ Some w → (o : ℕ) × (o < n) × IsIn exits.from o × IsListed lists o i → (o : ℕ) × Contains (sources_of w) o × IsIn exits.from o
    leaves i w g s =
        let b = (listed.members s.0 i).0 s.3 in
        let same : b.0 ≡ w = one_value bundles i b.0 w b.1 g in
        (s.0, subst (λ (z : Bundle). Contains (sources_of z) s.0) same b.2, s.2)

    within : (o : ℕ) → IsIn exits.from o → (o < n) ⊎ (n ≤ o) → o < n
    within o m (inl l) = l
    within o m (inr l) = absurd (none o l m)

pub on-ok : {E : Type 0} (r : Result Unit E) (P Q : Type 0) → (P → Q) → OnOk r P → OnOk r Q
on-ok (Ok x) P Q f h = f h
on-ok (Err e) P Q f h = tt
