-- Bundles that gain edges, one by one.
use Rattle.std.proofs.Common.{◌≡◌, ℕ, ◌+◌, ◌-◌, ◌^◌, ◌<◌, ◌≤◌, ◌↔◌, ◌⊎◌, inl, inr, refl, sym, ap, subst, ◌∙◌, arith, true, false, List, [], ◌∷◌, ◌++◌, length, Some, slice_get, slice_index_or, get_or, set, Contains, length-append, map, option_map, zero, suc, nat_eq}
use Rattle.std.proofs.lemmas.List.{ext_get_or}
use Rattle.std.proofs.lemmas.Bool.Decides.{eqb_tells}
use Rattle.std.proofs.lemmas.List.Elements.{Contains-append_left, Contains-append_right, Contains-append_cases}
use Rattle.std.proofs.lemmas.List.Sorted.{Contains-permutation, IsPermutation-sym}
use Rattle.std.proofs.lemmas.Option.{get_or_from_slice_get}
use Rattle.std.specs.List.Sorted.{IsNonDecreasingBy, IsPermutation}
use Rattle.marker_nfa.specs.Automaton.{Automaton, IsAutomaton, Moves}
use Rattle.marker_nfa.specs.Parts.{Adds}
use Rattle.marker_nfa.specs.declared.nfa.Edge.{Edge}
use Rattle.marker_dfa.specs.declared.bundles.Bundle.{Bundle}
use Rattle.marker_dfa.specs.declared.bundles.Readers.{Readers}
use Rattle.marker_dfa.specs.Bundles.{edge_from, edges_in, sources_of}
use Rattle.marker_dfa.specs.Making.{AreBundles, AreInOrder, AreReaders, BundleAt, bytes_of, Carries, IsLike, MarksFall, SomeCarries}
use Rattle.marker_dfa.proofs.Lists.{at_contains, contains_at, contains_push, length_map, get_push, get_within, one_value, push_get, push_last, set_cases, set_here, set_there}
use Rattle.marker_dfa.proofs.Leaving.{four_small}

-- ---- the edges of bundles

map_back : {X Y : Type 0} (f : X → Y) (xs : List X) (k : ℕ) (y : Y) → slice_get (map f xs) k ≡ Some y → (x : X) × (slice_get xs k ≡ Some x) × (f x ≡ y)
map_back f [] k y h = absurd (cc)
map_back f (x ∷ xs) zero y h = (x, refl, cc)
map_back f (x ∷ xs) (suc k) y h = map_back f xs k y h

map_on : {X Y : Type 0} (f : X → Y) (xs : List X) (k : ℕ) (x : X) → slice_get xs k ≡ Some x → slice_get (map f xs) k ≡ Some (f x)
map_on f [] k x h = absurd (cc)
map_on f (y ∷ xs) zero x h = ap (option_map f) h
map_on f (y ∷ xs) (suc k) x h = map_on f xs k x h

-- a bundle has an edge
pub record HasEdge (w : Bundle) (e : Edge) : Type 0 where
  pub source : Contains (sources_of w) e.from
  pub like : IsLike w e

abbrev pub SomeHas : List Bundle → Edge → Type 0
SomeHas bundles e = (i : ℕ) × BundleAt bundles i (λ w. HasEdge w e)

same_edge : (x y : Edge) → x.from ≡ y.from → x.mark ≡ y.mark → x.letters ≡ y.letters → x.to ≡ y.to → x ≡ y
same_edge x y from mark letters to i = record { from = from i; mark = mark i; letters = letters i; to = to i }

edge_back : (w : Bundle) (e : Edge) → Contains (map (edge_from w) (sources_of w)) e → HasEdge w e
edge_back w e c =
    let k = at_contains (map (edge_from w) (sources_of w)) e c in
    let o = map_back (edge_from w) (sources_of w) k.0 e k.1 in
    record {
      source = subst (λ (q : ℕ). Contains (sources_of w) q) (ap (λ (x : Edge). x.from) o.2) (contains_at (sources_of w) k.0 o.0 o.1);
      like = record { mark = ap (λ (x : Edge). x.mark) o.2; to = ap (λ (x : Edge). x.to) o.2; letters = ap (λ (x : Edge). x.letters) o.2 };
    }

edge_on : (w : Bundle) (e : Edge) → HasEdge w e → Contains (map (edge_from w) (sources_of w)) e
edge_on w e h =
    let k = at_contains (sources_of w) e.from h.source in
    let same : edge_from w e.from ≡ e = same_edge (edge_from w e.from) e refl h.like.mark h.like.letters h.like.to in
    contains_at (map (edge_from w) (sources_of w)) k.0 e (map_on (edge_from w) (sources_of w) k.0 e.from k.1 ∙ ap Some same)

pub has_edge : (bundles : List Bundle) (e : Edge) → Contains (edges_in bundles) e → SomeHas bundles e
has_edge [] e c = let l : c.0 < 0 = c.1 in absurd (omega (arith, l))
has_edge (w ∷ bundles) e c = go (Contains-append_cases (map (edge_from w) (sources_of w)) (edges_in bundles) e c) (λ k. has_edge bundles e k)
  where
    go : Contains (map (edge_from w) (sources_of w)) e ⊎ Contains (edges_in bundles) e → (Contains (edges_in bundles) e → SomeHas bundles e) → SomeHas (w ∷ bundles) e
    go (inl k) rec = (0, (w, refl, edge_back w e k))
    go (inr k) rec = let s = rec k in (suc s.0, s.1)

pub in_edges : (bundles : List Bundle) (e : Edge) (i : ℕ) (w : Bundle) → slice_get bundles i ≡ Some w → HasEdge w e → Contains (edges_in bundles) e
in_edges [] e i w at h = absurd (cc)
in_edges (v ∷ bundles) e zero w at h =
    let same : w ≡ v = cc in
    Contains-append_left (map (edge_from v) (sources_of v)) (edges_in bundles) e (edge_on v e (subst (λ (z : Bundle). HasEdge z e) same h))
in_edges (v ∷ bundles) e (suc i) w at h = Contains-append_right (map (edge_from v) (sources_of v)) (edges_in bundles) e (in_edges bundles e i w at h)

pub some_in : (bundles : List Bundle) (e : Edge) → SomeHas bundles e → Contains (edges_in bundles) e
some_in bundles e s = let w = s.1 in in_edges bundles e s.0 w.0 w.1 w.2

-- one bundle gains one source
module _ (old : List Bundle) (k : ℕ) (w v : Bundle) (e : Edge) (at : slice_get old k ≡ Some w) (like : IsLike w e) (first : v.first ≡ w.first) (others : v.others.items ≡ w.others.items ++ e.from ∷ []) (mark : v.mark ≡ w.mark) (letters : v.letters ≡ w.letters) (target : v.to ≡ w.to) where
  lt : k < length old
  lt = get_within old k w at

  sources : (o : ℕ) → Contains (sources_of v) o ↔ Contains (sources_of w) o ⊎ (o ≡ e.from)
  sources o =
      let same : sources_of v ≡ sources_of w ++ e.from ∷ [] = λ i. first i ∷ others i in
      subst (λ (l : List ℕ). Contains l o ↔ Contains (sources_of w) o ⊎ (o ≡ e.from)) (sym same) (contains_push (sources_of w) e.from o)

  more : (x : Edge) → HasEdge w x → HasEdge v x
  more x h = record { source = (sources x.from).1 (inl h.source); like = record { mark = mark ∙ h.like.mark; to = target ∙ h.like.to; letters = letters ∙ h.like.letters } }

  new_one : (x : Edge) → x ≡ e → HasEdge v x
  new_one x q = record {
    source = (sources x.from).1 (inr (ap (λ (z : Edge). z.from) q));
    like = record { mark = mark ∙ like.mark ∙ ap (λ (z : Edge). z.mark) (sym q); to = target ∙ like.to ∙ ap (λ (z : Edge). z.to) (sym q); letters = letters ∙ like.letters ∙ ap (λ (z : Edge). z.letters) (sym q) };
  }

  apart : (x : Edge) → HasEdge v x → SomeHas old x ⊎ (x ≡ e)
  apart x h = go ((sources x.from).0 h.source)
    where
      go : Contains (sources_of w) x.from ⊎ (x.from ≡ e.from) → SomeHas old x ⊎ (x ≡ e)
      go (inl s) = inl (k, (w, at, record { source = s; like = record { mark = sym mark ∙ h.like.mark; to = sym target ∙ h.like.to; letters = sym letters ∙ h.like.letters } }))
      go (inr s) = inr (same_edge x e s (sym h.like.mark ∙ mark ∙ like.mark) (sym h.like.letters ∙ letters ∙ like.letters) (sym h.like.to ∙ target ∙ like.to))

  pub joined : Adds (edges_in old) (edges_in (set old k v)) (λ x. x ≡ e)
  joined x = ((λ c. (let s = has_edge (set old k v) x c in let u = s.1 in to s.0 u.0 u.2 (set_cases old k v s.0 u.0 lt u.1))), λ c. from c)
    where
      listed : SomeHas old x ⊎ (x ≡ e) → Contains (edges_in old) x ⊎ (x ≡ e)
      listed (inl s) = inl (some_in old x s)
      listed (inr q) = inr q

      to : (j : ℕ) (u : Bundle) → HasEdge u x → ((j ≡ k) × (v ≡ u)) ⊎ ((j ≡ k → ⊥) × (slice_get old j ≡ Some u)) → Contains (edges_in old) x ⊎ (x ≡ e)
      to j u h (inl q) = listed (apart x (subst (λ (z : Bundle). HasEdge z x) (sym q.1) h))
      to j u h (inr q) = inl (in_edges old x j u q.1 h)

      keep : (j : ℕ) (u : Bundle) → slice_get old j ≡ Some u → HasEdge u x → ((nat_eq j k ≡ true) × (j ≡ k)) ⊎ ((nat_eq j k ≡ false) × (j ≡ k → ⊥)) → Contains (edges_in (set old k v)) x
      keep j u g h (inl q) =
          let same : u ≡ w = one_value old k u w (ap (slice_get old) (sym q.1) ∙ g) at in
          in_edges (set old k v) x k v (set_here old k v lt) (more x (subst (λ (z : Bundle). HasEdge z x) same h))
      keep j u g h (inr q) = in_edges (set old k v) x j u (set_there old k v j u q.1 g) h

      from : Contains (edges_in old) x ⊎ (x ≡ e) → Contains (edges_in (set old k v)) x
      from (inl c) = let s = has_edge old x c in let u = s.1 in keep s.0 u.0 u.1 u.2 (eqb_tells s.0 k)
      from (inr q) = in_edges (set old k v) x k v (set_here old k v lt) (new_one x q)

-- one bundle more, of one edge
module _ (old : List Bundle) (v : Bundle) (e : Edge) (first : v.first ≡ e.from) (others : v.others.items ≡ []) (mark : v.mark ≡ e.mark) (letters : v.letters ≡ e.letters) (target : v.to ≡ e.to) where
  sole : (o : ℕ) → Contains (sources_of v) o ↔ Contains [] o ⊎ (o ≡ e.from)
  sole o =
      let same : sources_of v ≡ [] ++ e.from ∷ [] = λ i. first i ∷ others i in
      subst (λ (l : List ℕ). Contains l o ↔ Contains [] o ⊎ (o ≡ e.from)) (sym same) (contains_push [] e.from o)

  only : (o : ℕ) → Contains (sources_of v) o → o ≡ e.from
  only o c = go ((sole o).0 c)
    where
      go : Contains [] o ⊎ (o ≡ e.from) → o ≡ e.from
      go (inl s) = let l : s.0 < 0 = s.1 in absurd (omega (arith, l))
      go (inr s) = s

  pub opened : Adds (edges_in old) (edges_in (old ++ v ∷ [])) (λ x. x ≡ e)
  opened x = ((λ c. (let s = has_edge (old ++ v ∷ []) x c in let u = s.1 in to s.0 u.0 u.2 (get_push old v u.0 s.0 u.1))), λ c. from c)
    where
      to : (j : ℕ) (u : Bundle) → HasEdge u x → (slice_get old j ≡ Some u) ⊎ ((j ≡ length old) × (v ≡ u)) → Contains (edges_in old) x ⊎ (x ≡ e)
      to j u h (inl q) = inl (in_edges old x j u q h)
      to j u h (inr q) =
          let g = subst (λ (z : Bundle). HasEdge z x) (sym q.1) h in
          inr (same_edge x e (only x.from g.source) (sym g.like.mark ∙ mark) (sym g.like.letters ∙ letters) (sym g.like.to ∙ target))

      from : Contains (edges_in old) x ⊎ (x ≡ e) → Contains (edges_in (old ++ v ∷ [])) x
      from (inl c) = let s = has_edge old x c in let u = s.1 in in_edges (old ++ v ∷ []) x s.0 u.0 (push_get old v u.0 s.0 u.1) u.2
      from (inr q) = in_edges (old ++ v ∷ []) x (length old) v (push_last old v) (record {
        source = (sole x.from).1 (inr (ap (λ (z : Edge). z.from) q));
        like = record { mark = mark ∙ ap (λ (z : Edge). z.mark) (sym q); to = target ∙ ap (λ (z : Edge). z.to) (sym q); letters = letters ∙ ap (λ (z : Edge). z.letters) (sym q) };
      })

-- the bundles that have an automaton's edges are its bundles
pub are_bundles : (a : Automaton) (bundles : List Bundle) → IsAutomaton a → ((e : Edge) → Contains a.edges e ↔ Contains (edges_in bundles) e) → AreBundles a bundles
are_bundles a bundles is same = record {
  wellmade = record {
    within = λ i o w at s. (is.edges_within (edge_from w o) (there i o w at s)).0;
    marks = λ i w at. is.wellmarked.edge_marks (edge_from w w.first) (there i w.first w at (first_in w));
    targets = λ i w at. (is.edges_within (edge_from w w.first) (there i w.first w at (first_in w))).1;
  };
  moves = λ o m b p. ((λ c. (let w = c.1 in to o m b p c.0 w.0 w.1 w.2)), λ mv. from o m b p mv);
}
  where
    first_in : (w : Bundle) → Contains (sources_of w) w.first
    first_in w = (0, omega arith, refl)

    there : (i o : ℕ) (w : Bundle) → slice_get bundles i ≡ Some w → Contains (sources_of w) o → Contains a.edges (edge_from w o)
    there i o w at s = (same (edge_from w o)).1 (in_edges bundles (edge_from w o) i w at (record { source = s; like = record { mark = refl; to = refl; letters = refl } }))

    to : (o m b p i : ℕ) (w : Bundle) → slice_get bundles i ≡ Some w → Carries w o m b p → Moves a o m b p
    to o m b p i w at c = record { edge = edge_from w o; among = there i o w at c.from; from = refl; mark = c.mark; letter = c.letter; to = c.to }

    from : (o m b p : ℕ) → Moves a o m b p → SomeCarries bundles o m b p
    from o m b p mv =
        let s = has_edge bundles mv.edge ((same mv.edge).0 mv.among) in
        let w = s.1 in
        let like = w.2.like in (
          s.0,
          (
            w.0,
            w.1,
            record {
              from = subst (λ (q : ℕ). Contains (sources_of w.0) q) mv.from w.2.source;
              mark = like.mark ∙ mv.mark;
              letter = ap (λ l. slice_index_or l b false) like.letters ∙ mv.letter;
              to = like.to ∙ mv.to;
            },
          ),
        )

-- the order of bundles doesn't matter
pub same_edges : (old new : List Bundle) → ((w : Bundle) → Contains new w ↔ Contains old w) → (e : Edge) → Contains (edges_in new) e ↔ Contains (edges_in old) e
same_edges old new same e = ((λ c. by new old (λ w k. (same w).0 k) c), λ c. by old new (λ w k. (same w).1 k) c)
  where
    by : (from to : List Bundle) → ((w : Bundle) → Contains from w → Contains to w) → Contains (edges_in from) e → Contains (edges_in to) e
    by from to f c =
        let s = has_edge from e c in
        let w = s.1 in
        let k = at_contains to w.0 (f w.0 (contains_at from s.0 w.0 w.1)) in
        in_edges to e k.0 w.0 k.1 w.2

in_any_order : (a : Automaton) (old new : List Bundle) → ((w : Bundle) → Contains new w ↔ Contains old w) → AreBundles a old → AreBundles a new
in_any_order a old new same h = record {
  wellmade = record {
    within = λ i o w g. (let c = back i w g in h.wellmade.within c.0 o w c.1);
    marks = λ i w g. (let c = back i w g in h.wellmade.marks c.0 w c.1);
    targets = λ i w g. (let c = back i w g in h.wellmade.targets c.0 w c.1);
  };
  moves = λ o m b p. ((λ s. (h.moves o m b p).0 (to o m b p s)), λ mv. from o m b p ((h.moves o m b p).1 mv));
}
  where
    back : (i : ℕ) (w : Bundle) → slice_get new i ≡ Some w → (j : ℕ) × (slice_get old j ≡ Some w)
    back i w g = at_contains old w ((same w).0 (contains_at new i w g))

    on : (i : ℕ) (w : Bundle) → slice_get old i ≡ Some w → (j : ℕ) × (slice_get new j ≡ Some w)
    on i w g = at_contains new w ((same w).1 (contains_at old i w g))

    to : (o m b p : ℕ) → SomeCarries new o m b p → SomeCarries old o m b p
    to o m b p s = let w = s.1 in let c = back s.0 w.0 w.1 in (c.0, (w.0, c.1, w.2))

    from : (o m b p : ℕ) → SomeCarries old o m b p → SomeCarries new o m b p
    from o m b p s = let w = s.1 in let c = on s.0 w.0 w.1 in (c.0, (w.0, c.1, w.2))

pub reordered : (old new : List Bundle) → IsPermutation old new → (w : Bundle) → Contains new w ↔ Contains old w
reordered old new moved w = ((λ c. Contains-permutation new old w (IsPermutation-sym old new moved) c), λ c. Contains-permutation old new w moved c)

-- bundles by a key that rises where marks fall
pub in_order : (a : Automaton) (old new : List Bundle) → a.variables ≤ 8 → IsPermutation old new → IsNonDecreasingBy (λ (w : Bundle). 65535 - w.mark) new → AreBundles a old → AreInOrder a new
in_order a old new few moved rise h = record { are = there; fall = λ i j v w l g k. falls i j v w l g k }
  where
    there : AreBundles a new
    there = in_any_order a old new (reordered old new moved) h

    small : (i : ℕ) (w : Bundle) → slice_get new i ≡ Some w → w.mark ≤ 65535
    small i w g = let s = four_small a.variables (4 ^ a.variables) few refl in omega (arith, there.wellmade.marks i w g, s)

    falls : MarksFall new
    falls i j v w l g k =
        let up = rise i j v (omega (arith, l)) (get_within new j w k) in
        let first : get_or new i v ≡ v = get_or_from_slice_get new i v v g in
        let second : get_or new j v ≡ w = get_or_from_slice_get new j w v k in
        let keys : 65535 - v.mark ≤ 65535 - w.mark = omega (arith, up, ap (λ (b : Bundle). 65535 - b.mark) first, ap (λ (b : Bundle). 65535 - b.mark) second) in
        omega (arith, keys, small i v g, small j w k)

-- those of the first n bundles that read a byte
pub record ReadersUpTo (bundles : List Bundle) (b n : ℕ) (places : List ℕ) : Type 0 where
  pub rising : (i j m k : ℕ) → i < j → slice_get places i ≡ Some m → slice_get places j ≡ Some k → m < k
  pub members : (i : ℕ) → Contains places i ↔ (i < n) × BundleAt bundles i (λ w. slice_index_or w.letters b false ≡ true)

pub readers_start : (bundles : List Bundle) (b : ℕ) → ReadersUpTo bundles b 0 []
readers_start bundles b = record {
  rising = λ i j m k l g h. absurd (cc);
  members = λ i. ((λ c. (let l : c.0 < 0 = c.1 in absurd (omega (arith, l)))), λ s. (let l : i < 0 = s.0 in absurd (omega (arith, l))));
}

module _ (bundles : List Bundle) (b n : ℕ) (w : Bundle) (places : List ℕ) (at : slice_get bundles n ≡ Some w) (h : ReadersUpTo bundles b n places) where
  nearer : (j : ℕ) → j < n + 1 → (j < n) ⊎ (j ≡ n)
  nearer j l = grind arith

  letter_here : (i : ℕ) → BundleAt bundles i (λ w. slice_index_or w.letters b false ≡ true) → i ≡ n → slice_index_or w.letters b false ≡ true
  letter_here i s q =
      let same : s.0 ≡ w = one_value bundles n s.0 w (ap (slice_get bundles) (sym q) ∙ s.1) at in
      subst (λ (v : Bundle). slice_index_or v.letters b false ≡ true) same s.2

  pub readers_more : slice_index_or w.letters b false ≡ true → ReadersUpTo bundles b (n + 1) (places ++ n ∷ [])
  readers_more letter = record {
    rising = λ i j m k l g q. rises i j m k l (get_push places n m i g) (get_push places n k j q);
    members = λ i. ((λ c. to i ((contains_push places n i).0 c)), λ s. (contains_push places n i).1 (from i s.1 (nearer i s.0)));
  }
    where
      below : (i m : ℕ) → slice_get places i ≡ Some m → m < n
      below i m g = ((h.members m).0 (contains_at places i m g)).0

      rises : (i j m k : ℕ) → i < j → (slice_get places i ≡ Some m) ⊎ ((i ≡ length places) × (n ≡ m)) → (slice_get places j ≡ Some k) ⊎ ((j ≡ length places) × (n ≡ k)) → m < k
      rises i j m k l (inl g) (inl q) = h.rising i j m k l g q
      rises i j m k l (inl g) (inr q) = omega (arith, below i m g, q.1)
      rises i j m k l (inr g) (inl q) = absurd (omega (arith, l, g.0, get_within places j k q))
      rises i j m k l (inr g) (inr q) = absurd (omega (arith, l, g.0, q.0))

      to : (i : ℕ) → Contains places i ⊎ (i ≡ n) → (i < n + 1) × BundleAt bundles i (λ w. slice_index_or w.letters b false ≡ true)
      to i (inl c) = let s = (h.members i).0 c in (omega (arith, s.0), s.1)
      to i (inr q) = (omega (arith, q), (w, ap (slice_get bundles) q ∙ at, letter))

      from : (i : ℕ) → BundleAt bundles i (λ w. slice_index_or w.letters b false ≡ true) → (i < n) ⊎ (i ≡ n) → Contains places i ⊎ (i ≡ n)
      from i s (inl l) = inl ((h.members i).1 (l, s))
      from i s (inr q) = inr q

  pub readers_pass : slice_index_or w.letters b false ≡ false → ReadersUpTo bundles b (n + 1) places
  readers_pass without = record {
    rising = h.rising;
    members = λ i. ((λ c. (let s = (h.members i).0 c in (omega (arith, s.0), s.1))), λ s. (h.members i).1 (from i s.1 (nearer i s.0)));
  }
    where
      from : (i : ℕ) → BundleAt bundles i (λ w. slice_index_or w.letters b false ≡ true) → (i < n) ⊎ (i ≡ n) → (i < n) × BundleAt bundles i (λ w. slice_index_or w.letters b false ≡ true)
      from i s (inl l) = (l, s)
      from i s (inr q) = let bad : false ≡ true = sym without ∙ letter_here i s q in absurd (cc)

pub readers_end : (bundles : List Bundle) (readers : Readers) (n : ℕ) → length bundles ≤ n → ReadersUpTo bundles readers.byte n readers.places.items → AreReaders bundles readers
readers_end bundles readers n le h = record {
  rising = h.rising;
  members = λ i. ((λ c. ((h.members i).0 c).1), λ s. (h.members i).1 (omega (arith, get_within bundles i s.0 s.1, le), s));
}

-- the readers of the first n bytes
pub record AllReadersUpTo (bundles : List Bundle) (bytes : List ℕ) (n : ℕ) (readers : List Readers) : Type 0 where
  pub size : length readers ≡ n
  pub each : (k : ℕ) (r : Readers) → slice_get readers k ≡ Some r → AreReaders bundles r
  pub byte : (k : ℕ) (r : Readers) → slice_get readers k ≡ Some r → slice_get bytes k ≡ Some r.byte

pub all_readers_start : (bundles : List Bundle) (bytes : List ℕ) → AllReadersUpTo bundles bytes 0 []
all_readers_start bundles bytes = record { size = refl; each = λ k r g. absurd (cc); byte = λ k r g. absurd (cc) }

pub all_readers_more : (bundles : List Bundle) (bytes : List ℕ) (n b : ℕ) (old : List Readers) (r : Readers) → slice_get bytes n ≡ Some b → AllReadersUpTo bundles bytes n old → AreReaders bundles r → r.byte ≡ b → AllReadersUpTo bundles bytes (n + 1) (old ++ r ∷ [])
all_readers_more bundles bytes n b old r at h are e = record {
  size = omega (arith, length-append old (r ∷ []), h.size);
  each = λ k s g. each k s (get_push old r s k g);
  byte = λ k s g. byte k s (get_push old r s k g);
}
  where
    each : (k : ℕ) (s : Readers) → (slice_get old k ≡ Some s) ⊎ ((k ≡ length old) × (r ≡ s)) → AreReaders bundles s
    each k s (inl g) = h.each k s g
    each k s (inr q) = subst (λ (z : Readers). AreReaders bundles z) q.1 are

    byte : (k : ℕ) (s : Readers) → (slice_get old k ≡ Some s) ⊎ ((k ≡ length old) × (r ≡ s)) → slice_get bytes k ≡ Some s.byte
    byte k s (inl g) = h.byte k s g
    byte k s (inr q) = ap (slice_get bytes) (q.0 ∙ h.size) ∙ at ∙ ap Some (sym e) ∙ ap (λ (z : Readers). Some z.byte) q.1

pub byte_at : (readers : List Readers) (k : ℕ) (r : Readers) → slice_get readers k ≡ Some r → slice_get (bytes_of readers) k ≡ Some r.byte
byte_at [] k r h = absurd (cc)
byte_at (s ∷ readers) zero r h = ap (option_map (λ (z : Readers). z.byte)) h
byte_at (s ∷ readers) (suc k) r h = byte_at readers k r h

pub all_bytes : (bundles : List Bundle) (bytes : List ℕ) (n : ℕ) (readers : List Readers) → length bytes ≡ n → AllReadersUpTo bundles bytes n readers → bytes_of readers ≡ bytes
all_bytes bundles bytes n readers size h = ext_get_or 0 (bytes_of readers) bytes (count ∙ h.size ∙ sym size) (λ p lt. go p (omega (arith, lt, count)))
  where
    count : length (bytes_of readers) ≡ length readers
    count = length_map (λ (r : Readers). r.byte) readers

    some_reader : (readers : List Readers) (p : ℕ) → p < length readers → (r : Readers) × (slice_get readers p ≡ Some r)
    some_reader [] p lt = absurd (omega (arith, lt))
    some_reader (r ∷ readers) zero lt = (r, refl)
    some_reader (r ∷ readers) (suc p) lt = some_reader readers p (omega (arith, lt))

    go : (p : ℕ) → p < length readers → get_or (bytes_of readers) p 0 ≡ get_or bytes p 0
    go p lt =
        let r = some_reader readers p lt in
        get_or_from_slice_get (bytes_of readers) p r.0.byte 0 (byte_at readers p r.0 r.1) ∙ sym (get_or_from_slice_get bytes p r.0.byte 0 (h.byte p r.0 r.1))
