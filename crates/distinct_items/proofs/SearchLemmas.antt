-- Ways to items, and one more item.
use Rattle.std.proofs.Common.{◌≡◌, ◌≢◌, ◌⊎◌, ℕ, zero, suc, ◌+◌, ◌*◌, ◌<◌, ◌≤◌, inl, inr, refl, List, [], ◌∷◌, ◌++◌, length, get_or, set, slice_get, Some, ap, sym, subst, ◌∙◌, arith, length-append, length-set, get_or-set_same, get_or-set_other}
use Rattle.std.proofs.lemmas.Bool.{cases_lt}
use Rattle.std.proofs.lemmas.List.{get_or_append_left}
use Rattle.std.proofs.lemmas.Option.{slice_get_within, get_or_from_slice_get, slice_get-get_or}
use Rattle.distinct_items.specs.Search.{Bits, Extends, IsAbsent, IsOpen, IsSearchTree, Leads, LeadsTo, slot_of}

-- the item at an index
pub item-at : {T : Type 0} (items : List T) (i : ℕ) → i < length items → (x : T) × (slice_get items i ≡ Some x)
item-at [] i lt = absurd (omega arith)
item-at (x ∷ items) zero lt = (x, refl)
item-at (x ∷ items) (suc i) lt = item-at items i (omega arith)

pub last-of : {T : Type 0} (items : List T) (t : T) → slice_get (items ++ t ∷ []) (length items) ≡ Some t
last-of [] t = refl
last-of (x ∷ items) t = last-of items t

module _ {T : Type 0} (f : Bits T) where
  -- links that stay lead where they led
  leads-on : (roots : ℕ) (t : T) (old new : List ℕ) → Extends old new → (k depth slot i : ℕ) → Leads f roots t old k depth slot i → Leads f roots t new k depth slot i
  leads-on roots t old new more zero depth slot i h = more slot i h
  leads-on roots t old new more (suc k) depth slot i h = (h.0, (more slot h.0 h.1.0, leads-on roots t old new more k (depth + 1) (slot_of f roots t h.0 depth) i h.1.1))

  -- an empty slot leads nowhere
  leads-nowhere : (roots : ℕ) (t : T) (links : List ℕ) (k depth slot i : ℕ) → get_or links slot 0 ≡ 0 → Leads f roots t links k depth slot i → ⊥
  leads-nowhere roots t links zero depth slot i none h = omega (arith, none, h)
  leads-nowhere roots t links (suc k) depth slot i none h = omega (arith, none, h.1.0)

  -- a link to another item leads on after it
  leads-behind : (roots : ℕ) (t : T) (links : List ℕ) (k depth slot i j : ℕ) → get_or links slot 0 ≡ suc j → i ≢ j → Leads f roots t links k depth slot i → LeadsTo f roots t links (depth + 1) (slot_of f roots t j depth) i
  leads-behind roots t links zero depth slot i j link other h = absurd (other (omega (arith, link, h)))
  leads-behind roots t links (suc k) depth slot i j link other h =
      let same : h.0 ≡ j = omega (arith, link, h.1.0) in
      (k, subst (λ m. Leads f roots t links k (depth + 1) (slot_of f roots t m depth) i) same h.1.1)

  -- what is known on the way of t, before the link of this slot
  pub record IsOnWay (roots : ℕ) (t : T) (count : ℕ) (links : List ℕ) (depth slot : ℕ) : Type 0 where
    pub inside : slot < roots + 2 * count
    pub deep : depth ≤ slot
    pub behind : (more : List ℕ) → Extends links more → (i : ℕ) → LeadsTo f roots t more depth slot i → LeadsTo f roots t more 0 (f.root roots t) i

  -- and t itself is ahead, wherever it is
  abbrev pub IsAhead : ℕ → T → List T → List ℕ → ℕ → ℕ → Type 0
  IsAhead roots t items links depth slot = (i : ℕ) → slice_get items i ≡ Some t → LeadsTo f roots t links depth slot i

  pub way-start : (roots : ℕ) (t : T) (count : ℕ) (links : List ℕ) → f.root roots t < roots → IsOnWay roots t count links 0 (f.root roots t)
  way-start roots t count links within = record { inside = omega (arith, within); deep = omega arith; behind = λ more x i h. h }

  pub ahead-start : (roots : ℕ) (t : T) (items : List T) (links : List ℕ) → IsSearchTree f roots items (length items) links → IsAhead roots t items links 0 (f.root roots t)
  ahead-start roots t items links tree = λ i h. tree.found i t (slice_get_within items i t h) h

  pub way-step : (roots : ℕ) (t : T) (items : List T) (count : ℕ) (links : List ℕ) (depth slot j : ℕ) → f.branch t depth < 2 → IsSearchTree f roots items count links → IsOnWay roots t count links depth slot → get_or links slot 0 ≡ suc j
      → IsOnWay roots t count links (depth + 1) (slot_of f roots t j depth)
  way-step roots t items count links depth slot j bit tree way link =
      let later = tree.later slot j link in
      record {
        inside = omega (arith, later.1, bit);
        deep = omega (arith, way.deep, later.0);
        behind = λ more x i h. way.behind more x i (suc h.0, (j, (x slot j link, h.1)));
      }

  pub ahead-step : (roots : ℕ) (t : T) (items : List T) (links : List ℕ) (depth slot j : ℕ) → IsAhead roots t items links depth slot → get_or links slot 0 ≡ suc j → slice_get items j ≢ Some t
      → IsAhead roots t items links (depth + 1) (slot_of f roots t j depth)
  ahead-step roots t items links depth slot j ahead link other = λ i h.
      let led = ahead i h in
      leads-behind roots t links led.0 depth slot i j link (λ same. other (subst (λ m. slice_get items m ≡ Some t) same h)) led.1

  pub way-end : (roots : ℕ) (t : T) (count : ℕ) (links : List ℕ) (depth slot : ℕ) → IsOnWay roots t count links depth slot → get_or links slot 0 ≡ 0 → IsOpen f roots t count links slot
  way-end roots t count links depth slot way none = record {
    inside = way.inside;
    empty = none;
    leads = λ more x i h. way.behind more x i (0, h);
  }

  pub absent-end : (roots : ℕ) (t : T) (items : List T) (links : List ℕ) (depth slot : ℕ) → IsAhead roots t items links depth slot → get_or links slot 0 ≡ 0 → IsAbsent items t
  absent-end roots t items links depth slot ahead none = λ i h. let led = ahead i h in leads-nowhere roots t links led.0 depth slot i none led.1

  -- no item without links
  pub tree-none : (roots : ℕ) (items : List T) (links : List ℕ) → length links ≡ 3 * roots → ((s : ℕ) → get_or links s 0 ≡ 0) → IsSearchTree f roots items 0 links
  tree-none roots items links long none = record {
    long = long;
    few = omega arith;
    later = λ slot i h. absurd (omega (arith, none slot, h));
    found = λ i t lt h. absurd (omega arith);
  }

  same_or_other : (s t : ℕ) → (s ≡ t) ⊎ (s ≢ t)
  same_or_other s t = elim (cases_lt s t) [
    | inl lt ↦ inr (λ e. omega (arith, lt, e))
    | inr ge ↦ elim (cases_lt t s) [ inl gt ↦ inr (λ e. omega (arith, gt, e)) | inr le ↦ inl (omega (arith, ge, le)) ]
  ]

  -- the link to the next item in the slot where its way ended
  tree-linked : (roots : ℕ) (items : List T) (count : ℕ) (links new : List ℕ) (t : T) (slot : ℕ) → IsSearchTree f roots items count links → count < roots → slice_get items count ≡ Some t → IsOpen f roots t count links slot
      → length new ≡ length links → get_or new slot 0 ≡ suc count → ((s : ℕ) → s ≢ slot → get_or new s 0 ≡ get_or links s 0) → IsSearchTree f roots items (count + 1) new
  tree-linked roots items count links new t slot tree room at free long here others = record {
    long = long ∙ tree.long;
    few = omega (arith, room);
    later = later;
    found = found;
  }
    where
      more : Extends links new
      more s i h = elim (same_or_other s slot) [
        | inl e ↦ absurd (omega (arith, free.empty, ap (λ t. get_or links t 0) e, h))
        | inr ne ↦ others s ne ∙ h
      ]

      later : (s i : ℕ) → get_or new s 0 ≡ suc i → (s < roots + 2 * i) × (i < count + 1)
      later s i h = elim (same_or_other s slot) [
        | inl e ↦ let last : i ≡ count = omega (arith, here, ap (λ t. get_or new t 0) e, h) in (omega (arith, last, e, free.inside), omega (arith, last))
        | inr ne ↦ let old = tree.later s i (sym (others s ne) ∙ h) in (old.0, omega (arith, old.1))
      ]

      found : (i : ℕ) (m : T) → i < count + 1 → slice_get items i ≡ Some m → LeadsTo f roots m new 0 (f.root roots m) i
      found i m lt h = elim (cases_lt i count) [
        | inl less ↦ let led = tree.found i m less h in (led.0, leads-on roots m links new more led.0 0 (f.root roots m) i led.1)
        | inr ge ↦
            let last : i ≡ count = omega (arith, ge, lt) in
            let same : Some t ≡ Some m = sym at ∙ subst (λ j. slice_get items j ≡ Some m) last h in
            let is : t ≡ m = cc same in
            subst (λ j. LeadsTo f roots m new 0 (f.root roots m) j) (sym last) (subst (λ k. LeadsTo f roots k new 0 (f.root roots k) count) is (free.leads new more count here))
      ]

  pub tree-next : (roots : ℕ) (items : List T) (count : ℕ) (links : List ℕ) (t : T) (slot link : ℕ) → IsSearchTree f roots items count links → count < roots → slice_get items count ≡ Some t → IsOpen f roots t count links slot
      → link ≡ count + 1 → IsSearchTree f roots items (count + 1) (set links slot link)
  tree-next roots items count links t slot link tree room at free is =
      tree-linked roots items count links (set links slot link) t slot tree room at free (length-set links slot link)
      (get_or-set_same links slot link 0 (omega (arith, free.inside, room, tree.long)) ∙ omega (arith, is))
      (λ s ne. get_or-set_other links slot s link 0 ne)

  -- the same items as the first ones of more
  pub tree-longer : (roots : ℕ) (items : List T) (t : T) (links : List ℕ) → IsSearchTree f roots items (length items) links → IsSearchTree f roots (items ++ t ∷ []) (length items) links
  tree-longer roots items t links tree = record {
    long = tree.long;
    few = tree.few;
    later = tree.later;
    found = λ i m lt h. tree.found i m lt (slice_get-get_or items i m lt ∙ ap Some (sym (get_or_append_left items (t ∷ []) m i lt) ∙ get_or_from_slice_get (items ++ t ∷ []) i m m h));
  }

  -- one more item
  pub tree-push : (roots : ℕ) (items : List T) (links : List ℕ) (t : T) (slot link : ℕ) → IsSearchTree f roots items (length items) links → length items < roots → IsOpen f roots t (length items) links slot
      → link ≡ length items + 1 → IsSearchTree f roots (items ++ t ∷ []) (length (items ++ t ∷ [])) (set links slot link)
  tree-push roots items links t slot link tree room free is =
      subst (λ n. IsSearchTree f roots (items ++ t ∷ []) n (set links slot link)) (sym (length-append items (t ∷ [])))
      (tree-next roots (items ++ t ∷ []) (length items) links t slot link (tree-longer roots items t links tree) room (last-of items t) free is)
