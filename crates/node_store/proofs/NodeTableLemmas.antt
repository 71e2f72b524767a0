-- Searches in a hash table, and one more node in it.
use Rattle.std.proofs.Common.{◌≡◌, ◌≢◌, ℕ, zero, suc, ◌+◌, ◌-◌, ◌<◌, ◌≤◌, inl, inr, List, [], ◌∷◌, length, set, get_or, slice_get, Some, ap, sym, subst, ◌∙◌, arith, refl}
use Rattle.std.specs.Prelude.{All}
use Rattle.std.proofs.lemmas.Bool.{cases_lt}
use Rattle.std.proofs.lemmas.List.{length-set}
use Rattle.std.proofs.lemmas.List.Elements.{All-get_or}
use Rattle.std.proofs.lemmas.Option.{slice_get_within, get_or_from_slice_get, slice_get-get_or}
use Rattle.std.proofs.Common.{get_or-set_same, get_or-set_other}
use Rattle.node_store.specs.declared.narrow.Narrow.{Narrow}
use Rattle.node_store.specs.declared.node_table.Slot.{Slot}
use Rattle.node_store.specs.Narrow.{hash_of}
use Rattle.node_store.specs.NodeTable.{home_of, link_of, AreTaken, HasSlot, IsFound, IsFree, AreWithin, AreMoved}
use Rattle.node_store.proofs.SearchTreeLemmas.{same_or_other}

abbrev none : Slot
none = record { hash = 0; link = 0 }

-- the link in a slot
pub link-at : (slots : List Slot) (s : ℕ) (x : Slot) → slice_get slots s ≡ Some x → link_of slots s ≡ x.link
link-at slots s x h = ap (λ (y : Slot). y.link) (get_or_from_slice_get slots s x none h)

-- ---- searches
-- the first d slots are taken by other nodes than n
pub record IsSearched (all : List Narrow) (slots : List Slot) (home : ℕ) (n : Narrow) (d : ℕ) : Type 0 where
  pub taken : AreTaken slots home d
  pub other : (e i : ℕ) → e < d → slice_get slots (home + e) ≡ Some (record { hash = hash_of n; link = suc i }) → slice_get all i ≢ Some n

-- ---- one more node
module _ (slots : List Slot) (s hash i : ℕ) (inside : s < length slots) where
  abbrev pub after : List Slot
  after = set slots s (record { hash = hash; link = suc i })

  same-slot : get_or after s none ≡ record { hash = hash; link = suc i }
  same-slot = get_or-set_same slots s (record { hash = hash; link = suc i }) none inside

  other-slot : (t : ℕ) → t ≢ s → get_or after t none ≡ get_or slots t none
  other-slot t other = get_or-set_other slots s t (record { hash = hash; link = suc i }) none other

  long : length after ≡ length slots
  long = length-set slots s (record { hash = hash; link = suc i })

  taken-put : (home d : ℕ) → AreTaken slots home d → AreTaken after home d
  taken-put home d taken e h none = elim (same_or_other (home + e) s) [
    | inl is ↦
        let here : link_of after (home + e) ≡ suc i = ap (λ k. link_of after k) is ∙ ap (λ (y : Slot). y.link) same-slot in
        omega (arith, here, none)
    | inr ne ↦ taken e h (sym (ap (λ (y : Slot). y.link) (other-slot (home + e) ne)) ∙ none)
  ]

  pub kept-put : link_of slots s ≡ 0 → (home h k : ℕ) → HasSlot slots home h k → HasSlot after home h k
  kept-put empty home h k has = record {
    d = has.d;
    near = has.near;
    here = slice_get-get_or after (home + has.d) none (omega (arith, long, within)) ∙ ap Some (other-slot (home + has.d) apart ∙ get_or_from_slice_get slots (home + has.d) (record { hash = h; link = suc k }) none has.here);
    taken = taken-put home has.d has.taken;
  }
    where
      within : home + has.d < length slots
      within = slice_get_within slots (home + has.d) (record { hash = h; link = suc k }) has.here

      apart : home + has.d ≢ s
      apart is =
          let link : link_of slots (home + has.d) ≡ suc k = link-at slots (home + has.d) (record { hash = h; link = suc k }) has.here in
          omega (arith, link, empty, ap (link_of slots) is)

  pub here-put : (home : ℕ) → IsFree slots home s → HasSlot after home hash i
  here-put home free = record {
    d = free.d;
    near = free.near;
    here = subst (λ k. slice_get after k ≡ Some (record { hash = hash; link = suc i })) free.is (slice_get-get_or after s none (omega (arith, long, inside)) ∙ ap Some same-slot);
    taken = taken-put home free.d free.taken;
  }

  pub within-put : (n : ℕ) → i < n → AreWithin slots n → AreWithin after n
  within-put n low within t = elim (same_or_other t s) [
    | inl is ↦
        let here : link_of after t ≡ suc i = ap (link_of after) is ∙ ap (λ (y : Slot). y.link) same-slot in
        omega (arith, here, low)
    | inr ne ↦ let there : link_of after t ≡ link_of slots t = ap (λ (y : Slot). y.link) (other-slot t ne) in omega (arith, there, within t)
  ]

-- the same, where the number of slots is read again
pub found-put : (slots : List Slot) (s hash i : ℕ) → s < length slots → link_of slots s ≡ 0 → (h k : ℕ) → IsFound slots h k → IsFound (set slots s (record { hash = hash; link = suc i })) h k
found-put slots s hash i inside empty h k has =
    subst (λ m. HasSlot (set slots s (record { hash = hash; link = suc i })) (home_of m h) h k) (sym (length-set slots s (record { hash = hash; link = suc i }))) (kept-put slots s hash i inside empty (home_of (length slots) h) h k has)

pub found-here : (slots : List Slot) (s hash i : ℕ) → IsFree slots (home_of (length slots) hash) s → IsFound (set slots s (record { hash = hash; link = suc i })) hash i
found-here slots s hash i free =
    subst (λ m. HasSlot (set slots s (record { hash = hash; link = suc i })) (home_of m hash) hash i) (sym (length-set slots s (record { hash = hash; link = suc i }))) (here-put slots s hash i free.inside (home_of (length slots) hash) free)

-- ---- slots that were moved
-- the first k old slots are found in the new ones
pub record AreMovedTo (old new : List Slot) (k : ℕ) : Type 0 where
  pub found : (s h i : ℕ) → s < k → slice_get old s ≡ Some (record { hash = h; link = suc i }) → IsFound new h i
  pub within : (n : ℕ) → AreWithin old n → AreWithin new n

pub moved-none : (old new : List Slot) → All (λ (s : Slot). s ≡ record { hash = 0; link = 0 }) new → AreMovedTo old new 0
moved-none old new empty = record {
  found = λ s h i lt at. absurd (omega (arith, lt));
  within = λ n w s. elim (cases_lt s (length new)) [
    | inl lt ↦ let is : get_or new s none ≡ none = All-get_or (λ (x : Slot). x ≡ none) new s none lt empty in omega (arith, ap (λ (y : Slot). y.link) is)
    | inr ge ↦ beyond new s n ge
  ];
}
  where
    beyond : (xs : List Slot) (s n : ℕ) → length xs ≤ s → link_of xs s ≤ n
    beyond [] s n ge = omega arith
    beyond (x ∷ xs) zero n ge = absurd (omega (arith, ge))
    beyond (x ∷ xs) (suc s) n ge = beyond xs s n (omega (arith, ge))

pub moved-empty : (old new : List Slot) (k : ℕ) → AreMovedTo old new k → link_of old k ≡ 0 → AreMovedTo old new (k + 1)
moved-empty old new k moved empty = record {
  found = λ s h i lt there. elim (cases_lt s k) [
    | inl before ↦ moved.found s h i before there
    | inr ge ↦
        let same : s ≡ k = omega (arith, lt, ge) in
        absurd (omega (arith, link-at old s (record { hash = h; link = suc i }) there, ap (link_of old) same, empty))
  ];
  within = moved.within;
}

-- the slot with another link
with-link : (x : Slot) → x.link ≢ 0 → x ≡ record { hash = x.hash; link = suc (x.link - 1) }
with-link x some = let link : x.link ≡ suc (x.link - 1) = omega (arith, some) in λ i. record { hash = x.hash; link = link i }

moved-slot : (old new : List Slot) (k s : ℕ) (x : Slot) → get_or old k none ≡ x → AreMovedTo old new k → x.link ≢ 0 → IsFree new (home_of (length new) x.hash) s → AreMovedTo old (set new s (record { hash = x.hash; link = suc (x.link - 1) })) (k + 1)
moved-slot old new k s x at moved some free = record {
  found = λ t h j lt there. elim (cases_lt t k) [
    | inl before ↦ found-put new s x.hash (x.link - 1) free.inside free.empty h j (moved.found t h j before there)
    | inr ge ↦
        let same : t ≡ k = omega (arith, lt, ge) in
        let here : get_or old t none ≡ record { hash = h; link = suc j } = get_or_from_slice_get old t (record { hash = h; link = suc j }) none there in
        let both : x ≡ record { hash = h; link = suc j } = sym at ∙ (ap (λ m. get_or old m none) (sym same) ∙ here) in
        let hashes : x.hash ≡ h = ap (λ (y : Slot). y.hash) both in
        let indices : x.link - 1 ≡ j = omega (arith, ap (λ (y : Slot). y.link) both) in
        subst (IsFound (set new s (record { hash = x.hash; link = suc (x.link - 1) })) h) indices (subst (λ g. IsFound (set new s (record { hash = x.hash; link = suc (x.link - 1) })) g (x.link - 1)) hashes (found-here new s x.hash (x.link - 1) free))
  ];
  within = λ n w. within-put new s x.hash (x.link - 1) free.inside n (omega (arith, some, w k, ap (λ (y : Slot). y.link) at)) (moved.within n w);
}

pub moved-step : (old new : List Slot) (k s : ℕ) → AreMovedTo old new k → link_of old k ≢ 0 → IsFree new (home_of (length new) (get_or old k none).hash) s → AreMovedTo old (set new s (get_or old k none)) (k + 1)
moved-step old new k s moved some free = subst (λ (y : Slot). AreMovedTo old (set new s y) (k + 1)) (sym (with-link (get_or old k none) some)) (moved-slot old new k s (get_or old k none) refl moved some free)

pub moved-all : (old new : List Slot) → AreMovedTo old new (length old) → AreMoved old new
moved-all old new moved = record {
  found = λ h i has. moved.found (home_of (length old) h + has.d) h i (slice_get_within old (home_of (length old) h + has.d) (record { hash = h; link = suc i }) has.here) has.here;
  within = moved.within;
}

pub moved-same : (slots : List Slot) → AreMoved slots slots
moved-same slots = record { found = λ h i has. has; within = λ n w. w }
