-- What the slots and their index say of the names and values.
use Rattle.std.proofs.Common.{◌≡◌, ℕ, zero, suc, ◌+◌, ◌<◌, ◌≤◌, Bool, true, false, cond, List, [], ◌∷◌, ◌++◌, length, map, filter, take, slice_get, get_or, set, Option, None, Some, Result, Ok, Err, OnOk, OnErr, is_some, refl, sym, ap, subst, ◌∙◌, true≢false, arith}
use Rattle.std.specs.Prelude.{unwrap_or}
use Rattle.std.specs.Option.{option_map}
use Rattle.std.specs.Cmp.Lexicographic.{same_text}
use Rattle.std.specs.List.{IsDistinct, AllByRecursion}
use Rattle.std.proofs.lemmas.Map.Keys.{IsDistinct-head, IsDistinct-tail, IsDistinct-cons}
use Rattle.std.proofs.lemmas.Cmp.{nat_list_eq_equiv}
use Rattle.std.proofs.lemmas.List.{take_all}
use Rattle.std.proofs.Math.ListN.{length-append}
use Rattle.name_map.specs.Named.{Named, is_same, value_of, put, taken_out, with_value, AreDistinctNames}
use Rattle.name_map.specs.Kept.{before, live, AreIndexed, HasNames, AreSlots, IsSlotOf, IsNumbered}
use Rattle.name_map.proofs.NamedLaws.{same-self, value_of-put, value_of-put-other, value_of-taken_out, value_of-taken_out-other, length-taken_out, is_some-with_value}

pub some_is : {X : Type 0} {x y : X} → Some x ≡ Some y → x ≡ y
some_is {X} {x} p = ap (λ o. unwrap_or o x) p

-- what an index reads
pub read : {X : Type 0} (xs : List X) (i : ℕ) (r : X) → i < length xs → r ≡ get_or xs i r → slice_get xs i ≡ Some r
read [] i r low e = absurd (omega (arith, low))
read (x ∷ xs) zero r low e = ap (λ y. Some y) (sym e)
read (x ∷ xs) (suc i) r low e = read xs i r (omega (arith, low)) e

-- the slots of a map
abbrev pub Row : Type 0 → Type 0
Row A = List (Option (List ℕ × A))

abbrev pub Numbers : Type 0
Numbers = List ℕ → Option ℕ

-- the number of a slot is within, and its pair has the name and the value
pub record Found {A : Type 0} (i j : ℕ) (os : Row A) (n : List ℕ) (v : A) : Type 0 where
  pub slot : ℕ
  pub pair : List ℕ × A
  pub sum : j ≡ i + slot
  pub there : slice_get os slot ≡ Some (Some pair)
  pub name : is_same n pair.0 ≡ true
  pub value : pair.1 ≡ v

distinct-none : IsDistinct is_same []
unfolding IsDistinct
distinct-none = tt

length-with : {A : Type 0} (ps : Named A) (i : ℕ) (w : A) → length (with_value ps i w) ≡ length ps
length-with [] i w = refl
length-with (p ∷ ps) zero w = refl
length-with (p ∷ ps) (suc i) w = ap suc (length-with ps i w)

put-last : {A : Type 0} (ps : Named A) (n : List ℕ) (v : A) → value_of ps n ≡ None → put ps n v ≡ ps ++ (n, v) ∷ []
put-last [] n v q = refl
put-last (p ∷ ps) n v q = by (is_same n p.0) q (put-last ps n v)
  where
    by : (b : Bool) → cond b (Some p.1) (value_of ps n) ≡ None → (value_of ps n ≡ None → put ps n v ≡ ps ++ (n, v) ∷ []) → cond b ((n, v) ∷ ps) (p ∷ put ps n v) ≡ p ∷ (ps ++ (n, v) ∷ [])
    by true r rest = absurd (cc r)
    by false r rest = ap (λ qs. p ∷ qs) (rest r)

none-is : {X : Type 0} (o : Option X) → is_some o ≡ false → o ≡ None
none-is None q = refl
none-is (Some x) q = absurd (true≢false q)

some-there : {X : Type 0} (o : Option X) → is_some o ≡ true → (x : X) × (o ≡ Some x)
some-there None q = absurd (true≢false (sym q))
some-there (Some x) q = (x, refl)

flipped : (n m : List ℕ) → is_same n m ≡ false → is_same m n ≡ false
flipped n m e = nat_list_eq_equiv.symm m n ∙ e

set-length : {X : Type 0} (xs : List X) (k : ℕ) (x : X) → length (set xs k x) ≡ length xs
set-length [] k x = refl
set-length (y ∷ ys) zero x = refl
set-length (y ∷ ys) (suc k) x = ap suc (set-length ys k x)

module _ {A : Type 0} where
  pub length-live : (os : Row A) → length (live os) ≤ length os
  length-live [] = omega arith
  length-live (None ∷ os) = omega (arith, length-live os)
  length-live (Some p ∷ os) = omega (arith, length-live os)

  live-append : (os : Row A) (p : List ℕ × A) → live (os ++ Some p ∷ []) ≡ live os ++ p ∷ []
  live-append [] p = refl
  live-append (None ∷ os) p = live-append os p
  live-append (Some q ∷ os) p = ap (λ ps. q ∷ ps) (live-append os p)

  -- a name whose slot stands before these is none of theirs
  apart : (index : Numbers) (i j : ℕ) (os : Row A) (n : List ℕ) → AreIndexed index i os → index n ≡ Some j → j < i → AllByRecursion (λ m. is_same n m ≡ false) (map (λ p. p.0) (live os))
  apart index i j [] n h at low = tt
  apart index i j (None ∷ os) n h at low = apart index (suc i) j os n h at (omega (arith, low))
  apart index i j (Some p ∷ os) n h at low = (by (is_same n p.0) refl, apart index (suc i) j os n h.1 at (omega (arith, low)))
    where
      by : (b : Bool) → b ≡ is_same n p.0 → is_same n p.0 ≡ false
      by true q = absurd (omega (arith, low, some_is (sym at ∙ (ap index (same_text n p.0 q) ∙ h.0))))
      by false q = sym q

  names-apart : (index : Numbers) (i : ℕ) (os : Row A) → AreIndexed index i os → AreDistinctNames (live os)
  names-apart index i [] h = distinct-none
  names-apart index i (None ∷ os) h = names-apart index (suc i) os h
  names-apart index i (Some p ∷ os) h = IsDistinct-cons is_same p.0 (map (λ q. q.0) (live os)) (apart index (suc i) i os p.0 h.1 h.0 (omega arith)) (names-apart index (suc i) os h.1)

  pub names-distinct : (index : Numbers) (os : Row A) (empty : ℕ) → AreSlots index os empty → AreDistinctNames (live os)
  names-distinct index os empty h = names-apart index 0 os h.indexed

  -- the slot of a name with a value
  found-from : (index : Numbers) (i j : ℕ) (os : Row A) (n : List ℕ) (v : A) → AreIndexed index i os → index n ≡ Some j → value_of (live os) n ≡ Some v → Found i j os n v
  found-from index i j [] n v h at there = absurd (cc there)
  found-from index i j (None ∷ os) n v h at there =
      let f = found-from index (suc i) j os n v h at there in
      record { slot = suc f.slot; pair = f.pair; sum = omega (arith, f.sum); there = f.there; name = f.name; value = f.value }
  found-from index i j (Some p ∷ os) n v h at there = by (is_same n p.0) refl there (λ r. found-from index (suc i) j os n v h.1 at r)
    where
      by : (b : Bool) → b ≡ is_same n p.0 → cond b (Some p.1) (value_of (live os) n) ≡ Some v → (value_of (live os) n ≡ Some v → Found (suc i) j os n v) → Found i j (Some p ∷ os) n v
      by true q r rest = record { slot = 0; pair = p; sum = omega (arith, some_is (sym at ∙ (ap index (same_text n p.0 q) ∙ h.0))); there = refl; name = sym q; value = some_is r }
      by false q r rest =
          let f = rest r in
          record { slot = suc f.slot; pair = f.pair; sum = omega (arith, f.sum); there = f.there; name = f.name; value = f.value }

  pub found : (index : Numbers) (os : Row A) (empty j : ℕ) (n : List ℕ) → AreSlots index os empty → index n ≡ Some j → (p : List ℕ × A) × (slice_get os j ≡ Some (Some p)) × (n ≡ p.0) × (value_of (live os) n ≡ Some p.1)
  found index os empty j n h at =
      let s = some-there (value_of (live os) n) (sym (h.names n) ∙ ap is_some at) in
      let f = found-from index 0 j os n s.0 h.indexed at s.1 in
      let same : f.slot ≡ j = omega (arith, f.sum) in
      (f.pair, subst (λ k. slice_get os k ≡ Some (Some f.pair)) same f.there, same_text n f.pair.0 (sym f.name), s.1 ∙ ap (λ v. Some v) (sym f.value))

  pub missing : (index : Numbers) (os : Row A) (empty : ℕ) (n : List ℕ) → AreSlots index os empty → index n ≡ None → value_of (live os) n ≡ None
  missing index os empty n h at = none-is (value_of (live os) n) (sym (h.names n) ∙ ap is_some at)

  pub within : (os : Row A) (j : ℕ) (o : Option (List ℕ × A)) → slice_get os j ≡ Some o → j < length os
  within [] j o at = absurd (cc at)
  within (x ∷ os) zero o at = omega arith
  within (x ∷ os) (suc j) o at = omega (arith, within os j o at)

  -- a slot gets a pair of its name
  set-live : (index : Numbers) (i k : ℕ) (os : Row A) (n : List ℕ) (p : List ℕ × A) (v : A) → AreIndexed index i os → index n ≡ Some (i + k) → slice_get os k ≡ Some (Some p) → n ≡ p.0 → live (set os k (Some (n, v))) ≡ put (live os) n v
  set-live index i k [] n p v h at there name = absurd (cc there)
  set-live index i zero (o ∷ os) n p v h at there name =
      let same : is_same n p.0 ≡ true = subst (λ m. is_same n m ≡ true) name (same-self n) in
      sym (ap (λ x. put (before x (live os)) n v) (some_is there) ∙ ap (λ b. cond b ((n, v) ∷ live os) (p ∷ put (live os) n v)) same)
  set-live index i (suc k) (None ∷ os) n p v h at there name = set-live index (suc i) k os n p v h (subst (λ m. index n ≡ Some m) (omega arith) at) there name
  set-live index i (suc k) (Some q ∷ os) n p v h at there name = by (is_same n q.0) refl (set-live index (suc i) k os n p v h.1 (subst (λ m. index n ≡ Some m) (omega arith) at) there name)
    where
      by : (b : Bool) → b ≡ is_same n q.0 → live (set os k (Some (n, v))) ≡ put (live os) n v → live (set (Some q ∷ os) (suc k) (Some (n, v))) ≡ cond b ((n, v) ∷ live os) (q ∷ put (live os) n v)
      by true e rest = absurd (omega (arith, some_is (sym at ∙ (ap index (same_text n q.0 e) ∙ h.0))))
      by false e rest = ap (λ ps. q ∷ ps) rest

  set-indexed : (index : Numbers) (i k : ℕ) (os : Row A) (p : List ℕ × A) (v : A) → AreIndexed index i os → slice_get os k ≡ Some (Some p) → AreIndexed index i (set os k (Some (p.0, v)))
  set-indexed index i k [] p v h there = absurd (cc there)
  set-indexed index i zero (o ∷ os) p v h there = subst (λ x. AreIndexed index i (x ∷ os)) (some_is there) h
  set-indexed index i (suc k) (None ∷ os) p v h there = set-indexed index (suc i) k os p v h there
  set-indexed index i (suc k) (Some q ∷ os) p v h there = (h.0, set-indexed index (suc i) k os p v h.1 there)

  -- a value is set under a name that has a slot
  pub live-set : (index : Numbers) (os : Row A) (empty k : ℕ) (n : List ℕ) (v : A) → AreSlots index os empty → index n ≡ Some k → live (set os k (Some (n, v))) ≡ put (live os) n v
  live-set index os empty k n v h at =
      let f = found index os empty k n h at in
      set-live index 0 k os n f.0 v h.indexed (at ∙ ap (λ m. Some m) (omega arith)) f.1 f.2

  length-put : (ps : Named A) (n : List ℕ) (v w : A) → value_of ps n ≡ Some w → length (put ps n v) ≡ length ps
  length-put [] n v w q = absurd (cc q)
  length-put (p ∷ ps) n v w q = by (is_same n p.0) q (length-put ps n v w)
    where
      by : (b : Bool) → cond b (Some p.1) (value_of ps n) ≡ Some w → (value_of ps n ≡ Some w → length (put ps n v) ≡ length ps) → length (cond b ((n, v) ∷ ps) (p ∷ put ps n v)) ≡ suc (length ps)
      by true r rest = refl
      by false r rest = ap suc (rest r)

  -- a name that is put is there, and the others are where they were
  names-put : (ps : Named A) (n m : List ℕ) (v : A) → is_some (value_of (put ps n v) m) ≡ cond (is_same n m) true (is_some (value_of ps m))
  names-put ps n m v = by (is_same n m) refl
    where
      by : (b : Bool) → b ≡ is_same n m → is_some (value_of (put ps n v) m) ≡ cond b true (is_some (value_of ps m))
      by true q = subst (λ k. is_some (value_of (put ps n v) k) ≡ true) (same_text n m q) (ap is_some (value_of-put ps n v))
      by false q = ap is_some (value_of-put-other ps n m v (flipped n m (sym q)))

  pub AreSlots-set : (index : Numbers) (os : Row A) (empty k : ℕ) (n : List ℕ) (v : A) → AreSlots index os empty → index n ≡ Some k → AreSlots index (set os k (Some (n, v))) empty
  AreSlots-set index os empty k n v h at =
      let f = found index os empty k n h at in
      let same : live (set os k (Some (n, v))) ≡ put (live os) n v = live-set index os empty k n v h at in
      let names : HasNames index (set os k (Some (n, v))) = λ m. by m (is_same n m) refl in
      record {
        indexed = subst (λ l. AreIndexed index 0 (set os k (Some (l, v)))) (sym f.2) (set-indexed index 0 k os f.0 v h.indexed f.1);
        names = names;
        count = omega (arith, h.count, ap length same, length-put (live os) n v f.0.1 f.3, set-length os k (Some (n, v)));
      }
    where
      by : (m : List ℕ) (b : Bool) → b ≡ is_same n m → is_some (index m) ≡ is_some (value_of (live (set os k (Some (n, v)))) m)
      by m true q = ap is_some (ap index (sym (same_text n m q)) ∙ at) ∙ sym (ap (λ ps. is_some (value_of ps m)) (live-set index os empty k n v h at) ∙ (names-put (live os) n m v ∙ ap (λ b. cond b true (is_some (value_of (live os) m))) (sym q)))
      by m false q = h.names m ∙ sym (ap (λ ps. is_some (value_of ps m)) (live-set index os empty k n v h at) ∙ (names-put (live os) n m v ∙ ap (λ b. cond b true (is_some (value_of (live os) m))) (sym q)))

  -- a slot is put behind the others
  pub live-push : (index : Numbers) (os : Row A) (empty : ℕ) (n : List ℕ) (v : A) → AreSlots index os empty → index n ≡ None → live (os ++ Some (n, v) ∷ []) ≡ put (live os) n v
  live-push index os empty n v h none = live-append os (n, v) ∙ sym (put-last (live os) n v (missing index os empty n h none))

  push-indexed : (index new : Numbers) (i j : ℕ) (os : Row A) (n : List ℕ) (v : A) → AreIndexed index i os → index n ≡ None → ((m : List ℕ) → new m ≡ cond (is_same n m) (Some j) (index m)) → j ≡ i + length os → AreIndexed new i (os ++ Some (n, v) ∷ [])
  push-indexed index new i j [] n v h none changed sum = (changed n ∙ (ap (λ b. cond b (Some j) (index n)) (same-self n) ∙ ap (λ k. Some k) (omega (arith, sum))), tt)
  push-indexed index new i j (None ∷ os) n v h none changed sum = push-indexed index new (suc i) j os n v h none changed (omega (arith, sum))
  push-indexed index new i j (Some q ∷ os) n v h none changed sum = (by (is_same n q.0) refl, push-indexed index new (suc i) j os n v h.1 none changed (omega (arith, sum)))
    where
      by : (b : Bool) → b ≡ is_same n q.0 → new q.0 ≡ Some i
      by true e = absurd (cc (sym none ∙ (ap index (same_text n q.0 e) ∙ h.0)))
      by false e = changed q.0 ∙ (ap (λ b. cond b (Some j) (index q.0)) (sym e) ∙ h.0)

  pub AreSlots-push : (index new : Numbers) (os : Row A) (empty : ℕ) (n : List ℕ) (v : A) → AreSlots index os empty → index n ≡ None → ((m : List ℕ) → new m ≡ cond (is_same n m) (Some (length os)) (index m)) → AreSlots new (os ++ Some (n, v) ∷ []) empty
  AreSlots-push index new os empty n v h none changed = record {
    indexed = push-indexed index new 0 (length os) os n v h.indexed none changed (omega arith);
    names = λ m. by m (is_same n m) refl;
    count = omega (arith, h.count, ap length (live-append os (n, v)), length-append (live os) ((n, v) ∷ []), length-append os (Some (n, v) ∷ []));
  }
    where
      by : (m : List ℕ) (b : Bool) → b ≡ is_same n m → is_some (new m) ≡ is_some (value_of (live (os ++ Some (n, v) ∷ [])) m)
      by m true q = ap is_some (changed m ∙ ap (λ b. cond b (Some (length os)) (index m)) (sym q)) ∙ sym (ap (λ ps. is_some (value_of ps m)) (live-push index os empty n v h none) ∙ (names-put (live os) n m v ∙ ap (λ b. cond b true (is_some (value_of (live os) m))) (sym q)))
      by m false q = ap is_some (changed m ∙ ap (λ b. cond b (Some (length os)) (index m)) (sym q)) ∙ (h.names m ∙ sym (ap (λ ps. is_some (value_of ps m)) (live-push index os empty n v h none) ∙ (names-put (live os) n m v ∙ ap (λ b. cond b true (is_some (value_of (live os) m))) (sym q))))

  -- a slot is emptied
  take-live : (index : Numbers) (i k : ℕ) (os : Row A) (n : List ℕ) (p : List ℕ × A) → AreIndexed index i os → index n ≡ Some (i + k) → slice_get os k ≡ Some (Some p) → n ≡ p.0 → live (set os k None) ≡ taken_out (live os) n
  take-live index i k [] n p h at there name = absurd (cc there)
  take-live index i zero (o ∷ os) n p h at there name =
      let same : is_same n p.0 ≡ true = subst (λ m. is_same n m ≡ true) name (same-self n) in
      sym (ap (λ x. taken_out (before x (live os)) n) (some_is there) ∙ ap (λ b. cond b (live os) (p ∷ taken_out (live os) n)) same)
  take-live index i (suc k) (None ∷ os) n p h at there name = take-live index (suc i) k os n p h (subst (λ m. index n ≡ Some m) (omega arith) at) there name
  take-live index i (suc k) (Some q ∷ os) n p h at there name = by (is_same n q.0) refl (take-live index (suc i) k os n p h.1 (subst (λ m. index n ≡ Some m) (omega arith) at) there name)
    where
      by : (b : Bool) → b ≡ is_same n q.0 → live (set os k None) ≡ taken_out (live os) n → live (set (Some q ∷ os) (suc k) None) ≡ cond b (live os) (q ∷ taken_out (live os) n)
      by true e rest = absurd (omega (arith, some_is (sym at ∙ (ap index (same_text n q.0 e) ∙ h.0))))
      by false e rest = ap (λ ps. q ∷ ps) rest

  -- the others keep their numbers
  kept-indexed : (index new : Numbers) (i j : ℕ) (os : Row A) (n : List ℕ) → AreIndexed index i os → index n ≡ Some j → j < i → ((m : List ℕ) → new m ≡ cond (is_same n m) None (index m)) → AreIndexed new i os
  kept-indexed index new i j [] n h at low changed = tt
  kept-indexed index new i j (None ∷ os) n h at low changed = kept-indexed index new (suc i) j os n h at (omega (arith, low)) changed
  kept-indexed index new i j (Some q ∷ os) n h at low changed = (by (is_same n q.0) refl, kept-indexed index new (suc i) j os n h.1 at (omega (arith, low)) changed)
    where
      by : (b : Bool) → b ≡ is_same n q.0 → new q.0 ≡ Some i
      by true e = absurd (omega (arith, low, some_is (sym at ∙ (ap index (same_text n q.0 e) ∙ h.0))))
      by false e = changed q.0 ∙ (ap (λ b. cond b None (index q.0)) (sym e) ∙ h.0)

  take-indexed : (index new : Numbers) (i k : ℕ) (os : Row A) (n : List ℕ) → AreIndexed index i os → index n ≡ Some (i + k) → ((m : List ℕ) → new m ≡ cond (is_same n m) None (index m)) → AreIndexed new i (set os k None)
  take-indexed index new i k [] n h at changed = tt
  take-indexed index new i zero (None ∷ os) n h at changed = kept-indexed index new (suc i) (i + 0) os n h at (omega arith) changed
  take-indexed index new i zero (Some q ∷ os) n h at changed = kept-indexed index new (suc i) (i + 0) os n h.1 at (omega arith) changed
  take-indexed index new i (suc k) (None ∷ os) n h at changed = take-indexed index new (suc i) k os n h (subst (λ m. index n ≡ Some m) (omega arith) at) changed
  take-indexed index new i (suc k) (Some q ∷ os) n h at changed = (by (is_same n q.0) refl, take-indexed index new (suc i) k os n h.1 (subst (λ m. index n ≡ Some m) (omega arith) at) changed)
    where
      by : (b : Bool) → b ≡ is_same n q.0 → new q.0 ≡ Some i
      by true e = absurd (omega (arith, some_is (sym at ∙ (ap index (same_text n q.0 e) ∙ h.0))))
      by false e = changed q.0 ∙ (ap (λ b. cond b None (index q.0)) (sym e) ∙ h.0)

  pub live-take : (index : Numbers) (os : Row A) (empty k : ℕ) (n : List ℕ) → AreSlots index os empty → index n ≡ Some k → live (set os k None) ≡ taken_out (live os) n
  live-take index os empty k n h at =
      let f = found index os empty k n h at in
      take-live index 0 k os n f.0 h.indexed (at ∙ ap (λ m. Some m) (omega arith)) f.1 f.2

  -- and one more is empty
  pub AreSlots-take : (index new : Numbers) (os : Row A) (empty k : ℕ) (n : List ℕ) → AreSlots index os empty → index n ≡ Some k → ((m : List ℕ) → new m ≡ cond (is_same n m) None (index m)) → AreSlots new (set os k None) (empty + 1)
  AreSlots-take index new os empty k n h at changed =
      let f = found index os empty k n h at in
      record {
        indexed = take-indexed index new 0 k os n h.indexed (at ∙ ap (λ m. Some m) (omega arith)) changed;
        names = λ m. by m (is_same n m) refl;
        count = omega (arith, h.count, ap length (live-take index os empty k n h at), length-taken_out (live os) n f.0.1 f.3, set-length os k None);
      }
    where
      by : (m : List ℕ) (b : Bool) → b ≡ is_same n m → is_some (new m) ≡ is_some (value_of (live (set os k None)) m)
      by m true q = ap is_some (changed m ∙ ap (λ b. cond b None (index m)) (sym q)) ∙ sym (ap (λ ps. is_some (value_of ps m)) (live-take index os empty k n h at) ∙ ap is_some (subst (λ l. value_of (taken_out (live os) n) l ≡ None) (same_text n m q) (value_of-taken_out (live os) n (names-distinct index os empty h))))
      by m false q = ap is_some (changed m ∙ ap (λ b. cond b None (index m)) (sym q)) ∙ (h.names m ∙ sym (ap (λ ps. is_some (value_of ps m)) (live-take index os empty k n h at) ∙ ap is_some (value_of-taken_out-other (live os) n m (flipped n m (sym q)))))

  -- so one isn't yet
  pub some-left : (index : Numbers) (os : Row A) (empty k : ℕ) (n : List ℕ) → AreSlots index os empty → index n ≡ Some k → empty < length os
  some-left index os empty k n h at =
      let f = found index os empty k n h at in
      omega (arith, h.count, length-taken_out (live os) n f.0.1 f.3)

  -- a slot by its place
  pub full-slot : (os : Row A) (i : ℕ) → length (live os) ≡ length os → i < length os → IsSlotOf os i i
  full-slot [] i all low = absurd (omega (arith, low))
  full-slot (None ∷ os) i all low = absurd (omega (arith, all, length-live os))
  full-slot (Some p ∷ os) zero all low = record { pair = p; there = refl; before_it = refl }
  full-slot (Some p ∷ os) (suc i) all low =
      let s = full-slot os i (omega (arith, all)) (omega (arith, low)) in
      record { pair = s.pair; there = s.there; before_it = omega (arith, s.before_it) }

  pub slot-get : (os : Row A) (i s : ℕ) (h : IsSlotOf os i s) → slice_get (live os) i ≡ Some h.pair
  slot-get os i s h = by os i s h.pair h.there h.before_it
    where
      by : (os : Row A) (i s : ℕ) (p : List ℕ × A) → slice_get os s ≡ Some (Some p) → length (live (take s os)) ≡ i → slice_get (live os) i ≡ Some p
      by [] i s p there sum = absurd (cc there)
      by (o ∷ os) i zero p there sum = subst (λ x. slice_get (before x (live os)) i ≡ Some p) (sym (some_is there)) (subst (λ k. slice_get (p ∷ live os) k ≡ Some p) sum refl)
      by (None ∷ os) i (suc s) p there sum = by os i s p there sum
      by (Some q ∷ os) zero (suc s) p there sum = absurd (omega (arith, sum))
      by (Some q ∷ os) (suc i) (suc s) p there sum = by os i s p there (omega (arith, sum))

  -- a value is written in the slot of a place
  pub slot-with_value : (os : Row A) (i s : ℕ) (p : List ℕ × A) (w : A) → slice_get os s ≡ Some (Some p) → length (live (take s os)) ≡ i → live (set os s (Some (p.0, w))) ≡ with_value (live os) i w
  slot-with_value [] i s p w there sum = absurd (cc there)
  slot-with_value (o ∷ os) i zero p w there sum = subst (λ x. (p.0, w) ∷ live os ≡ with_value (before x (live os)) i w) (sym (some_is there)) (subst (λ k. (p.0, w) ∷ live os ≡ with_value (p ∷ live os) k w) sum refl)
  slot-with_value (None ∷ os) i (suc s) p w there sum = slot-with_value os i s p w there sum
  slot-with_value (Some q ∷ os) zero (suc s) p w there sum = absurd (omega (arith, sum))
  slot-with_value (Some q ∷ os) (suc i) (suc s) p w there sum = ap (λ ps. q ∷ ps) (slot-with_value os i s p w there (omega (arith, sum)))

  pub AreSlots-with_value : (index : Numbers) (os : Row A) (empty i s : ℕ) (p : List ℕ × A) (w : A) → AreSlots index os empty → slice_get os s ≡ Some (Some p) → length (live (take s os)) ≡ i → AreSlots index (set os s (Some (p.0, w))) empty
  AreSlots-with_value index os empty i s p w h there sum =
      let same : live (set os s (Some (p.0, w))) ≡ with_value (live os) i w = slot-with_value os i s p w there sum in
      record {
        indexed = set-indexed index 0 s os p w h.indexed there;
        names = λ m. h.names m ∙ sym (ap (λ ps. is_some (value_of ps m)) same ∙ is_some-with_value (live os) i w m);
        count = omega (arith, h.count, ap length same, length-with (live os) i w, set-length os s (Some (p.0, w)));
      }

  -- the slots are numbered anew, the first of them already
  pub record NumberedTo (index : Numbers) (os : Row A) (n : ℕ) : Type 0 where
    pub first : AreIndexed index 0 (take n os)
    pub names : HasNames index os

  later : (P : List ℕ → Type 0) (os : Row A) (k : ℕ) (p : List ℕ × A) → slice_get os k ≡ Some (Some p) → AllByRecursion P (map (λ q. q.0) (live os)) → P p.0
  later P [] k p there a = absurd (cc there)
  later P (None ∷ os) zero p there a = absurd (cc there)
  later P (None ∷ os) (suc k) p there a = later P os k p there a
  later P (Some q ∷ os) zero p there a = subst (λ x. P x.0) (some_is (some_is there)) a.0
  later P (Some q ∷ os) (suc k) p there a = later P os k p there a.1

  value-there : (os : Row A) (k : ℕ) (p : List ℕ × A) → slice_get os k ≡ Some (Some p) → is_some (value_of (live os) p.0) ≡ true
  value-there [] k p there = absurd (cc there)
  value-there (None ∷ os) zero p there = absurd (cc there)
  value-there (None ∷ os) (suc k) p there = value-there os k p there
  value-there (Some q ∷ os) zero p there = ap (λ b. is_some (cond b (Some q.1) (value_of (live os) p.0))) (subst (λ x. is_same p.0 x.0 ≡ true) (sym (some_is (some_is there))) (same-self p.0))
  value-there (Some q ∷ os) (suc k) p there = by (is_same p.0 q.0) (value-there os k p there)
    where
      by : (b : Bool) → is_some (value_of (live os) p.0) ≡ true → is_some (cond b (Some q.1) (value_of (live os) p.0)) ≡ true
      by true rest = refl
      by false rest = rest

  -- one more has its number
  number-indexed : (index new : Numbers) (i k : ℕ) (os : Row A) (p : List ℕ × A) → AreIndexed index i (take k os) → slice_get os k ≡ Some (Some p) → AreDistinctNames (live os) → ((m : List ℕ) → new m ≡ cond (is_same p.0 m) (Some (i + k)) (index m)) → AreIndexed new i (take (suc k) os)
  number-indexed index new i k [] p h there d changed = absurd (cc there)
  number-indexed index new i zero (None ∷ os) p h there d changed = absurd (cc there)
  number-indexed index new i zero (Some q ∷ os) p h there d changed = (subst (λ x. new x.0 ≡ Some i) (sym (some_is (some_is there))) (changed p.0 ∙ (ap (λ b. cond b (Some (i + 0)) (index p.0)) (same-self p.0) ∙ ap (λ n. Some n) (omega arith))), tt)
  number-indexed index new i (suc k) (None ∷ os) p h there d changed = number-indexed index new (suc i) k os p h there d (λ m. changed m ∙ ap (λ n. cond (is_same p.0 m) (Some n) (index m)) (omega arith))
  number-indexed index new i (suc k) (Some q ∷ os) p h there d changed =
      let differs : is_same q.0 p.0 ≡ false = later (λ m. is_same q.0 m ≡ false) os k p there (IsDistinct-head is_same q.0 (map (λ x. x.0) (live os)) d) in (
        changed q.0 ∙ (ap (λ b. cond b (Some (i + suc k)) (index q.0)) (flipped q.0 p.0 differs) ∙ h.0),
        number-indexed index new (suc i) k os p h.1 there (IsDistinct-tail is_same q.0 (map (λ x. x.0) (live os)) d) (λ m. changed m ∙ ap (λ n. cond (is_same p.0 m) (Some n) (index m)) (omega arith)),
      )

  pub number-more : (index new : Numbers) (os : Row A) (k : ℕ) → NumberedTo index os k → length (live os) ≡ length os → AreDistinctNames (live os) → k < length os → IsNumbered index new os k → NumberedTo new os (suc k)
  number-more index new os k h full d low changed =
      let s = full-slot os k full low in
      let there = some-there (index s.pair.0) (h.names s.pair.0 ∙ value-there os k s.pair s.there) in
      let now : (m : List ℕ) → new m ≡ cond (is_same s.pair.0 m) (Some k) (index m) = λ m. changed s.pair s.there m ∙ ap (λ o. cond (is_same s.pair.0 m) (option_map (λ _. k) o) (index m)) there.1 in
      record {
        first = number-indexed index new 0 k os s.pair h.first s.there d (λ m. now m ∙ ap (λ n. cond (is_same s.pair.0 m) (Some n) (index m)) (omega arith));
        names = λ m. by s.pair s.there now m (is_same s.pair.0 m) refl;
      }
    where
      by : (p : List ℕ × A) → slice_get os k ≡ Some (Some p) → ((m : List ℕ) → new m ≡ cond (is_same p.0 m) (Some k) (index m)) → (m : List ℕ) (b : Bool) → b ≡ is_same p.0 m → is_some (new m) ≡ is_some (value_of (live os) m)
      by p there now m true q = ap is_some (now m ∙ ap (λ b. cond b (Some k) (index m)) (sym q)) ∙ sym (subst (λ n. is_some (value_of (live os) n) ≡ true) (same_text p.0 m q) (value-there os k p there))
      by p there now m false q = ap is_some (now m ∙ ap (λ b. cond b (Some k) (index m)) (sym q)) ∙ h.names m

  pub number-step : (index new : Numbers) (first os os' : Row A) (k : ℕ) → os ≡ first → os' ≡ os → NumberedTo index os k → length (live first) ≡ length first → AreDistinctNames (live first) → k < length first → IsNumbered index new os' k → NumberedTo new os' (k + 1)
  number-step index new first os os' k same same' h full d low changed =
      let all : os' ≡ first = same' ∙ same in
      subst (λ row. NumberedTo new row (k + 1)) (sym all) (subst (λ n. NumberedTo new first n) (omega arith) (number-more index new first k (subst (λ row. NumberedTo index row k) same h) full d low (subst (λ row. IsNumbered index new row k) all changed)))

  pub numbered-all : (index : Numbers) (os : Row A) (k : ℕ) → NumberedTo index os k → length os ≤ k → AreIndexed index 0 os
  numbered-all index os k h all = subst (λ row. AreIndexed index 0 row) (take_all k os all) h.first

  -- one more slot has a pair or is empty
  pub one-more : (os : Row A) (k : ℕ) (r : Option (List ℕ × A)) → k < length os → r ≡ get_or os k r → is_some r ≡ true → length (live (take (k + 1) os)) ≡ length (live (take k os)) + 1
  one-more os k r low e some =
      let same : suc k ≡ k + 1 = omega arith in
      subst (λ n. length (live (take n os)) ≡ length (live (take k os)) + 1) same (by os k r low e some)
    where
      by : (os : Row A) (k : ℕ) (r : Option (List ℕ × A)) → k < length os → r ≡ get_or os k r → is_some r ≡ true → length (live (take (suc k) os)) ≡ length (live (take k os)) + 1
      by [] k r low e some = absurd (omega (arith, low))
      by (None ∷ os) zero r low e some = absurd (true≢false (sym some ∙ ap is_some e))
      by (Some p ∷ os) zero r low e some = refl
      by (None ∷ os) (suc k) r low e some = by os k r (omega (arith, low)) e some
      by (Some p ∷ os) (suc k) r low e some = omega (arith, by os k r (omega (arith, low)) e some)

  pub none-more : (os : Row A) (k : ℕ) (r : Option (List ℕ × A)) → k < length os → r ≡ get_or os k r → is_some r ≡ false → length (live (take (k + 1) os)) ≡ length (live (take k os))
  none-more os k r low e none =
      let same : suc k ≡ k + 1 = omega arith in
      subst (λ n. length (live (take n os)) ≡ length (live (take k os))) same (by os k r low e none)
    where
      by : (os : Row A) (k : ℕ) (r : Option (List ℕ × A)) → k < length os → r ≡ get_or os k r → is_some r ≡ false → length (live (take (suc k) os)) ≡ length (live (take k os))
      by [] k r low e none = absurd (omega (arith, low))
      by (None ∷ os) zero r low e none = refl
      by (Some p ∷ os) zero r low e none = absurd (true≢false (sym (ap is_some e) ∙ none))
      by (None ∷ os) (suc k) r low e none = by os k r (omega (arith, low)) e none
      by (Some p ∷ os) (suc k) r low e none = omega (arith, by os k r (omega (arith, low)) e none)

  pub slot-there : (os : Row A) (index k left : ℕ) (r : Option (List ℕ × A)) → length (live (take k os)) + left ≡ index → left ≡ 0 → k < length os → r ≡ get_or os k r → is_some r ≡ true → IsSlotOf os index k
  slot-there os index k left r sum none low e some =
      let p = some-there r some in
      record { pair = p.0; there = read os k r low e ∙ ap (λ o. Some o) p.1; before_it = omega (arith, sum, none) }

  -- the slots that aren't empty
  abbrev pub full_slots : Row A → Row A
  full_slots os = filter is_some os

  pub live-full : (os : Row A) → live (full_slots os) ≡ live os
  live-full [] = refl
  live-full (None ∷ os) = live-full os
  live-full (Some p ∷ os) = ap (λ ps. p ∷ ps) (live-full os)

  pub length-full : (os : Row A) → length (full_slots os) ≡ length (live os)
  length-full [] = refl
  length-full (None ∷ os) = length-full os
  length-full (Some p ∷ os) = ap suc (length-full os)

  pub HasNames-full : (index : Numbers) (os : Row A) → HasNames index os → HasNames index (full_slots os)
  HasNames-full index os h n = h n ∙ sym (ap (λ ps. is_some (value_of ps n)) (live-full os))

  -- the pairs of the first slots, and that of the next one put last
  pub live-next : (os : Row A) (k : ℕ) (p : List ℕ × A) → AreDistinctNames (live os) → slice_get os k ≡ Some (Some p) → put (live (take k os)) p.0 p.1 ≡ live (take (suc k) os)
  live-next [] k p d there = absurd (cc there)
  live-next (None ∷ os) zero p d there = absurd (cc there)
  live-next (None ∷ os) (suc k) p d there = live-next os k p d there
  live-next (Some q ∷ os) zero p d there = ap (λ x. x ∷ []) (sym (some_is (some_is there)))
  live-next (Some q ∷ os) (suc k) p d there =
      let differs : is_same q.0 p.0 ≡ false = later (λ m. is_same q.0 m ≡ false) os k p there (IsDistinct-head is_same q.0 (map (λ x. x.0) (live os)) d) in
      let rest = live-next os k p (IsDistinct-tail is_same q.0 (map (λ x. x.0) (live os)) d) there in
      λ j. cond (flipped q.0 p.0 differs j) ((p.0, p.1) ∷ live (take k os)) (q ∷ rest j)

  pub live-same : (os : Row A) (k : ℕ) → slice_get os k ≡ Some None → live (take k os) ≡ live (take (suc k) os)
  live-same [] k there = absurd (cc there)
  live-same (None ∷ os) zero there = refl
  live-same (Some q ∷ os) zero there = absurd (cc there)
  live-same (None ∷ os) (suc k) there = live-same os k there
  live-same (Some q ∷ os) (suc k) there = ap (λ ps. q ∷ ps) (live-same os k there)

  -- a copy goes on
  pub copy-some : (os : Row A) (k : ℕ) (p : List ℕ × A) (n : List ℕ) (old new : Named A) → AreDistinctNames (live os) → slice_get os k ≡ Some (Some p) → old ≡ live (take k os) → n ≡ p.0 → new ≡ put old n p.1 → new ≡ live (take (k + 1) os)
  copy-some os k p n old new d there done name set =
      let same : suc k ≡ k + 1 = omega arith in
      set ∙ ((λ j. put (done j) (name j) p.1) ∙ (live-next os k p d there ∙ ap (λ i. live (take i os)) same))

  pub copy-none : (os : Row A) (k : ℕ) (old : Named A) → slice_get os k ≡ Some None → old ≡ live (take k os) → old ≡ live (take (k + 1) os)
  copy-none os k old there done =
      let same : suc k ≡ k + 1 = omega arith in
      done ∙ (live-same os k there ∙ ap (λ i. live (take i os)) same)

-- what a push that answers either way leaves
pub by-result : {T E P Q R S : Type 0} (r : Result T E) → OnOk r P → OnOk r Q → OnErr r R → OnErr r S → {G : Type 0} → (P → Q → G) → (R → S → G) → G
by-result (Ok x) p q r s ok err = ok p q
by-result (Err e) p q r s ok err = err r s

pub on-ok : {T E P R : Type 0} (r : Result T E) → OnOk r P → (P → R) → OnOk r R
on-ok (Ok x) p f = f p
on-ok (Err e) p f = tt
