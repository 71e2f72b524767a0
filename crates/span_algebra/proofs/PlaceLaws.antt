-- The indices of names among others.
use Rattle.std.proofs.Common.{◌≡◌, ◌≢◌, ℕ, zero, suc, ◌+◌, ◌*◌, ◌/◌, ◌%◌, ◌^◌, ◌<◌, ◌≤◌, ◌||◌, ◌⊎◌, inl, inr, Bool, true, false, List, [], ◌∷◌, ◌++◌, length, take, Option, Some, None, MatchOption, Contains, slice_get, if◌then◌else◌, refl, sym, ap, subst, ◌∙◌, arith, pow-suc}
use Rattle.std.specs.Prelude.{AllPairs}
use Rattle.std.proofs.Math.Nat.{div-one, div-div-eq-div-mul}
use Rattle.std.proofs.lemmas.List.Elements.{Contains-append_cases}
use Rattle.std.proofs.lemmas.Option.{slice_get_within, get_or_from_slice_get}
use Rattle.span_types.specs.VarList.{Adds, AreVars}
use Rattle.span_types.specs.Rel.{same_name, has_name, lacking}
use Rattle.span_algebra.specs.Renaming.{both_names, markers, mark_for}
use Rattle.span_algebra.specs.Making.{digit_at, mark_by, AreIndices, AreIndicesOf}
use Rattle.span_algebra.specs.Refusals.{IsNew, IsRefused}
use Rattle.span_algebra.specs.declared.refusal.AlgebraRefusal.{AlgebraRefusal}
use Rattle.span_algebra.specs.declared.refusal.AlgebraRefusal.TheVariants.{TooManyVariables, TooManyStates, NoMemory}
use Rattle.span_types.proofs.NameLaws.{contains-has, has-contains, same-is, same-self}

abbrev Name : Type 0
Name = List ℕ

take-push : {X : Type 0} (xs : List X) (k : ℕ) (x : X) → slice_get xs k ≡ Some x → take (suc k) xs ≡ take k xs ++ x ∷ []
take-push [] k x h = absurd (cc)
take-push (y ∷ xs) zero x h = let e : y ≡ x = cc in ap (λ z. z ∷ []) e
take-push (y ∷ xs) (suc k) x h = ap (λ l. y ∷ l) (take-push xs k x h)

length-taken : {X : Type 0} (xs : List X) (k : ℕ) → k ≤ length xs → length (take k xs) ≡ k
length-taken xs zero le = refl
length-taken [] (suc k) le = absurd (omega arith)
length-taken (x ∷ xs) (suc k) le = ap suc (length-taken xs k (omega (arith, le)))

-- an element of the first ones is one of a smaller place
early : {X : Type 0} (xs : List X) (k : ℕ) (x : X) → Contains (take k xs) x → (j : ℕ) × (j < k) × (slice_get xs j ≡ Some x)
early xs zero x c = absurd (omega (arith, c.1))
early [] (suc k) x c = absurd (omega (arith, c.1))
early (y ∷ xs) (suc k) x (zero, lt, e) = (0, omega arith, ap Some e)
early (y ∷ xs) (suc k) x (suc j, lt, e) = let r = early xs k x (j, omega (arith, lt), e) in (suc r.0, omega (arith, r.1), r.2)

one-index : (ns : List Name) (j k : ℕ) (n : Name) → AllPairs (λ a b. a ≢ b) ns → j < k → slice_get ns j ≡ Some n → slice_get ns k ≡ Some n → ⊥
one-index ns j k n distinct lt ej ek =
    distinct j k n lt (slice_get_within ns k n ek) (get_or_from_slice_get ns j n n ej ∙ sym (get_or_from_slice_get ns k n n ek))

lacking-push : (va xs : List Name) (n : Name) → lacking va (xs ++ n ∷ []) ≡ lacking va xs ++ (if has_name va n then [] else n ∷ [])
lacking-push va [] n = by (has_name va n)
  where
    by : (b : Bool) → (if b then [] else n ∷ []) ≡ (if b then [] else n ∷ [])
    by b = refl
lacking-push va (x ∷ xs) n = by (has_name va x) (lacking-push va xs n)
  where
    by : (b : Bool) → lacking va (xs ++ n ∷ []) ≡ lacking va xs ++ (if has_name va n then [] else n ∷ []) → (if b then lacking va (xs ++ n ∷ []) else x ∷ lacking va (xs ++ n ∷ [])) ≡ (if b then lacking va xs else x ∷ lacking va xs) ++ (if has_name va n then [] else n ∷ [])
    by true h = h
    by false h = ap (λ l. x ∷ l) h

lacking-in : (va xs : List Name) (n : Name) → Contains (lacking va xs) n → Contains xs n
lacking-in va [] n c = c
lacking-in va (x ∷ xs) n c = by (has_name va x) c (lacking-in va xs n)
  where
    by : (b : Bool) → Contains (if b then lacking va xs else x ∷ lacking va xs) n → (Contains (lacking va xs) n → Contains xs n) → Contains (x ∷ xs) n
    by true c rec = let r = rec c in (suc r.0, omega (arith, r.1), r.2)
    by false (zero, lt, e) rec = (0, omega arith, e)
    by false (suc k, lt, e) rec = let r = rec (k, omega (arith, lt), e) in (suc r.0, omega (arith, r.1), r.2)

append-empty : (xs : List Name) → xs ++ [] ≡ xs
append-empty [] = refl
append-empty (x ∷ xs) = ap (λ l. x ∷ l) (append-empty xs)

append-assoc : (xs ys zs : List Name) → (xs ++ ys) ++ zs ≡ xs ++ (ys ++ zs)
append-assoc [] ys zs = refl
append-assoc (x ∷ xs) ys zs = ap (λ l. x ∷ l) (append-assoc xs ys zs)

both-push : (va xs : List Name) (n : Name) → both_names va (xs ++ n ∷ []) ≡ both_names va xs ++ (if has_name va n then [] else n ∷ [])
both-push va xs n = ap (λ l. va ++ l) (lacking-push va xs n) ∙ sym (append-assoc va (lacking va xs) (if has_name va n then [] else n ∷ []))

-- a name of the right is there so far only where the left has it
both-has : (va vb : List Name) (k : ℕ) (n : Name) → AllPairs (λ a b. a ≢ b) vb → slice_get vb k ≡ Some n → Contains (both_names va (take k vb)) n → Contains va n
both-has va vb k n distinct e c = by (Contains-append_cases va (lacking va (take k vb)) n c)
  where
    by : Contains va n ⊎ Contains (lacking va (take k vb)) n → Contains va n
    by (inl x) = x
    by (inr x) = let w = early vb k n (lacking-in va (take k vb) n x) in absurd (one-index vb w.0 k n distinct w.1 w.2 e)

left-has : (va ws : List Name) (n : Name) → Contains va n → Contains (va ++ ws) n
left-has [] ws n c = absurd (omega (arith, c.1))
left-has (x ∷ va) ws n (zero, lt, e) = (0, omega arith, e)
left-has (x ∷ va) ws n (suc k, lt, e) = let r = left-has va ws n (k, omega (arith, lt), e) in (suc r.0, omega (arith, r.1), r.2)

pub names-next : (va vb : List Name) (k : ℕ) (n : Name) (old new : List Name) → AreVars vb → slice_get vb k ≡ Some n → old ≡ both_names va (take k vb) → Adds old new n → new ≡ both_names va (take (k + 1) vb)
names-next va vb k n old new vars e h adds =
    let one : suc k ≡ k + 1 = omega arith in
    by (has_name va n) refl ∙ sym (both-push va (take k vb) n) ∙ ap (both_names va) (sym (take-push vb k n e)) ∙ ap (λ j. both_names va (take j vb)) one
  where
    by : (b : Bool) → has_name va n ≡ b → new ≡ both_names va (take k vb) ++ (if has_name va n then [] else n ∷ [])
    by true g =
        let there : Contains old n = subst (λ (l : List Name). Contains l n) (sym h) (left-has va (lacking va (take k vb)) n (has-contains va n g)) in
        adds.there there ∙ h ∙ sym (append-empty (both_names va (take k vb))) ∙ ap (λ b. both_names va (take k vb) ++ (if b then [] else n ∷ [])) (sym g)
    by false g =
        adds.missing (λ c. (let x = both-has va vb k n vars.distinct e (subst (λ (l : List Name). Contains l n) h c) in let bad : true ≡ false = sym (contains-has va n x) ∙ g in absurd (cc)))
        ∙ ap (λ l. l ++ n ∷ []) h ∙ ap (λ b. both_names va (take k vb) ++ (if b then [] else n ∷ [])) (sym g)

length-append : (xs ys : List Name) → length (xs ++ ys) ≡ length xs + length ys
length-append [] ys = omega arith
length-append (x ∷ xs) ys = omega (arith, length-append xs ys)

lacking-grows : (va xs : List Name) (k : ℕ) → length (lacking va (take k xs)) ≤ length (lacking va xs)
lacking-grows va [] zero = omega arith
lacking-grows va [] (suc k) = omega arith
lacking-grows va (x ∷ xs) zero = omega arith
lacking-grows va (x ∷ xs) (suc k) = by (has_name va x) (lacking-grows va xs k)
  where
    by : (b : Bool) → length (lacking va (take k xs)) ≤ length (lacking va xs) → length (if b then lacking va (take k xs) else x ∷ lacking va (take k xs)) ≤ length (if b then lacking va xs else x ∷ lacking va xs)
    by true h = h
    by false h = omega (arith, h)

pub names-refused : (va vb : List Name) (k : ℕ) (n : Name) (old : List Name) (why : AlgebraRefusal) → AreVars vb → slice_get vb k ≡ Some n → old ≡ both_names va (take k vb) → IsNew old n why → IsRefused (length (both_names va vb)) ⊥ why
names-refused va vb k n old TooManyVariables vars e h new = by (has_name va n) refl
  where
    by : (b : Bool) → has_name va n ≡ b → 8 < length (both_names va vb)
    by true g = absurd (new.1 (subst (λ (l : List Name). Contains l n) (sym h) (left-has va (lacking va (take k vb)) n (has-contains va n g))))
    by false g =
        let next : both_names va (take (suc k) vb) ≡ both_names va (take k vb) ++ n ∷ [] = ap (both_names va) (take-push vb k n e) ∙ both-push va (take k vb) n ∙ ap (λ b. both_names va (take k vb) ++ (if b then [] else n ∷ [])) g in
        omega (arith, new.0, ap length h, ap length next, length-append (both_names va (take k vb)) (n ∷ []), length-append va (lacking va (take (suc k) vb)), length-append va (lacking va vb), lacking-grows va vb (suc k))
names-refused va vb k n old TooManyStates vars e h new = absurd new
names-refused va vb k n old NoMemory vars e h new = tt

markers-none : (from : List Name) (m : ℕ) (n : Name) → (Contains from n → ⊥) → markers from m n ≡ 0
markers-none [] m n h = refl
markers-none (x ∷ from) m n h = by (same_name x n) refl (markers-none from (m / 4) n (λ c. h (suc c.0, omega (arith, c.1), c.2)))
  where
    by : (b : Bool) → same_name x n ≡ b → markers from (m / 4) n ≡ 0 → (if b then m % 4 else markers from (m / 4) n) ≡ 0
    by true e g = absurd (h (0, omega arith, same-is x n e))
    by false e g = g

markers-some : (from : List Name) (m v : ℕ) (n : Name) → AllPairs (λ a b. a ≢ b) from → slice_get from v ≡ Some n → markers from m n ≡ (m / 4 ^ v) % 4
markers-some [] m v n distinct h = absurd (cc)
markers-some (x ∷ from) m zero n distinct h =
    let e : x ≡ n = cc in
    ap (λ b. if b then m % 4 else markers from (m / 4) n) (ap (λ y. same_name y n) e ∙ same-self n) ∙ ap (λ y. y % 4) (sym (div-one m))
markers-some (x ∷ from) m (suc v) n distinct h = by (same_name x n) refl (markers-some from (m / 4) v n (λ i j d a b. distinct (suc i) (suc j) d (omega (arith, a)) (omega (arith, b))) h)
  where
    by : (b : Bool) → same_name x n ≡ b → markers from (m / 4) n ≡ (m / 4 / 4 ^ v) % 4 → (if b then m % 4 else markers from (m / 4) n) ≡ (m / 4 ^ suc v) % 4
    by true e g = absurd (one-index (x ∷ from) 0 (suc v) n distinct (omega arith) (ap Some (same-is x n e)) h)
    by false e g =
        let p : 4 * 4 ^ v ≡ 4 ^ suc v = omega (arith, pow-suc 4 v) in
        g ∙ ap (λ y. y % 4) (div-div-eq-div-mul m 4 (4 ^ v)) ∙ ap (λ y. (m / y) % 4) p

index-right : (from : List Name) (n : Name) (index : Option ℕ) (m : ℕ) → AreVars from → MatchOption index (Contains from n → ⊥) (λ v. slice_get from v ≡ Some n) → digit_at index m ≡ markers from m n
index-right from n None m vars h = sym (markers-none from m n h)
index-right from n (Some v) m vars h = sym (markers-some from m v n vars.distinct h)

grow : (x y d : ℕ) → y ≡ x * 4 → y * d ≡ 4 * (x * d)
grow x y d e = ap (λ z. z * d) e ∙ four x d
  where
    four : (x d : ℕ) → x * 4 * d ≡ 4 * (x * d)
    four x d = omega arith

mark_by-push : (ps : List (Option ℕ)) (p : Option ℕ) (m : ℕ) → mark_by (ps ++ p ∷ []) m ≡ mark_by ps m + 4 ^ length ps * digit_at p m
mark_by-push [] p m = omega arith
mark_by-push (x ∷ ps) p m =
    let h = mark_by-push ps p m in
    let e : 4 ^ suc (length ps) * digit_at p m ≡ 4 * (4 ^ length ps * digit_at p m) = grow (4 ^ length ps) (4 ^ suc (length ps)) (digit_at p m) (pow-suc 4 (length ps)) in
    omega (arith, h, e)

mark_for-push : (ns from : List Name) (n : Name) (m : ℕ) → mark_for (ns ++ n ∷ []) from m ≡ mark_for ns from m + 4 ^ length ns * markers from m n
mark_for-push [] from n m = omega arith
mark_for-push (x ∷ ns) from n m =
    let h = mark_for-push ns from n m in
    let e : 4 ^ suc (length ns) * markers from m n ≡ 4 * (4 ^ length ns * markers from m n) = grow (4 ^ length ns) (4 ^ suc (length ns)) (markers from m n) (pow-suc 4 (length ns)) in
    omega (arith, h, e)

small-push : (ps : List (Option ℕ)) (p : Option ℕ) → AreIndices ps → AreIndices (p ∷ []) → AreIndices (ps ++ p ∷ [])
small-push [] p h g = g
small-push (None ∷ ps) p h g = small-push ps p h g
small-push (Some v ∷ ps) p h g = (h.0, small-push ps p h.1 g)

small-index : (from : List Name) (n : Name) (index : Option ℕ) → AreVars from → MatchOption index (Contains from n → ⊥) (λ v. slice_get from v ≡ Some n) → AreIndices (index ∷ [])
small-index from n None vars h = tt
small-index from n (Some v) vars h = (omega (arith, slice_get_within from v n h, vars.few), tt)

pub no-places : (from : List Name) → AreIndicesOf [] from []
no-places from = record { size = refl; small = tt; marks = λ m. refl }

length-push : {X : Type 0} (xs : List X) (x : X) → length (xs ++ x ∷ []) ≡ suc (length xs)
length-push [] x = refl
length-push (y ∷ xs) x = ap suc (length-push xs x)

pub places-next : (to from : List Name) (k : ℕ) (n : Name) (ps new : List (Option ℕ)) (p : Option ℕ) → AreVars from → slice_get to k ≡ Some n → new ≡ ps ++ p ∷ [] → MatchOption p (Contains from n → ⊥) (λ v. slice_get from v ≡ Some n) → AreIndicesOf (take k to) from ps → AreIndicesOf (take (k + 1) to) from new
places-next to from k n ps new p vars e made h is =
    let one : k + 1 ≡ suc k = omega arith in
    let more : take (k + 1) to ≡ take k to ++ n ∷ [] = ap (λ j. take j to) one ∙ take-push to k n e in
    let R : List Name → List (Option ℕ) → Type 0 = λ l q. AreIndicesOf l from q in
    let whole : AreIndicesOf (take k to ++ n ∷ []) from (ps ++ p ∷ []) = record {
      size = length-push ps p ∙ ap suc is.size ∙ sym (length-push (take k to) n);
      small = small-push ps p is.small (small-index from n p vars h);
      marks = λ m. (
          mark_by-push ps p m
          ∙ ap (λ x. x + 4 ^ length ps * digit_at p m) (is.marks m)
          ∙ ap (λ j. mark_for (take k to) from m + 4 ^ j * digit_at p m) is.size
          ∙ ap (λ d. mark_for (take k to) from m + 4 ^ length (take k to) * d) (index-right from n p m vars h)
          ∙ sym (mark_for-push (take k to) from n m)
          );
    } in
    subst (λ (l : List Name). R l new) (sym more) (subst (λ (q : List (Option ℕ)). R (take k to ++ n ∷ []) q) (sym made) whole)
