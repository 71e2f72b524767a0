-- The parts of each form of formula, from those of its parts.
use Rattle.std.proofs.Common.{◌≡◌, ℕ, ◌+◌, ◌*◌, ◌^◌, ◌<◌, ◌↔◌, ◌⊎◌, inl, inr, refl, sym, ap, subst, arith, List, [], ◌∷◌, length, Contains, Bool}
use Rattle.span_types.specs.FormulaTree.{FormulaTree, Set, Empty, Cat, Alt, Star, Plus, Opt, Capture, sets}
use Rattle.formula_law.specs.Positions.{SumOf, IsNull, IsFirst, IsLast}
use Rattle.marker_nfa.specs.declared.nfa.End.{End}
use Rattle.marker_nfa.specs.declared.parts.Part.{Part}
use Rattle.marker_nfa.specs.Parts.{Adds, IsPart, IsRaised, IsRaisedBy}
use Rattle.marker_nfa.specs.Parts.{letters_in}
use Rattle.std.proofs.Common.{◌++◌, Result, Ok, Err, IfOk}

both : {A B C D : Type 0} → (A → C) → (B → D) → A ⊎ B → C ⊎ D
both f g (inl x) = inl (f x)
both f g (inr y) = inr (g y)

abbrev pub OneSum : List ℕ → List ℕ → ℕ → Type 0
OneSum left right m = (x : ℕ) × Contains left x × ((y : ℕ) × Contains right y × (m ≡ x + y))

pub part_of_set : (b : List Bool) (n : ℕ) (r : Part) → r.nulls.items ≡ [] → ((x : End) → Contains r.firsts.items x ↔ (x ≡ record { state = n; mark = 0 })) → ((x : End) → Contains r.lasts.items x ↔ (x ≡ record { state = n; mark = 0 })) → IsPart (Set b) n r
part_of_set b n r e f l = record {
  nulls_are = λ m. ((λ c. none m c), λ h. absurd h);
  firsts_are = λ x. ((λ c. (let q = (f x).0 c in (ap (λ (z : End). z.mark) q, ap (λ (z : End). z.state) q))), λ h. (f x).1 (λ i. record { state = h.1 i; mark = h.0 i }));
  lasts_are = λ x. ((λ c. (let q = (l x).0 c in (ap (λ (z : End). z.state) q, ap (λ (z : End). z.mark) q))), λ h. (l x).1 (λ i. record { state = h.0 i; mark = h.1 i }));
}
  where
    none : (m : ℕ) → Contains r.nulls.items m → ⊥
    none m c = let g : c.0 < length r.nulls.items = c.1 in let z : length r.nulls.items ≡ 0 = ap length e in omega (arith, g, z)

no_end : (xs : List End) (x : End) → xs ≡ [] → Contains xs x → ⊥
no_end xs x e c = let g : c.0 < length xs = c.1 in let z : length xs ≡ 0 = ap length e in omega (arith, g, z)

pub part_of_empty : (n : ℕ) (r : Part) → ((m : ℕ) → Contains r.nulls.items m ↔ (m ≡ 0)) → r.firsts.items ≡ [] → r.lasts.items ≡ [] → IsPart Empty n r
part_of_empty n r h f l = record {
  nulls_are = h;
  firsts_are = λ x. ((λ c. no_end _ x f c), λ z. absurd z);
  lasts_are = λ x. ((λ c. no_end _ x l c), λ z. absurd z);
}

pub part_of_cat : (a b : FormulaTree) (n : ℕ) (p q r : Part) → ((m : ℕ) → Contains r.nulls.items m ↔ OneSum p.nulls.items q.nulls.items m) → Adds p.firsts.items r.firsts.items (IsRaisedBy p.nulls.items q.firsts.items) → Adds q.lasts.items r.lasts.items (IsRaisedBy q.nulls.items p.lasts.items) → IsPart a n p → IsPart b (n + sets a) q → IsPart (Cat a b) n r
part_of_cat a b n p q r hn hf hl ip iq = record {
  nulls_are = λ m. (
    (λ c. (let s = (hn m).0 c in record { left = s.0; right = s.2.0; in_left = (ip.nulls_are s.0).0 s.1; in_right = (iq.nulls_are s.2.0).0 s.2.1; sum = s.2.2 })),
    λ s. (hn m).1 (s.left, (ip.nulls_are s.left).1 s.in_left, (s.right, (iq.nulls_are s.right).1 s.in_right, s.sum)),
  );
  firsts_are = λ x. (
    (λ c. both (ip.firsts_are x).0 (first_to x) ((hf x).0 c)),
    λ s. (hf x).1 (both (ip.firsts_are x).1 (first_from x) s),
  );
  lasts_are = λ x. (
    (λ c. both (iq.lasts_are x).0 (last_to x) ((hl x).0 c)),
    λ s. (hl x).1 (both (iq.lasts_are x).1 (last_from x) s),
  );
}
  where
    first_to : (x : End) → IsRaisedBy p.nulls.items q.firsts.items x → SumOf (IsNull a) (λ y. IsFirst b (n + sets a) y x.state) x.mark
    first_to x s =
        let y : End = s.2.0 in
        subst (λ (z : End). SumOf (IsNull a) (λ y. IsFirst b (n + sets a) y z.state) z.mark) (sym s.2.2) (record { left = s.0; right = y.mark; in_left = (ip.nulls_are s.0).0 s.1; in_right = (iq.firsts_are y).0 s.2.1; sum = refl })

    first_from : (x : End) → SumOf (IsNull a) (λ y. IsFirst b (n + sets a) y x.state) x.mark → IsRaisedBy p.nulls.items q.firsts.items x
    first_from x s = (s.left, (ip.nulls_are s.left).1 s.in_left, (record { state = x.state; mark = s.right }, (iq.firsts_are (record { state = x.state; mark = s.right })).1 s.in_right, λ i. record { state = x.state; mark = s.sum i }))

    last_to : (x : End) → IsRaisedBy q.nulls.items p.lasts.items x → SumOf (λ y. IsLast a n x.state y) (IsNull b) x.mark
    last_to x s =
        let y : End = s.2.0 in
        let t : s.0 + y.mark ≡ y.mark + s.0 = omega arith in
        subst (λ (z : End). SumOf (λ y. IsLast a n z.state y) (IsNull b) z.mark) (sym s.2.2) (record { left = y.mark; right = s.0; in_left = (ip.lasts_are y).0 s.2.1; in_right = (iq.nulls_are s.0).0 s.1; sum = t })

    last_from : (x : End) → SumOf (λ y. IsLast a n x.state y) (IsNull b) x.mark → IsRaisedBy q.nulls.items p.lasts.items x
    last_from x s =
        let t : x.mark ≡ s.right + s.left = omega (arith, s.sum) in
        (s.right, (iq.nulls_are s.right).1 s.in_right, (record { state = x.state; mark = s.left }, (ip.lasts_are (record { state = x.state; mark = s.left })).1 s.in_left, λ i. record { state = x.state; mark = t i }))

same_of : {X : Type 0} (xs : List X) (x : X) → ((y : X) × Contains xs y × (x ≡ y)) → Contains xs x
same_of {X} xs x s = subst (λ (z : X). Contains xs z) (sym s.2) s.1

as_same : {X : Type 0} (xs : List X) (x : X) → Contains xs x → (y : X) × Contains xs y × (x ≡ y)
as_same xs x c = (x, c, refl)

pub part_of_alt : (a b : FormulaTree) (n : ℕ) (p q r : Part) → Adds p.nulls.items r.nulls.items (λ m. (y : ℕ) × Contains q.nulls.items y × (m ≡ y)) → Adds p.firsts.items r.firsts.items (λ x. (y : End) × Contains q.firsts.items y × (x ≡ y)) → Adds p.lasts.items r.lasts.items (λ x. (y : End) × Contains q.lasts.items y × (x ≡ y)) → IsPart a n p → IsPart b (n + sets a) q → IsPart (Alt a b) n r
part_of_alt a b n p q r hn hf hl ip iq = record {
  nulls_are = λ m. (
    (λ c. both (ip.nulls_are m).0 (λ s. (iq.nulls_are m).0 (same_of _ m s)) ((hn m).0 c)),
    λ s. (hn m).1 (both (ip.nulls_are m).1 (λ h. as_same _ m ((iq.nulls_are m).1 h)) s),
  );
  firsts_are = λ x. (
    (λ c. both (ip.firsts_are x).0 (λ s. (iq.firsts_are x).0 (same_of _ x s)) ((hf x).0 c)),
    λ s. (hf x).1 (both (ip.firsts_are x).1 (λ h. as_same _ x ((iq.firsts_are x).1 h)) s),
  );
  lasts_are = λ x. (
    (λ c. both (ip.lasts_are x).0 (λ s. (iq.lasts_are x).0 (same_of _ x s)) ((hl x).0 c)),
    λ s. (hl x).1 (both (ip.lasts_are x).1 (λ h. as_same _ x ((iq.lasts_are x).1 h)) s),
  );
}

pub part_of_plus : (a : FormulaTree) (n : ℕ) (p : Part) → IsPart a n p → IsPart (Plus a) n p
part_of_plus a n p ip = record { nulls_are = ip.nulls_are; firsts_are = ip.firsts_are; lasts_are = ip.lasts_are }

swap : {A B : Type 0} → A ⊎ B → B ⊎ A
swap (inl x) = inr x
swap (inr y) = inl y

pub part_of_opt : (a : FormulaTree) (n : ℕ) (p r : Part) → Adds p.nulls.items r.nulls.items (λ m. m ≡ 0) → r.firsts ≡ p.firsts → r.lasts ≡ p.lasts → IsPart a n p → IsPart (Opt a) n r
part_of_opt a n p r hn f l ip = record {
  nulls_are = λ m. ((λ c. both (λ e. e) (ip.nulls_are m).0 (swap ((hn m).0 c))), λ s. (hn m).1 (swap (both (λ e. e) (ip.nulls_are m).1 s)));
  firsts_are = rw f ip.firsts_are;
  lasts_are = rw l ip.lasts_are;
}

pub part_of_star : (a : FormulaTree) (n : ℕ) (p r : Part) → Adds p.nulls.items r.nulls.items (λ m. m ≡ 0) → r.firsts ≡ p.firsts → r.lasts ≡ p.lasts → IsPart a n p → IsPart (Star a) n r
part_of_star a n p r hn f l ip = let o = part_of_opt a n p r hn f l ip in record { nulls_are = o.nulls_are; firsts_are = o.firsts_are; lasts_are = o.lasts_are }

pub part_of_capture : (x : ℕ) (a : FormulaTree) (n o : ℕ) (p r : Part) → o ≡ 4 ^ x → ((m : ℕ) → Contains r.nulls.items m ↔ (y : ℕ) × Contains p.nulls.items y × (m ≡ 3 * o + y)) → ((x : End) → Contains r.firsts.items x ↔ IsRaised o p.firsts.items x) → ((x : End) → Contains r.lasts.items x ↔ IsRaised (2 * o) p.lasts.items x) → IsPart a n p → IsPart (Capture x a) n r
part_of_capture x a n o p r e hn hf hl ip = record {
  nulls_are = λ m. (
    (λ c. (let s = (hn m).0 c in (s.0, (ip.nulls_are s.0).0 s.1, omega (arith, s.2, e)))),
    λ s. (hn m).1 (s.0, (ip.nulls_are s.0).1 s.1, omega (arith, s.2, e)),
  );
  firsts_are = λ z. ((λ c. first_to z ((hf z).0 c)), λ s. (hf z).1 (first_from z s));
  lasts_are = λ z. ((λ c. last_to z ((hl z).0 c)), λ s. (hl z).1 (last_from z s));
}
  where
    first_to : (z : End) → IsRaised o p.firsts.items z → IsFirst (Capture x a) n z.mark z.state
    first_to z s =
        let y : End = s.0 in
        let t : o + y.mark ≡ 4 ^ x + y.mark = omega (arith, e) in
        subst (λ (w : End). IsFirst (Capture x a) n w.mark w.state) (sym s.2) (y.mark, (ip.firsts_are y).0 s.1, t)

    first_from : (z : End) → IsFirst (Capture x a) n z.mark z.state → IsRaised o p.firsts.items z
    first_from z s =
        let t : z.mark ≡ o + s.0 = omega (arith, e, s.2) in
        (record { state = z.state; mark = s.0 }, (ip.firsts_are (record { state = z.state; mark = s.0 })).1 s.1, λ i. record { state = z.state; mark = t i })

    last_to : (z : End) → IsRaised (2 * o) p.lasts.items z → IsLast (Capture x a) n z.state z.mark
    last_to z s =
        let y : End = s.0 in
        let t : 2 * o + y.mark ≡ y.mark + 2 * 4 ^ x = omega (arith, e) in
        subst (λ (w : End). IsLast (Capture x a) n w.state w.mark) (sym s.2) (y.mark, (ip.lasts_are y).0 s.1, t)

    last_from : (z : End) → IsLast (Capture x a) n z.state z.mark → IsRaised (2 * o) p.lasts.items z
    last_from z s =
        let t : z.mark ≡ 2 * o + s.0 = omega (arith, e, s.2) in
        (record { state = z.state; mark = s.0 }, (ip.lasts_are (record { state = z.state; mark = s.0 })).1 s.1, λ i. record { state = z.state; mark = t i })

pub length_both : {X : Type 0} (xs ys : List X) → length (xs ++ ys) ≡ length xs + length ys
length_both [] ys = omega arith
length_both (x ∷ xs) ys = omega (arith, length_both xs ys)

pub letters_length : (f : FormulaTree) → length (letters_in f) ≡ sets f
letters_length (Set b) = refl
letters_length Empty = refl
letters_length (Cat a b) = omega (arith, length_both (letters_in a) (letters_in b), letters_length a, letters_length b)
letters_length (Alt a b) = omega (arith, length_both (letters_in a) (letters_in b), letters_length a, letters_length b)
letters_length (Star a) = letters_length a
letters_length (Plus a) = letters_length a
letters_length (Opt a) = letters_length a
letters_length (Capture x a) = letters_length a

pub next_index : (old mid : List (List Bool)) (a : FormulaTree) → mid ≡ old ++ letters_in a → length mid + 1 ≡ length old + 1 + sets a
next_index old mid a e =
    let l : length mid ≡ length (old ++ letters_in a) = ap length e in
    omega (arith, l, length_both old (letters_in a), letters_length a)

pub if_ok_map : {A E : Type 0} (r : Result A E) (P Q : A → Type 0) → ((x : A) → P x → Q x) → IfOk r P → IfOk r Q
if_ok_map (Ok x) P Q f h = f x h
if_ok_map (Err e) P Q f h = h

pub if_ok_any : {A E : Type 0} (r : Result A E) (Q : Type 0) → Q → IfOk r (λ x. Q)
if_ok_any (Ok x) Q q = q
if_ok_any (Err e) Q q = tt
