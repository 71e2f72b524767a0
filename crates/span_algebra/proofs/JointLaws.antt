-- A joint mark is the mark of both sides' variables with the markers of each.
use Rattle.std.proofs.Common.{◌≡◌, ◌≢◌, ℕ, suc, ◌+◌, ◌-◌, ◌*◌, ◌/◌, ◌%◌, ◌^◌, ◌<◌, ◌≤◌, ◌||◌, Bool, true, false, List, [], ◌∷◌, ◌++◌, length, if◌then◌else◌, refl, sym, ap, ◌∙◌, arith, pow-suc}
use Rattle.std.specs.Prelude.{AllPairs}
use Rattle.span_types.specs.Rel.{has_name, same_name, lacking}
use Rattle.span_types.proofs.MarkSteps.{four_le}
use Rattle.span_algebra.specs.declared.joints.Meeting.{Meeting}
use Rattle.span_algebra.specs.Renaming.{both_names, markers, mark_for}
use Rattle.span_algebra.specs.Joints.{IsJoint, IsMeeting, MayMeet, right_key, right_part, shared_by}
use Rattle.span_algebra.specs.Making.{mark_by}
use Rattle.span_algebra.proofs.NameLaws.{left-names, right-names}
use Rattle.span_algebra.proofs.MarkLaws.{markers-small, last-digit, other-digits, mark-small}
use Rattle.span_types.proofs.NameLaws.{has-contains, same-is, same-self}
use Rattle.span_algebra.proofs.JoinLaws.{AreApart, neither}
use Rattle.span_algebra.proofs.JoinMarks.{markers-kept, mark-whole}

-- the number with a digit for each name
abbrev digits : List (List ℕ) → (List ℕ → ℕ) → ℕ
digits [] g = 0
digits (n ∷ ns) g = g n + 4 * digits ns g

for-digits : (to from : List (List ℕ)) (m : ℕ) → mark_for to from m ≡ digits to (markers from m)
for-digits [] from m = refl
for-digits (n ∷ to) from m = ap (λ x. markers from m n + 4 * x) (for-digits to from m)

digits-same : (ns : List (List ℕ)) (f g : List ℕ → ℕ) → ((n : List ℕ) → has_name ns n ≡ true → f n ≡ g n) → digits ns f ≡ digits ns g
digits-same [] f g h = refl
digits-same (m ∷ ns) f g h =
    let x : f m ≡ g m = h m (ap (λ b. b || has_name ns m) (same-self m)) in
    let y = digits-same ns f g (λ n k. h n (wider (same_name m n) (has_name ns n) k)) in
    omega (arith, x, y)
  where
    wider : (x y : Bool) → y ≡ true → (x || y) ≡ true
    wider true y k = refl
    wider false y k = k

digits-append : (xs ys : List (List ℕ)) (g : List ℕ → ℕ) → digits (xs ++ ys) g ≡ digits xs g + 4 ^ length xs * digits ys g
digits-append [] ys g = omega arith
digits-append (x ∷ xs) ys g = by (4 ^ length xs) (4 ^ suc (length xs)) (digits ys g) (digits xs g) (digits (xs ++ ys) g) (pow-suc 4 (length xs)) (digits-append xs ys g)
  where
    four : (p d : ℕ) → p * 4 * d ≡ 4 * (p * d)
    four p d = omega arith

    by : (p q d s w : ℕ) → q ≡ p * 4 → w ≡ s + p * d → g x + 4 * w ≡ g x + 4 * s + q * d
    by p q d s w e h =
        let k : q * d ≡ 4 * (p * d) = ap (λ z. z * d) e ∙ four p d in
        omega (arith, h, k)

digits-small : (ns : List (List ℕ)) (g : List ℕ → ℕ) → ((n : List ℕ) → g n < 4) → digits ns g < 4 ^ length ns
digits-small [] g h = omega arith
digits-small (n ∷ ns) g h =
    let e : 4 ^ suc (length ns) ≡ 4 ^ length ns * 4 = pow-suc 4 (length ns) in
    omega (arith, digits-small ns g h, h n, e)

markers-digits : (ns : List (List ℕ)) (g : List ℕ → ℕ) (n : List ℕ) → ((m : List ℕ) → g m < 4) → has_name ns n ≡ true → markers ns (digits ns g) n ≡ g n
markers-digits [] g n small h = let bad : ⊥ = cc in absurd bad
markers-digits (x ∷ ns) g n small h = by (same_name x n) refl h (λ k. markers-digits ns g n small k)
  where
    by : (b : Bool) → same_name x n ≡ b → (b || has_name ns n) ≡ true → (has_name ns n ≡ true → markers ns (digits ns g) n ≡ g n)
        → (if b then (g x + 4 * digits ns g) % 4 else markers ns ((g x + 4 * digits ns g) / 4) n) ≡ g n
    by true e h rest = last-digit (g x) (digits ns g) (small x) ∙ ap g (same-is x n e)
    by false e h rest = ap (λ k. markers ns k n) (other-digits (g x) (digits ns g) (small x)) ∙ rest h

markers-lacking : (from : List (List ℕ)) (m : ℕ) (n : List ℕ) → has_name from n ≡ false → markers from m n ≡ 0
markers-lacking [] m n h = refl
markers-lacking (x ∷ from) m n h = by (same_name x n) h (λ k. markers-lacking from (m / 4) n k)
  where
    by : (b : Bool) → (b || has_name from n) ≡ false → (has_name from n ≡ false → markers from (m / 4) n ≡ 0) → (if b then m % 4 else markers from (m / 4) n) ≡ 0
    by true h rest = let bad : ⊥ = cc in absurd bad
    by false h rest = rest h

lacking-not : (va ws : List (List ℕ)) (n : List ℕ) → has_name (lacking va ws) n ≡ true → has_name va n ≡ false
lacking-not va [] n h = let bad : ⊥ = cc in absurd bad
lacking-not va (m ∷ ws) n h = by (has_name va m) refl h (λ k. lacking-not va ws n k)
  where
    or : (x y : Bool) → same_name m n ≡ x → has_name va m ≡ false → (x || y) ≡ true → (y ≡ true → has_name va n ≡ false) → has_name va n ≡ false
    or true y e g k rec = ap (has_name va) (sym (same-is m n e)) ∙ g
    or false y e g k rec = rec k

    by : (b : Bool) → has_name va m ≡ b → has_name (if b then lacking va ws else m ∷ lacking va ws) n ≡ true → (has_name (lacking va ws) n ≡ true → has_name va n ≡ false) → has_name va n ≡ false
    by true g h rec = rec h
    by false g h rec = or (same_name m n) (has_name (lacking va ws) n) refl g h rec

-- distinct names stand apart
pub vars-apart : (ns : List (List ℕ)) → AllPairs (λ a b. a ≢ b) ns → AreApart ns
vars-apart [] h = tt
vars-apart (n ∷ ns) h = (by (has_name ns n) refl, vars-apart ns (λ i j d a b. h (suc i) (suc j) d (omega (arith, a)) (omega (arith, b))))
  where
    by : (b : Bool) → has_name ns n ≡ b → has_name ns n ≡ false
    by true e = let c = has-contains ns n e in absurd (h 0 (suc c.0) n (omega arith) (omega (arith, c.1)) (sym c.2))
    by false e = e

module _ (va vb : List (List ℕ)) (apart_a : AreApart va) (apart_b : AreApart vb) where
  abbrev names : List (List ℕ)
  names = both_names va vb

  -- the markers of the left where it has the name, else those of the right
  abbrev chosen : ℕ → ℕ → List ℕ → ℕ
  chosen ml mr n = if has_name va n then markers va ml n else markers vb mr n

  chosen-small : (ml mr : ℕ) (n : List ℕ) → chosen ml mr n < 4
  chosen-small ml mr n = by (has_name va n)
    where
      by : (b : Bool) → (if b then markers va ml n else markers vb mr n) < 4
      by true = markers-small va ml n
      by false = markers-small vb mr n

  own : (mr : ℕ) → mark_for names vb mr ≡ mark_for va vb mr + 4 ^ length va * mark_for (lacking va vb) vb mr
  own mr = for-digits names vb mr ∙ digits-append va (lacking va vb) (markers vb mr)
      ∙ ap (λ x. x + 4 ^ length va * digits (lacking va vb) (markers vb mr)) (sym (for-digits va vb mr))
      ∙ ap (λ x. mark_for va vb mr + 4 ^ length va * x) (sym (for-digits (lacking va vb) vb mr))

  all-chosen : (ml mr : ℕ) → ml < 4 ^ length va → digits names (chosen ml mr) ≡ ml + 4 ^ length va * mark_for (lacking va vb) vb mr
  all-chosen ml mr lt =
      let left : digits va (chosen ml mr) ≡ ml = digits-same va (chosen ml mr) (markers va ml) (λ n h. ap (λ b. if b then markers va ml n else markers vb mr n) h) ∙ sym (for-digits va va ml) ∙ mark-whole va ml apart_a lt in
      let right : digits (lacking va vb) (chosen ml mr) ≡ mark_for (lacking va vb) vb mr = digits-same (lacking va vb) (chosen ml mr) (markers vb mr) (λ n h. ap (λ b. if b then markers va ml n else markers vb mr n) (lacking-not va vb n h)) ∙ sym (for-digits (lacking va vb) vb mr) in
      digits-append va (lacking va vb) (chosen ml mr) ∙ ap (λ x. x + 4 ^ length va * digits (lacking va vb) (chosen ml mr)) left ∙ ap (λ x. ml + 4 ^ length va * x) right

  taken : (x y z w : ℕ) → y ≡ x + w → z + (y - x) ≡ z + w
  taken x y z w e = omega (arith, e)

  made : (ml mr : ℕ) → ml < 4 ^ length va → ml + (mark_for names vb mr - mark_for va vb mr) ≡ digits names (chosen ml mr)
  made ml mr lt = taken (mark_for va vb mr) (mark_for names vb mr) ml (4 ^ length va * mark_for (lacking va vb) vb mr) (own mr) ∙ sym (all-chosen ml mr lt)

  agree : (ml mr : ℕ) (n : List ℕ) → mark_for vb va ml ≡ mark_for vb va (mark_for va vb mr) → has_name va n ≡ true → has_name vb n ≡ true → markers va ml n ≡ markers vb mr n
  agree ml mr n e a b =
      sym (markers-kept vb va ml n b) ∙ ap (λ k. markers vb k n) e ∙ markers-kept vb va (mark_for va vb mr) n b ∙ markers-kept va vb mr n a

  back-left : (ml mr : ℕ) → ml < 4 ^ length va → mark_for va names (digits names (chosen ml mr)) ≡ ml
  back-left ml mr lt =
      for-digits va names (digits names (chosen ml mr))
      ∙ digits-same va (markers names (digits names (chosen ml mr))) (markers va ml) (λ n h. markers-digits names (chosen ml mr) n (chosen-small ml mr) (left-names va vb n h) ∙ ap (λ b. if b then markers va ml n else markers vb mr n) h)
      ∙ sym (for-digits va va ml) ∙ mark-whole va ml apart_a lt

  back-right : (ml mr : ℕ) → mr < 4 ^ length vb → mark_for vb va ml ≡ mark_for vb va (mark_for va vb mr) → mark_for vb names (digits names (chosen ml mr)) ≡ mr
  back-right ml mr lt e =
      for-digits vb names (digits names (chosen ml mr))
      ∙ digits-same vb (markers names (digits names (chosen ml mr))) (markers vb mr) (λ n h. markers-digits names (chosen ml mr) n (chosen-small ml mr) (right-names va vb n h) ∙ by n h (has_name va n) refl)
      ∙ sym (for-digits vb vb mr) ∙ mark-whole vb mr apart_b lt
    where
      by : (n : List ℕ) → has_name vb n ≡ true → (b : Bool) → has_name va n ≡ b → (if b then markers va ml n else markers vb mr n) ≡ markers vb mr n
      by n h true g = agree ml mr n e g h
      by n h false g = refl

  -- what a mark of both keeps of each side makes it again
  forth : (m : ℕ) → AreApart names → m < 4 ^ length names → m ≡ digits names (chosen (mark_for va names m) (mark_for vb names m))
  forth m apart lt = sym (mark-whole names m apart lt) ∙ for-digits names names m ∙ digits-same names (markers names m) (chosen (mark_for va names m) (mark_for vb names m)) (λ n h. by n h (has_name va n) refl (has_name vb n) refl)
    where
      by : (n : List ℕ) → has_name names n ≡ true → (x : Bool) → has_name va n ≡ x → (y : Bool) → has_name vb n ≡ y → markers names m n ≡ (if x then markers va (mark_for va names m) n else markers vb (mark_for vb names m) n)
      by n h true e y f = sym (markers-kept va names m n e)
      by n h false e true f = sym (markers-kept vb names m n f)
      by n h false e false f = let bad : true ≡ false = sym h ∙ neither va vb n e f in absurd (cc)

  forth-keys : (m : ℕ) → mark_for vb va (mark_for va names m) ≡ mark_for vb va (mark_for va vb (mark_for vb names m))
  forth-keys m = for-digits vb va (mark_for va names m) ∙ digits-same vb (markers va (mark_for va names m)) (markers va (mark_for va vb (mark_for vb names m))) (λ n h. by n h (has_name va n) refl) ∙ sym (for-digits vb va (mark_for va vb (mark_for vb names m)))
    where
      by : (n : List ℕ) → has_name vb n ≡ true → (x : Bool) → has_name va n ≡ x → markers va (mark_for va names m) n ≡ markers va (mark_for va vb (mark_for vb names m)) n
      by n h true e = markers-kept va names m n e ∙ sym (markers-kept vb names m n h) ∙ sym (markers-kept va vb (mark_for vb names m) n e)
      by n h false e = markers-lacking va (mark_for va names m) n e ∙ sym (markers-lacking va (mark_for va vb (mark_for vb names m)) n e)

  module _ (t : Meeting) (is : IsMeeting va vb t) where
    part-is : (m : ℕ) → right_part t m ≡ mark_for names vb m - mark_for va vb m
    part-is m = let x = is.both.marks m in let y = is.right.marks m in ap (λ k. k - mark_by t.right_in_left.items m) x ∙ ap (λ k. mark_for names vb m - k) y

    key-is : (m : ℕ) → right_key t m ≡ mark_for vb va (mark_for va vb m)
    key-is m = is.left.marks (shared_by t m) ∙ ap (mark_for vb va) (is.right.marks m)

    pub joint-forth : (m : ℕ) → AreApart names → m < 4 ^ length names → IsJoint t (mark_for va names m) (mark_for vb names m) m
    joint-forth m apart lt = record {
      keys = is.left.marks (mark_for va names m) ∙ forth-keys m ∙ sym (key-is (mark_for vb names m));
      whole = forth m apart lt ∙ sym (made (mark_for va names m) (mark_for vb names m) (mark-small va names m)) ∙ ap (λ k. mark_for va names m + k) (sym (part-is (mark_for vb names m)));
    }

    pub joint-back : (ml mr m : ℕ) → ml < 4 ^ length va → mr < 4 ^ length vb → IsJoint t ml mr m → (m < 4 ^ length names) × (mark_for va names m ≡ ml) × (mark_for vb names m ≡ mr)
    joint-back ml mr m la lb h =
        let e : m ≡ digits names (chosen ml mr) = h.whole ∙ ap (λ k. ml + k) (part-is mr) ∙ made ml mr la in
        let keys : mark_for vb va ml ≡ mark_for vb va (mark_for va vb mr) = sym (is.left.marks ml) ∙ h.keys ∙ key-is mr in
        (omega (arith, e, digits-small names (chosen ml mr) (chosen-small ml mr)), ap (mark_for va names) e ∙ back-left ml mr la, ap (mark_for vb names) e ∙ back-right ml mr lb keys)

    pub may-meet : length va ≤ 8 → length vb ≤ 8 → length names ≤ 8 → MayMeet t
    may-meet fa fb fn = record {
      few_left = omega (arith, is.left.size, fb);
      few_right = omega (arith, is.right.size, fa);
      few_both = omega (arith, is.both.size, fn);
      places_left = is.left.small;
      places_right = is.right.small;
      places_both = is.both.small;
      above = λ m. least (shared_by t m) (mark_for va vb m) (mark_by t.right_in_both.items m) (mark_for names vb m) (4 ^ length va * mark_for (lacking va vb) vb m) (is.right.marks m) (is.both.marks m) (own m);
    }
      where
        least : (a b c d e : ℕ) → a ≡ b → c ≡ d → d ≡ b + e → a ≤ c
        least a b c d e x y z = omega (arith, x, y, z)

    pub short-with : length names ≤ 8 → (x y : ℕ) → x < 4 ^ length va → x + right_part t y < 65536
    short-with fn x y lt =
        let e : x + right_part t y ≡ digits names (chosen x y) = ap (λ k. x + k) (part-is y) ∙ made x y lt in
        omega (arith, e, digits-small names (chosen x y) (chosen-small x y), four_le (length names) 8 fn)
