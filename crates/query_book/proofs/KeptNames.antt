-- Lists of variables to keep, read name by name.
use Rattle.std.proofs.Common.{◌≡◌, ◌⊎◌, inl, inr, ◌≢◌, ℕ, zero, suc, ◌≤◌, ◌||◌, Bool, true, false, List, [], ◌∷◌, ◌++◌, length, Contains, if◌then◌else◌, refl, sym, ap, subst, ◌∙◌, arith}
use Rattle.std.specs.Prelude.{All}
use Rattle.std.proofs.lemmas.List.Elements.{Contains-append_cases}
use Rattle.span_types.specs.Rel.{same_name, has_name}
use Rattle.line_parts.specs.NameList.{AreNames, AreListed, IsName, with_commas}
use Rattle.line_parts.proofs.Names.{listed_cut, one_listed}
use Rattle.span_types.proofs.NameLaws.{contains-has, has-contains, same-is, same-self}
use Rattle.query_book.specs.declared.refusal.CombineRefusal.{CombineRefusal}
use Rattle.query_book.specs.Keeping.{IsVarsText, HasOther, IsOther, IsKeepRefused}

abbrev Name : Type 0
Name = List ℕ

no-false : (ns : List Name) (n : Name) → has_name ns n ≡ false → Contains ns n → ⊥
no-false ns n e c = let bad : true ≡ false = sym (contains-has ns n c) ∙ e in absurd (cc)

-- the names without one
abbrev without : List Name → Name → List Name
without [] x = []
without (y ∷ ys) x = if same_name y x then ys else y ∷ without ys x

length-without : (ys : List Name) (x : Name) → has_name ys x ≡ true → length ys ≡ suc (length (without ys x))
length-without [] x h = let bad : ⊥ = cc in absurd bad
length-without (y ∷ ys) x h = by (same_name y x) h (length-without ys x)
  where
    by : (b : Bool) → (b || has_name ys x) ≡ true → (has_name ys x ≡ true → length ys ≡ suc (length (without ys x))) → suc (length ys) ≡ suc (length (if b then ys else y ∷ without ys x))
    by true g rec = refl
    by false g rec = ap suc (rec g)

keeps : (ys : List Name) (x y : Name) → has_name ys y ≡ true → (x ≡ y → ⊥) → has_name (without ys x) y ≡ true
keeps [] x y h lack = let bad : ⊥ = cc in absurd bad
keeps (z ∷ ys) x y h lack = by (same_name z x) refl (same_name z y) refl h (λ g. keeps ys x y g lack)
  where
    by : (c : Bool) → same_name z x ≡ c → (b : Bool) → same_name z y ≡ b → (b || has_name ys y) ≡ true → (has_name ys y ≡ true → has_name (without ys x) y ≡ true) → has_name (if c then ys else z ∷ without ys x) y ≡ true
    by true e true f g rec = absurd (lack (sym (same-is z x e) ∙ same-is z y f))
    by true e false f g rec = g
    by false e true f g rec = ap (λ b. b || has_name (without ys x) y) f
    by false e false f g rec = ap (λ b. b || has_name (without ys x) y) f ∙ rec g

-- a name that isn't among the others isn't a variable, or is the one that was removed
narrow : (vars xs : List Name) (x : Name) → HasOther (without vars x) xs → HasOther vars xs ⊎ Contains xs x
narrow vars [] x h = absurd h
narrow vars (y ∷ xs) x (inl lack) = by (has_name vars y) refl (same_name x y) refl
  where
    by : (c : Bool) → has_name vars y ≡ c → (b : Bool) → same_name x y ≡ b → HasOther vars (y ∷ xs) ⊎ Contains (y ∷ xs) x
    by false e b f = inl (inl (no-false vars y e))
    by true e true f = inr (0, omega arith, sym (same-is x y f))
    by true e false f = absurd (lack (has-contains (without vars x) y (keeps vars x y e (λ s. (let bad : true ≡ false = sym (ap (λ z. same_name z y) s ∙ same-self y) ∙ f in absurd (cc))))))
narrow vars (y ∷ xs) x (inr (inl c)) = inl (inr (inl c))
narrow vars (y ∷ xs) x (inr (inr h)) = by (narrow vars xs x h)
  where
    by : HasOther vars xs ⊎ Contains xs x → HasOther vars (y ∷ xs) ⊎ Contains (y ∷ xs) x
    by (inl o) = inl (inr (inr o))
    by (inr c) = inr (suc c.0, omega (arith, c.1), c.2)

-- distinct names of variables are no more than the variables
room : (xs vars : List Name) → (HasOther vars xs → ⊥) → length xs ≤ length vars
room [] vars h = omega arith
room (x ∷ xs) vars h = by (has_name vars x) refl (room xs (without vars x) still)
  where
    go : HasOther vars xs ⊎ Contains xs x → ⊥
    go (inl p) = h (inr (inr p))
    go (inr c) = h (inr (inl c))

    still : HasOther (without vars x) xs → ⊥
    still o = go (narrow vars xs x o)

    by : (b : Bool) → has_name vars x ≡ b → length xs ≤ length (without vars x) → suc (length xs) ≤ length vars
    by false e rest = absurd (h (inl (no-false vars x e)))
    by true e rest = omega (arith, rest, length-without vars x e)

pub no-ninth : (vars names : List Name) (name : Name) → length vars ≤ 8 → Contains vars name → (HasOther vars names → ⊥) → length names ≡ 8 → (Contains names name → ⊥) → ⊥
no-ninth vars names name few there kept eight new = omega (arith, few, eight, room (name ∷ names) vars all)
  where
    all : HasOther vars (name ∷ names) → ⊥
    all (inl lack) = lack there
    all (inr (inl c)) = new c
    all (inr (inr o)) = kept o

-- one more variable, which isn't in the list
pushed : (vars names : List Name) (name : Name) → HasOther vars (names ++ name ∷ []) → HasOther vars names ⊎ ((Contains vars name → ⊥) ⊎ Contains names name)
pushed vars [] name (inl lack) = inr (inl lack)
pushed vars [] name (inr (inl c)) = absurd (omega (arith, c.1))
pushed vars [] name (inr (inr o)) = absurd o
pushed vars (m ∷ names) name (inl lack) = inl (inl lack)
pushed vars (m ∷ names) name (inr (inl c)) = by (Contains-append_cases names (name ∷ []) m c)
  where
    by : Contains names m ⊎ Contains (name ∷ []) m → HasOther vars (m ∷ names) ⊎ ((Contains vars name → ⊥) ⊎ Contains (m ∷ names) name)
    by (inl d) = inl (inr (inl d))
    by (inr (zero, lt, e)) = inr (inr (0, omega arith, sym e))
    by (inr (suc k, lt, e)) = absurd (omega (arith, lt))
pushed vars (m ∷ names) name (inr (inr o)) = by (pushed vars names name o)
  where
    by : HasOther vars names ⊎ ((Contains vars name → ⊥) ⊎ Contains names name) → HasOther vars (m ∷ names) ⊎ ((Contains vars name → ⊥) ⊎ Contains (m ∷ names) name)
    by (inl p) = inl (inr (inr p))
    by (inr (inl lack)) = inr (inl lack)
    by (inr (inr c)) = inr (inr (suc c.0, omega (arith, c.1), c.2))

pub kept-push : (vars names new : List Name) (name : Name) → (HasOther vars names → ⊥) → Contains vars name × (Contains names name → ⊥) × (new ≡ names ++ name ∷ []) → HasOther vars new → ⊥
kept-push vars names new name kept h o = by (pushed vars names name (subst (HasOther vars) h.2 o))
  where
    by : HasOther vars names ⊎ ((Contains vars name → ⊥) ⊎ Contains names name) → ⊥
    by (inl p) = kept p
    by (inr (inl lack)) = lack h.0
    by (inr (inr c)) = h.1 c

other-there : (vars names tail : List Name) (name : Name) → (Contains vars name → ⊥) ⊎ Contains names name → HasOther vars (names ++ name ∷ tail)
other-there vars [] tail name (inl lack) = inl lack
other-there vars [] tail name (inr c) = absurd (omega (arith, c.1))
other-there vars (m ∷ names) tail name (inl lack) = inr (inr (other-there vars names tail name (inl lack)))
other-there vars (m ∷ names) tail name (inr (zero, lt, e)) = inr (inl (subst (Contains (names ++ name ∷ tail)) (sym e) (in-middle names tail name)))
  where
    in-middle : (xs ys : List Name) (x : Name) → Contains (xs ++ x ∷ ys) x
    in-middle [] ys x = (0, omega arith, refl)
    in-middle (z ∷ xs) ys x = let c = in-middle xs ys x in (suc c.0, omega (arith, c.1), c.2)
other-there vars (m ∷ names) tail name (inr (suc k, lt, e)) = inr (inr (other-there vars names tail name (inr (k, omega (arith, lt), e))))

-- the text is that of these names and of those of the rest
pub record IsReadTo (vars : List Name) (text : List ℕ) (names : List Name) (rest : List ℕ) : Type 0 where
  pub kept : HasOther vars names → ⊥
  pub listed : AreListed rest
  pub joins : (name : Name) (more : List Name) → AreNames (name ∷ more) × (rest ≡ with_commas name more) → IsVarsText text (names ++ name ∷ more)

pub read-none : (vars : List Name) (text : List ℕ) → AreListed text → IsReadTo vars text [] text
read-none vars text listed = record { kept = λ o. o; listed = listed; joins = λ name more h. h }

append-one : (xs ys : List Name) (x : Name) → (xs ++ x ∷ []) ++ ys ≡ xs ++ x ∷ ys
append-one [] ys x = refl
append-one (z ∷ xs) ys x = ap (λ l. z ∷ l) (append-one xs ys x)

module _ (vars : List Name) (text : List ℕ) (names : List Name) (rest : List ℕ) (is : IsReadTo vars text names rest) where
  pub cut-name : (name more : List ℕ) → rest ≡ name ++ 44 ∷ more → All (λ b. b ≢ 44) name → IsName name
  cut-name name more cut plain = (listed_cut rest name more cut plain is.listed).0

  pub read-next : (name more : List ℕ) (new : List Name) → rest ≡ name ++ 44 ∷ more → All (λ b. b ≢ 44) name → Contains vars name × (Contains names name → ⊥) × (new ≡ names ++ name ∷ []) → IsReadTo vars text new more
  read-next name more new cut plain ok =
      let parts = listed_cut rest name more cut plain is.listed in
      record {
        kept = kept-push vars names new name is.kept ok;
        listed = parts.1;
        joins = λ next others h.
            subst (IsVarsText text) (sym (ap (λ l. l ++ next ∷ others) ok.2 ∙ append-one names (next ∷ others) name))
            (is.joins name (next ∷ others) ((parts.0, h.0), cut ∙ ap (λ (l : List ℕ). name ++ 44 ∷ l) h.1));
      }

  refused-by : (name : Name) (tail : List Name) (why : CombineRefusal) → AreNames (name ∷ tail) × (rest ≡ with_commas name tail) → IsOther vars names name why → IsKeepRefused vars text why
  refused-by name tail why h (inl e) = subst (IsKeepRefused vars text) (sym e) tt
  refused-by name tail why h (inr o) = subst (IsKeepRefused vars text) (sym o.0) (names ++ name ∷ tail, is.joins name tail h, other-there vars names tail name o.1)

  pub refused-next : (name more : List ℕ) (why : CombineRefusal) → rest ≡ name ++ 44 ∷ more → All (λ b. b ≢ 44) name → IsOther vars names name why → IsKeepRefused vars text why
  refused-next name more why cut plain o =
      let parts = listed_cut rest name more cut plain is.listed in
      let next = parts.1 in
      refused-by name (next.0 ∷ next.1) why ((parts.0, next.2), cut ∙ ap (λ (l : List ℕ). name ++ 44 ∷ l) next.3) o

  pub last-name : All (λ b. b ≢ 44) rest → IsName rest
  last-name plain = one_listed rest plain is.listed

  pub read-all : (new : List Name) → IsName rest → Contains vars rest × (Contains names rest → ⊥) × (new ≡ names ++ rest ∷ []) → IsVarsText text new
  read-all new named ok = subst (IsVarsText text) (sym ok.2) (is.joins rest [] ((named, tt), refl))

  pub refused-last : (why : CombineRefusal) → IsName rest → IsOther vars names rest why → IsKeepRefused vars text why
  refused-last why named o = refused-by rest [] why ((named, tt), refl) o
