-- What the reader's steps do to what it shows.
use Rattle.std.proofs.Common.{◌≡◌, ℕ, zero, suc, ◌<◌, ◌≤◌, Bool, true, false, List, [], ◌∷◌, ◌++◌, length, map, take, refl, sym, ap, ◌∙◌, subst, arith, bytes_eq}
use Rattle.std.proofs.lemmas.Bool.Decides.{nat_tests}
use Rattle.std.specs.Prelude.{nat_lt}
use Rattle.formula_syntax.specs.Numbering.{Names, number_in, seen}
use Rattle.span_types.specs.FormulaTree.{FormulaTree, tree_of}
use Rattle.span_types.specs.declared.formula.Formula.{Formula}
use Rattle.formula_syntax.specs.Machine.{Group, cat_of}
use Rattle.formula_syntax.specs.View.{trees, capped, ShowsGroups, ShowsGroup, outermost, inside, sign_of}
use Rattle.formula_syntax.specs.declared.reader.Group as group
use Rattle.formula_syntax.specs.declared.build.Sign as sign
use Rattle.formula_syntax.proofs.Chains.{trees-append, capped-append, capped-cat}

-- ---- names

take_nil : (n : ℕ) → take n (let e : Names = [] in e) ≡ []
take_nil zero = refl
take_nil (suc n) = refl

pub record Numbered (n : ℕ) (ys : Names) (x : List ℕ) (v : ℕ) : Type 0 where
  pub number : number_in ys x ≡ v
  pub prefix : take n (seen ys x) ≡ seen (take n ys) x
  pub small : length ys ≤ n → length (seen ys x) ≤ n
  pub more : length ys ≤ length (seen ys x)

pub number_ok : (n : ℕ) (ys : Names) (x : List ℕ) (v : ℕ) → v ≡ number_in (take n ys) x → v < n → Numbered n ys x v
number_ok zero ys x v e lt = absurd (omega arith)
number_ok (suc n) [] x v e lt = record { number = sym e; prefix = ap (λ z. x ∷ z) (take_nil n); small = λ h. omega arith; more = omega arith }
number_ok (suc n) (y ∷ ys) x v e lt = go (bytes_eq y x) refl (λ w. number_ok n ys x w)
  where
    go : (t : Bool) → bytes_eq y x ≡ t → ((w : ℕ) → w ≡ number_in (take n ys) x → w < n → Numbered n ys x w) → Numbered (suc n) (y ∷ ys) x v
    go true q ih =
        let none : v ≡ 0 = e ∙ rw q refl in
        record { number = rw q (sym none); prefix = rw q refl; small = rw q (λ h. h); more = rw q (omega arith) }
    go false q ih =
        let rest = ih (number_in (take n ys) x) refl (let one : v ≡ suc (number_in (take n ys) x) = e ∙ rw q refl in omega arith) in
        let one : v ≡ suc (number_in (take n ys) x) = e ∙ rw q refl in
        record { number = rw q (ap suc rest.number ∙ sym one); prefix = rw q (ap (λ z. y ∷ z) rest.prefix); small = rw q (λ h. let s = rest.small (omega arith) in omega arith); more = rw q (let s = rest.more in omega arith) }

pub record Crowded (n : ℕ) (ys : Names) (x : List ℕ) : Type 0 where
  pub number : n ≤ number_in ys x
  pub prefix : take n (seen ys x) ≡ take n ys
  pub many : n < length (seen ys x)

pub number_full : (n : ℕ) (ys : Names) (x : List ℕ) → n ≤ number_in (take n ys) x → Crowded n ys x
number_full zero ys x h = record { number = omega arith; prefix = refl; many = some ys }
  where
    pick : (y : List ℕ) (ys : Names) (t : Bool) → bytes_eq y x ≡ t → 0 < length (seen (y ∷ ys) x)
    pick y ys true q = rw q (omega arith)
    pick y ys false q = rw q (omega arith)

    some : (ys : Names) → 0 < length (seen ys x)
    some [] = omega arith
    some (y ∷ ys) = pick y ys (bytes_eq y x) refl
number_full (suc n) [] x h = absurd (omega arith)
number_full (suc n) (y ∷ ys) x h = go (bytes_eq y x) refl (number_full n ys x)
  where
    go : (t : Bool) → bytes_eq y x ≡ t → (n ≤ number_in (take n ys) x → Crowded n ys x) → Crowded (suc n) (y ∷ ys) x
    go true q ih = let bad : suc n ≤ 0 = rw q at h in absurd (omega arith)
    go false q ih =
        let more : suc n ≤ suc (number_in (take n ys) x) = rw q at h in
        let rest = ih (omega arith) in
        record { number = rw q (let s = rest.number in omega arith); prefix = rw q (ap (λ z. y ∷ z) rest.prefix); many = rw q (let s = rest.many in omega arith) }

pub same_test : (n a b : ℕ) → (b ≤ n → a ≤ n) → b ≤ a → nat_lt n a ≡ nat_lt n b
same_test n a b f le = go (nat_lt n b) refl
  where
    go : (t : Bool) → nat_lt n b ≡ t → nat_lt n a ≡ t
    go true e = grind (arith, nat_tests)
    go false e = let small : b ≤ n = grind (arith, nat_tests) in let s = f small in grind (arith, nat_tests)

pub true_test : (n a : ℕ) → n < a → nat_lt n a ≡ true
true_test n a h = grind (arith, nat_tests)

-- ---- branches and parts

pub bar_branches : (bs new qs : List Formula) (f : Formula) (ms ps : List FormulaTree) → new ≡ bs ++ f ∷ [] → tree_of f ≡ cat_of (trees qs) → trees bs ≡ map capped ms → trees qs ≡ map capped ps → trees new ≡ map capped (ms ++ cat_of ps ∷ [])
bar_branches bs new qs f ms ps e h p q =
    ap trees e ∙ trees-append bs (f ∷ []) ∙ ap (λ z. z ++ tree_of f ∷ []) p
    ∙ ap (λ z. map capped ms ++ z ∷ []) (h ∙ ap cat_of q ∙ sym (capped-cat ps)) ∙ sym (capped-append ms (cat_of ps ∷ []))

pub record Snoc (ps : List FormulaTree) (xs : List FormulaTree) (y : FormulaTree) : Type 0 where
  pub prefix : List FormulaTree
  pub last : FormulaTree
  pub cut : ps ≡ prefix ++ last ∷ []
  pub same_prefix : map capped prefix ≡ xs
  pub same_last : capped last ≡ y

pub snoc_capped : (ps xs : List FormulaTree) (y : FormulaTree) → map capped ps ≡ xs ++ y ∷ [] → Snoc ps xs y
snoc_capped [] [] y e = cc
snoc_capped [] (x ∷ xs) y e = cc
snoc_capped (p ∷ []) [] y e = let s : capped p ≡ y = cc in record { prefix = []; last = p; cut = refl; same_prefix = refl; same_last = s }
snoc_capped (p ∷ q ∷ ps) [] y e = cc
snoc_capped (p ∷ ps) (x ∷ xs) y e =
    let rest : map capped ps ≡ xs ++ y ∷ [] = cc in
    let first : capped p ≡ x = cc in
    let r = snoc_capped ps xs y rest in
    record { prefix = p ∷ r.prefix; last = r.last; cut = ap (λ z. p ∷ z) r.cut; same_prefix = rw (first, r.same_prefix) refl; same_last = r.same_last }

pub none_capped : (ps : List FormulaTree) → [] ≡ map capped ps → ps ≡ []
none_capped [] e = refl
none_capped (p ∷ ps) e = cc

pub capped-sign : (s : sign.Sign) (f : FormulaTree) → capped (sign_of s f) ≡ sign_of s (capped f)
capped-sign sign.TheVariants.Star f = refl
capped-sign sign.TheVariants.Plus f = refl
capped-sign sign.TheVariants.Opt f = refl

-- ---- groups

pub length_groups : (gs : List group.Group) (ms : List Group) → ShowsGroups gs ms → length gs ≡ length ms
length_groups gs ms (outermost _ _ e f) = rw (e, f) refl
length_groups gs ms (inside _ hs _ ns g m e f s h) = let r = length_groups hs ns h in ap length e ∙ after hs g ∙ ap suc r ∙ sym (ap length f)
  where
    after : (hs : List group.Group) (g : group.Group) → length (hs ++ g ∷ []) ≡ suc (length hs)
    after [] g = refl
    after (h ∷ hs) g = ap suc (after hs g)

pub record Popped (hs : List group.Group) (g : group.Group) (ms : List Group) : Type 0 where
  pub first : Group
  pub rest : List Group
  pub cut : ms ≡ first ∷ rest
  pub shows : ShowsGroup g first
  pub groups : ShowsGroups hs rest

pub same_snoc : {A : Type 0} (xs ys : List A) (x y : A) → xs ++ x ∷ [] ≡ ys ++ y ∷ [] → (xs ≡ ys) × (x ≡ y)
same_snoc [] [] x y e = let s : x ≡ y = cc in (refl, s)
same_snoc [] (b ∷ []) x y e = cc
same_snoc [] (b ∷ c ∷ ys) x y e = cc
same_snoc (a ∷ []) [] x y e = cc
same_snoc (a ∷ b ∷ xs) [] x y e = cc
same_snoc (a ∷ xs) (b ∷ ys) x y e =
    let rest : xs ++ x ∷ [] ≡ ys ++ y ∷ [] = cc in
    let first : a ≡ b = cc in
    let r = same_snoc xs ys x y rest in
    (rw (first, r.0) refl, r.1)

not_nil : {A : Type 0} (hs : List A) (g : A) (Q : Type 0) → hs ++ g ∷ [] ≡ [] → Q
not_nil [] g Q e = cc
not_nil (h ∷ hs) g Q e = cc

pub popped : (gs hs : List group.Group) (g : group.Group) (ms : List Group) → gs ≡ hs ++ g ∷ [] → ShowsGroups gs ms → Popped hs g ms
popped gs hs g ms e (outermost _ _ f h) = not_nil hs g _ (sym e ∙ f)
popped gs hs g ms e (inside _ js _ ns x m f h s t) =
    let same = same_snoc js hs x g (sym f ∙ e) in
    record { first = m; rest = ns; cut = h; shows = subst (λ z. ShowsGroup z m) same.1 s; groups = subst (λ z. ShowsGroups z ns) same.0 t }

pub no_groups : (gs : List group.Group) (ms : List Group) → gs ≡ [] → ShowsGroups gs ms → ms ≡ []
no_groups gs ms e (outermost _ _ f h) = h
no_groups gs ms e (inside _ js _ ns x m f h s t) = not_nil js x _ (sym f ∙ e)

pub nil_from_length : {A : Type 0} (xs : List A) → length xs ≡ 0 → xs ≡ []
nil_from_length [] e = refl
nil_from_length (x ∷ xs) e = absurd (omega arith)
