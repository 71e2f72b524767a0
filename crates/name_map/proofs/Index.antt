-- What the index says of each name once the entry of one has changed.
use Rattle.std.proofs.Common.{◌≡◌, ℕ, Bool, true, false, cond, List, Option, None, Some, IsSome, Vec, Ordering, refl, sym, ap, subst, ◌∙◌}
use Rattle.std.specs.Prelude.{IfNone}
use Rattle.std.specs.Option.{option_map}
use Rattle.std.specs.Ordering.{nat_cmp}
use Rattle.std.specs.Cmp.Lexicographic.{slice_cmp, same_text}
use Rattle.std.specs.BTreeMap.{BTreeMap, UpdatesBy, is_at}
use Rattle.std.specs.Map.{KeepsOthers}
use Rattle.std.proofs.lemmas.Cmp.{eq_by_cmp_equiv, nat_list_cmp_total, nat_list_eq_equiv}
use Rattle.std.proofs.lemmas.Map.Text.{is_eq-slice_cmp}
use Rattle.name_map.specs.Named.{is_same}
use Rattle.name_map.specs.Kept.{indexed}

-- the order of the keys, by their bytes
abbrev pub key_order : {Z : Type 0} → Vec ℕ Z → Vec ℕ Z → Ordering
key_order k l = slice_cmp nat_cmp k.items l.items

-- where a name stands beside a key
abbrev pub name_order : {Z : Type 0} → List ℕ → Vec ℕ Z → Ordering
name_order name key = slice_cmp nat_cmp name key.items

-- a key with one name hasn't another
apart : {Z : Type 0} (n m : List ℕ) (key : Vec ℕ Z) → is_same n m ≡ false → is_at (name_order n) key ≡ true → is_at (name_order m) key ≡ false
apart n m key differs same =
    let with_name : is_same n key.items ≡ true = sym (is_eq-slice_cmp n key.items) ∙ same in
    is_eq-slice_cmp m key.items ∙ (nat_list_eq_equiv.symm m key.items ∙ (sym (nat_list_eq_equiv.congr n key.items m with_name) ∙ differs))

module _ {Z : Type 0} (n : List ℕ) (old new : BTreeMap (Vec ℕ Z) ℕ) (w : Option ℕ) (h : UpdatesBy key_order (name_order n) old new w) where
  others : (m : List ℕ) → is_same n m ≡ false → indexed new.entries m ≡ indexed old.entries m
  unfolding KeepsOthers
  others m differs = h.3 (is_at (name_order m)) (λ x y. (eq_by_cmp_equiv nat_list_cmp_total).congr m x.items y.items) (λ k. apart n m k differs)

  -- the name has w, and the others what they had
  pub indexed-updated : (m : List ℕ) → indexed new.entries m ≡ cond (is_same n m) w (indexed old.entries m)
  indexed-updated m = by (is_same n m) refl
    where
      by : (b : Bool) → b ≡ is_same n m → indexed new.entries m ≡ cond b w (indexed old.entries m)
      by true q = subst (λ k. indexed new.entries k ≡ w) (same_text n m q) h.1
      by false q = others m (sym q)

-- a number that is written at a name, or at none
pub numbered : {Z A : Type 0} (n : List ℕ) (p : List ℕ × A) (old new : BTreeMap (Vec ℕ Z) ℕ) (k : ℕ) (o : Option ℕ) → n ≡ p.0 → o ≡ indexed old.entries n → (IsSome o → UpdatesBy key_order (name_order n) old new (Some k)) → (IfNone o (new.entries ≡ old.entries))
    → (m : List ℕ) → indexed new.entries m ≡ cond (is_same p.0 m) (option_map (λ _. k) (indexed old.entries p.0)) (indexed old.entries m)
numbered n p old new k None name at some none m = ap (λ es. indexed es m) none ∙ by (is_same p.0 m) refl
  where
    by : (b : Bool) → b ≡ is_same p.0 m → indexed old.entries m ≡ cond b (option_map (λ _. k) (indexed old.entries p.0)) (indexed old.entries m)
    by true q =
        let gone : indexed old.entries p.0 ≡ None = sym (at ∙ ap (indexed old.entries) name) in
        subst (λ l. indexed old.entries l ≡ option_map (λ _. k) (indexed old.entries p.0)) (same_text p.0 m q) (gone ∙ sym (ap (option_map (λ _. k)) gone))
    by false q = refl
numbered n p old new k (Some j) name at some none m =
    let there : indexed old.entries p.0 ≡ Some j = sym (at ∙ ap (indexed old.entries) name) in
    subst (λ l. indexed new.entries m ≡ cond (is_same l m) (option_map (λ _. k) (indexed old.entries p.0)) (indexed old.entries m)) name (indexed-updated n old new (Some k) (some refl) m ∙ ap (λ o. cond (is_same n m) o (indexed old.entries m)) (sym (ap (option_map (λ _. k)) there)))
