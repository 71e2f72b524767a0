-- Where the fields of a form are not there.
use Rattle.std.proofs.Common.{◌≡◌, ◌≢◌, ℕ, Bool, true, false, List, [], ◌∷◌, ◌++◌, refl, sym, ◌∙◌, subst, arith, codes}
use Rattle.std.specs.Prelude.{All, Result, Ok, Err, IfErr, IsErrAnd}
use Rattle.script_syntax.specs.declared.syntax.LineRefusal.{LineRefusal}
use Rattle.script_syntax.specs.declared.syntax.LineRefusal.TheVariants.{Syntax}
use Rattle.script_syntax.specs.Fields.{Field, Named, Filed, Worded, Numbered, Equals, Varied, Quoted, Rest, Paged, Limited, Longest, Fits, Fields}
use Rattle.line_parts.proofs.Cuts.{num_plain, NoByte, from_all, from_test, no_cut, one_cut}
use Rattle.line_parts.proofs.Names.{name_no_space}

abbrev pub is_inner : Field → Bool
is_inner Named = true
is_inner Numbered = true
is_inner Equals = true
is_inner Filed = false
is_inner Worded = false
is_inner Varied = false
is_inner Quoted = false
is_inner Rest = false
is_inner Paged = false
is_inner Limited = false
is_inner Longest = false

no_inner : false ≡ true → ⊥
no_inner e = let bad : ⊥ = cc in bad

pub plain : (f : Field) → is_inner f ≡ true → (w : List ℕ) → Fits f w → NoByte 32 w
plain Named e w h = name_no_space w h
plain Numbered e w (n, h) = num_plain 32 w n (λ digit. omega (arith, digit)) h
plain Equals e w h = subst (NoByte 32) (sym h) (from_test 32 (codes "=") refl)
plain Filed e w h = absurd (no_inner e)
plain Worded e w h = absurd (no_inner e)
plain Varied e w h = absurd (no_inner e)
plain Quoted e w h = absurd (no_inner e)
plain Rest e w h = absurd (no_inner e)
plain Paged e w h = absurd (no_inner e)
plain Limited e w h = absurd (no_inner e)
plain Longest e w h = absurd (no_inner e)

-- a function passes the error of a part on, so it is `Syntax` only if the part's error is
pub passed : {T : Type 0} (result : Result T LineRefusal) (why : LineRefusal) (A : Type 0) → IsErrAnd result (λ e. e ≡ why) → (why ≡ Syntax → A → ⊥) → IfErr result (λ e. e ≡ Syntax → A → ⊥)
passed (Ok x) why A h bad = absurd h
passed (Err e) why A h bad = λ is. bad (sym h ∙ is)

-- a text without a space has not two fields
pub one_field : (text : List ℕ) (f g : Field) (fs : List Field) → All (λ b. b ≢ 32) text → Fields (f ∷ g ∷ fs) text → ⊥
one_field text f g fs all (w, rest, fit, is, more) = no_cut 32 w rest (subst (NoByte 32) is (from_all 32 text all))

-- the word before the first space is not the first field, or what is after it not the others
pub bad_first : (text w rest : List ℕ) (f g : Field) (fs : List Field) → text ≡ w ++ 32 ∷ rest → All (λ b. b ≢ 32) w → is_inner f ≡ true
    → (Fits f w → ⊥) → Fields (f ∷ g ∷ fs) text → ⊥
bad_first text w rest f g fs cut all inner bad (v, more, fit, is, others) =
    let same = one_cut 32 w rest v more (from_all 32 w all) (plain f inner v fit) (sym cut ∙ is) in
    bad (subst (Fits f) (sym same.0) fit)

pub bad_rest : (text w rest : List ℕ) (f g : Field) (fs : List Field) → text ≡ w ++ 32 ∷ rest → All (λ b. b ≢ 32) w → is_inner f ≡ true
    → (Fields (g ∷ fs) rest → ⊥) → Fields (f ∷ g ∷ fs) text → ⊥
bad_rest text w rest f g fs cut all inner bad (v, more, fit, is, others) =
    let same = one_cut 32 w rest v more (from_all 32 w all) (plain f inner v fit) (sym cut ∙ is) in
    bad (subst (Fields (g ∷ fs)) (sym same.1) others)

-- the same for three words
pub bad_second : (text a b c : List ℕ) (f g h : Field) (fs : List Field) → text ≡ a ++ 32 ∷ (b ++ 32 ∷ c) → All (λ b. b ≢ 32) a → All (λ b. b ≢ 32) b
    → is_inner f ≡ true → is_inner g ≡ true → (Fits g b → ⊥) → Fields (f ∷ g ∷ h ∷ fs) text → ⊥
bad_second text a b c f g h fs cut all_a all_b inner_f inner_g bad =
    bad_rest text a (b ++ 32 ∷ c) f g (h ∷ fs) cut all_a inner_f (bad_first (b ++ 32 ∷ c) b c g h fs refl all_b inner_g bad)

pub bad_after : (text a b c : List ℕ) (f g h : Field) (fs : List Field) → text ≡ a ++ 32 ∷ (b ++ 32 ∷ c) → All (λ b. b ≢ 32) a → All (λ b. b ≢ 32) b
    → is_inner f ≡ true → is_inner g ≡ true → (Fields (h ∷ fs) c → ⊥) → Fields (f ∷ g ∷ h ∷ fs) text → ⊥
bad_after text a b c f g h fs cut all_a all_b inner_f inner_g bad =
    bad_rest text a (b ++ 32 ∷ c) f g (h ∷ fs) cut all_a inner_f (bad_rest (b ++ 32 ∷ c) b c g h fs refl all_b inner_g bad)

pub bad_third : (text a b c : List ℕ) (f g h : Field) → text ≡ a ++ 32 ∷ (b ++ 32 ∷ c) → All (λ b. b ≢ 32) a → All (λ b. b ≢ 32) b
    → is_inner f ≡ true → is_inner g ≡ true → (Fits h c → ⊥) → Fields (f ∷ g ∷ h ∷ []) text → ⊥
bad_third text a b c f g h cut all_a all_b inner_f inner_g bad = bad_after text a b c f g h [] cut all_a all_b inner_f inner_g bad

-- the first two words are not both names
pub bad_names : (text a b c : List ℕ) (h : Field) → text ≡ a ++ 32 ∷ (b ++ 32 ∷ c) → All (λ b. b ≢ 32) a → All (λ b. b ≢ 32) b
    → (Fits Named a × Fits Named b → ⊥) → Fields (Named ∷ Named ∷ h ∷ []) text → ⊥
bad_names text a b c h cut all_a all_b bad (v, more, fit, is, others) =
    let same = one_cut 32 a (b ++ 32 ∷ c) v more (from_all 32 a all_a) (plain Named refl v fit) (sym cut ∙ is) in
    bad_first (b ++ 32 ∷ c) b c Named h [] refl all_b refl (λ second. bad (subst (Fits Named) (sym same.0) fit, second)) (subst (Fields (Named ∷ h ∷ [])) (sym same.1) others)
