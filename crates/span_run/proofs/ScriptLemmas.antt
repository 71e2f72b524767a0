-- The meaning of the parsed arguments.
use Rattle.span_run.proofs.Names.{ap, AsksForNoDemo, codes, IfSome, List, None, OfScript, Option, refl, script_of, Some, subst, sym, ℕ, ◌∙◌, ◌≡◌}
use Rattle.span_words.specs.Words.{AsksFor, AsksForOr, Refused, Words, text_of}

same_demo : (least most : ℕ) (text : Option (List ℕ)) (n k : Option ℕ) → AsksFor least most text n → AsksFor least most text k → n ≡ k
same_demo least most None n k a b = a ∙ sym b
same_demo least most (Some text) None k a b = absurd a
same_demo least most (Some text) (Some n) None a b = absurd b
same_demo least most (Some text) (Some n) (Some k) a b = ap (λ x. Some x) (a.value ∙ sym b.value)

same_or : (least most default : ℕ) (text : Option (List ℕ)) (n k : ℕ) → AsksForOr least most default text n → AsksForOr least most default text k → n ≡ k
same_or least most default None n k a b = a ∙ sym b
same_or least most default (Some text) n k a b = a.value ∙ sym b.value

holds_of_told : (told : Option (List ℕ)) (bytes : List ℕ) (Holds : List ℕ → Type 0) → IfSome told (λ t. bytes ≡ t) → Holds bytes → IfSome told Holds
holds_of_told None bytes Holds is h = tt
holds_of_told (Some t) bytes Holds is h = subst Holds is h

each_demo : (A : Type 0) (demo : Option ℕ) → (demo ≡ None → ⊥) → IfSome demo (λ _. A) → A
each_demo A None never h = absurd (never refl)
each_demo A (Some n) never h = h

-- arguments that set the number of workers, and possibly a demo
module _ (words : List (List ℕ)) (workers states : ℕ) (demo : Option ℕ) (asked : Words words workers states demo) where
  one_demo : (more most : ℕ) (other : Option ℕ) → Words words more most other → demo ≡ other
  one_demo more most other too = same_demo 1 46 (text_of (codes "demo") words) demo other asked.demo_asked too.demo_asked

  pub no_demo : demo ≡ None → AsksForNoDemo words
  no_demo none = (workers, states, subst (λ (d : Option ℕ). Words words workers states d) none asked)

  one_limit : (more most : ℕ) (other : Option ℕ) → Words words more most other → states ≡ most
  one_limit more most other too = same_or 128 1024 128 (text_of (codes "states") words) states most asked.states_asked too.states_asked

  -- what holds of the bytes of the script holds of the selected script
  pub of_script : (left : Option (List ℕ)) (bytes text : List ℕ) (Holds : ℕ → List ℕ → Type 0) → IfSome (script_of demo left) (λ told. bytes ≡ told) → text ≡ bytes → Holds states text → OfScript words left Holds
  of_script left bytes text Holds is same h = λ more most other too.
      subst (λ (n : ℕ). IfSome (script_of other left) (Holds n)) (one_limit more most other too)
      (subst (λ (d : Option ℕ). IfSome (script_of d left) (Holds states)) (one_demo more most other too) (holds_of_told (script_of demo left) bytes (Holds states) is (subst (Holds states) same h)))

  -- what holds for each demo holds if the arguments select one
  pub of_demo : (A : Type 0) → IfSome demo (λ _. A) → (AsksForNoDemo words → ⊥) → A
  of_demo A h some = each_demo A demo (λ none. some (no_demo none)) h

-- arguments that were parsed aren't rejected
pub never_refused : (words : List (List ℕ)) (workers states : ℕ) (demo : Option ℕ) → Words words workers states demo → Refused words → ⊥
never_refused words workers states demo asked refused = refused workers states demo asked
