-- An operation on queries has exactly one result, or exactly one first rejection.
use Rattle.std.proofs.Common.{◌≡◌, ◌⊎◌, ℕ, List, None, sym, ◌∙◌, ap, subst, inl, inr, arith}
use Rattle.span_language.proofs.Names.{CombineRefusal, HasOther, HasPair, HasProjection, IsAbsent, IsAccepted, IsCombineRefusal, IsNamed, IsPairRefused, IsPast}
use Rattle.span_language.proofs.Names.{IsProjectionPast, IsProjectRefused, IsUncombined, IsVarsText, Named, names_of, NoSuchQuery, Project, Query, QueryTooLarge}
use Rattle.span_language.proofs.Names.{Refusal, value_of}
use Rattle.query_book.specs.declared.refusal.CombineRefusal.TheVariants as combine
use Rattle.span_language.proofs.Texts.{one_names}
use Rattle.span_language.proofs.Values.{one_value, no_value}

-- two replies to a rejection are equal
abbrev One : (CombineRefusal → Type 0) → Type 0
One P = (r s : CombineRefusal) (why other : Refusal) → P r → P s → IsCombineRefusal r why → IsCombineRefusal s other → why ≡ other

-- a rejection is no accepted reply
abbrev Never : (CombineRefusal → Type 0) → Type 0
Never P = (r : CombineRefusal) (why : Refusal) → P r → IsCombineRefusal r why → ⊥

one_past : (most : ℕ) (q : Query) → One (IsPast most q)
one_past most q r s why other h k is it = grind arith

accepted_once : (most : ℕ) (q : Query) → IsAccepted most q → Never (IsPast most q)
accepted_once most q a r why h is = grind arith

absent : (queries : Named Query) (name : List ℕ) (r : CombineRefusal) (why : Refusal) → IsAbsent queries name r → IsCombineRefusal r why → (value_of queries name ≡ None) × (why ≡ NoSuchQuery name)
absent queries name (combine.NoSuchQuery wanted) why h is = (h.1, is ∙ ap NoSuchQuery h.0)
absent queries name combine.NoMemory why h is = absurd is
absent queries name _ why h is = absurd h

-- no query has the name, or it has a rejection of its own
module _ (queries : Named Query) (name : List ℕ) where
  abbrev Stage : (Query → CombineRefusal → Type 0) → CombineRefusal → Type 0
  Stage P r = IsAbsent queries name r ⊎ IsNamed queries name (λ q. P q r)

  -- two facts about the query with a name are about the same query
  pub one_named : (P R : Query → Type 0) (S : Type 0) → IsNamed queries name P → IsNamed queries name R → ((q : Query) → P q → R q → S) → S
  one_named P R S h k both = both h.query h.holds (subst R (one_value (value_of queries name) k.query h.query k.there h.there) k.holds)

  one_stage : (P : Query → CombineRefusal → Type 0) → ((q : Query) → One (P q)) → One (Stage P)
  one_stage P one r s why other (inl h) (inl k) is it = (absent queries name r why h is).1 ∙ sym (absent queries name s other k it).1
  one_stage P one r s why other (inl h) (inr k) is it = absurd (no_value (value_of queries name) k.query k.there (absent queries name r why h is).0)
  one_stage P one r s why other (inr h) (inl k) is it = absurd (no_value (value_of queries name) h.query h.there (absent queries name s other k it).0)
  one_stage P one r s why other (inr h) (inr k) is it = one_named (λ q. P q r) (λ q. P q s) (why ≡ other) h k (λ q a b. one q r s why other a b is it)

  stage_once : (A : Query → Type 0) (P : Query → CombineRefusal → Type 0) → ((q : Query) → A q → Never (P q)) → IsNamed queries name A → Never (Stage P)
  stage_once A P never h r why (inl k) is = no_value (value_of queries name) h.query h.there (absent queries name r why k is).0
  stage_once A P never h r why (inr k) is = one_named A (λ q. P q r) ⊥ h k (λ q a b. never q a r why b is)

module _ (Tree : Query → Query → Query) (queries : Named Query) (left right : List ℕ) where
  pub one_pair_refusal : (most : ℕ) (why other : Refusal) → IsUncombined (IsPairRefused most Tree queries left right) why → IsUncombined (IsPairRefused most Tree queries left right) other → why ≡ other
  one_pair_refusal most why other (r, h, is) (s, k, it) =
      one_stage queries left (λ p. Stage queries right (λ q. IsPast most (Tree p q))) (λ p. one_stage queries right (λ q. IsPast most (Tree p q)) (λ q. one_past most (Tree p q))) r s why other h k is it

  pub pair_once : (most : ℕ) (P : Query → Type 0) (why : Refusal) → HasPair Tree queries left right (λ q. IsAccepted most q × P q) → IsUncombined (IsPairRefused most Tree queries left right) why → ⊥
  pair_once most P why h (r, k, is) =
      stage_once queries left (λ p. IsNamed queries right (λ q. IsAccepted most (Tree p q) × P (Tree p q))) (λ p. Stage queries right (λ q. IsPast most (Tree p q)))
      (λ p. stage_once queries right (λ q. IsAccepted most (Tree p q) × P (Tree p q)) (λ q. IsPast most (Tree p q)) (λ q a. accepted_once most (Tree p q) a.0)) h r why k is

  pub one_pair : (P R : Query → Type 0) (S : Type 0) → HasPair Tree queries left right P → HasPair Tree queries left right R → ((q : Query) → P q → R q → S) → S
  one_pair P R S h k both =
      one_named queries left (λ p. IsNamed queries right (λ q. P (Tree p q))) (λ p. IsNamed queries right (λ q. R (Tree p q))) S h k
      (λ p a b. one_named queries right (λ q. P (Tree p q)) (λ q. R (Tree p q)) S a b (λ q. both (Tree p q)))

module _ (q : Query) (keep : List ℕ) where
  pub one_projection : (P R : Query → Type 0) (S : Type 0) → HasProjection q keep P → HasProjection q keep R → ((p : Query) → P p → R p → S) → S
  one_projection P R S (ns, text, kept, h) (ms, text2, kept2, k) both = both (Project q ns) h (subst (λ z. R (Project q z)) (one_names keep ms ns text2 text) k)

  -- the names of a text are all among the variables, or they are not
  one_side : (names more : List (List ℕ)) → IsVarsText keep names → HasOther (names_of q) names → IsVarsText keep more → (HasOther (names_of q) more → ⊥) → ⊥
  one_side names more text other text2 kept = kept (subst (HasOther (names_of q)) (one_names keep names more text text2) other)

  one_refused : (most : ℕ) → One (IsProjectionPast most q keep)
  one_refused most (combine.QueryTooLarge m) (combine.QueryTooLarge n) why other h k is it = is ∙ ap QueryTooLarge (h.0 ∙ sym k.0) ∙ sym it
  one_refused most (combine.QueryTooLarge m) combine.OtherVariables why other h k is it = absurd (omega (arith, h.0, h.1, k.0))
  one_refused most (combine.QueryTooLarge m) combine.TooManyStates why other h (ns, text, kept, k) is it = absurd (omega (arith, h.0, h.1, k.0))
  one_refused most combine.OtherVariables (combine.QueryTooLarge n) why other h k is it = absurd (omega (arith, k.0, k.1, h.0))
  one_refused most combine.OtherVariables combine.OtherVariables why other h k is it = is ∙ sym it
  one_refused most combine.OtherVariables combine.TooManyStates why other (few, (ns, text, others)) (ms, text2, kept, k) is it = absurd (one_side ns ms text others text2 kept)
  one_refused most combine.TooManyStates (combine.QueryTooLarge n) why other (ns, text, kept, h) k is it = absurd (omega (arith, k.0, k.1, h.0))
  one_refused most combine.TooManyStates combine.OtherVariables why other (ms, text2, kept, h) (few, (ns, text, others)) is it = absurd (one_side ns ms text others text2 kept)
  one_refused most combine.TooManyStates combine.TooManyStates why other h k is it = is ∙ sym it
  one_refused most combine.NoMemory _ why other h k is it = absurd is
  one_refused most _ combine.NoMemory why other h k is it = absurd it
  one_refused most (combine.NoSuchQuery name) _ why other h k is it = absurd h
  one_refused most combine.TooManyVariables _ why other h k is it = absurd h
  one_refused most _ _ why other h k is it = absurd k

  projected_once : (most : ℕ) (P : Query → Type 0) → HasProjection q keep (λ p. IsAccepted most p × P p) → Never (IsProjectionPast most q keep)
  projected_once most P (ns, text, kept, h) (combine.QueryTooLarge m) why k is = omega (arith, h.0.few_parts, k.0, k.1)
  projected_once most P (ns, text, kept, h) combine.OtherVariables why (few, (ms, text2, others)) is = one_side ms ns text2 others text kept
  projected_once most P h combine.TooManyStates why k is = one_projection (λ p. IsAccepted most p × P p) (λ p. IsPast most p combine.TooManyStates) ⊥ h k (λ p a b. a.0.few b.2)
  projected_once most P h combine.NoMemory why k is = is
  projected_once most P h _ why k is = k

module _ (queries : Named Query) (source keep : List ℕ) where
  pub one_project_refusal : (most : ℕ) (why other : Refusal) → IsUncombined (IsProjectRefused most queries source keep) why → IsUncombined (IsProjectRefused most queries source keep) other → why ≡ other
  one_project_refusal most why other (r, h, is) (s, k, it) = one_stage queries source (λ q. IsProjectionPast most q keep) (λ q. one_refused q keep most) r s why other h k is it

  pub project_once : (most : ℕ) (P : Query → Type 0) (why : Refusal) → IsNamed queries source (λ q. HasProjection q keep (λ p. IsAccepted most p × P p))
      → IsUncombined (IsProjectRefused most queries source keep) why → ⊥
  project_once most P why h (r, k, is) =
      stage_once queries source (λ q. HasProjection q keep (λ p. IsAccepted most p × P p)) (λ q. IsProjectionPast most q keep) (λ q. projected_once q keep most P) h r why k is
