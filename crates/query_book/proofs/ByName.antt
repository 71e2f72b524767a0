-- Statements about operations by name.
use Rattle.std.proofs.Common.{◌≡◌, inr, ℕ, List, Some, Result, Ok, Err, IfOk, subst}
use Rattle.std.specs.Prelude.{IfErr}
use Rattle.span_types.specs.Query.{Query}
use Rattle.query_book.specs.Named.{Named, value_of}
use Rattle.query_book.specs.Answers.{IsNamed}
use Rattle.query_book.specs.Combining.{HasProjection, IsAccepted, IsPairRefused, IsPast, IsProjectRefused, IsProjectionPast}
use Rattle.query_book.specs.declared.refusal.CombineRefusal.{CombineRefusal}

pub projection-made : (most n : ℕ) (queries : Named Query) (source keep : List ℕ) (p t : Query) → n ≡ most → value_of queries source ≡ Some p → HasProjection p keep (λ x. t ≡ x) → IsAccepted n t → IsNamed queries source (λ q. HasProjection q keep (λ x. IsAccepted most x × (t ≡ x)))
projection-made most n queries source keep p t limit there h accepted = record { query = p; there = there; holds = (h.0, h.1, h.2, (subst (IsAccepted most) h.3 (subst (λ k. IsAccepted k t) limit accepted), h.3)) }

-- the limit is that of the registry
pub pair-refused : {A : Type 0} (r : Result A CombineRefusal) (most n : ℕ) (Tree : Query → Query → Query) (queries : Named Query) (left right : List ℕ) (p q : Query) → n ≡ most → value_of queries left ≡ Some p → value_of queries right ≡ Some q
    → IfErr r (IsPast n (Tree p q)) → IfErr r (IsPairRefused most Tree queries left right)
pair-refused (Ok x) most n Tree queries left right p q limit one other past = tt
pair-refused (Err why) most n Tree queries left right p q limit one other past = inr (record { query = p; there = one; holds = inr (record { query = q; there = other; holds = subst (λ k. IsPast k (Tree p q) why) limit past }) })

pub projection-refused : {A : Type 0} (r : Result A CombineRefusal) (most n : ℕ) (queries : Named Query) (source keep : List ℕ) (q : Query) → n ≡ most → value_of queries source ≡ Some q → IfErr r (IsProjectionPast n q keep) → IfErr r (IsProjectRefused most queries source keep)
projection-refused (Ok x) most n queries source keep q limit there past = tt
projection-refused (Err why) most n queries source keep q limit there past = inr (record { query = q; there = there; holds = subst (λ k. IsProjectionPast k q keep why) limit past })

pub ok-both : {A E : Type 0} (r : Result A E) (P Q R : A → Type 0) → ((x : A) → P x → Q x → R x) → IfOk r P → IfOk r Q → IfOk r R
ok-both (Ok x) P Q R f p q = f x p q
ok-both (Err e) P Q R f p q = tt
