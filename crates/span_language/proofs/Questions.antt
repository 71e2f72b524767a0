-- A question has exactly one query and one text, or exactly one first rejection.
use Rattle.std.proofs.Common.{◌≡◌, ℕ, List, subst, arith}
use Rattle.span_language.proofs.Names.{IsAsked, IsReplacing, IsUnasked, IsUnreplaced, IsYesOrNo, Query, Refusal, value_of, World}
use Rattle.span_language.proofs.Values.{one_value}

module _ (old : World) (query name : List ℕ) where
  -- two facts about the inputs of a question are about the same query and the same text
  pub both_asked : (q p : Query) (s t : List ℕ) (P R : Query → List ℕ → Type 0) (S : Type 0) → IsAsked old query name q s → IsAsked old query name p t
      → P q s → R p t → (P q s → R q s → S) → S
  both_asked q p s t P R S h k a b both =
      let text = one_value (value_of old.state.documents name) t s k.document h.document in
      let asked = one_value (value_of old.state.queries query) p q k.registered h.registered in
      both a (subst (λ z. R z s) asked (subst (R p) text b))

  pub asked_once : (q : Query) (s : List ℕ) (why : Refusal) → IsAsked old query name q s → IsUnasked old query name why → ⊥
  asked_once q s why h k = grind arith

  pub one_unasked : (why other : Refusal) → IsUnasked old query name why → IsUnasked old query name other → why ≡ other
  one_unasked why other h k = grind arith

pub one_answer : (fact : Type 0) (reply other : List ℕ) → IsYesOrNo fact reply → IsYesOrNo fact other → reply ≡ other
one_answer fact reply other h k = grind arith

module _ (old : World) (query source by : List ℕ) where
  pub one_replacing : (q p : Query) (s t w v : List ℕ) → IsReplacing old query source by q s w → IsReplacing old query source by p t v → (q ≡ p) × (s ≡ t) × (w ≡ v)
  one_replacing q p s t w v h k = (
    one_value (value_of old.state.queries query) q p h.registered k.registered,
    one_value (value_of old.state.documents source) s t h.document k.document,
    one_value (value_of old.state.documents by) w v h.put_there k.put_there,
  )

  pub replacing_once : (q : Query) (s w : List ℕ) (why : Refusal) → IsReplacing old query source by q s w → IsUnreplaced old query source by why → ⊥
  replacing_once q s w why h k = grind arith

  pub one_unreplaced : (why other : Refusal) → IsUnreplaced old query source by why → IsUnreplaced old query source by other → why ≡ other
  one_unreplaced why other h k = grind arith
