-- The edges and ends of copies.
use Rattle.std.proofs.Common.{◌≡◌, ℕ, ◌+◌, ◌<◌, ◌⊎◌, inl, inr, List, Result, Ok, Err, IfOk, Contains, Some, slice_get, refl, sym, ap, subst, ◌∙◌, arith}
use Rattle.marker_nfa.specs.Parts.{Adds}
use Rattle.marker_nfa.specs.declared.nfa.Edge.{Edge}
use Rattle.marker_nfa.specs.declared.nfa.End.{End}
use Rattle.marker_nfa.proofs.Adding.{adds_more, adds_same}
use Rattle.marker_dfa.specs.Deterministic.{DeterministicAutomaton, IsDeterministic, marks_of, next_of, ends_of, states_of}
use Rattle.span_algebra.specs.declared.classes.Class.{Class}
use Rattle.span_algebra.specs.TreeAutomaton.{IsAt}
use Rattle.span_algebra.specs.declared.pairs.Pair.{Pair}
use Rattle.span_algebra.specs.declared.pairs.PairStep.{PairStep}
use Rattle.span_algebra.specs.Pairs.{AreDistinct, IsNumbered}
use Rattle.span_algebra.specs.Making.{mark_by, IsEdgeBy, IsEdgeOf, IsEdgeAmong, IsEndBy, IsEndOf, IsCopiedEdge, IsCopiedEnd}
use Rattle.span_algebra.proofs.CopyLaws.{step-within, end-within}
use Rattle.std.proofs.Common.{Option}

pub ok-by : {A E : Type 0} (r : Result A E) (P Q : Type 0) → (P → Q) → IfOk r (λ _. P) → IfOk r (λ _. Q)
ok-by (Ok x) P Q f h = f h
ok-by (Err e) P Q f h = tt

pub adds-next : {X : Type 0} (old mid new : List X) (P : ℕ → X → Type 0) (k : ℕ) → Adds old mid (λ e. (q : ℕ) × (q < k) × P q e) → Adds mid new (P k) → Adds old new (λ e. (q : ℕ) × (q < k + 1) × P q e)
adds-next {X} old mid new P k h g = adds_more old mid new (λ e. (q : ℕ) × (q < k) × P q e) (P k) (λ e. (q : ℕ) × (q < k + 1) × P q e) h g up down
  where
    up : (e : X) → ((q : ℕ) × (q < k) × P q e) ⊎ P k e → (q : ℕ) × (q < k + 1) × P q e
    up e (inl x) = (x.0, omega (arith, x.1), x.2)
    up e (inr p) = (k, omega arith, p)

    last : (j : ℕ) → j < k + 1 → (j < k) ⊎ (j ≡ k)
    last j l = grind arith

    split : (e : X) (q : ℕ) → P q e → (q < k) ⊎ (q ≡ k) → ((q : ℕ) × (q < k) × P q e) ⊎ P k e
    split e q p (inl lt) = inl (q, lt, p)
    split e q p (inr s) = inr (subst (λ (x : ℕ). P x e) s p)

    down : (e : X) → (q : ℕ) × (q < k + 1) × P q e → ((q : ℕ) × (q < k) × P q e) ⊎ P k e
    down e x = split e x.0 x.2 (last x.0 x.1)

pub adds-none : {X : Type 0} (old : List X) (P : ℕ → X → Type 0) → Adds old old (λ e. (q : ℕ) × (q < 0) × P q e)
adds-none {X} old P e = ((λ c. inl c), back)
  where
    back : Contains old e ⊎ ((q : ℕ) × (q < 0) × P q e) → Contains old e
    back (inl c) = c
    back (inr x) = absurd (omega (arith, x.1))

pub edge-by : (old new : List Edge) (a : DeterministicAutomaton) (places : List (Option ℕ)) (from base state : ℕ) (c : Class) (own next mark : ℕ) → next_of a state own c.first ≡ Some next → mark ≡ mark_by places own
    → Adds old new (λ e. e ≡ record { from = from; mark = mark; letters = c.letters; to = base + next }) → Adds old new (IsEdgeBy a places from base state c own)
edge-by old new a places from base state c own next mark is mark_is h = adds_same old new (λ e. e ≡ record { from = from; mark = mark; letters = c.letters; to = base + next }) (IsEdgeBy a places from base state c own) to back h
  where
    to : (e : Edge) → e ≡ record { from = from; mark = mark; letters = c.letters; to = base + next } → IsEdgeBy a places from base state c own e
    to e q = (next, is, q ∙ (λ i. record { from = from; mark = mark_is i; letters = c.letters; to = base + next }))

    one : (x y : ℕ) → Some x ≡ Some y → x ≡ y
    one x y e = cc

    back : (e : Edge) → IsEdgeBy a places from base state c own e → e ≡ record { from = from; mark = mark; letters = c.letters; to = base + next }
    back e k =
        let same : k.0 ≡ next = one k.0 next (sym k.1 ∙ is) in
        let mark_back = sym mark_is in
        k.2 ∙ (λ i. record { from = from; mark = mark_back i; letters = c.letters; to = base + same i })

pub numbered-by : (pairs : List Pair) (s : PairStep) (old new : List Edge) (i j : ℕ) → AreDistinct pairs → slice_get pairs i ≡ Some s.from → slice_get pairs j ≡ Some s.to
    → Adds old new (λ e. e ≡ record { from = i; mark = s.mark; letters = s.letters; to = j }) → Adds old new (IsNumbered pairs s)
numbered-by pairs s old new i j apart from_at to_at h = adds_same old new (λ e. e ≡ record { from = i; mark = s.mark; letters = s.letters; to = j }) (IsNumbered pairs s) to back h
  where
    to : (e : Edge) → e ≡ record { from = i; mark = s.mark; letters = s.letters; to = j } → IsNumbered pairs s e
    to e q = record { from = ap (λ (x : Edge). slice_get pairs x.from) q ∙ from_at; to = ap (λ (x : Edge). slice_get pairs x.to) q ∙ to_at; mark = ap (λ (x : Edge). x.mark) q; letters = ap (λ (x : Edge). x.letters) q }

    back : (e : Edge) → IsNumbered pairs s e → e ≡ record { from = i; mark = s.mark; letters = s.letters; to = j }
    back e k =
        let first : e.from ≡ i = apart e.from i s.from k.from from_at in
        let last : e.to ≡ j = apart e.to j s.to k.to to_at in
        λ t. record { from = first t; mark = k.mark t; letters = k.letters t; to = last t }

pub class-edges : (old new : List Edge) (a : DeterministicAutomaton) (places : List (Option ℕ)) (from base state : ℕ) (c : Class) (marks : List ℕ) → IsDeterministic a → marks ≡ marks_of a state c.first
    → Adds old new (λ x. (y : ℕ) × Contains marks y × IsEdgeBy a places from base state c y x) → Adds old new (IsEdgeOf a places from base state c)
class-edges old new a places from base state c marks det e h =
    adds_same old new (λ x. (y : ℕ) × Contains marks y × IsEdgeBy a places from base state c y x) (IsEdgeOf a places from base state c)
    (λ x k. (k.0, k.2))
    (λ x k. (k.0, subst (λ (l : List ℕ). Contains l k.0) (sym e) ((det.marks state c.first k.0).1 (k.1.0, k.1.1)), k.1))
    h

pub copied-edges : (old mid new : List Edge) (a : DeterministicAutomaton) (places : List (Option ℕ)) (base n : ℕ) (classes : List Class) → n ≡ states_of a
    → Adds old mid (λ e. (q : ℕ) × (q < n) × IsEdgeAmong a places (base + q) base q classes e) → Adds mid new (IsEdgeAmong a places 0 base 0 classes) → Adds old new (IsCopiedEdge a places base classes)
copied-edges old mid new a places base n classes count h g = adds_more old mid new (λ e. (q : ℕ) × (q < n) × IsEdgeAmong a places (base + q) base q classes e) (IsEdgeAmong a places 0 base 0 classes) (IsCopiedEdge a places base classes) h g up down
  where
    up : (e : Edge) → ((q : ℕ) × (q < n) × IsEdgeAmong a places (base + q) base q classes e) ⊎ IsEdgeAmong a places 0 base 0 classes e → IsCopiedEdge a places base classes e
    up e (inl x) = record { from = base + x.0; state = x.0; at = inl refl; edge = x.2 }
    up e (inr x) = record { from = 0; state = 0; at = inr (refl, refl); edge = x }

    by : (e : Edge) (o q : ℕ) → q < states_of a → IsEdgeAmong a places o base q classes e → IsAt base o q → ((q : ℕ) × (q < n) × IsEdgeAmong a places (base + q) base q classes e) ⊎ IsEdgeAmong a places 0 base 0 classes e
    by e o q lt x (inl s) = inl (q, omega (arith, lt, count), subst (λ (k : ℕ). IsEdgeAmong a places k base q classes e) s x)
    by e o q lt x (inr s) = inr (subst (λ (k : ℕ). IsEdgeAmong a places 0 base k classes e) s.1 (subst (λ (k : ℕ). IsEdgeAmong a places k base q classes e) s.0 x))

    down : (e : Edge) → IsCopiedEdge a places base classes e → ((q : ℕ) × (q < n) × IsEdgeAmong a places (base + q) base q classes e) ⊎ IsEdgeAmong a places 0 base 0 classes e
    down e x = let w = x.edge in by e x.from x.state (step-within a x.state w.2.0 w.0.first w.2.1.0 w.2.1.1) w x.at

pub state-ends : (old new : List End) (a : DeterministicAutomaton) (places : List (Option ℕ)) (from state : ℕ) (marks : List ℕ) → marks ≡ ends_of a state
    → Adds old new (λ x. (y : ℕ) × Contains marks y × IsEndBy places from y x) → Adds old new (IsEndOf a places from state)
state-ends old new a places from state marks e h = subst (λ (l : List ℕ). Adds old new (λ x. (y : ℕ) × Contains l y × IsEndBy places from y x)) e h

pub copied-ends : (old mid new : List End) (a : DeterministicAutomaton) (places : List (Option ℕ)) (base n : ℕ) → n ≡ states_of a
    → Adds old mid (λ e. (q : ℕ) × (q < n) × IsEndOf a places (base + q) q e) → Adds mid new (IsEndOf a places 0 0) → Adds old new (IsCopiedEnd a places base)
copied-ends old mid new a places base n count h g = adds_more old mid new (λ e. (q : ℕ) × (q < n) × IsEndOf a places (base + q) q e) (IsEndOf a places 0 0) (IsCopiedEnd a places base) h g up down
  where
    up : (e : End) → ((q : ℕ) × (q < n) × IsEndOf a places (base + q) q e) ⊎ IsEndOf a places 0 0 e → IsCopiedEnd a places base e
    up e (inl x) = record { from = base + x.0; state = x.0; at = inl refl; end = x.2 }
    up e (inr x) = record { from = 0; state = 0; at = inr (refl, refl); end = x }

    by : (e : End) (o q : ℕ) → q < states_of a → IsEndOf a places o q e → IsAt base o q → ((q : ℕ) × (q < n) × IsEndOf a places (base + q) q e) ⊎ IsEndOf a places 0 0 e
    by e o q lt x (inl s) = inl (q, omega (arith, lt, count), subst (λ (k : ℕ). IsEndOf a places k q e) s x)
    by e o q lt x (inr s) = inr (subst (λ (k : ℕ). IsEndOf a places 0 k e) s.1 (subst (λ (k : ℕ). IsEndOf a places k q e) s.0 x))

    down : (e : End) → IsCopiedEnd a places base e → ((q : ℕ) × (q < n) × IsEndOf a places (base + q) q e) ⊎ IsEndOf a places 0 0 e
    down e x = let w = x.end in by e x.from x.state (end-within a x.state w.0 w.1) w x.at

pub ok-map : {A E : Type 0} (r : Result A E) (P Q : A → Type 0) → ((x : A) → P x → Q x) → IfOk r P → IfOk r Q
ok-map (Ok x) P Q f h = f x h
ok-map (Err e) P Q f h = tt
