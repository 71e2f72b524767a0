-- Under the stricter rule both readings of a formula are the same.
use Rattle.std.proofs.Common.{◌≡◌, ℕ, ◌+◌, ◌==◌, ◌||◌, ◌⊎◌, inl, inr, Bool, true, false, List, length, Option, Some, None, if◌then◌else◌, refl, sym, ap, subst, ◌∙◌}
use Rattle.std.specs.Prelude.{◌↔◌, IsSome}
use Rattle.span_types.specs.declared.tuple.Span.{Span}
use Rattle.span_types.specs.FormulaTree.{FormulaTree, Set, Empty, Cat, Alt, Star, Plus, Opt, Capture, has_var}
use Rattle.span_types.specs.Marks.{Spans, spans_of}
use Rattle.span_types.specs.Fits.{Turns, done, more, IsWithin, on_vars, without, FitsIn, Fits}
use Rattle.span_types.specs.Answers.{IsAnswers}
use Rattle.span_types.specs.Strict.{NoVars, StrictFun, IsExactly, StrictIn, StrictFits, AreStrictAnswers}
use Rattle.std.proofs.lemmas.Bool.{eqb-true}

turns-map : (P Q : ℕ → ℕ → Type 0) → ((i j : ℕ) → P i j → Q i j) → (i j : ℕ) → Turns P i j → Turns Q i j
turns-map P Q f i j (done i' j' e) = done i j e
turns-map P Q f i j (more i' m j' lt le p rest) = more i m j lt le (f i m p) (turns-map P Q f m j rest)

-- a test and its outcome
clash : (b : Bool) → b ≡ true → b ≡ false → ⊥
clash b e f = cc

or-left : (x y : Bool) → x ≡ true → (x || y) ≡ true
or-left x y e = ap (λ b. b || y) e

or-right : (x y : Bool) → y ≡ true → (x || y) ≡ true
or-right true y e = refl
or-right false y e = e

or-none : (x y : Bool) → (x || y) ≡ false → (x ≡ false) × (y ≡ false)
or-none true y e = absurd (clash true refl e)
or-none false y e = (refl, e)

or-both : (x y : Bool) → x ≡ false → y ≡ false → (x || y) ≡ false
or-both x y e f = ap (λ b. b || y) e ∙ f

or-some : (x y : Bool) → (x || y) ≡ true → (x ≡ true) ⊎ (y ≡ true)
or-some true y e = inl refl
or-some false y e = inr e

on-within : (a : FormulaTree) (t : Spans) → IsWithin a (on_vars a t)
on-within a t v e = ap (λ b. if b then t v else None) e

on-given : (a : FormulaTree) (t : Spans) (v : ℕ) → has_var a v ≡ true → on_vars a t v ≡ t v
on-given a t v e = ap (λ b. if b then t v else None) e

exactly-on : (a : FormulaTree) (t : Spans) → ((v : ℕ) → has_var a v ≡ true → IsSome (t v)) → IsExactly a (on_vars a t)
exactly-on a t h = record { given = λ v e. subst IsSome (sym (on-given a t v e)) (h v e); no_other = on-within a t }

exactly-none : (a : FormulaTree) (t : Spans) → NoVars a → ((v : ℕ) → t v ≡ None) → IsExactly a t
exactly-none a t n h = record { given = λ v e. absurd (clash (has_var a v) e (n v)); no_other = λ v e. h v }

without-within : (x : ℕ) (a : FormulaTree) (t : Spans) → IsWithin (Capture x a) t → IsWithin a (without x t)
without-within x a t h v e = by (x == v) refl
  where
    by : (b : Bool) → x == v ≡ b → (if b then None else t v) ≡ None
    by true f = refl
    by false f = h v (or-both (x == v) (has_var a v) f e)

without-other : (x v : ℕ) (t : Spans) → x == v ≡ false → without x t v ≡ t v
without-other x v t f = ap (λ b. if b then None else t v) f

without-same : (x v : ℕ) (t : Spans) → x == v ≡ true → without x t v ≡ None
without-same x v t f = ap (λ b. if b then None else t v) f

not-none : (o : Option Span) → o ≡ None → IsSome o → ⊥
not-none None e h = cc
not-none (Some q) e h = cc

named-exactly : (x : ℕ) (a : FormulaTree) (t : Spans) → IsWithin (Capture x a) t → IsSome (t x) → IsExactly a (without x t) → IsExactly (Capture x a) t
named-exactly x a t w h e = record { given = λ v f. given v (or-some (x == v) (has_var a v) f); no_other = w }
  where
    other : (v : ℕ) (b : Bool) → x == v ≡ b → IsSome (without x t v) → IsSome (t v)
    other v true f s = absurd (not-none (without x t v) (without-same x v t f) s)
    other v false f s = subst IsSome (without-other x v t f) s

    given : (v : ℕ) → (x == v ≡ true) ⊎ (has_var a v ≡ true) → IsSome (t v)
    given v (inl f) = subst (λ n. IsSome (t n)) (eqb-true x v f) h
    given v (inr f) = other v (x == v) refl (e.given v f)

exactly-without : (x : ℕ) (a : FormulaTree) (t : Spans) → has_var a x ≡ false → IsExactly (Capture x a) t → IsExactly a (without x t)
exactly-without x a t n e = record { given = λ v f. given v f (x == v) refl; no_other = without-within x a t e.no_other }
  where
    given : (v : ℕ) → has_var a v ≡ true → (b : Bool) → x == v ≡ b → IsSome (without x t v)
    given v f true g = absurd (clash (has_var a x) (subst (λ n. has_var a n ≡ true) (sym (eqb-true x v g)) f) n)
    given v f false g = subst IsSome (sym (without-other x v t g)) (e.given v (or-right (x == v) (has_var a v) f))

some-is : (o : Option Span) (q : Span) → o ≡ Some q → IsSome o
some-is o q e = subst IsSome (sym e) refl

to-strict : (f : FormulaTree) (s : List ℕ) (i j : ℕ) (t : Spans) → StrictFun f → IsWithin f t → FitsIn f s i j t → IsExactly f t × StrictIn f s i j t
to-strict (Set b) s i j t k w h = (record { given = λ v e. absurd (clash false e refl); no_other = w }, h)
to-strict Empty s i j t k w h = (record { given = λ v e. absurd (clash false e refl); no_other = w }, h)
to-strict (Cat a b) s i j t k w (m, le, ge, p, q) =
    let x = to-strict a s i m (on_vars a t) k.0 (on-within a t) p in
    let y = to-strict b s m j (on_vars b t) k.1 (on-within b t) q in
    (record { given = λ v e. both x.0 y.0 v (or-some (has_var a v) (has_var b v) e); no_other = w }, (m, le, ge, x.1, y.1))
  where
    both : IsExactly a (on_vars a t) → IsExactly b (on_vars b t) → (v : ℕ) → (has_var a v ≡ true) ⊎ (has_var b v ≡ true) → IsSome (t v)
    both x y v (inl e) = subst IsSome (on-given a t v e) (x.given v e)
    both x y v (inr e) = subst IsSome (on-given b t v e) (y.given v e)
to-strict (Alt a b) s i j t k w (inl (wa, p)) =
    let x = to-strict a s i j t k.0 wa p in
    (record { given = λ v e. first x.0 v (or-some (has_var a v) (has_var b v) e); no_other = w }, inl x.1)
  where
    first : IsExactly a t → (v : ℕ) → (has_var a v ≡ true) ⊎ (has_var b v ≡ true) → IsSome (t v)
    first x v (inl e) = x.given v e
    first x v (inr e) = x.given v (k.2 v ∙ e)
to-strict (Alt a b) s i j t k w (inr (wb, p)) =
    let x = to-strict b s i j t k.1 wb p in
    (record { given = λ v e. second x.0 v (or-some (has_var a v) (has_var b v) e); no_other = w }, inr x.1)
  where
    second : IsExactly b t → (v : ℕ) → (has_var a v ≡ true) ⊎ (has_var b v ≡ true) → IsSome (t v)
    second x v (inl e) = x.given v (sym (k.2 v) ∙ e)
    second x v (inr e) = x.given v e
to-strict (Star a) s i j t k w h =
    (exactly-none (Star a) t k.1 (λ v. w v (k.1 v)), turns-map (λ g h. FitsIn a s g h t) (λ g h. StrictIn a s g h t) (λ g h p. (to-strict a s g h t k.0 w p).1) i j h)
to-strict (Plus a) s i j t k w (m, le, ge, p, h) =
    (exactly-none (Plus a) t k.1 (λ v. w v (k.1 v)), (m, le, ge, (to-strict a s i m t k.0 w p).1, turns-map (λ g h. FitsIn a s g h t) (λ g h. StrictIn a s g h t) (λ g h p. (to-strict a s g h t k.0 w p).1) m j h))
to-strict (Opt a) s i j t k w (inl h) = (exactly-none (Opt a) t k.1 h.1, inl h.0)
to-strict (Opt a) s i j t k w (inr h) = let x = to-strict a s i j t k.0 w h in (exactly-none (Opt a) t k.1 (λ v. w v (k.1 v)), inr x.1)
to-strict (Capture x a) s i j t k w (e, p) =
    let y = to-strict a s i j (without x t) k.0 (without-within x a t w) p in
    (named-exactly x a t w (some-is (t x) (record { start = i; end = j }) e) y.0, (e, y.1))

from-strict : (f : FormulaTree) (s : List ℕ) (i j : ℕ) (t : Spans) → StrictFun f → IsExactly f t → StrictIn f s i j t → FitsIn f s i j t
from-strict (Set b) s i j t k x h = h
from-strict Empty s i j t k x h = h
from-strict (Cat a b) s i j t k x (m, le, ge, p, q) = (
  m,
  le,
  ge,
  from-strict a s i m (on_vars a t) k.0 (exactly-on a t (λ v e. x.given v (or-left (has_var a v) (has_var b v) e))) p,
  from-strict b s m j (on_vars b t) k.1 (exactly-on b t (λ v e. x.given v (or-right (has_var a v) (has_var b v) e))) q,
)
from-strict (Alt a b) s i j t k x (inl p) =
    let y : IsExactly a t = record { given = λ v e. x.given v (or-left (has_var a v) (has_var b v) e); no_other = λ v e. x.no_other v (or-both (has_var a v) (has_var b v) e (sym (k.2 v) ∙ e)) } in
    inl (y.no_other, from-strict a s i j t k.0 y p)
from-strict (Alt a b) s i j t k x (inr p) =
    let y : IsExactly b t = record { given = λ v e. x.given v (or-right (has_var a v) (has_var b v) e); no_other = λ v e. x.no_other v (or-both (has_var a v) (has_var b v) (k.2 v ∙ e) e) } in
    inr (y.no_other, from-strict b s i j t k.1 y p)
from-strict (Star a) s i j t k x h =
    turns-map (λ g h. StrictIn a s g h t) (λ g h. FitsIn a s g h t) (λ g h p. from-strict a s g h t k.0 (exactly-none a t k.1 (λ v. x.no_other v (k.1 v))) p) i j h
from-strict (Plus a) s i j t k x (m, le, ge, p, h) =
    let y = exactly-none a t k.1 (λ v. x.no_other v (k.1 v)) in
    (m, le, ge, from-strict a s i m t k.0 y p, turns-map (λ g h. StrictIn a s g h t) (λ g h. FitsIn a s g h t) (λ g h p. from-strict a s g h t k.0 y p) m j h)
from-strict (Opt a) s i j t k x (inl e) = inl (e, λ v. x.no_other v (k.1 v))
from-strict (Opt a) s i j t k x (inr p) = inr (from-strict a s i j t k.0 (exactly-none a t k.1 (λ v. x.no_other v (k.1 v))) p)
from-strict (Capture y a) s i j t k x (e, p) = (e, from-strict a s i j (without y t) k.0 (exactly-without y a t k.1 x) p)

pub strict-same : (f : FormulaTree) (k : ℕ) (s : List ℕ) (ts : List (List (Option Span))) → StrictFun f → IsAnswers f k s ts ↔ AreStrictAnswers f k s ts
strict-same f k s ts strict = (
  (λ a. record { rising = a.rising; members = λ t. ((λ h. to t ((a.members t).0 h)), (λ h. (a.members t).1 (from t h))) }),
  (λ a. record { rising = a.rising; members = λ t. ((λ h. from t ((a.members t).0 h)), (λ h. (a.members t).1 (to t h))) }),
)
  where
    to : (t : List (Option Span)) → (length t ≡ k) × Fits f s 1 (length s + 1) (spans_of t) → (length t ≡ k) × StrictFits f s 1 (length s + 1) (spans_of t)
    to t h = (h.0, to-strict f s 1 (length s + 1) (spans_of t) strict h.1.0 h.1.1)

    from : (t : List (Option Span)) → (length t ≡ k) × StrictFits f s 1 (length s + 1) (spans_of t) → (length t ≡ k) × Fits f s 1 (length s + 1) (spans_of t)
    from t h = (h.0, (h.1.0.no_other, from-strict f s 1 (length s + 1) (spans_of t) strict h.1.0 h.1.1))
