-- Spans that fit have marks that are words of the formula, and the other way round.
use Rattle.std.proofs.Common.{◌≡◌, ℕ, zero, suc, ◌+◌, ◌<◌, ◌≤◌, Bool, true, false, ◌||◌, ◌==◌, ◌⊎◌, inl, inr, refl, sym, ap, subst, ◌∙◌, arith, List, Option, Some, None, if◌then◌else◌, eq-eqb, ne_eqb}
use Rattle.std.proofs.lemmas.Bool.Decides.{eqb_tells}
use Rattle.span_types.specs.declared.tuple.Span.{Span}
use Rattle.span_types.specs.FormulaTree.{FormulaTree, Set, Empty, Cat, Alt, Star, Plus, Opt, Capture, has_var}
use Rattle.span_types.specs.Marks.{Spans, at_position, opening, closing, part_of, mark, LiesIn}
use Rattle.span_types.specs.Fits.{ByteIn, Turns, done, more, NoSpans, IsWithin, on_vars, without, FitsIn}
use Rattle.formula_law.specs.Law.{VarsBelow}
use Rattle.formula_law.proofs.Ranges.{NoVars, or_left, or_right}
use Rattle.span_types.proofs.Sums.{IsZero, IsSum, zeros, zeros_path}
use Rattle.formula_law.proofs.Words.{Words}
use Rattle.formula_law.proofs.Compose.{words_le}
use Rattle.formula_law.proofs.Fault.{Apart, Plain}

mark_none : (k : ℕ) (t : Spans) (p : ℕ) → NoSpans t → mark k t p ≡ 0
mark_none zero t p h = refl
mark_none (suc k) t p h =
    let e = mark_none k t p h in
    let g : part_of k (t k) p ≡ 0 = ap (λ o. part_of k o p) (h k) in
    omega (arith, e, g)

-- the span of a variable goes to the part that has it
part_split : (a b : Bool) (o : Option Span) (v p : ℕ) → (a ≡ true → b ≡ true → ⊥) → (a || b ≡ false → o ≡ None) → part_of v o p ≡ part_of v (if a then o else None) p + part_of v (if b then o else None) p
part_split true true o v p n m = absurd (n refl refl)
part_split true false o v p n m = omega arith
part_split false true o v p n m = omega arith
part_split false false o v p n m = let e : part_of v o p ≡ 0 = ap (λ x. part_of v x p) (m refl) in omega (arith, e)

mark_split : (a b : FormulaTree) (k : ℕ) (t : Spans) (p : ℕ) → Apart a b → IsWithin (Cat a b) t → mark k t p ≡ mark k (on_vars a t) p + mark k (on_vars b t) p
mark_split a b zero t p n m = refl
mark_split a b (suc k) t p n m =
    let e = mark_split a b k t p n m in
    let g = part_split (has_var a k) (has_var b k) (t k) k p (n k) (m k) in
    omega (arith, e, g)

mark_keep : (x : ℕ) (t : Spans) (k p : ℕ) → k ≤ x → mark k t p ≡ mark k (without x t) p
mark_keep x t zero p le = refl
mark_keep x t (suc k) p le =
    let e = mark_keep x t k p (omega arith) in
    let d : x == k ≡ false = ne_eqb x k (λ h. absurd (omega arith)) in
    let g : part_of k (without x t k) p ≡ part_of k (t k) p = ap (λ b. part_of k (if b then None else t k) p) d in
    omega (arith, e, g)

mark_without_step : (x i j : ℕ) (t : Spans) → t x ≡ Some (record { start = i; end = j }) → (k p : ℕ) → x < suc k → (x < k → mark k t p ≡ at_position i (opening x) p + at_position j (closing x) p + mark k (without x t) p) → ((x == k ≡ true) × (x ≡ k)) ⊎ ((x == k ≡ false) × (x ≡ k → ⊥)) → mark (suc k) t p ≡ at_position i (opening x) p + at_position j (closing x) p + mark (suc k) (without x t) p
mark_without_step x i j t h k p lt rec (inl e) =
    let kept = mark_keep x t k p (omega (arith, e.1)) in
    let here : part_of k (t k) p ≡ at_position i (opening x) p + at_position j (closing x) p = ap (λ n. part_of n (t n) p) (sym e.1) ∙ ap (λ o. part_of x o p) h in
    let gone : part_of k (without x t k) p ≡ 0 = ap (λ b. part_of k (if b then None else t k) p) e.0 in
    omega (arith, kept, here, gone)
mark_without_step x i j t h k p lt rec (inr e) =
    let g : part_of k (without x t k) p ≡ part_of k (t k) p = ap (λ b. part_of k (if b then None else t k) p) e.0 in
    let ne = e.1 in
    let l : x < k = lower ne in
    omega (arith, rec l, g)
  where
    lower : (x ≡ k → ⊥) → x < k
    lower ne = grind arith

mark_without : (x i j : ℕ) (t : Spans) → t x ≡ Some (record { start = i; end = j }) → (k p : ℕ) → x < k → mark k t p ≡ at_position i (opening x) p + at_position j (closing x) p + mark k (without x t) p
mark_without x i j t h zero p lt = absurd (omega arith)
mark_without x i j t h (suc k) p lt = mark_without_step x i j t h k p lt (λ l. mark_without x i j t h k p l) (eqb_tells x k)

turns_map : {P Q : ℕ → ℕ → Type 0} (i j : ℕ) → ((g h : ℕ) → P g h → Q g h) → Turns P i j → Turns Q i j
turns_map i j f (done _ _ e) = done i j e
turns_map i j f (more _ m _ lt le h t) = more i m j lt le (f i m h) (turns_map m j f t)

pick_none : (b : Bool) (o : Option Span) → b ≡ false → (if b then o else None) ≡ None
pick_none true o h = absurd (cc)
pick_none false o h = refl

within_on : (a : FormulaTree) (t : Spans) → IsWithin a (on_vars a t)
within_on a t v h = pick_none (has_var a v) (t v) h

eq_true : (x v : ℕ) → x ≡ v → x == v ≡ true
eq_true x v e = eq-eqb x v e

pub named_below : (x : ℕ) (a : FormulaTree) (k : ℕ) → VarsBelow k (Capture x a) → x < k
named_below x a k h = grind_free (lt_or x k)
  where
    lt_or : (x k : ℕ) → (x < k) ⊎ (k ≤ x)
    lt_or x k = grind arith

    grind_free : (x < k) ⊎ (k ≤ x) → x < k
    grind_free (inl l) = l
    grind_free (inr l) =
        let e : x == x ≡ true = eq-eqb x x refl in
        let g : x == x ≡ false = or_left (x == x) (has_var a x) (h x l) in
        let bad : true ≡ false = sym e ∙ g in
        absurd (cc)

pub below_left : (k : ℕ) (a b : FormulaTree) → VarsBelow k (Cat a b) → VarsBelow k a
below_left k a b h v l = or_left (has_var a v) (has_var b v) (h v l)

pub below_right : (k : ℕ) (a b : FormulaTree) → VarsBelow k (Cat a b) → VarsBelow k b
below_right k a b h v l = or_right (has_var a v) (has_var b v) (h v l)

pub below_named : (k x : ℕ) (a : FormulaTree) → VarsBelow k (Capture x a) → VarsBelow k a
below_named k x a h v l = or_right (x == v) (has_var a v) (h v l)

module _ (s : List ℕ) (k : ℕ) where
  none_zero : (a : FormulaTree) (t : Spans) → NoVars a → IsWithin a t → IsZero (mark k t)
  none_zero a t z w = record { at = λ p. mark_none k t p (λ v. w v (z.none v)) }

  without_within : (x : ℕ) (a : FormulaTree) (t : Spans) → IsWithin (Capture x a) t → IsWithin a (without x t)
  without_within x a t w v h = go (x == v) refl
    where
      go : (b : Bool) → x == v ≡ b → (if b then None else t v) ≡ None
      go true e = refl
      go false e = w v (ap (λ b. b || has_var a v) e ∙ h)

  pub fits_words : (f : FormulaTree) (i j : ℕ) (t : Spans) → Plain f → VarsBelow k f → IsWithin f t → FitsIn f s i j t → Words (ByteIn s) f i j (mark k t)
  fits_words (Set b) i j t pl below w h =
      (omega (arith, h.0), h.1, record { at = λ p. mark_none k t p (λ v. w v refl) })
  fits_words Empty i j t pl below w h = (h, record { at = λ p. mark_none k t p (λ v. w v refl) })
  fits_words (Cat a b) i j t pl below w h = record {
    index = h.0;
    low = h.1;
    high = h.2;
    left = mark k (on_vars a t);
    right = mark k (on_vars b t);
    in_left = fits_words a i h.0 (on_vars a t) pl.0 (below_left k a b below) (within_on a t) h.3;
    in_right = fits_words b h.0 j (on_vars b t) pl.1 (below_right k a b below) (within_on b t) h.4;
    sum = record { at = λ p. mark_split a b k t p pl.2 w };
  }
  fits_words (Alt a b) i j t pl below w (inl h) = inl (fits_words a i j t pl.0 (below_left k a b below) h.0 h.1)
  fits_words (Alt a b) i j t pl below w (inr h) = inr (fits_words b i j t pl.1 (below_right k a b below) h.0 h.1)
  fits_words (Star a) i j t pl below w h =
      let z = none_zero a t pl.1 w in
      let each : (g h : ℕ) → FitsIn a s g h t → Words (ByteIn s) a g h zeros = λ g k y. (let W : (ℕ → ℕ) → Type 0 = λ u. Words (ByteIn s) a g k u in subst W (zeros_path _ z) (fits_words a g k t pl.0 below w y)) in
      (z, turns_map i j each h)
  fits_words (Plus a) i j t pl below w h =
      let z = none_zero a t pl.1 w in
      let each : (g h : ℕ) → FitsIn a s g h t → Words (ByteIn s) a g h zeros = λ g k y. (let W : (ℕ → ℕ) → Type 0 = λ u. Words (ByteIn s) a g k u in subst W (zeros_path _ z) (fits_words a g k t pl.0 below w y)) in
      (z, h.0, h.1, h.2, each i h.0 h.3, turns_map h.0 j each h.4)
  fits_words (Opt a) i j t pl below w (inl h) = inl (h.0, record { at = λ p. mark_none k t p h.1 })
  fits_words (Opt a) i j t pl below w (inr h) = inr (fits_words a i j t pl below w h)
  fits_words (Capture x a) i j t pl below w h = record {
    inner = mark k (without x t);
    within = fits_words a i j (without x t) pl.0 (below_named k x a below) (without_within x a t w) h.1;
    sum = λ p. mark_without x i j t h.0 k p (named_below x a k below);
  }

  -- spans that fit, with these marks
  pub record Found (f : FormulaTree) (i j : ℕ) (u : ℕ → ℕ) : Type 0 where
    pub spans : Spans
    pub within : IsWithin f spans
    pub fits : FitsIn f s i j spans
    pub marks : (p : ℕ) → u p ≡ mark k spans p
    pub lies : LiesIn i j spans

  abbrev nothing : Spans
  nothing v = None

  nothing_lies : (i j : ℕ) → LiesIn i j nothing
  nothing_lies i j v q h = absurd (cc)

  nothing_marks : (u : ℕ → ℕ) → IsZero u → (p : ℕ) → u p ≡ mark k nothing p
  nothing_marks u z p = z.at p ∙ sym (mark_none k nothing p (λ v. refl))

  -- the spans of both parts
  abbrev both : FormulaTree → Spans → Spans → Spans
  both a t u v = if has_var a v then t v else u v

  both_prefix : (a : FormulaTree) (t u : Spans) → IsWithin a t → on_vars a (both a t u) ≡ t
  both_prefix a t u w = λ i v. go v (has_var a v) refl i
    where
      go : (v : ℕ) (b : Bool) → has_var a v ≡ b → (if b then (if b then t v else u v) else None) ≡ t v
      go v true e = refl
      go v false e = sym (w v e)

  both_back : (a b : FormulaTree) (t u : Spans) → Apart a b → IsWithin b u → on_vars b (both a t u) ≡ u
  both_back a b t u n w = λ i v. go v (has_var b v) (has_var a v) refl refl i
    where
      go : (v : ℕ) (y x : Bool) → has_var b v ≡ y → has_var a v ≡ x → (if y then (if x then t v else u v) else None) ≡ u v
      go v true true e g = absurd (n v g e)
      go v true false e g = refl
      go v false x e g = sym (w v e)

  both_within : (a b : FormulaTree) (t u : Spans) → IsWithin b u → IsWithin (Cat a b) (both a t u)
  both_within a b t u w v h = go (has_var a v) refl
    where
      go : (x : Bool) → has_var a v ≡ x → (if x then t v else u v) ≡ None
      go true e = let bad : true ≡ false = sym e ∙ or_left (has_var a v) (has_var b v) h in absurd (cc)
      go false e = w v (or_right (has_var a v) (has_var b v) h)

  both_lies : (a : FormulaTree) (t u : Spans) (i m j : ℕ) → i ≤ m → m ≤ j → LiesIn i m t → LiesIn m j u → LiesIn i j (both a t u)
  both_lies a t u i m j le le' l r v q = go (has_var a v)
    where
      go : (x : Bool) → (if x then t v else u v) ≡ Some q → (i ≤ q.start) × (q.start ≤ q.end) × (q.end ≤ j)
      go true e = let y = l v q e in (y.0, y.1, omega (arith, y.2))
      go false e = let y = r v q e in (omega (arith, y.0), y.1, y.2)

  then_found : (a b : FormulaTree) (i m j : ℕ) (u v w : ℕ → ℕ) → Apart a b → i ≤ m → m ≤ j → IsSum u v w → Found a i m v → Found b m j w → Found (Cat a b) i j u
  then_found a b i m j u v w n le le' sum l r =
      let t = both a l.spans r.spans in
      let fr = both_prefix a l.spans r.spans l.within in
      let ba = both_back a b l.spans r.spans n r.within in
      let wi = both_within a b l.spans r.spans r.within in
      let F : Spans → Type 0 = λ x. FitsIn a s i m x in
      let G : Spans → Type 0 = λ x. FitsIn b s m j x in
      record {
        spans = t;
        within = wi;
        fits = (m, le, le', subst F (sym fr) l.fits, subst G (sym ba) r.fits);
        marks = λ p. (let e : mark k (on_vars a t) p ≡ mark k l.spans p = ap (λ x. mark k x p) fr in let g : mark k (on_vars b t) p ≡ mark k r.spans p = ap (λ x. mark k x p) ba in omega (arith, sum.at p, l.marks p, r.marks p, mark_split a b k t p n wi, e, g));
        lies = both_lies a l.spans r.spans i m j le le' l.lies r.lies;
      }

  -- what a formula's spans are found for, another one with more variables has
  wider_found : (f g : FormulaTree) (i j : ℕ) (u : ℕ → ℕ) (h : Found f i j u) → IsWithin g h.spans → FitsIn g s i j h.spans → Found g i j u
  wider_found f g i j u h within fits = record { spans = h.spans; within = within; fits = fits; marks = h.marks; lies = h.lies }

  either_found_one : (a b : FormulaTree) (i j : ℕ) (u : ℕ → ℕ) → Found a i j u → Found (Alt a b) i j u
  either_found_one a b i j u h = wider_found a (Alt a b) i j u h (λ v e. h.within v (or_left (has_var a v) (has_var b v) e)) (inl (h.within, h.fits))

  either_found_other : (a b : FormulaTree) (i j : ℕ) (u : ℕ → ℕ) → Found b i j u → Found (Alt a b) i j u
  either_found_other a b i j u h = wider_found b (Alt a b) i j u h (λ v e. h.within v (or_right (has_var a v) (has_var b v) e)) (inr (h.within, h.fits))

  plain_found : (a : FormulaTree) (i j : ℕ) (u : ℕ → ℕ) → NoVars a → Found a i j u → FitsIn a s i j nothing
  plain_found a i j u z h =
      let e : h.spans ≡ nothing = λ x v. h.within v (z.none v) x in
      let F : Spans → Type 0 = λ x. FitsIn a s i j x in
      subst F e h.fits

  -- one more variable
  abbrev with_span : ℕ → ℕ → ℕ → Spans → Spans
  with_span x i j t v = if x == v then Some (record { start = i; end = j }) else t v

  with_here : (x i j : ℕ) (t : Spans) → with_span x i j t x ≡ Some (record { start = i; end = j })
  with_here x i j t = ap (λ b. if b then Some (record { start = i; end = j }) else t x) (eq-eqb x x refl)

  with_without : (x i j : ℕ) (t : Spans) → t x ≡ None → without x (with_span x i j t) ≡ t
  with_without x i j t h = λ y v. go v (eqb_tells x v) y
    where
      go : (v : ℕ) → ((x == v ≡ true) × (x ≡ v)) ⊎ ((x == v ≡ false) × (x ≡ v → ⊥)) → without x (with_span x i j t) v ≡ t v
      go v (inl e) = ap (λ b. if b then None else (if b then Some (record { start = i; end = j }) else t v)) e.0 ∙ sym (ap t (sym e.1) ∙ h)
      go v (inr e) = ap (λ b. if b then None else (if b then Some (record { start = i; end = j }) else t v)) e.0

  with_within : (x i j : ℕ) (a : FormulaTree) (t : Spans) → IsWithin a t → IsWithin (Capture x a) (with_span x i j t)
  with_within x i j a t w v h =
      ap (λ b. if b then Some (record { start = i; end = j }) else t v) (or_left (x == v) (has_var a v) h) ∙ w v (or_right (x == v) (has_var a v) h)

  with_lies : (x i j : ℕ) (t : Spans) → i ≤ j → LiesIn i j t → LiesIn i j (with_span x i j t)
  with_lies x i j t le l v q = go (x == v)
    where
      some_is : (p q : Span) → Some p ≡ Some q → p ≡ q
      some_is p q e = cc

      here : (p : Span) → p ≡ q → (i ≤ p.start) × (p.start ≤ p.end) × (p.end ≤ j) → (i ≤ q.start) × (q.start ≤ q.end) × (q.end ≤ j)
      here p e y = let P : Span → Type 0 = λ z. (i ≤ z.start) × (z.start ≤ z.end) × (z.end ≤ j) in subst P e y

      go : (b : Bool) → (if b then Some (record { start = i; end = j }) else t v) ≡ Some q → (i ≤ q.start) × (q.start ≤ q.end) × (q.end ≤ j)
      go true e = here (record { start = i; end = j }) (some_is _ q e) (omega arith, le, omega arith)
      go false e = l v q e

  named_found : (x : ℕ) (a : FormulaTree) (i j : ℕ) (u v : ℕ → ℕ) → x < k → has_var a x ≡ false → i ≤ j → ((p : ℕ) → u p ≡ at_position i (opening x) p + at_position j (closing x) p + v p) → Found a i j v → Found (Capture x a) i j u
  named_found x a i j u v lt absent le sum h =
      let t = with_span x i j h.spans in
      let here = with_here x i j h.spans in
      let back = with_without x i j h.spans (h.within x absent) in
      let F : Spans → Type 0 = λ y. FitsIn a s i j y in
      record {
        spans = t;
        within = with_within x i j a h.spans h.within;
        fits = (here, subst F (sym back) h.fits);
        marks = λ p. (let e : mark k (without x t) p ≡ mark k h.spans p = ap (λ y. mark k y p) back in omega (arith, sum p, h.marks p, mark_without x i j t here k p lt, e));
        lies = with_lies x i j h.spans le h.lies;
      }

  pub words_fits : (f : FormulaTree) (i j : ℕ) (u : ℕ → ℕ) → Plain f → VarsBelow k f → Words (ByteIn s) f i j u → Found f i j u
  words_fits (Set b) i j u pl below h = record {
    spans = nothing;
    within = λ v e. refl;
    fits = (omega (arith, h.0), h.1);
    marks = nothing_marks u h.2;
    lies = nothing_lies i j;
  }
  words_fits Empty i j u pl below h = record {
    spans = nothing;
    within = λ v e. refl;
    fits = h.0;
    marks = nothing_marks u h.1;
    lies = nothing_lies i j;
  }
  words_fits (Cat a b) i j u pl below h =
      then_found a b i h.index j u h.left h.right pl.2 h.low h.high h.sum (words_fits a i h.index h.left pl.0 (below_left k a b below) h.in_left) (words_fits b h.index j h.right pl.1 (below_right k a b below) h.in_right)
  words_fits (Alt a b) i j u pl below (inl h) = either_found_one a b i j u (words_fits a i j u pl.0 (below_left k a b below) h)
  words_fits (Alt a b) i j u pl below (inr h) = either_found_other a b i j u (words_fits b i j u pl.1 (below_right k a b below) h)
  words_fits (Star a) i j u pl below h = record {
    spans = nothing;
    within = λ v e. refl;
    fits = turns_map i j (λ g m w. plain_found a g m zeros pl.1 (words_fits a g m zeros pl.0 below w)) h.1;
    marks = nothing_marks u h.0;
    lies = nothing_lies i j;
  }
  words_fits (Plus a) i j u pl below h = record {
    spans = nothing;
    within = λ v e. refl;
    fits = (h.1, h.2, h.3, plain_found a i h.1 zeros pl.1 (words_fits a i h.1 zeros pl.0 below h.4), turns_map h.1 j (λ g m w. plain_found a g m zeros pl.1 (words_fits a g m zeros pl.0 below w)) h.5);
    marks = nothing_marks u h.0;
    lies = nothing_lies i j;
  }
  words_fits (Opt a) i j u pl below (inl h) = record {
    spans = nothing;
    within = λ v e. refl;
    fits = inl (h.0, λ v. refl);
    marks = nothing_marks u h.1;
    lies = nothing_lies i j;
  }
  words_fits (Opt a) i j u pl below (inr h) =
      let r = words_fits a i j u pl below h in
      record { spans = r.spans; within = r.within; fits = inr r.fits; marks = r.marks; lies = r.lies }
  words_fits (Capture x a) i j u pl below h =
      named_found x a i j u h.inner (named_below x a k below) pl.1 (words_le (ByteIn s) a i j h.inner h.within) h.sum (words_fits a i j h.inner pl.0 (below_named k x a below) h.within)
