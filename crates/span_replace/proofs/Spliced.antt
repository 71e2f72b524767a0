-- A text in which spans are replaced, from span to span.
use Rattle.std.proofs.Common.{◌≡◌, ℕ, ◌+◌, ◌-◌, ◌^◌, ◌<◌, ◌≤◌, List, [], ◌∷◌, ◌++◌, length, take, drop, slice_range, slice_index_or, refl, ap, sym, subst, ◌∙◌, arith, add-one, append_assoc, length-append, length-drop, drop-cons}
use Rattle.std.proofs.lemmas.List.{length-take-le, drop-drop}
use Rattle.span_types.specs.declared.tuple.Span.{Span}
use Rattle.span_replace.specs.Replaced.{AreApartFrom, replaced_from}

-- the span at an index, as the code reads it
abbrev pub at_position : List Span → ℕ → Span
at_position qs i = slice_index_or qs i (record { start = 0; end = 0 })

pub rest-at : (qs : List Span) (i : ℕ) → i < length qs → drop i qs ≡ at_position qs i ∷ drop (i + 1) qs
rest-at qs i h = rw (add-one, drop-cons qs i (record { start = 0; end = 0 })) refl

-- the next span lies past p, and the rest past its end
pub record IsNext (p n : ℕ) (q : Span) (qs : List Span) : Type 0 where
  pub start : p ≤ q.start
  pub order : q.start ≤ q.end
  pub end : q.end ≤ n + 1
  pub rest : AreApartFrom q.end n qs

apart-end : (p n : ℕ) (qs : List Span) → AreApartFrom p n qs → p ≤ n + 1
apart-end p n [] h = h
apart-end p n (q ∷ qs) h = omega (arith, h.0, h.1, apart-end q.end n qs h.2)

pub next-at : (p n : ℕ) (qs : List Span) (i : ℕ) → i < length qs → AreApartFrom p n (drop i qs) → IsNext p n (at_position qs i) (drop (i + 1) qs)
next-at p n qs i h apart =
    let k : AreApartFrom p n (at_position qs i ∷ drop (i + 1) qs) = subst (AreApartFrom p n) (rest-at qs i h) apart in
    record { start = k.0; order = k.1; end = apart-end (at_position qs i).end n (drop (i + 1) qs) k.2; rest = k.2 }

-- ---- lengths
module _ (p : ℕ) (q : Span) (qs : List Span) (s w : List ℕ) (positive : 1 ≤ p) (next : IsNext p (length s) q qs) where
  pub gap : length (take (q.start - p) (drop (p - 1) s)) ≡ q.start - p
  gap = length-take-le (q.start - p) (drop (p - 1) s) (omega (arith, length-drop (p - 1) s, next.start, next.order, next.end))

  pub slice-is : slice_range s (p - 1) (q.start - 1) ≡ take (q.start - p) (drop (p - 1) s)
  slice-is = let e : q.start - 1 - (p - 1) ≡ q.start - p = omega (arith, next.start) in ap (λ n. take n (drop (p - 1) s)) e

  pub length-next : length (replaced_from p s (q ∷ qs) w) ≡ q.start - p + length w + length (replaced_from q.end s qs w)
  length-next =
      omega (
        arith,
        gap,
        ap length slice-is,
        length-append (slice_range s (p - 1) (q.start - 1)) (w ++ replaced_from q.end s qs w),
        length-append w (replaced_from q.end s qs w),
      )

  -- after the next span
  pub whole-next : (done whole : List ℕ) → done ++ replaced_from p s (q ∷ qs) w ≡ whole → (done ++ (take (q.start - p) (drop (p - 1) s) ++ w)) ++ replaced_from q.end s qs w ≡ whole
  whole-next done whole h =
      regroup done (take (q.start - p) (drop (p - 1) s)) (replaced_from q.end s qs w) ∙ (ap (λ x. done ++ (x ++ (w ++ replaced_from q.end s qs w))) (sym slice-is) ∙ h)
    where
      regroup : (a b e : List ℕ) → (a ++ (b ++ w)) ++ e ≡ a ++ (b ++ (w ++ e))
      regroup a b e = simp append_assoc

  pub fits-next : (done whole : List ℕ) → done ++ replaced_from p s (q ∷ qs) w ≡ whole → length whole ≤ 2 ^ 48 → length done + (q.start - p) + length w ≤ 2 ^ 48
  fits-next done whole h most =
      let e : length (done ++ replaced_from p s (q ∷ qs) w) ≡ length whole = ap length h in
      omega (arith, e, most, length-next, length-append done (replaced_from p s (q ∷ qs) w))

  pub rest-next : drop (q.end - p) (drop (p - 1) s) ≡ drop (q.end - 1) s
  rest-next = let e : p - 1 + (q.end - p) ≡ q.end - 1 = omega (arith, positive, next.start, next.order) in drop-drop (q.end - p) (p - 1) s ∙ ap (λ n. drop n s) e

  pub end-next : q.end ≤ p + length (drop (p - 1) s)
  end-next = omega (arith, next.start, next.order, next.end, length-drop (p - 1) s)
