-- The marks of a tuple for other names.
use Rattle.std.proofs.Common.{◌≡◌, ℕ, suc, ◌+◌, ◌*◌, ◌/◌, ◌%◌, ◌^◌, ◌<◌, Bool, true, false, List, [], ◌∷◌, length, Option, if◌then◌else◌, refl, ap, ◌∙◌, arith, pow-suc}
use Rattle.span_types.specs.declared.tuple.Span.{Span}
use Rattle.span_types.specs.Rel.{same_name, named}
use Rattle.span_types.specs.Marks.{mark_of, part_of, spans_of}
use Rattle.span_types.proofs.Digits.{mark_below}
use Rattle.span_types.proofs.WriteLaws.{mark-cons}
use Rattle.span_algebra.specs.Renaming.{tuple_for, markers, mark_for}

part-small : (y : Option Span) (p : ℕ) → part_of 0 y p < 4
part-small y p = omega (arith, mark_below 1 (spans_of (y ∷ [])) p)

pub last-digit : (x m : ℕ) → x < 4 → (x + 4 * m) % 4 ≡ x
last-digit x m lt = omega arith

pub other-digits : (x m : ℕ) → x < 4 → (x + 4 * m) / 4 ≡ m
other-digits x m lt = omega arith

-- the markers of a name are those of its span
pub markers-named : (from : List (List ℕ)) (t : List (Option Span)) (p : ℕ) (n : List ℕ) → length t ≡ length from → markers from (mark_of t p) n ≡ part_of 0 (named from t n) p
markers-named [] t p n e = refl
markers-named (x ∷ from) [] p n e = absurd (omega (arith, e))
markers-named (x ∷ from) (y ∷ t) p n e =
    ap (λ m. if same_name x n then m % 4 else markers from (m / 4) n) (mark-cons y t p)
    ∙ by (same_name x n) (markers-named from t p n (omega (arith, e)))
  where
    by : (b : Bool) → markers from (mark_of t p) n ≡ part_of 0 (named from t n) p → (if b then (part_of 0 y p + 4 * mark_of t p) % 4 else markers from ((part_of 0 y p + 4 * mark_of t p) / 4) n) ≡ part_of 0 (if b then y else named from t n) p
    by true h = last-digit (part_of 0 y p) (mark_of t p) (part-small y p)
    by false h = ap (λ m. markers from m n) (other-digits (part_of 0 y p) (mark_of t p) (part-small y p)) ∙ h

pub mark-renamed : (to from : List (List ℕ)) (t : List (Option Span)) (p : ℕ) → length t ≡ length from → mark_for to from (mark_of t p) ≡ mark_of (tuple_for to from t) p
mark-renamed [] from t p e = refl
mark-renamed (n ∷ to) from t p e =
    let a = markers-named from t p n e in
    let b = mark-renamed to from t p e in
    omega (arith, a, b, mark-cons (named from t n) (tuple_for to from t) p)

pub markers-small : (from : List (List ℕ)) (m : ℕ) (n : List ℕ) → markers from m n < 4
markers-small [] m n = omega arith
markers-small (x ∷ from) m n = by (same_name x n) (markers-small from (m / 4) n)
  where
    by : (b : Bool) → markers from (m / 4) n < 4 → (if b then m % 4 else markers from (m / 4) n) < 4
    by true h = omega arith
    by false h = h

pub mark-small : (to from : List (List ℕ)) (m : ℕ) → mark_for to from m < 4 ^ length to
mark-small [] from m = omega arith
mark-small (n ∷ to) from m =
    let e : 4 ^ suc (length to) ≡ 4 ^ length to * 4 = pow-suc 4 (length to) in
    omega (arith, mark-small to from m, markers-small from m n, e)
