-- How far runs follow the marks of a tuple, from the parts of a text.
use Rattle.span_enum.proofs.Base.{AreBetween, CanRun, DeterministicAutomaton, List, Some, Tuple, [], ap, append_assoc, arith, bytes-append, bytes_of, length, length-append, mark_count, mark_count-append, mark_of, max, member, mul-add, mul-le-mul_right}
use Rattle.span_enum.proofs.Base.{path-on, path-one, path-parts, reached, refl, step_of, sym, true, word_over, ℕ, ◌*◌, ◌++◌, ◌+◌, ◌<◌, ◌∙◌, ◌∷◌, ◌≡◌, ◌≤◌}
use Rattle.span_enum.proofs.Runs.{goal-from_nothing, run-behind, run-join}
use Rattle.span_enum.proofs.Words.{lower-cost, over-append, over-bytes, over-run}
use Rattle.span_enum.specs.Agreement.{AgreesUntil, IsAgreement, path_lookups}
use Rattle.span_enum.specs.declared.agreement.Agreement.{Agreement}
use Rattle.span_enum.specs.declared.agreement.Agreement.TheVariants.{Whole, Until}

-- no run follows the mark at a letter
pub until-byte : (a : DeterministicAutomaton) (p b at : ℕ) (t : Tuple) (goals : ℕ) → CanRun a p (b ∷ []) goals → ((q : ℕ) → step_of a p (mark_of t at) b ≡ Some q → member goals q ≡ true → ⊥) → AgreesUntil a p t at (b ∷ []) goals at
until-byte a p b at t goals can none = record {
  prefix = [];
  letter = b;
  back = [];
  parts = refl;
  position_is = omega arith;
  state = p;
  follows = refl;
  can = can;
  none = λ q e run. none q (sym (path-one (step_of a) p (mark_of t at) b) ∙ e) (goal-from_nothing a q goals run);
}

-- none follows the marks over the first of two texts
pub until-left : (a : DeterministicAutomaton) (p at : ℕ) (t : Tuple) (s u : List ℕ) (goals between position : ℕ) → AreBetween a p s u goals between → AgreesUntil a p t at s between position
    → AgreesUntil a p t at (s ++ u) goals position
until-left a p at t s u goals between position are k = record {
  prefix = k.prefix;
  letter = k.letter;
  back = k.back ++ u;
  parts = ap (λ x. x ++ u) k.parts ∙ append_assoc k.prefix (k.letter ∷ k.back) u;
  position_is = k.position_is;
  state = k.state;
  follows = k.follows;
  can = run-join a k.state k.can.state goals (k.letter ∷ k.back) u k.can.word k.can.bytes k.can.ends (are.onward k.can.state k.can.goal);
  none = λ q e run.
      let c = path-parts (step_of a) q k.back u run.word run.state run.bytes run.ends in
      let w = word_over t at (k.prefix ++ k.letter ∷ []) in
      let bytes : bytes_of (w ++ c.left) ≡ s = bytes-append w c.left ∙ rw (over-bytes t at (k.prefix ++ k.letter ∷ []), c.left_bytes) (append_assoc k.prefix (k.letter ∷ []) k.back ∙ sym k.parts) in
      let goal = are.reach c.middle (w ++ c.left) bytes (path-on (step_of a) p q w c.left e ∙ c.left_ends) (run-behind a q k.back u run.word run.state goals c run.goal) in
      k.none q e (record { word = c.left; state = c.middle; bytes = c.left_bytes; ends = c.left_ends; goal = goal });
}

-- one follows them over the first text
pub agree-right : (a : DeterministicAutomaton) (p q at : ℕ) (t : Tuple) (s u : List ℕ) (goals : ℕ) (r : Agreement) → reached a p (word_over t at s) ≡ Some q → IsAgreement a q t (at + length s) u goals r
    → IsAgreement a p t at (s ++ u) goals r
agree-right a p q at t s u goals (Whole n) e k = (over-run a p at q t s u e ∙ k.0, k.1)
agree-right a p q at t s u goals (Until position) e k = record {
  prefix = s ++ k.prefix;
  letter = k.letter;
  back = k.back;
  parts = ap (λ x. s ++ x) k.parts ∙ sym (append_assoc s k.prefix (k.letter ∷ k.back));
  position_is = omega (arith, k.position_is, length-append s k.prefix);
  state = k.state;
  follows = over-run a p at q t s k.prefix e ∙ k.follows;
  can = k.can;
  none = λ n run. k.none n (sym (over-run a p at q t s (k.prefix ++ k.letter ∷ []) e) ∙ ap (λ x. reached a p (word_over t at x)) (sym (append_assoc s k.prefix (k.letter ∷ []))) ∙ run);
}

-- ---- table lookups
module _ (t : Tuple) (at h hl hr before now mid after : ℕ) (s u : List ℕ) (high : h ≡ max hl hr + 1) (two : now ≡ before + 2) where
  abbrev c : ℕ
  c = mark_count (word_over t at s)

  abbrev d : ℕ
  d = mark_count (word_over t (at + length s) u)

  both : mark_count (word_over t at (s ++ u)) ≡ c + d
  both = ap mark_count (over-append t at s u) ∙ mark_count-append (word_over t at s) (word_over t (at + length s) u)

  sum : h * mark_count (word_over t at (s ++ u)) ≡ h * c + h * d
  sum = ap (λ n. h * n) both ∙ mul-add h c d

  left-more : hl * c ≤ h * c
  left-more = mul-le-mul_right c (omega (arith, high))

  right-more : hr * d ≤ h * d
  right-more = mul-le-mul_right d (omega (arith, high))

  -- two table lookups at the children, and those of a path below the left one
  pub left-lookups : mid ≤ now + 2 * (hl * c) + 2 * hl → mid ≤ before + 2 * (h * mark_count (word_over t at (s ++ u))) + 2 * h
  left-lookups l = omega (arith, sum, left-more, l, two, high)

  -- or those of the left one's marks, and of the right one
  pub right-lookups : (a : DeterministicAutomaton) (p goals : ℕ) (r : Agreement) → IsAgreement a p t at (s ++ u) goals r
      → ((q : ℕ) → reached a p (word_over t at (s ++ u)) ≡ Some q → member goals q ≡ true → 0 < mark_count (word_over t at (s ++ u)))
      → mid ≤ now + 2 * (hl * c) → after ≤ mid + 2 * (hr * d) + path_lookups r hr → after ≤ before + 2 * (h * mark_count (word_over t at (s ++ u))) + path_lookups r h
  right-lookups a p goals (Whole q) k some l m = omega (arith, lower-cost t at h hl hr before now mid after s u high two (some q k.0 k.1) l (omega (arith, m)))
  right-lookups a p goals (Until position) k some l m = omega (arith, sum, left-more, right-more, l, m, two, high)
