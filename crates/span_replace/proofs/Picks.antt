-- The spans that are found one after the other are the chosen ones.
use Rattle.std.proofs.Common.{◌≡◌, ℕ, ◌+◌, ◌*◌, ◌<◌, ◌≤◌, min, List, [], ◌∷◌, ◌++◌, length, length-append, append_assoc, Option, Some, None, refl, sym, ap, subst, ◌∙◌, arith}
use Rattle.std.proofs.Math.Nat.{mul-le-mul_left, mul-le-mul_right}
use Rattle.span_types.specs.Fibonacci.{looks_limit}
use Rattle.span_types.specs.declared.tuple.Span.{Span}
use Rattle.span_types.specs.Places.{IsSpan}
use Rattle.marker_dfa.specs.Deterministic.{DeterministicAutomaton}
use Rattle.span_enum.specs.Members.{Tuple, AreAnswersOf}
use Rattle.span_replace.specs.declared.choice.Choice.{Choice}
use Rattle.span_replace.specs.declared.choice.Choice.TheVariants.{First, Longest}
use Rattle.span_replace.specs.Chosen.{spans_in}
use Rattle.span_replace.specs.Replaced.{AreApart}
use Rattle.span_replace.specs.Search.{Finds, chosen_by, cursor_past}
use Rattle.span_replace.proofs.SpanOrder.{one}
use Rattle.span_replace.proofs.Picked.{past-span, chosen-picked}
use Rattle.span_replace.proofs.Choices.{upcoming, picked_after, sorted, found-first, found-after, apart-all}
use Rattle.span_replace.proofs.LongestChoices.{longest_after, found, longest-apart-all}

-- the spans that are chosen after q
abbrev pub chosen_after : Choice → Span → List Span → List Span
chosen_after First = picked_after
chosen_after Longest = longest_after

-- of the chosen spans these are the first ones, and the next one was found
pub record Picks (choice : Choice) (a : DeterministicAutomaton) (s : List ℕ) (spans : List Span) (next : Option Span) : Type 0 where
  pub whole : (all : List Tuple) → AreAnswersOf a s all → chosen_by choice all ≡ spans ++ upcoming (chosen_after choice) next (spans_in all)

-- the same of an equal automaton, text and cursor
pub finds-same : (choice : Choice) (a b : DeterministicAutomaton) (s u : List ℕ) (c d : Option Tuple) (o : Option Span) → a ≡ b → s ≡ u → c ≡ d → Finds choice a s c o → Finds choice b u d o
finds-same choice a b s u c d o ea es ec f =
    subst (λ z. Finds choice b u z o) ec (subst (λ z. Finds choice b z c o) es (subst (λ z. Finds choice z s c o) ea f))

append-nil : (xs : List Span) → xs ++ [] ≡ xs
append-nil [] = refl
append-nil (x ∷ xs) = ap (λ l. x ∷ l) (append-nil xs)

module _ (a : DeterministicAutomaton) (s : List ℕ) (single : a.variables ≡ 1) (short : length s ≤ 281474976710656) where
  begins : (choice : Choice) (all : List Tuple) → AreAnswersOf a s all → (o : Option Span) → Finds choice a s None o → chosen_by choice all ≡ upcoming (chosen_after choice) o (spans_in all)
  begins First all answers o f = chosen-picked (spans_in all) (sorted a s single short all answers) ∙ found-first a s single short all answers o f
  begins Longest all answers o f = found a s single short all answers None o f

  goes-on : (choice : Choice) (all : List Tuple) → AreAnswersOf a s all → (q : Span) → IsSpan q → (o : Option Span) → Finds choice a s (Some (one (cursor_past choice q))) o
      → chosen_after choice q (spans_in all) ≡ upcoming (chosen_after choice) o (spans_in all)
  goes-on First all answers q iq o f = found-after a s single short all answers _ (past-span q iq) o f
  goes-on Longest all answers q iq o f = found a s single short all answers (Some q) o f

  apart : (choice : Choice) (all : List Tuple) → AreAnswersOf a s all → AreApart (length s) (chosen_by choice all)
  apart First all answers = apart-all a s single short all answers
  apart Longest all answers = longest-apart-all a s single short all answers

  -- the spans that were found lie apart in the text, once there are no more
  pub apart-of : (choice : Choice) (spans : List Span) → Picks choice a s spans None → (all : List Tuple) × AreAnswersOf a s all → AreApart (length s) spans
  apart-of choice spans p (all, answers) = subst (AreApart (length s)) (p.whole all answers ∙ append-nil spans) (apart choice all answers)

  pub picks-first : (choice : Choice) (o : Option Span) → Finds choice a s None o → Picks choice a s [] o
  picks-first choice o f = record { whole = λ all answers. begins choice all answers o f }

  pub picks-step : (choice : Choice) (spans : List Span) (q : Span) (o : Option Span) → IsSpan q → Picks choice a s spans (Some q) → Finds choice a s (Some (one (cursor_past choice q))) o
      → Picks choice a s (spans ++ q ∷ []) o
  picks-step choice spans q o iq p f = record {
    whole = λ all answers.
        p.whole all answers ∙ (ap (λ (z : List Span). spans ++ q ∷ z) (goes-on choice all answers q iq o f) ∙ sym (append_assoc spans (q ∷ []) (upcoming (chosen_after choice) o (spans_in all))));
  }

module _ (choice : Choice) (a : DeterministicAutomaton) (s : List ℕ) (spans : List Span) (all : List Tuple) (answers : AreAnswersOf a s all) where
  pub picks-all : Picks choice a s spans None → chosen_by choice all ≡ spans
  picks-all p = p.whole all answers ∙ append-nil spans

  pub picks-more : (q : Span) → Picks choice a s spans (Some q) → length spans < length (chosen_by choice all)
  picks-more q p =
      let e : length (chosen_by choice all) ≡ length (spans ++ q ∷ chosen_after choice q (spans_in all)) = ap length (p.whole all answers) in
      omega (arith, e, length-append spans (q ∷ chosen_after choice q (spans_in all)))

  pub picks-prefix : (o : Option Span) → Picks choice a s spans o → length spans ≤ length (chosen_by choice all)
  picks-prefix o p =
      let e : length (chosen_by choice all) ≡ length (spans ++ upcoming (chosen_after choice) o (spans_in all)) = ap length (p.whole all answers) in
      omega (arith, e, length-append spans (upcoming (chosen_after choice) o (spans_in all)))

-- ---- table lookups for one more search than spans
pub some-looks : (n : ℕ) → 1 ≤ looks_limit 1 n
some-looks n = omega arith

-- each span costs each times b, and the last search costs last times b
pub paid-next : (each last old mid new k more b : ℕ) → mid ≤ old + (each * k + last) * b → new ≤ mid + each * b → more ≡ k + 1 → new ≤ old + (each * more + last) * b
paid-next each last old mid new k more b h l is = subst (λ n. new ≤ old + (each * n + last) * b) (sym is) (omega (arith, h, l, by))
  where
    by : (each * (k + 1) + last) * b ≡ (each * k + last) * b + each * b
    by = grind arith

pub paid-first : (each last old new k b : ℕ) → new ≤ old + last * b → k ≡ 0 → new ≤ old + (each * k + last) * b
paid-first each last old new k b h zero = subst (λ n. new ≤ old + (each * n + last) * b) (sym zero) (omega (arith, h, by))
  where
    by : (each * 0 + last) * b ≡ last * b
    by = grind arith

pub paid-most : (each last old new k c b : ℕ) → new ≤ old + (each * k + last) * b → k ≤ c → k ≤ 32768 → new ≤ old + (each * min c 32768 + last) * b
paid-most each last old new k c b h first second =
    let m : k ≤ min c 32768 = omega (arith, first, second) in
    let l : each * k + last ≤ each * min c 32768 + last = omega (arith, mul-le-mul_left each m) in
    omega (arith, h, mul-le-mul_right b l)

-- two table lookups come before
pub paid-whole : (cost old start mid new m b : ℕ) → start ≤ old + 1 → mid ≤ start + 1 → new ≤ mid + ((cost + 2) * m + cost) * b → 1 ≤ b → new ≤ old + (cost + 2) * (m + 1) * b
paid-whole cost old start mid new m b first second l some = omega (arith, first, second, l, some, whole)
  where
    whole : (cost + 2) * (m + 1) * b ≡ ((cost + 2) * m + cost) * b + 2 * b
    whole = grind arith

-- the same if nothing is searched
pub paid-none : (cost old start mid m b : ℕ) → start ≤ old + 1 → mid ≤ start + 1 → 1 ≤ b → mid ≤ old + (cost + 2) * (m + 1) * b
paid-none cost old start mid m b first second some = paid-whole cost old start mid mid m b first second (omega arith) some

-- half of what is allowed
pub paid-half : (old new m b : ℕ) → new ≤ old + 4 * (m + 1) * b → new ≤ old + 8 * (m + 1) * b
paid-half old new m b h = omega (arith, h, twice)
  where
    twice : 8 * (m + 1) * b ≡ 4 * (m + 1) * b + 4 * (m + 1) * b
    twice = grind arith
