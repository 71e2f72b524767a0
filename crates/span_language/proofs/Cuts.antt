-- Cutting bytes into lines.
use Rattle.std.proofs.Common.{◌≡◌, ◌≢◌, ℕ, suc, ◌<◌, Bool, true, false, List, [], ◌∷◌, ◌++◌, length, refl, sym, ◌∙◌, ap, append_assoc, arith}
use Rattle.std.specs.Prelude.{◌==◌, All, if◌then◌else◌}
use Rattle.std.proofs.lemmas.Bool.Decides.{nat_tests}
use Rattle.std.proofs.lemmas.List.{append-nil}
use Rattle.span_language.specs.Lines.{IsCut, lines_of, NoNewline, onto_first, onto_whole, whole_lines}

not_newline : (b : ℕ) (xs ys : List (List ℕ)) → (b ≡ 10 → ⊥) → (if b == 10 then xs else ys) ≡ ys
not_newline b xs ys h = let is : (b == 10) ≡ false = grind (arith, nat_tests) in ap (λ (t : Bool). if t then xs else ys) is

pub no_newline : (xs : List ℕ) → All (λ b. b ≢ 10) xs → NoNewline xs
no_newline [] h = tt
no_newline (b ∷ bs) h = (h 0 0 (omega arith), no_newline bs (λ k d lt. h (suc k) d (omega arith)))

pub lines_cut : (p q : List ℕ) → NoNewline p → lines_of (p ++ 10 ∷ q) ≡ p ∷ lines_of q
lines_cut [] q h = refl
lines_cut (b ∷ p) q h = not_newline b ([] ∷ lines_of (p ++ 10 ∷ q)) (onto_first b (lines_of (p ++ 10 ∷ q))) h.0 ∙ ap (onto_first b) (lines_cut p q h.1)

pub lines_one : (p : List ℕ) → NoNewline p → 0 < length p → lines_of p ≡ p ∷ []
lines_one [] h some = absurd (omega arith)
lines_one (b ∷ []) h some = not_newline b ([] ∷ []) ((b ∷ []) ∷ []) h.0
lines_one (b ∷ c ∷ p) h some = not_newline b ([] ∷ lines_of (c ∷ p)) (onto_first b (lines_of (c ∷ p))) h.0 ∙ ap (onto_first b) (lines_one (c ∷ p) h.1 (omega arith))

pub empty_of : (xs : List ℕ) → true ≡ (length xs == 0) → xs ≡ []
empty_of [] h = refl
empty_of (x ∷ xs) h = let some : (suc (length xs) == 0) ≡ false = grind (arith, nat_tests) in let bad : ⊥ = cc (h, some) in absurd bad

pub whole_cut : (p q : List ℕ) → NoNewline p → whole_lines (p ++ 10 ∷ q) ≡ p ∷ whole_lines q
whole_cut [] q h = refl
whole_cut (b ∷ p) q h = not_newline b ([] ∷ whole_lines (p ++ 10 ∷ q)) (onto_whole b (whole_lines (p ++ 10 ∷ q))) h.0 ∙ ap (onto_whole b) (whole_cut p q h.1)

pub whole_none : (p : List ℕ) → NoNewline p → whole_lines p ≡ []
whole_none [] h = refl
whole_none (b ∷ p) h = not_newline b ([] ∷ whole_lines p) (onto_whole b (whole_lines p)) h.0 ∙ ap (onto_whole b) (whole_none p h.1)

pub plain_both : (p q : List ℕ) → NoNewline p → NoNewline q → NoNewline (p ++ q)
plain_both [] q a b = b
plain_both (x ∷ p) q a b = (a.0, plain_both p q a.1 b)

-- ---- bytes that are cut into lines and the beginning of one more
pub nothing_cut : IsCut [] [] []
nothing_cut = record { lines = λ tail. refl; whole = λ tail. refl; plain = tt }

module _ (bytes : List ℕ) (done : List (List ℕ)) (begun p : List ℕ) (cut : IsCut bytes done begun) (plain : NoNewline p) where
  -- a piece that ends with a newline ends the line that has begun
  pub line_cut : IsCut (bytes ++ (p ++ 10 ∷ [])) (done ++ (begun ++ p) ∷ []) []
  line_cut = record {
    lines = λ tail. ap lines_of (joined tail) ∙ cut.lines (p ++ 10 ∷ tail) ∙ ap (λ l. done ++ lines_of l) (sym (append_assoc begun p (10 ∷ tail)))
        ∙ ap (λ l. done ++ l) (lines_cut (begun ++ p) tail ended) ∙ sym (append_assoc done ((begun ++ p) ∷ []) (lines_of tail));
    whole = λ tail. ap whole_lines (joined tail) ∙ cut.whole (p ++ 10 ∷ tail) ∙ ap (λ l. done ++ whole_lines l) (sym (append_assoc begun p (10 ∷ tail)))
        ∙ ap (λ l. done ++ l) (whole_cut (begun ++ p) tail ended) ∙ sym (append_assoc done ((begun ++ p) ∷ []) (whole_lines tail));
    plain = tt;
  }
    where
      ended : NoNewline (begun ++ p)
      ended = plain_both begun p cut.plain plain

      joined : (tail : List ℕ) → (bytes ++ (p ++ 10 ∷ [])) ++ tail ≡ bytes ++ (p ++ 10 ∷ tail)
      joined tail = append_assoc bytes (p ++ 10 ∷ []) tail ∙ ap (λ l. bytes ++ l) (append_assoc p (10 ∷ []) tail)

  -- a piece without a newline belongs to it
  pub part_cut : IsCut (bytes ++ p) done (begun ++ p)
  part_cut = record {
    lines = λ tail. ap lines_of (append_assoc bytes p tail) ∙ cut.lines (p ++ tail) ∙ ap (λ l. done ++ lines_of l) (sym (append_assoc begun p tail));
    whole = λ tail. ap whole_lines (append_assoc bytes p tail) ∙ cut.whole (p ++ tail) ∙ ap (λ l. done ++ whole_lines l) (sym (append_assoc begun p tail));
    plain = plain_both begun p cut.plain plain;
  }

-- the complete lines are those that are executed
pub whole_is : (bytes : List ℕ) (done : List (List ℕ)) (begun : List ℕ) → IsCut bytes done begun → whole_lines bytes ≡ done
whole_is bytes done begun cut =
    ap whole_lines (sym (append-nil bytes)) ∙ cut.whole [] ∙ ap (λ l. done ++ whole_lines l) (append-nil begun) ∙ ap (λ l. done ++ l) (whole_none begun cut.plain) ∙ append-nil done

-- at the end a line that has begun is the last one
pub ended_with : (bytes : List ℕ) (done : List (List ℕ)) (begun : List ℕ) → IsCut bytes done begun → 0 < length begun → lines_of bytes ≡ done ++ begun ∷ []
ended_with bytes done begun cut some =
    ap lines_of (sym (append-nil bytes)) ∙ cut.lines [] ∙ ap (λ l. done ++ lines_of l) (append-nil begun) ∙ ap (λ l. done ++ l) (lines_one begun cut.plain some)

pub ended_without : (bytes : List ℕ) (done : List (List ℕ)) (begun : List ℕ) → IsCut bytes done begun → begun ≡ [] → lines_of bytes ≡ done
ended_without bytes done begun cut none =
    ap lines_of (sym (append-nil bytes)) ∙ cut.lines [] ∙ ap (λ l. done ++ lines_of (l ++ [])) none ∙ append-nil done
