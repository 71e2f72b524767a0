-- The answers taken so far.
use Rattle.std.proofs.Common.{◌≡◌, ℕ, ◌+◌, ◌*◌, ◌≤◌, arith, true, false, refl, sym, ap, subst, ◌∙◌, List, [], ◌∷◌, ◌++◌, length, Option, Some, None}
use Rattle.std.specs.Prelude.{MatchOption}
use Rattle.std.specs.Option.{is_some}
use Rattle.std.proofs.Math.Nat.{mul-le-mul_right}
use Rattle.span_types.specs.Answers.{IsPage}
use Rattle.span_types.specs.Fibonacci.{looks_limit}
use Rattle.span_enum.specs.Listing.{Listing}
use Rattle.span_enum.specs.Members.{Tuple, AreAnswersOf, IsFirstMember, NoMemberLeft}
use Rattle.span_enum.specs.Pages.{IsListed}
use Rattle.span_enum.proofs.Pages.{after-none, listed-start, listed-next, page-whole, page-full}
use Rattle.list_all.specs.Page.{IsPageOf}

-- the iterator `from` had returned no answer; the given answers were taken from it, and now it is `to`
pub record AreTaken (from to : Listing) (given : List Tuple) : Type 0 where
  pub automaton : to.automaton ≡ from.automaton
  pub text : to.text ≡ from.text
  pub listed : (all : List Tuple) → AreAnswersOf from.automaton from.text all → IsListed all None given to.after

pub taken-none : (from : Listing) → from.after ≡ None → AreTaken from from []
taken-none from start = record {
  automaton = refl;
  text = refl;
  listed = λ all are. subst (λ (o : Option Tuple). IsListed all None [] o) (sym start) (listed-start from.automaton from.text all are None all (after-none all));
}

module _ (from to : Listing) (given : List Tuple) (h : AreTaken from to given) where
  pub taken-next : (next : Listing) (u : Tuple) → IsFirstMember to.automaton to.text to.after u → next ≡ record to { after = Some u } → AreTaken from next (given ++ u ∷ [])
  taken-next next u first is = record {
    automaton = ap (λ (l : Listing). l.automaton) is ∙ h.automaton;
    text = ap (λ (l : Listing). l.text) is ∙ h.text;
    listed = λ all are. subst (λ (o : Option Tuple). IsListed all None (given ++ u ∷ []) o) (sym (ap (λ (l : Listing). l.after) is))
        (listed-next from.automaton from.text all are None to.after given u (h.listed all are) (rw (h.automaton, h.text) at first));
  }

  pub taken-all : (all : List Tuple) → AreAnswersOf from.automaton from.text all → (n : ℕ) → NoMemberLeft to.automaton to.text to.after → length given ≤ n
      → IsPageOf from.automaton from.text n (record { tuples = given; more = false })
  taken-all all are n none le = record {
    all = all;
    answers = are;
    page = page-whole from.automaton from.text all are None to.after given n (h.listed all are) (rw (h.automaton, h.text) at none) le;
  }

  pub taken-full : (all : List Tuple) → AreAnswersOf from.automaton from.text all → (n : ℕ) (u : Tuple) → IsFirstMember to.automaton to.text to.after u → length given ≡ n
      → IsPageOf from.automaton from.text n (record { tuples = given; more = true })
  taken-full all are n u first is = record {
    all = all;
    answers = are;
    page = subst (λ (m : ℕ). IsPage all None m given true) is (page-full from.automaton from.text all are None to.after given u (h.listed all are) (rw (h.automaton, h.text) at first));
  }

  pub taken-looks : (x y : ℕ) → x ≤ y + looks_limit to.automaton.variables (length to.text) → x ≤ y + looks_limit from.automaton.variables (length from.text)
  taken-looks x y le = rw (h.automaton, h.text) at le

  -- whether the next answer was found, after a full page
  pub taken-page : (all : List Tuple) → AreAnswersOf from.automaton from.text all → (n : ℕ) (o : Option Tuple) → MatchOption o (NoMemberLeft to.automaton to.text to.after) (IsFirstMember to.automaton to.text to.after)
      → length given ≡ n → IsPageOf from.automaton from.text n (record { tuples = given; more = is_some o })
  taken-page all are n None none is = taken-all all are n none (omega (arith, is))
  taken-page all are n (Some u) first is = taken-full all are n u first is

-- ---- table lookups
pub looks-next : (before now after count more each : ℕ) → now ≤ before + count * each → after ≤ now + each → more ≡ count + 1 → after ≤ before + more * each
looks-next before now after count more each paid le is = rw is (omega (arith, paid, le))

pub looks-most : (before now after count limit each : ℕ) → now ≤ before + count * each → after ≤ now + each → count ≤ limit → after ≤ before + (limit + 1) * each
looks-most before now after count limit each paid le few =
    let all : count * each ≤ limit * each = mul-le-mul_right each few in omega (arith, paid, le, all)
