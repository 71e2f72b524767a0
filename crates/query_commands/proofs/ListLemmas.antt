-- Listings of answers in progress.
use Rattle.query_commands.proofs.Names.{after-first, ap, AreAnswersOf, arith, at, Bool, false, first-after, first_page_text, IsAfter, IsCut, IsFirstMember, IsSent}
use Rattle.query_commands.proofs.Names.{IsUpTo, last_line, length, List, Listing, looks_limit, NoMemberLeft, none-after, Option, Outlet, refl, Result, Some, Stop, subst}
use Rattle.query_commands.proofs.Names.{suc, sym, take, Told, true, Tuple, tuple_line, Wrote, ℕ, ◌*◌, ◌++◌, ◌+◌, ◌∙◌, ◌≡◌, ◌≤◌}
use Rattle.span_language.proofs.Listings.{page_full, page_next, page_none}
use Rattle.session_state.proofs.Written.{last, sent_on, stops}

-- ---- the iterator after a step
pub record Keeps (a b : Listing) : Type 0 where
  pub automaton : b.automaton ≡ a.automaton
  pub text : b.text ≡ a.text

pub moved : {first a b : Listing} {u : Tuple} → Keeps first a → b ≡ record a { after = Some u } → Keeps first b × (b.after ≡ Some u)
moved kept e = (record { automaton = ap (λ (l : Listing). l.automaton) e ∙ kept.automaton; text = ap (λ (l : Listing). l.text) e ∙ kept.text }, ap (λ (l : Listing). l.after) e)

pub kept_looks : {a b : Listing} (x y : ℕ) → Keeps a b → x ≤ y + looks_limit b.automaton.variables (length b.text) → x ≤ y + looks_limit a.automaton.variables (length a.text)
kept_looks x y k h = rw (k.automaton, k.text) at h

pub kept_size : {a b : Listing} {cursor : Option Tuple} {t : Tuple} → Keeps a b → IsFirstMember b.automaton b.text cursor t → length t ≡ a.automaton.variables
kept_size k h = h.member.size ∙ ap (λ x. x.variables) k.automaton

-- the rest of a page when `left` more tuples may come, and its table lookups
pub record KeepsInvariant (a b : Outlet) (names : List (List ℕ)) (limit : ℕ) (first all : List Tuple) (cursor : Option Tuple) (left before looks each : ℕ) : Type 0 where
  pub rest : List Tuple
  pub after : IsAfter all cursor rest
  pub so_far : IsUpTo a b (first_page_text names left rest) (first_page_text names limit first)
  pub paid : looks + length (take left rest) * each ≤ before + length (take limit first) * each

-- the answers of an iterator after a step, which keeps its automaton and text
module _ {a b : Outlet} {names : List (List ℕ)} {limit : ℕ} {first all : List Tuple} {cursor : Option Tuple} {left before looks each : ℕ} {old listing : Listing} (kept : Keeps old listing)
    (are : AreAnswersOf old.automaton old.text all) (h : KeepsInvariant a b names limit first all cursor left before looks each) where
  here : AreAnswersOf listing.automaton listing.text all
  here = rw (kept.automaton, kept.text) are

  -- an answer was found, and its line comes before the rest
  found : (next : ℕ) (u : Tuple) → left ≡ suc next → IsFirstMember listing.automaton listing.text cursor u
      → (more : List Tuple) × IsAfter all (Some u) more × IsUpTo a b (tuple_line names u ++ first_page_text names next more) (first_page_text names limit first)
      × (looks + suc (length (take next more)) * each ≤ before + length (take limit first) * each)
  found next u is f =
      let k = first-after listing.automaton listing.text all here cursor h.rest u h.after f in (
        k.0,
        after-first listing.automaton listing.text all here cursor u k.0 (subst (IsAfter all cursor) k.1 h.after),
        subst (λ (l : List ℕ). IsUpTo a b l (first_page_text names limit first)) (ap (λ (n : ℕ). first_page_text names n h.rest) is ∙ ap (first_page_text names (suc next)) k.1 ∙ page_next names next u k.0) h.so_far,
        subst (λ (r : List Tuple). looks + length (take (suc next) r) * each ≤ before + length (take limit first) * each) k.1
            (subst (λ (n : ℕ). looks + length (take n h.rest) * each ≤ before + length (take limit first) * each) is h.paid),
      )

  pub page_goes_on : {c : Outlet} (next more : ℕ) (u : Tuple) (to : Option Tuple) → left ≡ suc next → to ≡ Some u → IsFirstMember listing.automaton listing.text cursor u
      → more ≤ looks + each → IsSent b (tuple_line names u) c → KeepsInvariant a c names limit first all to next before more each
  page_goes_on next more u to is to_is f le wrote =
      let k = found next u is f in
      record {
        rest = k.0;
        after = subst (λ (o : Option Tuple). IsAfter all o k.0) (sym to_is) k.1;
        so_far = sent_on (tuple_line names u) (first_page_text names next k.0) (tuple_line names u) k.2 refl wrote;
        paid = omega (arith, k.3, le);
      }

  -- the table lookups of one more answer
  pub looks_more : (more : ℕ) → more ≤ looks + each → more ≤ before + (length (take limit first) + 1) * each
  looks_more more le = omega (arith, h.paid, le)

  pub page_stops : {c : Outlet} {why : Stop} (next : ℕ) (u : Tuple) → left ≡ suc next → IsFirstMember listing.automaton listing.text cursor u
      → IsCut b (tuple_line names u) c why → IsCut a (first_page_text names limit first) c why
  page_stops next u is f stopped =
      let k = found next u is f in
      stops (tuple_line names u) (first_page_text names next k.0) (tuple_line names u) k.2 refl stopped

  -- only the last line is left to write
  last_of : (c : Outlet) (more : Bool) (r : Result Told Stop) → first_page_text names left h.rest ≡ last_line more → Wrote r b (last_line more) c → Wrote r a (first_page_text names limit first) c
  last_of c more r is wrote = last r c (last_line more) (last_line more) (subst (λ (l : List ℕ). IsUpTo a b l (first_page_text names limit first)) is h.so_far) refl wrote

  pub page_ends : (c : Outlet) (r : Result Told Stop) → NoMemberLeft listing.automaton listing.text cursor → Wrote r b (last_line false) c → Wrote r a (first_page_text names limit first) c
  page_ends c r none wrote =
      last_of c false r (ap (first_page_text names left) (none-after listing.automaton listing.text all here cursor h.rest h.after none) ∙ page_none names left) wrote

  pub page_has_more : (c : Outlet) (r : Result Told Stop) (u : Tuple) → left ≡ 0 → IsFirstMember listing.automaton listing.text cursor u → Wrote r b (last_line true) c → Wrote r a (first_page_text names limit first) c
  page_has_more c r u is f wrote =
      let k = first-after listing.automaton listing.text all here cursor h.rest u h.after f in
      last_of c true r (ap (λ (n : ℕ). first_page_text names n h.rest) is ∙ ap (first_page_text names 0) k.1 ∙ page_full names u k.0) wrote
